-- Reading a script from its front.
use Rattle.std.proofs.Common.{◌≡◌, ℕ, suc, ◌+◌, ◌<◌, ◌≤◌, List, [], ◌∷◌, ◌++◌, refl, ap, sym, ◌∙◌, subst, length, arith, append_assoc, append-nil}
use Rattle.qk_meaning.specs.Value.{Text}
use Rattle.qk_meaning.specs.Run.{Line}
use Rattle.qk_script.specs.Script.{lines_of, content, IsLine, empty_line, item_line, AreItems, no_lines, skipped, spelled, TextSpells, spelling, IsItem}
use Rattle.qk_script.specs.Adding.{Adds}
use Rattle.qk_script.specs.Answer.{AreLines, FirstWrong}

-- the lines so far spell these items, and this is left of the text
pub record IsRead (text : Text) (number : ℕ) (items : List Line) (rest : Text) : Type 0 where
  pub lines : List Text
  pub stands : lines_of text ≡ lines ++ lines_of rest
  pub numbered : number ≡ length lines
  pub right : AreLines lines
  pub spell : AreItems lines items
  -- so the number of lines is within the text
  pub within : number + length rest ≤ length text

pub read_none : (text : Text) → IsRead text 0 [] text
read_none text = record { lines = []; stands = refl; numbered = refl; right = tt; spell = no_lines; within = omega (arith) }

items_behind : (lines more : List Text) (items others : List Line) → AreItems lines items → AreItems more others → AreItems (lines ++ more) (items ++ others)
items_behind [] more [] others no_lines h = h
items_behind [] more (item ∷ items) others x4 h = elim x4 [ ]
items_behind (line ∷ lines) more items others (skipped empty rest) h = skipped empty (items_behind lines more items others rest h)
items_behind (line ∷ lines) more (item ∷ items) others (spelled spells rest) h = spelled spells (items_behind lines more items others rest h)

lines_behind : (lines : List Text) (line : Text) → AreLines lines → IsLine line → AreLines (lines ++ (line ∷ []))
lines_behind [] line h is = (is, tt)
lines_behind (l ∷ lines) line h is = (h.0, lines_behind lines line h.1 is)

is_line : (line : Text) (items : List Line) → AreItems (line ∷ []) items → IsLine line
is_line line items (skipped empty rest) = empty_line empty
is_line line (item ∷ items) (spelled spells rest) = item_line item spells

one_longer : (lines : List Text) (line : Text) → length (lines ++ (line ∷ [])) ≡ length lines + 1
one_longer [] line = refl
one_longer (l ∷ lines) line = ap suc (one_longer lines line) ∙ one_more (length lines)
  where
    one_more : (n : ℕ) → suc (n + 1) ≡ suc n + 1
    one_more n = omega (arith)

pub read_more : (text rest line after : Text) (number : ℕ) (items next : List Line) → IsRead text number items rest → lines_of rest ≡ line ∷ lines_of after → length after < length rest → Adds line items next
    → IsRead text (number + 1) next after
read_more text rest line after number items next read cut shorter adds = record {
  lines = read.lines ++ (line ∷ []);
  stands = read.stands ∙ ap (λ ls. read.lines ++ ls) cut ∙ sym (append_assoc read.lines (line ∷ []) (lines_of after));
  numbered = ap (λ n. n + 1) read.numbered ∙ sym (one_longer read.lines line);
  right = lines_behind read.lines line read.right (is_line line adds.0 adds.2);
  spell = subst (AreItems (read.lines ++ (line ∷ []))) (sym adds.1) (items_behind read.lines (line ∷ []) items adds.0 read.spell adds.2);
  within = omega (arith, read.within, shorter);
}

-- a line that is none
pub read_wrong : (text rest line after : Text) (number : ℕ) (items : List Line) → IsRead text number items rest → lines_of rest ≡ line ∷ lines_of after → ¬ IsLine line → FirstWrong text (number + 1)
read_wrong text rest line after number items read cut wrong = record {
  before = read.lines;
  wrong = line;
  after = lines_of after;
  stands = read.stands ∙ ap (λ ls. read.lines ++ ls) cut;
  numbered = omega (arith, read.numbered);
  right = read.right;
  is_wrong = wrong;
}

pub read_all : (text : Text) (number : ℕ) (items : List Line) → IsRead text number items [] → TextSpells text items
read_all text number items read = subst (λ ls. AreItems ls items) (sym (read.stands ∙ append-nil read.lines)) read.spell

-- a line whose content is an item or not
pub adds_none : (line : Text) (items : List Line) → content line ≡ [] → Adds line items items
adds_none line items empty = ([], sym (append-nil items), skipped empty no_lines)

pub adds_one : (line : Text) (item : Line) (items next : List Line) → IsItem item → content line ≡ spelling item → next ≡ items ++ (item ∷ []) → Adds line items next
adds_one line item items next is spells e = (item ∷ [], e, spelled (is, spells) no_lines)

pub no_line : (line : Text) → 0 < length (content line) → ((item : Line) → IsItem item → ¬ (content line ≡ spelling item)) → ¬ IsLine line
no_line line some none (empty_line e) = omega (arith, ap length e, some)
no_line line some none (item_line item spells) = none item spells.0 spells.1
