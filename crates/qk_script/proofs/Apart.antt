-- A text that is a script has no fault, and a text has one first wrong line.
use Rattle.std.proofs.Common.{◌≡◌, ℕ, suc, List, [], ◌∷◌, ◌++◌, refl, sym, ap, ◌∙◌, subst, length, arith}
use Rattle.qk_meaning.specs.Value.{Text}
use Rattle.qk_meaning.specs.Run.{Line}
use Rattle.qk_script.specs.Script.{IsLine, empty_line, item_line, AreItems, skipped, spelled, TextSpells}
use Rattle.qk_script.specs.Answer.{AreLines, FirstWrong, HasTooMany, IsScript}
use Rattle.qk_script.proofs.OneItems.{one_text}

-- each line of a script is one
line_among : (before : List Text) (line : Text) (after : List Text) (items : List Line) → AreItems (before ++ (line ∷ after)) items → IsLine line
line_among [] line after items (skipped empty rest) = empty_line empty
line_among [] line after (item ∷ items) (spelled spells rest) = item_line item spells
line_among (first ∷ before) line after items (skipped empty rest) = line_among before line after items rest
line_among (first ∷ before) line after (item ∷ items) (spelled spells rest) = line_among before line after items rest

pub not_wrong : (text : Text) (items : List Line) (number : ℕ) → TextSpells text items → ¬ FirstWrong text number
not_wrong text items number spells wrong = wrong.is_wrong (line_among wrong.before wrong.wrong wrong.after items (subst (λ lines. AreItems lines items) wrong.stands spells))

pub not_many : (text : Text) (items : List Line) → IsScript text items → ¬ HasTooMany text
not_many text items script many = omega (arith, script.1, many.many, ap length (one_text text items many.items script.0 many.spelled))

line_same : (a b : Text) (more others : List Text) → a ∷ more ≡ b ∷ others → a ≡ b
line_same a b more others e = cc

rest_same : (a b : Text) (more others : List Text) → a ∷ more ≡ b ∷ others → more ≡ others
rest_same a b more others e = cc

-- the lines before the first wrong one are as many, however it is found
first_ones : (before others : List Text) (wrong other : Text) (after rest : List Text) → AreLines before → AreLines others → ¬ IsLine wrong → ¬ IsLine other → before ++ (wrong ∷ after) ≡ others ++ (other ∷ rest)
    → length before ≡ length others
first_ones [] [] wrong other after rest h k not_wrong not_other e = refl
first_ones [] (line ∷ others) wrong other after rest h k not_wrong not_other e = absurd (not_wrong (subst IsLine (sym (line_same _ _ _ _ e)) k.0))
first_ones (line ∷ before) [] wrong other after rest h k not_wrong not_other e = absurd (not_other (subst IsLine (line_same _ _ _ _ e) h.0))
first_ones (line ∷ before) (same ∷ others) wrong other after rest h k not_wrong not_other e =
    ap suc (first_ones before others wrong other after rest h.1 k.1 not_wrong not_other (rest_same _ _ _ _ e))

pub one_wrong : (text : Text) (m n : ℕ) → FirstWrong text m → FirstWrong text n → m ≡ n
one_wrong text m n a b =
    a.numbered ∙ ap suc (first_ones a.before b.before a.wrong b.wrong a.after b.after a.right b.right a.is_wrong b.is_wrong (sym a.stands ∙ b.stands)) ∙ sym b.numbered
