-- What the lexer reads in code is the token that stands there, and where it reads none no token stands.
use Rattle.std.specs.Prelude.{◌≡◌, refl, ℕ, ◌+◌, ◌-◌, ◌*◌, ◌≤◌, ◌<◌, min, Bool, true, false, not, ◌&&◌, ◌||◌, if◌then◌else◌, ◌==◌, nat_lt, nat_le, List, [], ◌∷◌, ◌++◌, length, drop, codes, Option, Some, None, IsTrue}
use mathlib.Core.Path.{sym, ◌∙◌, ap, subst}
use mathlib.Core.Logic.{◌⊎◌, inl, inr}
use native.Mathlib.Omega.{arith}
use lib.Dec.{T, ltb→lt, lt→ltb, leb→le, le→leb}
use Rattle.std.proofs.lemmas.Bool.{false≢true, cases_lt}
use Rattle.qk_ast.specs.Characters.{Characters, same, is_one_of, has, every, begins_with, is_front, is_digit, begins_name, continues_name, digit_value, number_after, run, after_run}
use Rattle.qk_ast.specs.Tokens.{Token, Name, Reserved, Int, Text, Attribute, Template, Punct, Begin, JsxText, Edge, Backquote, Hole, Piece, pieces_spelling, are_text_pieces, Around, Braces, In_hole, In_tag, In_end, Children, is_code, in_hole, after_sign, after, spelling, reserved_words, code_signs, begin_signs, longest_after, is_sign, is_code_sign, is_int, ends_word, allows_jsx, is_code_token}
use Rattle.qk_ast.proofs.FrontToken.{left, right, either, is_not, if_true, if_false, same_is, run_found, after_found, one_sign}
use Rattle.qk_ast.proofs.Pieces.{heads, tails}
use Rattle.qk_ast.proofs.OneToken.{Front, number_front, text_front, template_front, hole_front, begin_front, sign_front, front_of, front, rank, code_front, apart, sign_is_sign, no_digits, digit_no_name, a_quote}
use Rattle.qk_ast.proofs.OneTokenList.{code_begins}
use Rattle.qk_lex.specs.declared.Kind.TheVariants as kind
use Rattle.qk_lex.specs.declared.regions.Change.TheVariants as change
use Rattle.qk_lex.specs.Scan.{after_char}
use Rattle.qk_lex.specs.Tables.{sign_at}
use Rattle.qk_lex.specs.Regions.{changed}
use Rattle.qk_lex.specs.Steps.{Next, plain, word_next, greatest, number_at, int_end, int_next, QuotedNext, part_change, PartNext, begin_by, begin_next, opens_comment, code_change, sign_next, sign_or_none, sign_of, code_by, code_sign_next, Begins, CodeSteps}
use Rattle.qk_lex.proofs.Choices.{or_true, or_left, either_false, told, either_way, both, not_true, same_number, number_same, number_differs, run_whole, run_every, run_ends}
use Rattle.qk_lex.proofs.EscapeLemmas.{char_found, no_char}
use Rattle.qk_lex.proofs.TableLemmas.{longest_is_sign, longest_none}

-- a token of another front doesn't stand there
pub wrong : (around : Around) (before : Option Token) (t : Token) (rest text : Characters) (f : Front) → front_of around before text ≡ f → is_code_token around before t rest → spelling t rest ≡ text
    → (rank (front t) == rank f) ≡ false → ⊥
wrong around before t rest text f h k e r = apart (front t) f r (sym (code_front around before t rest k) ∙ (ap (λ x. front_of around before x) e ∙ h))

-- ---- words

word_there : (around : Around) (opens : Bool) (c : ℕ) (more : Characters) → begins_name c ≡ true
    → Begins (is_code_token around) around opens (c ∷ more) (word_next (c ∷ run continues_name more) (after_run continues_name more))
unfolding word_next
word_there around opens c more h = elim (either_way (is_one_of (c ∷ run continues_name more) reserved_words)) [
  | inl r ↦ subst (λ n. Begins (is_code_token around) around opens (c ∷ more) n) (sym (if_true _ _ r)) record {
    token = Reserved (c ∷ run continues_name more);
    spells = ap (λ t. c ∷ t) (run_whole continues_name more);
    stands = λ before k. (r, not_true _ (run_ends continues_name more));
    has_kind = refl;
    has_jsx = refl;
    leads = refl;
    opens_next = refl;
  }
  | inr r ↦ subst (λ n. Begins (is_code_token around) around opens (c ∷ more) n) (sym (if_false _ _ r)) record {
    token = Name (c ∷ run continues_name more);
    spells = ap (λ t. c ∷ t) (run_whole continues_name more);
    stands = λ before k. (both _ _ h (run_every continues_name more), not_true _ r, not_true _ (run_ends continues_name more));
    has_kind = refl;
    has_jsx = refl;
    leads = refl;
    opens_next = refl;
  }
]

pub word_steps : (hole opens : Bool) (text : Characters) (c : ℕ) (more : Characters) (next : Next) → text ≡ c ∷ more → begins_name c ≡ true
    → next ≡ word_next (c ∷ run continues_name more) (after_run continues_name more) → CodeSteps hole opens text (Some next)
word_steps hole opens text c more next e h k = λ around _ _.
    subst (λ n. Begins (is_code_token around) around opens text n) (sym k) (subst (λ t. Begins (is_code_token around) around opens t (word_next (c ∷ run continues_name more) (after_run continues_name more))) (sym e) (word_there around opens c more h))

-- ---- integers

abbrev Alike : ℕ → ℕ → Type 0
Alike m n = (m ≡ n) ⊎ ((9007199254740992 ≤ m) × (9007199254740992 ≤ n))

alike_digit : (m n v : ℕ) → Alike m n → Alike (min m 9007199254740992 * 10 + v) (n * 10 + v)
alike_digit m n v h = elim h [
  | inl e ↦ elim (cases_lt n 9007199254740992) [
    | inl a ↦ inl (omega (arith, e, a))
    | inr b ↦ inr (omega (arith, e, b), omega (arith, e, b))
  ]
  | inr b ↦ inr (omega (arith, b), omega (arith, b))
]

fits_or_not : (m n : ℕ) → Alike m n → nat_le n greatest ≡ not (nat_lt greatest m)
fits_or_not m n h = elim (cases_lt greatest m) [
  | inl l ↦
      let past : greatest < n = elim h as (λ _. greatest < n) [ inl e ↦ omega (arith, e, l) | inr b ↦ omega (arith, b) ] in
      no_less past ∙ sym (ap not (told _ (lt→ltb greatest m l)))
  | inr l ↦
      let within : n ≤ greatest = elim h as (λ _. n ≤ greatest) [ inl e ↦ omega (arith, e, l) | inr b ↦ omega (arith, b, l) ] in
      told _ (le→leb n greatest within) ∙ sym (ap not (no_more l))
]
  where
    no_less : greatest < n → nat_le n greatest ≡ false
    no_less l = elim (either_way (nat_le n greatest)) [
      | inl e ↦ let k : n ≤ greatest = leb→le n greatest (subst T (sym e) tt) in absurd (omega (arith, k, l))
      | inr e ↦ e
    ]

    no_more : m ≤ greatest → nat_lt greatest m ≡ false
    no_more l = elim (either_way (nat_lt greatest m)) [
      | inl e ↦ let k : greatest < m = ltb→lt greatest m (subst T (sym e) tt) in absurd (omega (arith, k, l))
      | inr e ↦ e
    ]

number_alike : (text : Characters) (m n : ℕ) → Alike m n → Alike (number_at m text) (number_after 10 n (run is_digit text))
number_alike [] m n h = h
number_alike (c ∷ cs) m n h = elim (either_way (is_digit c)) [
  | inl d ↦
      let value : digit_value c ≡ c - 48 = if_true _ _ d in
      subst (λ x. Alike x (number_after 10 n (run is_digit (c ∷ cs)))) (sym (if_true (number_at (min m 9007199254740992 * 10 + (c - 48)) cs) m d))
      (subst (λ x. Alike (number_at (min m 9007199254740992 * 10 + (c - 48)) cs) (number_after 10 n x)) (sym (if_true (c ∷ run is_digit cs) [] d))
      (subst (λ v. Alike (number_at (min m 9007199254740992 * 10 + (c - 48)) cs) (number_after 10 (n * 10 + v) (run is_digit cs))) (sym value)
      (number_alike cs (min m 9007199254740992 * 10 + (c - 48)) (n * 10 + (c - 48)) (alike_digit m n (c - 48) h))))
  | inr d ↦
      subst (λ x. Alike x (number_after 10 n (run is_digit (c ∷ cs)))) (sym (if_false (number_at (min m 9007199254740992 * 10 + (c - 48)) cs) m d))
      (subst (λ x. Alike m (number_after 10 n x)) (sym (if_false (c ∷ run is_digit cs) [] d)) h)
]

int_fits : (text : Characters) → nat_le (number_after 10 0 (run is_digit text)) greatest ≡ not (nat_lt greatest (number_at 0 text))
int_fits text = fits_or_not (number_at 0 text) (number_after 10 0 (run is_digit text)) (number_alike text 0 0 (inl refl))

no_run : (p : ℕ → Bool) (text : Characters) → begins_with p text ≡ false → run p text ≡ []
no_run p [] h = refl
no_run p (c ∷ cs) h = if_false _ _ h

some_run : (p : ℕ → Bool) (text : Characters) → begins_with p text ≡ true → (length (run p text) == 0) ≡ false
some_run p [] h = absurd (false≢true h)
some_run p (c ∷ cs) h = ap (λ t. length t == 0) (if_true (c ∷ run p cs) [] h) ∙ elim (either_way (length (c ∷ run p cs) == 0)) [
  | inl e ↦ absurd (no_zero (same_number (length (c ∷ run p cs)) 0 e))
  | inr e ↦ e
]
  where
    no_zero : length (c ∷ run p cs) ≡ 0 → ⊥
    no_zero k = omega (arith, k)

and_left : (a b : Bool) → a ≡ true → (a && b) ≡ false → b ≡ false
and_left true b h k = k
and_left false b h k = absurd (false≢true h)

number_there : (around : Around) (before : Option Token) (c : ℕ) (more : Characters) → is_digit c ≡ true → front_of around before (c ∷ more) ≡ number_front
number_there around before c more h = if_false _ _ (digit_no_name c h) ∙ if_true _ _ h

-- the digits of an Int are the run of digits
int_is_run : (digits next : Characters) (c : ℕ) (more : Characters) → IsTrue (is_int digits) → IsTrue (ends_word next) → digits ++ next ≡ c ∷ more → is_digit c ≡ true
    → (digits ≡ c ∷ run is_digit more) × (next ≡ after_run is_digit more)
int_is_run [] next c more h k e d = absurd (false≢true h)
int_is_run (x ∷ xs) next c more h k e d =
    let all : every is_digit (x ∷ xs) ≡ true = left (is_digit x && every is_digit xs) _ (left (is_digit x && every is_digit xs && (not (x == 48) || (length xs == 0))) _ h) in
    let stop = no_digits next k in (
      sym (run_found is_digit (x ∷ xs) next all stop) ∙ (ap (λ t. run is_digit t) e ∙ if_true _ _ d),
      sym (after_found is_digit (x ∷ xs) next all stop) ∙ (ap (λ t. after_run is_digit t) e ∙ if_true _ _ d),
    )

abbrev NoInt : ℕ → Characters → Type 0
NoInt c more = (digits next : Characters) → IsTrue (is_int digits) → IsTrue (ends_word next) → digits ++ next ≡ c ∷ more → ⊥

no_int : (hole opens : Bool) (c : ℕ) (more : Characters) → is_digit c ≡ true → NoInt c more → CodeSteps hole opens (c ∷ more) None
no_int hole opens c more d none = λ around ic ih before ob t rest may e. go around before t rest may e
  where
    go : (around : Around) (before : Option Token) (t : Token) (rest : Characters) → is_code_token around before t rest → spelling t rest ≡ c ∷ more → ⊥
    go around before (Int digits) rest may e = none digits rest may.0 may.1 e
    go around before (Attribute quote inside) rest may e = may
    go around before (JsxText text) rest may e = may
    go around before (Template Backquote pieces to) rest may e = wrong around before (Template Backquote pieces to) rest (c ∷ more) number_front (number_there around before c more d) may e refl
    go around before (Template Hole pieces to) rest may e = wrong around before (Template Hole pieces to) rest (c ∷ more) number_front (number_there around before c more d) may e refl
    go around before t rest may e = wrong around before t rest (c ∷ more) number_front (number_there around before c more d) may e refl

int_found : (hole opens : Bool) (c : ℕ) (more : Characters) → is_digit c ≡ true → ((c == 48) && begins_with is_digit more) ≡ false → begins_with continues_name (after_run is_digit more) ≡ false
    → nat_lt greatest (number_at 0 (c ∷ more)) ≡ false → CodeSteps hole opens (c ∷ more) (Some (plain kind.Int (after_run is_digit more)))
int_found hole opens c more d zero ends fits = λ around ic ih. record {
  token = Int (c ∷ run is_digit more);
  spells = ap (λ t. c ∷ t) (run_whole is_digit more);
  stands = λ before k. (both _ _ (both _ _ (both _ _ d (run_every is_digit more)) no_zero_first) within, not_true _ ends);
  has_kind = refl;
  has_jsx = refl;
  leads = refl;
  opens_next = refl;
}
  where
    no_zero_first : (not (c == 48) || (length (run is_digit more) == 0)) ≡ true
    no_zero_first = elim (either_way (c == 48)) [
      | inl e ↦ or_true _ _ (ap (λ t. length t == 0) (no_run is_digit more (and_left (c == 48) _ e zero)))
      | inr e ↦ or_left _ _ (not_true _ e)
    ]

    within : nat_le (number_after 10 0 (c ∷ run is_digit more)) 9007199254740991 ≡ true
    within = ap (λ t. nat_le (number_after 10 0 t) greatest) (sym (if_true (c ∷ run is_digit more) [] d)) ∙ (int_fits (c ∷ more) ∙ not_true _ fits)

int_by : (hole opens : Bool) (c : ℕ) (more : Characters) → is_digit c ≡ true → CodeSteps hole opens (c ∷ more) (int_next c (c ∷ more) more)
int_by hole opens c more d = elim (either_way ((c == 48) && begins_with is_digit more)) [
  | inl z ↦ subst (λ n. CodeSteps hole opens (c ∷ more) n) (sym (if_true _ _ z)) (no_int hole opens c more d (leading_zero z))
  | inr z ↦ subst (λ n. CodeSteps hole opens (c ∷ more) n) (sym (if_false None (int_end (c ∷ more) (after_run is_digit more)) z))
      (elim (either_way (begins_with continues_name (after_run is_digit more) || nat_lt greatest (number_at 0 (c ∷ more)))) [
        | inl w ↦ subst (λ n. CodeSteps hole opens (c ∷ more) n) (sym (if_true _ _ w)) (no_int hole opens c more d (elim (either (begins_with continues_name (after_run is_digit more)) _ w) [
          | inl a ↦ goes_on a
          | inr b ↦ too_great b
        ]))
        | inr w ↦
            let two = either_false (begins_with continues_name (after_run is_digit more)) _ w in
            subst (λ n. CodeSteps hole opens (c ∷ more) n) (sym (if_false _ _ w)) (int_found hole opens c more d z two.0 two.1)
      ])
]
  where
    leading_zero : ((c == 48) && begins_with is_digit more) ≡ true → NoInt c more
    leading_zero z digits next h k e =
        let is = int_is_run digits next c more h k e d in
        let i : is_int (c ∷ run is_digit more) ≡ true = subst (λ t. is_int t ≡ true) is.0 h in
        let first : (not (c == 48) || (length (run is_digit more) == 0)) ≡ true = right (is_digit c && every is_digit (run is_digit more)) _
        (left (is_digit c && every is_digit (run is_digit more) && (not (c == 48) || (length (run is_digit more) == 0))) _ i) in
        elim (either (not (c == 48)) _ first) [
          | inl a ↦ false≢true (sym (is_not _ a) ∙ left (c == 48) _ z)
          | inr b ↦ false≢true (sym (some_run is_digit more (right (c == 48) _ z)) ∙ b)
        ]

    goes_on : begins_with continues_name (after_run is_digit more) ≡ true → NoInt c more
    goes_on a digits next h k e = false≢true (sym (is_not _ k) ∙ (ap (λ t. begins_with continues_name t) (int_is_run digits next c more h k e d).1 ∙ a))

    too_great : nat_lt greatest (number_at 0 (c ∷ more)) ≡ true → NoInt c more
    too_great b digits next h k e =
        let is = int_is_run digits next c more h k e d in
        let i : is_int (c ∷ run is_digit more) ≡ true = subst (λ t. is_int t ≡ true) is.0 h in
        let last : nat_le (number_after 10 0 (c ∷ run is_digit more)) greatest ≡ true =
        right (is_digit c && every is_digit (run is_digit more) && (not (c == 48) || (length (run is_digit more) == 0))) _ i in
        false≢true (sym (int_fits (c ∷ more) ∙ ap not b) ∙ (ap (λ t. nat_le (number_after 10 0 t) greatest) (if_true (c ∷ run is_digit more) [] d) ∙ last))

pub int_steps : (hole opens : Bool) (text : Characters) (c : ℕ) (more : Characters) (next : Option Next) → text ≡ c ∷ more → is_digit c ≡ true → next ≡ int_next c text more → CodeSteps hole opens text next
int_steps hole opens text c more next e d k =
    subst (λ n. CodeSteps hole opens text n) (sym k) (subst (λ t. CodeSteps hole opens t (int_next c t more)) (sym e) (int_by hole opens c more d))

-- ---- texts

text_there : (around : Around) (before : Option Token) (c : ℕ) (more : Characters) → has c (codes "'\"") ≡ true → front_of around before (c ∷ more) ≡ text_front
text_there around before c more h = a_quote (λ q. front_of around before (q ∷ more) ≡ text_front) c h refl refl

quoted_by : (hole opens : Bool) (q : ℕ) (more : Characters) → has q (codes "'\"") ≡ true → (next : Option Next) → QuotedNext q more next → CodeSteps hole opens (q ∷ more) next
quoted_by hole opens q more h None none = λ around ic ih before ob t rest may e. go around before t rest may e
  where
    go : (around : Around) (before : Option Token) (t : Token) (rest : Characters) → is_code_token around before t rest → spelling t rest ≡ q ∷ more → ⊥
    go around before (Text r pieces) rest may e =
        let same_quote : r ≡ q = heads e in
        none pieces rest (subst (λ x. are_text_pieces x pieces ≡ true) same_quote may.1) (subst (λ x. pieces_spelling pieces (x ∷ rest) ≡ more) same_quote (tails e))
    go around before (Attribute quote inside) rest may e = may
    go around before (JsxText text) rest may e = may
    go around before (Template Backquote pieces to) rest may e = wrong around before (Template Backquote pieces to) rest (q ∷ more) text_front (text_there around before q more h) may e refl
    go around before (Template Hole pieces to) rest may e = wrong around before (Template Hole pieces to) rest (q ∷ more) text_front (text_there around before q more h) may e refl
    go around before t rest may e = wrong around before t rest (q ∷ more) text_front (text_there around before q more h) may e refl
quoted_by hole opens q more h (Some next) found = λ around ic ih. record {
  token = Text q found.0.0;
  spells = ap (λ t. q ∷ t) found.0.2;
  stands = λ before k. (h, found.0.1);
  has_kind = sym (ap (λ n. n.kind) found.1);
  has_jsx = sym (ap (λ n. n.jsx) found.1);
  leads = sym (ap (λ n. changed n.change around) found.1);
  opens_next = sym (ap (λ n. n.opens) found.1);
}

pub quoted_steps : (hole opens : Bool) (text : Characters) (q : ℕ) (more : Characters) (next : Option Next) → text ≡ q ∷ more → has q (codes "'\"") ≡ true → QuotedNext q more next → CodeSteps hole opens text next
quoted_steps hole opens text q more next e h k = subst (λ t. CodeSteps hole opens t next) (sym e) (quoted_by hole opens q more h next k)

-- ---- templates

part_leads : (around : Around) (from : Edge) (pieces : List Piece) (to : Edge) → after around (Template from pieces to) ≡ changed (part_change from to) around
part_leads around Backquote pieces Backquote = refl
part_leads around Backquote pieces Hole = refl
part_leads around Hole pieces Backquote = refl
part_leads around Hole pieces Hole = refl

hole_there : (around : Around) (before : Option Token) (more : Characters) → in_hole around ≡ true → front_of around before (125 ∷ more) ≡ hole_front
hole_there around before more h = if_true _ _ h

template_by : (hole opens : Bool) (more : Characters) (next : Option Next) → PartNext Backquote more next → CodeSteps hole opens (96 ∷ more) next
template_by hole opens more None none = λ around ic ih before ob t rest may e. go around before t rest may e
  where
    go : (around : Around) (before : Option Token) (t : Token) (rest : Characters) → is_code_token around before t rest → spelling t rest ≡ 96 ∷ more → ⊥
    go around before (Template Backquote pieces to) rest may e = none pieces to rest may (tails e)
    go around before (Template Hole pieces to) rest may e = wrong around before (Template Hole pieces to) rest (96 ∷ more) template_front refl may e refl
    go around before (Attribute quote inside) rest may e = may
    go around before (JsxText text) rest may e = may
    go around before t rest may e = wrong around before t rest (96 ∷ more) template_front refl may e refl
template_by hole opens more (Some next) found = λ around ic ih. record {
  token = Template Backquote found.1.0 found.0;
  spells = ap (λ t. 96 ∷ t) found.1.2;
  stands = λ before k. found.1.1;
  has_kind = sym (ap (λ n. n.kind) found.2);
  has_jsx = sym (ap (λ n. n.jsx) found.2);
  leads = part_leads around Backquote found.1.0 found.0 ∙ sym (ap (λ n. changed n.change around) found.2);
  opens_next = sym (ap (λ n. n.opens) found.2);
}

hole_by : (opens : Bool) (more : Characters) (next : Option Next) → PartNext Hole more next → CodeSteps true opens (125 ∷ more) next
hole_by opens more None none = λ around ic ih before ob t rest may e. go around before t rest ih may e
  where
    go : (around : Around) (before : Option Token) (t : Token) (rest : Characters) → in_hole around ≡ true → is_code_token around before t rest → spelling t rest ≡ 125 ∷ more → ⊥
    go around before (Template Backquote pieces to) rest ih may e = wrong around before (Template Backquote pieces to) rest (125 ∷ more) hole_front (hole_there around before more ih) may e refl
    go around before (Template Hole pieces to) rest ih may e = none pieces to rest may.1 (tails e)
    go around before (Attribute quote inside) rest ih may e = may
    go around before (JsxText text) rest ih may e = may
    go around before t rest ih may e = wrong around before t rest (125 ∷ more) hole_front (hole_there around before more ih) may e refl
hole_by opens more (Some next) found = λ around ic ih. record {
  token = Template Hole found.1.0 found.0;
  spells = ap (λ t. 125 ∷ t) found.1.2;
  stands = λ before k. (ih, found.1.1);
  has_kind = sym (ap (λ n. n.kind) found.2);
  has_jsx = sym (ap (λ n. n.jsx) found.2);
  leads = part_leads around Hole found.1.0 found.0 ∙ sym (ap (λ n. changed n.change around) found.2);
  opens_next = sym (ap (λ n. n.opens) found.2);
}

pub template_steps : (hole opens : Bool) (text : Characters) (c : ℕ) (more : Characters) (next : Option Next) → text ≡ c ∷ more → c ≡ 96 → PartNext Backquote more next → CodeSteps hole opens text next
template_steps hole opens text c more next e h k = subst (λ t. CodeSteps hole opens t next) (sym (e ∙ ap (λ d. d ∷ more) h)) (template_by hole opens more next k)

pub hole_steps : (hole opens : Bool) (text : Characters) (c : ℕ) (more : Characters) (next : Option Next) → text ≡ c ∷ more → ((c == 125) && hole) ≡ true → PartNext Hole more next → CodeSteps hole opens text next
hole_steps hole opens text c more next e h k =
    subst (λ t. CodeSteps hole opens t next) (sym (e ∙ ap (λ d. d ∷ more) (same_number c 125 (left (c == 125) hole h))))
    (subst (λ b. CodeSteps b opens (125 ∷ more) next) (sym (right (c == 125) hole h)) (hole_by opens more next k))

-- ---- the `<` or `<>` that begins JSX

-- the sign, and what follows it
abbrev pub BeginsBy : Characters → Next → Type 0
BeginsBy more next = (sign : Characters) × (sign ++ next.rest ≡ 60 ∷ more) × (is_sign begin_signs sign next.rest ≡ true) × (kind.Punct ≡ next.kind)
    × ((around : Around) → after around (Begin sign) ≡ changed next.change around) × (false ≡ next.opens)
    × ((sign ≡ codes "<") × (next.rest ≡ more) ⊎ (sign ≡ codes "<>")) × (true ≡ next.jsx)

begins_by : (more : Characters) (o : Option Characters) → after_char 62 more ≡ o → BeginsBy more (begin_by more o)
begins_by more None h = (codes "<", refl, alone, refl, (λ around. refl), refl, inl (refl, refl), refl)
  where
    alone : is_sign begin_signs (codes "<") more ≡ true
    alone = ap (λ b. same (if b && nat_lt 1 2 then codes "<>" else codes "<") (codes "<")) (no_char 62 more h)
begins_by more (Some rest) h = (codes "<>", ap (λ t. 60 ∷ t) (sym (char_found 62 more rest h)), refl, refl, (λ around. refl), refl, inr refl, refl)

pub begins_as : (more : Characters) → BeginsBy more (begin_next more)
begins_as more = begins_by more (after_char 62 more) refl

pub begin_steps : (hole opens : Bool) (text : Characters) (c : ℕ) (more : Characters) (next : Next) → text ≡ c ∷ more → ((c == 60) && opens) ≡ true → next ≡ begin_next more → CodeSteps hole opens text (Some next)
begin_steps hole opens text c more next e h k = λ around ic ih.
    let b = begins_as more in
    subst (λ n. Begins (is_code_token around) around opens text n) (sym k) record {
      token = Begin b.0;
      spells = b.1 ∙ sym (e ∙ ap (λ d. d ∷ more) (same_number c 60 (left (c == 60) opens h)));
      stands = λ before o. (o ∙ right (c == 60) opens h, b.2);
      has_kind = b.3;
      has_jsx = b.7;
      leads = b.4 around;
      opens_next = b.5;
    }

-- ---- the punctuators

-- no word, number, text, template or JSX begins there
abbrev pub OnlySigns : Bool → Bool → Characters → Type 0
OnlySigns hole opens text = (around : Around) → in_hole around ≡ hole → (before : Option Token) → allows_jsx before ≡ opens → front_of around before text ≡ sign_front

pub only_signs : (hole opens : Bool) (text : Characters) (c : ℕ) (more : Characters) → text ≡ c ∷ more → begins_name c ≡ false → is_digit c ≡ false → has c (codes "'\"") ≡ false → (c ≡ 96 → ⊥)
    → ((c == 125) && hole) ≡ false → ((c == 60) && opens) ≡ false → OnlySigns hole opens text
only_signs hole opens text c more e a b d f g h = λ around ih before ob.
    ap (λ t. front_of around before t) e ∙ (if_false _ _ a ∙ (if_false _ _ b ∙ (if_false _ _ d ∙ (if_false _ _ (number_differs c 96 f)
    ∙ (if_false _ _ (ap (λ x. (c == 125) && x) ih ∙ g) ∙ if_false _ _ (ap (λ x. (c == 60) && x) ob ∙ h))))))

-- a punctuator of code that may be a comment or JSX
no_empty_sign : (sign : Characters) → is_one_of sign code_signs ≡ true → sign ≡ [] → ⊥
no_empty_sign sign h e = false≢true (ap (λ s. is_one_of s code_signs) (sym e) ∙ h)

-- a text at which only signs stand, and none that is let stand
pub signs_stop : (hole opens : Bool) (text : Characters) → OnlySigns hole opens text
    → ((before : Option Token) → allows_jsx before ≡ opens → (sign rest : Characters) → is_code_sign before sign rest ≡ true → sign ++ rest ≡ text → ⊥) → CodeSteps hole opens text None
signs_stop hole opens text only none = λ around ic ih before ob t rest may e. go around before t rest (only around ih before ob) ob may e
  where
    go : (around : Around) (before : Option Token) (t : Token) (rest : Characters) → front_of around before text ≡ sign_front → allows_jsx before ≡ opens → is_code_token around before t rest
        → spelling t rest ≡ text → ⊥
    go around before (Punct sign) rest f ob may e = none before ob sign rest may.1 e
    go around before (Attribute quote inside) rest f ob may e = may
    go around before (JsxText text) rest f ob may e = may
    go around before (Template Backquote pieces to) rest f ob may e = wrong around before (Template Backquote pieces to) rest text sign_front f may e refl
    go around before (Template Hole pieces to) rest f ob may e = wrong around before (Template Hole pieces to) rest text sign_front f may e refl
    go around before t rest f ob may e = wrong around before t rest text sign_front f may e refl

begins_front : (k : ℕ) (text : Characters) → begins_with (λ c. c == k) text ≡ is_front (k ∷ []) text
begins_front k [] = refl
begins_front k (c ∷ cs) = elim (either_way (c == k)) [
  | inl e ↦ e ∙ sym (ap (λ b. b && true) (ap (λ x. k == x) (same_number c k e) ∙ number_same k))
  | inr e ↦ e ∙ sym (ap (λ b. b && true) (number_differs k c (λ q. false≢true (sym e ∙ (ap (λ x. x == k) (sym q) ∙ number_same k)))))
]

comment_is : (rest : Characters) → opens_comment rest ≡ (is_front (codes "/") rest || is_front (codes "*") rest)
comment_is rest = ap (λ b. b || begins_with (λ c. c == 42) rest) (begins_front 47 rest) ∙ ap (λ b. is_front (codes "/") rest || b) (begins_front 42 rest)

code_leads : (around : Around) (sign : Characters) → is_code around ≡ true → (same sign (codes "}") && in_hole around) ≡ false → after_sign around sign ≡ changed (code_change sign) around
code_leads [] sign ic h = elim (either_way (same sign (codes "{"))) [
  | inl a ↦ if_true _ _ a ∙ sym (ap (λ x. changed x []) (if_true _ _ a))
  | inr a ↦ if_false _ _ a ∙ sym (ap (λ x. changed x []) (if_false _ _ a) ∙ stays (same sign (codes "}")))
]
  where
    stays : (b : Bool) → changed (if b then change.Leave else change.Stay) [] ≡ []
    stays true = refl
    stays false = refl
code_leads (Braces ∷ around) sign ic h = elim (either_way (same sign (codes "{"))) [
  | inl a ↦ if_false _ _ (not_closing a) ∙ (if_true _ _ a ∙ sym (ap (λ x. changed x (Braces ∷ around)) (if_true _ _ a)))
  | inr a ↦ elim (either_way (same sign (codes "}"))) [
    | inl b ↦ if_true _ _ b ∙ sym (ap (λ x. changed x (Braces ∷ around)) (if_false _ _ a ∙ if_true _ _ b))
    | inr b ↦ if_false _ _ b ∙ (if_false _ _ a ∙ sym (ap (λ x. changed x (Braces ∷ around)) (if_false _ _ a ∙ if_false _ _ b)))
  ]
]
  where
    not_closing : same sign (codes "{") ≡ true → same sign (codes "}") ≡ false
    not_closing a = ap (λ s. same s (codes "}")) (same_is sign (codes "{") a)
code_leads (In_hole ∷ around) sign ic h = elim (either_way (same sign (codes "{"))) [
  | inl a ↦ if_true _ _ a ∙ sym (ap (λ x. changed x (In_hole ∷ around)) (if_true _ _ a))
  | inr a ↦ elim (either_way (same sign (codes "}"))) [
    | inl b ↦ absurd (false≢true (sym h ∙ ap (λ x. x && true) b))
    | inr b ↦ if_false _ _ a ∙ sym (ap (λ x. changed x (In_hole ∷ around)) (if_false _ _ a ∙ if_false _ _ b))
  ]
]
code_leads (In_tag ∷ around) sign ic h = absurd (false≢true ic)
code_leads (In_end ∷ around) sign ic h = absurd (false≢true ic)
code_leads (Children ∷ around) sign ic h = absurd (false≢true ic)

-- what stands before the rest decides what the sign may be
no_closing : (around : Around) (before : Option Token) (sign rest text : Characters) → front_of around before text ≡ sign_front → sign ++ rest ≡ text → (same sign (codes "}") && in_hole around) ≡ false
no_closing around before sign rest text f e = elim (either_way (same sign (codes "}") && in_hole around)) [
  | inl h ↦
      let text_is : 125 ∷ rest ≡ text = ap (λ s. s ++ rest) (sym (same_is sign (codes "}") (left (same sign (codes "}")) _ h))) ∙ e in
      absurd (apart hole_front sign_front refl (sym (hole_there around before rest (right (same sign (codes "}")) _ h)) ∙ (ap (λ t. front_of around before t) text_is ∙ f)))
  | inr h ↦ h
]

no_jsx : (around : Around) (before : Option Token) (sign rest text : Characters) → front_of around before text ≡ sign_front → sign ++ rest ≡ text → (is_front (codes "<") sign && allows_jsx before) ≡ false
no_jsx around before [] rest text f e = refl
no_jsx around before (c ∷ cs) rest text f e = elim (either_way ((60 == c) && true && allows_jsx before)) [
  | inl h ↦
      let is : 60 ≡ c = same_number 60 c (left (60 == c) true (left ((60 == c) && true) _ h)) in
      let text_is : 60 ∷ (cs ++ rest) ≡ text = ap (λ d. d ∷ (cs ++ rest)) is ∙ e in
      absurd (apart begin_front sign_front refl (sym (if_true _ _ (right ((60 == c) && true) _ h)) ∙ (ap (λ t. front_of around before t) text_is ∙ f)))
  | inr h ↦ h
]

abbrev longest_code : Characters → Characters
longest_code text = longest_after [] code_signs text

abbrev rest_code : Characters → Characters
rest_code text = drop (length (longest_after [] code_signs text)) text

abbrev a_token : Bool → Option Token
a_token true = Some (Punct (codes "("))
a_token false = None

a_token_allows : (b : Bool) → allows_jsx (a_token b) ≡ b
a_token_allows true = refl
a_token_allows false = refl

sign_found : (hole opens : Bool) (text : Characters) → OnlySigns hole opens text → (length (longest_code text) == 0) ≡ false → (same (longest_code text) (codes "/") && opens_comment (rest_code text)) ≡ false
    → CodeSteps hole opens text (Some (sign_next (longest_code text) (rest_code text) (code_change (longest_code text))))
sign_found hole opens text only z w = λ around ic ih.
    let is = longest_is_sign code_signs text z in
    let closing_not : (before : Option Token) → allows_jsx before ≡ opens → (same (longest_code text) (codes "}") && in_hole around) ≡ false =
    λ before ob. no_closing around before (longest_code text) (rest_code text) text (only around ih before ob) is.1 in
    record {
      token = Punct (longest_code text);
      spells = is.1;
      stands = λ before ob. (
        not_true _ (closing_not before ob),
        both _ _ (both _ _ is.0 (not_true _ (ap (λ b. same (longest_code text) (codes "/") && b) (sym (comment_is (rest_code text))) ∙ w)))
            (not_true _ (no_jsx around before (longest_code text) (rest_code text) text (only around ih before ob) is.1)),
      );
      has_kind = refl;
      has_jsx = refl;
      leads = code_leads around (longest_code text) ic (not_closing_any around ih only is.1);
      opens_next = refl;
    }
  where
    not_closing_any : (around : Around) → in_hole around ≡ hole → OnlySigns hole opens text → longest_code text ++ rest_code text ≡ text → (same (longest_code text) (codes "}") && in_hole around) ≡ false
    not_closing_any around ih only e = no_closing around (a_token opens) (longest_code text) (rest_code text) text (only around ih (a_token opens) (a_token_allows opens)) e

comment_stops : (hole opens : Bool) (text : Characters) → OnlySigns hole opens text → (length (longest_code text) == 0) ≡ false → (same (longest_code text) (codes "/") && opens_comment (rest_code text)) ≡ true
    → CodeSteps hole opens text None
comment_stops hole opens text only z w = signs_stop hole opens text only (λ before ob sign rest is e.
    let here = longest_is_sign code_signs text z in
    let one = one_sign code_signs sign (longest_code text) rest (rest_code text) (sign_is_sign before sign rest is) here.0 (e ∙ sym here.1) in
    let no_comment = is_not _ (right (is_sign code_signs sign rest) _ (left (is_sign code_signs sign rest && not (same sign (codes "/") && (is_front (codes "/") rest || is_front (codes "*") rest))) _ is)) in
    false≢true (sym no_comment ∙ (ap (λ s. same s (codes "/") && (is_front (codes "/") rest || is_front (codes "*") rest)) one.0
    ∙ (ap (λ r. same (longest_code text) (codes "/") && (is_front (codes "/") r || is_front (codes "*") r)) one.1
    ∙ (ap (λ b. same (longest_code text) (codes "/") && b) (sym (comment_is (rest_code text))) ∙ w)))))

code_sign_by : (hole opens : Bool) (text : Characters) → OnlySigns hole opens text → CodeSteps hole opens text (code_by (sign_or_none (longest_code text) text))
code_sign_by hole opens text only = elim (either_way (length (longest_code text) == 0)) [
  | inl z ↦ subst (λ o. CodeSteps hole opens text (code_by o)) (sym (if_true _ _ z))
      (signs_stop hole opens text only (λ before ob sign rest is e.
      no_empty_sign sign (left (is_one_of sign code_signs) _ (sign_is_sign before sign rest is)) (longest_none code_signs text z sign rest (sign_is_sign before sign rest is) e)))
  | inr z ↦ subst (λ o. CodeSteps hole opens text (code_by o)) (sym (if_false _ _ z)) (elim (either_way (same (longest_code text) (codes "/") && opens_comment (rest_code text))) [
    | inl w ↦ subst (λ n. CodeSteps hole opens text n) (sym (if_true _ _ w)) (comment_stops hole opens text only z w)
    | inr w ↦ subst (λ n. CodeSteps hole opens text n) (sym (if_false _ _ w)) (sign_found hole opens text only z w)
  ])
]

pub code_sign_steps : (hole opens : Bool) (text : Characters) (next : Option Next) → OnlySigns hole opens text → next ≡ code_sign_next text → CodeSteps hole opens text next
unfolding sign_of sign_at
code_sign_steps hole opens text next only k = subst (λ n. CodeSteps hole opens text n) (sym k) (code_sign_by hole opens text only)

-- ---- the empty text

pub code_empty : (hole opens : Bool) (text : Characters) → text ≡ [] → CodeSteps hole opens text None
code_empty hole opens text e = subst (λ t. CodeSteps hole opens t None) (sym e) (λ around ic ih before ob t rest may k. (code_begins around before t rest may).1 k)
