-- What is read as an escape is one, and where none is read none stands.
use Rattle.std.specs.Prelude.{◌≡◌, refl, ℕ, zero, suc, ◌+◌, ◌-◌, ◌*◌, ◌≤◌, ◌<◌, Bool, true, false, not, ◌&&◌, ◌||◌, if◌then◌else◌, ◌==◌, [], ◌∷◌, ◌++◌, length, Option, Some, None, codes}
use mathlib.Core.Path.{sym, ◌∙◌, ap, subst}
use mathlib.Core.Logic.{◌⊎◌, inl, inr}
use native.Mathlib.Omega.{arith}
use lib.Dec.{eqb-suc-zero}
use lib.Utf8.{scalar, scalar_cases}
use Rattle.std.proofs.lemmas.Bool.{false≢true, cases_lt}
use Rattle.qk_ast.specs.Characters.{Characters, has, every, begins_with, is_front, is_hex_digit, digit_value, number_after}
use Rattle.qk_ast.specs.Tokens.{Piece, Plain, Escaped, Four, Braced, Return, Return_feed, piece_spelling, is_escape}
use Rattle.qk_ast.proofs.FrontToken.{left, right, if_true, if_false}
use Rattle.qk_ast.proofs.Pieces.{heads, tails, nat_is}
use Rattle.qk_lex.specs.Scan.{after_char}
use Rattle.qk_lex.specs.Quotes.{with_digit, after_braced, after_digits, after_unicode, after_escape}
use Rattle.qk_lex.proofs.Choices.{which, either_way, some_same, none_some, some_none, both, same_number, number_same}

-- ---- past the characters' numbers a number stays past them

abbrev pub capped_after : ℕ → Characters → ℕ
capped_after n [] = n
capped_after n (d ∷ ds) = capped_after (with_digit n (digit_value d)) ds

abbrev Alike : ℕ → ℕ → Type 0
Alike m n = (m ≡ n) ⊎ ((1114112 ≤ m) × (1114112 ≤ n))

past_scalar : (n : ℕ) → 1114112 ≤ n → scalar n ≡ false
past_scalar n h = elim (either_way (scalar n)) [
  | inl e ↦ absurd (elim (scalar_cases n e) as (λ _. ⊥) [ inl a ↦ omega (arith, h) | inr b ↦ omega (arith, h) ])
  | inr e ↦ e
]

alike_digit : (m n v : ℕ) → Alike m n → Alike (with_digit m v) (n * 16 + v)
alike_digit m n v h = elim h [
  | inl e ↦ elim (cases_lt n 1114112) [
    | inl a ↦ inl (omega (arith, e, a))
    | inr b ↦ inr (omega (arith, e, b), omega (arith, e, b))
  ]
  | inr b ↦ inr (omega (arith, b), omega (arith, b))
]

alike_scalar : (ds : Characters) (m n : ℕ) → Alike m n → scalar (capped_after m ds) ≡ scalar (number_after 16 n ds)
alike_scalar [] m n h = elim h [ inl e ↦ ap scalar e | inr b ↦ past_scalar m b.0 ∙ sym (past_scalar n b.1) ]
alike_scalar (d ∷ ds) m n h = alike_scalar ds (with_digit m (digit_value d)) (n * 16 + digit_value d) (alike_digit m n (digit_value d) h)

pub same_scalar : (ds : Characters) → scalar (capped_after 0 ds) ≡ scalar (number_after 16 0 ds)
same_scalar ds = alike_scalar ds 0 0 (inl refl)

-- ---- digits

filled : (d : ℕ) (ds : Characters) (some : Bool) → (some || not (length (d ∷ ds) == 0)) ≡ true
filled d ds true = refl
filled d ds false = ap not (eqb-suc-zero (length ds))

abbrev pub InBraces : ℕ → Bool → Characters → Characters → Type 0
InBraces n some text rest = (ds : Characters) × (every is_hex_digit ds ≡ true) × ((some || not (length ds == 0)) ≡ true) × (scalar (capped_after n ds) ≡ true) × (ds ++ 125 ∷ rest ≡ text)

pub braced_found : (text : Characters) (n : ℕ) (some : Bool) (rest : Characters) → after_braced n some text ≡ Some rest → InBraces n some text rest
braced_found [] n some rest h = absurd (none_some h)
braced_found (c ∷ cs) n some rest h = elim (which (is_hex_digit c) (after_braced (with_digit n (digit_value c)) true cs) (if (c == 125) && some && scalar n then Some cs else None) (Some rest) h) [
  | inl x ↦ onward (braced_found cs (with_digit n (digit_value c)) true rest x.1) x.0
  | inr y ↦ elim (which ((c == 125) && some && scalar n) (Some cs) None (Some rest) y.1) [
    | inl z ↦ closed z.0 (some_same z.1)
    | inr z ↦ absurd (none_some z.1)
  ]
]
  where
    onward : InBraces (with_digit n (digit_value c)) true cs rest → is_hex_digit c ≡ true → InBraces n some (c ∷ cs) rest
    onward w k = (c ∷ w.0, both _ _ k w.1, filled c w.0 some, w.3, ap (λ xs. c ∷ xs) w.4)

    or_true : (b : Bool) → b ≡ true → (b || false) ≡ true
    or_true true k = refl
    or_true false k = k

    closed : ((c == 125) && some && scalar n) ≡ true → cs ≡ rest → InBraces n some (c ∷ cs) rest
    closed k e =
        let two = left ((c == 125) && some) (scalar n) k in
        ([], refl, or_true some (right (c == 125) some two), right ((c == 125) && some) (scalar n) k, ap (λ xs. 125 ∷ xs) (sym e) ∙ ap (λ d. d ∷ cs) (sym (same_number c 125 (left (c == 125) some two))))

pub braced_none : (text : Characters) (n : ℕ) (some : Bool) → after_braced n some text ≡ None → (ds next : Characters) → every is_hex_digit ds ≡ true → (some || not (length ds == 0)) ≡ true
    → scalar (capped_after n ds) ≡ true → ds ++ 125 ∷ next ≡ text → ⊥
braced_none [] n some h [] next hex fill fits e = false≢true (ap (λ t. begins_with (λ c. true) t) (sym e))
braced_none [] n some h (d ∷ ds) next hex fill fits e = false≢true (ap (λ t. begins_with (λ c. true) t) (sym e))
braced_none (c ∷ cs) n some h [] next hex fill fits e = some_none (sym (if_true (Some next) None (both some (scalar n) (or_is some fill) fits)) ∙ subst (λ t. after_braced n some t ≡ None) (sym e) h)
  where
    or_is : (b : Bool) → (b || false) ≡ true → b ≡ true
    or_is true k = refl
    or_is false k = k
braced_none (c ∷ cs) n some h (d ∷ ds) next hex fill fits e =
    let k : is_hex_digit c ≡ true = ap is_hex_digit (sym (heads e)) ∙ left (is_hex_digit d) _ hex in
    braced_none cs (with_digit n (digit_value c)) true (sym (if_true _ _ k) ∙ h) ds next (right (is_hex_digit d) _ hex) refl
    (ap (λ x. scalar (capped_after (with_digit n (digit_value x)) ds)) (sym (heads e)) ∙ fits) (tails e)

abbrev pub OfDigits : ℕ → ℕ → Characters → Characters → Type 0
OfDigits k n text rest = (ds : Characters) × (length ds ≡ k) × (every is_hex_digit ds ≡ true) × (scalar (capped_after n ds) ≡ true) × (ds ++ rest ≡ text)

pub digits_found : (k : ℕ) (text : Characters) (n : ℕ) (rest : Characters) → after_digits k n text ≡ Some rest → OfDigits k n text rest
digits_found zero text n rest h = elim (which (scalar n) (Some text) None (Some rest) h) [
  | inl x ↦ ([], refl, refl, x.0, sym (some_same x.1))
  | inr x ↦ absurd (none_some x.1)
]
digits_found (suc k) [] n rest h = absurd (none_some h)
digits_found (suc k) (c ∷ cs) n rest h = elim (which (is_hex_digit c) (after_digits k (with_digit n (digit_value c)) cs) None (Some rest) h) [
  | inl x ↦ onward (digits_found k cs (with_digit n (digit_value c)) rest x.1) x.0
  | inr x ↦ absurd (none_some x.1)
]
  where
    onward : OfDigits k (with_digit n (digit_value c)) cs rest → is_hex_digit c ≡ true → OfDigits (suc k) n (c ∷ cs) rest
    onward w h = (c ∷ w.0, ap suc w.1, both _ _ h w.2, w.3, ap (λ xs. c ∷ xs) w.4)

pub digits_none : (k : ℕ) (text : Characters) (n : ℕ) → after_digits k n text ≡ None → (ds next : Characters) → length ds ≡ k → every is_hex_digit ds ≡ true
    → scalar (capped_after n ds) ≡ true → ds ++ next ≡ text → ⊥
digits_none zero text n h [] next len hex fits e = some_none (sym (if_true _ _ fits) ∙ h)
digits_none zero text n h (d ∷ ds) next len hex fits e = no_length len
  where
    no_length : {m : ℕ} → suc m ≡ zero → ⊥
    no_length l = omega (arith, l)
digits_none (suc k) text n h [] next len hex fits e = no_length len
  where
    no_length : {m : ℕ} → zero ≡ suc m → ⊥
    no_length l = omega (arith, l)
digits_none (suc k) [] n h (d ∷ ds) next len hex fits e = false≢true (ap (λ t. begins_with (λ c. true) t) (sym e))
digits_none (suc k) (c ∷ cs) n h (d ∷ ds) next len hex fits e =
    let p : is_hex_digit c ≡ true = ap is_hex_digit (sym (heads e)) ∙ left (is_hex_digit d) _ hex in
    digits_none k cs (with_digit n (digit_value c)) (sym (if_true _ _ p) ∙ h) ds next (omega (arith, len)) (right (is_hex_digit d) _ hex)
    (ap (λ x. scalar (capped_after (with_digit n (digit_value x)) ds)) (sym (heads e)) ∙ fits) (tails e)

-- ---- escapes

pub char_found : (c : ℕ) (text rest : Characters) → after_char c text ≡ Some rest → text ≡ c ∷ rest
char_found c [] rest h = absurd (none_some h)
char_found c (d ∷ ds) rest h = elim (which (d == c) (Some ds) None (Some rest) h) [
  | inl x ↦ ap (λ e. e ∷ ds) (same_number d c x.0) ∙ ap (λ xs. c ∷ xs) (some_same x.1)
  | inr x ↦ absurd (none_some x.1)
]

pub char_there : (c : ℕ) (rest : Characters) → after_char c (c ∷ rest) ≡ Some rest
char_there c rest = if_true _ _ (number_same c)

pub no_char : (c : ℕ) (text : Characters) → after_char c text ≡ None → is_front (c ∷ []) text ≡ false
no_char c [] h = refl
no_char c (d ∷ ds) h = elim (which (d == c) (Some ds) None None h) [
  | inl x ↦ absurd (some_none x.1)
  | inr x ↦ elim (either_way (c == d)) [
    | inl e ↦ absurd (false≢true (sym x.0 ∙ (ap (λ y. d == y) (same_number c d e) ∙ number_same d)))
    | inr e ↦ ap (λ b. b && true) e
  ]
]

and_true : (b : Bool) → b ≡ true → (b && true) ≡ true
and_true b h = both b true h refl

abbrev pub Escapes : Characters → Characters → Type 0
Escapes text rest = (p : Piece) × (is_escape p ≡ true) × (piece_spelling p rest ≡ 92 ∷ text)

four_found : (text rest : Characters) → after_digits 4 0 text ≡ Some rest → Escapes (117 ∷ text) rest
four_found text rest h =
    let w = digits_found 4 text 0 rest h in
    (Four w.0, both _ _ (both _ _ (ap (λ n. n == 4) w.1) w.2) (and_true _ (sym (same_scalar w.0) ∙ w.3)), ap (λ xs. 92 ∷ 117 ∷ xs) w.4)

braces_found : (text rest : Characters) → after_braced 0 false text ≡ Some rest → Escapes (117 ∷ 123 ∷ text) rest
braces_found text rest h =
    let w = braced_found text 0 false rest h in
    (Braced w.0, both _ _ (both _ _ w.2 w.1) (and_true _ (sym (same_scalar w.0) ∙ w.3)), ap (λ xs. 92 ∷ 117 ∷ 123 ∷ xs) w.4)

unicode_found : (text rest : Characters) (o : Option Characters) → after_char 123 text ≡ o → after_unicode text o ≡ Some rest → Escapes (117 ∷ text) rest
unicode_found text rest None e h = four_found text rest h
unicode_found text rest (Some digits) e h = subst (λ t. Escapes (117 ∷ t) rest) (sym (char_found 123 text digits e)) (braces_found digits rest h)

pub escape_found : (text rest : Characters) → after_escape text ≡ Some rest → Escapes text rest
escape_found [] rest h = absurd (none_some h)
escape_found (c ∷ cs) rest h = elim (which (has c (codes "nrt\\'\"`$")) (Some cs) (if c == 117 then after_unicode cs (after_char 123 cs) else None) (Some rest) h) [
  | inl x ↦ (Escaped c, x.0, ap (λ xs. 92 ∷ c ∷ xs) (sym (some_same x.1)))
  | inr y ↦ elim (which (c == 117) (after_unicode cs (after_char 123 cs)) None (Some rest) y.1) [
    | inl z ↦ subst (λ d. Escapes (d ∷ cs) rest) (sym (same_number c 117 z.0)) (unicode_found cs rest (after_char 123 cs) refl z.1)
    | inr z ↦ absurd (none_some z.1)
  ]
]

four_no_brace : (ds next : Characters) → (length ds == 4) ≡ true → every is_hex_digit ds ≡ true → after_char 123 (ds ++ next) ≡ None
four_no_brace [] next len hex = absurd (false≢true len)
four_no_brace (d ∷ ds) next len hex = elim (either_way (d == 123)) [
  | inl e ↦ absurd (false≢true (ap is_hex_digit (sym (same_number d 123 e)) ∙ left (is_hex_digit d) _ hex))
  | inr e ↦ if_false _ _ e
]

pub escape_none : (text : Characters) → after_escape text ≡ None → (p : Piece) (next : Characters) → is_escape p ≡ true → piece_spelling p next ≡ 92 ∷ text → ⊥
escape_none text h (Plain c) next k e = false≢true k
escape_none text h Return next k e = false≢true k
escape_none text h Return_feed next k e = false≢true k
escape_none text h (Escaped c) next k e = some_none (sym (if_true _ _ k) ∙ subst (λ t. after_escape t ≡ None) (sym (tails e)) h)
escape_none text h (Four ds) next k e =
    let first = left (length ds == 4 && every is_hex_digit ds) _ k in
    let len = left (length ds == 4) (every is_hex_digit ds) first in
    let hex = right (length ds == 4) (every is_hex_digit ds) first in
    let fits = left (scalar (number_after 16 0 ds)) true (right (length ds == 4 && every is_hex_digit ds) _ k) in
    let here : after_unicode (ds ++ next) (after_char 123 (ds ++ next)) ≡ None = subst (λ t. after_escape t ≡ None) (sym (tails e)) h in
    digits_none 4 (ds ++ next) 0 (sym (ap (λ o. after_unicode (ds ++ next) o) (four_no_brace ds next len hex)) ∙ here) ds next (nat_is _ _ len) hex (same_scalar ds ∙ fits) refl
escape_none text h (Braced ds) next k e =
    let first = left (not (length ds == 0) && every is_hex_digit ds) _ k in
    let fits = left (scalar (number_after 16 0 ds)) true (right (not (length ds == 0) && every is_hex_digit ds) _ k) in
    let here : after_braced 0 false (ds ++ 125 ∷ next) ≡ None = subst (λ t. after_escape t ≡ None) (sym (tails e)) h in
    braced_none (ds ++ 125 ∷ next) 0 false here ds next (right (not (length ds == 0)) _ first) (left (not (length ds == 0)) _ first) (same_scalar ds ∙ fits) refl

-- ---- so many digits, counted upwards

fewer : (i : ℕ) → i < 4 → 4 - i ≡ suc (4 - (i + 1))
fewer i h = omega (arith, h)

pub four_end : (i n : ℕ) (cs : Characters) (o : Option Characters) → i < 4 → cs ≡ [] → after_digits (4 - i) n cs ≡ o → None ≡ o
four_end i n cs o h e k = sym (ap (λ m. after_digits m n []) (fewer i h)) ∙ (ap (λ t. after_digits (4 - i) n t) (sym e) ∙ k)

pub four_bad : (i n c : ℕ) (cs more : Characters) (o : Option Characters) → i < 4 → cs ≡ c ∷ more → is_hex_digit c ≡ false → after_digits (4 - i) n cs ≡ o → None ≡ o
four_bad i n c cs more o h e b k = sym (ap (λ m. after_digits m n (c ∷ more)) (fewer i h) ∙ if_false _ _ b) ∙ (ap (λ t. after_digits (4 - i) n t) (sym e) ∙ k)

pub four_more : (i n m c v : ℕ) (cs more : Characters) (o : Option Characters) → i < 4 → cs ≡ c ∷ more → is_hex_digit c ≡ true → v ≡ digit_value c → m ≡ with_digit n v
    → after_digits (4 - i) n cs ≡ o → after_digits (4 - (i + 1)) m more ≡ o
four_more i n m c v cs more o h e b v_is m_is k =
    ap (λ x. after_digits (4 - (i + 1)) x more) (m_is ∙ ap (with_digit n) v_is)
    ∙ (sym (ap (λ x. after_digits x n (c ∷ more)) (fewer i h) ∙ if_true _ _ b) ∙ (ap (λ t. after_digits (4 - i) n t) (sym e) ∙ k))

pub four_done : (i n : ℕ) (cs : Characters) (o : Option Characters) → 4 ≤ i → scalar n ≡ false → after_digits (4 - i) n cs ≡ o → None ≡ o
four_done i n cs o h b k = sym (if_false _ _ b) ∙ (sym (ap (λ m. after_digits m n cs) (none_left i h)) ∙ k)
  where
    none_left : (i : ℕ) → 4 ≤ i → 4 - i ≡ zero
    none_left i h = omega (arith, h)
