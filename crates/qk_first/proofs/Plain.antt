-- Letters, digits and `-` are written as they stand, and a number has few digits.
use Rattle.std.specs.Prelude.{◌≡◌, refl, ℕ, zero, suc, ◌+◌, ◌≤◌, ◌<◌, ◌/◌, ◌%◌, ℤ, pos, negsuc, ltb, ◌==◌, Bool, true, false, ◌&&◌, ◌||◌, not, nat_le, [], ◌∷◌, ◌++◌, length, IsTrue}
use Rattle.std.proofs.Common.{ap, ◌∙◌, arith}
use mathlib.Core.Path.{sym, subst}
use lib.Dec.{eqb→eq, eqb, leb, T}
use Rattle.std.proofs.lemmas.Bool.{le-leb, false≢true, ltb-true}
use Rattle.qk_ast.specs.Characters.{every, is_within, is_small_letter}
use Rattle.qk_meaning.specs.Value.{Text}
use Rattle.qk_ast.specs.Texts.{digits_before}
use Rattle.qk_meaning.specs.Texts.{integer_text}
use Rattle.qk_meaning.specs.Html.{written, text_char, attribute_char}
use Rattle.qk_meaning.specs.Output.{printed_char}
use Rattle.qk_first.proofs.Texts.{left, right, both, denied}

abbrev pub is_plain : ℕ → Bool
is_plain c = is_within 45 57 c || is_small_letter c

pub plain_letters : (a : Text) → IsTrue (every is_small_letter a) → every is_plain a ≡ true
plain_letters [] h = refl
plain_letters (c ∷ cs) h = both (is_plain c) (every is_plain cs) (go (is_within 45 57 c) (left (is_small_letter c) (every is_small_letter cs) h)) (plain_letters cs (right (is_small_letter c) (every is_small_letter cs) h))
  where
    go : (b : Bool) → is_small_letter c ≡ true → (b || is_small_letter c) ≡ true
    go true k = refl
    go false k = k

-- ---- the digits of a number

digit_plain : (d : ℕ) → d < 10 → is_plain (48 + d) ≡ true
digit_plain d h = ap (λ b. b || is_small_letter (48 + d)) (both (nat_le 45 (48 + d)) (nat_le (48 + d) 57) (le-leb 45 (48 + d) (omega arith)) (le-leb (48 + d) 57 (omega arith)))

digits_plain : (most n : ℕ) (after : Text) → every is_plain after ≡ true → every is_plain (digits_before most n after) ≡ true
digits_plain zero n after h = h
digits_plain (suc most) n after h = go (ltb n 10) refl (digits_plain most (n / 10) ((48 + n % 10) ∷ after) (both (is_plain (48 + n % 10)) (every is_plain after) (digit_plain (n % 10) (omega arith)) h))
  where
    go : (b : Bool) → ltb n 10 ≡ b → every is_plain (digits_before most (n / 10) ((48 + n % 10) ∷ after)) ≡ true → every is_plain (digits_before (suc most) n after) ≡ true
    go true e k = rw (e, digits_before) (both (is_plain (48 + n)) (every is_plain after) (digit_plain n (ltb-true n 10 e)) h)
    go false e k = rw (e, digits_before) k

digits_short : (most n : ℕ) (after : Text) → length (digits_before most n after) ≤ most + length after
digits_short zero n after = omega arith
digits_short (suc most) n after = go (ltb n 10) refl (digits_short most (n / 10) ((48 + n % 10) ∷ after))
  where
    go : (b : Bool) → ltb n 10 ≡ b → length (digits_before most (n / 10) ((48 + n % 10) ∷ after)) ≤ most + suc (length after) → length (digits_before (suc most) n after) ≤ suc most + length after
    go true e k = rw (e, digits_before) (omega arith)
    go false e k = rw (e, digits_before) (omega (arith, k))

pub number_plain : (v : ℤ) → every is_plain (integer_text v) ≡ true
number_plain (pos n) = digits_plain 64 n [] refl
number_plain (negsuc n) = digits_plain 64 (suc n) [] refl

pub number_short : (v : ℤ) → length (integer_text v) ≤ 65
number_short (pos n) = omega (arith, digits_short 64 n [])
number_short (negsuc n) = omega (arith, digits_short 64 (suc n) [])

-- ---- what is written as it stands

plain_ne : (c x : ℕ) → is_plain c ≡ true → is_plain x ≡ false → (c == x) ≡ false
plain_ne c x h k = go (eqb c x) refl
  where
    go : (b : Bool) → eqb c x ≡ b → eqb c x ≡ false
    go true e = absurd (false≢true (sym k ∙ ap is_plain (sym (eqb→eq c x (subst T (sym e) tt))) ∙ h))
    go false e = e

text_plain : (c : ℕ) → is_plain c ≡ true → text_char c ≡ c ∷ []
text_plain c h = rw (plain_ne c 38 h refl, text_char) (rw (plain_ne c 60 h refl, plain_ne c 62 h refl))

written_is : (one : ℕ → Text) (passes : ℕ → Bool) → ((c : ℕ) → passes c ≡ true → one c ≡ c ∷ []) → (t : Text) → every passes t ≡ true → written one t ≡ t
written_is one passes e [] h = refl
written_is one passes e (c ∷ cs) h = ap (λ (w : Text). w ++ written one cs) (e c (left (passes c) (every passes cs) h)) ∙ ap (λ (w : Text). c ∷ w) (written_is one passes e cs (right (passes c) (every passes cs) h))

pub written_text : (t : Text) → every is_plain t ≡ true → written text_char t ≡ t
written_text t h = written_is text_char is_plain text_plain t h

attribute_plain : (c : ℕ) → is_plain c ≡ true → attribute_char c ≡ c ∷ []
attribute_plain c h = rw (plain_ne c 34 h refl, attribute_char) (text_plain c h)

pub written_attribute : (t : Text) → every is_plain t ≡ true → written attribute_char t ≡ t
written_attribute t h = written_is attribute_char is_plain attribute_plain t h

-- ---- what is printed as it stands: all but `\`, a line feed and a carriage return

abbrev pub is_printed : ℕ → Bool
is_printed c = not (c == 92) && (not (c == 10) && not (c == 13))

pub printed_plain : (t : Text) → every is_plain t ≡ true → every is_printed t ≡ true
printed_plain [] h = refl
printed_plain (c ∷ cs) h =
    let k = left (is_plain c) (every is_plain cs) h in
    both (is_printed c) (every is_printed cs)
    (rw (plain_ne c 92 k refl, plain_ne c 10 k refl, plain_ne c 13 k refl))
    (printed_plain cs (right (is_plain c) (every is_plain cs) h))

printed_one : (c : ℕ) → is_printed c ≡ true → printed_char c ≡ c ∷ []
printed_one c h =
    let a = denied (c == 92) (left (not (c == 92)) (not (c == 10) && not (c == 13)) h) in
    let k = right (not (c == 92)) (not (c == 10) && not (c == 13)) h in
    let b = denied (c == 10) (left (not (c == 10)) (not (c == 13)) k) in
    let d = denied (c == 13) (right (not (c == 10)) (not (c == 13)) k) in
    rw (a, printed_char) (rw (b, d))

pub written_printed : (t : Text) → every is_printed t ≡ true → written printed_char t ≡ t
written_printed t h = written_is printed_char is_printed printed_one t h

pub every_append : (passes : ℕ → Bool) (a b : Text) → every passes a ≡ true → every passes b ≡ true → every passes (a ++ b) ≡ true
every_append passes [] b h k = k
every_append passes (c ∷ cs) b h k = both (passes c) (every passes (cs ++ b)) (left (passes c) (every passes cs) h) (every_append passes cs b (right (passes c) (every passes cs) h) k)
