-- Reading hexadecimal digits off a text's front.
use Rattle.std.specs.Prelude.{◌≡◌, refl, ℕ, zero, suc, ◌+◌, ◌-◌, ◌*◌, ◌≤◌, ◌<◌, Bool, true, false, ◌&&◌, if◌then◌else◌, [], ◌∷◌, length, take, drop}
use mathlib.Core.Path.{sym, ◌∙◌, ap, subst}
use mathlib.Core.Logic.{inl, inr}
use native.Mathlib.Omega.{arith}
use lib.Utf8.{scalar, scalar_cases}
use Rattle.std.specs.Str.{chars, IsUtf8}
use Rattle.std.proofs.lemmas.List.{take_all}
use Rattle.std.proofs.lemmas.Str.{encodes-chars, length-le-encodes}
use Rattle.qk_ast.specs.Characters.{Characters, is_hex_digit, digit_value, number_after, run, after_run}
use Rattle.qk_ast.specs.Tokens.{Braced, piece_value}
use Rattle.qk_ast.proofs.FrontToken.{if_true, if_false}
use Rattle.qk_lex.specs.Quotes.{with_digit}
use Rattle.qk_lex.proofs.Choices.{either_way}
use Rattle.qk_lex.proofs.EscapeLemmas.{capped_after, same_scalar}
use Rattle.qk_token.specs.Pieces.{standing, shown}
use Rattle.qk_token.proofs.Numbers.{grows}

-- ---- a number that a character has isn't past the limit

uncapped : (n : ℕ) (ds : Characters) → number_after 16 n ds ≤ 1114111 → capped_after n ds ≡ number_after 16 n ds
uncapped n [] h = refl
uncapped n (d ∷ ds) h =
    ap (λ m. capped_after m ds) (small n (digit_value d) _ (grows 16 (omega arith) (n * 16 + digit_value d) ds) h) ∙ uncapped (n * 16 + digit_value d) ds h
  where
    small : (n v k : ℕ) → n * 16 + v ≤ k → k ≤ 1114111 → with_digit n v ≡ n * 16 + v
    small n v k a b = omega (arith, a, b)

scalar_small : (n : ℕ) → scalar n ≡ true → n ≤ 1114111
scalar_small n h = elim (scalar_cases n h) as (λ _. n ≤ 1114111) [ inl a ↦ omega (arith, a) | inr b ↦ omega (arith, b) ]

abbrev pub character_of : ℕ → ℕ
character_of n = if scalar n then n else 65533

and_true : {b c : Bool} → b ≡ c → (b && true) ≡ c
and_true {b = true} h = h
and_true {b = false} h = h

pub character_is : (n : ℕ) (ds : Characters) → n ≡ capped_after 0 ds → character_of n ≡ piece_value (standing (Braced ds))
character_is n ds e = elim (either_way (scalar (number_after 16 0 ds))) [
  | inl h ↦
      let same : n ≡ number_after 16 0 ds = e ∙ uncapped 0 ds (scalar_small _ h) in
      ap character_of same ∙ (if_true _ _ h ∙ sym (ap piece_value (if_true _ _ (and_true h))))
  | inr h ↦
      let none : scalar n ≡ false = ap scalar e ∙ (same_scalar ds ∙ h) in
      if_false _ _ none ∙ sym (ap piece_value (if_false _ _ (and_true h)))
]

-- ---- the digits at the front, so many at most

abbrev pub front : ℕ → Characters → Characters
front most text = take most (run is_hex_digit text)

take_none : (k : ℕ) (cs : Characters) → cs ≡ [] → take k cs ≡ []
take_none zero cs e = refl
take_none (suc k) cs e = ap (take (suc k)) e

-- where the reading is after so many digits: the digits that are left, behind that number, are those of the whole
pub record Reading (most i n : ℕ) (rest text : Characters) : Type 0 where
  pub number : capped_after n (front (most - i) rest) ≡ capped_after 0 (front most text)
  pub left : drop (length (front (most - i) rest)) rest ≡ drop (length (front most text)) text

pub begins : (most : ℕ) (text : Characters) → Reading most 0 0 text text
begins most text = record {
  number = ap (λ k. capped_after 0 (front k text)) (all most);
  left = ap (λ k. drop (length (front k text)) text) (all most);
}
  where
    all : (m : ℕ) → m - 0 ≡ m
    all m = omega arith

no_digit : (k : ℕ) (text : Characters) → run is_hex_digit text ≡ [] → front k text ≡ []
no_digit k text e = take_none k (run is_hex_digit text) e

none_left : (most i : ℕ) (text : Characters) → most ≤ i → front (most - i) text ≡ []
none_left most i text h = ap (λ k. front k text) (nothing most i h)
  where
    nothing : (m i : ℕ) → m ≤ i → m - i ≡ 0
    nothing m i h = omega (arith, h)

value_at : (most i n : ℕ) (rest text : Characters) → Reading most i n rest text → front (most - i) rest ≡ [] → character_of n ≡ piece_value (standing (Braced (front most text)))
value_at most i n rest text r e = character_is n (front most text) (sym (ap (capped_after n) e) ∙ r.number)

rest_at : (most i n : ℕ) (rest text : Characters) → Reading most i n rest text → front (most - i) rest ≡ [] → rest ≡ drop (length (front most text)) text
rest_at most i n rest text r e = sym (ap (λ d. drop (length d) rest) e) ∙ r.left

pub value_stops : (most i n : ℕ) (rest text : Characters) → Reading most i n rest text → run is_hex_digit rest ≡ [] → character_of n ≡ piece_value (standing (Braced (front most text)))
value_stops most i n rest text r e = value_at most i n rest text r (no_digit (most - i) rest e)

pub rest_stops : (most i n : ℕ) (rest text : Characters) → Reading most i n rest text → run is_hex_digit rest ≡ [] → rest ≡ drop (length (front most text)) text
rest_stops most i n rest text r e = rest_at most i n rest text r (no_digit (most - i) rest e)

pub value_ends : (most i n : ℕ) (rest text : Characters) → Reading most i n rest text → most ≤ i → character_of n ≡ piece_value (standing (Braced (front most text)))
value_ends most i n rest text r h = value_at most i n rest text r (none_left most i rest h)

pub rest_ends : (most i n : ℕ) (rest text : Characters) → Reading most i n rest text → most ≤ i → rest ≡ drop (length (front most text)) text
rest_ends most i n rest text r h = rest_at most i n rest text r (none_left most i rest h)

one_more : (most i c : ℕ) (rest more : Characters) → i < most → rest ≡ c ∷ more → is_hex_digit c ≡ true → front (most - i) rest ≡ c ∷ front (most - (i + 1)) more
one_more most i c rest more h e hex = ap (front (most - i)) e ∙ (ap (λ k. front k (c ∷ more)) (fewer most i h) ∙ ap (take (suc (most - (i + 1)))) (if_true _ _ hex))
  where
    fewer : (m i : ℕ) → i < m → m - i ≡ suc (m - (i + 1))
    fewer m i h = omega (arith, h)

pub goes_on : (most i n m v : ℕ) (rest more text : Characters) → Reading most i n rest text → i < most
    → (c : ℕ) × (rest ≡ c ∷ more) × (is_hex_digit c ≡ true) × (v ≡ digit_value c) → m ≡ with_digit n v → Reading most (i + 1) m more text
goes_on most i n m v rest more text r h (c, e, hex, v_is) m_is =
    let ds = front (most - (i + 1)) more in
    let here : front (most - i) rest ≡ c ∷ ds = one_more most i c rest more h e hex in
    record {
      number = ap (λ x. capped_after x ds) (m_is ∙ ap (with_digit n) v_is) ∙ (sym (ap (capped_after n) here) ∙ r.number);
      left = sym (ap (λ d. drop (length d) (c ∷ more)) here) ∙ (sym (ap (drop (length (front (most - i) rest))) e) ∙ r.left);
    }

-- ---- all the digits at the front

run_short : (text : Characters) → length (run is_hex_digit text) ≤ length text
run_short [] = omega arith
run_short (c ∷ cs) = elim (either_way (is_hex_digit c)) [
  | inl h ↦ subst (λ d. length d ≤ length (c ∷ cs)) (sym (if_true (c ∷ run is_hex_digit cs) [] h)) (longer _ _ (run_short cs))
  | inr h ↦ subst (λ d. length d ≤ length (c ∷ cs)) (sym (if_false (c ∷ run is_hex_digit cs) [] h)) (omega arith)
]
  where
    longer : (m n : ℕ) → m ≤ n → suc m ≤ suc n
    longer m n h = omega (arith, h)

behind_run : (text : Characters) → drop (length (run is_hex_digit text)) text ≡ after_run is_hex_digit text
behind_run [] = refl
behind_run (c ∷ cs) = elim (either_way (is_hex_digit c)) [
  | inl h ↦ ap (λ d. drop (length d) (c ∷ cs)) (if_true _ _ h) ∙ (behind_run cs ∙ sym (if_true _ _ h))
  | inr h ↦ ap (λ d. drop (length d) (c ∷ cs)) (if_false _ _ h) ∙ sym (if_false _ _ h)
]

pub all_digits : (most : ℕ) (text : Characters) → length text ≤ most → front most text ≡ run is_hex_digit text
all_digits most text h = take_all most (run is_hex_digit text) (through (run_short text) h)
  where
    through : {a b c : ℕ} → a ≤ b → b ≤ c → a ≤ c
    through h k = omega (arith, h, k)

pub braced_there : (c most : ℕ) (rest text more : Characters) → length text ≤ most → c ≡ piece_value (standing (Braced (front most text))) → rest ≡ drop (length (front most text)) text → more ≡ drop 1 rest
    → (c, more) ≡ shown (standing (Braced (run is_hex_digit text)), drop 1 (after_run is_hex_digit text))
braced_there c most rest text more h c_is rest_is more_is =
    let all = all_digits most text h in
    let behind : rest ≡ after_run is_hex_digit text = rest_is ∙ (ap (λ d. drop (length d) text) all ∙ behind_run text) in
    ap (λ x. (x, more)) (c_is ∙ ap (λ d. piece_value (standing (Braced d))) all) ∙ ap (λ (x : Characters). (piece_value (standing (Braced (run is_hex_digit text))), x)) (more_is ∙ ap (drop 1) behind)

pub characters_few : (bytes : Characters) → IsUtf8 bytes → length (chars bytes) ≤ length bytes
characters_few bytes u = subst (λ n. length (chars bytes) ≤ n) (ap length (encodes-chars bytes u)) (length-le-encodes (chars bytes))
