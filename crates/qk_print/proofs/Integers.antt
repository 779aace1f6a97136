-- The integers of a text are written as they are printed.
use Rattle.std.specs.Prelude.{◌≡◌, refl, ℕ, ◌<◌, ◌≤◌, ◌==◌, pos, true, not, ◌&&◌, ◌||◌, Option, [], ◌∷◌, ◌++◌, length, IsTrue}
use Rattle.std.proofs.Common.{ap, sym, ◌∙◌, subst, arith}
use Rattle.std.proofs.lemmas.Bool.{false≢true}
use Rattle.std.specs.Char.{encode_utf8}
use Rattle.std.specs.Fmt.{signed_decimal}
use Rattle.std.specs.Char as std
use Rattle.std.specs.Str.Parse.{AllDigits, digits_value, digits_value_after}
use Rattle.std.proofs.lemmas.Str.Parse.{IsNumeralModel}
use Rattle.std.proofs.lemmas.Fmt.{decimal-digits_value}
use Rattle.qk_ast.specs.Characters.{Characters, every, is_digit, digit_value, number_after}
use Rattle.qk_ast.specs.Tokens.{Token, Written, Around, Braces, In_hole, In_tag, In_end, Children, is_int, is_token, stands, tokens_of}
use Rattle.qk_ast.specs.Tree.{bytes}
use Rattle.qk_ast.proofs.FrontToken.{left, right}
use Rattle.qk_ast.proofs.Pieces.{nat_is}
use Rattle.qk_ast.proofs.OneToken.{a_digit, at_least, rest_digits}
use Rattle.qk_print.proofs.Laid_parts.{Numbers}

one_digit : (c : ℕ) → is_digit c ≡ true → (std.digit_value c ≡ digit_value c) × (std.digit_value c < 10)
one_digit c h = a_digit (λ d. (std.digit_value d ≡ digit_value d) × (std.digit_value d < 10)) c h (refl, omega arith) (refl, omega arith) (refl, omega arith) (refl, omega arith) (refl, omega arith) (refl, omega arith) (refl, omega arith) (refl, omega arith) (refl, omega arith) (refl, omega arith)

one_byte : (c : ℕ) → is_digit c ≡ true → encode_utf8 c ≡ c ∷ []
unfolding encode_utf8
one_byte c h = a_digit (λ d. encode_utf8 d ≡ d ∷ []) c h refl refl refl refl refl refl refl refl refl refl

all_digits : (ds : Characters) → every is_digit ds ≡ true → AllDigits 10 ds
all_digits [] h = tt
all_digits (d ∷ ds) h = ((one_digit d (left (is_digit d) _ h)).1, all_digits ds (right (is_digit d) _ h))

same_value : (ds : Characters) (m n : ℕ) → m ≡ n → every is_digit ds ≡ true → digits_value_after 10 m ds ≡ number_after 10 n ds
same_value [] m n e h = e
same_value (d ∷ ds) m n e h = let k = (one_digit d (left (is_digit d) _ h)).0 in same_value ds _ _ (omega (arith, e, k)) (right (is_digit d) _ h)

digit_bytes : (ds : Characters) → every is_digit ds ≡ true → bytes ds ≡ ds
digit_bytes [] h = refl
digit_bytes (d ∷ ds) h = ap (λ b. b ++ bytes ds) (one_byte d (left (is_digit d) _ h)) ∙ ap (λ t. d ∷ t) (digit_bytes ds (right (is_digit d) _ h))

itself : IsNumeralModel (AllDigits 10) (digits_value 10)
itself = record { to = λ ds p. p; from = λ ds p. p; same = λ ds p. refl }

no_leading : (d : ℕ) (ds : Characters) → (not (d == 48) || (length ds == 0)) ≡ true → d ≡ 48 → length (d ∷ ds) ≡ 1
no_leading d [] h e = refl
no_leading d (c ∷ cs) h e = absurd (let k : length (c ∷ cs) ≡ 0 = nat_is (length (c ∷ cs)) 0 (subst (λ x. (not (x == 48) || (length (c ∷ cs) == 0)) ≡ true) e h) in omega (arith, k))

pub written_number : (digits : Characters) → IsTrue (is_int digits) → signed_decimal (pos (number_after 10 0 digits)) ≡ bytes digits
written_number [] h = absurd (false≢true h)
written_number (d ∷ ds) h =
    let all = rest_digits d ds h in
    let value = same_value (d ∷ ds) 0 0 refl all in
    let small : number_after 10 0 (d ∷ ds) ≤ 9007199254740991 = at_least _ _ (right (is_digit d && every is_digit ds && (not (d == 48) || (length ds == 0))) _ h) in
    ap (λ n. signed_decimal (pos n)) (sym value)
    ∙ decimal-digits_value itself (d ∷ ds) (all_digits (d ∷ ds) all) (omega arith) (no_leading d ds (right (is_digit d && every is_digit ds) _ (left (is_digit d && every is_digit ds && (not (d == 48) || (length ds == 0))) _ h))) (omega (arith, value, small))
    ∙ sym (digit_bytes (d ∷ ds) all)

int_of : (around : Around) (before : Option Token) (digits next : Characters) → is_token around before (Token.Int digits) next → IsTrue (is_int digits)
int_of [] before digits next h = h.0
int_of (Braces ∷ around) before digits next h = h.0
int_of (In_hole ∷ around) before digits next h = h.0
int_of (In_tag ∷ around) before digits next h = absurd h
int_of (In_end ∷ around) before digits next h = absurd h
int_of (Children ∷ around) before digits next h = absurd h

pub numbers_of : (w : Written) (around : Around) (before : Option Token) (next : Characters) → stands around before w next → Numbers (tokens_of w)
numbers_of (Written.End gap) around before next h = tt
numbers_of (Written.Then gap (Token.Int digits) more) around before next h = (written_number digits (int_of around before digits _ h.1), numbers_of more _ _ next h.2)
numbers_of (Written.Then gap (Token.Name a) more) around before next h = numbers_of more _ _ next h.2
numbers_of (Written.Then gap (Token.Reserved a) more) around before next h = numbers_of more _ _ next h.2
numbers_of (Written.Then gap (Token.Text a b) more) around before next h = numbers_of more _ _ next h.2
numbers_of (Written.Then gap (Token.Attribute a b) more) around before next h = numbers_of more _ _ next h.2
numbers_of (Written.Then gap (Token.Template a b c) more) around before next h = numbers_of more _ _ next h.2
numbers_of (Written.Then gap (Token.Punct a) more) around before next h = numbers_of more _ _ next h.2
numbers_of (Written.Then gap (Token.Begin a) more) around before next h = numbers_of more _ _ next h.2
numbers_of (Written.Then gap (Token.JsxText a) more) around before next h = numbers_of more _ _ next h.2
