-- The pieces of a text, one by one.
use Rattle.std.specs.Prelude.{◌≡◌, refl, ℕ, zero, suc, ◌≤◌, Bool, true, not, if◌then◌else◌, ◌==◌, List, [], ◌∷◌, ◌++◌, length, drop, Option, Some, None}
use Rattle.std.specs.Str.{encode_utf8_all}
use Rattle.std.specs.Char.{encode_utf8}
use mathlib.Core.Path.{sym, ◌∙◌, ap, subst}
use mathlib.Core.Logic.{inl, inr}
use native.Mathlib.Omega.{arith}
use Rattle.std.proofs.Common.{append_assoc, append-nil, length-drop}
use Rattle.qk_ast.specs.Characters.{Characters, every, is_hex_digit, after_run}
use Rattle.qk_ast.specs.Tokens.{Piece, piece_value}
use Rattle.qk_ast.specs.Tree.{value}
use Rattle.qk_lex.specs.Scan.{after_char}
use Rattle.qk_lex.proofs.Choices.{either_way}
use Rattle.qk_lex.proofs.EscapeLemmas.{char_found}
use Rattle.qk_ast.proofs.FrontToken.{left, right, is_not, if_true, if_false}
use Rattle.qk_token.specs.Pieces.{first_piece, pieces_from, pieces_of, after_backslash, after_u, by_digits, by_feed, shown, stands_alone}

-- ---- what follows a piece is no longer than what followed its first character

drop_short : (n : ℕ) (text : Characters) → length (drop n text) ≤ length text
drop_short n text = omega (arith, length-drop n text)

run_behind : (p : ℕ → Bool) (text : Characters) → length (after_run p text) ≤ length text
run_behind p [] = omega arith
run_behind p (c ∷ cs) = elim (either_way (p c)) [
  | inl h ↦ subst (λ t. length t ≤ suc (length cs)) (sym (if_true (after_run p cs) (c ∷ cs) h)) (longer _ _ (run_behind p cs))
  | inr h ↦ subst (λ t. length t ≤ suc (length cs)) (sym (if_false (after_run p cs) (c ∷ cs) h)) (omega arith)
]
  where
    longer : (m n : ℕ) → m ≤ n → m ≤ suc n
    longer m n h = omega (arith, h)

behind_char : (c : ℕ) (text : Characters) (o : Option Characters) → after_char c text ≡ o → (inside : Characters) → o ≡ Some inside → length inside ≤ length text
behind_char c text o e inside h = subst (λ t. length inside ≤ length t) (sym (char_found c text inside (e ∙ h))) (omega arith)

digits_short : (text : Characters) (o : Option Characters) → after_char 123 text ≡ o → length (by_digits text o).1 ≤ length text
digits_short text None e = drop_short _ text
digits_short text (Some inside) e = within _ _ _ _ (drop_short 1 (after_run is_hex_digit inside)) (run_behind is_hex_digit inside) (behind_char 123 text (Some inside) e inside refl)
  where
    within : (a b c d : ℕ) → a ≤ b → b ≤ c → c ≤ d → a ≤ d
    within a b c d h k l = omega (arith, h, k, l)

feed_short : (text : Characters) (o : Option Characters) → after_char 10 text ≡ o → length (by_feed text o).1 ≤ length text
feed_short text None e = omega arith
feed_short text (Some more) e = behind_char 10 text (Some more) e more refl

backslash_short : (text : Characters) → length (after_backslash text).1 ≤ length text
backslash_short [] = omega arith
backslash_short (c ∷ cs) = elim (either_way (c == 117)) [
  | inl h ↦ subst (λ p. length p.1 ≤ suc (length cs)) (sym (if_true (after_u cs) (Piece.Escaped c, cs) h)) (longer _ _ (digits_short cs (after_char 123 cs) refl))
  | inr h ↦ subst (λ p. length p.1 ≤ suc (length cs)) (sym (if_false (after_u cs) (Piece.Escaped c, cs) h)) (omega arith)
]
  where
    longer : (m n : ℕ) → m ≤ n → m ≤ suc n
    longer m n h = omega (arith, h)

first_short : (c : ℕ) (text : Characters) → length (first_piece c text).1 ≤ length text
unfolding first_piece
first_short c text = elim (either_way (c == 92)) [
  | inl h ↦ subst (λ p. length p.1 ≤ length text) (sym (if_true (after_backslash text) (no_backslash c text) h)) (backslash_short text)
  | inr h ↦ elim (either_way (c == 13)) [
    | inl k ↦ subst (λ p. length p.1 ≤ length text) (sym (if_false (after_backslash text) (no_backslash c text) h ∙ if_true (by_feed text (after_char 10 text)) (Piece.Plain c, text) k)) (feed_short text (after_char 10 text) refl)
    | inr k ↦ subst (λ p. length p.1 ≤ length text) (sym (if_false (after_backslash text) (no_backslash c text) h ∙ if_false (by_feed text (after_char 10 text)) (Piece.Plain c, text) k)) (omega arith)
  ]
]
  where
    no_backslash : ℕ → Characters → Piece × Characters
    no_backslash c text = if c == 13 then by_feed text (after_char 10 text) else (Piece.Plain c, text)

-- ---- one piece, and the others

enough : (m n : ℕ) (text : Characters) → length text ≤ m → length text ≤ n → pieces_from m text ≡ pieces_from n text
unfolding pieces_from
enough zero zero text h k = refl
enough zero (suc n) [] h k = refl
enough (suc m) zero [] h k = refl
enough (suc m) (suc n) [] h k = refl
enough zero n (c ∷ cs) h k = absurd (omega (arith, h))
enough (suc m) zero (c ∷ cs) h k = absurd (omega (arith, k))
enough (suc m) (suc n) (c ∷ cs) h k =
    ap (λ ps. (first_piece c cs).0 ∷ ps) (enough m n (first_piece c cs).1 (shorter _ _ m (first_short c cs) h) (shorter _ _ n (first_short c cs) k))
  where
    shorter : (a b m : ℕ) → a ≤ b → suc b ≤ suc m → a ≤ m
    shorter a b m h k = omega (arith, h, k)

pub no_piece : pieces_of [] ≡ []
unfolding pieces_of pieces_from
no_piece = refl

pub one_piece : (c : ℕ) (cs : Characters) → pieces_of (c ∷ cs) ≡ (first_piece c cs).0 ∷ pieces_of (first_piece c cs).1
unfolding pieces_of pieces_from
one_piece c cs = ap (λ ps. (first_piece c cs).0 ∷ ps) (enough (length cs) (length (first_piece c cs).1) (first_piece c cs).1 (first_short c cs) (omega arith))

-- ---- the text that pieces stand for, character by character

-- the bytes so far, before the value of what is left, are the value of the whole
pub record Written (so_far : List ℕ) (rest whole : Characters) : Type 0 where
  pub is : so_far ++ value (pieces_of rest) ≡ value (pieces_of whole)

pub starts : (so_far : List ℕ) (whole : Characters) → so_far ≡ [] → Written so_far whole whole
starts so_far whole e = record { is = ap (λ b. b ++ value (pieces_of whole)) e }

pub ends : (so_far : List ℕ) (rest whole : Characters) → rest ≡ [] → Written so_far rest whole → so_far ≡ value (pieces_of whole)
ends so_far rest whole e w = sym (append-nil so_far) ∙ (ap (λ ps. so_far ++ value ps) (sym (ap pieces_of e ∙ no_piece)) ∙ w.is)

pub goes_on : (so_far so_far' : List ℕ) (rest cs next whole : Characters) (c d : ℕ) → rest ≡ c ∷ cs → (d, next) ≡ shown (first_piece c cs) → so_far' ≡ so_far ++ encode_utf8 d → Written so_far rest whole
    → Written so_far' next whole
goes_on so_far so_far' rest cs next whole c d e p s w = record {
  is =
      let here : value (pieces_of rest) ≡ encode_utf8 d ++ value (pieces_of next) =
      ap (λ r. value (pieces_of r)) e ∙ (ap value (one_piece c cs) ∙ ap (λ q. encode_utf8 q.0 ++ value (pieces_of q.1)) (sym p)) in
      ap (λ o. o ++ value (pieces_of next)) s ∙ (append_assoc so_far (encode_utf8 d) (value (pieces_of next)) ∙ (ap (λ r. so_far ++ r) (sym here) ∙ w.is));
}

-- ---- a text without escapes and carriage returns is written as it stands

plain_first : (c : ℕ) (text : Characters) → stands_alone c ≡ true → first_piece c text ≡ (Piece.Plain c, text)
unfolding first_piece
plain_first c text h =
    if_false (after_backslash text) _ (is_not (c == 92) (left (not (c == 92)) (not (c == 13)) h))
    ∙ if_false (by_feed text (after_char 10 text)) _ (is_not (c == 13) (right (not (c == 92)) (not (c == 13)) h))

pub plain_value : (text : Characters) → every stands_alone text ≡ true → value (pieces_of text) ≡ encode_utf8_all text
plain_value [] h = ap value no_piece
plain_value (c ∷ cs) h =
    ap value (one_piece c cs)
    ∙ (ap (λ (p : Piece × Characters). encode_utf8 (piece_value p.0) ++ value (pieces_of p.1)) (plain_first c cs (left (stands_alone c) _ h))
    ∙ ap (λ b. encode_utf8 c ++ b) (plain_value cs (right (stands_alone c) _ h)))
