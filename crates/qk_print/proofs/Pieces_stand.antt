-- What is printed between quotes may stand there.
use Rattle.std.specs.Prelude.{◌≡◌, refl, ℕ, ◌<◌, ◌≤◌, Bool, true, false, not, ◌&&◌, if◌then◌else◌, ◌==◌, nat_lt, List, [], ◌∷◌, codes, IsTrue}
use Rattle.std.proofs.Common.{ap, sym, ◌∙◌, arith}
use Rattle.std.proofs.lemmas.Bool.{false≢true}
use Rattle.std.specs.List.{list_any}
use Rattle.qk_ast.specs.Characters.{Characters, is_front}
use Rattle.qk_ast.specs.Tokens.{Piece, pieces_spelling, is_text_piece, are_text_pieces, is_template_piece, are_template_pieces}
use Rattle.qk_ast.proofs.Pieces.{nat_is}
use Rattle.qk_print.proofs.Rewriting.{piece, control_piece, text_pieces, template_pieces}
use Rattle.qk_print.proofs.Values_kept.{below, Each, among_marks, less, not_less}
use Rattle.qk_print.proofs.Fitting.{both}

control_text : (c : ℕ) → c < 32 → is_text_piece 34 (control_piece c) ≡ true
control_text = below 32 (λ c. is_text_piece 34 (control_piece c) ≡ true) search

control_template : (next : Characters) (c : ℕ) → c < 32 → is_template_piece (control_piece c) next ≡ true
control_template next = below 32 (λ c. is_template_piece (control_piece c) next ≡ true) search

-- a character that isn't that one
differs : (c d : ℕ) → (c ≡ d → ⊥) → (c == d) ≡ false
differs c d h = choose (c == d) refl
  where
    choose : (b : Bool) → (c == d) ≡ b → b ≡ false
    choose true e = absurd (h (nat_is c d e))
    choose false e = refl

-- a character of no mark is none of the marks
unmarked : (c : ℕ) (marks : List ℕ) → list_any (λ m. m == c) marks ≡ false → (d : ℕ) → list_any (λ m. m == d) marks ≡ true → c ≡ d → ⊥
unmarked c marks h d k e = false≢true (sym h ∙ ap (λ x. list_any (λ m. m == x) marks) e ∙ k)

low : (c d : ℕ) → 32 ≤ c → d < 32 → c ≡ d → ⊥
low c d h k e = omega arith

-- one piece, by what is known of controls, of marks and of what stands plain
piece_by : (P : Piece → Type 0) (marks : List ℕ) → ((c : ℕ) → c < 32 → P (control_piece c)) → Each (λ c. P (Piece.Escaped c)) marks
    → ((c : ℕ) → 32 ≤ c → list_any (λ m. m == c) marks ≡ false → P (Piece.Plain c)) → (c : ℕ) → P (piece marks c)
piece_by P marks controls escapes plain c = choose (nat_lt c 32) (list_any (λ m. m == c) marks) refl refl
  where
    choose : (b d : Bool) → nat_lt c 32 ≡ b → list_any (λ m. m == c) marks ≡ d → P (if b then control_piece c else (if d then Piece.Escaped c else Piece.Plain c))
    choose true d e f = controls c (less c 32 e)
    choose false true e f = among_marks (λ m. P (Piece.Escaped m)) c marks f escapes
    choose false false e f = plain c (not_less c 32 e) f

text_piece : (c : ℕ) → is_text_piece 34 (piece (codes "\"\\") c) ≡ true
text_piece = piece_by (λ p. is_text_piece 34 p ≡ true) (codes "\"\\") control_text (refl, (refl, tt)) plain
  where
    plain : (c : ℕ) → 32 ≤ c → list_any (λ m. m == c) (codes "\"\\") ≡ false → is_text_piece 34 (Piece.Plain c) ≡ true
    plain c h f =
        both _ _ (both _ _ (both _ _ (ap not (differs c 34 (unmarked c (codes "\"\\") f 34 refl))) (ap not (differs c 92 (unmarked c (codes "\"\\") f 92 refl)))) (ap not (differs c 10 (low c 10 h (omega arith))))) (ap not (differs c 13 (low c 13 h (omega arith))))

pub text_stands : (cs : Characters) → IsTrue (are_text_pieces 34 (text_pieces cs))
text_stands [] = refl
text_stands (c ∷ cs) = both _ _ (text_piece c) (text_stands cs)

template_piece : (next : Characters) (c : ℕ) → is_template_piece (piece (codes "`\\$") c) next ≡ true
template_piece next = piece_by (λ p. is_template_piece p next ≡ true) (codes "`\\$") (control_template next) (refl, (refl, (refl, tt))) plain
  where
    plain : (c : ℕ) → 32 ≤ c → list_any (λ m. m == c) (codes "`\\$") ≡ false → is_template_piece (Piece.Plain c) next ≡ true
    plain c h f =
        both _ _ (both _ _ (both _ _ (ap not (differs c 96 (unmarked c (codes "`\\$") f 96 refl))) (ap not (differs c 92 (unmarked c (codes "`\\$") f 92 refl)))) (ap not (differs c 13 (low c 13 h (omega arith)))))
        (ap (λ b. not (b && is_front (codes "{") next)) (differs c 36 (unmarked c (codes "`\\$") f 36 refl)))

pub template_stands : (cs next : Characters) → IsTrue (are_template_pieces (template_pieces cs) next)
template_stands [] next = refl
template_stands (c ∷ cs) next = both _ _ (template_piece (pieces_spelling (template_pieces cs) next) c) (template_stands cs next)
