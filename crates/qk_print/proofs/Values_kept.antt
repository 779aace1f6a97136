-- A printed piece stands for its character, and a printed text for its characters.
use Rattle.std.specs.Prelude.{◌≡◌, refl, ℕ, zero, suc, ◌<◌, ◌≤◌, Bool, true, false, ◌||◌, if◌then◌else◌, ◌==◌, nat_lt, List, [], ◌∷◌, map, codes}
use Rattle.std.proofs.Common.{ap, ◌∙◌, subst, arith}
use Rattle.std.specs.List.{list_any}
use Rattle.qk_ast.specs.Characters.{Characters}
use Rattle.qk_ast.specs.Tokens.{Piece, piece_value}
use Rattle.qk_ast.specs.Tree.{bytes, value}
use Rattle.std.proofs.lemmas.Bool.{false≢true}
use Rattle.qk_ast.proofs.Pieces.{nat_is}
use Rattle.qk_print.proofs.Rewriting.{piece, control_piece, text_pieces, template_pieces}

-- what holds of every number below that one
abbrev pub First : ℕ → (ℕ → Type 0) → Type 0
First zero P = Unit {0}
First (suc n) P = P 0 × First n (λ k. P (suc k))

pub below : (n : ℕ) (P : ℕ → Type 0) → First n P → (c : ℕ) → c < n → P c
below zero P h c l = absurd (omega arith)
below (suc n) P h zero l = h.0
below (suc n) P h (suc c) l = below n (λ k. P (suc k)) h.1 c (omega arith)

control_is : (c : ℕ) → c < 32 → piece_value (control_piece c) ≡ c
control_is = below 32 (λ c. piece_value (control_piece c) ≡ c) search

-- what holds of all marks holds of a character that is one of them
abbrev pub Each : (ℕ → Type 0) → List ℕ → Type 0
Each P [] = Unit {0}
Each P (m ∷ ms) = P m × Each P ms

pub among_marks : (P : ℕ → Type 0) (c : ℕ) (marks : List ℕ) → list_any (λ m. m == c) marks ≡ true → Each P marks → P c
among_marks P c [] h k = absurd (false≢true h)
among_marks P c (m ∷ ms) h k = choose (m == c) refl h (λ d. among_marks P c ms d k.1)
  where
    choose : (b : Bool) → (m == c) ≡ b → (b || list_any (λ m. m == c) ms) ≡ true → (list_any (λ m. m == c) ms ≡ true → P c) → P c
    choose true e d onward = subst P (nat_is m c e) k.0
    choose false e d onward = onward d

pub less : (m n : ℕ) → nat_lt m n ≡ true → m < n
less m n h = search arith

pub not_less : (m n : ℕ) → nat_lt m n ≡ false → n ≤ m
not_less m n h = search arith

piece_of : (marks : List ℕ) → Each (λ c. piece_value (Piece.Escaped c) ≡ c) marks → (c : ℕ) → piece_value (piece marks c) ≡ c
piece_of marks k c = choose (nat_lt c 32) (list_any (λ m. m == c) marks) (λ h. control_is c (less c 32 h)) (λ h. among_marks (λ c. piece_value (Piece.Escaped c) ≡ c) c marks h k)
  where
    choose : (b d : Bool) → (b ≡ true → piece_value (control_piece c) ≡ c) → (d ≡ true → piece_value (Piece.Escaped c) ≡ c)
        → piece_value (if b then control_piece c else (if d then Piece.Escaped c else Piece.Plain c)) ≡ c
    choose true d h k = h refl
    choose false true h k = k refl
    choose false false h k = refl

pub text_values : (cs : Characters) → map piece_value (text_pieces cs) ≡ cs
text_values [] = refl
text_values (c ∷ cs) = ap (λ d. d ∷ map piece_value (text_pieces cs)) (piece_of (codes "\"\\") (refl, (refl, tt)) c) ∙ ap (λ ds. c ∷ ds) (text_values cs)

pub template_values : (cs : Characters) → map piece_value (template_pieces cs) ≡ cs
template_values [] = refl
template_values (c ∷ cs) = ap (λ d. d ∷ map piece_value (template_pieces cs)) (piece_of (codes "`\\$") (refl, (refl, (refl, tt))) c) ∙ ap (λ ds. c ∷ ds) (template_values cs)

pub text_is : (cs : Characters) → value (text_pieces cs) ≡ bytes cs
text_is cs = ap bytes (text_values cs)

pub template_is : (cs : Characters) → value (template_pieces cs) ≡ bytes cs
template_is cs = ap bytes (template_values cs)
