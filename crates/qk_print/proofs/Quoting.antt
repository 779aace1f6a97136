-- The text of printed pieces is that of the characters, escaped.
use Rattle.std.specs.Prelude.{◌≡◌, refl, ℕ, ◌+◌, ◌/◌, ◌%◌, ◌<◌, ◌≤◌, Bool, true, false, ◌||◌, if◌then◌else◌, ◌==◌, nat_lt, List, [], ◌∷◌, ◌++◌, map, codes, flat_map}
use Rattle.std.proofs.Common.{ap, sym, ◌∙◌, arith}
use Rattle.std.proofs.lemmas.Bool.{false≢true, cases_lt}
use Rattle.std.proofs.lemmas.List.{append_assoc, append-nil}
use Rattle.std.proofs.lemmas.Grind.{flat_map-append}
use Rattle.std.proofs.lemmas.Str.{encode_ascii}
use Rattle.std.specs.List.{list_any}
use Rattle.std.specs.Char.{encode_utf8}
use Rattle.std.specs.Str.{encode_utf8_all}
use Rattle.qk_ast.specs.Characters.{Characters}
use Rattle.qk_ast.specs.Tokens.{Piece, piece_spelling, pieces_spelling}
use Rattle.qk_ast.proofs.FrontToken.{if_false}
use mathlib.Core.Logic.{inl, inr}
use Rattle.qk_ast.proofs.Pieces.{nat_is}
use Rattle.qk_print.specs.Letters.{escaped}
use Rattle.qk_print.proofs.Rewriting.{piece, control_piece}
use Rattle.qk_print.proofs.Values_kept.{below, Each, among_marks, less, not_less}

-- the piece spells the character, escaped
abbrev Spells : List ℕ → Piece → ℕ → Type 0
Spells marks p c = (next : Characters) → encode_utf8_all (piece_spelling p next) ≡ flat_map (escaped marks) (encode_utf8 c) ++ encode_utf8_all next

control_spelled : (marks : List ℕ) (c : ℕ) → c < 32 → Spells marks (control_piece c) c
unfolding encode_utf8
control_spelled marks = below 32 (λ c. Spells marks (control_piece c) c) ((λ next. refl), ((λ next. refl), ((λ next. refl), ((λ next. refl), ((λ next. refl), ((λ next. refl), ((λ next. refl), ((λ next. refl), ((λ next. refl), ((λ next. refl), ((λ next. refl), ((λ next. refl), ((λ next. refl), ((λ next. refl), ((λ next. refl), ((λ next. refl), ((λ next. refl), ((λ next. refl), ((λ next. refl), ((λ next. refl), ((λ next. refl), ((λ next. refl), ((λ next. refl), ((λ next. refl), ((λ next. refl), ((λ next. refl), ((λ next. refl), ((λ next. refl), ((λ next. refl), ((λ next. refl), ((λ next. refl), ((λ next. refl), tt))))))))))))))))))))))))))))))))

is_less : (m n : ℕ) → n ≤ m → nat_lt m n ≡ false
is_less m n h = search arith

-- a byte that is no ASCII is no mark
no_mark : (marks : List ℕ) (b : ℕ) → Each (λ m. m < 128) marks → 128 ≤ b → list_any (λ m. m == b) marks ≡ false
no_mark [] b k h = refl
no_mark (m ∷ marks) b k h = differ (m == b) refl (no_mark marks b k.1 h)
  where
    differ : (d : Bool) → (m == b) ≡ d → list_any (λ n. n == b) marks ≡ false → (d || list_any (λ n. n == b) marks) ≡ false
    differ true e r = absurd (let i = nat_is m b e in let l = k.0 in omega (arith, i, l, h))
    differ false e r = r

plain_is : (marks : List ℕ) (b : ℕ) → 32 ≤ b → list_any (λ m. m == b) marks ≡ false → escaped marks b ≡ b ∷ []
plain_is marks b h e = if_false _ _ (is_less b 32 h) ∙ if_false _ _ e

all_high : (marks bs : List ℕ) → Each (λ m. m < 128) marks → Each (λ b. 128 ≤ b) bs → flat_map (escaped marks) bs ≡ bs
all_high marks [] k h = refl
all_high marks (b ∷ bs) k h = let l = h.0 in ap (λ x. x ++ flat_map (escaped marks) bs) (plain_is marks b (omega (arith, l)) (no_mark marks b k h.0)) ∙ ap (λ x. b ∷ x) (all_high marks bs k h.1)

high_bytes : (c : ℕ) → 128 ≤ c → Each (λ b. 128 ≤ b) (encode_utf8 c)
unfolding encode_utf8
high_bytes c h = choose (nat_lt c 128) (nat_lt c 2048) (nat_lt c 65536) (is_less c 128 h)
  where
    choose : (x y z : Bool) → x ≡ false → Each (λ b. 128 ≤ b) (if x then c ∷ [] else (if y then (192 + c / 64) ∷ (128 + c % 64) ∷ []
        else (if z then (224 + c / 4096) ∷ (128 + (c / 64) % 64) ∷ (128 + c % 64) ∷ [] else (240 + c / 262144) ∷ (128 + (c / 4096) % 64) ∷ (128 + (c / 64) % 64) ∷ (128 + c % 64) ∷ [])))
    choose true y z e = absurd (false≢true (sym e))
    choose false true z e = (omega arith, (omega arith, tt))
    choose false false true e = (omega arith, (omega arith, (omega arith, tt)))
    choose false false false e = (omega arith, (omega arith, (omega arith, (omega arith, tt))))

plain_bytes : (marks : List ℕ) (c : ℕ) → Each (λ m. m < 128) marks → 32 ≤ c → list_any (λ m. m == c) marks ≡ false → flat_map (escaped marks) (encode_utf8 c) ≡ encode_utf8 c
plain_bytes marks c k h e = elim (cases_lt c 128) [
  | inl l ↦ ap (flat_map (escaped marks)) (encode_ascii c l) ∙ append-nil (escaped marks c) ∙ plain_is marks c h e ∙ sym (encode_ascii c l)
  | inr l ↦ all_high marks (encode_utf8 c) k (high_bytes c l)
]

piece_spelled : (marks : List ℕ) → Each (λ m. m < 128) marks → Each (λ c. Spells marks (Piece.Escaped c) c) marks → (c : ℕ) → Spells marks (piece marks c) c
piece_spelled marks k m c = choose (nat_lt c 32) (list_any (λ m. m == c) marks) refl refl
  where
    choose : (b d : Bool) → nat_lt c 32 ≡ b → list_any (λ m. m == c) marks ≡ d → Spells marks (if b then control_piece c else (if d then Piece.Escaped c else Piece.Plain c)) c
    choose true d e f = control_spelled marks c (less c 32 e)
    choose false true e f = among_marks (λ c. Spells marks (Piece.Escaped c) c) c marks f m
    choose false false e f = λ next. ap (λ bs. bs ++ encode_utf8_all next) (sym (plain_bytes marks c k (not_less c 32 e) f))

pieces_spelled : (marks : List ℕ) → Each (λ m. m < 128) marks → Each (λ c. Spells marks (Piece.Escaped c) c) marks → (cs next : Characters)
    → encode_utf8_all (pieces_spelling (map (piece marks) cs) next) ≡ flat_map (escaped marks) (encode_utf8_all cs) ++ encode_utf8_all next
pieces_spelled marks k m [] next = refl
pieces_spelled marks k m (c ∷ cs) next = piece_spelled marks k m c (pieces_spelling (map (piece marks) cs) next)
    ∙ ap (λ x. flat_map (escaped marks) (encode_utf8 c) ++ x) (pieces_spelled marks k m cs next)
    ∙ sym (append_assoc (flat_map (escaped marks) (encode_utf8 c)) (flat_map (escaped marks) (encode_utf8_all cs)) (encode_utf8_all next))
    ∙ ap (λ x. x ++ encode_utf8_all next) (sym (flat_map-append (escaped marks) (encode_utf8 c) (encode_utf8_all cs)))

pub text_spelled : (cs next : Characters) → encode_utf8_all (pieces_spelling (map (piece (codes "\"\\")) cs) next) ≡ flat_map (escaped (codes "\"\\")) (encode_utf8_all cs) ++ encode_utf8_all next
unfolding encode_utf8
text_spelled = pieces_spelled (codes "\"\\") (omega arith, (omega arith, tt)) ((λ next. refl), ((λ next. refl), tt))

pub template_spelled : (cs next : Characters) → encode_utf8_all (pieces_spelling (map (piece (codes "`\\$")) cs) next) ≡ flat_map (escaped (codes "`\\$")) (encode_utf8_all cs) ++ encode_utf8_all next
unfolding encode_utf8
template_spelled = pieces_spelled (codes "`\\$") (omega arith, (omega arith, (omega arith, tt))) ((λ next. refl), ((λ next. refl), ((λ next. refl), tt)))
