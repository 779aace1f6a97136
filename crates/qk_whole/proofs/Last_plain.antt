-- The last plain arrow of a module stands for what it doesn't have.
use Rattle.std.specs.Prelude.{◌≡◌, refl, ℕ, suc, ◌-◌, Bool, true, false, List, [], ◌∷◌, ◌++◌, length, Option, Some, None}
use Rattle.std.proofs.Common.{sym, ◌∙◌, ap, subst, arith, add-one}
use Rattle.std.proofs.lemmas.List.{append_assoc, append-nil}
use Rattle.qk_ast.specs.Texts.{Text}
use Rattle.qk_ast.specs.Arrows.{Found_arrow, is_dollar, same_kind, of_kind, nth_arrow}
use Rattle.qk_ast.specs.Uses.{captures_of}
use Rattle.qk_captures.specs.declared.Captured.{Captured}
use Rattle.qk_captures.specs.Capturing.{captured_after}
use Rattle.qk_lifting.proofs.Kinds_alike.{of_kind_both}
use Rattle.qk_whole.specs.Elsewhere.{elsewhere_of, last_plain}
use Rattle.qk_whole.proofs.Functions_met.{one_longer}

-- what stands behind these plain arrows
abbrev behind_of : Text → List Found_arrow → Captured
behind_of file plains = record { site = record { «module» = file; number = length plains; dollar = false }; names = captures_of (nth_arrow plains (length plains - 1)) }

abbrev Last : Text → List Found_arrow → Option Captured → Type 0
Last file plains (Some c) = c ≡ behind_of file plains
Last file plains None = plains ≡ []

nth_end : (plains : List Found_arrow) (a : Found_arrow) → nth_arrow (plains ++ a ∷ []) (length plains) ≡ a
nth_end [] a = refl
nth_end (x ∷ plains) a = nth_end plains a

end_of : (file : Text) (plains : List Found_arrow) (a : Found_arrow) → record { site = record { «module» = file; number = suc (length plains); dollar = false }; names = captures_of a } ≡ behind_of file (plains ++ a ∷ [])
end_of file plains a = λ i. record { site = record { «module» = file; number = number i; dollar = false }; names = captures_of (last i) }
  where
    number : suc (length plains) ≡ length (plains ++ a ∷ [])
    number = sym (one_longer plains a ∙ add-one (length plains))

    less : (n : ℕ) → suc n - 1 ≡ n
    less n = omega arith

    last : a ≡ nth_arrow (plains ++ a ∷ []) (length (plains ++ a ∷ []) - 1)
    last = sym (nth_end plains a) ∙ ap (nth_arrow (plains ++ a ∷ [])) (sym (less (length plains)) ∙ ap (λ n. n - 1) number)

abbrev kept_if : Bool → Found_arrow → List Found_arrow → List Found_arrow
kept_if b a rest = elim b [ true ↦ a ∷ rest | false ↦ rest ]

abbrev chosen : Text → List Found_arrow → Found_arrow → Option Captured → (b d : Bool) → Option Captured
chosen file before a o b d = elim b [ true ↦ o | false ↦ Some (record { site = record { «module» = file; number = suc (length (of_kind d before)); dollar = d }; names = captures_of a }) ]

last_by : (file : Text) (before : List Found_arrow) (a : Found_arrow) (o : Option Captured) → Last file (of_kind false before) o → (b : Bool) → Last file (of_kind false before ++ kept_if (same_kind false b) a []) (chosen file before a o b b)
last_by file before a o h true = subst (λ xs. Last file xs o) (sym (append-nil (of_kind false before))) h
last_by file before a o h false = end_of file (of_kind false before) a

last_more : (file : Text) (before : List Found_arrow) (a : Found_arrow) (o : Option Captured) → Last file (of_kind false before) o → Last file (of_kind false (before ++ a ∷ [])) (chosen file before a o (is_dollar a) (is_dollar a))
last_more file before a o h = subst (λ xs. Last file xs (chosen file before a o (is_dollar a) (is_dollar a))) (sym (of_kind_both false before (a ∷ []))) (last_by file before a o h (is_dollar a))

pub last_behind : (file : Text) (before all : List Found_arrow) (o : Option Captured) → Last file (of_kind false before) o → Last file (of_kind false (before ++ all)) (last_plain o (captured_after file before all))
last_behind file before [] o h = subst (λ xs. Last file (of_kind false xs) o) (sym (append-nil before)) h
last_behind file before (a ∷ all) o h = subst (λ xs. Last file (of_kind false xs) (last_plain o (captured_after file before (a ∷ all)))) (append_assoc before (a ∷ []) all) (last_behind file (before ++ a ∷ []) all _ (last_more file before a o h))

pub last_told : (file : Text) (all : List Found_arrow) (c : Captured) → last_plain None (captured_after file [] all) ≡ Some c → c ≡ elsewhere_of file all
last_told file all c e = subst (Last file (of_kind false all)) e (last_behind file [] all None refl)

pub none_told : (file : Text) (all : List Found_arrow) → last_plain None (captured_after file [] all) ≡ None → elsewhere_of file all ≡ record { site = record { «module» = file; number = 0; dollar = false }; names = [] }
none_told file all e = ap (behind_of file) (subst (Last file (of_kind false all)) e (last_behind file [] all None refl))
