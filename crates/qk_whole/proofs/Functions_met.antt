-- The functions of a kind, one arrow after another.
use Rattle.std.specs.Prelude.{◌≡◌, refl, ℕ, zero, suc, ◌+◌, ◌<◌, ◌≤◌, Bool, true, false, List, [], ◌∷◌, ◌++◌, length, take, map, All, min}
use Rattle.std.proofs.Common.{sym, ◌∙◌, ap, subst, arith, add-one}
use Rattle.std.proofs.Math.ListN.{get_or}
use Rattle.std.proofs.lemmas.Bool.{false≢true}
use mathlib.Core.Bool.{beq}
use Rattle.std.proofs.lemmas.List.{map-append, append-nil, take_all}
use Rattle.std.proofs.lemmas.List.Elements.{All-push}
use Rattle.qk_ast.specs.Arrows.{Found_arrow, is_dollar, same_kind, of_kind, nth_arrow}
use Rattle.qk_ast.specs.Uses.{captures_of}
use Rattle.qk_captures.specs.declared.Captured.{Captured}
use Rattle.qk_captures.specs.Capturing.{captured_after}
use Rattle.qk_locals.specs.Meanings.{mark_of}
use Rattle.qk_meaning.specs.Sites.{is_task, code_from}
use Rattle.qk_code.specs.declared.func.Func.{Func}
use Rattle.qk_code.specs.Standing.{code_of}
use Rattle.qk_whole.specs.declared.known.Known.{Known}
use Rattle.qk_whole.specs.declared.met.Met.{Met}
use Rattle.qk_whole.specs.Meeting.{met_seen, arrow_seen}
use Rattle.qk_whole.specs.Telling.{IsOf, IsKind}
use Rattle.qk_whole.proofs.Known_sites.{entry_of, captured_at, captured_length}

abbrev kept_if : Bool → Found_arrow → List Found_arrow → List Found_arrow
kept_if b a rest = elim b [ true ↦ a ∷ rest | false ↦ rest ]

-- with the arrow at a place more
kind_suc : (dollar : Bool) (all : List Found_arrow) (k : ℕ) → k < length all → of_kind dollar (take (suc k) all) ≡ of_kind dollar (take k all) ++ kept_if (same_kind dollar (is_dollar (nth_arrow all k))) (nth_arrow all k) []
kind_suc dollar [] k l = absurd (omega (arith, l))
kind_suc dollar (a ∷ all) zero l = refl
kind_suc dollar (a ∷ all) (suc k) l = go (same_kind dollar (is_dollar a)) (kind_suc dollar all k (omega (arith, l)))
  where
    go : (b : Bool) → of_kind dollar (take (suc k) all) ≡ of_kind dollar (take k all) ++ kept_if (same_kind dollar (is_dollar (nth_arrow all k))) (nth_arrow all k) []
        → kept_if b a (of_kind dollar (take (suc k) all)) ≡ kept_if b a (of_kind dollar (take k all)) ++ kept_if (same_kind dollar (is_dollar (nth_arrow all k))) (nth_arrow all k) []
    go true h = ap (λ xs. a ∷ xs) h
    go false h = h

kind_more : (dollar : Bool) (all : List Found_arrow) (k : ℕ) → k < length all → of_kind dollar (take (k + 1) all) ≡ of_kind dollar (take k all) ++ kept_if (same_kind dollar (is_dollar (nth_arrow all k))) (nth_arrow all k) []
kind_more dollar all k l = ap (λ n. of_kind dollar (take n all)) (add-one k) ∙ kind_suc dollar all k l

pub one_longer : {A : Type 0} (xs : List A) (x : A) → length (xs ++ x ∷ []) ≡ length xs + 1
one_longer [] x = refl
one_longer (y ∷ xs) x = let h = one_longer xs x in omega (arith, h)

abbrev head_or : {X : Type 0} → X → List X → X
head_or d [] = d
head_or d (x ∷ xs) = x

abbrev tail_of : {X : Type 0} → List X → List X
tail_of [] = []
tail_of (x ∷ xs) = xs

pub seen_at : (all : List Met) (found : List Found_arrow) (k : ℕ) (d : Met) → k < length all → map met_seen all ≡ map arrow_seen found → met_seen (get_or all k d) ≡ arrow_seen (nth_arrow found k)
seen_at [] found k d l h = absurd (omega (arith, l))
seen_at (m ∷ all) [] k d l h = absurd (nothing (ap length h))
  where
    nothing : suc (length (map met_seen all)) ≡ 0 → ⊥
    nothing e = omega (arith, e)
seen_at (m ∷ all) (a ∷ found) zero d l h = ap (head_or (met_seen m)) h
seen_at (m ∷ all) (a ∷ found) (suc k) d l h = seen_at all found k d (omega (arith, l)) (ap tail_of h)

same_length : (all : List Met) (found : List Found_arrow) → map met_seen all ≡ map arrow_seen found → length all ≡ length found
same_length [] [] h = refl
same_length [] (a ∷ found) h = absurd (nothing (ap length h))
  where
    nothing : 0 ≡ suc (length (map arrow_seen found)) → ⊥
    nothing e = omega (arith, e)
same_length (m ∷ all) [] h = absurd (nothing (ap length h))
  where
    nothing : suc (length (map met_seen all)) ≡ 0 → ⊥
    nothing e = omega (arith, e)
same_length (m ∷ all) (a ∷ found) h = ap suc (same_length all found (ap tail_of h))

-- what the lists say of the arrow at a place
pub record At (known : Known) (found : List Found_arrow) (k : ℕ) (met : Met) (c : Captured) : Type 0 where
  pub below : k < length found
  pub seen : met_seen met ≡ arrow_seen (nth_arrow found k)
  pub names : c.names ≡ captures_of (nth_arrow found k)
  pub dollar : c.site.dollar ≡ is_dollar (nth_arrow found k)

pub at_place : (known : Known) (all : List Met) (found : List Found_arrow) (k : ℕ) (met : Met) (c : Captured) → k < length all → met ≡ get_or all k met → c ≡ get_or known.names.captures k c
    → map met_seen all ≡ map arrow_seen found → known.names.captures ≡ captured_after known.file [] found → At known found k met c
at_place known all found k met c l m e h g = record {
  below = below;
  seen = ap met_seen m ∙ seen_at all found k met l h;
  names = ap (λ x. x.names) entry;
  dollar = ap (λ x. x.site.dollar) entry;
}
  where
    below : k < length found
    below = let n = same_length all found h in omega (arith, n, l)

    entry : c ≡ entry_of known.file (take k found) (nth_arrow found k)
    entry = e ∙ ap (λ cs. get_or cs k c) g ∙ captured_at known.file [] found k c below

pub equal_by : (b c : Bool) → beq b c ≡ true → b ≡ c
equal_by true true e = refl
equal_by false false e = refl
equal_by true false e = absurd (false≢true e)
equal_by false true e = absurd (false≢true e)

pub differ_by : (b c : Bool) → beq b c ≡ false → b ≡ c → ⊥
differ_by true true e h = false≢true (sym e)
differ_by false false e h = false≢true (sym e)
differ_by true false e h = false≢true (sym h)
differ_by false true e h = false≢true h

same_itself : (b : Bool) → same_kind b b ≡ true
same_itself true = refl
same_itself false = refl

apart : (b c : Bool) → (b ≡ c → ⊥) → same_kind c b ≡ false
apart true true h = absurd (h refl)
apart true false h = refl
apart false true h = refl
apart false false h = absurd (h refl)

module _ (known : Known) (dollar : Bool) (found : List Found_arrow) (k : ℕ) (met : Met) (c : Captured) (at : At known found k met c) (fs : List Func) (h : IsKind known dollar (take k found) fs) where
  abbrev x : Found_arrow
  x = nth_arrow found k

  pub next_kept : c.site.dollar ≡ dollar → (f : Func) → code_of f ≡ record { file = known.file; captures = c.names; task = is_task (mark_of met.mark); params = met.arrow.params; body = met.arrow.body } → IsOf known f
      → IsKind known dollar (take (k + 1) found) (fs ++ f ∷ [])
  next_kept d f code of = record { codes = codes; each = each }
    where
      own : code_of f ≡ code_from known.file x
      own = code ∙ (λ i. record { file = known.file; captures = at.names i; task = is_task (at.seen i).1; params = (at.seen i).0.params; body = (at.seen i).0.body })

      kind : same_kind dollar (is_dollar x) ≡ true
      kind = ap (same_kind dollar) (sym at.dollar ∙ d) ∙ same_itself dollar

      codes : map code_of (fs ++ f ∷ []) ≡ map (code_from known.file) (of_kind dollar (take (k + 1) found))
      codes = map-append code_of fs (f ∷ []) ∙ ap (λ y. map code_of fs ++ y ∷ []) own ∙ ap (λ cs. cs ++ code_from known.file x ∷ []) h.codes
          ∙ sym (map-append (code_from known.file) (of_kind dollar (take k found)) (x ∷ []))
          ∙ ap (λ b. map (code_from known.file) (of_kind dollar (take k found) ++ kept_if b x [])) (sym kind)
          ∙ ap (map (code_from known.file)) (sym (kind_more dollar found k at.below))

      each : All (IsOf known) (fs ++ f ∷ [])
      each = All-push (IsOf known) fs f h.each of

  pub next_left : (c.site.dollar ≡ dollar → ⊥) → IsKind known dollar (take (k + 1) found) fs
  next_left d = record {
    codes = h.codes ∙ ap (map (code_from known.file)) (sym (append-nil (of_kind dollar (take k found)))
        ∙ ap (λ b. of_kind dollar (take k found) ++ kept_if b x []) (sym (apart (is_dollar x) dollar (λ e. d (at.dollar ∙ e))))
        ∙ sym (kind_more dollar found k at.below));
    each = h.each;
  }

pub none_yet : (known : Known) (dollar : Bool) (found : List Found_arrow) → IsKind known dollar (take 0 found) []
none_yet known dollar found = record { codes = refl; each = λ k d l. absurd (nothing k l) }
  where
    nothing : (k : ℕ) → k < 0 → ⊥
    nothing k l = omega (arith, l)

pub all_met : (known : Known) (dollar : Bool) (all : List Met) (found : List Found_arrow) (k : ℕ) (fs : List Func) → k ≡ min (length all) (length known.names.captures)
    → map met_seen all ≡ map arrow_seen found → known.names.captures ≡ captured_after known.file [] found → IsKind known dollar (take k found) fs → IsKind known dollar found fs
all_met known dollar all found k fs e h g kept = subst (λ xs. IsKind known dollar xs fs) (take_all k found enough) kept
  where
    enough : length found ≤ k
    enough = let m = same_length all found h in let c = ap length g ∙ captured_length known.file [] found in omega (arith, e, m, c)
