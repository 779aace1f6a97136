-- The set of exports, as it grows, and what it says of names.
use Rattle.std.specs.Prelude.{◌≡◌, refl, ℕ, ◌+◌, ◌<◌, Bool, true, false, ◌&&◌, ◌||◌, List, ◌∷◌, Some, None, Option, drop, length, bytes_eq, codes}
use Rattle.std.proofs.Common.{ap, sym, ◌∙◌, cond, get_or, add-one, suc}
use Rattle.std.proofs.Math.Seq.{drop-cons}
use Rattle.std.specs.Borrow.{Bor}
use Rattle.std.specs.declared.cmp.Ordering.{Ordering}
use Rattle.std.specs.declared.cmp.Ordering.TheVariants.{Less, Equal, Greater}
use Rattle.std.specs.Ordering.{is_eq, nat_cmp, ordering_then}
use Rattle.std.specs.Cmp.Lexicographic.{slice_cmp}
use Rattle.std.specs.BTreeSet.{Updates}
use Rattle.std.proofs.lemmas.Map.Text.{is_eq-slice_cmp}
use Rattle.qk_ast.specs.declared.Item.{Item}
use Rattle.qk_ast.specs.Texts.{Text, same_text, is_among}
use Rattle.qk_ast.specs.Framework.{framework, framework_names}
use Rattle.qk_modules.specs.declared.modules.NamedModule.{NamedModule}
use Rattle.qk_modules.specs.Gathering.{exported_in, one_exports, named_by, is_exported, missing_of, first_missing, root}
use Rattle.qk_modules.specs.Exporting.{Pairs, has_pair, HoldsExports, is_in_set}

pub drop_step : {A : Type 0} (l : List A) (i : ℕ) (x : A) → i < length l → x ≡ get_or l i x → drop i l ≡ x ∷ drop (i + 1) l
drop_step l i x h e = rw (add-one, drop-cons l i x h) (ap (λ y. y ∷ drop (suc i) l) (sym e))

abbrev pair_cmp : Bor (List ℕ) × Bor (List ℕ) → Bor (List ℕ) × Bor (List ℕ) → Ordering
pair_cmp x y = ordering_then (slice_cmp nat_cmp x.0.now y.0.now) (slice_cmp nat_cmp x.1.now y.1.now)

abbrev on_loan : Text → Bor (List ℕ)
on_loan t = record { ref_ptr = (0, 0); now = t }

both_equal : (a b : Ordering) → is_eq (ordering_then a b) ≡ (is_eq a && is_eq b)
both_equal Less b = refl
both_equal Equal b = refl
both_equal Greater b = refl

pair_is : (m n a b : Text) → is_eq (ordering_then (slice_cmp nat_cmp m a) (slice_cmp nat_cmp n b)) ≡ (bytes_eq m a && bytes_eq n b)
pair_is m n a b = both_equal (slice_cmp nat_cmp m a) (slice_cmp nat_cmp n b) ∙ ap (λ x. x && is_eq (slice_cmp nat_cmp n b)) (is_eq-slice_cmp m a) ∙ ap (λ x. bytes_eq m a && x) (is_eq-slice_cmp n b)

pair_more : (old new : Pairs) (k : Bor (List ℕ) × Bor (List ℕ)) → Updates pair_cmp old new k true → (m n : Text)
    → has_pair new m n ≡ cond (same_text k.0.now m && same_text k.1.now n) true (has_pair old m n)
pair_more old new k updated m n = updated.0 (on_loan m, on_loan n) ∙ ap (λ b. cond b true (has_pair old m n)) (pair_is k.0.now k.1.now m n)

-- a name that is exported, as it enters the set
entered : (h s i r : Bool) → (cond (s && i) true h || (s && r)) ≡ (h || (s && (i || r)))
entered true true true r = refl
entered true true false r = refl
entered true false i r = refl
entered false true true r = refl
entered false true false r = refl
entered false false i r = refl

module _ (name : Text) (items : List Item) (i : ℕ) (item : Item) (within : i < length items) (there : item ≡ get_or items i item) where
  pub item_entered : (old new : Pairs) (k : Bor (List ℕ) × Bor (List ℕ)) → Updates pair_cmp old new k true → k.0.now ≡ name → k.1.now ≡ item.name → item.exported ≡ true → (m n : Text)
      → (has_pair new m n || (same_text name m && exported_in (drop (i + 1) items) n)) ≡ (has_pair old m n || (same_text name m && exported_in (drop i items) n))
  item_entered old new k updated e f out m n =
      ap (λ b. b || (same_text name m && exported_in (drop (i + 1) items) n))
      (pair_more old new k updated m n ∙ ap (λ (t : Text). cond (same_text t m && same_text k.1.now n) true (has_pair old m n)) e ∙ ap (λ (t : Text). cond (same_text name m && same_text t n) true (has_pair old m n)) f)
      ∙ entered (has_pair old m n) (same_text name m) (same_text item.name n) (exported_in (drop (i + 1) items) n)
      ∙ ap (λ b. has_pair old m n || (same_text name m && ((b && same_text item.name n) || exported_in (drop (i + 1) items) n))) (sym out)
      ∙ ap (λ l. has_pair old m n || (same_text name m && exported_in l n)) (sym (drop_step items i item within there))

  pub item_skipped : (set : Pairs) → item.exported ≡ false → (m n : Text)
      → (has_pair set m n || (same_text name m && exported_in (drop (i + 1) items) n)) ≡ (has_pair set m n || (same_text name m && exported_in (drop i items) n))
  item_skipped set kept m n =
      ap (λ b. has_pair set m n || (same_text name m && ((b && same_text item.name n) || exported_in (drop (i + 1) items) n))) (sym kept)
      ∙ ap (λ l. has_pair set m n || (same_text name m && exported_in l n)) (sym (drop_step items i item within there))

-- ---- what the set says

in_set : (set : Pairs) (modules : List NamedModule) → HoldsExports set modules → (source name : Text) → is_in_set set source name ≡ is_exported modules source name
in_set set modules h source name = ap (λ (f : Text → Bool). elim (same_text source framework) as (λ _. Bool) [ true ↦ is_among name framework_names | false ↦ elim (named_by source) as (λ _. Bool) [ Some m ↦ f m | None ↦ false ] ]) (λ j m. h m name j)

pub by_set : (set : Pairs) (modules : List NamedModule) → HoldsExports set modules → is_in_set set ≡ is_exported modules
by_set set modules h = λ j source name. in_set set modules h source name j

-- the first missing name, by the set
pub missing_some : (set : Pairs) (modules : List NamedModule) (p : Text × Text) → HoldsExports set modules → missing_of (is_in_set set) modules ≡ Some p → Some p ≡ first_missing modules
missing_some set modules p h e =
    sym (ap (λ (o : Option (Text × Text)). elim o as (λ _. Option (Text × Text)) [
      | Some p ↦ Some p
      | None ↦ elim (one_exports modules root (codes "App")) as (λ _. Option (Text × Text)) [ true ↦ None | false ↦ Some (root, codes "App") ]
    ]) (ap (λ f. missing_of f modules) (sym (by_set set modules h)) ∙ e))

pub missing_none : (set : Pairs) (modules : List NamedModule) (b : Bool) → HoldsExports set modules → missing_of (is_in_set set) modules ≡ None → has_pair set root (codes "App") ≡ b
    → first_missing modules ≡ (elim b as (λ _. Option (Text × Text)) [ true ↦ None | false ↦ Some (root, codes "App") ])
missing_none set modules b h e f =
    ap (λ (o : Option (Text × Text)). elim o as (λ _. Option (Text × Text)) [
      | Some p ↦ Some p
      | None ↦ elim (one_exports modules root (codes "App")) as (λ _. Option (Text × Text)) [ true ↦ None | false ↦ Some (root, codes "App") ]
    ]) (ap (λ f. missing_of f modules) (sym (by_set set modules h)) ∙ e)
    ∙ ap (λ (b : Bool). elim b as (λ _. Option (Text × Text)) [ true ↦ None | false ↦ Some (root, codes "App") ]) (sym (h root (codes "App")) ∙ f)
