-- A heap after a change of the object at an address, beside the definition's.
use Rattle.std.specs.Prelude.{◌≡◌, ℕ, zero, suc, ◌<◌, List, [], ◌∷◌, length, set, get_or, slice_get, Option, Some, None}
use Rattle.std.proofs.Common.{sym, ◌∙◌, ap, subst, arith, is_some, true≢false, Result, Ok, Err, OnOk, IfOk, IfErr}
use Rattle.std.proofs.lemmas.List.{map-set}
use Rattle.qk_ast.specs.Texts.{Text}
use Rattle.qk_meaning.specs.Value.{Site}
use Rattle.qk_meaning.specs.World as M
use Rattle.qk_meaning.specs.Heap.{object_at}
use Rattle.qk_meaning.specs.Writing.{Becoming}
use Rattle.qk_meaning.specs.Changes.{changed_in}
use Rattle.qk_heap.specs.declared.object.Object.{Object}
use Rattle.qk_heap.specs.Told.{Told, Hears, keys_changed, all_changed}
use Rattle.qk_heap.specs.Seen.{object_seen, heap_seen}
use Rattle.qk_heap.specs.Becoming.{Became, HeapBecame, Refuses, IsArray, HoldsArray}
use Rattle.qk_meaning.specs.Same.{same}
use Rattle.qk_meaning.specs.Props.{fields_after, props_log}
use Rattle.qk_meaning.specs.Execution.{fields_of}
use Rattle.qk_value.specs.declared.value.Value.{Value}
use Rattle.qk_value.specs.View.{seen_fields}
use Rattle.qk_heap.specs.Set_props.{IsProps, HoldsProps, ObjectPropsSet, HeapPropsSet}
use Rattle.qk_heap.specs.declared.fault.HeapStop.{HeapStop}

module _ (names : Site → List Text) where
  pub object_there : (objects : List Object) (a : ℕ) (o : Object) → a < length objects → o ≡ get_or objects a o → object_at (heap_seen names objects) a ≡ object_seen names o
  object_there [] a o h e = absurd (omega (arith, h))
  object_there (x ∷ objects) zero o h e = ap (object_seen names) (sym e)
  object_there (x ∷ objects) (suc a) o h e = object_there objects a o (omega (arith, h)) e

  pub heap_became : {W : Type 0} (stands_for : W → List Told → Type 0) (a : ℕ) (becoming : M.Object → Becoming) (objects after : List Object) (o p : Object) (u w : W)
      → a < length objects → o ≡ get_or objects a o → after ≡ set objects a p
      → Became stands_for names a (becoming (object_seen names o)) o p u w
      → HeapBecame stands_for names a (becoming (object_at (heap_seen names objects) a)) objects after u w
  heap_became stands_for a becoming objects after o p u w h e is became =
      let there = object_there objects a o h e in
      record {
        object = object_seen names p;
        becomes = ap becoming there ∙ became.becomes;
        heap = ap (heap_seen names) is ∙ map-set (object_seen names) objects a p;
        told = subst (λ x. Hears stands_for u (keys_changed a (changed_in names x (object_seen names p))) w) (sym there) became.told;
      }

pub on_ok : {A E P Q : Type 0} (r : Result A E) → (P → Q) → OnOk r P → OnOk r Q
on_ok (Ok a) f h = f h
on_ok (Err e) f h = tt

pub if_ok : {A E : Type 0} {P Q : A → Type 0} (r : Result A E) → ((a : A) → P a → Q a) → IfOk r P → IfOk r Q
if_ok (Ok a) f h = f a h
if_ok (Err e) f h = tt

pub if_err : {A E : Type 0} {P Q : E → Type 0} (r : Result A E) → ((e : E) → P e → Q e) → IfErr r P → IfErr r Q
if_err (Ok a) f h = tt
if_err (Err e) f h = f e h

pub refuses_there : (names : Site → List Text) (becoming : M.Object → Becoming) (objects : List Object) (a : ℕ) (o : Object) → a < length objects → o ≡ get_or objects a o
    → (e : HeapStop) → Refuses e (becoming (object_seen names o)) → Refuses e (becoming (object_at (heap_seen names objects) a))
refuses_there names becoming objects a o h is e = subst (λ x. Refuses e (becoming x)) (sym (object_there names objects a o h is))

-- ---- what kind of object stands at an address

got : (objects : List Object) (a : ℕ) (o p : Object) → slice_get objects a ≡ Some p → get_or objects a o ≡ p
got [] a o p e = absurd (true≢false (sym (ap is_some e)))
got (x ∷ objects) zero o p e = ap here e
  where
    here : Option Object → Object
    here None = x
    here (Some y) = y
got (x ∷ objects) (suc a) o p e = got objects a o p e

pub array_there : (objects : List Object) (a : ℕ) (o : Object) → HoldsArray objects a → o ≡ get_or objects a o → IsArray o
array_there objects a o h e = subst IsArray (sym (e ∙ got objects a o (Object.Array h.0) h.1)) tt

pub props_there : (objects : List Object) (a : ℕ) (o : Object) → HoldsProps objects a → o ≡ get_or objects a o → IsProps o
props_there objects a o h e = subst IsProps (sym (e ∙ got objects a o (Object.Props h.0) h.1)) tt

pub heap_props_set : (names : Site → List Text) {W : Type 0} (stands_for : W → List Told → Type 0) (a : ℕ) (given : List (Text × Value)) (objects after : List Object) (o p : Object) (u w : W)
    → a < length objects → o ≡ get_or objects a o → after ≡ set objects a p → ObjectPropsSet stands_for names a given o p u w → HeapPropsSet stands_for names a given objects after u w
heap_props_set names stands_for a given objects after o p u w h e is became =
    let there = object_there names objects a o h e in
    record {
      heap = ap (heap_seen names) is ∙ map-set (object_seen names) objects a p ∙ ap (set (heap_seen names objects) a) (became.object ∙ ap (λ x. M.Props (fields_after (same names) (fields_of x) (seen_fields names given))) (sym there));
      told = subst (λ x. Hears stands_for u (all_changed (props_log (same names) a (fields_of x) (seen_fields names given))) w) (sym there) became.told;
    }
