-- Changes of state objects, from what stands in their way.
use Rattle.std.proofs.Common.{◌≡◌, ◌<◌, Bool, true, false, List, [], length, Option, Some, None, Result, Ok, Err, refl, ap, ◌∙◌, sym, subst, arith}
use Rattle.std.proofs.lemmas.Bool.{ltb-true}
use Rattle.std.proofs.lemmas.List.{length-map}
use Rattle.qk_meaning.specs.Value as M
use Rattle.qk_meaning.specs.World as W
use Rattle.qk_meaning.specs.Fault as F
use Rattle.qk_meaning.specs.Heap.{is_made, object_at}
use Rattle.qk_meaning.specs.Writing.{Becoming, is_state, in_the_way, address_of}
use Rattle.qk_meaning.specs.Doing.{Doing, after}
use Rattle.qk_meaning.specs.Running.{Running, unless_fault}
use Rattle.qk_meaning.specs.Setting.{Setting, captures, is_effect}
use Rattle.qk_meaning.specs.References.{changed}
use Rattle.qk_value.specs.declared.fault.Fault.{Fault as Fault'}
use Rattle.qk_value.specs.declared.value.Addr.{Addr}
use Rattle.qk_value.specs.declared.value.Value.{Value}
use Rattle.qk_value.specs.View.{seen}
use Rattle.qk_heap.specs.declared.object.Object.{Object}
use Rattle.qk_heap.specs.declared.fault.HeapStop.{HeapStop}
use Rattle.qk_heap.specs.Told.{Told}
use Rattle.qk_heap.specs.Seen.{object_seen, heap_seen}
use Rattle.qk_heap.specs.Becoming.{HeapBecame, Refuses, AtFault}
use Rattle.qk_environment.specs.Scoping.{Captures}
use Rattle.qk_code.specs.declared.mode.Mode.{Mode}
use Rattle.qk_code.specs.declared.stop.Stop.{Stop}
use Rattle.qk_code.specs.declared.stop.Stop.TheVariants.{Fault}
use Rattle.qk_code.specs.Stops.{stop_of}
use Rattle.qk_code.specs.Modes.{mode_seen}
use Rattle.qk_making.specs.Acting.{Acts, seen_in}
use Rattle.qk_making.proofs.Acting.{acts_same, acts_faults, acts_changed, acts_refused}
use Rattle.qk_acts.specs.Ways.{in_way, WayTo}

-- ---- what is known of an address where nothing stands in the way

-- an object was made there, and it is a state object
abbrev open_at : Bool → Bool → Bool → Option F.Fault
open_at made state effect = elim made [ false ↦ Some F.NoProperty | true ↦ elim state [ false ↦ Some F.FixedWrite | true ↦ elim effect [ true ↦ None | false ↦ Some F.RenderWrite ] ] ]

opens : (made state effect : Bool) → open_at made state effect ≡ None → (made ≡ true) × (state ≡ true)
opens true true effect e = (refl, refl)
opens true false effect e = cc
opens false state effect e = cc

module _ (mode : Mode) (heap : List Object) (v : Value) (a : Addr) (way : WayTo mode heap v (Ok a)) where
  open_so : (captured : Captures) → (is_made (heap_seen captured heap) a.0 ≡ true) × (is_state (object_at (heap_seen captured heap) a.0) ≡ true)
  open_so captured = opens _ _ (is_effect (mode_seen mode)) (subst (λ w. in_way captured mode heap w ≡ None) way.0 (way.1 captured))

  pub made_at : a.0 < length heap
  made_at = let h : a.0 < length (heap_seen (λ s. []) heap) = ltb-true _ _ (open_so (λ s. [])).0 in omega (arith, h, length-map heap (object_seen (λ s. [])))

  pub state_at : (captured : Captures) → is_state (object_at (heap_seen captured heap) a.0) ≡ true
  state_at captured = (open_so captured).1

  pub seen_at : (captured : Captures) → seen captured v ≡ M.Ref a.0
  seen_at captured = ap (seen captured) way.0

-- ---- the way, then the change

module _ (here : Setting) (mode : Mode) (mode_is : here.mode ≡ mode_seen mode) (heap : List Object) (v : Value) where
  looked : (s : Running) → s.heap ≡ heap_seen (captures here) heap → in_the_way (is_effect here.mode) s.heap (seen_in here v) ≡ in_way (captures here) mode heap v
  looked s is = ap (λ h. in_the_way (is_effect here.mode) h (seen_in here v)) is ∙ ap (λ m. in_the_way (is_effect m) (heap_seen (captures here) heap) (seen_in here v)) mode_is

  module _ {A B : Type 0} (seen' : A → B) (next : Doing Running B) (told : List Told → Type 0) (r : Result A Stop) where
    -- nothing stands in the way
    pub acts_open : (a : Addr) (objects : List W.Object) (told' : List Told → Type 0) → WayTo mode heap v (Ok a)
        → Acts seen' next (heap_seen (captures here) heap) told r objects told'
        → Acts seen' (λ s. after (unless_fault (in_the_way (is_effect here.mode) s.heap (seen_in here v)) s) (λ u. next)) (heap_seen (captures here) heap) told r objects told'
    acts_open a objects told' way =
        acts_same seen' next _ (heap_seen (captures here) heap) objects told told' r
        (λ s is. sym (ap (λ w. after (unless_fault w s) (λ u. next)) (looked s is ∙ way.1 (captures here))))

    -- something does
    pub acts_shut : (f : Fault') → r ≡ Err (Fault f) → WayTo mode heap v (Err f)
        → Acts seen' (λ s. after (unless_fault (in_the_way (is_effect here.mode) s.heap (seen_in here v)) s) (λ u. next)) (heap_seen (captures here) heap) told r (heap_seen (captures here) heap) told
    acts_shut f stopped way =
        acts_faults seen' _ (heap_seen (captures here) heap) told r f stopped
        (λ s is. ap (λ w. after (unless_fault w s) (λ u. next)) (looked s is ∙ way (captures here)))

  -- the object becomes what a change makes of it
  pub acts_turned : {X : Type 0} (stands_for : X → List Told → Type 0) (before later : X) (a : Addr) (change : W.Object → Becoming) (new : List Object) → WayTo mode heap v (Ok a)
      → HeapBecame stands_for (captures here) a.0 (change (object_at (heap_seen (captures here) heap) a.0)) heap new before later
      → Acts (λ (u : Unit {0}). u) (changed here (address_of (seen_in here v)) change) (heap_seen (captures here) heap) (stands_for before) (Ok tt) (heap_seen (captures here) new) (stands_for later)
  acts_turned stands_for before later a change new way h =
      subst (λ n. Acts (λ (u : Unit {0}). u) (changed here n change) (heap_seen (captures here) heap) (stands_for before) (Ok tt) (heap_seen (captures here) new) (stands_for later))
      (sym (ap address_of (seen_at mode heap v a way (captures here))))
      (acts_changed stands_for here a.0 change heap before later new h)

  -- the change is refused, and the heap stays
  pub acts_kept : {A : Type 0} (seen' : A → Unit {0}) {X : Type 0} (stands_for : X → List Told → Type 0) (before later : X) (a : Addr) (change : W.Object → Becoming) (new : List Object) (r : Result A Stop) (e : HeapStop)
      → r ≡ Err (stop_of e) → new ≡ heap → WayTo mode heap v (Ok a) → Refuses e (change (object_at (heap_seen (captures here) heap) a.0)) → AtFault e (later ≡ before)
      → Acts seen' (changed here (address_of (seen_in here v)) change) (heap_seen (captures here) heap) (stands_for before) r (heap_seen (captures here) new) (stands_for later)
  acts_kept seen' stands_for before later a change new r e stopped stays way refuses silent =
      rw stays (subst (λ n. Acts seen' (changed here n change) (heap_seen (captures here) heap) (stands_for before) r (heap_seen (captures here) heap) (stands_for later))
      (sym (ap address_of (seen_at mode heap v a way (captures here))))
      (acts_refused stands_for here a.0 change heap before later seen' r e stopped refuses silent))

-- nothing was told
pub at_fault : {P : Type 0} (e : HeapStop) → P → AtFault e P
at_fault (HeapStop.Fault f) h = h
at_fault HeapStop.Memory h = tt
