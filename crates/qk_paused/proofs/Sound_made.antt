-- In a sound world each address that is met was made.
use Rattle.std.specs.Prelude.{ℕ, Bool, true, false, List, [], ◌∷◌, ◌++◌, length}
use Rattle.qk_ast.specs.Texts.{same_text}
use Rattle.qk_meaning.specs.Value.{Text, Site, Value, Undefined, Null, Truth, Int, Words, Ref, Items, Record, Elem, Closure, Lifted, Values, none, item, Fields, end, field}
use Rattle.qk_meaning.specs.World.{Object, Plain, Array, Signal, Computed, Props, Hook, Instance, World}
use Rattle.qk_meaning.specs.Heap.{object_at}
use Rattle.qk_meaning.specs.Walk.{Seen, named, behind_names, behind_all, function_seen, seen_in, seen_in_items, seen_behind, seen_in_object, seen_in_hooks, seen_in_instances}
use Rattle.qk_paused.specs.Sound.{Each_made, none_met, address_met, plain_met, hidden_met, Made, Value_made, Values_made, Fields_made, Object_made, Hooks_sound, no_hooks, kept_sound, provided_sound, task_sound, Instances_sound, no_instances, instance_sound, Sound}

joined : {n : ℕ} {s s' : List Seen} → Each_made n s → Each_made n s' → Each_made n (s ++ s')
joined none_met k = k
joined (address_met m h) k = address_met m (joined h k)
joined (plain_met h) k = plain_met (joined h k)
joined (hidden_met h) k = hidden_met (joined h k)

chosen_met : {n : ℕ} {s u : List Seen} (c : Bool) → Each_made n s → Each_made n u → Each_made n (elim c as (λ y. List Seen) [ true ↦ s | false ↦ u ])
chosen_met true p q = p
chosen_met false p q = q

functions_met : {n : ℕ} (dollar hidden : Bool) {s : List Seen} → Each_made n s → Each_made n (function_seen dollar hidden s)
functions_met true true h = hidden_met none_met
functions_met false true h = hidden_met none_met
functions_met true false h = h
functions_met false false h = plain_met h

module _ (captures : Site → List Text) (n : ℕ) where
  names_met : (names : List Text) (f : Fields) → ((name : Text) → Each_made n (named [] name (seen_behind captures f))) → Each_made n (behind_names names (seen_behind captures f))
  names_met [] f h = none_met
  names_met (name ∷ names) f h = joined (h name) (names_met names f h)

  mutual
    value_met : (v : Value) → Value_made n v → Each_made n (seen_in captures v)
    value_met Undefined h = none_met
    value_met Null h = none_met
    value_met (Truth b) h = none_met
    value_met (Int i) h = none_met
    value_met (Words t) h = none_met
    value_met (Ref a) h = address_met h none_met
    value_met (Items all) h = items_met all h
    value_met (Record all) h = fields_met all h
    value_met (Elem shown key slot f v) h = joined (fields_met f h.0) (items_met v h.1)
    value_met (Closure site env hidden) h = functions_met site.dollar hidden (names_met (captures site) env (λ name. named_met name env h))
    value_met (Lifted symbol v hidden) h = functions_met true hidden (items_met v h)

    items_met : (v : Values) → Values_made n v → Each_made n (seen_in_items captures v)
    items_met none h = none_met
    items_met (item v rest) h = joined (value_met v h.0) (items_met rest h.1)

    fields_met : (f : Fields) → Fields_made n f → Each_made n (behind_all (seen_behind captures f))
    fields_met end h = none_met
    fields_met (field k v rest) h = joined (value_met v h.0) (fields_met rest h.1)

    named_met : (name : Text) (f : Fields) → Fields_made n f → Each_made n (named [] name (seen_behind captures f))
    named_met name end h = none_met
    named_met name (field k v rest) h = chosen_met (same_text k name) (value_met v h.0) (named_met name rest h.1)

  object_met : (o : Object) → Object_made n o → Each_made n (seen_in_object captures o)
  object_met (Plain f) h = fields_met f h
  object_met (Array v) h = items_met v h
  object_met (Signal v) h = value_met v h
  object_met (Computed f) h = value_met f h
  object_met (Props f) h = fields_met f h

  hooks_met : {logged : ℕ} {all : List Hook} → Hooks_sound n logged all → Each_made n (seen_in_hooks captures all)
  hooks_met no_hooks = none_met
  hooks_met (kept_sound {v = v} m h) = joined (value_met v m) (hooks_met h)
  hooks_met (provided_sound {v = v} m h) = joined (value_met v m) (hooks_met h)
  hooks_met (task_sound {task = task} m b l h) = joined (value_met task.run m) (hooks_met h)

  instances_met : {logged : ℕ} {all : List Instance} → Instances_sound n logged all → Each_made n (seen_in_instances captures all)
  instances_met no_instances = none_met
  instances_met (instance_sound {i = i} p h v r hs) = joined (address_met p (joined (hooks_met h) (value_met i.view v))) (instances_met hs)

pub met_made : (captures : Site → List Text) (w : World) → Sound w → Made captures w
met_made captures w s =
    record {
      instances = instances_met captures (length w.heap) s.instances;
      objects = λ a. object_met captures (length w.heap) (object_at w.heap a) (s.objects a);
    }
