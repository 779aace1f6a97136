-- What of a heap stands at an address, as the meaning has it.
use Rattle.std.proofs.Common.{◌≡◌, ℕ, ◌≤◌, zero, suc, true, false, List, [], ◌∷◌, length, Option, Some, None, refl, ap, ◌∙◌, sym, arith}
use Rattle.std.specs.Prelude.{slice_get}
use Rattle.std.specs.Option.{option_map}
use Rattle.std.proofs.lemmas.Bool.{lt-ltb, le-ltb, false≢true}
use Rattle.std.proofs.lemmas.List.{length-map}
use Rattle.std.proofs.lemmas.Option.{slice_get-map, slice_get_within}
use Rattle.qk_ast.specs.Texts.{Text}
use Rattle.qk_meaning.specs.Value.{Site}
use Rattle.qk_meaning.specs.Heap.{is_made, object_at, object_or_empty}
use Rattle.qk_meaning.specs.Methods.{is_array}
use Rattle.qk_heap.specs.declared.object.Object.{Object}
use Rattle.qk_heap.specs.Seen.{object_seen, heap_seen}
use Rattle.qk_heap.specs.Becoming.{HoldsArray}

past : {A : Type 0} (all : List A) (a : ℕ) → slice_get all a ≡ None → length all ≤ a
past [] a e = omega arith
past (x ∷ all) zero e = cc
past (x ∷ all) (suc a) e = let h : length all ≤ a = past all a e in omega (arith, h)

module _ (names : Site → List Text) where
  pub none_made : (heap : List Object) (a : ℕ) → slice_get heap a ≡ None → is_made (heap_seen names heap) a ≡ false
  none_made heap a e = le-ltb a (length (heap_seen names heap)) (omega (arith, past heap a e, length-map heap (object_seen names)))

  pub was_made : (heap : List Object) (a : ℕ) (o : Object) → slice_get heap a ≡ Some o → is_made (heap_seen names heap) a ≡ true
  was_made heap a o e = lt-ltb a (length (heap_seen names heap)) (omega (arith, slice_get_within heap a o e, length-map heap (object_seen names)))

  pub seen_there : (heap : List Object) (a : ℕ) (o : Object) → slice_get heap a ≡ Some o → object_at (heap_seen names heap) a ≡ object_seen names o
  seen_there heap a o e = ap object_or_empty (slice_get-map (object_seen names) heap a ∙ ap (λ x. option_map (object_seen names) x) e)

  pub empty_there : (heap : List Object) (a : ℕ) → slice_get heap a ≡ None → object_at (heap_seen names heap) a ≡ object_or_empty None
  empty_there heap a e = ap object_or_empty (slice_get-map (object_seen names) heap a ∙ ap (λ x. option_map (object_seen names) x) e)

  -- where the meaning has an array, there is one
  pub array_held : (heap : List Object) (a : ℕ) → is_array (object_at (heap_seen names heap) a) ≡ true → HoldsArray heap a
  array_held heap a e = by (slice_get heap a) refl
    where
      at : (o : Object) → slice_get heap a ≡ Some o → is_array (object_seen names o) ≡ true → HoldsArray heap a
      at (Object.Array items) s k = (items, s)
      at (Object.Plain fields) s k = absurd (false≢true k)
      at (Object.Signal v) s k = absurd (false≢true k)
      at (Object.Computed f) s k = absurd (false≢true k)
      at (Object.Props fields) s k = absurd (false≢true k)

      by : (o : Option Object) → slice_get heap a ≡ o → HoldsArray heap a
      by (Some o) s = at o s (sym (ap is_array (seen_there heap a o s)) ∙ e)
      by None s = absurd (false≢true (sym (ap is_array (empty_there heap a s)) ∙ e))
