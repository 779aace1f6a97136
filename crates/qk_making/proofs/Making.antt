-- What is left as it is, and objects that are made.
use Rattle.std.specs.Prelude.{◌≡◌, List, [], ◌∷◌, ◌++◌, length, Result, Ok}
use Rattle.std.proofs.Common.{sym, ◌∙◌, ap, subst}
use Rattle.std.proofs.lemmas.List.{length-map, map-append}
use Rattle.qk_meaning.specs.Value as M
use Rattle.qk_meaning.specs.World as W
use Rattle.qk_meaning.specs.Doing.{Doing, Gives}
use Rattle.qk_meaning.specs.Running.{Running, made_object}
use Rattle.qk_meaning.specs.Setting.{Setting, captures}
use Rattle.qk_value.specs.declared.value.Addr.{Addr}
use Rattle.qk_value.specs.declared.value.Value.TheVariants as v
use Rattle.qk_heap.specs.declared.object.Object.{Object}
use Rattle.qk_heap.specs.Seen.{object_seen, heap_seen}
use Rattle.qk_code.specs.declared.stop.Stop.{Stop}
use Rattle.qk_making.specs.Acting.{Comes_to, Leaves, Makes, seen_in}

-- ---- outcomes

module _ {A B : Type 0} (seen : A → B) where
  -- what is meant so is left so
  pub so_meant : (one other : Doing Running B) (result : Result A Stop) → other ≡ one → Leaves seen one result → Leaves seen other result
  so_meant one other result e h = subst (λ meaning. Leaves seen meaning result) (sym e) h

  pub so_made : (one other : Doing Running B) (objects : List W.Object) (result : Result A Stop) (objects' : List W.Object) → other ≡ one → Makes seen one objects result objects' → Makes seen other objects result objects'
  so_made one other objects result objects' e h = subst (λ meaning. Makes seen meaning objects result objects') (sym e) h

  -- where no object is made, the objects stay
  pub none_made : (meaning : Doing Running B) (objects : List W.Object) (result : Result A Stop) → Leaves seen meaning result → Makes seen meaning objects result objects
  none_made meaning objects result h = λ s e. subst (λ heap. Comes_to seen (meaning s) result (record s { heap = heap })) e (h s)

-- ---- objects

pub one_made : (here : Setting) (o : Object) (objects after : List Object) (a : Addr) → a.0 ≡ length objects → after ≡ objects ++ o ∷ []
    → Makes (seen_in here) (made_object (object_seen (captures here) o)) (heap_seen (captures here) objects) (Ok (v.Ref a)) (heap_seen (captures here) after)
one_made here o objects after a next is = λ s e.
    let last : W.Object = object_seen (captures here) o in
    let address : length s.heap ≡ a.0 = ap length e ∙ length-map objects (object_seen (captures here)) ∙ sym next in
    let heap : s.heap ++ last ∷ [] ≡ heap_seen (captures here) after =
    ap (λ before. before ++ last ∷ []) e ∙ sym (map-append (object_seen (captures here)) objects (o ∷ [])) ∙ ap (heap_seen (captures here)) (sym is) in
    λ i. Gives (M.Ref (address i)) (record s { heap = heap i })
