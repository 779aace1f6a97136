use Rattle.std.proofs.Common.{refl, ap, subst, sym, ◌∙◌, rules, arith, Err, drop, ◌+◌}
use Rattle.qk_value.specs.View.{seen, seen_all, shown_by, seen_fields}
use Rattle.qk_value.proofs.Viewing.{seen-Elem}
use Rattle.qk_meaning.specs.Expansion.{expand_item, elem_with, slot_with, in_order, placed, placed_from, for_slot, Tagged, Inside, view_with, children_of}
use Rattle.qk_meaning.specs.Value.{item, none}
use Rattle.qk_meaning.specs.Doing.{Gives}
use Rattle.qk_meaning.specs.Html.{nodes_count}
use Rattle.qk_nodes.specs.Tree.{path_of, nodes_of}
use Rattle.qk_nodes.proofs.Seeing.{joined-none}
use Rattle.qk_tree.specs.Giving.{given_of}
use Rattle.qk_tree.specs.Doings.{met_at, behind, Did, Gave, Comes_to}
use Rattle.qk_tree.proofs.Keeping.{expands, in_orders}
use Rattle.qk_tree.proofs.Sequences.{ends, stops_at, goes_on, skips, next_item, none_left}
use Rattle.qk_tree.proofs.Giving.{given_to, a_slot}
use Rattle.qk_tree.proofs.Stepless.{stepless}
use Rattle.qk_tree.proofs.Steps.{too_deep, a_list, an_element, a_leaf, a_tag, a_view, stops_so, gives_so, whenever, wraps_all, wraps_stop, no_room_around, no_room_behind, meets_stop, pushed_element, pushed_instance}
use Rattle.qk_tree.proofs.walk.+walk.Goals as goal
use Rattle.qk_tree.proofs.walk.+walk.Goals.{in_order-then-is_shown+in_ok-one, in_order-else-is_shown+in-Keyed-1, in_order-else-is_shown+in-Nth-1}

-- ---- sequences

pub in_order-loop-item-init : goal.in_order-loop-item-init
in_order-loop-item-init g t c = (omega arith, refl, λ w f. (f, λ s k. record { state = s; stands_so = k; is = refl; room_is = refl }))

pub in_order-returns-clause-told : goal.in_order-returns-clause-told
in_order-returns-clause-told g t c = λ w f.
    let h = c.loop-item.invariant.2 w f in (
      h.0,
      λ s k. ends (g.V.Visit.stands w c.loop-item.visit) (g.V.Visit.refused w c.loop-item.visit)
          (expand_item (g.V.Visit.visits w) c.args.left (path_of c.args.path.now.items) (given_of (g.V.Visit.names w) c.args.given.now)) c.args.only.now _ _ _ _ c.loop-item.number _
          (none_left (g.V.Visit.names w) c.args.items.now c.loop-item.item-index c.loop-item-test.false) (h.1 s k),
    )

pub in_order-returns-in_err-one-clause-told : goal.in_order-returns-in_err-one-clause-told
in_order-returns-in_err-one-clause-told g t c = λ w f.
    let told = c.in_err-one.ensures.told w f in
    let h = c.loop-item.invariant.2 w told.0 in (
      h.0,
      λ s k. stops_at (g.V.Visit.stands w c.one.new.visit) (g.V.Visit.refused w c.one.new.visit)
          (expand_item (g.V.Visit.visits w) c.args.left (path_of c.args.path.now.items) (given_of (g.V.Visit.names w) c.args.given.now)) c.args.only.now
          (λ why. expands (g.V.Visit.refused w c.one.new.visit why) (g.V.Visit.visits w) (λ met. g.met.V.Visit.still w c.one.new.visit why met) c.args.left (path_of c.args.path.now.items) (given_of (g.V.Visit.names w) c.args.given.now))
          (g.V.Visit.stands w c.loop-item.visit) _ _ _ (nodes_of (g.V.Visit.names w) c.one.new.out.items) _ c.one.new.room _ _ _ _ _ _ c.in_err-one.field-0.0 c.from_residual-in_err-one.result
          (search rules)
          (next_item (g.V.Visit.names w) c.args.items.now c.loop-item.item-index c.item-item.result c.loop-item-test.true c.item-item.is)
          (c.in_ok-place.ensures.place (g.V.Visit.names w) (λ m. placed_from m (seen_all (g.V.Visit.names w) (drop (c.loop-item.item-index + 1) c.args.items.now))))
          (sym c.if-is_shown.true ∙ c.is_shown.ensures (g.V.Visit.names w))
          _ (ap (λ ps. expand_item (g.V.Visit.visits w) c.args.left (path_of ps) (given_of (g.V.Visit.names w) c.args.given.now)) c.loop-item.invariant.1)
          (h.1 s k) (told.1 (h.1 s k).state (h.1 s k).stands_so),
    )

pub in_order-loop-item-preserved : goal.in_order-loop-item-preserved
in_order-loop-item-preserved g t c = elim c.if-is_shown.branch [
  | in_order-then-is_shown+in_ok-one b ↦ rw (b.visit-is, b.path-is, b.room-is, b.out-is) (
    omega (arith, c.loop-item.invariant.0, c.in_ok-place.ensures.counted),
    b.in_ok-one.ensures.path ∙ c.loop-item.invariant.1,
    λ w f.
        let told = b.in_ok-one.ensures.told w f in
        let h = c.loop-item.invariant.2 w told.0 in (
          h.0,
          λ s k. goes_on (g.V.Visit.stands w b.one.new.visit) (g.V.Visit.refused w b.one.new.visit)
              (expand_item (g.V.Visit.visits w) c.args.left (path_of c.args.path.now.items) (given_of (g.V.Visit.names w) c.args.given.now)) c.args.only.now
              (g.V.Visit.stands w c.loop-item.visit) _ _ _ _ _ _ _ _ _ _ _ _
              (next_item (g.V.Visit.names w) c.args.items.now c.loop-item.item-index c.item-item.result c.loop-item-test.true c.item-item.is)
              (c.in_ok-place.ensures.place (g.V.Visit.names w) (λ m. placed_from m (seen_all (g.V.Visit.names w) (drop (c.loop-item.item-index + 1) c.args.items.now))))
              (sym b.if-is_shown.true ∙ c.is_shown.ensures (g.V.Visit.names w))
              _ (ap (λ ps. expand_item (g.V.Visit.visits w) c.args.left (path_of ps) (given_of (g.V.Visit.names w) c.args.given.now)) c.loop-item.invariant.1)
              (h.1 s k) (told.1 (h.1 s k).state (h.1 s k).stands_so),
        ),
  )
  | in_order-else-is_shown+in-Keyed-1 b ↦ rw (b.visit-is, b.path-is, b.room-is, b.out-is) (
    omega (arith, c.loop-item.invariant.0, c.in_ok-place.ensures.counted),
    c.loop-item.invariant.1,
    λ w f.
        let h = c.loop-item.invariant.2 w f in (
          h.0,
          λ s k. skips (g.V.Visit.stands w c.loop-item.visit) (g.V.Visit.refused w c.loop-item.visit)
              (expand_item (g.V.Visit.visits w) c.args.left (path_of c.args.path.now.items) (given_of (g.V.Visit.names w) c.args.given.now)) c.args.only.now _ _ _ _ _ _ _ _ _ _
              (next_item (g.V.Visit.names w) c.args.items.now c.loop-item.item-index c.item-item.result c.loop-item-test.true c.item-item.is)
              (c.in_ok-place.ensures.place (g.V.Visit.names w) (λ m. placed_from m (seen_all (g.V.Visit.names w) (drop (c.loop-item.item-index + 1) c.args.items.now))))
              (sym b.if-is_shown.false ∙ c.is_shown.ensures (g.V.Visit.names w))
              (h.1 s k),
        ),
  )
  | in_order-else-is_shown+in-Nth-1 b ↦ rw (b.visit-is, b.path-is, b.room-is, b.out-is) (
    omega (arith, c.loop-item.invariant.0, c.in_ok-place.ensures.counted),
    c.loop-item.invariant.1,
    λ w f.
        let h = c.loop-item.invariant.2 w f in (
          h.0,
          λ s k. skips (g.V.Visit.stands w c.loop-item.visit) (g.V.Visit.refused w c.loop-item.visit)
              (expand_item (g.V.Visit.visits w) c.args.left (path_of c.args.path.now.items) (given_of (g.V.Visit.names w) c.args.given.now)) c.args.only.now _ _ _ _ _ _ _ _ _ _
              (next_item (g.V.Visit.names w) c.args.items.now c.loop-item.item-index c.item-item.result c.loop-item-test.true c.item-item.is)
              (c.in_ok-place.ensures.place (g.V.Visit.names w) (λ m. placed_from m (seen_all (g.V.Visit.names w) (drop (c.loop-item.item-index + 1) c.args.items.now))))
              (sym b.if-is_shown.false ∙ c.is_shown.ensures (g.V.Visit.names w))
              (h.1 s k),
        ),
  )
]

-- ---- items

pub one-returns-then-left-eq0-2-clause-told : goal.one-returns-then-left-eq0-2-clause-told
one-returns-then-left-eq0-2-clause-told g t c = λ w f. (
  f,
  λ s k. record {
    state = s;
    stands_so = k;
    is = too_deep (g.V.Visit.visits w) c.args.left _ _ _ (seen (g.V.Visit.names w) c.args.item.now) _ _ s c.if-left-eq0-2.true (ap (seen (g.V.Visit.names w)) c.in-Elem.is ∙ seen-Elem (g.V.Visit.names w) c.in-Elem.element) refl;
  },
)

pub one-returns-in_err-in_order-in-List-clause-told : goal.one-returns-in_err-in_order-in-List-clause-told
one-returns-in_err-in_order-in-List-clause-told g t c = λ w f.
    let n = g.V.Visit.names w in
    let told = c.in_err-in_order-in-List.ensures.told w f in (
      told.0,
      λ s k. stops_so (g.V.Visit.stands w c.in_order.new.visit) (g.V.Visit.refused w c.in_order.new.visit) _ (nodes_of n c.args.out.now.items) (nodes_of n c.in_order.new.out.items) c.in_order.new.room _ _
          c.in_err-in_order-in-List.field-0.0 c.from_residual-in_err-in_order-in-List.result
          (a_list n (g.V.Visit.visits w) c.args.left c.args.path.now.items c.push_step.new.path.items (given_of n c.args.given.now) c.args.place c.args.item.now c.in-List.all c.as_slice.result.now c.in_ok-from_str-in-List.field-0 s
          c.if-left-eq0.false c.in-List.is c.as_slice.ensures c.in_ok-push_step-in-List.ensures c.in_ok-from_str-in-List.ensures)
          (search rules) (told.1 s k),
    )

pub one-returns-in_ok-in_order-in-List-clause-told : goal.one-returns-in_ok-in_order-in-List-clause-told
one-returns-in_ok-in_order-in-List-clause-told g t c = λ w f.
    let n = g.V.Visit.names w in
    let told = c.in_ok-in_order-in-List.ensures.told w f in (
      told.0,
      λ s k. gives_so (g.V.Visit.stands w c.in_order.new.visit) (g.V.Visit.refused w c.in_order.new.visit) _ (nodes_of n c.args.out.now.items) (nodes_of n c.in_order.new.out.items) c.in_order.new.room _ _
          (a_list n (g.V.Visit.visits w) c.args.left c.args.path.now.items c.push_step.new.path.items (given_of n c.args.given.now) c.args.place c.args.item.now c.in-List.all c.as_slice.result.now c.in_ok-from_str-in-List.field-0 s
          c.if-left-eq0.false c.in-List.is c.as_slice.ensures c.in_ok-push_step-in-List.ensures c.in_ok-from_str-in-List.ensures)
          (told.1 s k),
    )

pub one-returns-in_err-inside-in-Elem-clause-told : goal.one-returns-in_err-inside-in-Elem-clause-told
one-returns-in_err-inside-in-Elem-clause-told g t c = λ w f.
    let n = g.V.Visit.names w in
    let told = c.in_err-inside-in-Elem.ensures.told w f in (
      told.0,
      λ s k. stops_so (g.V.Visit.stands w c.inside.new.visit) (g.V.Visit.refused w c.inside.new.visit) _ (nodes_of n c.args.out.now.items) (nodes_of n c.inside.new.out.items) c.inside.new.room _ _
          c.in_err-inside-in-Elem.field-0.0 c.from_residual-in_err-inside-in-Elem.result
          (an_element n (g.V.Visit.visits w) c.args.left c.args.path.now.items c.push_step-in-Elem.new.path.items (given_of n c.args.given.now) c.args.place c.args.item.now c.in-Elem.element c.get-element.result.now c.in_ok-step_name-in-Elem.field-0 s
          c.if-left-eq0-2.false c.in-Elem.is c.get-element.ensures c.in_ok-push_step-in-Elem.ensures c.in_ok-step_name-in-Elem.ensures)
          (search rules) (told.1 s k),
    )

pub one-returns-in_ok-inside-in-Elem-clause-told : goal.one-returns-in_ok-inside-in-Elem-clause-told
one-returns-in_ok-inside-in-Elem-clause-told g t c = λ w f.
    let n = g.V.Visit.names w in
    let told = c.in_ok-inside-in-Elem.ensures.told w f in (
      told.0,
      λ s k. gives_so (g.V.Visit.stands w c.inside.new.visit) (g.V.Visit.refused w c.inside.new.visit) _ (nodes_of n c.args.out.now.items) (nodes_of n c.inside.new.out.items) c.inside.new.room _ _
          (an_element n (g.V.Visit.visits w) c.args.left c.args.path.now.items c.push_step-in-Elem.new.path.items (given_of n c.args.given.now) c.args.place c.args.item.now c.in-Elem.element c.get-element.result.now c.in_ok-step_name-in-Elem.field-0 s
          c.if-left-eq0-2.false c.in-Elem.is c.get-element.ensures c.in_ok-push_step-in-Elem.ensures c.in_ok-step_name-in-Elem.ensures)
          (told.1 s k),
    )

pub one-returns-in_default : goal.one-returns-in_default
one-returns-in_default g t c = record {
  told = λ w f. (
    f,
    λ s k. a_leaf (g.V.Visit.stands w c.args.visit.now) (g.V.Visit.refused w c.args.visit.now) (g.V.Visit.visits w) c.args.left _ _ _ (seen (g.V.Visit.names w) c.args.item.now)
        (nodes_of (g.V.Visit.names w) c.args.out.now.items) (nodes_of (g.V.Visit.names w) c.leaf.new.out.items) _ c.leaf.new.room c.leaf.result s
        (stepless (g.V.Visit.names w) c.args.item.now c.in_default.not-List c.in_default.not-Elem) k (c.leaf.ensures (g.V.Visit.names w)),
  );
  path = whenever c.leaf.result _ refl;
}

-- ---- what takes a step

pub inside-returns-in-Nothing-clause-told : goal.inside-returns-in-Nothing-clause-told
inside-returns-in-Nothing-clause-told g t c = λ w f.
    let n = g.V.Visit.names w in (
      f,
      λ s k. (
        record {
          state = s;
          stands_so = k;
          is = ap (λ tag. behind (nodes_of n c.args.out.now.items) (elem_with (g.V.Visit.visits w) (expand_item (g.V.Visit.visits w) c.args.left) (path_of c.args.path.now.items) (given_of n c.args.given.now) (shown_by tag) (seen_fields n c.args.element.now.attrs) (seen_all n c.args.element.now.children) s)) c.in-Slot.is
              ∙ ap (λ given. behind (nodes_of n c.args.out.now.items) (slot_with (expand_item (g.V.Visit.visits w) c.args.left) (path_of c.args.path.now.items) c.in-Slot.name (given_of n given) s)) c.in-Nothing.is
              ∙ ap (λ all. Gives all s) (joined-none (nodes_of n c.args.out.now.items));
        },
        refl,
      ),
    )

pub inside-returns-in_ok-share-in-Children-clause-told : goal.inside-returns-in_ok-share-in-Children-clause-told
inside-returns-in_ok-share-in-Children-clause-told g t c = λ w f.
    let n = g.V.Visit.names w in
    let told = c.in_order-in-Children.ensures.told w f in (
      told.0,
      λ s k. subst (λ o. Did (g.V.Visit.stands w c.in_order-in-Children.new.visit) (g.V.Visit.refused w c.in_order-in-Children.new.visit) (c.args.room.now + nodes_count (nodes_of n c.args.out.now.items)) (behind (nodes_of n c.args.out.now.items) o)
          c.in_order-in-Children.result (nodes_of n c.in_order-in-Children.new.out.items) c.in_order-in-Children.new.room)
          (ap (λ name. in_order (expand_item (g.V.Visit.visits w) c.args.left (path_of c.args.path.now.items) (given_of n c.get-frame.result.now.outer)) (for_slot name (placed (seen_all n c.as_slice-in-Children.result.now))) s) c.in_ok-share-in-Children.ensures
          ∙ ap (λ all. in_order (expand_item (g.V.Visit.visits w) c.args.left (path_of c.args.path.now.items) (given_of n c.get-frame.result.now.outer)) (for_slot c.in-Slot.name (placed (seen_all n all))) s) c.as_slice-in-Children.ensures
          ∙ ap (λ f. in_order (expand_item (g.V.Visit.visits w) c.args.left (path_of c.args.path.now.items) (given_of n f.outer)) (for_slot c.in-Slot.name (placed (seen_all n f.children))) s) c.get-frame.ensures
          ∙ a_slot n (g.V.Visit.visits w) (expand_item (g.V.Visit.visits w) c.args.left) (path_of c.args.path.now.items) c.args.given.now c.in-Children.frame c.args.element.now.tag c.in-Slot.name (seen_fields n c.args.element.now.attrs) (seen_all n c.args.element.now.children) s
          c.in-Children.is c.in-Slot.is)
          (told.1 s k),
    )

pub inside-returns-in_err-take_room-in-Element-clause-told : goal.inside-returns-in_err-take_room-in-Element-clause-told
inside-returns-in_err-take_room-in-Element-clause-told g t c = λ w f.
    let n = g.V.Visit.names w in (
      f,
      λ s k. subst (λ o. Did (g.V.Visit.stands w c.args.visit.now) (g.V.Visit.refused w c.args.visit.now) (c.args.room.now + nodes_count (nodes_of n c.args.out.now.items)) (behind (nodes_of n c.args.out.now.items) o) c.from_residual.result (nodes_of n c.args.out.now.items) c.take_room.new.room)
          (a_tag n (g.V.Visit.visits w) (expand_item (g.V.Visit.visits w) c.args.left) (path_of c.args.path.now.items) (given_of n c.args.given.now) c.args.element.now.tag c.in-Element.tag (seen_fields n c.args.element.now.attrs) c.args.element.now.children c.args.element.now.children s
          c.in-Element.is refl)
          (no_room_around (g.V.Visit.stands w c.args.visit.now) (g.V.Visit.refused w c.args.visit.now) (Tagged c.in-Element.tag (seen_fields n c.args.element.now.attrs)) (λ ns. refl) (nodes_of n c.args.out.now.items) (nodes_of n c.args.out.now.items)
          (in_order (expand_item (g.V.Visit.visits w) c.args.left (path_of c.args.path.now.items) (given_of n c.args.given.now)) (placed (seen_all n c.args.element.now.children)) s)
          c.args.room.now c.take_room.new.room c.in_err-take_room-in-Element.field-0.0 c.from_residual.result (search rules) c.in_err-take_room-in-Element.ensures),
    )

pub inside-returns-in_err-in_order-in-Element-clause-told : goal.inside-returns-in_err-in_order-in-Element-clause-told
inside-returns-in_err-in_order-in-Element-clause-told g t c = λ w f.
    let n = g.V.Visit.names w in
    let told = c.in_err-in_order-in-Element.ensures.told w f in (
      told.0,
      λ s k. subst (λ o. Did (g.V.Visit.stands w c.in_order.new.visit) (g.V.Visit.refused w c.in_order.new.visit) (c.args.room.now + nodes_count (nodes_of n c.args.out.now.items)) (behind (nodes_of n c.args.out.now.items) o) c.from_residual-in_err-in_order-in-Element.result (nodes_of n c.args.out.now.items) c.in_order.new.room)
          (a_tag n (g.V.Visit.visits w) (expand_item (g.V.Visit.visits w) c.args.left) (path_of c.args.path.now.items) (given_of n c.args.given.now) c.args.element.now.tag c.in-Element.tag (seen_fields n c.args.element.now.attrs) c.args.element.now.children c.as_slice.result.now s
          c.in-Element.is c.as_slice.ensures)
          (wraps_stop (g.V.Visit.stands w c.in_order.new.visit) (g.V.Visit.refused w c.in_order.new.visit) (Tagged c.in-Element.tag (seen_fields n c.args.element.now.attrs)) (λ ns. refl)
          (nodes_of n c.new-inner.result.items) (ap (nodes_of n) c.new-inner.ensures.items) (nodes_of n c.args.out.now.items) (nodes_of n c.in_order.new.out.items) (nodes_of n c.args.out.now.items)
          (in_order (expand_item (g.V.Visit.visits w) c.args.left (path_of c.args.path.now.items) (given_of n c.args.given.now)) (placed (seen_all n c.as_slice.result.now)) s)
          c.args.room.now c.take_room.new.room c.in_order.new.room c.in_order.new.room c.in_err-in_order-in-Element.field-0.0 c.from_residual-in_err-in_order-in-Element.result (search rules)
          c.in_ok-take_room-in-Element.ensures (told.1 s k)),
    )

pub inside-returns-in_ok-push_node-in-Element-clause-told : goal.inside-returns-in_ok-push_node-in-Element-clause-told
inside-returns-in_ok-push_node-in-Element-clause-told g t c = λ w f.
    let n = g.V.Visit.names w in
    let told = c.in_ok-in_order-in-Element.ensures.told w f in (
      told.0,
      λ s k. gives_so (g.V.Visit.stands w c.in_order.new.visit) (g.V.Visit.refused w c.in_order.new.visit) _ (nodes_of n c.args.out.now.items) (nodes_of n c.push_node.new.out.items) c.in_order.new.room _ _
          (a_tag n (g.V.Visit.visits w) (expand_item (g.V.Visit.visits w) c.args.left) (path_of c.args.path.now.items) (given_of n c.args.given.now) c.args.element.now.tag c.in-Element.tag (seen_fields n c.args.element.now.attrs) c.args.element.now.children c.as_slice.result.now s
          c.in-Element.is c.as_slice.ensures)
          (wraps_all (g.V.Visit.stands w c.in_order.new.visit) (g.V.Visit.refused w c.in_order.new.visit) (Tagged c.in-Element.tag (seen_fields n c.args.element.now.attrs)) (λ ns. refl)
          (nodes_of n c.new-inner.result.items) (ap (nodes_of n) c.new-inner.ensures.items) (nodes_of n c.args.out.now.items) (nodes_of n c.in_order.new.out.items) (nodes_of n c.push_node.new.out.items)
          (in_order (expand_item (g.V.Visit.visits w) c.args.left (path_of c.args.path.now.items) (given_of n c.args.given.now)) (placed (seen_all n c.as_slice.result.now)) s)
          c.args.room.now c.take_room.new.room c.in_order.new.room c.in_ok-take_room-in-Element.ensures
          (pushed_element n c.args.out.now.items c.push_node.new.out.items _ c.in-Element.tag c.args.element.now.attrs c.in_order.new.out.items c.in_ok-push_node-in-Element.ensures c.in_ok-share-in-Element.ensures c.in_ok-share-in-Element-2.ensures c.in_ok-from_vec-in-Element.ensures)
          (told.1 s k)),
    )

-- ---- components

pub component-returns-in_err-take_room-clause-told : goal.component-returns-in_err-take_room-clause-told
component-returns-in_err-take_room-clause-told g t c = λ w f.
    let n = g.V.Visit.names w in (
      f,
      λ s k. no_room_behind (g.V.Visit.stands w c.args.visit.now) (g.V.Visit.refused w c.args.visit.now) (Inside (path_of c.args.path.now.items)) (λ ns. refl)
          (view_with (expand_item (g.V.Visit.visits w) c.args.left) (path_of c.args.path.now.items) (children_of (seen_all n c.args.element.now.children) (given_of n c.args.given.now)))
          (nodes_of n c.args.out.now.items) (nodes_of n c.args.out.now.items)
          (g.V.Visit.visits w (met_at n c.args.path.now.items c.args.element.now.tag c.args.element.now.attrs) s)
          c.args.room.now c.take_room.new.room c.in_err-take_room.field-0.0 c.from_residual.result (search rules) c.in_err-take_room.ensures,
    )

pub component-returns-in_err-meet-clause-told : goal.component-returns-in_err-meet-clause-told
component-returns-in_err-meet-clause-told g t c = λ w f.
    let n = g.V.Visit.names w in
    let told = c.in_err-meet.ensures w f in (
      told.0,
      λ s k. meets_stop (g.V.Visit.stands w c.meet.new.self) (g.V.Visit.refused w c.meet.new.self) (Inside (path_of c.args.path.now.items)) (λ ns. refl)
          (view_with (expand_item (g.V.Visit.visits w) c.args.left) (path_of c.args.path.now.items) (children_of (seen_all n c.args.element.now.children) (given_of n c.args.given.now)))
          (λ why v. in_orders (g.V.Visit.refused w c.meet.new.self why) (expand_item (g.V.Visit.visits w) c.args.left (path_of c.args.path.now.items) (children_of (seen_all n c.args.element.now.children) (given_of n c.args.given.now)))
          (expands (g.V.Visit.refused w c.meet.new.self why) (g.V.Visit.visits w) (λ met. g.met.V.Visit.still w c.meet.new.self why met) c.args.left (path_of c.args.path.now.items) (children_of (seen_all n c.args.element.now.children) (given_of n c.args.given.now)))
          (placed (item v none)))
          n _ (nodes_of n c.args.out.now.items) _
          (g.V.Visit.visits w (met_at n c.args.path.now.items c.args.element.now.tag c.args.element.now.attrs) s)
          _ c.in_err-meet.field-0.0 c.from_residual-in_err-meet.result (search rules)
          (subst (λ p. Gave (g.V.Visit.stands w c.meet.new.self) (g.V.Visit.refused w c.meet.new.self) n (g.V.Visit.visits w (met_at n p c.args.element.now.tag c.args.element.now.attrs) s) (Err c.in_err-meet.field-0.0)) c.as_slice.ensures.value (told.1 s k)),
    )

pub component-returns-in_err-in_order-clause-told : goal.component-returns-in_err-in_order-clause-told
component-returns-in_err-in_order-clause-told g t c = λ w f.
    let n = g.V.Visit.names w in
    let told = c.in_err-in_order.ensures.told w f in
    let met = c.in_ok-meet.ensures w told.0 in (
      met.0,
      λ s k.
          let gave = subst (λ p. Comes_to (g.V.Visit.stands w c.meet.new.self) (g.V.Visit.visits w (met_at n p c.args.element.now.tag c.args.element.now.attrs) s) (Gives (seen n c.in_ok-meet.field-0))) c.as_slice.ensures.value (met.1 s k) in
          subst (λ o. Did (g.V.Visit.stands w c.in_order.new.visit) (g.V.Visit.refused w c.in_order.new.visit) (c.args.room.now + nodes_count (nodes_of n c.args.out.now.items)) (behind (nodes_of n c.args.out.now.items) o) c.from_residual-in_err-in_order.result (nodes_of n c.args.out.now.items) c.in_order.new.room)
          (a_view (expand_item (g.V.Visit.visits w) c.args.left) (path_of c.args.path.now.items) _ (children_of (seen_all n c.args.element.now.children) (given_of n c.args.given.now)) _ (seen n c.in_ok-meet.field-0) gave.state gave.is
          (given_to n c.in_ok-new.field-0 c.args.element.now.children c.args.given.now (ap (λ f. f.children) c.in_ok-new.ensures ∙ c.in_ok-share.ensures) (ap (λ f. f.outer) c.in_ok-new.ensures ∙ c.in_ok-share-2.ensures)))
          (wraps_stop (g.V.Visit.stands w c.in_order.new.visit) (g.V.Visit.refused w c.in_order.new.visit) (Inside (path_of c.args.path.now.items)) (λ ns. refl)
          (nodes_of n c.new-inner.result.items) (ap (nodes_of n) c.new-inner.ensures.items) (nodes_of n c.args.out.now.items) (nodes_of n c.in_order.new.out.items) (nodes_of n c.args.out.now.items)
          _
          c.args.room.now c.take_room.new.room c.in_order.new.room c.in_order.new.room c.in_err-in_order.field-0.0 c.from_residual-in_err-in_order.result (search rules)
          c.in_ok-take_room.ensures (told.1 gave.state gave.stands_so)),
    )

pub component-returns-clause-told : goal.component-returns-clause-told
component-returns-clause-told g t c = λ w f.
    let n = g.V.Visit.names w in
    let told = c.in_ok-in_order.ensures.told w f in
    let met = c.in_ok-meet.ensures w told.0 in (
      met.0,
      λ s k.
          let gave = subst (λ p. Comes_to (g.V.Visit.stands w c.meet.new.self) (g.V.Visit.visits w (met_at n p c.args.element.now.tag c.args.element.now.attrs) s) (Gives (seen n c.in_ok-meet.field-0))) c.as_slice.ensures.value (met.1 s k) in
          gives_so (g.V.Visit.stands w c.in_order.new.visit) (g.V.Visit.refused w c.in_order.new.visit) _ (nodes_of n c.args.out.now.items) (nodes_of n c.push_node.new.out.items) c.in_order.new.room _ _
          (a_view (expand_item (g.V.Visit.visits w) c.args.left) (path_of c.args.path.now.items) _ (children_of (seen_all n c.args.element.now.children) (given_of n c.args.given.now)) _ (seen n c.in_ok-meet.field-0) gave.state gave.is
          (given_to n c.in_ok-new.field-0 c.args.element.now.children c.args.given.now (ap (λ f. f.children) c.in_ok-new.ensures ∙ c.in_ok-share.ensures) (ap (λ f. f.outer) c.in_ok-new.ensures ∙ c.in_ok-share-2.ensures)))
          (wraps_all (g.V.Visit.stands w c.in_order.new.visit) (g.V.Visit.refused w c.in_order.new.visit) (Inside (path_of c.args.path.now.items)) (λ ns. refl)
          (nodes_of n c.new-inner.result.items) (ap (nodes_of n) c.new-inner.ensures.items) (nodes_of n c.args.out.now.items) (nodes_of n c.in_order.new.out.items) (nodes_of n c.push_node.new.out.items)
          _
          c.args.room.now c.take_room.new.room c.in_order.new.room c.in_ok-take_room.ensures
          (pushed_instance n c.args.out.now.items c.push_node.new.out.items _ c.args.path.now.items c.in_order.new.out.items c.in_ok-push_node.ensures (c.in_ok-copied.ensures ∙ c.as_slice-2.ensures.value ∙ c.in_ok-in_order.ensures.path) c.in_ok-from_vec.ensures)
          (told.1 gave.state gave.stands_so)),
    )
