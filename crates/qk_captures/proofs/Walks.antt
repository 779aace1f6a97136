-- The walk over the tree: a node is itself and then all that is inside it, and the items are their trees one after another.
use Rattle.std.specs.Prelude.{◌≡◌, refl, ℕ, ◌+◌, ◌<◌, ◌≤◌, List, [], ◌∷◌, ◌++◌, length, drop, map}
use Rattle.std.proofs.Common.{sym, ◌∙◌, ap}
use Rattle.std.proofs.Math.ListN.{get_or}
use Rattle.std.proofs.lemmas.List.{append_assoc, append-nil, at_drop_more, at_drop_all}
use Rattle.qk_ast.specs.declared.Arrow.{Arrow}
use Rattle.qk_ast.specs.declared.Form.{Form}
use Rattle.qk_ast.specs.declared.Item.{Item}
use Rattle.qk_ast.specs.Texts.{Text}
use Rattle.qk_ast.specs.Names.{around}
use Rattle.qk_ast.specs.Arrows.{Mark, Unmarked, Found_arrow}
use Rattle.qk_node.specs.Nodes.{Node, plain}
use Rattle.qk_node.specs.Growing.{within, grown, tree}
use Rattle.qk_node.specs.Found.{arrow_here, scope_inside, arrows_in}
use Rattle.qk_node.proofs.Same_arrows.{same_arrows}
use Rattle.qk_captures.specs.declared.scope.Scope.{Scope}
use Rattle.qk_captures.specs.declared.scope.Outside.{Outside}
use Rattle.qk_captures.specs.declared.walk.Walk.{Walk}
use Rattle.qk_captures.specs.Scoping.{in_scope, with_all, entered, names_before, outside_of, back_to}
use Rattle.qk_captures.specs.Walking.{Note, note_of, noted, all_noted, behind, none_found, arrow_of, arrow_found, item_found, items_found}
use Rattle.qk_captures.proofs.Scopes.{in_scope_all, in_scope_entered, back_from_all, back_from_entered}
use Rattle.qk_captures.proofs.Alike.{notes, both_noted, alike}

-- ---- the walk

pub behind_none : (w : Walk) → behind none_found w ≡ w
unfolding behind all_noted
behind_none w = refl

noted_both : (xs ys : List Note) (w : Walk) → all_noted (xs ++ ys) w ≡ all_noted ys (all_noted xs w)
unfolding all_noted
noted_both [] ys w = refl
noted_both (x ∷ xs) ys w = noted_both xs ys (noted x w)

scope_kept : (ns : List Note) (w : Walk) → (all_noted ns w).scope ≡ w.scope
unfolding all_noted noted
scope_kept [] w = refl
scope_kept (n ∷ ns) w = scope_kept ns (noted n w)

pub behind_same : (F G : List Text → List Found_arrow) (w : Walk) → ((scope : List Text) → F scope ≡ G scope) → behind F w ≡ behind G w
unfolding behind
behind_same F G w h = ap (λ found. all_noted (map note_of found) w) (h (in_scope w.scope))

pub behind_both : (F G : List Text → List Found_arrow) (w : Walk) → behind (λ scope. F scope ++ G scope) w ≡ behind G (behind F w)
unfolding behind
behind_both F G w = ap (λ ns. all_noted ns w) (both_noted (F (in_scope w.scope)) (G (in_scope w.scope)))
    ∙ noted_both (notes (F (in_scope w.scope))) (notes (G (in_scope w.scope))) w
    ∙ ap (λ scope. all_noted (notes (G (in_scope scope))) (all_noted (notes (F (in_scope w.scope))) w)) (sym (scope_kept (notes (F (in_scope w.scope))) w))

-- behind an arrow alone
pub behind_arrow : (a : Arrow) (mark : Mark) (w : Walk) → behind (arrow_found a mark) w ≡ noted (note_of (arrow_of a mark (in_scope w.scope))) w
unfolding behind all_noted
behind_arrow a mark w = refl

-- behind one node more
pub behind_next : (n : Node) (ns : List Node) (w : Walk) → behind (arrows_in (grown ns)) (behind (arrows_in (tree n)) w) ≡ behind (arrows_in (grown (n ∷ ns))) w
behind_next n ns w = sym (behind_both (arrows_in (tree n)) (arrows_in (grown ns)) w) ∙ behind_same _ _ w (λ scope.
    append_assoc (arrow_here n scope) (arrows_in (within n) (scope_inside n scope) ++ []) (arrows_in (grown ns) scope)
    ∙ ap (λ found. arrow_here n scope ++ (found ++ arrows_in (grown ns) scope)) (append-nil (arrows_in (within n) (scope_inside n scope))))

-- ---- out of a scope

rescoped : (ns : List Note) (w : Walk) (scope : Scope) → record (all_noted ns w) { scope = scope } ≡ all_noted ns (record w { scope = scope })
unfolding all_noted noted
rescoped [] w scope = refl
rescoped (n ∷ ns) w scope = rescoped ns (noted n w) scope

behind_inside : (F G : List Text → List Found_arrow) (old done : Walk) (inner left : Scope) (outside : Outside) → outside ≡ outside_of old.scope → done ≡ behind F (record old { scope = inner })
    → left ≡ back_to outside done.scope → back_to (outside_of old.scope) inner ≡ old.scope → notes (F (in_scope inner)) ≡ notes (G (in_scope old.scope))
    → record done { scope = left } ≡ behind G old
unfolding behind
behind_inside F G old done inner left outside at walked closed back same = ap {A = Walk} (λ w. record w { scope = left }) walked
    ∙ rescoped (notes (F (in_scope inner))) (record old { scope = inner }) left
    ∙ ap (λ scope. all_noted (notes (F (in_scope inner))) (record old { scope = scope })) again
    ∙ ap (λ ns. all_noted ns old) same
  where
    again : left ≡ old.scope
    again = closed ∙ ap (λ o. back_to o done.scope) at ∙ ap (λ w. back_to (outside_of old.scope) w.scope) walked
        ∙ ap (back_to (outside_of old.scope)) (scope_kept (map note_of (F (in_scope inner))) (record old { scope = inner })) ∙ back

-- out of a node, whose names were in scope inside
pub behind_node : (n : Node) (old met done : Walk) (inner left : Scope) (outside : Outside) → met ≡ behind (arrow_here n) old → outside ≡ outside_of met.scope → inner ≡ entered n met.scope
    → done ≡ behind (arrows_in (within n)) (record met { scope = inner }) → left ≡ back_to outside done.scope → record done { scope = left } ≡ behind (arrows_in (tree n)) old
behind_node n old met done inner left outside next at opened walked closed =
    behind_inside (arrows_in (within n)) (λ scope. arrows_in (within n) (scope_inside n scope)) met done inner left outside at walked closed
    (ap (back_to (outside_of met.scope)) opened ∙ back_from_entered n met.scope)
    (ap (λ scope. notes (arrows_in (within n) (in_scope scope))) opened ∙ alike (within n) (in_scope (entered n met.scope)) (scope_inside n (in_scope met.scope)) (in_scope_entered n met.scope))
    ∙ ap (behind (λ scope. arrows_in (within n) (scope_inside n scope))) next
    ∙ sym (behind_both (arrow_here n) (λ scope. arrows_in (within n) (scope_inside n scope)) old)
    ∙ behind_same _ _ old (λ scope. ap (λ found. arrow_here n scope ++ found) (sym (append-nil (arrows_in (within n) (scope_inside n scope)))))

-- ---- items

-- behind one item more
pub behind_next_item : (form : Form) (items : List Item) (i : ℕ) (x : Item) (w : Walk) → i < length items → x ≡ get_or items i x
    → behind (items_found form (drop (i + 1) items)) (behind (item_found form x) w) ≡ behind (items_found form (drop i items)) w
behind_next_item form items i x w below here = sym (behind_both (item_found form x) (items_found form (drop (i + 1) items)) w)
    ∙ ap (λ y. behind (items_found form (y ∷ drop (i + 1) items)) w) here ∙ sym (at_drop_more (λ ys. behind (items_found form ys) w) items i x below)

-- behind the last item
pub behind_last_item : (form : Form) (items : List Item) (i : ℕ) (old done : Walk) → length items ≤ i
    → behind (items_found form (drop i items)) done ≡ behind (items_found form items) old → done ≡ behind (items_found form items) old
behind_last_item form items i old done past h = sym (behind_none done) ∙ sym (at_drop_all (λ ys. behind (items_found form ys) done) items i past) ∙ h

pub behind_item : (form : Form) (i : Item) (old done : Walk) (inner left : Scope) (outside : Outside) → outside ≡ outside_of old.scope
    → inner ≡ with_all (names_before form i.init) old.scope → done ≡ behind (arrows_in (tree (plain i.init))) (record old { scope = inner }) → left ≡ back_to outside done.scope
    → record done { scope = left } ≡ behind (item_found form i) old
behind_item form i old done inner left outside at opened walked closed = let names = names_before form i.init in let f = tree (plain i.init) in
    behind_inside (arrows_in f) (item_found form i) old done inner left outside at walked closed
    (ap (back_to (outside_of old.scope)) opened ∙ back_from_all names old.scope)
    (ap (λ scope. notes (arrows_in f (in_scope scope))) opened ∙ alike f (in_scope (with_all names old.scope)) (around names (in_scope old.scope)) (in_scope_all names old.scope)
    ∙ ap notes (same_arrows i.init Unmarked (around names (in_scope old.scope))))
