-- The dollar sites of a tree are as many as its dollar arrows.
use Rattle.std.specs.Prelude.{◌≡◌, refl, ℕ, ◌+◌, ◌-◌, ◌==◌, Bool, true, false, not, nat_le, List, [], ◌∷◌, ◌++◌, length}
use Rattle.std.proofs.Common.{ap, sym, ◌∙◌, arith}
use Rattle.std.proofs.lemmas.Bool.Decides.{nat_tests}
use Rattle.qk_ast.specs.declared.Item.{Item}
use Rattle.qk_ast.specs.declared.Expr.{Expr, more_of-Arrow}
use Rattle.qk_ast.specs.Texts.{Text}
use Rattle.qk_ast.specs.Arrows.{Unmarked, Marked, Tasked, Found_arrow, is_dollar, of_kind, item_arrows, arrows}
use Rattle.qk_node.specs.Nodes.{Node, Value, plain}
use Rattle.qk_node.specs.Growing.{Forest, none, more, tree}
use Rattle.qk_node.specs.Found.{arrow_here, scope_inside, arrows_in}
use Rattle.qk_node.proofs.Same_arrows.{same_arrows}
use Rattle.qk_rules.specs.Site_counts.{dollar_here, sites, item_sites}

dollars : List Found_arrow → ℕ
dollars all = length (of_kind true all)

dollars_both : (front back : List Found_arrow) → dollars (front ++ back) ≡ dollars front + dollars back
unfolding dollars
dollars_both [] back = omega arith
dollars_both (a ∷ front) back = one (is_dollar a) (dollars_both front back)
  where
    one : (d : Bool) → length (of_kind true (front ++ back)) ≡ length (of_kind true front) + length (of_kind true back)
        → length (elim d as (λ _. List Found_arrow) [ true ↦ a ∷ of_kind true (front ++ back) | false ↦ of_kind true (front ++ back) ])
        ≡ length (elim d as (λ _. List Found_arrow) [ true ↦ a ∷ of_kind true front | false ↦ of_kind true front ]) + length (of_kind true back)
    one true h = omega (arith, h)
    one false h = h

here : (n : Node) (scope : List Text) → dollars (arrow_here n scope) ≡ dollar_here n
unfolding dollars
here (Value (Expr.Arrow' _ (more_of-Arrow place params body _)) Unmarked) scope = refl
here (Value (Expr.Arrow' _ (more_of-Arrow place params body _)) Marked) scope = refl
here (Value (Expr.Arrow' _ (more_of-Arrow place params body _)) Tasked) scope = refl
here _ scope = refl

of_tree : (f : Forest) (scope : List Text) → dollars (arrows_in f scope) ≡ sites f
unfolding dollars
of_tree none scope = refl
of_tree (more n inside behind) scope =
    let inner = arrows_in inside (scope_inside n scope) in
    let outer = arrows_in behind scope in
    omega (arith, dollars_both (arrow_here n scope) (inner ++ outer), dollars_both inner outer, here n scope, of_tree inside (scope_inside n scope), of_tree behind scope)

items_row : (items : List Item) → dollars (item_arrows items) ≡ item_sites items
unfolding dollars
items_row [] = refl
items_row (i ∷ items) = omega (arith, dollars_both (arrows i.init Unmarked []) (item_arrows items), ap dollars (same_arrows i.init Unmarked []), of_tree (tree (plain i.init)) [], items_row items)

used_up : (n : ℕ) → ((4097 - n) == 0) ≡ not (nat_le n 4096)
used_up n = grind (arith, nat_tests)

pub too_many : (items : List Item) (left : ℕ) → left ≡ 4097 - item_sites items → (left == 0) ≡ not (nat_le (length (of_kind true (item_arrows items))) 4096)
unfolding dollars
too_many items left h = ap (λ n. n == 0) (h ∙ ap (λ n. 4097 - n) (sym (items_row items))) ∙ used_up (length (of_kind true (item_arrows items)))
