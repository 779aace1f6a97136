use Rattle.std.specs.Prelude.{◌≡◌, [], ◌∷◌, drop}
use Rattle.qk_ast.specs.Names.{others_than}
use Rattle.qk_ast.specs.Mentions.{item_names}
use Rattle.qk_ast.specs.Walking.{with_names}
use Rattle.qk_scope.proofs.roots.add_items_but.Given as goal

abbrev pub invariant-loop-item : goal.invariant-loop-item
invariant-loop-item l = with_names l.names (others_than (l.name ∷ []) (item_names (drop l.item-index l.items))) ≡ with_names l.initial.names (others_than (l.name ∷ []) (item_names l.items))
