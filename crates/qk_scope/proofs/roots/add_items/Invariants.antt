use Rattle.std.specs.Prelude.{◌≡◌, drop}
use Rattle.qk_ast.specs.Mentions.{item_names}
use Rattle.qk_ast.specs.Walking.{with_names}
use Rattle.qk_scope.proofs.roots.add_items.Given as goal

abbrev pub invariant-loop-item : goal.invariant-loop-item
invariant-loop-item l = with_names l.names (item_names (drop l.item-index l.items)) ≡ with_names l.initial.names (item_names l.items)
