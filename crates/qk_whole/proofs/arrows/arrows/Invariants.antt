use Rattle.std.specs.Prelude.{◌≡◌, ◌++◌, map, drop}
use Rattle.qk_ast.specs.Arrows.{item_arrows}
use Rattle.qk_whole.specs.Meeting.{met_seen, arrow_seen}
use Rattle.qk_whole.proofs.arrows.arrows.Given as goal

abbrev pub invariant-loop-item : goal.invariant-loop-item
invariant-loop-item l = map met_seen l.all ++ map arrow_seen (item_arrows (drop l.item-index l.items)) ≡ map arrow_seen (item_arrows l.items)
