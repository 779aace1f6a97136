use Rattle.std.specs.Prelude.{take}
use Rattle.std.specs.BTreeMap.{get_by_text}
use Rattle.qk_ast.specs.Texts.{Text}
use Rattle.qk_whole.specs.Items.{first_item, IsNamed}
use Rattle.qk_whole.proofs.known.Known.roots.Given as goal

abbrev pub invariant-loop-item : goal.invariant-loop-item
invariant-loop-item l = (q : Text) → IsNamed l.self (get_by_text l.table q) (first_item (take l.item-index l.items) q)
