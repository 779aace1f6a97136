use Rattle.std.specs.Prelude.{◌≡◌, ◌++◌, flat_map, drop}
use Rattle.qk_print.specs.Growing.{Begins}
use Rattle.qk_print.specs.Printing.{item_text}
use Rattle.qk_print.proofs.print.items.Given as goal

abbrev pub invariant-loop-one : goal.invariant-loop-one
invariant-loop-one l = record {
  done : l.out.items ++ flat_map item_text (drop l.one-index l.items) ≡ l.initial.out.items ++ flat_map item_text l.items;
  front : Begins l.fn.out.items l.out.items;
}
