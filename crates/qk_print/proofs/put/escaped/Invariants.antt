use Rattle.std.specs.Prelude.{◌≡◌, ◌++◌, flat_map, drop}
use Rattle.qk_print.specs.Growing.{Begins}
use Rattle.qk_print.specs.Letters.{escaped}
use Rattle.qk_print.proofs.put.escaped.Given as goal

abbrev pub invariant-loop-byte : goal.invariant-loop-byte
invariant-loop-byte l = record {
  done : l.out.items ++ flat_map (escaped l.marked) (drop l.byte-index l.text) ≡ l.initial.out.items ++ flat_map (escaped l.marked) l.text;
  front : Begins l.initial.out.items l.out.items;
}
