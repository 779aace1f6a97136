use Rattle.std.specs.Prelude.{◌≡◌, ◌++◌, flat_map, drop}
use Rattle.qk_print.specs.Growing.{Begins}
use Rattle.qk_print.specs.Letters.{template_part}
use Rattle.qk_print.proofs.expressions.parts_left.Given as goal

abbrev pub invariant-loop-part : goal.invariant-loop-part
invariant-loop-part l = record {
  done : l.out.items ++ flat_map template_part (drop l.part-index l.parts) ≡ l.initial.out.items ++ flat_map template_part l.parts;
  front : Begins l.fn.out.items l.out.items;
}
