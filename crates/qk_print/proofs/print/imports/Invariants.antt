use Rattle.std.specs.Prelude.{◌≡◌, ◌++◌, flat_map, drop}
use Rattle.qk_print.specs.Growing.{Begins}
use Rattle.qk_print.specs.Printing.{import_text}
use Rattle.qk_print.proofs.print.imports.Given as goal

abbrev pub invariant-loop-one : goal.invariant-loop-one
invariant-loop-one l = record {
  done : l.out.items ++ flat_map import_text (drop l.one-index l.imports) ≡ l.initial.out.items ++ flat_map import_text l.imports;
  front : Begins l.fn.out.items l.out.items;
}
