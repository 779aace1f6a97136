use Rattle.std.specs.Prelude.{◌≡◌, ◌++◌, flat_map, map, drop, codes}
use Rattle.qk_print.specs.Growing.{Begins}
use Rattle.qk_print.specs.Printing.{pattern_text}
use Rattle.qk_print.proofs.names.patterns.Given as goal

abbrev pub invariant-loop-one : goal.invariant-loop-one
invariant-loop-one l = record {
  done : l.out.items ++ flat_map (λ t. codes ", " ++ t) (map pattern_text (drop l.one-index l.later)) ≡ l.initial.out.items ++ flat_map (λ t. codes ", " ++ t) (map pattern_text l.later);
  front : Begins l.fn.out.items l.out.items;
}
