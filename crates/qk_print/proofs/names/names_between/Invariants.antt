use Rattle.std.specs.Prelude.{◌≡◌, ◌++◌, flat_map, drop, codes}
use Rattle.qk_print.specs.Growing.{Begins}
use Rattle.qk_print.proofs.names.names_between.Given as goal

abbrev pub invariant-loop-name : goal.invariant-loop-name
invariant-loop-name l = record {
  done : l.out.items ++ flat_map (λ t. codes ", " ++ t) (drop l.name-index l.later) ≡ l.initial.out.items ++ flat_map (λ t. codes ", " ++ t) l.later;
  front : Begins l.fn.out.items l.out.items;
}
