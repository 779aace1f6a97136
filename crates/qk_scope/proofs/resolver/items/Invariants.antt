use Rattle.std.specs.Prelude.{◌≡◌, drop}
use Rattle.qk_ast.specs.Mentions.{item_mentions}
use Rattle.qk_scope.specs.Answering.{breaches}
use Rattle.qk_scope.proofs.resolver.items.Given as goal

abbrev pub invariant-loop-item : goal.invariant-loop-item
invariant-loop-item l = record {
  rules : breaches l.keeper.rules (item_mentions l.earlier (drop l.item-index l.items)) ≡ breaches l.initial.keeper.rules (item_mentions l.initial.earlier l.items);
  kept : l.keeper ≡ l.initial.keeper;
}
