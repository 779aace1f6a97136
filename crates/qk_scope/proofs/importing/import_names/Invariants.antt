use Rattle.std.specs.Prelude.{◌≡◌, drop, ◌++◌}
use Rattle.qk_ast.specs.Mentions.{imported_after}
use Rattle.qk_scope.specs.Answering.{breaches}
use Rattle.qk_scope.proofs.importing.import_names.Given as goal

abbrev pub invariant-loop-name : goal.invariant-loop-name
invariant-loop-name l = record {
  rules : breaches l.rules (imported_after l.source l.earlier (drop l.name-index l.names)) ≡ breaches l.rules (imported_after l.source l.initial.earlier l.names);
  earlier : l.earlier ++ (drop l.name-index l.names) ≡ l.initial.earlier ++ l.names;
}
