use Rattle.std.specs.Prelude.{◌≡◌, drop, ◌++◌}
use Rattle.qk_ast.specs.Mentions.{import_mentions, import_names}
use Rattle.qk_scope.specs.Answering.{breaches}
use Rattle.qk_scope.proofs.importing.imports.Given as goal

abbrev pub invariant-loop-import : goal.invariant-loop-import
invariant-loop-import l = record {
  rules : breaches l.rules (import_mentions l.earlier (drop l.import-index l.imports)) ≡ breaches l.rules (import_mentions l.initial.earlier l.imports);
  earlier : l.earlier ++ import_names (drop l.import-index l.imports) ≡ l.initial.earlier ++ import_names l.imports;
}
