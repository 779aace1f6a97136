use Rattle.std.specs.Prelude.{◌≡◌, drop}
use Rattle.qk_ast.specs.Mentions.{import_names}
use Rattle.qk_ast.specs.Walking.{with_names}
use Rattle.qk_scope.proofs.roots.add_imported.Given as goal

abbrev pub invariant-loop-import : goal.invariant-loop-import
invariant-loop-import l = with_names l.names (import_names (drop l.import-index l.imports)) ≡ with_names l.initial.names (import_names l.imports)
