use Rattle.std.proofs.Common.{◌+◌, drop, refl, ap, ◌∙◌}
use Rattle.qk_ast.specs.Mentions.{import_names}
use Rattle.qk_ast.specs.Walking.{with_names}
use Rattle.qk_ast.proofs.NameSets.{names_next}
use Rattle.qk_scope.proofs.roots.add_imported.Goals as goal

pub loop-import-preserved : goal.loop-import-preserved
loop-import-preserved c = ap (λ names. with_names names (import_names (drop (c.loop-import.import-index + 1) c.args.imports.now))) (c.in_ok-add_all.ensures ∙ ap (with_names c.loop-import.names) c.as_slice.ensures)
    ∙ names_next import_names (λ i. i.names) (λ i is. refl) c.loop-import.names c.args.imports.now c.loop-import.import-index c.import-item.result c.loop-import-test.true c.import-item.is ∙ c.loop-import.invariant
