use Rattle.std.proofs.Common.{◌+◌, drop, flat_map, refl, ap, ◌∙◌}
use Rattle.qk_ast.specs.Names.{declared_by}
use Rattle.qk_ast.specs.Walking.{with_names}
use Rattle.qk_ast.proofs.NameSets.{names_next}
use Rattle.qk_ast.proofs.name_set.NameSet.add_declared.Goals as goal

pub loop-statement-preserved : goal.loop-statement-preserved
loop-statement-preserved c = ap (λ names. with_names names (flat_map declared_by (drop (c.loop-statement.statement-index + 1) c.args.statements.now))) c.in_ok-add_own.ensures
    ∙ names_next (flat_map declared_by) declared_by (λ x xs. refl) c.loop-statement.self c.args.statements.now c.loop-statement.statement-index c.statement-item.result c.loop-statement-test.true c.statement-item.is ∙ c.loop-statement.invariant
