use Rattle.std.proofs.Common.{◌+◌, drop, refl, ap, ◌∙◌}
use Rattle.qk_ast.specs.Names.{declared_by}
use Rattle.qk_captures.specs.Scoping.{with_all, block_names}
use Rattle.qk_captures.proofs.Scopes.{scope_next}
use Rattle.qk_captures.proofs.scope.Scope.enter_block.Goals as goal

pub loop-statement-preserved : goal.loop-statement-preserved
loop-statement-preserved c = ap (with_all (block_names (drop (c.loop-statement.statement-index + 1) c.args.statements.now))) c.in_ok-enter_declared.ensures
    ∙ scope_next block_names declared_by (λ x xs. refl) c.loop-statement.self c.args.statements.now c.loop-statement.statement-index c.statement-item.result c.loop-statement-test.true c.statement-item.is ∙ c.loop-statement.invariant
