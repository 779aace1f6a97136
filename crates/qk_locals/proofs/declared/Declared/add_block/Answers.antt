use Rattle.std.proofs.Common.{flat_map, refl, sym, ◌∙◌}
use Rattle.qk_ast.specs.Scopes.{declarations_of}
use Rattle.qk_locals.specs.Declaring.{declared_at}
use Rattle.qk_locals.proofs.Declarations.{declared_next, declared_last}
use Rattle.qk_locals.proofs.declared.Declared.add_block.Goals as goal

pub loop-statement-preserved : goal.loop-statement-preserved
loop-statement-preserved c = λ q.
    declared_next (flat_map declarations_of) declarations_of (λ x xs. refl) q (declared_at c.loop-statement.self q) (declared_at c.add_declared_by.new.self q)
    c.args.statements.now c.loop-statement.statement-index c.statement-item.result c.loop-statement-test.true c.statement-item.is (c.in_ok-add_declared_by.ensures q)
    ∙ c.loop-statement.invariant q

pub returns : goal.returns
returns c = λ q. sym (declared_last (flat_map declarations_of) refl q (declared_at c.loop-statement.self q) c.args.statements.now c.loop-statement.statement-index c.loop-statement-test.false)
    ∙ c.loop-statement.invariant q
