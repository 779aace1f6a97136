use Rattle.std.proofs.Common.{refl, sym, ◌∙◌}
use Rattle.qk_ast.specs.Names.{patterns_names, pattern_names}
use Rattle.qk_ast.specs.Scopes.{declared_as}
use Rattle.qk_locals.specs.Meanings.{kind_of}
use Rattle.qk_locals.specs.Declaring.{declared_at}
use Rattle.qk_locals.proofs.Declarations.{declared_next, declared_last, declared_both}
use Rattle.qk_locals.proofs.declared.Declared.add_parameters.Goals as goal

pub loop-pattern-preserved : goal.loop-pattern-preserved
loop-pattern-preserved c = λ q. let kind = kind_of c.args.kind in
    declared_next (λ ps. declared_as kind (patterns_names ps)) (λ p. declared_as kind (pattern_names p)) (λ p ps. declared_both kind (pattern_names p) (patterns_names ps))
    q (declared_at c.loop-pattern.self q) (declared_at c.add_pattern.new.self q)
    c.args.params.now c.loop-pattern.pattern-index c.pattern-item.result c.loop-pattern-test.true c.pattern-item.is (c.in_ok-add_pattern.ensures q)
    ∙ c.loop-pattern.invariant q

pub returns : goal.returns
returns c = λ q. sym (declared_last (λ ps. declared_as (kind_of c.args.kind) (patterns_names ps)) refl q (declared_at c.loop-pattern.self q) c.args.params.now c.loop-pattern.pattern-index c.loop-pattern-test.false)
    ∙ c.loop-pattern.invariant q
