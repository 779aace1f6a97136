use Rattle.std.proofs.Common.{◌+◌, drop, refl, ap, ◌∙◌}
use Rattle.qk_ast.specs.Names.{patterns_names, pattern_names}
use Rattle.qk_captures.specs.Scoping.{with_all}
use Rattle.qk_captures.proofs.Scopes.{scope_next}
use Rattle.qk_captures.proofs.scope.Scope.enter_patterns.Goals as goal

pub loop-pattern-preserved : goal.loop-pattern-preserved
loop-pattern-preserved c = ap (with_all (patterns_names (drop (c.loop-pattern.pattern-index + 1) c.args.params.now))) c.in_ok-enter_pattern.ensures
    ∙ scope_next patterns_names pattern_names (λ x xs. refl) c.loop-pattern.self c.args.params.now c.loop-pattern.pattern-index c.pattern-item.result c.loop-pattern-test.true c.pattern-item.is ∙ c.loop-pattern.invariant
