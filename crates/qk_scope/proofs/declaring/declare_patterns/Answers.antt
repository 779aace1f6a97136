use Rattle.std.proofs.Common.{rules, ◌≡◌, ◌++◌, ◌∙◌, sym, ap, refl, Err}
use Rattle.std.proofs.lemmas.List.{at_drop_all}
use Rattle.qk_ast.specs.Names.{pattern_names, patterns_names}
use Rattle.qk_locals.specs.Layers.{own}
use Rattle.qk_scope.specs.Answering.{declared_breaches}
use Rattle.qk_scope.proofs.Answered.{stopped, none, finished}
use Rattle.qk_scope.proofs.Declared.{declared_next, declared_on, names_on}
use Rattle.qk_scope.proofs.declaring.declare_patterns.Goals as goal

pub returns-in_err-declare_pattern-clause-rules : goal.returns-in_err-declare_pattern-clause-rules
returns-in_err-declare_pattern-clause-rules c =
    let e : c.from_residual.result ≡ Err c.in_err-declare_pattern.field-0.0 = search rules in
    stopped _ _ _ c.from_residual.result c.in_err-declare_pattern.field-0.0
    (declared_next patterns_names pattern_names (λ x xs. refl) (own c.args.scopes.now).ended c.loop-pattern.earlier c.args.patterns.now c.loop-pattern.pattern-index c.pattern-item.result c.loop-pattern-test.true c.pattern-item.is ∙ c.loop-pattern.invariant.rules)
    e c.in_err-declare_pattern.ensures.rules

pub loop-pattern-preserved : goal.loop-pattern-preserved
loop-pattern-preserved c = record {
  rules = declared_on patterns_names pattern_names (λ x xs. refl) (own c.args.scopes.now).ended c.loop-pattern.earlier c.declare_pattern.new.earlier c.args.patterns.now c.loop-pattern.pattern-index c.pattern-item.result c.loop-pattern-test.true c.pattern-item.is
      c.in_ok-declare_pattern.ensures.earlier (none _ c.in_ok-declare_pattern.ensures.rules) ∙ c.loop-pattern.invariant.rules;
  earlier = names_on patterns_names pattern_names (λ x xs. refl) c.loop-pattern.earlier c.declare_pattern.new.earlier c.args.patterns.now c.loop-pattern.pattern-index c.pattern-item.result c.loop-pattern-test.true c.pattern-item.is
      c.in_ok-declare_pattern.ensures.earlier ∙ c.loop-pattern.invariant.earlier;
}

pub returns-clause-rules : goal.returns-clause-rules
returns-clause-rules c = finished _ (sym c.loop-pattern.invariant.rules
    ∙ ap (declared_breaches ((own c.args.scopes.now).ended ++ c.loop-pattern.earlier)) (at_drop_all patterns_names c.args.patterns.now c.loop-pattern.pattern-index c.loop-pattern-test.false))
