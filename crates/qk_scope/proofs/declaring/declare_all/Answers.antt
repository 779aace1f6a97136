use Rattle.std.proofs.Common.{rules, ◌≡◌, [], ◌∷◌, ◌++◌, ◌∙◌, sym, ap, refl, Err}
use Rattle.std.proofs.lemmas.List.{at_drop_all}
use Rattle.qk_locals.specs.Layers.{own}
use Rattle.qk_scope.specs.Answering.{declared_breaches}
use Rattle.qk_scope.proofs.Answered.{stopped, none, finished}
use Rattle.qk_scope.proofs.Declared.{declared_next, declared_on, names_on}
use Rattle.qk_scope.proofs.declaring.declare_all.Goals as goal

pub returns-in_err-declare-clause-rules : goal.returns-in_err-declare-clause-rules
returns-in_err-declare-clause-rules c =
    let e : c.from_residual.result ≡ Err c.in_err-declare.field-0.0 = search rules in
    stopped _ _ _ c.from_residual.result c.in_err-declare.field-0.0
    (declared_next (λ xs. xs) (λ x. x ∷ []) (λ x xs. refl) (own c.args.scopes.now).ended c.loop-name.earlier c.args.names.now c.loop-name.name-index c.name-item.result c.loop-name-test.true c.name-item.is ∙ c.loop-name.invariant.rules)
    e c.in_err-declare.ensures.rules

pub loop-name-preserved : goal.loop-name-preserved
loop-name-preserved c = record {
  rules = declared_on (λ xs. xs) (λ x. x ∷ []) (λ x xs. refl) (own c.args.scopes.now).ended c.loop-name.earlier c.declare.new.earlier c.args.names.now c.loop-name.name-index c.name-item.result c.loop-name-test.true c.name-item.is
      c.in_ok-declare.ensures.earlier (none _ c.in_ok-declare.ensures.rules) ∙ c.loop-name.invariant.rules;
  earlier = names_on (λ xs. xs) (λ x. x ∷ []) (λ x xs. refl) c.loop-name.earlier c.declare.new.earlier c.args.names.now c.loop-name.name-index c.name-item.result c.loop-name-test.true c.name-item.is
      c.in_ok-declare.ensures.earlier ∙ c.loop-name.invariant.earlier;
}

pub returns-clause-rules : goal.returns-clause-rules
returns-clause-rules c = finished _ (sym c.loop-name.invariant.rules
    ∙ ap (declared_breaches ((own c.args.scopes.now).ended ++ c.loop-name.earlier)) (at_drop_all (λ xs. xs) c.args.names.now c.loop-name.name-index c.loop-name-test.false))
