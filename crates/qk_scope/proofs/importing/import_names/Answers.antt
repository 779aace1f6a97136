use Rattle.std.proofs.Common.{rules, ◌≡◌, [], ◌∷◌, ◌∙◌, sym, refl, Err}
use Rattle.qk_ast.specs.Mentions.{Imports, imported_after}
use Rattle.qk_scope.proofs.Answered.{stopped, none, finished}
use Rattle.qk_scope.proofs.Declared.{names_on}
use Rattle.qk_scope.proofs.Chained.{chained_next, chained_on, chained_last}
use Rattle.qk_scope.proofs.importing.import_names.Goals as goal

pub returns-in_err-import_name-clause-rules : goal.returns-in_err-import_name-clause-rules
returns-in_err-import_name-clause-rules c =
    let e : c.from_residual.result ≡ Err c.in_err-import_name.field-0.0 = search rules in
    stopped _ _ _ c.from_residual.result c.in_err-import_name.field-0.0
    (chained_next c.args.rules.now (imported_after c.args.source.now) (λ e x. Imports x c.args.source.now e ∷ []) (λ x. x ∷ []) (λ e x xs. refl) c.loop-name.earlier c.args.names.now c.loop-name.name-index c.name-item.result c.loop-name-test.true c.name-item.is ∙ c.loop-name.invariant.rules)
    e c.in_err-import_name.ensures.rules

pub loop-name-preserved : goal.loop-name-preserved
loop-name-preserved c = record {
  rules = chained_on c.args.rules.now (imported_after c.args.source.now) (λ e x. Imports x c.args.source.now e ∷ []) (λ x. x ∷ []) (λ e x xs. refl) c.loop-name.earlier c.import_name.new.earlier c.args.names.now c.loop-name.name-index c.name-item.result c.loop-name-test.true c.name-item.is
      c.in_ok-import_name.ensures.earlier (none _ c.in_ok-import_name.ensures.rules) ∙ c.loop-name.invariant.rules;
  earlier = names_on (λ xs. xs) (λ x. x ∷ []) (λ x xs. refl) c.loop-name.earlier c.import_name.new.earlier c.args.names.now c.loop-name.name-index c.name-item.result c.loop-name-test.true c.name-item.is
      c.in_ok-import_name.ensures.earlier ∙ c.loop-name.invariant.earlier;
}

pub returns-clause-rules : goal.returns-clause-rules
returns-clause-rules c = finished _ (sym c.loop-name.invariant.rules
    ∙ chained_last c.args.rules.now (imported_after c.args.source.now) (λ e x. Imports x c.args.source.now e ∷ []) (λ x. x ∷ []) (λ e x xs. refl) (λ e. refl) c.loop-name.earlier c.args.names.now c.loop-name.name-index c.loop-name-test.false)
