use Rattle.std.proofs.Common.{rules, ◌≡◌, ◌∙◌, sym, refl, Err}
use Rattle.qk_ast.specs.Mentions.{imported_after, import_mentions, import_names}
use Rattle.qk_scope.proofs.Answered.{stopped, none, finished}
use Rattle.qk_scope.proofs.Declared.{names_on}
use Rattle.qk_scope.proofs.Chained.{chained_next, chained_on, chained_last}
use Rattle.qk_scope.proofs.importing.imports.Goals as goal

pub returns-in_err-import_one-clause-rules : goal.returns-in_err-import_one-clause-rules
returns-in_err-import_one-clause-rules c =
    let e : c.from_residual.result ≡ Err c.in_err-import_one.field-0.0 = search rules in
    stopped _ _ _ c.from_residual.result c.in_err-import_one.field-0.0
    (chained_next c.args.rules.now (import_mentions) (λ e i. imported_after i.from e i.names) (λ i. i.names) (λ e x xs. refl) c.loop-import.earlier c.args.imports.now c.loop-import.import-index c.import-item.result c.loop-import-test.true c.import-item.is ∙ c.loop-import.invariant.rules)
    e c.in_err-import_one.ensures.rules

pub loop-import-preserved : goal.loop-import-preserved
loop-import-preserved c = record {
  rules = chained_on c.args.rules.now (import_mentions) (λ e i. imported_after i.from e i.names) (λ i. i.names) (λ e x xs. refl) c.loop-import.earlier c.import_one.new.earlier c.args.imports.now c.loop-import.import-index c.import-item.result c.loop-import-test.true c.import-item.is
      c.in_ok-import_one.ensures.earlier (none _ c.in_ok-import_one.ensures.rules) ∙ c.loop-import.invariant.rules;
  earlier = names_on import_names (λ i. i.names) (λ x xs. refl) c.loop-import.earlier c.import_one.new.earlier c.args.imports.now c.loop-import.import-index c.import-item.result c.loop-import-test.true c.import-item.is
      c.in_ok-import_one.ensures.earlier ∙ c.loop-import.invariant.earlier;
}

pub returns-clause-rules : goal.returns-clause-rules
returns-clause-rules c = finished _ (sym c.loop-import.invariant.rules
    ∙ chained_last c.args.rules.now (import_mentions) (λ e i. imported_after i.from e i.names) (λ i. i.names) (λ e x xs. refl) (λ e. refl) c.loop-import.earlier c.args.imports.now c.loop-import.import-index c.loop-import-test.false)
