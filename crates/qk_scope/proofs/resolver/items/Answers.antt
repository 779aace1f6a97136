use Rattle.std.proofs.Common.{rules, ◌≡◌, ◌+◌, [], ◌∷◌, ◌∙◌, sym, ap, refl, subst, drop, Err}
use Rattle.qk_ast.specs.Arrows.{Unmarked}
use Rattle.qk_ast.specs.Mentions.{Roots, mentions, item_mentions}
use Rattle.qk_scope.specs.Answering.{Answers, breaches}
use Rattle.qk_scope.proofs.Answered.{stopped, none, finished}
use Rattle.qk_scope.proofs.Chained.{chained_next, chained_on, chained_last}
use Rattle.qk_scope.proofs.resolver.items.Goals as goal

pub returns-in_err-named_item : goal.returns-in_err-named_item
returns-in_err-named_item c =
    let k = c.loop-item.keeper in let x = c.item-item.result in let root = ap (λ k. k.scopes) c.loop-item.invariant.kept ∙ c.requires.root in
    let e : c.from_residual.result ≡ Err c.in_err-named_item.field-0.0 = search rules in
    stopped _ _ _ c.from_residual.result c.in_err-named_item.field-0.0
    (chained_next k.rules item_mentions (λ earlier x. Roots x.name earlier ∷ mentions x.init Unmarked []) (λ x. x.name ∷ []) (λ earlier x xs. refl) c.loop-item.earlier c.args.items.now c.loop-item.item-index x c.loop-item-test.true c.item-item.is ∙ c.loop-item.invariant.rules)
    e (subst (λ s. Answers (breaches k.rules (Roots x.name c.loop-item.earlier ∷ mentions x.init Unmarked s)) (Err c.in_err-named_item.field-0.0)) root c.in_err-named_item.ensures.rules)

pub loop-item-preserved : goal.loop-item-preserved
loop-item-preserved c =
    let k = c.loop-item.keeper in let x = c.item-item.result in let root = ap (λ k. k.scopes) c.loop-item.invariant.kept ∙ c.requires.root in record {
      rules = ap (λ k. breaches k.rules (item_mentions c.named_item.new.earlier (drop (c.loop-item.item-index + 1) c.args.items.now))) c.in_ok-named_item.ensures.kept
          ∙ chained_on k.rules item_mentions (λ earlier x. Roots x.name earlier ∷ mentions x.init Unmarked []) (λ x. x.name ∷ []) (λ earlier x xs. refl) c.loop-item.earlier c.named_item.new.earlier c.args.items.now c.loop-item.item-index x
          c.loop-item-test.true c.item-item.is c.in_ok-named_item.ensures.earlier
          (subst (λ s. breaches k.rules (Roots x.name c.loop-item.earlier ∷ mentions x.init Unmarked s) ≡ []) root (none _ c.in_ok-named_item.ensures.rules)) ∙ c.loop-item.invariant.rules;
      kept = c.in_ok-named_item.ensures.kept ∙ c.loop-item.invariant.kept;
    }

pub returns : goal.returns
returns c = finished _ (sym c.loop-item.invariant.rules ∙ chained_last c.loop-item.keeper.rules item_mentions (λ earlier x. Roots x.name earlier ∷ mentions x.init Unmarked []) (λ x. x.name ∷ []) (λ earlier x xs. refl)
    (λ earlier. refl) c.loop-item.earlier c.args.items.now c.loop-item.item-index c.loop-item-test.false)
