use Rattle.std.proofs.Common.{◌≡◌, ◌∙◌, ap, sym, arith}
use Rattle.qk_meaning.specs.Markup as meaning
use Rattle.qk_value.specs.View.{seen_fields}
use Rattle.qk_environment.specs.Scoping.{Captures}
use Rattle.qk_environment.proofs.Scopes.{if_ok}
use Rattle.qk_making.proofs.Written_attributes.{Written, shown_passes, shown_next, all_shown}
use Rattle.qk_making.proofs.attributes.shown_attributes.Goals as goal

pub loop-attribute-preserved-then-is_own_part : goal.loop-attribute-preserved-then-is_own_part
loop-attribute-preserved-then-is_own_part c = λ names.
    shown_passes names c.args.attributes.now c.loop-attribute.attribute-index _ c.loop-attribute-test.true c.attribute-item.is (seen_fields names c.loop-attribute.shown) (sym c.is_own_part.ensures ∙ c.if-is_own_part.true)
    ∙ c.loop-attribute.invariant names

pub loop-attribute-preserved : goal.loop-attribute-preserved
loop-attribute-preserved c = λ names.
    shown_next names c.args.attributes.now c.loop-attribute.attribute-index _ c.loop-attribute-test.true c.attribute-item.is c.in_ok-share.field-0 c.in_ok-share-2.field-0 c.loop-attribute.shown _ (sym c.is_own_part.ensures ∙ c.if-is_own_part.false)
    c.in_ok-share.ensures c.in_ok-share-2.ensures c.in_ok-push.ensures.appended
    ∙ c.loop-attribute.invariant names

pub returns : goal.returns
returns c =
    let Built : Written → Type 0 = λ all. all ≡ c.loop-attribute.shown in
    let Wanted : Written → Type 0 = λ all. (names : Captures) → seen_fields names all ≡ meaning.shown_attributes (seen_fields names c.args.attributes.now) in
    if_ok Built Wanted c.into_list.result (λ all is names.
    ap (seen_fields names) is
    ∙ (sym (all_shown names (seen_fields names c.loop-attribute.shown) c.args.attributes.now c.loop-attribute.attribute-index (omega (arith, c.loop-attribute-test.false)))
    ∙ c.loop-attribute.invariant names)) c.into_list.ensures
