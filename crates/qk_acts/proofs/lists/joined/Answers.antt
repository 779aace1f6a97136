use Rattle.std.specs.Prelude.{map, string_bytes}
use Rattle.std.proofs.Common.{sym, ap, ◌∙◌, subst, rules}
use Rattle.std.proofs.lemmas.List.{at_drop_all}
use Rattle.qk_meaning.specs.Operators.{short_text}
use Rattle.qk_value.specs.View.{seen}
use Rattle.qk_ops.specs.Answering.{Gave}
use Rattle.qk_acts.specs.Lists.{joined_on}
use Rattle.qk_acts.proofs.Joining.{none_joined, first_joined, first_stops, item_joined, item_stops}
use Rattle.qk_acts.proofs.lists.joined.Goals as goal

pub returns-in_default : goal.returns-in_default
returns-in_default c = λ names.
    subst (λ answer. Gave (seen names) answer c.short_text.result) (ap short_text c.new-text.ensures.bytes ∙ sym (none_joined c.args.between.now (seen names) c.args.items.now c.in_default.ensures.cases)) (c.short_text.ensures names)

pub returns-in_err-append_item : goal.returns-in_err-append_item
returns-in_err-append_item c = λ names.
    first_stops c.args.between.now (seen names) (seen names) c.args.items.now c.in-Some.rest.now c.in-Some.first.now _ _ _ _ (search rules) c.in-Some.ensures.cases.0 (c.in_err-append_item.ensures names)

pub loop-item-init : goal.loop-item-init
loop-item-init c = λ names.
    first_joined c.args.between.now (seen names) c.args.items.now c.in-Some.rest.now c.in-Some.first.now _ _ c.in-Some.ensures.cases.0 c.new-text.ensures.bytes (c.in_ok-append_item.ensures names)

pub returns-in_err-append_next : goal.returns-in_err-append_next
returns-in_err-append_next c = λ names.
    item_stops c.args.between.now (seen names) c.in-Some.rest.now c.loop-item.item-index c.item-item.result c.loop-item-test.true c.item-item.is (seen names) _ _ _ _ (search rules) (c.in_err-append_next.ensures.stops names) (c.loop-item.invariant names)

pub loop-item-preserved : goal.loop-item-preserved
loop-item-preserved c = λ names.
    item_joined c.args.between.now (seen names) c.in-Some.rest.now c.loop-item.item-index c.item-item.result c.loop-item-test.true c.item-item.is _ _ _ (c.in_ok-append_next.ensures.goes_on names) (c.loop-item.invariant names)

pub returns : goal.returns
returns c = λ names.
    subst (λ answer. Gave (seen names) answer c.short_text-2.result)
    (sym (at_drop_all (λ rest. joined_on c.args.between.now (string_bytes c.loop-item.text) (map (seen names) rest)) c.in-Some.rest.now c.loop-item.item-index c.loop-item-test.false) ∙ c.loop-item.invariant names) (c.short_text-2.ensures names)
