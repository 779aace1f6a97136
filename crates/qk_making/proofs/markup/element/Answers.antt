use Rattle.std.proofs.Common.{◌≡◌, ◌∙◌, ap, sym}
use Rattle.qk_meaning.specs.Markup as meaning
use Rattle.qk_value.specs.declared.value.Elem.{Elem}
use Rattle.qk_value.specs.View.{shown_by, seen_all, seen_fields, seen_element}
use Rattle.qk_environment.specs.Scoping.{Captures}
use Rattle.qk_environment.proofs.Scopes.{if_ok}
use Rattle.qk_making.specs.Tags as tags
use Rattle.qk_making.proofs.Elements.{of_slot, of_parts}
use Rattle.qk_making.proofs.markup.element.Goals as goal

pub returns-then-is_slot : goal.returns-then-is_slot
returns-then-is_slot c =
    let Named : Elem → Type 0 = λ e. (names : Captures) → seen_element names e ≡ tags.slot_seen (seen_fields names c.args.attributes.now) in
    let Wanted : Elem → Type 0 = λ e. (names : Captures) → seen_element names e ≡ meaning.element (shown_by c.args.tag) (seen_fields names c.args.attributes.now) (seen_all names c.args.children) in
    if_ok Named Wanted c.slot.result (λ e named names. named names ∙ sym (of_slot (shown_by c.args.tag) (seen_fields names c.args.attributes.now) (seen_all names c.args.children) (sym c.is_slot.ensures ∙ c.if-is_slot.true))) c.slot.ensures

pub returns : goal.returns
returns c = λ names. of_parts
    (shown_by c.args.tag) (seen_fields names c.args.attributes.now) (seen_all names c.args.children) _ _ _ _
    (sym c.is_slot.ensures ∙ c.if-is_slot.false)
    (c.in_ok-key_among.ensures names) (c.in_ok-text_among.ensures names) (c.in_ok-shown_attributes.ensures names) (ap (seen_all names) c.in_ok-into_list.ensures)
