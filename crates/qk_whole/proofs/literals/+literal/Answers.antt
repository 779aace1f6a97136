use Rattle.std.proofs.Common.{sym, ap, ◌∙◌, map, List}
use Rattle.std.proofs.lemmas.List.{take_all}
use Rattle.qk_meaning.specs.Value as M
use Rattle.qk_meaning.specs.Value.{end}
use Rattle.qk_meaning.specs.Parts.{packed}
use Rattle.qk_meaning.specs.Roots.{literal, negated}
use Rattle.qk_value.specs.View.{seen}
use Rattle.qk_value.specs.declared.value.Value.{Value}
use Rattle.qk_value.proofs.Viewing.{seen-List, seen-Record}
use Rattle.qk_whole.specs.Literals.{all_literals, fields_behind}
use Rattle.qk_whole.proofs.Literal_rows.{literal-List, literal-Record, literal-Unary, literals_packed, seen_packed}
use Rattle.qk_whole.proofs.Results.{if_ok}
use Rattle.qk_whole.proofs.literals.+literal.Goals as goal

pub literal-returns-in_ok-literals-in-List : goal.literal-returns-in_ok-literals-in-List
literal-returns-in_ok-literals-in-List t c = λ names.
    seen-List names c.in_ok-literals-in-List.field-0 ∙ ap M.Items (c.in_ok-literals-in-List.ensures names ∙ ap all_literals c.as_slice.ensures) ∙ sym (literal-List c.in-List.items) ∙ ap literal (sym c.in-List.is)

pub literal-returns-in_ok-literal_fields-in-Record : goal.literal-returns-in_ok-literal_fields-in-Record
literal-returns-in_ok-literal_fields-in-Record t c = λ names.
    seen-Record names c.in_ok-literal_fields-in-Record.field-0 ∙ ap M.Record (c.in_ok-literal_fields-in-Record.ensures names ∙ ap (fields_behind end) c.as_slice-in-Record.ensures) ∙ sym (literal-Record c.in-Record.fields) ∙ ap literal (sym c.in-Record.is)

pub literal-returns-in_ok-literal-in-Unary : goal.literal-returns-in_ok-literal-in-Unary
literal-returns-in_ok-literal-in-Unary t c =
    if_ok c.negated.result (λ v h names. h names ∙ ap negated (c.in_ok-literal-in-Unary.ensures names ∙ ap literal c.get.ensures) ∙ sym (literal-Unary c.in-Unary.field-0 c.in-Unary.value) ∙ ap literal (sym c.in-Unary.is)) c.negated.ensures

pub literals-returns : goal.literals-returns
literals-returns t c = if_ok c.into_list.result (λ vs e names.
    seen_packed names vs ∙ ap (λ (vs : List Value). packed (map (seen names) vs)) e ∙ ap packed (c.loop-item.invariant names ∙ ap (map literal) (take_all c.loop-item.item-index c.args.items.now c.loop-item-test.false)) ∙ sym (literals_packed c.args.items.now)) c.into_list.ensures
