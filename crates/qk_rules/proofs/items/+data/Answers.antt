use Rattle.std.proofs.Common.{rules, ap, ◌∙◌}
use Rattle.qk_ast.specs.Placing.{is_data}
use Rattle.qk_rules.proofs.Data.{data_of_list, data_of_record, data_of_unary}
use Rattle.qk_rules.proofs.items.+data.Goals as goal

pub is_data-returns-in-Unary : goal.is_data-returns-in-Unary
is_data-returns-in-Unary t c = rw (ap is_data c.in-Unary.is ∙ data_of_unary c.in-Unary.op c.in-Unary.value) (search rules)

pub is_data-returns-in-List : goal.is_data-returns-in-List
is_data-returns-in-List t c = rw (ap is_data c.in-List.is ∙ data_of_list c.in-List.items) (search rules)

pub is_data-returns-in-Record : goal.is_data-returns-in-Record
is_data-returns-in-Record t c = rw (ap is_data c.in-Record.is ∙ data_of_record c.in-Record.fields) (search rules)
