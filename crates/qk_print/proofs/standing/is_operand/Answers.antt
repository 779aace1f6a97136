use Rattle.std.proofs.Common.{ap, sym, ◌∙◌, not, ◌&&◌}
use Rattle.qk_print.specs.Shapes.{is_operand, is_less}
use Rattle.qk_print.specs.Lists.{last_is_return}
use Rattle.qk_print.proofs.Equations.{operand_of_post}
use Rattle.qk_print.proofs.standing.is_operand.Goals as goal

pub returns-in-Post : goal.returns-in-Post
returns-in-Post c = c.goes_on.ensures ∙ ap (λ ls. not (is_less c.args.next && last_is_return ls)) c.as_slice.ensures
    ∙ sym (ap (is_operand c.args.next) c.in-Post.is ∙ operand_of_post c.args.next c.in-Post.field-0 c.in-Post.links)
