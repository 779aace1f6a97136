use Rattle.std.proofs.Common.{rules}
use Rattle.qk_meaning.specs.Operators.{text_of}
use Rattle.qk_value.specs.View.{seen}
use Rattle.qk_ops.proofs.Joining.{first_stops, second_stops, both_append}
use Rattle.qk_ops.proofs.texts.joined.Goals as goal

pub returns-in_err-append_operand : goal.returns-in_err-append_operand
returns-in_err-append_operand c = λ names.
    first_stops (seen names) (text_of (seen names c.args.a.now)) (text_of (seen names c.args.b.now)) _ _ _ _ (search rules) (c.in_err-append_operand.ensures names)

pub returns-in_err-append_operand-2 : goal.returns-in_err-append_operand-2
returns-in_err-append_operand-2 c = λ names.
    second_stops (seen names) (text_of (seen names c.args.a.now)) (text_of (seen names c.args.b.now)) _ _ _ _ _ _ (search rules) (c.in_ok-append_operand.ensures names) (c.in_err-append_operand-2.ensures names)

pub returns : goal.returns
returns c = λ names.
    both_append (seen names) (text_of (seen names c.args.a.now)) (text_of (seen names c.args.b.now)) _ _ _ _ (search rules) (c.in_ok-append_operand.ensures names) (c.in_ok-append_operand-2.ensures names) (c.short_text.ensures names)
