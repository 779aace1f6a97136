use Rattle.std.proofs.Common.{rules}
use Rattle.qk_meaning.specs.Setting.{captures}
use Rattle.qk_making.specs.Acting.{seen_in}
use Rattle.qk_acts.proofs.Text_calls.{answer_given, answer_refused, starts_called, included_called}
use Rattle.qk_acts.proofs.lists.text_method.Goals as goal

pub returns-in_err-text_call : goal.returns-in_err-text_call
returns-in_err-text_call c = λ here.
    answer_refused (seen_in here) _ _ c.in_err-text_call.field-0.0 _ (search rules)
    (starts_called here c.args.starts (seen_in here c.args.v.now) c.args.arguments.now c.in-Some.text.now c.as_str.result.now (c.in-Some.ensures (captures here)) c.as_str.ensures c.if-starts.true)
    (c.in_err-text_call.ensures (captures here))

pub returns-then-starts : goal.returns-then-starts
returns-then-starts c = λ here.
    answer_given (seen_in here) _ _ c.in_ok-text_call.field-0
    (starts_called here c.args.starts (seen_in here c.args.v.now) c.args.arguments.now c.in-Some.text.now c.as_str.result.now (c.in-Some.ensures (captures here)) c.as_str.ensures c.if-starts.true)
    (c.in_ok-text_call.ensures (captures here))

pub returns-in_err-text_call-2 : goal.returns-in_err-text_call-2
returns-in_err-text_call-2 c = λ here.
    answer_refused (seen_in here) _ _ c.in_err-text_call-2.field-0.0 _ (search rules)
    (included_called here c.args.starts (seen_in here c.args.v.now) c.args.arguments.now c.in-Some.text.now c.as_str-2.result.now (c.in-Some.ensures (captures here)) c.as_str-2.ensures c.if-starts.false)
    (c.in_err-text_call-2.ensures (captures here))

pub returns : goal.returns
returns c = λ here.
    answer_given (seen_in here) _ _ c.in_ok-text_call-2.field-0
    (included_called here c.args.starts (seen_in here c.args.v.now) c.args.arguments.now c.in-Some.text.now c.as_str-2.result.now (c.in-Some.ensures (captures here)) c.as_str-2.ensures c.if-starts.false)
    (c.in_ok-text_call-2.ensures (captures here))
