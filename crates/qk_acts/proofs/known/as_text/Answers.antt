use Rattle.std.proofs.Common.{rules}
use Rattle.qk_meaning.specs.Value as M
use Rattle.qk_meaning.specs.Operators.{text_of}
use Rattle.qk_meaning.specs.Doing.{give}
use Rattle.qk_meaning.specs.Setting.{captures}
use Rattle.qk_making.specs.Acting.{seen_in}
use Rattle.qk_acts.proofs.Array_changes.{only_is}
use Rattle.qk_acts.proofs.Known_calls.{comes_unanswered}
use Rattle.qk_acts.proofs.known.as_text.Goals as goal

pub returns-in_err-text_of : goal.returns-in_err-text_of
returns-in_err-text_of c = λ here s.
    rw (only_is c.args.arguments.now c.in-Some.v.now (search rules))
    (comes_unanswered (seen_in here) (λ (t : M.Text). t) (text_of (seen_in here c.in-Some.v.now)) (λ t. give (M.Words t)) c.in_err-text_of.field-0.0 _ s (search rules) (c.in_err-text_of.ensures (captures here)))
