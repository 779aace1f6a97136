use Rattle.std.proofs.Common.{arith}
use Rattle.std.proofs.lemmas.Grind.{common_steps}
use Rattle.qk_call.proofs.Texts.{log_lines_are}
use Rattle.qk_call.proofs.printing.played_text.Goals as goal

pub returns : goal.returns
returns c = record { last = c.in_ok-last.last.items; ends = c.in_ok-last.ensures; is = grind (arith, common_steps, log_lines_are c.args.played.now.lines) }
