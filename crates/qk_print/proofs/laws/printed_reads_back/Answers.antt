use Rattle.qk_print.proofs.Printed_tokens.{printed_tokens}
use Rattle.qk_print.proofs.Reads_back.{reads_back}
use Rattle.qk_print.proofs.laws.printed_reads_back.Goals as goal

pub returns : goal.returns
returns c = λ source m d.
    let printed = printed_tokens d.characters d.tokens m d.read d.parse d.flat in
    reads_back source m d printed.0 printed.1 printed.2 printed.3 printed.4
