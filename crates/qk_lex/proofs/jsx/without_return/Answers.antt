use Rattle.std.proofs.Common.{arith}
use Rattle.qk_lex.proofs.JoinLemmas.{return_last, no_return_last}
use Rattle.qk_lex.proofs.jsx.without_return.Goals as goal

pub returns-then-line-count-eq13 : goal.returns-then-line-count-eq13
returns-then-line-count-eq13 c = return_last c.args.line.now c.index-line-count.result (omega arith) c.index-line-count.is c.if-line-count-eq13.true

pub returns : goal.returns
returns c = no_return_last c.args.line.now c.index-line-count.result (omega arith) c.index-line-count.is c.if-line-count-eq13.false
