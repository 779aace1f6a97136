use Rattle.std.proofs.Common.{◌∙◌, arith}
use Rattle.qk_lex.proofs.JoinLemmas.{space_last, other_last}
use Rattle.qk_lex.proofs.jsx.without_spaces_after.Goals as goal

pub returns-then-line-end-ne32 : goal.returns-then-line-end-ne32
returns-then-line-end-ne32 c = other_last c.args.line.now c.loop-end.end c.index-line-end.result c.loop-end-test.true c.loop-end.invariant.within c.index-line-end.is c.if-line-end-ne32.true ∙ c.loop-end.invariant.value

pub loop-end-preserved : goal.loop-end-preserved
loop-end-preserved c = record {
  within = omega arith;
  value = space_last c.args.line.now c.loop-end.end c.index-line-end.result c.loop-end-test.true c.loop-end.invariant.within c.index-line-end.is c.if-line-end-ne32.false ∙ c.loop-end.invariant.value;
}
