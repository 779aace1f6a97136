use Rattle.std.proofs.Common.{sym, rules}
use Rattle.qk_lex.proofs.GapLemmas.{gap_more, gap_none}
use Rattle.qk_lex.proofs.gap.after_gap.Goals as goal

pub loop-more-preserved : goal.loop-more-preserved
loop-more-preserved c = record {
  utf8 = search rules;
  value = λ rest g. c.loop-more.invariant.value rest (gap_more _ _ _ (sym c.in-Some.ensures.value) g);
  within = search rules;
}

pub returns-clause-value : goal.returns-clause-value
returns-clause-value c = c.loop-more.invariant.value _ (gap_none _ (sym c.in_default.ensures.value))
