use Rattle.std.proofs.Common.{◌∙◌, ap, sym}
use Rattle.qk_lex.specs.Regions.{gaps_in}
use Rattle.qk_lex.proofs.ReadingLemmas.{gap_in, no_gap_in}
use Rattle.qk_lex.proofs.reading.past_gap.Goals as goal

pub returns-then-has_gaps-clause-gap : goal.returns-then-has_gaps-clause-gap
returns-then-has_gaps-clause-gap c = λ around e. gap_in around _ _ (ap gaps_in e ∙ (sym c.has_gaps.ensures ∙ c.if-has_gaps.true)) c.after_gap.ensures.value

pub returns-else-has_gaps-clause-gap : goal.returns-else-has_gaps-clause-gap
returns-else-has_gaps-clause-gap c = λ around e. no_gap_in around _ (ap gaps_in e ∙ (sym c.has_gaps.ensures ∙ c.if-has_gaps.false))
