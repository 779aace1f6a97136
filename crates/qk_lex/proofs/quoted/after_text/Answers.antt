use Rattle.std.proofs.Common.{rules, None, Some}
use Rattle.qk_lex.proofs.QuoteLemmas.{at_quote, past_piece, at_no_piece, at_end}
use Rattle.qk_lex.proofs.quoted.after_text.Goals as goal

pub returns-then-c-quote-clause-value : goal.returns-then-c-quote-clause-value
returns-then-c-quote-clause-value c = c.loop-c.invariant.value (Some _) (at_quote _ _ _ _ c.in-Some.ensures.value c.if-c-quote.true)

pub returns-in-None-clause-value : goal.returns-in-None-clause-value
returns-in-None-clause-value c = c.loop-c.invariant.value None (at_no_piece _ _ _ _ c.in-Some.ensures.value c.if-c-quote.false c.in-None.ensures.value)

pub loop-c-preserved : goal.loop-c-preserved
loop-c-preserved c = record {
  utf8 = search rules;
  value = λ found k. c.loop-c.invariant.value found
      (past_piece _ _ _ _ _ c.requires c.in-Some.ensures.value c.if-c-quote.false c.in-Some-after_text_piece.ensures.value found k);
  within = search rules;
}

pub returns-clause-value : goal.returns-clause-value
returns-clause-value c = c.loop-c.invariant.value None (at_end _ _ c.in_default.ensures.value)
