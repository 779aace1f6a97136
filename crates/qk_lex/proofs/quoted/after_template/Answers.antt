use Rattle.std.proofs.Common.{rules, None, Some}
use Rattle.std.specs.Str.{chars}
use Rattle.qk_ast.specs.Tokens.{Backquote, Hole}
use Rattle.qk_lex.proofs.QuoteLemmas.{at_backquote, at_hole, past_template_piece, at_no_template_piece, at_template_end}
use Rattle.qk_lex.proofs.quoted.after_template.Goals as goal

pub returns-then-c-eq96-clause-value : goal.returns-then-c-eq96-clause-value
returns-then-c-eq96-clause-value c = c.loop-c.invariant.value (Some (Backquote, chars c.in-Some.more.now)) (at_backquote _ _ _ c.in-Some.ensures.value c.if-c-eq96.true)

pub returns-in-Some-after_hole-clause-value : goal.returns-in-Some-after_hole-clause-value
returns-in-Some-after_hole-clause-value c = c.loop-c.invariant.value (Some (Hole, chars c.in-Some-after_hole.inside.now)) (at_hole _ _ _ _ c.in-Some.ensures.value c.in-Some-after_hole.ensures.value)

pub returns-in-None-clause-value : goal.returns-in-None-clause-value
returns-in-None-clause-value c = c.loop-c.invariant.value None (at_no_template_piece _ _ _ c.in-Some.ensures.value c.in-None.ensures.value)

pub loop-c-preserved : goal.loop-c-preserved
loop-c-preserved c = record {
  utf8 = search rules;
  value = λ found k. c.loop-c.invariant.value found
      (past_template_piece _ _ _ _ c.in-Some.ensures.value c.if-c-eq96.false c.in_default-after_hole.ensures.value c.in-Some-after_template_piece.ensures.value found k);
  within = search rules;
}

pub returns-clause-value : goal.returns-clause-value
returns-clause-value c = c.loop-c.invariant.value None (at_template_end _ c.in_default.ensures.value)
