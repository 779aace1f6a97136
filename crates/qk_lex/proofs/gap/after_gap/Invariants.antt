use Rattle.std.proofs.Common.{◌≤◌, length}
use Rattle.std.specs.Str.{chars}
use denote.Text.{Utf8}
use denote.Shadow.{shadow}
use Rattle.qk_ast.specs.Characters.{Characters}
use Rattle.qk_lex.specs.Gaps.{Gap}
use Rattle.qk_lex.proofs.gap.after_gap.Given as goal

abbrev pub invariant-loop-more : goal.invariant-loop-more
invariant-loop-more l = record {
  utf8 : shadow (Utf8 l.rest);
  value : (rest : Characters) → Gap (chars l.rest) rest → Gap (chars l.text) rest;
  within : length l.rest ≤ length l.text;
}

abbrev pub decreases-loop-more : goal.decreases-loop-more
decreases-loop-more l = length l.rest
