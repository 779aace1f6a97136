use Rattle.std.proofs.Common.{◌≤◌, length}
use Rattle.std.specs.Prelude.{Option}
use Rattle.std.specs.Str.{chars}
use denote.Text.{Utf8}
use denote.Shadow.{shadow}
use Rattle.qk_ast.specs.Characters.{Characters}
use Rattle.qk_lex.specs.Quotes.{Closes}
use Rattle.qk_lex.proofs.quoted.after_text.Given as goal

abbrev pub invariant-loop-c : goal.invariant-loop-c
invariant-loop-c l = record {
  utf8 : shadow (Utf8 l.rest);
  value : (found : Option Characters) → Closes l.quote (chars l.rest) found → Closes l.quote (chars l.text) found;
  within : length l.rest ≤ length l.text;
}

abbrev pub decreases-loop-c : goal.decreases-loop-c
decreases-loop-c l = length l.rest
