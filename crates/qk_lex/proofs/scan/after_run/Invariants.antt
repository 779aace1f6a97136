use Rattle.std.proofs.Common.{◌≡◌, ◌≤◌, length}
use Rattle.std.specs.Str.{chars}
use denote.Text.{Utf8}
use denote.Shadow.{shadow}
use Rattle.qk_ast.specs.Characters.{after_run}
use Rattle.qk_lex.specs.Scan.{is_in}
use Rattle.qk_lex.proofs.scan.after_run.Given as goal

abbrev pub invariant-loop-c : goal.invariant-loop-c
invariant-loop-c l = record {
  utf8 : shadow (Utf8 l.rest);
  value : after_run (is_in l.class) (chars l.rest) ≡ after_run (is_in l.class) (chars l.text);
  within : length l.rest ≤ length l.text;
}

abbrev pub decreases-loop-c : goal.decreases-loop-c
decreases-loop-c l = length l.rest
