use Rattle.std.proofs.Common.{◌≡◌, ◌≤◌, length, false}
use Rattle.std.specs.Str.{chars}
use denote.Text.{Utf8}
use denote.Shadow.{shadow}
use Rattle.qk_lex.specs.Quotes.{after_braced}
use Rattle.qk_lex.proofs.quoted.after_braced.Given as goal

abbrev pub invariant-loop-c : goal.invariant-loop-c
invariant-loop-c l = record {
  utf8 : shadow (Utf8 l.rest);
  value : after_braced l.number l.some (chars l.rest) ≡ after_braced 0 false (chars l.text);
  within : length l.rest ≤ length l.text;
}

abbrev pub decreases-loop-c : goal.decreases-loop-c
decreases-loop-c l = length l.rest
