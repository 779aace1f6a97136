use Rattle.std.proofs.Common.{ℕ, ◌≤◌, length, List, [], ◌++◌, false}
use Rattle.std.specs.Str.{chars}
use denote.Text.{Utf8}
use denote.Shadow.{shadow}
use Rattle.qk_lex.specs.declared.Token.{Token}
use Rattle.qk_lex.specs.Reading.{Reads, StopsIn}
use Rattle.qk_lex.proofs.reading.tokens.Given as goal

abbrev pub invariant-loop-front : goal.invariant-loop-front
invariant-loop-front l = record {
  utf8 : shadow (Utf8 l.rest);
  reads : (found : List Token) → Reads (length l.text) l.regions l.before_jsx (chars l.rest) found → Reads (length l.text) [] false (chars l.text) (l.found.items ++ found);
  stops : (at : ℕ) → StopsIn (length l.text) l.regions l.before_jsx (chars l.rest) at → StopsIn (length l.text) [] false (chars l.text) at;
  within : length l.rest ≤ length l.text;
}

abbrev pub decreases-loop-front : goal.decreases-loop-front
decreases-loop-front l = length l.rest
