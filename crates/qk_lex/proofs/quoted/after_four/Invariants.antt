use Rattle.std.proofs.Common.{◌≡◌, ◌≤◌, ◌-◌, length}
use Rattle.std.specs.Str.{chars}
use denote.Text.{Utf8}
use denote.Shadow.{shadow}
use Rattle.qk_lex.specs.Quotes.{after_digits}
use Rattle.qk_lex.proofs.quoted.after_four.Given as goal

abbrev pub invariant-loop : goal.invariant-loop
invariant-loop l = record {
  utf8 : shadow (Utf8 l.rest);
  value : after_digits (4 - l.counter) l.number (chars l.rest) ≡ after_digits 4 0 (chars l.text);
  within : length l.rest ≤ length l.text;
}
