use Rattle.std.proofs.Common.{◌≡◌, ◌-◌, ◌≤◌, length, drop}
use Rattle.std.specs.Str.{chars}
use denote.Text.{Utf8}
use denote.Shadow.{shadow}
use Rattle.qk_lex.proofs.scan.skip.Given as goal

abbrev pub invariant-loop : goal.invariant-loop
invariant-loop l = record {
  utf8 : shadow (Utf8 l.rest);
  value : drop (l.count - l.counter) (chars l.rest) ≡ drop l.count (chars l.text);
  within : length l.rest ≤ length l.text;
}
