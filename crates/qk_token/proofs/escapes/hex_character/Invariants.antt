use Rattle.std.proofs.Common.{◌≤◌, length}
use Rattle.std.specs.Str.{chars}
use denote.Text.{Utf8}
use denote.Shadow.{shadow}
use Rattle.qk_token.proofs.Hex.{Reading}
use Rattle.qk_token.proofs.escapes.hex_character.Given as goal

abbrev pub invariant-loop : goal.invariant-loop
invariant-loop l = record {
  utf8 : shadow (Utf8 l.rest);
  reading : Reading l.most l.counter l.number (chars l.rest) (chars l.text);
  within : length l.rest ≤ length l.text;
}
