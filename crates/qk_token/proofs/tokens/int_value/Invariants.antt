use Rattle.std.proofs.Common.{◌≡◌, length, true}
use Rattle.std.specs.Str.{chars}
use denote.Text.{Utf8}
use denote.Shadow.{shadow}
use Rattle.qk_ast.specs.Characters.{every, is_digit, number_after}
use Rattle.qk_token.proofs.Numbers.{Within}
use Rattle.qk_token.proofs.tokens.int_value.Given as goal

abbrev pub invariant-loop-c : goal.invariant-loop-c
invariant-loop-c l = record {
  utf8 : shadow (Utf8 l.rest);
  digits : every is_digit (chars l.rest) ≡ true;
  small : Within l.value (chars l.rest);
  value : number_after 10 l.value (chars l.rest) ≡ number_after 10 0 (chars l.digits);
}

abbrev pub decreases-loop-c : goal.decreases-loop-c
decreases-loop-c l = length l.rest
