use Rattle.std.proofs.Common.{◌≡◌, ◌||◌, ◌==◌, length}
use Rattle.std.specs.Str.{chars}
use denote.Text.{Utf8}
use denote.Shadow.{shadow}
use Rattle.qk_ast.specs.Characters.{every, is_letter, is_digit}
use Rattle.qk_grammar.proofs.tags.all_continue.Given as goal

abbrev pub invariant-loop-c : goal.invariant-loop-c
invariant-loop-c l = record {
  utf8 : shadow (Utf8 l.rest);
  value : every (λ c. is_letter c || is_digit c || (c == 45)) (chars l.rest) ≡ every (λ c. is_letter c || is_digit c || (c == 45)) (chars l.text);
}

abbrev pub decreases-loop-c : goal.decreases-loop-c
decreases-loop-c l = length l.rest
