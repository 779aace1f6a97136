use Rattle.std.proofs.Common.{◌≡◌, length}
use Rattle.qk_ast.specs.Characters.{is_front}
use Rattle.qk_lex.proofs.tables.begins_with.Given as goal

abbrev pub invariant-loop-sign : goal.invariant-loop-sign
invariant-loop-sign l = is_front l.sign l.text ≡ is_front l.initial.sign l.initial.text

abbrev pub decreases-loop-sign : goal.decreases-loop-sign
decreases-loop-sign l = length l.sign
