use Rattle.std.proofs.Common.{◌≡◌, drop}
use Rattle.qk_ast.specs.Characters.{is_one_of}
use Rattle.qk_first.proofs.names.has.Given as goal

abbrev pub invariant-loop-other : goal.invariant-loop-other
invariant-loop-other l = is_one_of l.word l.words ≡ is_one_of l.word (drop l.other-index l.words)
