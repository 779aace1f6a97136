use Rattle.std.proofs.Common.{◌≡◌, drop, map}
use Rattle.qk_ast.specs.Characters.{is_one_of}
use Rattle.qk_first.proofs.names.is_one_of.Given as goal

abbrev pub invariant-loop-other : goal.invariant-loop-other
invariant-loop-other l = is_one_of l.word (map (λ w. w.now) l.words) ≡ is_one_of l.word (map (λ w. w.now) (drop l.other-index l.words))
