use Rattle.std.specs.Prelude.{map}
use Rattle.std.proofs.Common.{◌≡◌, ◌++◌, length, drop}
use Rattle.qk_meaning.specs.Methods as methods
use Rattle.qk_value.specs.View.{seen}
use Rattle.qk_environment.specs.Scoping.{Captures}
use Rattle.qk_eval.proofs.pieces.kept.Given as goal

abbrev pub invariant-loop-v : goal.invariant-loop-v
invariant-loop-v l = (names : Captures) → map (seen names) l.left ++ methods.kept (map (seen names) (drop (length l.yielded) l.all)) (map (seen names) (drop (length l.yielded) l.flags)) ≡ methods.kept (map (seen names) l.all) (map (seen names) l.flags)
