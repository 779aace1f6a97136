use Rattle.std.proofs.Common.{◌≡◌, ◌++◌, drop}
use Rattle.std.specs.String.{string_bytes}
use Rattle.qk_meaning.specs.Making.{filled as parts_filled}
use Rattle.qk_eval.proofs.pieces.filled.Given as goal

abbrev pub invariant-loop-i : goal.invariant-loop-i
invariant-loop-i l = string_bytes l.text ++ parts_filled (drop l.i l.parts) (drop l.i l.holes) ≡ parts_filled l.parts l.holes
