use Rattle.std.proofs.Common.{◌≡◌, ℕ, List, ◌||◌, drop}
use Rattle.qk_modules.specs.Exporting.{has_pair}
use Rattle.qk_modules.specs.Gathering.{one_exports}
use Rattle.qk_modules.proofs.exports.exports_of.Given as goal

abbrev pub invariant-loop-module : goal.invariant-loop-module
invariant-loop-module l = (m n : List ℕ) → (has_pair l.exports m n || one_exports (drop l.module-index l.modules) m n) ≡ one_exports l.modules m n
