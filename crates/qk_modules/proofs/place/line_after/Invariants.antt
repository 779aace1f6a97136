use Rattle.std.proofs.Common.{◌≡◌, ◌≤◌, ◌+◌, suc, length}
use Rattle.qk_modules.specs.Places.{feeds}
use Rattle.qk_modules.proofs.Feeds.{line_with}
use Rattle.qk_modules.proofs.place.line_after.Given as goal

abbrev pub invariant-loop-rest : goal.invariant-loop-rest
invariant-loop-rest l = (suc (feeds l.front) ≡ line_with l.line l.rest) × (l.line + length l.rest ≤ 1 + length l.front)

abbrev pub decreases-loop-rest : goal.decreases-loop-rest
decreases-loop-rest l = length l.rest
