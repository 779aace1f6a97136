use Rattle.std.proofs.Common.{◌≡◌, ◌≤◌, ◌+◌, suc, length}
use Rattle.qk_modules.specs.Places.{after_feeds}
use Rattle.qk_modules.proofs.Feeds.{column_with}
use Rattle.qk_modules.proofs.place.column_after.Given as goal

abbrev pub invariant-loop-rest : goal.invariant-loop-rest
invariant-loop-rest l = (suc (length (after_feeds l.front)) ≡ column_with l.column l.rest) × (l.column + length l.rest ≤ 1 + length l.front)

abbrev pub decreases-loop-rest : goal.decreases-loop-rest
decreases-loop-rest l = length l.rest
