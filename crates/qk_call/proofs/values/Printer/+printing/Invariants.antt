use Rattle.std.proofs.Common.{ℕ, ◌+◌, ◌*◌}
use Rattle.qk_call.proofs.values.Printer.+printing.Given as goal

-- the levels count most, then how far a function is above the values that it prints
abbrev order : ℕ → ℕ → ℕ
order levels rank = 8 * levels + rank

abbrev pub decreases-value : goal.decreases-value
decreases-value l = order l.levels 0

abbrev pub decreases-field : goal.decreases-field
decreases-field l = order l.levels 1

abbrev pub decreases-items : goal.decreases-items
decreases-items l = order l.levels 1

abbrev pub decreases-fields : goal.decreases-fields
decreases-fields l = order l.levels 2

abbrev pub decreases-listed : goal.decreases-listed
decreases-listed l = order l.levels 2

abbrev pub decreases-element : goal.decreases-element
decreases-element l = order l.levels 3

abbrev pub decreases-object : goal.decreases-object
decreases-object l = order l.levels 3

abbrev pub decreases-reference : goal.decreases-reference
decreases-reference l = order l.levels 4
