use Rattle.qk_module.proofs.nested.+nested.Given as goal

abbrev pub decreases-body : goal.decreases-body
decreases-body l = l.room

abbrev pub decreases-group : goal.decreases-group
decreases-group l = l.room

abbrev pub decreases-value : goal.decreases-value
decreases-value l = l.room
