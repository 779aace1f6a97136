use Rattle.qk_eval.proofs.function.call.Goals as goal

pub returns : goal.returns
returns g c = λ around. rw c.depth_left-levels.ensures at c.enter.ensures around
