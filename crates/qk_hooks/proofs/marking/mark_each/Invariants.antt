use Rattle.std.proofs.Common.{◌≡◌, drop, take}
use Rattle.qk_hooks.specs.Marking.{AreMarked}
use Rattle.qk_hooks.proofs.marking.mark_each.Given as goal

abbrev pub invariant-loop-instance : goal.invariant-loop-instance
invariant-loop-instance l = record { done : AreMarked l.l (take l.instance-index l.fn.all) (take l.instance-index l.all); left : drop l.instance-index l.all ≡ drop l.instance-index l.fn.all }
