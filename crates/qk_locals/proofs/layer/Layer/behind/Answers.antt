use Rattle.qk_locals.specs.Layers.{begun}
use Rattle.qk_locals.proofs.Behind.{ended_behind}
use Rattle.qk_locals.proofs.layer.Layer.behind.Goals as goal

pub invariant_of-result : goal.invariant_of-result
invariant_of-result c = (
  c.self.invariant.0,
  ended_behind (begun c.self.inside.origin) c.self.inside.passed.items c.args.statement c.self.inside.ended c.add_declared_by.new.self c.push.new.self.items
      c.self.invariant.1 c.in_ok-add_declared_by.ensures c.in_ok-push.ensures.items,
)
