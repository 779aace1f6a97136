use Rattle.std.proofs.Common.{arith, ap, sym, ◌∙◌}
use Rattle.qk_node.specs.Growing.{grown, count}
use Rattle.qk_node.specs.Borrowed.{node_of, left}
use Rattle.qk_node.specs.Found.{arrows_in}
use Rattle.qk_captures.specs.Walking.{behind}
use Rattle.qk_captures.proofs.Walks.{behind_none, behind_next, behind_node}
use Rattle.qk_captures.proofs.walk.Walk.+node.Goals as goal

pub loop-child-preserved : goal.loop-child-preserved
loop-child-preserved t c =
    let all = c.in-Some.ensures.steps in
    let rest = left c.next.new.self in (
      omega (arith, ap (λ ns. count (grown ns)) all, c.loop-child.invariant.0),
      ap (behind (arrows_in (grown rest))) c.in_ok-node.ensures ∙ behind_next (node_of c.in-Some.child) rest c.loop-child.self
          ∙ ap (λ ns. behind (arrows_in (grown ns)) c.loop-child.self) (sym all) ∙ c.loop-child.invariant.1,
    )

pub returns : goal.returns
returns t c = behind_node (node_of c.args.node) c.args.self.now c.meet.new.self c.loop-child.self c.enter_inside.new.self c.leave.new.self c.outside-outside.result
    c.in_ok-meet.ensures c.outside-outside.ensures c.in_ok-enter_inside.ensures
    (sym (behind_none c.loop-child.self) ∙ ap (λ ns. behind (arrows_in (grown ns)) c.loop-child.self) (sym c.in-None.ensures.steps.0) ∙ c.loop-child.invariant.1)
    c.leave.ensures
