use Rattle.std.proofs.Common.{ap, ◌∙◌}
use Rattle.qk_locals.specs.Meanings.{mark_of}
use Rattle.qk_node.specs.Nodes.{Value}
use Rattle.qk_node.specs.Borrowed.{node_of}
use Rattle.qk_whole.proofs.Met_in_order.{one_met}
use Rattle.qk_whole.proofs.Results.{on_ok}
use Rattle.qk_whole.proofs.arrows.meet.Goals as goal

pub returns-in_ok-met-in-Value-Arrow-default : goal.returns-in_ok-met-in-Value-Arrow-default
returns-in_ok-met-in-Value-Arrow-default c = let x = c.in-Value-Arrow-default in
    let is = rw x.is at x.field-0-is in
    let m = c.in_ok-met-in-Value-Arrow-default in
    on_ok c.push.result (one_met (node_of c.args.node) x.arrow (mark_of x.mark) m.field-0 c.args.all.now c.push.new.self (ap node_of x.is ∙ ap (λ y. Value y (mark_of x.mark)) is) m.ensures) c.push.ensures.appended
