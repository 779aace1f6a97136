use Rattle.std.proofs.Common.{rules, ap, ◌∙◌}
use Rattle.qk_locals.specs.Meanings.{mark_of}
use Rattle.qk_node.specs.Nodes.{Value}
use Rattle.qk_node.specs.Borrowed.{node_of}
use Rattle.qk_node.specs.Found.{arrow_here}
use Rattle.qk_captures.specs.Walking.{behind}
use Rattle.qk_captures.proofs.Walks.{behind_same}
use Rattle.qk_node.proofs.Forms.{arrow_itself}
use Rattle.qk_captures.proofs.walk.Walk.meet.Goals as goal

pub returns-in-Value-Arrow-default : goal.returns-in-Value-Arrow-default
returns-in-Value-Arrow-default c = let x = c.in-Value-Arrow-default in
    let is = rw x.is at x.field-0-is in
    rw (ap (λ n. behind (arrow_here (node_of n)) c.args.self.now) x.is ∙ ap (λ y. behind (arrow_here (Value y (mark_of x.mark))) c.args.self.now) is ∙ behind_same _ _ c.args.self.now (arrow_itself x.arrow (mark_of x.mark))) (search rules)
