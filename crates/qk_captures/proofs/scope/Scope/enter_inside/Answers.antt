use Rattle.std.proofs.Common.{rules, ap, ◌∙◌}
use Rattle.qk_locals.specs.Meanings.{mark_of}
use Rattle.qk_node.specs.Nodes.{Value}
use Rattle.qk_node.specs.Borrowed.{node_of}
use Rattle.qk_captures.specs.Scoping.{entered}
use Rattle.qk_captures.proofs.Scopes.{entered_arrow}
use Rattle.qk_captures.proofs.scope.Scope.enter_inside.Goals as goal

pub returns-in-Value-Arrow-default : goal.returns-in-Value-Arrow-default
returns-in-Value-Arrow-default c = let x = c.in-Value-Arrow-default in
    let is = rw x.is at x.field-0-is in
    rw (ap (λ n. entered (node_of n) c.args.self.now) x.is ∙ ap (λ y. entered (Value y (mark_of x.mark)) c.args.self.now) is ∙ entered_arrow x.arrow (mark_of x.mark) c.args.self.now) (search rules)
