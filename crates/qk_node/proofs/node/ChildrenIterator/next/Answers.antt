use Rattle.std.specs.Prelude.{◌≡◌, ◌∷◌, length}
use Rattle.std.proofs.Common.{rules, ap}
use Rattle.qk_node.specs.Borrowed.{node_of, left}
use Rattle.qk_node.proofs.node.ChildrenIterator.next.Goals as goal

pub returns-in-Some-clause-steps : goal.returns-in-Some-clause-steps
unfolding left
returns-in-Some-clause-steps c = c.in-Some.ensures.some

pub returns-in-Some-clause-goes : goal.returns-in-Some-clause-goes
returns-in-Some-clause-goes c =
    let n : length (left c.args.self.now) ≡ length (node_of c.in-Some.first ∷ left c.in-Some.rest) = ap length (returns-in-Some-clause-steps c) in search rules

pub returns-in-None-clause-steps : goal.returns-in-None-clause-steps
unfolding left
returns-in-None-clause-steps c = (c.in-None.ensures.none, c.in-None.ensures.none)
