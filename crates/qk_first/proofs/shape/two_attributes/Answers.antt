use Rattle.std.proofs.Common.{refl, inl, inr}
use Rattle.qk_first.proofs.shape.two_attributes.Goals as goal

pub returns-in-Some-clause-found : goal.returns-in-Some-clause-found
returns-in-Some-clause-found c = (c.args.first.now, c.args.second.now, inl refl, c.in-Some.ensures.found, c.in_ok-listener.ensures.found)

pub returns-clause-found : goal.returns-clause-found
returns-clause-found c = (c.args.second.now, c.args.first.now, inr refl, c.in_ok-id.ensures.found, c.in_ok-counts_up.ensures.found)
