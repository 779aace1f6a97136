use Rattle.qk_rules.specs.Standings.{standing_of, called_of}
use Rattle.qk_rules.proofs.Answering.{by_form}
use Rattle.qk_rules.proofs.Entering.{name_there}
use Rattle.qk_rules.proofs.walk.Walk.name.Goals as goal

pub returns : goal.returns
returns c = by_form (name_there c.args.self.now c.args.name.now (called_of c.args.call) (standing_of c.args.standing)) c.name_told.ensures
