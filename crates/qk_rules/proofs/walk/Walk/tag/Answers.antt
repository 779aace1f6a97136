use Rattle.qk_rules.proofs.Answering.{by_form}
use Rattle.qk_rules.proofs.Entering.{tag_there}
use Rattle.qk_rules.proofs.walk.Walk.tag.Goals as goal

pub returns : goal.returns
returns c = by_form (tag_there c.args.self.now c.args.tag.now c.args.children) c.tag_told.ensures
