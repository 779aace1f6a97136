use Rattle.std.proofs.Common.{rules}
use Rattle.qk_rules.proofs.Answering.{wants, refused_told}
use Rattle.qk_rules.proofs.telling.refused.Goals as goal

pub returns-in_err-name : goal.returns-in_err-name
returns-in_err-name c = wants (search rules)

pub returns : goal.returns
returns c = refused_told c.args.name.now c.in_ok-name.name c.args.kind c.in_ok-name.ensures
