use Rattle.std.proofs.Common.{rules}
use Rattle.qk_rules.specs.Parts.{attribute_breaches}
use Rattle.qk_rules.proofs.Attributing.{misfits, on_want}
use Rattle.qk_rules.proofs.telling.with_attribute.Goals as goal

pub returns-in_err-found-clause-err : goal.returns-in_err-found-clause-err
returns-in_err-found-clause-err c = on_want (attribute_breaches c.args.tag.now c.args.attribute.now c.args.earlier) _ (search rules)

pub returns-in_err-name-in-None-clause-err : goal.returns-in_err-name-in-None-clause-err
returns-in_err-name-in-None-clause-err c = on_want (attribute_breaches c.args.tag.now c.args.attribute.now c.args.earlier) _ (search rules)

pub returns-in_ok-name-in-None-clause-err : goal.returns-in_ok-name-in-None-clause-err
returns-in_ok-name-in-None-clause-err c = misfits c.args.tag.now c.args.attribute.now c.args.earlier c.in_ok-found.found c.in_ok-name-in-None.name c.in_ok-found.ensures c.in-None.is c.in_ok-name-in-None.ensures
