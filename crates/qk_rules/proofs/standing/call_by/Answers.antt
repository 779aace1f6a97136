use Rattle.qk_rules.proofs.Rows.{call_told}
use Rattle.qk_rules.proofs.standing.call_by.Goals as goal

pub returns-in-Call : goal.returns-in-Call
returns-in-Call c = call_told c.args.links.now c.in-Some.first.now c.in-Some.later.now c.in-Call.arguments c.as_slice.result.now c.is_empty.result c.in-Some.ensures.cases.0 c.in-Call.is c.as_slice.ensures c.is_empty.ensures
