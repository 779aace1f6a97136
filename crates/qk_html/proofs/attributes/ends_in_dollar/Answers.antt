use Rattle.std.proofs.Common.{◌∙◌, ap}
use Rattle.qk_html.proofs.Listed.{is_dollar, last_dollar}
use Rattle.qk_html.proofs.attributes.ends_in_dollar.Goals as goal

pub returns-in-Some : goal.returns-in-Some
returns-in-Some c = ap is_dollar c.in-Some.ensures.value ∙ last_dollar c.args.name.now
