use Rattle.std.proofs.Common.{ap, sym, ◌∙◌}
use Rattle.std.specs.Option.{option_map}
use Rattle.qk_rules.specs.Breaches.{breach}
use Rattle.qk_rules.proofs.Answering.{told_kept, told_some}
use Rattle.qk_rules.proofs.telling.told.Goals as goal

pub returns-in-Some : goal.returns-in-Some
returns-in-Some c = λ all h. told_some all c.args.name.now c.in-Some.kind c.refused.result (ap (option_map (breach c.args.name.now)) (sym c.in-Some.is) ∙ h) c.refused.ensures

pub returns-in-None : goal.returns-in-None
returns-in-None c = λ all h. told_kept all c.args.name.now (ap (option_map (breach c.args.name.now)) (sym c.in-None.is) ∙ h)
