use Rattle.std.proofs.Common.{◌∙◌, ◌∷◌, ap, []}
use Rattle.qk_lex.specs.Regions.{around_of, region_of}
use Rattle.qk_lex.proofs.RegionLemmas.{onto_snoc}
use Rattle.qk_lex.proofs.regions.Regions.enter.Goals as goal

pub returns : goal.returns
returns c = ap around_of c.in_ok-push.ensures.items ∙ (onto_snoc c.self.inside.within.items c.args.region [] ∙ ap (λ a. region_of c.args.region ∷ a) c.self.view_is)
