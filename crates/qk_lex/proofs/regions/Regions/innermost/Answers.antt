use Rattle.std.proofs.Common.{◌∙◌, ap, ◌-◌, length}
use Rattle.std.specs.Option.{option_map}
use Rattle.std.specs.List.{slice_get}
use Rattle.qk_lex.specs.Regions.{region_of, innermost}
use Rattle.qk_lex.proofs.RegionLemmas.{last_innermost}
use Rattle.qk_lex.proofs.regions.Regions.innermost.Goals as goal

pub returns : goal.returns
returns c =
    ap (λ o. option_map region_of o) (c.copied.ensures ∙ (c.last.ensures.value ∙ ap (λ xs. slice_get xs (length xs - 1)) c.deref.ensures.value))
    ∙ (last_innermost c.self.inside.within.items ∙ ap innermost c.self.view_is)
