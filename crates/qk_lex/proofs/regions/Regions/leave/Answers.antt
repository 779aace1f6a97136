use Rattle.std.proofs.Common.{◌≡◌, ◌+◌, ◌∙◌, ap, subst, sym, vec_len}
use Rattle.std.specs.Prelude.{MatchOption}
use Rattle.qk_ast.specs.Tokens.{leave}
use Rattle.qk_lex.proofs.RegionLemmas.{onto_leave}
use Rattle.qk_lex.proofs.regions.Regions.leave.Goals as goal

pub returns : goal.returns
returns c =
    onto_leave c.pop.result c.self.inside.within.items c.pop.new.self.items c.pop.ensures.items
    (λ e. let both = subst (λ o. MatchOption o ((vec_len c.self.inside.within ≡ 0) × (vec_len c.pop.new.self ≡ 0)) (λ _. vec_len c.pop.new.self + 1 ≡ vec_len c.self.inside.within)) e c.pop.ensures.cases in
    sym c.pop.new.self.ok.0 ∙ both.1)
    ∙ ap leave c.self.view_is
