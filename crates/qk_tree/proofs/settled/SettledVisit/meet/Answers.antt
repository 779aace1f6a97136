use Rattle.std.proofs.Common.{ap, ◌∙◌, sym}
use Rattle.qk_meaning.specs.Doing.{Gives}
use Rattle.qk_meaning.specs.Tree.{view_of}
use Rattle.qk_value.specs.View.{seen}
use Rattle.qk_tree.specs.declared.settled.View.{View}
use Rattle.qk_tree.proofs.Looking_up.{no_view, the_view}
use Rattle.qk_tree.proofs.settled.SettledVisit.meet.Goals as goal

pub returns-in_default : goal.returns-in_default
returns-in_default c = λ w f. (f, λ s k. record { state = s; stands_so = k; is = ap (λ o. view_of o s) (no_view w.0 c.args.path.now c.args.self.now.views.now w.1 k.0 (c.in_default.ensures.none)) })

pub returns : goal.returns
returns c = λ w f. (
  f,
  λ s k. record {
    state = s;
    stands_so = k;
    is = the_view w.0 w.1 c.args.path.now c.args.self.now.views.now w.1 c.in-Some.at c.index-self-at.result s k.0 k.1 c.in-Some.ensures.some.0 c.index-self-at.is (c.in-Some.ensures.some.1 c.index-self-at.result) ∙ ap (λ (u : View). Gives (seen w.0 u.view) s) c.index-self-at.is ∙ ap (λ v. Gives (seen w.0 v) s) (sym c.in_ok-share.ensures);
  },
)
