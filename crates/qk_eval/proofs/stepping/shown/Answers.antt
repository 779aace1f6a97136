use Rattle.std.proofs.Common.{rules, refl, ◌≡◌, ◌∙◌, sym, subst, true, false}
use Rattle.std.specs.Prelude.{codes}
use Rattle.qk_ast.specs.Texts.{same_text}
use Rattle.qk_code.proofs.Runs.{ran_lost}
use Rattle.qk_eval.specs.Placing.{setting}
use Rattle.qk_eval.proofs.Roots.{ran_element, ran_fragment, ran_slot, ran_tag, ran_tag_lost, ran_tag_refused}
use Rattle.qk_eval.proofs.stepping.shown.Goals as goal

pub returns-in_err-share-in-Element : goal.returns-in_err-share-in-Element
returns-in_err-share-in-Element g c = λ outer. ran_lost _ _ _ _ _ _ _ (search rules)

pub returns-in_err-from_str-in-Component : goal.returns-in_err-from_str-in-Component
returns-in_err-from_str-in-Component g c = λ outer. ran_lost _ _ _ _ _ _ _ (search rules)

pub returns-then-eq : goal.returns-then-eq
returns-then-eq g c = λ outer. rw c.in-Component.is (ran_slot _ _ _ (setting c.args.here.now) _ c.in-Component.name _ c.in_ok-from_str-in-Component.ensures (subst (λ t. same_text t (codes "Slot") ≡ true) c.as_str.ensures (sym c.eq.ensures ∙ c.if-eq.true)))

pub returns-in_err-root-in-Component : goal.returns-in_err-root-in-Component
returns-in_err-root-in-Component g c = λ outer. rw c.in-Component.is (ran_tag_refused _ _ _ c.args.here.now.func.now c.args.here.now.mode c.args.here.now.running.now c.args.here.now.levels _ _ _ _ _ _ _ c.in_err-root-in-Component.field-0.0 (search rules) refl (subst (λ t. same_text t (codes "Slot") ≡ false) c.as_str.ensures (sym c.eq.ensures ∙ c.if-eq.false)) c.in_err-root-in-Component.ensures.grows c.in_err-root-in-Component.ensures.cause c.in_err-root-in-Component.ensures.asks)

pub returns-in_err-root_tag-in-Component : goal.returns-in_err-root_tag-in-Component
returns-in_err-root_tag-in-Component g c = λ outer. ran_tag_lost _ _ _ c.args.here.now.func.now c.args.here.now.mode c.args.here.now.running.now c.args.here.now.levels _ _ _ _ c.args.tag.now _ (search rules) c.in_ok-root-in-Component.ensures.grows c.in_ok-root-in-Component.ensures.cause.cause

pub returns-in_ok-share-in-Element : goal.returns-in_ok-share-in-Element
returns-in_ok-share-in-Element g c = λ outer. rw c.in-Element.is (ran_element _ _ _ (setting c.args.here.now) _ _ _ c.in_ok-share-in-Element.ensures)

pub returns-in_ok-root_tag-in-Component : goal.returns-in_ok-root_tag-in-Component
returns-in_ok-root_tag-in-Component g c = λ outer. rw c.in-Component.is (ran_tag _ _ _ c.args.here.now.func.now c.args.here.now.mode c.args.here.now.running.now c.args.here.now.levels _ _ _ _ _ _ _ _ refl (subst (λ t. same_text t (codes "Slot") ≡ false) c.as_str.ensures (sym c.eq.ensures ∙ c.if-eq.false)) c.in_ok-root-in-Component.ensures.gives c.in_ok-root-in-Component.ensures.grows c.in_ok-root-in-Component.ensures.cause.cause c.in_ok-root-in-Component.ensures.asks (λ p m. c.in_ok-root_tag-in-Component.ensures p _ _ m))

pub returns-in-Fragment : goal.returns-in-Fragment
returns-in-Fragment g c = λ outer. rw c.in-Fragment.is (ran_fragment _ _ _ (setting c.args.here.now) _)
