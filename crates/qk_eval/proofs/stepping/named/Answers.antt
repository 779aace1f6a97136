use Rattle.std.proofs.Common.{rules, ◌≡◌, ap, ◌∙◌, sym, subst, true, false}
use Rattle.std.specs.Prelude.{Some, codes}
use Rattle.std.specs.Option.{option_copied}
use Rattle.qk_ast.specs.Texts.{Text, same_text}
use Rattle.qk_meaning.specs.Program.{captures_in}
use Rattle.qk_code.proofs.Runs.{ran_lost}
use Rattle.qk_eval.specs.Placing.{setting}
use Rattle.qk_eval.proofs.Steps.{ran_named}
use Rattle.qk_eval.proofs.Roots.{ran_tracker, ran_framework, ran_outer}
use Rattle.qk_eval.proofs.Storing.{not_first, not_second}
use Rattle.qk_eval.proofs.stepping.named.Goals.{else-tracks-via-then-tracks+else-eq, else-tracks-via-else-tracks}
use Rattle.qk_eval.proofs.stepping.named.Goals as goal

pub returns-in_err-share : goal.returns-in_err-share
returns-in_err-share g c = ran_lost _ _ _ _ _ _ _ (search rules)

pub returns-then-has : goal.returns-then-has
returns-then-has g c = ran_named _ _ _ (setting c.args.here.now) _ c.args.name.now _ c.in_ok-share.ensures (λ p. c.has.ensures (captures_in p) ∙ c.if-has.true)

pub returns-then-eq : goal.returns-then-eq
returns-then-eq g c = ran_tracker _ _ _ c.args.here.now.func.now c.args.here.now.mode c.args.here.now.running.now c.args.here.now.levels _ c.args.name.now (λ p. c.has.ensures (captures_in p) ∙ c.if-has.false) (sym c.tracks.ensures ∙ c.if-tracks.true) (subst (λ t. same_text t (codes "track") ≡ true) c.as_str.ensures (sym c.eq.ensures ∙ c.if-eq.true))

pub returns-in_err-share-in-Some : goal.returns-in_err-share-in-Some
returns-in_err-share-in-Some g c = ran_lost _ _ _ _ _ _ _ (search rules)

pub returns-in_ok-share-in-Some : goal.returns-in_ok-share-in-Some
returns-in_ok-share-in-Some g c = ran_framework _ _ c.args.here.now.func.now c.args.here.now.mode c.args.here.now.running.now c.args.here.now.levels _ c.args.name.now _ (λ p. c.has.ensures (captures_in p) ∙ c.if-has.false) (elim c.else-tracks.branch [ else-tracks-via-then-tracks+else-eq w ↦ not_second _ _ (subst (λ t. same_text t (codes "track") ≡ false) w.as_str.ensures (sym w.eq.ensures ∙ w.if-eq.false)) | else-tracks-via-else-tracks w ↦ not_first _ _ (sym c.tracks.ensures ∙ w.if-tracks.false) ]) (sym c.framework_name.ensures ∙ (ap option_copied c.in-Some.is ∙ ap (λ (x : Text). Some x) (sym c.in_ok-share-in-Some.ensures)))

pub returns-in-None : goal.returns-in-None
returns-in-None g c = ran_outer _ _ _ c.args.here.now.func.now c.args.here.now.mode c.args.here.now.running.now c.args.here.now.levels _ _ _ c.args.name.now (λ p. c.has.ensures (captures_in p) ∙ c.if-has.false) (elim c.else-tracks.branch [ else-tracks-via-then-tracks+else-eq w ↦ not_second _ _ (subst (λ t. same_text t (codes "track") ≡ false) w.as_str.ensures (sym w.eq.ensures ∙ w.if-eq.false)) | else-tracks-via-else-tracks w ↦ not_first _ _ (sym c.tracks.ensures ∙ w.if-tracks.false) ]) (c.root_named.ensures _ (sym c.framework_name.ensures ∙ ap option_copied c.in-None.is))
