use Rattle.std.proofs.Common.{◌∙◌, ap, sym, List}
use Rattle.qk_ast.specs.Names.{body_names, patterns_names}
use Rattle.qk_ast.specs.declared.Arrow.{Arrow}
use Rattle.qk_ast.specs.declared.Pattern.{Pattern}
use Rattle.qk_meaning.specs.Flow.{opened}
use Rattle.qk_code.specs.Standing.{code_of}
use Rattle.qk_environment.specs.declared.scope.Scope.{Scope}
use Rattle.qk_environment.specs.Scoping.{scope_seen}
use Rattle.qk_eval.proofs.Plain_steps.{own_opened, task_opened, on_ok}
use Rattle.qk_eval.proofs.names.open_own.Goals as goal
use Rattle.qk_eval.proofs.names.open_own.Goals.{then-not-tracks+in_ok-open_parameters, else-not-tracks}

pub returns : goal.returns
returns c = on_ok c.open_body.result (λ h p.
    let body = h p ∙ ap (λ (a : Arrow). opened (body_names a.body) (scope_seen p c.if-not-tracks.scope.names.items)) c.get-arrow.ensures in
    elim c.if-not-tracks.branch [
      | then-not-tracks+in_ok-open_parameters w ↦
          own_opened (code_of c.args.func.now) _ _ _ (sym c.tracks.ensures ∙ w.if-not-tracks.true)
          (ap (λ (s : Scope). scope_seen p s.names.items) w.scope-is
          ∙ w.in_ok-open_parameters.ensures.shown p
          ∙ ap (λ (params : List Pattern). opened (patterns_names params) (scope_seen p c.args.scope.now.names.items)) (w.as_slice.ensures ∙ ap (λ (a : Arrow). a.params) c.get-arrow.ensures))
          body
      | else-not-tracks w ↦
          task_opened (code_of c.args.func.now) _ _ (sym c.tracks.ensures ∙ w.if-not-tracks.false)
          (body ∙ ap (λ (s : Scope). opened (body_names c.args.func.now.arrow.body) (scope_seen p s.names.items)) w.scope-is)
    ]) c.open_body.ensures.shown
