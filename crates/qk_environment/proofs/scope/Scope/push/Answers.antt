use Rattle.std.proofs.Common.{◌∙◌, ap, ℕ, List}
use Rattle.qk_meaning.specs.Value.{end, field}
use Rattle.qk_value.specs.View.{seen}
use Rattle.qk_environment.specs.declared.scope.Named.{Named}
use Rattle.qk_environment.specs.Scoping.{scope_seen}
use Rattle.qk_environment.proofs.Scopes.{over_more}
use Rattle.qk_environment.proofs.scope.Scope.push.Goals as goal

pub returns-clause-shown : goal.returns-clause-shown
returns-clause-shown c = λ p. ap (λ (names : List Named). scope_seen p names) c.in_ok-push.ensures.items
    ∙ (over_more p c.args.self.now.names.items _ end ∙ ap (λ (t : List ℕ). field t (seen p c.args.value) (scope_seen p c.args.self.now.names.items)) c.in_ok-name.ensures)
