use Rattle.std.proofs.Common.{ap, ◌∙◌, List, ℕ, take, length, ◌-◌, ◌≡◌, arith}
use Rattle.qk_environment.specs.Scoping.{scope_seen}
use Rattle.qk_environment.specs.declared.scope.Named.{Named}
use Rattle.qk_environment.proofs.Scopes.{closed_names}
use Rattle.qk_environment.proofs.scope.Scope.close.Goals as goal

pub returns : goal.returns
returns c =
    let left : c.saturating_sub-left.result ≡ length c.args.self.now.names.items - c.args.count = omega (arith, c.saturating_sub-left.ensures, c.len.ensures) in
    λ p. ap (λ (names : List Named). scope_seen p names) (c.truncate.ensures.items ∙ ap {A = ℕ} (λ k. take k c.args.self.now.names.items) left) ∙ closed_names p c.args.self.now.names.items c.args.count
