use Rattle.std.proofs.Common.{arith, sym, ◌∙◌, ap, ◌≡◌, suc, ◌-◌, ◌<◌, length}
use Rattle.qk_meaning.specs.Parts.{value_at}
use Rattle.qk_value.specs.declared.value.Value.{Value}
use Rattle.qk_value.specs.View.{seen}
use Rattle.qk_environment.specs.Scoping.{Captures, scope_seen}
use Rattle.qk_environment.proofs.Scopes.{value_here, value_later, if_ok}
use Rattle.qk_environment.proofs.scope.Scope.value.Goals as goal

pub returns-then-is_same : goal.returns-then-is_same
returns-then-is_same c =
    let below : c.loop-i.i - 1 < length c.args.self.now.names.items = omega (arith, c.loop-i.invariant.within, c.loop-i-test.true) in
    let next : c.loop-i.i ≡ suc (c.loop-i.i - 1) = omega (arith, c.loop-i-test.true) in
    let Is : Value → Type 0 = λ v. v ≡ c.index-named.result.now.value in
    let Stands : Value → Type 0 = λ v. (p : Captures) → value_at c.args.name.now (scope_seen p c.args.self.now.names.items) ≡ seen p v in
    if_ok Is Stands c.share.result (λ v e p. sym (c.loop-i.invariant.same p) ∙ (value_here p _ c.args.self.now.names.items c.loop-i.i (c.loop-i.i - 1) _ c.index-named.ensures below next (sym c.is_same.ensures ∙ c.if-is_same.true) ∙ ap (seen p) (sym e))) c.share.ensures

pub loop-i-preserved : goal.loop-i-preserved
loop-i-preserved c =
    let below : c.loop-i.i - 1 < length c.args.self.now.names.items = omega (arith, c.loop-i.invariant.within, c.loop-i-test.true) in
    let next : c.loop-i.i ≡ suc (c.loop-i.i - 1) = omega (arith, c.loop-i-test.true) in
    record {
      within = omega (arith, c.loop-i.invariant.within);
      same = λ p. sym (value_later p _ c.args.self.now.names.items c.loop-i.i (c.loop-i.i - 1) _ c.index-named.ensures below next (sym c.is_same.ensures ∙ c.if-is_same.false)) ∙ c.loop-i.invariant.same p;
    }
