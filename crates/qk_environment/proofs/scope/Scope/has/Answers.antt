use Rattle.std.proofs.Common.{arith, sym, ◌∙◌, ◌≡◌, suc, ◌-◌, ◌<◌, length}
use Rattle.qk_environment.proofs.Scopes.{name_here, name_later}
use Rattle.qk_environment.proofs.scope.Scope.has.Goals as goal

pub returns-then-is_same : goal.returns-then-is_same
returns-then-is_same c =
    let below : c.loop-i.i - 1 < length c.args.self.now.names.items = omega (arith, c.loop-i.invariant.within, c.loop-i-test.true) in
    let next : c.loop-i.i ≡ suc (c.loop-i.i - 1) = omega (arith, c.loop-i-test.true) in
    λ p. sym (c.loop-i.invariant.same p) ∙ name_here p _ c.args.self.now.names.items c.loop-i.i (c.loop-i.i - 1) _ c.index-named.ensures below next (sym c.is_same.ensures ∙ c.if-is_same.true)

pub loop-i-preserved : goal.loop-i-preserved
loop-i-preserved c =
    let below : c.loop-i.i - 1 < length c.args.self.now.names.items = omega (arith, c.loop-i.invariant.within, c.loop-i-test.true) in
    let next : c.loop-i.i ≡ suc (c.loop-i.i - 1) = omega (arith, c.loop-i-test.true) in
    record {
      within = omega (arith, c.loop-i.invariant.within);
      same = λ p. sym (name_later p _ c.args.self.now.names.items c.loop-i.i (c.loop-i.i - 1) _ c.index-named.ensures below next (sym c.is_same.ensures ∙ c.if-is_same.false)) ∙ c.loop-i.invariant.same p;
    }
