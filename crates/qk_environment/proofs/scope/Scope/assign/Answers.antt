use Rattle.std.proofs.Common.{arith, sym, ◌∙◌, ap, refl, subst, ◌≡◌, ℕ, suc, ◌-◌, ◌<◌, List, length, drop}
use Rattle.std.proofs.lemmas.List.{at_drop_all}
use Rattle.qk_meaning.specs.Value.{end}
use Rattle.qk_meaning.specs.Parts.{replaced}
use Rattle.qk_value.specs.View.{seen}
use Rattle.qk_environment.specs.declared.scope.Named.{Named}
use Rattle.qk_environment.specs.Scoping.{scope_seen}
use Rattle.qk_environment.proofs.Scopes.{Passes, passes_none, passes_next, assigned_here, get_same}
use Rattle.qk_environment.proofs.scope.Scope.assign.Goals as goal

pub returns-then-is_same : goal.returns-then-is_same
returns-then-is_same c =
    let below : c.loop-i.i - 1 < length c.loop-i.self.names.items = omega (arith, c.loop-i.invariant.within, c.loop-i-test.true) in
    let next : c.loop-i.i ≡ suc (c.loop-i.i - 1) = omega (arith, c.loop-i-test.true) in
    let one : c.index_mut.result.now ≡ c.index.result.now = c.index_mut.ensures.value ∙ (get_same c.loop-i.self.names.items (c.loop-i.i - 1) _ _ below ∙ sym c.index.ensures) in
    λ p. assigned_here _ c.loop-i.self.names.items c.loop-i.i (c.loop-i.i - 1) c.index.result.now c.index.ensures below next c.loop-i.invariant.later p _ (sym c.is_same.ensures ∙ c.if-is_same.true) (ap {A = Named} (λ n. n.name) one)
    ∙ ap (λ (names : List Named). replaced c.args.name.now (seen p c.args.value) (scope_seen p names)) c.loop-i.invariant.kept

pub loop-i-init : goal.loop-i-init
loop-i-init c = record {
  within = omega (arith, c.len-i.ensures);
  kept = refl;
  later = subst (λ (names : List Named). Passes c.args.name.now names) (sym (at_drop_all (λ (xs : List Named). xs) c.args.self.now.names.items c.len-i.result (omega (arith, c.len-i.ensures)))) (passes_none c.args.name.now);
}

pub loop-i-preserved : goal.loop-i-preserved
loop-i-preserved c =
    let below : c.loop-i.i - 1 < length c.loop-i.self.names.items = omega (arith, c.loop-i.invariant.within, c.loop-i-test.true) in
    let next : c.loop-i.i ≡ suc (c.loop-i.i - 1) = omega (arith, c.loop-i-test.true) in
    record {
      within = omega (arith, c.loop-i.invariant.within);
      kept = c.loop-i.invariant.kept;
      later = passes_next _ c.loop-i.self.names.items c.loop-i.i (c.loop-i.i - 1) c.index.result.now c.index.ensures below next c.loop-i.invariant.later (sym c.is_same.ensures ∙ c.if-is_same.false);
    }

pub returns : goal.returns
returns c =
    let none : c.loop-i.i ≡ 0 = omega (arith, c.loop-i-test.false) in
    let all : Passes c.args.name.now (drop 0 c.loop-i.self.names.items) = subst (λ (i : ℕ). Passes c.args.name.now (drop i c.loop-i.self.names.items)) none c.loop-i.invariant.later in
    λ p. sym (all p (seen p c.args.value) end) ∙ ap (λ (names : List Named). replaced c.args.name.now (seen p c.args.value) (scope_seen p names)) c.loop-i.invariant.kept
