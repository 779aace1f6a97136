use Rattle.std.specs.Prelude.{map}
use Rattle.std.proofs.Common.{arith, sym, ◌∙◌, ap, subst, ◌≡◌, ℕ, suc, ◌-◌, ◌<◌, List, length, drop}
use Rattle.qk_meaning.specs.Evaluation.{without_track}
use Rattle.qk_meaning.specs.Value.{Fields}
use Rattle.qk_meaning.specs.Parts.{zipped}
use Rattle.qk_value.specs.View.{seen}
use Rattle.qk_environment.specs.declared.scope.Named.{Named}
use Rattle.qk_environment.specs.Scoping.{scope_seen, untracked}
use Rattle.qk_environment.proofs.Scopes.{zipped_end, zipped_next}
use Rattle.qk_environment.proofs.scope.Scope.filled_for_task.Goals as goal

pub loop-i-init : goal.loop-i-init
loop-i-init c = record {
  names_left = omega (arith, c.min-i.ensures);
  values_left = omega (arith, c.min-i.ensures);
  filled = λ p. ap (λ (names : List Named). scope_seen p names) c.new-scope.ensures ∙ sym (ap without_track (zipped_end p c.args.names.now c.args.values.now c.min-i.result (omega (arith, c.min-i.ensures))));
}

pub loop-i-preserved : goal.loop-i-preserved
loop-i-preserved c =
    let names_below : c.loop-i.i - 1 < length c.args.names.now = omega (arith, c.loop-i.invariant.names_left, c.loop-i-test.true) in
    let values_below : c.loop-i.i - 1 < length c.args.values.now = omega (arith, c.loop-i.invariant.values_left, c.loop-i-test.true) in
    let next : c.loop-i.i ≡ suc (c.loop-i.i - 1) = omega (arith, c.loop-i-test.true) in
    record {
      names_left = omega (arith, c.loop-i.invariant.names_left);
      values_left = omega (arith, c.loop-i.invariant.values_left);
      filled = λ p. c.in_ok-push_untracked.ensures p
          ∙ (ap (λ (f : Fields). untracked c.index-names-i.result (seen p c.index-values-i.result) f) (c.loop-i.invariant.filled p)
          ∙ ap without_track (zipped_next p c.args.names.now c.args.values.now c.loop-i.i (c.loop-i.i - 1) _ _ names_below values_below c.index-names-i.is c.index-values-i.is next));
    }

pub returns : goal.returns
returns c =
    let none : c.loop-i.i ≡ 0 = omega (arith, c.loop-i-test.false) in
    λ p. subst (λ (i : ℕ). scope_seen p c.loop-i.scope.names.items ≡ without_track (zipped (drop i c.args.names.now) (map (seen p) (drop i c.args.values.now)))) none (c.loop-i.invariant.filled p)
