use Rattle.std.specs.Prelude.{List}
use Rattle.std.proofs.Common.{◌≡◌, ◌∙◌, ap, arith}
use Rattle.qk_meaning.specs.Parts.{packed, picked}
use Rattle.qk_value.specs.declared.value.Value.{Value}
use Rattle.qk_value.specs.View.{seen_all}
use Rattle.qk_environment.specs.Scoping.{Captures, scope_seen}
use Rattle.qk_environment.proofs.Scopes.{if_ok}
use Rattle.qk_making.proofs.Capturing.{all_values}
use Rattle.qk_making.proofs.functions.values_of.Goals as goal

pub returns : goal.returns
returns c =
    let Built : List Value → Type 0 = λ values. values ≡ c.loop-name.values in
    let Wanted : List Value → Type 0 = λ values. (captured : Captures) → seen_all captured values ≡ packed (picked c.args.names.now (scope_seen captured c.args.scope.now.names.items)) in
    if_ok Built Wanted c.into_list.result (λ values is captured.
    ap (seen_all captured) is
    ∙ all_values captured (scope_seen captured c.args.scope.now.names.items) c.args.names.now c.loop-name.name-index c.loop-name.values (omega (arith, c.loop-name-test.false)) (c.loop-name.invariant captured)) c.into_list.ensures
