use Rattle.std.proofs.Common.{rules, arith}
use Rattle.std.proofs.lemmas.Grind.{common_steps}
use Rattle.qk_reading.specs.Input.{many_from}
use Rattle.qk_reading.specs.Parts.{comma_name}
use Rattle.qk_grammar.proofs.Turns.{one_more}
use Rattle.qk_module.proofs.scope.more_names.Goals as goal

pub loop-turn-preserved : goal.loop-turn-preserved
unfolding many_from
loop-turn-preserved c =
    let e = one_more (λ n. many_from comma_name n c.loop-turn.found c.loop-turn.tokens) _ c.loop-turn._turn c.loop-turn-test.true c.loop-turn.invariant in
    first_of (search rules, grind (arith, common_steps))
