use Rattle.std.proofs.Common.{rules, arith, codes}
use Rattle.std.proofs.lemmas.Grind.{common_steps}
use Rattle.qk_reading.specs.Input.{Sign, separated_from}
use Rattle.qk_reading.specs.Parts.{pattern}
use Rattle.qk_grammar.proofs.Turns.{one_more}
use Rattle.qk_grammar.proofs.parts.separated_patterns.Goals as goal

pub loop-turn-preserved : goal.loop-turn-preserved
unfolding separated_from
loop-turn-preserved c =
    let e = one_more (λ n. separated_from (Sign (codes ")")) (pattern c.args.room) n c.loop-turn.found c.loop-turn.tokens) _ c.loop-turn._turn c.loop-turn-test.true c.loop-turn.invariant in
    first_of (search rules, grind (arith, common_steps))

pub returns-in_err-pattern : goal.returns-in_err-pattern
unfolding separated_from
returns-in_err-pattern c =
    let e = one_more (λ n. separated_from (Sign (codes ")")) (pattern c.args.room) n c.loop-turn.found c.loop-turn.tokens) _ c.loop-turn._turn c.loop-turn-test.true c.loop-turn.invariant in
    first_of (search rules, grind (arith, common_steps))
