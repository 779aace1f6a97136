use Rattle.std.proofs.Common.{rules, arith}
use Rattle.std.proofs.lemmas.Grind.{common_steps}
use Rattle.qk_reading.specs.Input.{Sign, separated_from}
use Rattle.qk_reading.specs.Forms.{nested}
use Rattle.qk_reading.specs.Reader.{nesting}
use Rattle.qk_grammar.proofs.Turns.{one_more}
use Rattle.qk_grammar.proofs.grammar.Grammar.separated_from.Goals as goal

pub loop-turn-preserved : goal.loop-turn-preserved
unfolding separated_from
loop-turn-preserved g c =
    let e = one_more (λ n. separated_from (Sign c.args.closing.now) (nested c.args.self.now.form c.args.self.now.room (nesting c.args.self.now.form c.args.self.now.room)) n c.loop-turn.items c.loop-turn.tokens) _ c.loop-turn._turn c.loop-turn-test.true c.loop-turn.invariant in
    first_of (search rules, grind (arith, common_steps))

pub returns-in_err-nested : goal.returns-in_err-nested
unfolding separated_from
returns-in_err-nested g c =
    let e = one_more (λ n. separated_from (Sign c.args.closing.now) (nested c.args.self.now.form c.args.self.now.room (nesting c.args.self.now.form c.args.self.now.room)) n c.loop-turn.items c.loop-turn.tokens) _ c.loop-turn._turn c.loop-turn-test.true c.loop-turn.invariant in
    first_of (search rules, grind (arith, common_steps))
