use Rattle.std.proofs.Common.{rules, arith, codes}
use Rattle.std.proofs.lemmas.Grind.{common_steps}
use Rattle.qk_reading.specs.Input.{Sign, collected_from}
use Rattle.qk_reading.specs.Forms.{field}
use Rattle.qk_reading.specs.Reader.{nesting}
use Rattle.qk_grammar.proofs.Turns.{one_more}
use Rattle.qk_grammar.proofs.grammar.Grammar.collected.Goals as goal

pub loop-turn-preserved : goal.loop-turn-preserved
unfolding collected_from
loop-turn-preserved g c =
    let e = one_more (λ n. collected_from (Sign (codes "}")) (field c.args.self.now.form c.args.self.now.room (nesting c.args.self.now.form c.args.self.now.room)) n c.loop-turn.found c.loop-turn.tokens) _ c.loop-turn._turn c.loop-turn-test.true c.loop-turn.invariant in
    first_of (search rules, grind (arith, common_steps))

pub returns-in_err-field : goal.returns-in_err-field
unfolding collected_from
returns-in_err-field g c =
    let e = one_more (λ n. collected_from (Sign (codes "}")) (field c.args.self.now.form c.args.self.now.room (nesting c.args.self.now.form c.args.self.now.room)) n c.loop-turn.found c.loop-turn.tokens) _ c.loop-turn._turn c.loop-turn-test.true c.loop-turn.invariant in
    first_of (search rules, grind (arith, common_steps))

pub returns-then-not-eat : goal.returns-then-not-eat
unfolding collected_from
returns-then-not-eat g c =
    let e = one_more (λ n. collected_from (Sign (codes "}")) (field c.args.self.now.form c.args.self.now.room (nesting c.args.self.now.form c.args.self.now.room)) n c.loop-turn.found c.loop-turn.tokens) _ c.loop-turn._turn c.loop-turn-test.true c.loop-turn.invariant in
    first_of (search rules, grind (arith, common_steps))
