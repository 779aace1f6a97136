use Rattle.std.proofs.Common.{rules, arith}
use Rattle.std.proofs.lemmas.Grind.{common_steps}
use Rattle.qk_reading.specs.Input.{sparse_from}
use Rattle.qk_reading.specs.Forms.{child}
use Rattle.qk_reading.specs.Reader.{nesting}
use Rattle.qk_grammar.proofs.Turns.{one_more}
use Rattle.qk_grammar.proofs.grammar.Grammar.children.Goals as goal

pub loop-turn-preserved : goal.loop-turn-preserved
unfolding sparse_from
loop-turn-preserved g c =
    let e = one_more (λ n. sparse_from (child c.args.self.now.form c.args.self.now.room (nesting c.args.self.now.form c.args.self.now.room)) n c.loop-turn.found c.loop-turn.tokens) _ c.loop-turn._turn c.loop-turn-test.true c.loop-turn.invariant in
    first_of (search rules, grind (arith, common_steps))
