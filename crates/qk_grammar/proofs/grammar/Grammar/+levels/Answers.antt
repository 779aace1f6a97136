use Rattle.std.proofs.Common.{rules, arith}
use Rattle.std.proofs.lemmas.Grind.{common_steps}
use Rattle.qk_reading.specs.Input.{many_from}
use Rattle.qk_reading.specs.Parts.{operand}
use Rattle.qk_token.specs.Seen.{level_of}
use Rattle.qk_grammar.specs.Levels.{tighter_of}
use Rattle.qk_grammar.proofs.Turns.{one_more}
use Rattle.qk_grammar.proofs.grammar.Grammar.+levels.Goals as goal

pub operands-returns-in_err-value : goal.operands-returns-in_err-value
unfolding many_from operand
operands-returns-in_err-value g t c =
    let e = one_more (λ n. many_from (operand (level_of c.args.level) (tighter_of c.args.self.now.form c.args.self.now.room (level_of c.args.level))) n c.loop-turn.found c.loop-turn.tokens) _ c.loop-turn._turn c.loop-turn-test.true c.loop-turn.invariant in
    first_of (search rules, grind (arith, common_steps))

pub operands-loop-turn-preserved : goal.operands-loop-turn-preserved
unfolding many_from operand
operands-loop-turn-preserved g t c =
    let e = one_more (λ n. many_from (operand (level_of c.args.level) (tighter_of c.args.self.now.form c.args.self.now.room (level_of c.args.level))) n c.loop-turn.found c.loop-turn.tokens) _ c.loop-turn._turn c.loop-turn-test.true c.loop-turn.invariant in
    first_of (search rules, grind (arith, common_steps))
