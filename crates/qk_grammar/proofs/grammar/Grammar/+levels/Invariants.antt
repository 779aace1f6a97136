use Rattle.std.proofs.Common.{◌≡◌, ◌-◌, ◌+◌, ◌*◌}
use Rattle.qk_ast.specs.Rules.{tightness_of}
use Rattle.qk_reading.specs.Input.{many, many_from}
use Rattle.qk_reading.specs.Parts.{operand}
use Rattle.qk_token.specs.Seen.{level_of}
use Rattle.qk_grammar.specs.Levels.{tighter_of}
use Rattle.qk_grammar.proofs.grammar.Grammar.+levels.Given as goal

abbrev pub decreases-chain : goal.decreases-chain
decreases-chain g l = 3 * (7 - tightness_of (level_of l.level)) + 2

abbrev pub decreases-operands : goal.decreases-operands
decreases-operands g l = 3 * (7 - tightness_of (level_of l.level)) + 1

abbrev pub decreases-tighter : goal.decreases-tighter
decreases-tighter g l = 3 * (7 - tightness_of (level_of l.level))

abbrev pub invariant-operands-loop-turn : goal.invariant-operands-loop-turn
invariant-operands-loop-turn g l =
    many (operand (level_of l.level) (tighter_of l.self.form l.self.room (level_of l.level))) l.fn.tokens
    ≡ many_from (operand (level_of l.level) (tighter_of l.self.form l.self.room (level_of l.level))) (l._turn-end - l._turn) l.found l.tokens
