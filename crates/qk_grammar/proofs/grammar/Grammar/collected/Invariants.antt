use Rattle.std.proofs.Common.{◌≡◌, ◌-◌, codes}
use Rattle.qk_reading.specs.Input.{Sign, collected, collected_from}
use Rattle.qk_reading.specs.Forms.{field}
use Rattle.qk_reading.specs.Reader.{nesting}
use Rattle.qk_grammar.proofs.grammar.Grammar.collected.Given as goal

abbrev pub invariant-loop-turn : goal.invariant-loop-turn
invariant-loop-turn g l =
    collected (Sign (codes "}")) (field l.self.form l.self.room (nesting l.self.form l.self.room)) l.fn.tokens
    ≡ collected_from (Sign (codes "}")) (field l.self.form l.self.room (nesting l.self.form l.self.room)) (l._turn-end - l._turn) l.found l.tokens
