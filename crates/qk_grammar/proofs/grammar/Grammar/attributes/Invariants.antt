use Rattle.std.proofs.Common.{◌≡◌, ◌-◌}
use Rattle.qk_reading.specs.Input.{many, many_from}
use Rattle.qk_reading.specs.Forms.{attribute}
use Rattle.qk_reading.specs.Reader.{nesting}
use Rattle.qk_grammar.proofs.grammar.Grammar.attributes.Given as goal

abbrev pub invariant-loop-turn : goal.invariant-loop-turn
invariant-loop-turn g l =
    many (attribute l.self.form l.self.room (nesting l.self.form l.self.room)) l.fn.tokens
    ≡ many_from (attribute l.self.form l.self.room (nesting l.self.form l.self.room)) (l._turn-end - l._turn) l.found l.tokens
