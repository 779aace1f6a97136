use Rattle.std.proofs.Common.{◌≡◌, ◌-◌}
use Rattle.qk_reading.specs.Input.{sparse_from}
use Rattle.qk_reading.specs.Forms.{child, children}
use Rattle.qk_reading.specs.Reader.{nesting}
use Rattle.qk_grammar.proofs.grammar.Grammar.children.Given as goal

abbrev pub invariant-loop-turn : goal.invariant-loop-turn
invariant-loop-turn g l =
    children l.self.form l.self.room (nesting l.self.form l.self.room) l.fn.tokens
    ≡ sparse_from (child l.self.form l.self.room (nesting l.self.form l.self.room)) (l._turn-end - l._turn) l.found l.tokens
