use Rattle.std.proofs.Common.{◌≡◌, ◌-◌}
use Rattle.qk_reading.specs.Input.{Sign, left, separated_from}
use Rattle.qk_reading.specs.Forms.{nested}
use Rattle.qk_reading.specs.Reader.{nesting}
use Rattle.qk_grammar.proofs.grammar.Grammar.separated_from.Given as goal

abbrev pub invariant-loop-turn : goal.invariant-loop-turn
invariant-loop-turn g l =
    separated_from (Sign l.closing) (nested l.self.form l.self.room (nesting l.self.form l.self.room)) (left l.fn.tokens) l.fn.found l.fn.tokens
    ≡ separated_from (Sign l.closing) (nested l.self.form l.self.room (nesting l.self.form l.self.room)) (l._turn-end - l._turn) l.items l.tokens
