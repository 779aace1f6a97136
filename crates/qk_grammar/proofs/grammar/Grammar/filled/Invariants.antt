use Rattle.std.proofs.Common.{◌≡◌, suc, ◌-◌, [], ◌∷◌}
use Rattle.qk_reading.specs.Input.{left}
use Rattle.qk_reading.specs.Forms.{holes_from}
use Rattle.qk_reading.specs.Reader.{nesting}
use Rattle.qk_grammar.proofs.grammar.Grammar.filled.Given as goal

abbrev pub invariant-loop-turn : goal.invariant-loop-turn
invariant-loop-turn g l =
    holes_from l.self.form l.self.room (nesting l.self.form l.self.room) (suc (left l.fn.tokens)) (l.fn.first ∷ []) [] l.fn.tokens
    ≡ holes_from l.self.form l.self.room (nesting l.self.form l.self.room) (l._turn-end - l._turn) l.parts l.values l.tokens
