use Rattle.std.proofs.Common.{◌≡◌, ◌-◌, true, []}
use Rattle.qk_reading.specs.Input.{left}
use Rattle.qk_reading.specs.Reader.{nesting}
use Rattle.qk_reading.specs.Statements.{statements_from}
use Rattle.qk_module.proofs.steps.Statements.statements.Given as goal

abbrev pub invariant-loop-turn : goal.invariant-loop-turn
invariant-loop-turn g l =
    statements_from l.self.forms.form l.self.forms.room (nesting l.self.forms.form l.self.forms.room) l.looped true (left l.fn.tokens) [] l.fn.tokens
    ≡ statements_from l.self.forms.form l.self.forms.room (nesting l.self.forms.form l.self.forms.room) l.looped l.first (l._turn-end - l._turn) l.found l.tokens
