use Rattle.std.proofs.Common.{◌≡◌, ◌-◌}
use Rattle.qk_reading.specs.Input.{many, many_from}
use Rattle.qk_reading.specs.Reader.{next_item}
use Rattle.qk_module.proofs.module.items.Given as goal

abbrev pub invariant-loop-turn : goal.invariant-loop-turn
invariant-loop-turn l = many (next_item l.form l.room) l.fn.tokens ≡ many_from (next_item l.form l.room) (l._turn-end - l._turn) l.found l.tokens
