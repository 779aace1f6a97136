use Rattle.std.proofs.Common.{◌≡◌, ◌-◌}
use Rattle.qk_reading.specs.Input.{many, many_from}
use Rattle.qk_reading.specs.Reader.{next_import}
use Rattle.qk_module.proofs.module.imports.Given as goal

abbrev pub invariant-loop-turn : goal.invariant-loop-turn
invariant-loop-turn l = many (next_import l.room) l.fn.tokens ≡ many_from (next_import l.room) (l._turn-end - l._turn) l.found l.tokens
