use Rattle.std.proofs.Common.{◌≡◌, ◌-◌}
use Rattle.qk_reading.specs.Input.{many_from, left}
use Rattle.qk_reading.specs.Parts.{comma_name}
use Rattle.qk_module.proofs.scope.more_names.Given as goal

abbrev pub invariant-loop-turn : goal.invariant-loop-turn
invariant-loop-turn l = many_from comma_name (left l.fn.tokens) l.fn.found l.fn.tokens ≡ many_from comma_name (l._turn-end - l._turn) l.found l.tokens
