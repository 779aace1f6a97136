use Rattle.std.proofs.Common.{◌≡◌, ◌-◌, codes}
use Rattle.qk_reading.specs.Input.{Sign, separated, separated_from}
use Rattle.qk_reading.specs.Parts.{pattern}
use Rattle.qk_grammar.proofs.parts.separated_patterns.Given as goal

abbrev pub invariant-loop-turn : goal.invariant-loop-turn
invariant-loop-turn l =
    separated (Sign (codes ")")) (pattern l.room) l.fn.tokens ≡ separated_from (Sign (codes ")")) (pattern l.room) (l._turn-end - l._turn) l.found l.tokens
