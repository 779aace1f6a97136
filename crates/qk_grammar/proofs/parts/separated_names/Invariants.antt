use Rattle.std.proofs.Common.{◌≡◌, ◌-◌, codes}
use Rattle.qk_ast.specs.Tree.{bytes}
use Rattle.qk_reading.specs.Input.{Sign, name, ◌<$>◌, separated, separated_from}
use Rattle.qk_grammar.proofs.parts.separated_names.Given as goal

abbrev pub invariant-loop-turn : goal.invariant-loop-turn
invariant-loop-turn l =
    separated (Sign (codes "}")) (bytes <$> name) l.fn.tokens ≡ separated_from (Sign (codes "}")) (bytes <$> name) (l._turn-end - l._turn) l.found l.tokens
