use Rattle.std.specs.Prelude.{◌≡◌, List, [], map, take, length}
use Rattle.qk_ast.specs.Arrows.{Found_arrow}
use Rattle.qk_captures.specs.Capturing.{captured_after}
use Rattle.qk_whole.specs.Meeting.{met_seen, arrow_seen}
use Rattle.qk_whole.specs.Telling.{IsKind}
use Rattle.qk_whole.proofs.known.Known.of_kind.Given as goal

abbrev pub invariant-loop-met : goal.invariant-loop-met
invariant-loop-met l = (found : List Found_arrow) → map met_seen l.all ≡ map arrow_seen found → l.self.names.captures ≡ captured_after l.self.file [] found
    → IsKind l.self l.dollar (take (length l.yielded) found) l.functions
