use Rattle.std.proofs.Common.{◌≡◌, ◌≤◌, length, take}
use Rattle.qk_ast.specs.JsxText.{without_spaces_after}
use Rattle.qk_lex.proofs.jsx.without_spaces_after.Given as goal

abbrev pub invariant-loop-end : goal.invariant-loop-end
invariant-loop-end l = record { within : l.end ≤ length l.line; value : without_spaces_after (take l.end l.line) ≡ without_spaces_after l.line }

abbrev pub decreases-loop-end : goal.decreases-loop-end
decreases-loop-end l = l.end
