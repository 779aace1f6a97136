use Rattle.std.proofs.Common.{◌≡◌, length}
use Rattle.qk_ast.specs.JsxText.{lines, trimmed, joined}
use Rattle.qk_lex.proofs.JoinLemmas.{joined_on, trimmed_on}
use Rattle.qk_lex.proofs.jsx.joined_lines.Given as goal

abbrev pub invariant-loop-rest : goal.invariant-loop-rest
invariant-loop-rest l = joined_on l.joined.items (trimmed_on l.first (lines l.rest)) ≡ joined (trimmed (lines l.text))

abbrev pub decreases-loop-rest : goal.decreases-loop-rest
decreases-loop-rest l = length l.rest
