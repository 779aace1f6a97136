use Rattle.std.proofs.Common.{◌≡◌, length}
use Rattle.qk_ast.specs.JsxText.{without_spaces_before}
use Rattle.qk_lex.proofs.jsx.without_spaces_before.Given as goal

abbrev pub invariant-loop-rest : goal.invariant-loop-rest
invariant-loop-rest l = without_spaces_before l.rest ≡ without_spaces_before l.line

abbrev pub decreases-loop-rest : goal.decreases-loop-rest
decreases-loop-rest l = length l.rest
