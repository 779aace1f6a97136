use Rattle.std.proofs.Common.{◌≡◌, ◌+◌, drop}
use Rattle.qk_lex.specs.Joining.{line_end}
use Rattle.qk_lex.proofs.jsx.line_end.Given as goal

abbrev pub invariant-loop-i : goal.invariant-loop-i
invariant-loop-i l = l.i + line_end (drop l.i l.text) ≡ line_end l.text
