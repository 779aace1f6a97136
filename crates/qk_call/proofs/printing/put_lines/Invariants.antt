use Rattle.std.specs.Prelude.{◌≡◌, ◌++◌, flat_map, drop}
use Rattle.qk_call.specs.Printing.{log_line}
use Rattle.qk_call.proofs.printing.put_lines.Given as goal

abbrev pub invariant-loop-line : goal.invariant-loop-line
invariant-loop-line l = l.out.items ++ flat_map log_line (drop l.line-index l.lines) ≡ l.initial.out.items ++ flat_map log_line l.lines
