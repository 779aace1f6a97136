use Rattle.std.proofs.Common.{◌≡◌, [], length, map}
use Rattle.qk_ast.specs.Tokens.{longest_after}
use Rattle.qk_lex.proofs.tables.longest.Given as goal

abbrev pub invariant-loop-table : goal.invariant-loop-table
invariant-loop-table l = longest_after l.best (map (λ k. k.now) l.table) l.text ≡ longest_after [] (map (λ k. k.now) l.initial.table) l.text

abbrev pub decreases-loop-table : goal.decreases-loop-table
decreases-loop-table l = length l.table
