use Rattle.std.proofs.Common.{◌≡◌, length, map}
use Rattle.qk_ast.specs.Characters.{is_one_of}
use Rattle.qk_lex.proofs.tables.is_listed.Given as goal

abbrev pub invariant-loop-table : goal.invariant-loop-table
invariant-loop-table l = is_one_of l.word (map (λ k. k.now) l.table) ≡ is_one_of l.word (map (λ k. k.now) l.initial.table)

abbrev pub decreases-loop-table : goal.decreases-loop-table
decreases-loop-table l = length l.table
