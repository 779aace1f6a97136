use Rattle.std.specs.Prelude.{◌≡◌, drop}
use Rattle.qk_captures.specs.Scoping.{with_all, block_names}
use Rattle.qk_captures.proofs.scope.Scope.enter_block.Given as goal

abbrev pub invariant-loop-statement : goal.invariant-loop-statement
invariant-loop-statement l = with_all (block_names (drop l.statement-index l.statements)) l.self ≡ with_all (block_names l.statements) l.initial.self
