use Rattle.std.specs.Prelude.{◌≡◌, drop, flat_map}
use Rattle.qk_ast.specs.Names.{declared_by}
use Rattle.qk_ast.specs.Walking.{with_names}
use Rattle.qk_ast.proofs.name_set.NameSet.add_declared.Given as goal

abbrev pub invariant-loop-statement : goal.invariant-loop-statement
invariant-loop-statement l = with_names l.self (flat_map declared_by (drop l.statement-index l.statements)) ≡ with_names l.initial.self (flat_map declared_by l.statements)
