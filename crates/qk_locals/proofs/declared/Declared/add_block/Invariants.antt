use Rattle.std.specs.Prelude.{◌≡◌, ℕ, List, drop, flat_map}
use Rattle.qk_ast.specs.Scopes.{kind_in, declarations_of}
use Rattle.qk_locals.specs.Declaring.{declared_at, first_of}
use Rattle.qk_locals.proofs.declared.Declared.add_block.Given as goal

abbrev pub invariant-loop-statement : goal.invariant-loop-statement
invariant-loop-statement l = (q : List ℕ) → first_of (declared_at l.self q) (kind_in q (flat_map declarations_of (drop l.statement-index l.statements)))
    ≡ first_of (declared_at l.initial.self q) (kind_in q (flat_map declarations_of l.statements))
