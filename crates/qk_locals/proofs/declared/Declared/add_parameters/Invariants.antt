use Rattle.std.specs.Prelude.{◌≡◌, ℕ, List, drop}
use Rattle.qk_ast.specs.Names.{patterns_names}
use Rattle.qk_ast.specs.Scopes.{kind_in, declared_as}
use Rattle.qk_locals.specs.Meanings.{kind_of}
use Rattle.qk_locals.specs.Declaring.{declared_at, first_of}
use Rattle.qk_locals.proofs.declared.Declared.add_parameters.Given as goal

abbrev pub invariant-loop-pattern : goal.invariant-loop-pattern
invariant-loop-pattern l = (q : List ℕ) → first_of (declared_at l.self q) (kind_in q (declared_as (kind_of l.kind) (patterns_names (drop l.pattern-index l.params))))
    ≡ first_of (declared_at l.initial.self q) (kind_in q (declared_as (kind_of l.kind) (patterns_names l.params)))
