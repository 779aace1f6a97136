use Rattle.std.specs.Prelude.{◌≡◌, drop}
use Rattle.qk_ast.specs.Names.{patterns_names}
use Rattle.qk_captures.specs.Scoping.{with_all}
use Rattle.qk_captures.proofs.scope.Scope.enter_patterns.Given as goal

abbrev pub invariant-loop-pattern : goal.invariant-loop-pattern
invariant-loop-pattern l = with_all (patterns_names (drop l.pattern-index l.params)) l.self ≡ with_all (patterns_names l.params) l.initial.self
