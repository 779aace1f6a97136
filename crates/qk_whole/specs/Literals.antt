-- The values of fixed data in lists.
use Rattle.std.specs.Prelude.{List, [], ◌∷◌}
use Rattle.qk_ast.specs.declared.Expr.{Expr}
use Rattle.qk_ast.specs.declared.Field.{Field}
use Rattle.qk_meaning.specs.Value.{Values, Fields, none, item}
use Rattle.qk_meaning.specs.Parts.{with_field}
use Rattle.qk_meaning.specs.Roots.{literal}

abbrev pub all_literals : List Expr → Values
all_literals [] = none
all_literals (x ∷ rest) = item (literal x) (all_literals rest)

-- fields, one after another, behind these
abbrev pub fields_behind : Fields → List Field → Fields
fields_behind done [] = done
fields_behind done (f ∷ rest) = fields_behind (with_field f.key (literal f.value) done) rest
