-- What stands first under a name.
use Rattle.std.specs.Prelude.{true, false, Option, Some, None}
use Rattle.qk_ast.specs.Texts.{Text, same_text}

-- the first of the two that is there
abbrev pub earlier : {X : Type 0} → Option X → Option X → Option X
earlier (Some x) other = Some x
earlier None other = other

abbrev pub one_named : {X : Type 0} → Text → X → Text → Option X
one_named name x q = elim (same_text name q) [ true ↦ Some x | false ↦ None ]
