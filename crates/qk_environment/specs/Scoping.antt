-- The names in scope, as the meaning has them.
use Rattle.std.specs.Prelude.{true, false, List, [], ◌∷◌, codes}
use Rattle.qk_ast.specs.declared.Pattern.{Pattern}
use Rattle.qk_ast.specs.Texts.{Text, same_text}
use Rattle.qk_meaning.specs.Value.{Value, Site, Fields, end, field}
use Rattle.qk_value.specs.View.{seen}
use Rattle.qk_environment.specs.declared.scope.Named.{Named}

-- what the arrow of each site captures
abbrev pub Captures : Type 0
Captures = Site → List Text

module _ (captured : Captures) where
  -- the names, the innermost last, over those around them
  abbrev pub over : List Named → Fields → Fields
  over [] around = around
  over (n ∷ rest) around = over rest (field n.name (seen captured n.value) around)

  abbrev pub scope_seen : List Named → Fields
  scope_seen names = over names end

-- the name with its value in front of the others, unless it is `track`
abbrev pub untracked : Text → Value → Fields → Fields
untracked name v around = elim (same_text name (codes "track")) [ true ↦ around | false ↦ field name v around ]

-- the names that a `const` declares; those of `useLexicalScope` stand around the arrow's own names
abbrev pub constant_names : Pattern → List Text
constant_names (Pattern.Scope names) = []
constant_names (Pattern.Name t) = t ∷ []
constant_names (Pattern.Fields ts) = ts
