use Rattle.std.proofs.Common.{◌≡◌, ◌++◌, List, map, drop}
use Rattle.qk_ast.specs.Texts as texts
use Rattle.qk_meaning.specs.Value.{Site}
use Rattle.qk_meaning.specs.Parts.{names_of}
use Rattle.qk_meaning.specs.Methods.{as_values}
use Rattle.qk_value.specs.View.{seen, seen_fields}
use Rattle.qk_acts.proofs.known.field_names.Given as goal

-- the names so far, and those of the rest, are those of all
abbrev pub invariant-loop-name : goal.invariant-loop-name
invariant-loop-name l = (captured : Site → List texts.Text) → map (seen captured) l.names ++ as_values (names_of (seen_fields captured (drop l.name-index l.fields))) ≡ as_values (names_of (seen_fields captured l.fields))
