use Rattle.std.specs.Prelude.{◌≡◌, List, map, take, drop}
use Rattle.qk_ast.specs.Texts.{Text}
use Rattle.qk_meaning.specs.Value.{Site, end}
use Rattle.qk_meaning.specs.Roots.{literal}
use Rattle.qk_value.specs.View.{seen, seen_fields}
use Rattle.qk_whole.specs.Literals.{fields_behind}
use Rattle.qk_whole.proofs.literals.+literal.Given as goal

abbrev pub invariant-literals-loop-item : goal.invariant-literals-loop-item
invariant-literals-loop-item l = (names : Site → List Text) → map (seen names) l.values ≡ map literal (take l.item-index l.items)

abbrev pub invariant-literal_fields-loop-field : goal.invariant-literal_fields-loop-field
invariant-literal_fields-loop-field l = (names : Site → List Text) → fields_behind (seen_fields names l.values.items) (drop l.field-index l.fields) ≡ fields_behind end l.fields
