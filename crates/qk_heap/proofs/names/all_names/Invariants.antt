use Rattle.std.specs.Prelude.{◌≡◌, ◌++◌, List, drop}
use Rattle.qk_ast.specs.Texts as texts
use Rattle.qk_meaning.specs.Value.{Site}
use Rattle.qk_meaning.specs.Parts.{names_of}
use Rattle.qk_value.specs.View.{seen_fields}
use Rattle.qk_heap.proofs.names.all_names.Given as goal

abbrev pub invariant-loop-at : goal.invariant-loop-at
invariant-loop-at l = (names : Site → List texts.Text) → l.all.items ++ names_of (seen_fields names (drop l.at l.fields)) ≡ names_of (seen_fields names l.fields)
