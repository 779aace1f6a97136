use Rattle.std.specs.Prelude.{List, drop}
use Rattle.qk_ast.specs.Texts as texts
use Rattle.qk_meaning.specs.Value.{Site}
use Rattle.qk_meaning.specs.Same.{same}
use Rattle.qk_meaning.specs.Props.{new_fields, fields_after}
use Rattle.qk_value.specs.View.{seen_fields}
use Rattle.qk_heap.proofs.Set_fields.{Building}
use Rattle.qk_heap.proofs.setting.with_new.Given as goal

abbrev pub invariant-loop-at : goal.invariant-loop-at
invariant-loop-at l = (names : Site → List texts.Text)
    → Building (fields_after (same names) (seen_fields names l.held) (seen_fields names l.given)) (seen_fields names l.after) (new_fields (seen_fields names l.held) (seen_fields names (drop l.at l.given)))
