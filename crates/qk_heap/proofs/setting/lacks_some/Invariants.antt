use Rattle.std.specs.Prelude.{◌≡◌, List, drop}
use Rattle.qk_ast.specs.Texts as texts
use Rattle.qk_meaning.specs.Value.{Site}
use Rattle.qk_meaning.specs.Props.{lacks_some}
use Rattle.qk_value.specs.View.{seen_fields}
use Rattle.qk_heap.proofs.setting.lacks_some.Given as goal

abbrev pub invariant-loop-at : goal.invariant-loop-at
invariant-loop-at l = (names : Site → List texts.Text)
    → lacks_some (seen_fields names (drop l.at l.fields)) (seen_fields names l.other) ≡ lacks_some (seen_fields names l.fields) (seen_fields names l.other)
