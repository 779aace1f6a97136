use Rattle.std.specs.Prelude.{List, drop}
use Rattle.qk_ast.specs.Texts as texts
use Rattle.qk_meaning.specs.Value.{Site}
use Rattle.qk_meaning.specs.Same.{same}
use Rattle.qk_meaning.specs.Props.{changed}
use Rattle.qk_value.specs.View.{seen_fields}
use Rattle.qk_heap.specs.Told.{Hears, all_changed}
use Rattle.qk_heap.specs.Set_props.{passes}
use Rattle.qk_heap.proofs.setting.tell_changed.Given as goal

-- whoever is told of the rest was told of all
abbrev pub invariant-loop-at : goal.invariant-loop-at
invariant-loop-at g l = (names : Site → List texts.Text) (v : g.row.W.Denot)
    → Hears g.W.Watch.stands_for l.w (all_changed (changed (same names) l.a.0 (passes l.gone (seen_fields names l.given)) (seen_fields names (drop l.at l.listed)) (seen_fields names l.held) (seen_fields names l.given))) v
    → Hears g.W.Watch.stands_for l.fn.w (all_changed (changed (same names) l.a.0 (passes l.gone (seen_fields names l.given)) (seen_fields names l.listed) (seen_fields names l.held) (seen_fields names l.given))) v
