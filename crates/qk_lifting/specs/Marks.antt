-- The mark that an arrow of a kind has.
use Rattle.qk_ast.specs.Arrows.{Mark, Unmarked, Marked, Tasked}
use Rattle.qk_lifting.specs.declared.SegmentKind.{SegmentKind}
use Rattle.qk_lifting.specs.declared.SegmentKind.TheVariants.{Task}
use Rattle.qk_lifting.specs.Kinds.{Place, For}

abbrev pub mark_of : SegmentKind → Mark
mark_of Task = Tasked
mark_of _ = Marked

abbrev pub mark_there : Place → Mark
mark_there (For kind) = mark_of kind
mark_there _ = Unmarked
