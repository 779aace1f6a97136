-- What the marks, kinds and locals of the code stand for.
use Rattle.qk_ast.specs.Arrows as arrows
use Rattle.qk_ast.specs.Scopes as scopes
use Rattle.qk_locals.specs.declared.mark.Mark.{Mark}
use Rattle.qk_locals.specs.declared.local.Kind.{Kind}
use Rattle.qk_locals.specs.declared.local.Local.{Local}

abbrev pub mark_of : Mark → arrows.Mark
mark_of Mark.Unmarked = arrows.Unmarked
mark_of Mark.Marked = arrows.Marked
mark_of Mark.Tasked = arrows.Tasked

abbrev pub kind_of : Kind → scopes.Kind
kind_of Kind.Constant = scopes.Constant
kind_of Kind.Variable = scopes.Variable
kind_of Kind.Tracker = scopes.Tracker

abbrev pub local_of : Local → scopes.Local
local_of local = record { kind = kind_of local.kind; in_arrow = local.in_arrow; ended = local.ended }
