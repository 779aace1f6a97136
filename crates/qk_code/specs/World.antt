-- Where everything stands while code runs, and how the meaning's state is found in it.
use Rattle.std.specs.Prelude.{◌≡◌, ◌≤◌, Bool, true, false, List, [], ◌∷◌, ◌++◌}
use Rattle.qk_base.specs.Left.{Left}
use Rattle.qk_meaning.specs.Value.{Text, Fields}
use Rattle.qk_meaning.specs.World.{Object, Loc}
use Rattle.qk_meaning.specs.Program.{Program}
use Rattle.qk_meaning.specs.Happening.{Happening, Answered, Did_read, Did_log, Did_print, Began, Left as Part_left, Hooked, Computing, Computed_so, Took}
use Rattle.qk_meaning.specs.Running.{Running, Kept_run, Hooking, Outside, Told as Awaits}
use Rattle.qk_meaning.specs.Trace.{logged_in, printed_in, answers_in}
use Rattle.qk_heap.specs.Told.{Told, Was_read, Has_changed, Besides}
use Rattle.qk_code.specs.Sources.{Sources}
use Rattle.qk_code.specs.Counts.{Counts}
use Rattle.qk_code.specs.declared.ask.Ask.{Ask}

-- the files and counts of the code, and the lists of asks that it may stand for; the budget; the objects and the names in scope as a program sees them; the lists that the host may stand for
pub record World : Type 1 where
  pub sources : Sources
  pub counts : Counts
  pub asked : List Ask → Type 0
  pub left : Left
  pub heap : Program → List Object
  pub scope : Program → Fields
  pub told : List Told → Type 0

abbrev pub world : Sources → Counts → (List Ask → Type 0) → Left → (Program → List Object) → (Program → Fields) → (List Told → Type 0) → World
world sources counts asked left heap scope told = record { sources = sources; counts = counts; asked = asked; left = left; heap = heap; scope = scope; told = told }

-- of the budget turns go, and levels are given back
pub record Spent (before after : Left) : Type 0 where
  pub turns : after.turns ≤ before.turns
  pub depth : after.depth ≡ before.depth
  pub entered : after.entered ≡ before.entered

-- what went before, and the answers to hook calls that are to come
pub record Past : Type 0 where
  pub log : List Loc
  pub lines : List Text
  pub trace : List Happening
  pub kept : List Kept_run
  pub rest : List Answered

-- the past where all that is about to happen is still to be answered
abbrev pub awaiting : Past → List Happening → Past
awaiting past happened = record past { rest = answers_in happened ++ past.rest }

-- the past with what happened since
abbrev pub since : Past → List Happening → Past
since past happened = record past { log = past.log ++ logged_in happened; lines = past.lines ++ printed_in happened; trace = past.trace ++ happened }

-- whoever calls answers hook calls, or they are given nothing
abbrev pub hooking_so : (hooked : Bool) → List Answered → Hooking
hooking_so true rest = Awaits rest
hooking_so false rest = Outside

-- the state of the meaning in a world, where hook calls are answered or not
abbrev pub state : (hooked : Bool) → Program → Past → World → Running
state hooked p past w = record { heap = w.heap p; log = past.log; lines = past.lines; turns = w.left.turns; trace = past.trace; locals = w.scope p; hooking = hooking_so hooked past.rest; kept = past.kept }

-- what of a trace a host is told; where the value of an earlier run of a computed is taken, of what that run read it is told nothing
abbrev pub heard_in : List Happening → List Told
heard_in [] = []
heard_in (Did_read r ∷ rest) = Was_read r.loc ∷ heard_in rest
heard_in (Did_log l ∷ rest) = Has_changed l ∷ heard_in rest
heard_in (Did_print line ∷ rest) = Besides (Did_print line) ∷ heard_in rest
heard_in (Began part ∷ rest) = Besides (Began part) ∷ heard_in rest
heard_in (Part_left part ∷ rest) = Besides (Part_left part) ∷ heard_in rest
heard_in (Hooked kind arguments answered ∷ rest) = Besides (Hooked kind arguments answered) ∷ heard_in rest
heard_in (Computing a ∷ rest) = Besides (Computing a) ∷ heard_in rest
heard_in (Computed_so a v ∷ rest) = Besides (Computed_so a v) ∷ heard_in rest
heard_in (Took a v reads ∷ rest) = Besides (Took a v []) ∷ heard_in rest
heard_in (_ ∷ rest) = heard_in rest
