-- Items of which only what must be played is played, one after another: what each begins with, what it enters, what it touches.
use Rattle.std.specs.Prelude.{ℕ, Bool, true, false, List, [], ◌∷◌, ◌++◌, length, map}
use Rattle.qk_meaning.specs.Value.{Text}
use Rattle.qk_meaning.specs.World.{World, Instance}
use Rattle.qk_meaning.specs.Program.{Program, symbol_of}
use Rattle.qk_meaning.specs.Doing.{Outcome, Gives, Stops, Faults, Ends}
use Rattle.qk_meaning.specs.Happening.{Which, At_site, Of_symbol}
use Rattle.qk_meaning.specs.Running.{Kept_run}
use Rattle.qk_meaning.specs.Trace.{entries, touched}
use Rattle.qk_ast.specs.Texts.{is_among}
use Rattle.qk_meaning.specs.Session.{Session, world_of, session_in, nothing_yet}
use Rattle.qk_meaning.specs.Item.{Event, Block, Limits, first_render, event}
use Rattle.qk_meaning.specs.Run.{Line, Happens, Pauses, Entry, Played, Paused, Faulted, Ended}
use Rattle.qk_needed.specs.Needed.{read_now, needed}

-- what a needed item begins with, and leaves: a world, and what is kept of computeds
pub record Needed_world : Type 0 where
  pub world : World
  pub kept : List Kept_run

abbrev pub left_by : Session → Needed_world
left_by s = record { world = world_of s; kept = s.running.kept }

abbrev pub needed_session : Needed_world → ℕ → Session
needed_session n turns = let s = session_in n.world turns in record s { running = record (s.running) { kept = n.kept } }

-- before the first render
abbrev pub at_first : Needed_world
at_first = record { world = nothing_yet; kept = [] }

abbrev pub fresh : ℕ → Instance → Instance
fresh n i = record i { reads = read_now n i.reads }

-- after a resume no instance is stale, and no computed has run
abbrev pub resumed : World → Needed_world
resumed w = record { world = record w { instances = map (fresh (length w.log)) w.instances }; kept = [] }

-- the first render, and an event
abbrev pub needed_first_item : Program → Limits → Outcome Session Block
needed_first_item program limits = first_render (needed program limits.levels) (needed_session at_first limits.turns)

abbrev pub needed_event_item : Program → Limits → Needed_world → Event → Outcome Session Block
needed_event_item program limits n e = event (needed program limits.levels) e (needed_session n limits.turns)

-- ---- a script at one budget; `leaves` is what a pause leaves, where it is accepted all that is kept is gone

module _ (program : Program) (leaves : World → World) (accepts : World → Bool) where
  abbrev pub behind_pause : Needed_world → Needed_world
  behind_pause n = elim (accepts n.world) [ true ↦ resumed (leaves n.world) | false ↦ n ]

  abbrev pub needed_on : (Needed_world → List Entry) → Outcome Session Block → List Entry
  needed_on further (Gives block next) = Played block (world_of next) ∷ further (left_by next)
  needed_on further (Stops (Faults f) last) = Faulted f last.running.lines ∷ []
  needed_on further (Stops Ends last) = Ended ∷ []

  abbrev pub needed_from : Limits → List Line → Needed_world → List Entry
  needed_from limits [] n = []
  needed_from limits (Pauses ∷ script) n = Paused n.world ∷ needed_from limits script (behind_pause n)
  needed_from limits (Happens e ∷ script) n = needed_on (needed_from limits script) (needed_event_item program limits n e)

  abbrev pub plays_needed : Limits → List Line → List Entry
  plays_needed limits script = needed_on (needed_from limits script) (needed_first_item program limits)

-- ---- what an item enters and touches, from the session behind it

-- the symbols of dollar sites
abbrev pub symbols_entered : List Which → List Text
symbols_entered [] = []
symbols_entered (At_site site ∷ rest) = elim site.dollar [ true ↦ symbol_of site ∷ symbols_entered rest | false ↦ symbols_entered rest ]
symbols_entered (Of_symbol symbol ∷ rest) = symbol ∷ symbols_entered rest

abbrev pub each_once : (so_far : List Text) → List Text → List Text
each_once so_far [] = so_far
each_once so_far (t ∷ rest) = elim (is_among t so_far) [ true ↦ each_once so_far rest | false ↦ each_once (so_far ++ t ∷ []) rest ]

-- the files that some symbols name, each once: `files` tells for a symbol its file and what that imports, in order
abbrev pub files_of : (files : Text → List Text) → List Text → List Text
files_of files [] = []
files_of files (t ∷ rest) = files t ++ files_of files rest

abbrev pub item_loads : (files : Text → List Text) → (loaded : List Text) → Session → List Text
item_loads files loaded s = each_once loaded (files_of files (symbols_entered (entries s.running.trace)))

abbrev pub item_touched : Session → List ℕ
item_touched s = touched s.running.trace
