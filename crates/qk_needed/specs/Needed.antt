-- The needed manner: what isn't stale is kept, be it the value of a computed or the view of an instance.
use Rattle.std.specs.Prelude.{ℕ, Bool, true, false, not, List, [], ◌∷◌, drop, length, eqb, Option, Some, None, find}
use Rattle.std.specs.List.{list_any}
use Rattle.qk_meaning.specs.Value.{Value}
use Rattle.qk_meaning.specs.World.{Loc, Read, Instance}
use Rattle.qk_meaning.specs.Places.{same_location, same_path}
use Rattle.qk_meaning.specs.Program.{Program}
use Rattle.qk_meaning.specs.Doing.{Doing, ◌>>=◌, ◌>>◌, give, asked, chosen}
use Rattle.qk_meaning.specs.Happening.{Happening, Took}
use Rattle.qk_meaning.specs.Running.{Running, Kept_run, keeps_run, told}
use Rattle.qk_meaning.specs.Trace.{read_in}
use Rattle.qk_meaning.specs.Setting.{Entering, Computed_reading, called_anew}
use Rattle.qk_meaning.specs.Expansion.{Visit}
use Rattle.qk_meaning.specs.Session.{Session, runs}
use Rattle.qk_meaning.specs.Execution.{stands, mount, props_set, run_again}
use Rattle.qk_meaning.specs.Manner.{Manner}

-- the log holds the location at or past the length that it had when the location was read
abbrev pub logged_since : List Loc → Read → Bool
logged_since log r = list_any (same_location r.loc) (drop r.at log)

-- an execution or a run of a computed is stale where the log holds so one of its last reads
abbrev pub is_stale : List Loc → List Read → Bool
is_stale log reads = list_any (logged_since log) reads

-- ---- computeds

-- the last run of a computed, where its function has run
abbrev pub last_run : ℕ → List Kept_run → Option Kept_run
last_run a kept = find (λ k. eqb k.of a) kept

-- a run that isn't stale
abbrev pub unless_stale : List Loc → Option Kept_run → Option Kept_run
unless_stale log None = None
unless_stale log (Some k) = elim (is_stale log k.reads) [ true ↦ None | false ↦ Some k ]

-- what is kept of a computed, where its function has run and that run isn't stale
abbrev pub kept_of : ℕ → Running → Option Kept_run
kept_of a s = unless_stale s.log (last_run a s.kept)

-- what was read in a run counts for it, wherever it stands
abbrev pub run_kept : ℕ → Value × List Read → Doing Running Value
run_kept a run = do
  keeps_run (record { of = a; value = run.0; reads = run.1 })
  give run.0

-- the same locations, read where the log has this length
abbrev pub read_now : ℕ → List Read → List Read
read_now n [] = []
read_now n (r ∷ rest) = record { loc = r.loc; at = n } ∷ read_now n rest

-- a kept run is told with what it read, which counts for the reader
abbrev pub taken_told : ℕ → Kept_run → Running → List Happening
taken_told a k s = Took a k.value (read_now (length s.log) k.reads) ∷ []

-- what is kept gives its value; else the function is called, and this run is kept
abbrev pub taken_or_called : Entering → List ℕ → ℕ → Value → Option Kept_run → Doing Running Value
taken_or_called enter under_way a f (Some k) = do
  told (taken_told a k)
  give k.value
taken_or_called enter under_way a f None = do
  run ← read_in (called_anew enter under_way a f)
  run_kept a run

-- a computed that isn't under way gives what is kept of it, and is called where nothing is
abbrev pub called_if_needed : Computed_reading
called_if_needed enter under_way a f = do
  kept ← asked (kept_of a)
  taken_or_called enter under_way a f kept

-- ---- instances: `keeps` tells which of those that stood before keep their view and reads, by the state behind the setting of their props

module _ (keeps : Instance → Running → Bool) (program : Program) (levels : ℕ) where
  abbrev pub keep_or_run : Instance → Visit Session
  keep_or_run i met = do
    runs (props_set program called_if_needed levels i.props met.fields)
    kept ← asked (λ w. keeps i w.running)
    chosen kept (stands false i) (run_again program called_if_needed levels i met)

  abbrev pub kept_or_mounted : Option Instance → Visit Session
  kept_or_mounted (Some i) met = keep_or_run i met
  kept_or_mounted None met = mount program called_if_needed levels met

  abbrev pub keep_or_mount : Visit Session
  keep_or_mount met = do
    before ← asked (λ w. w.instances)
    kept_or_mounted (find (λ i. same_path i.path met.path) before) met

  -- computeds are called only where they must be, and these instances are kept
  abbrev pub manner_keeping : Manner
  manner_keeping = record { program = program; computed = called_if_needed; levels = levels; visit = keep_or_mount }

-- an instance that isn't stale
abbrev pub isn't_stale : Instance → Running → Bool
isn't_stale i s = not (is_stale s.log i.reads)

abbrev pub needed : Program → ℕ → Manner
needed program levels = manner_keeping isn't_stale program levels
