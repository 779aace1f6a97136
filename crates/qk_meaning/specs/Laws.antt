-- The laws of the meaning.
use Rattle.std.specs.Prelude.{ℕ, suc, ◌≡◌, ◌≤◌, ◌<◌, Bool, true, false, not, ◌||◌, List, [], ◌∷◌, ◌++◌, length, take, find, Some, None}
use Rattle.std.specs.List.{list_any}
use Rattle.qk_meaning.specs.Value.{Text, Site, Value}
use Rattle.qk_meaning.specs.World.{Loc, Task, Instance, World}
use Rattle.qk_meaning.specs.Places.{same_location, same_path}
use Rattle.qk_meaning.specs.Program.{Program}
use Rattle.qk_meaning.specs.Doing.{Outcome, Gives, Stops, has_ended, state_left}
use Rattle.qk_meaning.specs.Running.{Running, Mode}
use Rattle.qk_meaning.specs.Trace.{logged_in, printed_in}
use Rattle.qk_meaning.specs.Setting.{called_anew}
use Rattle.qk_meaning.specs.Evaluation.{entering}
use Rattle.qk_meaning.specs.Expansion.{Nodes}
use Rattle.qk_meaning.specs.Session.{Session, world_of}
use Rattle.qk_meaning.specs.Manner.{Manner, whole}
use Rattle.qk_meaning.specs.Settling.{Spot, is_due, first_due, pass, run_task, settled_within, settled}
use Rattle.qk_meaning.specs.Item.{Event, Block, Limits, first_item, event_item}
use Rattle.qk_meaning.specs.Run.{Line, Entry, Ended, Run, plays}
use Rattle.qk_meaning.specs.Tree.{tree}
use Rattle.qk_meaning.specs.Walk.{seen_by_walk, meets_plain, can_pause}

-- an item of a script: the first render, or an event with the world before it
pub data An_item : Type 0 where
  The_render : An_item
  The_event : World → Event → An_item

-- an item at some limits
abbrev pub played : Program → Limits → An_item → Outcome Session Block
played program limits The_render = first_item program limits
played program limits (The_event w e) = event_item program limits w e

-- what is seen of an item: its block and the world after it, or why it stopped and the world that is left
abbrev pub seen : Outcome Session Block → Outcome World Block
seen (Gives block w) = Gives block (world_of w)
seen (Stops why w) = Stops why (world_of w)

abbrev pub seen_at : Program → Limits → An_item → Outcome World Block
seen_at program limits item = seen (played program limits item)

-- where an item doesn't end at some limits, it gives the same at all greater ones
abbrev pub GreaterLimits : Type 0
GreaterLimits =
    (program : Program) (item : An_item) (small great : Limits) → small.turns ≤ great.turns → small.levels ≤ great.levels →
    has_ended (seen_at program small item) ≡ false → seen_at program great item ≡ seen_at program small item

-- two limits at which an item doesn't end give the same
abbrev pub TwoLimits : Type 0
TwoLimits =
    (program : Program) (item : An_item) (one other : Limits) → has_ended (seen_at program one item) ≡ false → has_ended (seen_at program other item) ≡ false →
    seen_at program one item ≡ seen_at program other item

-- a script has at most one run
abbrev pub OneRun : Type 0
OneRun = (program : Program) (leaves : World → World) (script : List Line) (one other : List Entry) → Run program leaves script one → Run program leaves script other → one ≡ other

-- some item ended with its budget
abbrev pub some_ended : List Entry → Bool
some_ended [] = false
some_ended (Ended ∷ rest) = true
some_ended (_ ∷ rest) = some_ended rest

-- what is played at one budget is the run of the script, unless an item ends with that budget
abbrev pub PlayedIsRun : Type 0
PlayedIsRun =
    (program : Program) (leaves : World → World) (limits : Limits) (script : List Line) → some_ended (plays program leaves limits script) ≡ false →
    Run program leaves script (plays program leaves limits script)

-- a call that gives a value has taken a turn
abbrev pub CallsTakeTurns : Type 0
CallsTakeTurns =
    (program : Program) (levels : ℕ) (mode : Mode) (under_way : List ℕ) (f : Value) (arguments : List Value) (s after : Running) (v : Value) →
    entering program called_anew levels mode under_way f arguments s ≡ Gives v after → after.turns < s.turns

-- a pass takes a turn
abbrev pub PassesTakeTurns : Type 0
PassesTakeTurns = (program : Program) (levels : ℕ) (w after : Session) (nodes : Nodes) → pass (whole program levels) w ≡ Gives nodes after → after.running.turns < w.running.turns

-- a run of a task takes a turn
abbrev pub TasksTakeTurns : Type 0
TasksTakeTurns = (program : Program) (levels : ℕ) (spot : Spot) (w after : Session) → run_task (whole program levels) spot w ≡ Gives tt after → after.running.turns < w.running.turns

-- so every bound on the rounds of settling that is greater than the turns gives the same
abbrev pub RoundsAreEnough : Type 0
RoundsAreEnough =
    (program : Program) (levels rounds more : ℕ) (w : Session) → w.running.turns < rounds → w.running.turns < more →
    settled_within (whole program levels) rounds w ≡ settled_within (whole program levels) more w

-- once a session has settled no task is due
abbrev pub NothingDue : Type 0
NothingDue = (manner : Manner) (w after : Session) → settled manner w ≡ Gives tt after → first_due (world_of after) ≡ None

-- ---- items and traces

-- what is left behind an item: its log is the one before it and what its trace tells of it, and its console lines are those that its trace tells
pub record Tells_all (log : List Loc) (left : Running) : Type 0 where
  pub log_told : left.log ≡ log ++ logged_in left.trace
  pub lines_told : left.lines ≡ printed_in left.trace

-- the log with which an item begins
abbrev pub log_before : An_item → List Loc
log_before The_render = []
log_before (The_event w e) = w.log

-- an item tells all that it logs and prints, whether it shows a block or stops
abbrev pub ItemsTell : Type 0
ItemsTell = (program : Program) (limits : Limits) (item : An_item) → Tells_all (log_before item) (state_left (played program limits item)).running

-- ---- fronts of scripts

-- what is played of the first lines of a script is the front of what is played of it
abbrev pub FrontsPlayed : Type 0
FrontsPlayed = (program : Program) (leaves : World → World) (limits : Limits) (script : List Line) (k : ℕ) → plays program leaves limits (take k script) ≡ take (suc k) (plays program leaves limits script)

-- and the run of the first lines is the front of its run
abbrev pub FrontsRun : Type 0
FrontsRun = (program : Program) (leaves : World → World) (script : List Line) (entries : List Entry) (k : ℕ) → Run program leaves script entries → Run program leaves (take k script) (take (suc k) entries)

-- ---- due tasks, and pauses

-- where a task's last run began within a log, a longer log makes it due where that log does, or where what was logged since is tracked
abbrev pub DueOverMore : Type 0
DueOverMore =
    (log more : List Loc) (task : Task) → task.began ≤ length log →
    is_due (log ++ more) task ≡ (is_due log task || list_any (λ l. list_any (same_location l) task.tracked) more)

-- a pause is possible exactly where the walk meets no plain function that isn't hidden
abbrev pub PausesMeetNone : Type 0
PausesMeetNone = (captures : Site → List Text) (w : World) → can_pause captures w ≡ not (meets_plain captures (seen_by_walk captures w))

-- ---- the tree of a world

-- each of these instances is the first of its path among all
pub data Each_first (all : List Instance) : List Instance → Type 0 where
  none_left : Each_first all []
  one_first : {i : Instance} {rest : List Instance} → find (λ j. same_path j.path i.path) all ≡ Some i → Each_first all rest → Each_first all (i ∷ rest)

-- where no two instances have one path, the tree of the world behind a pass is what the pass showed
abbrev pub TreeIsPassed : Type 0
TreeIsPassed =
    (program : Program) (levels : ℕ) (w after : Session) (nodes : Nodes) → pass (whole program levels) w ≡ Gives nodes after →
    Each_first after.instances after.instances → tree program.app (world_of after) ≡ nodes
