-- When a world of one reading stands for a world of another: the relation between items, and at each pause.
-- Ties with their pairing are fixed from one pause to the next. What was logged before a start counts by what it makes due, and by nothing else.
use Rattle.std.specs.Prelude.{◌≡◌, ℕ, ◌+◌, ◌≤◌, List, ◌++◌, length}
use Rattle.std.specs.List.{list_any}
use Rattle.qk_meaning.specs.Value.{Text, Value}
use Rattle.qk_meaning.specs.World.{Object, Loc, Key, Task, Hook, Kept, Provided, Tasked, Instance, World}
use Rattle.qk_meaning.specs.Places.{same_location}
use Rattle.qk_meaning.specs.Heap.{object_at}
use Rattle.qk_meaning.specs.Trace.{locs_of}
use Rattle.qk_meaning.specs.Settling.{is_due}
use Rattle.qk_meaning.specs.Ties.{Ties, Paired, Shown_as, Stands, Pairwise, Object_stands, Loc_stands}

-- objects at paired addresses stand for one another, and those to come will be pairs
pub record Heaps_stand (t : Ties) (heap heap' : List Object) : Type 0 where
  pub there : (a b : ℕ) → Paired t.pairing a b → Object_stands t (object_at heap a) (object_at heap' b)
  pub ahead : (k : ℕ) → Paired t.pairing (length heap + k) (length heap' + k)

-- the logs with which two runs begin
pub record Start : Type 0 where
  pub log : List Loc
  pub log' : List Loc

-- as many were logged before on both sides since the start
pub record At (b : Start) (n n' : ℕ) : Type 0 where
  pub since : ℕ
  pub left : n ≡ length b.log + since
  pub right : n' ≡ length b.log' + since

-- since the start, locations were logged that match one by one
pub record Logs_stand (t : Ties) (b : Start) (log log' : List Loc) : Type 0 where
  pub logged : List Loc
  pub logged' : List Loc
  pub left : log ≡ b.log ++ logged
  pub right : log' ≡ b.log' ++ logged'
  pub match : Pairwise (Loc_stands t) logged logged'

-- the same sets of locations on paired addresses; what is read on others counts for nothing
abbrev pub Locs_alike : Ties → List Loc → List Loc → Type 0
Locs_alike t all others =
    (a b : ℕ) (k : Key) → Paired t.pairing a b → list_any (same_location (record { address = a; key = k })) all ≡ list_any (same_location (record { address = b; key = k })) others

-- the last runs of two tasks began at the same time since the start, or before it, and then both are due at the start, or both are not
pub data Began_alike (b : Start) (x y : Task) : Type 0 where
  since_start : At b x.began y.began → Began_alike b x y
  before_start : x.began ≤ length b.log → y.began ≤ length b.log' → is_due b.log x ≡ is_due b.log' y → Began_alike b x y

-- tasks of functions that stand for one another, which track the same
pub record Tasks_stand (t : Ties) (b : Start) (x y : Task) : Type 0 where
  pub run : Stands t x.run y.run
  pub tracked : Locs_alike t x.tracked y.tracked
  pub began : Began_alike b x y

pub data Hooks_stand (t : Ties) (b : Start) : Hook → Hook → Type 0 where
  both_kept : {v w : Value} → Stands t v w → Hooks_stand t b (Kept v) (Kept w)
  both_provided : {id : Text} {v w : Value} → Stands t v w → Hooks_stand t b (Provided id v) (Provided id w)
  both_tasks : {x y : Task} → Tasks_stand t b x y → Hooks_stand t b (Tasked x) (Tasked y)

-- instances of one path that stand for one another in all their parts
pub record Instances_stand (t : Ties) (b : Start) (i j : Instance) : Type 0 where
  pub path : i.path ≡ j.path
  pub component : Shown_as t.sites i.component j.component
  pub props : Paired t.pairing i.props j.props
  pub hooks : Pairwise (Hooks_stand t b) i.hooks j.hooks
  pub view : Stands t i.view j.view
  pub reads : Locs_alike t (locs_of i.reads) (locs_of j.reads)

-- the worlds stand for one another, each with its own log as the start of what comes; the lines of the last item count for nothing
pub record Worlds_stand (t : Ties) (w v : World) : Type 0 where
  pub heap : Heaps_stand t w.heap v.heap
  pub instances : Pairwise (Instances_stand t (record { log = w.log; log' = v.log })) w.instances v.instances
