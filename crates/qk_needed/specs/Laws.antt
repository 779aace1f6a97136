-- The laws of what is needed: its items against whole ones, what settling leaves, and passes that enter nothing.
use Rattle.std.specs.Prelude.{ℕ, true, false, List, [], ◌∷◌, ◌++◌, length, Some, None, ⊤, ◌≡◌, ◌≤◌, ◌<◌, ◌⊎◌}
use Rattle.std.specs.List.{list_any}
use Rattle.qk_meaning.specs.Value.{Text, Value, Ref, Items, Record, Elem, Closure, Lifted, Values, none, item, Fields, end, field}
use Rattle.qk_meaning.specs.World.{Object, Plain, Array, Signal, Computed, Props, Loc, Hook, Kept, Provided, Tasked, Instance, World}
use Rattle.qk_meaning.specs.Heap.{object_at}
use Rattle.qk_meaning.specs.Places.{same_location}
use Rattle.qk_meaning.specs.Parts.{listed}
use Rattle.qk_meaning.specs.Program.{Program, Holds, captures_in}
use Rattle.qk_meaning.specs.Doing.{Outcome, Gives, Stops, Faults, Ends, has_ended}
use Rattle.qk_meaning.specs.Happening.{Happening, Computing}
use Rattle.qk_meaning.specs.Running.{Running, Pure, Kept_run, Hooking, Outside, Mounting, Again, Told}
use Rattle.qk_meaning.specs.Setting.{called_anew}
use Rattle.qk_meaning.specs.Trace.{locs_of, own_reads, entries}
use Rattle.qk_meaning.specs.Evaluation.{entering}
use Rattle.qk_meaning.specs.Expansion.{Nodes}
use Rattle.qk_meaning.specs.Execution.{function_of}
use Rattle.qk_meaning.specs.Manner.{Manner, whole}
use Rattle.qk_meaning.specs.Session.{Session, world_of}
use Rattle.qk_meaning.specs.Settling.{first_due, pass, settled}
use Rattle.qk_meaning.specs.Item.{Event, Block, Limits, first_item, event_item}
use Rattle.qk_needed.specs.Needed.{is_stale, last_run, unless_stale, manner_keeping, needed}
use Rattle.qk_needed.specs.Needed_item.{Needed_world, resumed, left_by, needed_first_item, needed_event_item}
use Rattle.qk_needed.specs.Deciding.{One_kind}
use Rattle.qk_meaning.specs.Standing.{stands_at}
use Rattle.qk_needed.specs.Tidy.{Tidy, Tidy_all, Tidy_fields}

-- ---- what settling leaves

-- no instance is stale
abbrev pub None_stale : List Loc → List Instance → Type 0
None_stale log [] = ⊤
None_stale log (i ∷ rest) = (is_stale log i.reads ≡ false) × None_stale log rest

-- once a session has settled, whole or only where needed, no task is due and no instance is stale
abbrev pub SettledBy : (Program → ℕ → Manner) → Type 0
SettledBy manner =
    (program : Program) (levels : ℕ) (w after : Session) → settled (manner program levels) w ≡ Gives tt after →
    (first_due (world_of after) ≡ None) × None_stale after.running.log after.instances

abbrev pub Settled : Type 0
Settled = SettledBy whole × SettledBy needed

-- after a resume no instance is stale, and no computed has run
abbrev pub ResumedIsFresh : Type 0
ResumedIsFresh = (w : World) → None_stale w.log (resumed w).world.instances × ((resumed w).kept ≡ [])

-- ---- passes that enter nothing

-- every instance that stands keeps its view
abbrev pub keeping : Program → ℕ → Manner
keeping program levels = manner_keeping (λ i s. true) program levels

-- The views meet exactly the instances that stand, and give to each the fields that its props hold: a pass that keeps all views gives, mounts nothing and logs nothing.
pub record Orderly (program : Program) (w : Session) : Type 0 where
  pub kept : Session
  pub shown : Nodes
  pub passes : pass (keeping program 0) w ≡ Gives shown kept
  pub mounts_nothing : kept.mounted ≡ false
  pub logs_nothing : kept.running.log ≡ w.running.log

-- a needed pass that mounts nothing and enters no function logs nothing
abbrev pub QuietPasses : Type 0
QuietPasses =
    (program : Program) (levels : ℕ) (w after : Session) (nodes : Nodes) (news : List Happening) → Orderly program w → pass (needed program levels) w ≡ Gives nodes after →
    after.mounted ≡ false → after.running.trace ≡ w.running.trace ++ news → entries news ≡ [] → after.running.log ≡ w.running.log

-- A pass leaves a session in order, whole or only where needed, where it was in order or nothing stood.
abbrev pub PassesLeaveOrder : Type 0
PassesLeaveOrder =
    (program : Program) (levels : ℕ) (w after : Session) (nodes : Nodes) → (Orderly program w ⊎ (w.instances ≡ [])) →
    (pass (whole program levels) w ≡ Gives nodes after → Orderly program after) × (pass (needed program levels) w ≡ Gives nodes after → Orderly program after)

-- ---- needed against whole

-- Values of a state: functions keep exactly what they capture, arrays have at most 65,536 items, and every address was made.
abbrev mutual
  pub Made_in : ℕ → Value → Type 0
  Made_in n (Ref a) = a < n
  Made_in n (Items all) = Made_in_all n all
  Made_in n (Record all) = Made_in_fields n all
  Made_in n (Elem shown key slot attributes children) = Made_in_fields n attributes × Made_in_all n children
  Made_in n (Closure site scope hidden) = Made_in_fields n scope
  Made_in n (Lifted symbol captured hidden) = Made_in_all n captured
  Made_in n _ = ⊤

  pub Made_in_all : ℕ → Values → Type 0
  Made_in_all n none = ⊤
  Made_in_all n (item v rest) = Made_in n v × Made_in_all n rest

  pub Made_in_fields : ℕ → Fields → Type 0
  Made_in_fields n end = ⊤
  Made_in_fields n (field k v rest) = Made_in n v × Made_in_fields n rest

abbrev pub Sound_value : Program → ℕ → Value → Type 0
Sound_value program n v = Tidy (captures_in program) v × Made_in n v

abbrev pub Sound_object : Program → ℕ → Object → Type 0
Sound_object program n (Plain all) = Tidy_fields (captures_in program) all × Made_in_fields n all
Sound_object program n (Array all) = (length (listed all) ≤ 65536) × (Tidy_all (captures_in program) all × Made_in_all n all)
Sound_object program n (Signal v) = Sound_value program n v
Sound_object program n (Computed f) = Sound_value program n f
Sound_object program n (Props all) = Tidy_fields (captures_in program) all × Made_in_fields n all

abbrev pub Sound_hook : Program → ℕ → Hook → Type 0
Sound_hook program n (Kept v) = Sound_value program n v
Sound_hook program n (Provided id v) = Sound_value program n v
Sound_hook program n (Tasked task) = Sound_value program n task.run

abbrev pub Sound_hooks : Program → ℕ → List Hook → Type 0
Sound_hooks program n [] = ⊤
Sound_hooks program n (h ∷ rest) = Sound_hook program n h × Sound_hooks program n rest

abbrev pub Sound_instances : Program → ℕ → List Instance → Type 0
Sound_instances program n [] = ⊤
Sound_instances program n (i ∷ rest) = (i.props < n) × (Sound_value program n (function_of i.component) × (Sound_hooks program n i.hooks × (Sound_value program n i.view × Sound_instances program n rest)))

pub record Sound (program : Program) (w : World) : Type 0 where
  pub heap : (a : ℕ) → Sound_object program (length w.heap) (object_at w.heap a)
  pub instances : Sound_instances program (length w.heap) w.instances

-- What was read, where it isn't logged since, stands now as it stood when it was read. A whole call in Pure gave this value and read these locations; hook calls were answered so.
-- A call at a mount makes its objects and runs its tasks meanwhile, so what stood where something was read is what stood at the moment of the read.
pub record Right_call (program : Program) (heap : List Object) (log : List Loc) (f : Value) (arguments : List Value) (answered : Hooking → Type 0) (v : Value) (reads : List Loc) : Type 0 where
  pub levels : ℕ
  pub under_way : List ℕ
  pub before : Running
  pub behind : Running
  pub gave : entering program called_anew levels Pure under_way f arguments before ≡ Gives v behind
  pub hooks : answered before.hooking
  pub news : List Happening
  pub told : behind.trace ≡ before.trace ++ news
  pub read : locs_of (own_reads news) ≡ reads
  pub logged : List Loc
  pub log_is : log ≡ behind.log ++ logged
  -- each object that stood there stands here, of one kind
  pub kinds : (a : ℕ) → a < length behind.heap → One_kind (object_at behind.heap a) (object_at heap a)
  -- and nothing changed but what was logged
  pub stands : (l : Loc) → list_any (same_location l) logged ≡ false → stands_at behind.heap l ≡ stands_at heap l

-- what is kept of a computed is right
abbrev pub Right_run : Program → List Object → List Loc → Kept_run → Type 0
Right_run program heap log k = (f : Value) × ((object_at heap k.of ≡ Computed f) × Right_call program heap log f [] (λ h. h ≡ Outside) k.value (locs_of k.reads))

-- a location is one of these
abbrev pub All_in : List Loc → List Loc → Type 0
All_in [] all = ⊤
All_in (l ∷ rest) all = (list_any (same_location l) all ≡ true) × All_in rest all

-- every computed that has run there is kept too, and what it read is among what was read there; so none of them can be under way where this one is read
abbrev pub Runs_kept : List Loc → List Kept_run → List Loc → List Happening → Type 0
Runs_kept log kept reads [] = ⊤
Runs_kept log kept reads (Computing a ∷ rest) = ((k : Kept_run) × ((unless_stale log (last_run a kept) ≡ Some k) × All_in (locs_of k.reads) reads)) × Runs_kept log kept reads rest
Runs_kept log kept reads (_ ∷ rest) = Runs_kept log kept reads rest

-- all that is kept and isn't stale is right, and so is every computed that it has run
abbrev pub Kept_right : Program → List Object → List Loc → List Kept_run → Type 0
Kept_right program heap log kept = (a : ℕ) (k : Kept_run) → unless_stale log (last_run a kept) ≡ Some k → (right : Right_run program heap log k) × Runs_kept log kept (locs_of k.reads) right.1.1.news

-- an instance's view is right: its last execution was again, or its mount
abbrev pub Executed_so : List Hook → Hooking → Type 0
Executed_so hooks Outside = ⊥
Executed_so hooks (Mounting path before so_far) = so_far ≡ []
Executed_so hooks (Again left) = left ≡ hooks
Executed_so hooks (Told answers) = ⊥

abbrev pub Right_view : Program → List Object → List Loc → Instance → Type 0
Right_view program heap log i = Right_call program heap log (function_of i.component) (Ref i.props ∷ []) (Executed_so i.hooks) i.view (locs_of i.reads)

abbrev pub Views_right : Program → List Object → List Loc → List Instance → Type 0
Views_right program heap log [] = ⊤
Views_right program heap log (i ∷ rest) = (is_stale log i.reads ≡ false → Right_view program heap log i) × Views_right program heap log rest

-- Instances that are one but for when they were executed last: the same was read, maybe earlier.
pub record One_instance (i j : Instance) : Type 0 where
  pub path : j.path ≡ i.path
  pub component : j.component ≡ i.component
  pub props : j.props ≡ i.props
  pub hooks : j.hooks ≡ i.hooks
  pub view : j.view ≡ i.view
  pub read : locs_of j.reads ≡ locs_of i.reads

pub data Same_instances : List Instance → List Instance → Type 0 where
  no_instances : Same_instances [] []
  one_more : {i j : Instance} {rest more : List Instance} → One_instance i j → Same_instances rest more → Same_instances (i ∷ rest) (j ∷ more)

-- What a needed item begins with stands beside the world of whole items: they are one, but for when instances were executed last; and what is kept is right.
pub record Beside (program : Program) (w : World) (n : Needed_world) : Type 0 where
  pub sound : Sound program w
  pub heap : n.world.heap ≡ w.heap
  pub log : n.world.log ≡ w.log
  pub instances : Same_instances w.instances n.world.instances
  pub views : Views_right program n.world.heap n.world.log n.world.instances
  pub kept : Kept_right program n.world.heap n.world.log n.kept

-- a needed item beside a whole one: where the whole one gives, it gives the same block, and what it leaves stands beside; where the whole one faults, it faults alike
abbrev pub Item_beside : Program → Outcome Session Block → Outcome Session Block → Type 0
Item_beside program (Stops Ends s) o = ⊤
Item_beside program (Stops (Faults f) s) o = (t : Session) × ((o ≡ Stops (Faults f) t) × (t.running.lines ≡ s.running.lines))
Item_beside program (Gives block s) o = (t : Session) × ((o ≡ Gives block t) × Beside program (world_of s) (left_by t))

pub record Within (small great : Limits) : Type 0 where
  pub turns : small.turns ≤ great.turns
  pub levels : small.levels ≤ great.levels

-- functions of this program keep exactly what they capture, those at its roots too
pub record Keeps_captures (program : Program) : Type 0 where
  pub makes : (file : Text) (place : ℕ) (scope : Fields) → Tidy_fields (captures_in program) scope → Tidy (captures_in program) (program.makes (program.site file place) scope)
  pub roots : (file name : Text) (v : Value) → program.root file name ≡ Holds v → Tidy (captures_in program) v

-- From nothing, and from what stands beside, a needed item does what the whole one does at no greater limits, unless that ends. So it ends only where the whole one does.
abbrev pub NeededIsWhole : Type 0
NeededIsWhole =
    (program : Program) (small great : Limits) → Keeps_captures program → Within small great →
    Item_beside program (first_item program small) (needed_first_item program great) ×
    ((w : World) (n : Needed_world) (e : Event) → Beside program w n → Item_beside program (event_item program small w e) (needed_event_item program great n e))

-- what is seen of a needed item: its block and what it leaves, or why it stopped and what is left
abbrev pub needed_seen : Outcome Session Block → Outcome Needed_world Block
needed_seen (Gives block w) = Gives block (left_by w)
needed_seen (Stops why w) = Stops why (left_by w)

-- where a needed item doesn't end at some limits, it gives the same at all greater ones
abbrev pub NeededGreaterLimits : Type 0
NeededGreaterLimits =
    (program : Program) (small great : Limits) → Within small great →
    (has_ended (needed_first_item program small) ≡ false → needed_seen (needed_first_item program great) ≡ needed_seen (needed_first_item program small)) ×
    ((n : Needed_world) (e : Event) → has_ended (needed_event_item program small n e) ≡ false → needed_seen (needed_event_item program great n e) ≡ needed_seen (needed_event_item program small n e))
