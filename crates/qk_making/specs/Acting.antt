-- What an act of code comes to: a step in which no other code runs.
use Rattle.std.specs.Prelude.{◌≡◌, List, [], ◌++◌, Result, Ok, Err}
use Rattle.qk_meaning.specs.Value as M
use Rattle.qk_meaning.specs.World as W
use Rattle.qk_meaning.specs.World.{Loc}
use Rattle.qk_meaning.specs.Doing as D
use Rattle.qk_meaning.specs.Doing.{Outcome, Doing}
use Rattle.qk_meaning.specs.Happening.{Happening}
use Rattle.qk_meaning.specs.Running.{Running}
use Rattle.qk_meaning.specs.Setting.{Setting, captures}
use Rattle.qk_meaning.specs.Trace.{logged_in, printed_in, answers_in}
use Rattle.qk_value.specs.declared.value.Value.{Value}
use Rattle.qk_value.specs.Faults.{fault_of}
use Rattle.qk_value.specs.View.{seen}
use Rattle.qk_heap.specs.declared.object.Object.{Object}
use Rattle.qk_heap.specs.Seen.{heap_seen}
use Rattle.qk_heap.specs.Told.{Told}
use Rattle.qk_code.specs.declared.mode.Mode.{Mode}
use Rattle.qk_code.specs.declared.stop.Stop.{Stop}
use Rattle.qk_code.specs.declared.stop.Stop.TheVariants.{Fault, Ended, Code, Memory}
use Rattle.qk_code.specs.Asked.{Goes_on, asks_in}
use Rattle.qk_code.specs.Modes.{mode_seen}
use Rattle.qk_code.specs.Ran.{Unless_memory}
use Rattle.qk_code.specs.World.{heard_in}

-- The outcome is the result, or its fault, with that state behind. Of want of memory nothing is said; neither the budget nor the code stops an act.
abbrev pub Comes_to : {A B : Type 0} → (A → B) → Outcome Running B → Result A Stop → Running → Type 0
Comes_to seen outcome (Ok a) s = outcome ≡ D.Gives (seen a) s
Comes_to seen outcome (Err (Fault f)) s = outcome ≡ D.Stops (D.Faults (fault_of f)) s
Comes_to seen outcome (Err Ended) s = ⊥
Comes_to seen outcome (Err (Code why)) s = ⊥
Comes_to seen outcome (Err Memory) s = Unit {0}

-- it leaves everything as it is
abbrev pub Leaves : {A B : Type 0} → (A → B) → Doing Running B → Result A Stop → Type 0
Leaves seen meaning result = (s : Running) → Comes_to seen (meaning s) result s

-- nothing but objects is made by it
abbrev pub Makes : {A B : Type 0} → (A → B) → Doing Running B → List W.Object → Result A Stop → List W.Object → Type 0
Makes seen meaning objects result objects' = (s : Running) → s.heap ≡ objects → Comes_to seen (meaning s) result (record s { heap = objects' })

-- objects are read, made and changed by it, and the host is told
pub record Acts {A B : Type 0} (seen : A → B) (meaning : Doing Running B) (objects : List W.Object) (told : List Told → Type 0) (result : Result A Stop) (objects' : List W.Object) (told' : List Told → Type 0) : Type 0 where
  -- what happened, behind that log
  pub happened : List Loc → List Happening
  -- no hook is called and no code asked for anything
  pub unanswered : (log : List Loc) → answers_in (happened log) ≡ []
  pub unasked : (log : List Loc) → asks_in (happened log) ≡ []
  pub heard : Unless_memory result ((log : List Loc) → Goes_on told told' (heard_in (happened log)))
  pub agrees : (s : Running) → s.heap ≡ objects
      → Comes_to seen (meaning s) result (record s { heap = objects'; log = s.log ++ logged_in (happened s.log); lines = s.lines ++ printed_in (happened s.log); trace = s.trace ++ happened s.log })

-- the values that code sees in a setting
abbrev pub seen_in : Setting → Value → M.Value
seen_in here v = seen (captures here) v

-- objects alone are made, in whatever setting of that mode
abbrev pub MakesIn : {A B : Type 0} → Mode → (Setting → A → B) → (Setting → Doing Running B) → List Object → Result A Stop → List Object → Type 0
MakesIn mode seen meaning objects result objects' = (here : Setting) → here.mode ≡ mode_seen mode → Makes (seen here) (meaning here) (heap_seen (captures here) objects) result (heap_seen (captures here) objects')

-- what it does in whatever setting of that mode
abbrev pub ActsIn : {A B : Type 0} → Mode → (Setting → A → B) → (Setting → Doing Running B) → List Object → (List Told → Type 0) → Result A Stop → List Object → (List Told → Type 0) → Type 0
ActsIn mode seen meaning objects told result objects' told' =
    (here : Setting) → here.mode ≡ mode_seen mode → Acts (seen here) (meaning here) (heap_seen (captures here) objects) told result (heap_seen (captures here) objects') told'
