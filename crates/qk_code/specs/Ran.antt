-- What a run did, beside what it means.
use Rattle.std.specs.Prelude.{◌≡◌, Bool, false, List, [], ◌∷◌, ◌++◌, Result, Ok, Err}
use Rattle.qk_ast.specs.declared.Form.{Form}
use Rattle.qk_meaning.specs.Value.{Fields}
use Rattle.qk_meaning.specs.World.{Loc}
use Rattle.qk_meaning.specs.Program.{Program}
use Rattle.qk_meaning.specs.Doing as D
use Rattle.qk_meaning.specs.Doing.{Why, Outcome, Doing, state_left}
use Rattle.qk_meaning.specs.Happening.{Happening}
use Rattle.qk_meaning.specs.Running.{Running, Hooking}
use Rattle.qk_meaning.specs.Trace.{answers_in}
use Rattle.qk_meaning.specs.Laws_of_code.{Adds}
use Rattle.qk_value.specs.Faults.{fault_of}
use Rattle.qk_code.specs.declared.ask.Ask.{Ask}
use Rattle.qk_code.specs.declared.stop.Stop.{Stop}
use Rattle.qk_code.specs.declared.stop.Stop.TheVariants.{Fault, Ended, Code, Memory}
use Rattle.qk_code.specs.Sources.{Sources, Extends, reading}
use Rattle.qk_code.specs.Counts.{Later, HasCause, in_vain}
use Rattle.qk_code.specs.Asked.{Goes_on, asks_in, Asks}
use Rattle.qk_code.specs.World.{World, Spent, Past, awaiting, since, state, heard_in}

-- it stops there, whatever names are in scope then and however hook calls are answered
pub record Stops_so {B : Type 0} (outcome : Outcome Running B) (why : Why) (s : Running) : Type 0 where
  pub locals : Fields
  pub hooking : Hooking
  pub is : outcome ≡ D.Stops why (record s { locals = locals; hooking = hooking })

-- It goes on from there with the entering or the use for which this one thing was asked.
pub record Comes_next {B : Type 0} (asks : List Ask) (outcome : Outcome Running B) (s : Running) : Type 0 where
  pub ask : Ask
  pub only : asks ≡ ask ∷ []
  pub next : Happening
  pub asked : Asks next ask
  pub adds : Adds (record s { trace = s.trace ++ (next ∷ []) }) (state_left outcome)

-- The result and the state are those of the outcome. Where the code gave nothing of what it was asked for, the outcome goes on from what was done and told so far with just that.
-- Of want of memory nothing is said.
abbrev pub Agrees : {A B : Type 0} → (A → B) → List Ask → Outcome Running B → Result A Stop → Running → Type 0
Agrees seen asks outcome (Ok a) s = outcome ≡ D.Gives (seen a) s
Agrees seen asks outcome (Err (Fault f)) s = Stops_so outcome (D.Faults (fault_of f)) s
Agrees seen asks outcome (Err Ended) s = Stops_so outcome D.Ends s
Agrees seen asks outcome (Err (Code why)) s = Comes_next asks outcome s
Agrees seen asks outcome (Err Memory) s = Unit {0}

-- this holds, unless memory ran out
abbrev pub Unless_memory : {A : Type 0} → Result A Stop → Type 0 → Type 0
Unless_memory (Err Memory) P = Unit {0}
Unless_memory _ P = P

-- A run from one world to another has this meaning, whatever files the code gets later, as far as what is given of the program holds.
pub record Ran {A B : Type 0} (form : Form) (hooked : Bool) (given : Program → Type 0) (seen : Program → A → B) (meaning : Program → Doing Running B) (before : World) (result : Result A Stop) (after : World) : Type 0 where
  pub grows : Extends before.sources after.sources
  pub later : Later before.counts after.counts
  pub cause : HasCause before.counts after.counts result
  pub spent : Spent before.left after.left
  -- what happened, behind that log
  pub happened : Program → List Loc → List Happening
  -- where hook calls are given nothing, none is told
  pub unanswered : hooked ≡ false → (p : Program) (log : List Loc) → answers_in (happened p log) ≡ []
  -- what of it the host was told, and what the code was asked for; where it gave nothing, it was asked for that last
  pub heard : Unless_memory result ((p : Program) (log : List Loc) → Goes_on before.told after.told (heard_in (happened p log)))
  pub asked : Unless_memory result ((p : Program) (log : List Loc) → Goes_on before.asked after.asked (asks_in (happened p log) ++ in_vain result after.counts))
  pub agrees : (files : Sources) → Extends after.sources files → given (reading form files) → (past : Past)
      → Agrees (seen (reading form files)) (in_vain result after.counts) (meaning (reading form files) (state hooked (reading form files) (awaiting past (happened (reading form files) past.log)) before)) result (state hooked (reading form files) (since past (happened (reading form files) past.log)) after)
