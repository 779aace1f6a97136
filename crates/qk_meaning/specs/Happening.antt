-- What a trace tells of a running program, in order: all that its surroundings can see of it.
use Rattle.std.specs.Prelude.{ℕ, List}
use Rattle.qk_meaning.specs.Value.{Text, Site, Value}
use Rattle.qk_meaning.specs.World.{Object, Loc, Read}
use Rattle.qk_meaning.specs.Fault.{Fault}

-- an arrow that is entered: by its site, or by its symbol
pub data Which : Type 0 where
  At_site : Site → Which
  Of_symbol : Text → Which

-- a part of an execution that is told of apart: a task, or the arrow of `track`
pub data Part : Type 0 where
  The_task The_track : Part

-- the hooks that a component may call
pub data Hook_kind : Type 0 where
  Signal_hook Store_hook Computed_hook Task_hook Provider_hook Context_hook : Hook_kind

-- the answer to a hook call: a value, a task's function that is to run there, nothing, or a fault
pub data Hook_answer : Type 0 where
  Gives_value : Value → Hook_answer
  Runs_task : Value → Hook_answer
  Gives_nothing : Hook_answer
  Refuses : Fault → Hook_answer

-- an answer, with the objects that were made for it, in order
pub record Answered : Type 0 where
  pub answer : Hook_answer
  pub made : List Object

pub data Happening : Type 0 where
  -- a location is read
  Did_read : Read → Happening
  -- an object is written, deleted from, or changed by an array call, also where nothing changes in the end; what changes is told behind it
  Did_act : ℕ → Happening
  -- a location changes, and is logged
  Did_log : Loc → Happening
  -- a console line
  Did_print : Text → Happening
  -- an arrow is entered
  Entered : Which → Happening
  -- a name of the root of a file is used; not one of the framework
  Used : Text → Text → Happening
  -- a part begins, and is left
  Began : Part → Happening
  Left : Part → Happening
  -- a hook is called with these arguments, and answered
  Hooked : Hook_kind → List Value → Answered → Happening
  -- the function of a computed is called, and gives this value
  Computing : ℕ → Happening
  Computed_so : ℕ → Value → Happening
  -- a computed isn't called: the value of an earlier run is taken, and counts as what that run read
  Took : ℕ → Value → List Read → Happening
