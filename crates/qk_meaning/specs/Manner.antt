-- How items are played.
use Rattle.std.specs.Prelude.{ℕ, List, []}
use Rattle.qk_meaning.specs.Value.{Value}
use Rattle.qk_meaning.specs.Program.{Program}
use Rattle.qk_meaning.specs.Doing.{Doing}
use Rattle.qk_meaning.specs.Running.{Mode, Running}
use Rattle.qk_meaning.specs.Setting.{Computed_reading, called_anew}
use Rattle.qk_meaning.specs.Evaluation.{entering}
use Rattle.qk_meaning.specs.Expansion.{Visit}
use Rattle.qk_meaning.specs.Session.{Session}
use Rattle.qk_meaning.specs.Execution.{take_or_mount}

-- the program, how a computed is read, the levels of the budget, and what is done where a pass meets a component
pub record Manner : Type 0 where
  pub program : Program
  pub computed : Computed_reading
  pub levels : ℕ
  pub visit : Visit Session

-- every read of a computed calls its function, and a pass executes every instance that it meets
abbrev pub whole : Program → ℕ → Manner
whole program levels = record { program = program; computed = called_anew; levels = levels; visit = take_or_mount program called_anew levels }

-- a function is called by the session, with all levels of the budget
abbrev pub called_by : Manner → Mode → Value → List Value → Doing Running Value
called_by manner mode f arguments = entering manner.program manner.computed manner.levels mode [] f arguments
