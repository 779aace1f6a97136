-- What a call comes to that is made from nothing.
use Rattle.std.specs.Prelude.{◌≡◌, ℕ, [], Result, Ok, Err}
use Rattle.qk_ast.specs.declared.Form.{Form}
use Rattle.qk_ast.specs.Texts.{Text}
use Rattle.qk_base.specs.declared.meter.Budget.{Budget}
use Rattle.qk_meaning.specs.Value as M
use Rattle.qk_meaning.specs.Program.{Program, captures_in}
use Rattle.qk_meaning.specs.Doing.{Outcome, Gives, Stops, Faults, Ends}
use Rattle.qk_meaning.specs.Running.{Mode, Running, Outside}
use Rattle.qk_meaning.specs.Setting.{called_anew}
use Rattle.qk_meaning.specs.References.{root_reference, Of}
use Rattle.qk_meaning.specs.Evaluation.{entering}
use Rattle.qk_value.specs.declared.value.Value.{Value, Fun as Function}
use Rattle.qk_value.specs.declared.value.Fun.{Fun}
use Rattle.qk_value.specs.Faults.{fault_of}
use Rattle.qk_value.specs.View.{seen}
use Rattle.qk_heap.specs.Seen.{heap_seen}
use Rattle.qk_code.specs.declared.stop.Stop.{Stop}
use Rattle.qk_code.specs.declared.stop.Stop.TheVariants as S
use Rattle.qk_code.specs.Sources.{Sources, Extends, reading}
use Rattle.qk_eval.specs.Seeing.{value_seen}
use Rattle.qk_call.specs.declared.played.Came.{Came}
use Rattle.qk_call.specs.declared.played.Ending.{Ending}
use Rattle.qk_call.specs.declared.played.Played.{Played}

-- nothing was made, read or printed, and hook calls are given nothing
abbrev pub from_nothing : ℕ → Running
from_nothing turns = record { heap = []; log = []; lines = []; turns = turns; trace = []; locals = M.end; hooking = Outside; kept = [] }

-- what a call of the function in that mode comes to, without arguments and with so many turns and levels
abbrev pub call_of : Program → (turns levels : ℕ) → Mode → M.Value → Outcome Running M.Value
call_of p turns levels mode f = entering p called_anew levels mode [] f [] (from_nothing turns)

-- the outcome that came out so, with this left
abbrev pub outcome_so : Program → Came → Running → Outcome Running M.Value
outcome_so p (Came.Value v) left = Gives (seen (captures_in p) v) left
outcome_so p (Came.Fault f) left = Stops (Faults (fault_of f)) left
outcome_so p Came.Ended left = Stops Ends left

-- what is told of a call of that function is what it comes to: how it came out, with its lines and its objects
pub record Plays (p : Program) (most : Budget) (mode : Mode) (f : M.Value) (played : Played) : Type 0 where
  pub left : Running
  pub comes : call_of p most.turns most.depth mode f ≡ outcome_so p played.came left
  pub lines : left.lines ≡ played.lines
  pub objects : left.heap ≡ heap_seen (captures_in p) played.heap

-- so it is told of the function that a name of a file's root gives
pub record PlaysNamed (p : Program) (file name : Text) (most : Budget) (mode : Mode) (played : Played) : Type 0 where
  pub f : M.Value
  pub is : root_reference (p.root file name) ≡ Of f
  pub plays : Plays p most mode f played

-- the name gives this function, whatever files come later
abbrev pub IsNamed : Form → Sources → (file name : Text) → Fun → Type 0
IsNamed form sources file name f = (later : Sources) → Extends sources later → root_reference ((reading form later).root file name) ≡ Of (value_seen (reading form later) (Function f))

-- whether it gave a value, stopped by a fault, or because the budget ended
abbrev pub ending_of : Came → Ending
ending_of (Came.Value v) = Ending.Value
ending_of (Came.Fault f) = Ending.Fault
ending_of Came.Ended = Ending.Ended

-- a call that came out so was answered by this
abbrev pub answered_by : Came → Result Value Stop
answered_by (Came.Value v) = Ok v
answered_by (Came.Fault f) = Err (S.Fault f)
answered_by Came.Ended = Err S.Ended
