-- Why a command ends before all is done: the status, the last line, and what shows it.
use Rattle.std.specs.Prelude.{◌≡◌, ◌≤◌, ℕ, [], ◌++◌, Option, Result, IsErrOf, codes}
use Rattle.qk_store.specs.Causes.{Rose}
use Rattle.qk_store.specs.Pieces.{IsPut, AppendsFront}
use Rattle.qk_meaning.specs.Value.{Text}
use Rattle.qk_meaning.specs.Output.{line}
use Rattle.qk_top.specs.Decimals.{count_text}
use Rattle.qk_top.specs.Saying.{said_line}
use Rattle.qk_top.specs.Refusals.{said_by}
use Rattle.qk_top.specs.declared.stop.ScriptRefusal.{ScriptRefusal}
use Rattle.qk_top.specs.declared.stop.ScriptRefusal.TheVariants as script
use Rattle.qk_top.specs.declared.stop.Stop.{Stop}
use Rattle.qk_top.specs.declared.stop.Stop.TheVariants.{Usage, Script, Application, StoreFailed, SinkFailed, Memory}

abbrev pub script_kind : ScriptRefusal → Text
script_kind script.Missing = codes "ScriptMissing"
script_kind script.TooLong = codes "ScriptTooLong"
script_kind script.NotUtf8 = codes "ScriptNotUtf8"
script_kind (script.Line number) = codes "ScriptLine " ++ count_text number
script_kind script.TooMany = codes "ScriptTooMany"
script_kind script.NotBuilt = codes "NotBuilt"

abbrev pub status_of : Stop → ℕ
status_of Usage = 1
status_of (Application _) = 2
status_of (Script _) = 5
status_of StoreFailed = 6
status_of SinkFailed = 7
status_of Memory = 8

abbrev pub last_line_of : Stop → Text
last_line_of Usage = line (codes "usage")
last_line_of (Application refusal) = said_line (said_by refusal)
last_line_of (Script kind) = line (codes "refused " ++ script_kind kind)
last_line_of StoreFailed = line (codes "store failed")
last_line_of SinkFailed = []
last_line_of Memory = line (codes "memory")

-- of one object that counts its faults: the command ends for it only where the count rose, and else the count stays
pub record EndsForFaults {T : Type 0} (stop : Stop) (before now : ℕ) (result : Result T Stop) : Type 0 where
  pub later : before ≤ now
  pub failed : IsErrOf result stop → Rose before now
  pub kept : ¬ IsErrOf result stop → now ≡ before

-- the last line is put: whole, or in part because the sink failed, or not at all for want of memory
pub data PutsLastLine (stop : Stop) (before after : Option Text) (faults_before faults_now status : ℕ) : Type 0 where
  whole : status ≡ status_of stop → IsPut (last_line_of stop) before after → faults_now ≡ faults_before → PutsLastLine stop before after faults_before faults_now status
  in_part : status ≡ 7 → AppendsFront (last_line_of stop) before after → Rose faults_before faults_now → faults_before ≤ faults_now → PutsLastLine stop before after faults_before faults_now status
  in_want : status ≡ 8 → after ≡ before → faults_now ≡ faults_before → PutsLastLine stop before after faults_before faults_now status

-- a command that ends before all is done puts its last line, but where the sink failed
abbrev pub Finishes : Stop → Option Text → Option Text → ℕ → ℕ → ℕ → Type 0
Finishes SinkFailed before after faults_before faults_now status = (status ≡ 7) × (after ≡ before) × (faults_now ≡ faults_before)
Finishes stop before after faults_before faults_now status = PutsLastLine stop before after faults_before faults_now status
