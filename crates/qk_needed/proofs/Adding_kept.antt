-- A call only adds to the log and to what has happened, also where computeds are called only if they must be.
use Rattle.std.specs.Prelude.{refl, ℕ, zero, suc, ◌∷◌}
use Rattle.std.proofs.Common.{arith, []}
use Rattle.qk_meaning.specs.Value.{Value}
use Rattle.qk_meaning.specs.Program.{Program, captures_in}
use Rattle.qk_meaning.specs.Setting.{Computed_reading, called_anew}
use Rattle.qk_meaning.specs.Evaluation.{entering}
use Rattle.qk_meaning.proofs.Running_laws.{finds_reads, hook_laws}
use Rattle.qk_meaning.proofs.Meanings.{Enter_alike, Reads_alike, enters_with, calls_anew}
use Rattle.qk_meaning.proofs.Growth as Growth
use Rattle.qk_meaning.proofs.Growth.{Adding}
use Rattle.qk_needed.specs.Needed.{called_if_needed}
use Rattle.qk_needed.proofs.Needed_laws.{Kept_laws, calls_if_needed}

runs_are_kept : Kept_laws Adding
runs_are_kept =
    record {
      asks_kept = λ a s. Growth.adds_nothing s s refl refl refl (omega arith) (λ b h. refl);
      keeps = λ k s. Growth.adds_nothing s (record s { kept = k ∷ s.kept }) refl refl refl (omega arith) (λ a h. refl);
      finds = λ {m} {m'} p. finds_reads Adding Growth.trace_laws {A = Value} {m = m} {m' = m'} p;
    }

pub anew_adds : Reads_alike Adding called_anew
anew_adds = calls_anew Adding (hook_laws Adding (Growth.laws (λ site. [])) Growth.hooking_laws)

pub if_needed_adds : Reads_alike Adding called_if_needed
if_needed_adds = calls_if_needed Adding (Growth.laws (λ site. [])) (hook_laws Adding (Growth.laws (λ site. [])) Growth.hooking_laws) runs_are_kept

pub adding : (computed : Computed_reading) → Reads_alike Adding computed → (program : Program) (d : ℕ) → Enter_alike Adding (entering program computed d) (entering program computed d)
adding computed C program zero mode running f arguments = λ s. Growth.adds_nothing s s refl refl refl (omega arith) (λ a h. refl)
adding computed C program (suc d) mode running f arguments =
    enters_with Adding (Growth.laws (captures_in program)) (hook_laws Adding (Growth.laws (captures_in program)) Growth.hooking_laws) program (Growth.named (captures_in program)) computed C (entering program computed d) (entering program computed d) (adding computed C program d) mode running f arguments
