-- The setting of the code that runs.
use Rattle.std.specs.Prelude.{ℕ, List, [], ◌∷◌}
use Rattle.qk_meaning.specs.Program.{Program}
use Rattle.qk_meaning.specs.Setting.{Setting, Computed_reading, setting_of, called_anew}
use Rattle.qk_meaning.specs.Evaluation.{entering}
use Rattle.qk_value.specs.declared.value.Addr.{Addr}
use Rattle.qk_code.specs.declared.func.Func.{Func}
use Rattle.qk_code.specs.declared.mode.Mode.{Mode}
use Rattle.qk_code.specs.Modes.{mode_seen}
use Rattle.qk_code.specs.Standing.{code_of, Knows}
use Rattle.qk_eval.specs.declared.here.Here.{Here}

abbrev pub addresses : List Addr → List ℕ
addresses [] = []
addresses (a ∷ rest) = a.0 ∷ addresses rest

-- how a computed is read
abbrev pub computed : Computed_reading
computed = called_anew

-- the setting of a function that runs so
abbrev pub setting_so : Func → Mode → List Addr → ℕ → Program → Setting
setting_so f mode running levels p = setting_of p computed (entering p computed levels) (mode_seen mode) (addresses running) (code_of f)

abbrev pub setting : Here → Program → Setting
setting here = setting_so here.func.now here.mode here.running.now here.levels

-- what is known of the program there
abbrev pub known : Here → Program → Type 0
known here p = Knows p here.func.now
