-- The clauses of the top call. The files are those that the store tells at entry, the texts those that the sink tells.
use Rattle.std.specs.Prelude.{◌≡◌, ◌⊎◌, ℕ, List, [], ◌∷◌, ◌++◌, Option, Some, codes}
use Rattle.qk_ast.specs.declared.Module.{Module}
use Rattle.qk_store.specs.Files.{Files}
use Rattle.qk_store.specs.Causes.{Rose}
use Rattle.qk_store.specs.Pieces.{IsPut, PutsInPart}
use Rattle.qk_meaning.specs.Value.{Text}
use Rattle.qk_meaning.specs.Item.{Event}
use Rattle.qk_meaning.specs.Output.{line}
use Rattle.qk_top.specs.Saying.{Said, said_line}
use Rattle.qk_top.specs.Answers.{RefusedScript, RefusedApplication, IsAccepted, IsOutput, Answers, IsUnderWay}

-- The headline: for an accepted application and script that were played, what is printed is the output of the run of the original module.
abbrev pub Headline : List Text → Option Files → Option Text → Option Text → ℕ → Type 0
Headline words files before after status =
    (told : Files) (m : Module) (events : List Event) → files ≡ Some told → IsAccepted words told m events → status ≡ 0 → (text : Text) × IsOutput m events text × IsPut text before after

-- Completeness: an accepted application and script are played, unless the outside failed or memory ran out.
abbrev pub Complete : List Text → Option Files → ℕ → ℕ → ℕ → ℕ → ℕ → Type 0
Complete words files store_before store_now sink_before sink_now status =
    (told : Files) (m : Module) (events : List Event) → files ≡ Some told → IsAccepted words told m events
    → ¬ Rose store_before store_now → ¬ Rose sink_before sink_now → (status ≡ 0) ⊎ (status ≡ 8)

-- What is printed: with each status but 7 its answer, whole.
abbrev pub Printed : List Text → Option Files → Option Text → Option Text → ℕ → Type 0
Printed words files before after status =
    (told : Files) → files ≡ Some told → ¬ (status ≡ 7) → (text : Text) × Answers words told status text × IsPut text before after

-- With status 7 whole blocks are printed, and a front of the piece that was under way: of the next block, or of a last line.
abbrev pub PrintedFront : List Text → Option Files → Option Text → Option Text → ℕ → Type 0
PrintedFront words files before after status =
    (told : Files) → files ≡ Some told → status ≡ 7 → (put : Text) × (piece : Text) × IsUnderWay words told put piece × PutsInPart put piece before after

-- With status 5 the cause that holds of the script is printed.
abbrev pub ScriptLine : List Text → Option Files → Option Text → Option Text → ℕ → Type 0
ScriptLine words files before after status =
    (told : Files) (kind : Text) → files ≡ Some told → RefusedScript words told kind → status ≡ 5 → IsPut (line (codes "refused " ++ kind)) before after

-- With status 2 the cause that holds of the application is printed.
abbrev pub ApplicationLine : List Text → Option Files → Option Text → Option Text → ℕ → Type 0
ApplicationLine words files before after status =
    (told : Files) (said : Said) → files ≡ Some told → RefusedApplication words told said → status ≡ 2 → IsPut (said_line said) before after

-- one of these statuses
abbrev pub IsOneOf : ℕ → List ℕ → Type 0
IsOneOf status [] = ⊥
IsOneOf status (s ∷ more) = (status ≡ s) ⊎ IsOneOf status more

-- When each answer comes: where its cause holds, no status comes but its own, 6 and 7 of the outside, and 8 of memory.
pub record Comes (words : List Text) (told : Files) (status : ℕ) : Type 0 where
  pub accepted : (m : Module) (events : List Event) → IsAccepted words told m events → IsOneOf status (0 ∷ 6 ∷ 7 ∷ 8 ∷ [])
  pub application : (said : Said) → RefusedApplication words told said → IsOneOf status (2 ∷ 6 ∷ 7 ∷ 8 ∷ [])
  pub script : (kind : Text) → RefusedScript words told kind → IsOneOf status (5 ∷ 6 ∷ 7 ∷ 8 ∷ [])
