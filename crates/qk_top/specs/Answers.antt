-- What the program answers: each status with its cause, and with all that is printed.
use Rattle.std.specs.Prelude.{◌≡◌, ℕ, suc, List, [], ◌∷◌, ◌++◌, Some, None, Ok, Err, take, codes, map}
use Rattle.qk_ast.specs.declared.Module.{Module}
use Rattle.qk_first.specs.Shape.{HasFirstShape}
use Rattle.qk_store.specs.Files.{Files}
use Rattle.qk_meaning.specs.Value.{Text}
use Rattle.qk_meaning.specs.Item.{Event}
use Rattle.qk_meaning.specs.Run.{Happens, Entry, Run}
use Rattle.qk_meaning.specs.Output.{line, output}
use Rattle.qk_first.specs.Laws.{application_of}
use Rattle.qk_top.specs.Words.{IsReplay}
use Rattle.qk_top.specs.Script.{SpellsEvents, RefusedText}
use Rattle.qk_application.specs.declared.application.Application.{Application}
use Rattle.qk_application.specs.declared.fault.ApplicationFault.{ApplicationFault}
use Rattle.qk_application.specs.Accepting.{AcceptsOver}
use Rattle.qk_top.specs.Saying.{Said, of_root, said_of, said_line}

-- the words are no command
abbrev pub IsUsage : List Text → Type 0
IsUsage words = (script : Text) → ¬ IsReplay words script

-- the words are `replay` and the name of a file that is a script of these events
pub record Plays (words : List Text) (told : Files) (events : List Event) : Type 0 where
  pub script : Text
  pub text : Text
  pub command : IsReplay words script
  pub stands : told script ≡ Some text
  pub spells : SpellsEvents text events

-- the script is refused as this
pub data RefusedScript (words : List Text) (told : Files) : Text → Type 0 where
  gone_script : {script : Text} → IsReplay words script → told script ≡ None → RefusedScript words told (codes "ScriptMissing")
  refused_script : {script text kind : Text} → IsReplay words script → told script ≡ Some text → RefusedText text kind → RefusedScript words told kind

-- ---- the application

-- it has one module, which is this and has the first shape
pub record IsPlayed (application : Application) (m : Module) : Type 0 where
  pub alone : map (λ n. n.module) application.modules.list ≡ m ∷ []
  pub shape : HasFirstShape m

-- the application is accepted by all rules, and is this one module
pub record IsAccepted (words : List Text) (told : Files) (m : Module) (events : List Event) : Type 0 where
  pub plays : Plays words told events
  pub application : Application
  pub accepted : AcceptsOver told (Ok application)
  pub one : IsPlayed application m

-- the application of these files is refused, and this is said of it
pub data Refuses (told : Files) : Said → Type 0 where
  refused : {fault : ApplicationFault} {said : Said} → AcceptsOver told (Err fault) → said_of fault ≡ Some said → Refuses told said
  -- all rules accept it, and it is none that is played yet
  not_built : {application : Application} → AcceptsOver told (Ok application) → ((m : Module) → ¬ IsPlayed application m) → Refuses told (of_root (codes "NotBuilt"))

-- a script is played, and the application is refused
pub record RefusedApplication (words : List Text) (told : Files) (said : Said) : Type 0 where
  pub events : List Event
  pub plays : Plays words told events
  pub refuses : Refuses told said

-- what is printed of the run of the original module
pub record IsOutput (m : Module) (events : List Event) (text : Text) : Type 0 where
  pub entries : List Entry
  pub run : Run (application_of m) (λ w. w) (map Happens events) entries
  pub printed : text ≡ output (application_of m) entries

-- the first n blocks that are printed of that run, whole
pub record IsBlocks (m : Module) (events : List Event) (n : ℕ) (text : Text) : Type 0 where
  pub entries : List Entry
  pub run : Run (application_of m) (λ w. w) (map Happens events) entries
  pub printed : text ≡ output (application_of m) (take n entries)

-- whole blocks of what is printed where the command is accepted, or nothing
pub data IsFront (words : List Text) (told : Files) : Text → Type 0 where
  nothing : IsFront words told []
  begun : {m : Module} {events : List Event} {text : Text} (n : ℕ) → IsAccepted words told m events → IsBlocks m events n text → IsFront words told text

-- each status with its cause and all that is printed
pub data Answers (words : List Text) (told : Files) : ℕ → Text → Type 0 where
  played : {m : Module} {events : List Event} {text : Text} → IsAccepted words told m events → IsOutput m events text → Answers words told 0 text
  usage : IsUsage words → Answers words told 1 (line (codes "usage"))
  application : {said : Said} → RefusedApplication words told said → Answers words told 2 (said_line said)
  script : {kind : Text} → RefusedScript words told kind → Answers words told 5 (line (codes "refused " ++ kind))
  store_failed : Answers words told 6 (line (codes "store failed"))
  -- want of memory: whole blocks of what would have been played, then the last line or nothing
  memory : {front : Text} → IsFront words told front → Answers words told 8 (front ++ line (codes "memory"))
  memory_alone : {front : Text} → IsFront words told front → Answers words told 8 front

-- the piece that is under way behind what was put whole: the next block, or a last line
pub data IsUnderWay (words : List Text) (told : Files) : (put piece : Text) → Type 0 where
  block : {m : Module} {events : List Event} {n : ℕ} {put piece : Text} → IsAccepted words told m events → IsBlocks m events n put → IsBlocks m events (suc n) (put ++ piece) → IsUnderWay words told put piece
  refusal : {status : ℕ} {piece : Text} → Answers words told status piece → ¬ (status ≡ 0) → ¬ (status ≡ 8) → IsUnderWay words told [] piece
  want : {put : Text} → IsFront words told put → IsUnderWay words told put (line (codes "memory"))
