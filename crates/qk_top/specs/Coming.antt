-- What comes of a command, as far as the store tells its files.
use Rattle.std.specs.Prelude.{◌≡◌, ◌⊎◌, ℕ, suc, List, ◌++◌, Option, Result, Ok, Err}
use Rattle.qk_ast.specs.declared.Module.{Module}
use Rattle.qk_application.specs.declared.application.Application.{Application}
use Rattle.qk_application.specs.Accepting.{AcceptsOver}
use Rattle.qk_store.specs.Files.{Files}
use Rattle.qk_store.specs.Pieces.{IsPut, PutsInPart}
use Rattle.qk_meaning.specs.Value.{Text}
use Rattle.qk_meaning.specs.Item.{Event}
use Rattle.qk_top.specs.declared.stop.Stop.{Stop}
use Rattle.qk_top.specs.declared.stop.Stop.TheVariants as stop
use Rattle.qk_top.specs.Answers.{IsUsage, RefusedScript, Refuses, RefusedApplication, IsPlayed, IsAccepted, IsOutput, IsBlocks}
use Rattle.qk_top.specs.Refusals.{said_by}
use Rattle.qk_top.specs.Stops.{script_kind}

-- all rules accept the application, and this is what is printed of it
pub record ApplicationPlays (told : Files) (events : List Event) (text : Text) : Type 0 where
  pub m : Module
  pub application : Application
  pub accepted : AcceptsOver told (Ok application)
  pub one : IsPlayed application m
  pub printed : IsOutput m events text

-- all rules accept the application, and it is this module
pub record ApplicationIs (told : Files) (m : Module) : Type 0 where
  pub application : Application
  pub accepted : AcceptsOver told (Ok application)
  pub one : IsPlayed application m

-- whole blocks of its run were put
pub record PutsBlocks (m : Module) (events : List Event) (before after : Option Text) : Type 0 where
  pub n : ℕ
  pub text : Text
  pub blocks : IsBlocks m events n text
  pub put : IsPut text before after

-- whole blocks of its run were put, and a part of the next one
pub record PutsPartOfBlock (m : Module) (events : List Event) (before after : Option Text) : Type 0 where
  pub n : ℕ
  pub text : Text
  pub piece : Text
  pub blocks : IsBlocks m events n text
  pub next : IsBlocks m events (suc n) (text ++ piece)
  pub put : PutsInPart text piece before after

-- what comes of the application where a script has these events
abbrev pub EventsCome : Files → List Event → Option Text → Option Text → Result (Unit {0}) Stop → Type 0
EventsCome told events before after (Ok _) = (text : Text) × ApplicationPlays told events text × IsPut text before after
EventsCome told events before after (Err (stop.Application refusal)) = Refuses told (said_by refusal) × (after ≡ before)
EventsCome told events before after (Err stop.StoreFailed) = after ≡ before
EventsCome told events before after (Err stop.SinkFailed) = (m : Module) × ApplicationIs told m × PutsPartOfBlock m events before after
EventsCome told events before after (Err stop.Memory) = (after ≡ before) ⊎ ((m : Module) × ApplicationIs told m × PutsBlocks m events before after)
EventsCome told events before after (Err _) = ⊥

-- the command is accepted, and this is what is printed
pub record CommandPlays (words : List Text) (told : Files) (text : Text) : Type 0 where
  pub m : Module
  pub events : List Event
  pub accepted : IsAccepted words told m events
  pub printed : IsOutput m events text

-- what comes of the words
abbrev pub CommandComes : List Text → Files → Option Text → Option Text → Result (Unit {0}) Stop → Type 0
CommandComes words told before after (Ok _) = (text : Text) × CommandPlays words told text × IsPut text before after
CommandComes words told before after (Err stop.Usage) = IsUsage words × (after ≡ before)
CommandComes words told before after (Err (stop.Script kind)) = RefusedScript words told (script_kind kind) × (after ≡ before)
CommandComes words told before after (Err (stop.Application refusal)) = RefusedApplication words told (said_by refusal) × (after ≡ before)
CommandComes words told before after (Err stop.StoreFailed) = after ≡ before
CommandComes words told before after (Err stop.SinkFailed) = (m : Module) × (events : List Event) × IsAccepted words told m events × PutsPartOfBlock m events before after
CommandComes words told before after (Err stop.Memory) = (after ≡ before) ⊎ ((m : Module) × (events : List Event) × IsAccepted words told m events × PutsBlocks m events before after)
