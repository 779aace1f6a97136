-- The laws of sessions: items and scripts agree.
use Rattle.std.specs.Prelude.{List, []}
use Rattle.qk_meaning.specs.Value.{Text}
use Rattle.qk_meaning.specs.World.{World}
use Rattle.qk_meaning.specs.Fault.{Fault}
use Rattle.qk_meaning.specs.Program.{Program}
use Rattle.qk_meaning.specs.Item.{Block, Limits, first_item}
use Rattle.qk_meaning.specs.Run.{Line, Entry, Played, Paused, Faulted, Ended, Run, plays}
use Rattle.qk_meaning.specs.Ties.{Ties, Apart, Shown_as, Pairwise}
use Rattle.qk_meaning.specs.Worlds_stand.{Heaps_stand, Worlds_stand}
use Rattle.qk_meaning.specs.Readings_agree.{Items_agree, Events_agree}
use Rattle.qk_alike.specs.Code_stands.{Programs_stand}
use Rattle.qk_session_alike.specs.Trees_stand.{Named_alike}

-- programs whose functions stand for one another play every event alike: to one block, and to worlds that stand for one another
abbrev pub EventsAgree : Type 0
EventsAgree = (t : Ties) (one other : Program) → Apart t → Programs_stand one other t.sites → Named_alike t.sites → Events_agree t one other

-- and so the first render, where the first objects will be pairs
abbrev pub FirstRendersAgree : Type 0
FirstRendersAgree =
    (t : Ties) (one other : Program) → Apart t → Programs_stand one other t.sites → Named_alike t.sites → Shown_as t.sites one.app other.app → Heaps_stand t [] [] → (limits : Limits) →
    Items_agree t (first_item one limits) (first_item other limits)

-- what is shown of an item is the same, and the worlds behind it stand for one another
pub data Entries_stand (t : Ties) : Entry → Entry → Type 0 where
  both_played : {block : Block} {w v : World} → Worlds_stand t w v → Entries_stand t (Played block w) (Played block v)
  both_paused : {w v : World} → Worlds_stand t w v → Entries_stand t (Paused w) (Paused v)
  both_faulted : {f : Fault} {lines : List Text} → Entries_stand t (Faulted f lines) (Faulted f lines)
  both_ended : Entries_stand t Ended Ended

-- what pauses leave stands for one another
abbrev pub Leaves_alike : Ties → (World → World) → (World → World) → Type 0
Leaves_alike t leaves leaves' = (w v : World) → Worlds_stand t w v → Worlds_stand t (leaves w) (leaves' v)

-- and so every script shows the same, at the same limits, up to the first fault or end
abbrev pub ScriptsAgree : Type 0
ScriptsAgree =
    (t : Ties) (one other : Program) → Apart t → Programs_stand one other t.sites → Named_alike t.sites → Shown_as t.sites one.app other.app → Heaps_stand t [] [] →
    (leaves leaves' : World → World) → Leaves_alike t leaves leaves' → (limits : Limits) (script : List Line) →
    Pairwise (Entries_stand t) (plays one leaves limits script) (plays other leaves' limits script)

-- a run of the other program that shows the same
pub record Other_run (t : Ties) (other : Program) (leaves : World → World) (script : List Line) (entries : List Entry) : Type 0 where
  pub others : List Entry
  pub run : Run other leaves script others
  pub alike : Pairwise (Entries_stand t) entries others

-- and so each run of the one has such a run of the other, whatever the limits
abbrev pub RunsAgree : Type 0
RunsAgree =
    (t : Ties) (one other : Program) → Apart t → Programs_stand one other t.sites → Named_alike t.sites → Shown_as t.sites one.app other.app → Heaps_stand t [] [] →
    (leaves leaves' : World → World) → Leaves_alike t leaves leaves' → (script : List Line) (entries : List Entry) → Run one leaves script entries → Other_run t other leaves' script entries
