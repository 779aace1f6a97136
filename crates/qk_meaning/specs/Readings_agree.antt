-- The statements of the simulation: two readings agree on every call, and on every item. They are proved in `qk_alike` and `qk_session_alike`.
-- They serve whole scopes against captured values, modules against built files, and a session against itself behind a pause.
use Rattle.std.specs.Prelude.{◌≡◌, ℕ, List}
use Rattle.qk_meaning.specs.Value.{Value}
use Rattle.qk_meaning.specs.World.{World}
use Rattle.qk_meaning.specs.Program.{Program}
use Rattle.qk_meaning.specs.Doing.{Outcome, Gives, Stops, Why}
use Rattle.qk_meaning.specs.Running.{Running, Mode}
use Rattle.qk_meaning.specs.Setting.{Computed_reading}
use Rattle.qk_meaning.specs.Evaluation.{entering}
use Rattle.qk_meaning.specs.Session.{Session, world_of}
use Rattle.qk_meaning.specs.Item.{Event, Block, Limits, event_item}
use Rattle.qk_meaning.specs.Ties.{Ties, Paired, Shown_as, Stands, Pairwise}
use Rattle.qk_meaning.specs.Worlds_stand.{Start, Worlds_stand}
use Rattle.qk_meaning.specs.Alike.{Reach, Running_stands, Agree}

-- under the same limits, a call of functions that stand for one another, with such arguments and from such states, comes to the same:
-- to values and states that stand for one another, or to one stop with what is left alike
abbrev pub Readings_agree : Ties → Start → Computed_reading → Program → Program → Type 0
Readings_agree t b computed one other =
    (r : Reach) (levels : ℕ) (mode : Mode) (under_way under_way' : List ℕ) (f g : Value) (arguments arguments' : List Value) (s s' : Running) →
    Pairwise (Paired t.pairing) under_way under_way' → Stands t f g → Pairwise (Stands t) arguments arguments' → Running_stands t b r s s' →
    Agree t b r (Stands t) (entering one computed levels mode under_way f arguments s) (entering other computed levels mode under_way' g arguments' s')

-- items come to one block and to worlds that stand for one another, or stop alike with the same lines
pub data Items_agree (t : Ties) : Outcome Session Block → Outcome Session Block → Type 0 where
  both_give : {block : Block} {w v : Session} → Worlds_stand t (world_of w) (world_of v) → Items_agree t (Gives block w) (Gives block v)
  both_stop : {why : Why} {w v : Session} → w.running.lines ≡ v.running.lines → Items_agree t (Stops why w) (Stops why v)

-- two readings whose applications have one component play every event alike
abbrev pub Events_agree : Ties → Program → Program → Type 0
Events_agree t one other =
    Shown_as t.sites one.app other.app → (limits : Limits) (w v : World) (e : Event) → Worlds_stand t w v → Items_agree t (event_item one limits w e) (event_item other limits v e)
