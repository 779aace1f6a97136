-- When the state of a session stands for one of another reading.
use Rattle.std.specs.Prelude.{◌≡◌, []}
use Rattle.qk_meaning.specs.Doing.{Why, Outcome, Gives, Stops, Doing}
use Rattle.qk_meaning.specs.Session.{Session}
use Rattle.qk_meaning.specs.Ties.{Ties, Pairwise}
use Rattle.qk_meaning.specs.Worlds_stand.{Start, Instances_stand}
use Rattle.qk_meaning.specs.Alike.{Reach, Left_stands, Running_stands}

-- between calls no names are in reach
abbrev pub nowhere : Reach
nowhere = record { own = []; free = []; captured = [] }

pub record Sessions_stand (t : Ties) (b : Start) (w v : Session) : Type 0 where
  pub running : Running_stands t b nowhere w.running v.running
  pub instances : Pairwise (Instances_stand t b) w.instances v.instances
  pub executed : Pairwise (Instances_stand t b) w.executed v.executed
  pub mounted : w.mounted ≡ v.mounted

pub data Sessions_agree (t : Ties) (b : Start) {A B : Type 0} (R : A → B → Type 0) : Outcome Session A → Outcome Session B → Type 0 where
  both_give : {x : A} {y : B} {w v : Session} → R x y → Sessions_stand t b w v → Sessions_agree t b R (Gives x w) (Gives y v)
  both_stop : {why : Why} {w v : Session} → Left_stands t b w.running v.running → Sessions_agree t b R (Stops why w) (Stops why v)

abbrev pub Session_doings : Ties → Start → (A B : Type 0) → (A → B → Type 0) → Doing Session A → Doing Session B → Type 0
Session_doings t b A B R m m' = (w v : Session) → Sessions_stand t b w v → Sessions_agree t b R (m w) (m' v)
