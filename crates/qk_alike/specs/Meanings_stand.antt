-- When what code finds stands for what other code finds: callees, meanings of roots, references, ways on, answers.
use Rattle.std.specs.Prelude.{◌≡◌, ℕ, true, List, Option, Some, None}
use Rattle.qk_meaning.specs.Value.{Text, Shown, Value}
use Rattle.qk_meaning.specs.World.{Object, Loc}
use Rattle.qk_meaning.specs.Fault.{Fault}
use Rattle.qk_meaning.specs.Operators.{Answer, Is, Fails}
use Rattle.qk_meaning.specs.Heap.{Member_read, Found, Runs, Not_there}
use Rattle.qk_meaning.specs.Writing.{Becoming, Becomes, Stays}
use Rattle.qk_meaning.specs.Program.{Root, Framework, Holds, Shows, Unknown}
use Rattle.qk_meaning.specs.Happening.{Hook_kind}
use Rattle.qk_meaning.specs.References.{Reference, Of, Member, Local, Tracker, Framework_name}
use Rattle.qk_meaning.specs.Methods.{Method, looked_up}
use Rattle.qk_meaning.specs.Calls.{Callee, A_value, A_method, The_tracker, The_dollar, The_mark, A_hook, framework_callees}
use Rattle.qk_meaning.specs.Flow.{Flow, Onward, Broke, Continued, Returned}
use Rattle.qk_meaning.specs.Ties.{Ties, Site_ties, Pairing, ties_over, Paired, Shown_as, Stands, Pairwise, Object_stands, Loc_stands}
use Rattle.qk_meaning.specs.Alike.{Reach, is_reached}

pub data Callees_stand (t : Ties) : Callee → Callee → Type 0 where
  values_called : {v w : Value} → Stands t v w → Callees_stand t (A_value v) (A_value w)
  methods_called : {m : Method} {v w : Value} → Stands t v w → Callees_stand t (A_method m v) (A_method m w)
  trackers_called : Callees_stand t The_tracker The_tracker
  dollars_called : Callees_stand t The_dollar The_dollar
  marks_called : Callees_stand t The_mark The_mark
  hooks_called : {kind : Hook_kind} → Callees_stand t (A_hook kind) (A_hook kind)

-- two names of the framework that are one thing when they are called; not `qrl`, which makes a function
pub data Found_callees (t : Ties) : Option Callee → Option Callee → Type 0 where
  no_callees : Found_callees t None None
  some_callees : {c d : Callee} → Callees_stand t c d → Found_callees t (Some c) (Some d)

abbrev pub Framework_alike : Ties → Text → Text → Type 0
Framework_alike t a b = Found_callees t (looked_up a framework_callees) (looked_up b framework_callees)

-- what roots hold is made of no address: it stands over each pairing
pub data Roots_stand (t : Site_ties) : Root → Root → Type 0 where
  framework : {a b : Text} → ((p : Pairing) → Framework_alike (ties_over t p) a b) → Roots_stand t (Framework a) (Framework b)
  holds : {v w : Value} → ((p : Pairing) → Stands (ties_over t p) v w) → Roots_stand t (Holds v) (Holds w)
  shows : {x y : Shown} → Shown_as t x y → Roots_stand t (Shows x) (Shows y)
  unknown : Roots_stand t Unknown Unknown

pub data References_stand (t : Ties) (r : Reach) : Reference → Reference → Type 0 where
  of : {v w : Value} → Stands t v w → References_stand t r (Of v) (Of w)
  member : {v w k l : Value} → Stands t v w → Stands t k l → References_stand t r (Member v k) (Member w l)
  local : {name : Text} → is_reached r name ≡ true → References_stand t r (Local name) (Local name)
  tracker : References_stand t r Tracker Tracker
  framework_name : {a b : Text} → Framework_alike t a b → References_stand t r (Framework_name a) (Framework_name b)

pub data Flows_stand (t : Ties) : Flow → Flow → Type 0 where
  onward : Flows_stand t Onward Onward
  broke : Flows_stand t Broke Broke
  continued : Flows_stand t Continued Continued
  returned : {v w : Value} → Stands t v w → Flows_stand t (Returned v) (Returned w)

pub data Both_answer {A B : Type 0} (R : A → B → Type 0) : Answer A → Answer B → Type 0 where
  is : {a : A} {b : B} → R a b → Both_answer R (Is a) (Is b)
  fails : {f : Fault} → Both_answer R (Fails f) (Fails f)

pub data Reads_stand (t : Ties) : Member_read → Member_read → Type 0 where
  both_found : {v w : Value} {l m : List Loc} → Stands t v w → Pairwise (Loc_stands t) l m → Reads_stand t (Found v l) (Found w m)
  both_run : {a b : ℕ} {v w : Value} → Paired t.pairing a b → Stands t v w → Reads_stand t (Runs a v) (Runs b w)
  not_there : {f : Fault} → Reads_stand t (Not_there f) (Not_there f)

pub data Becomings_stand (t : Ties) : Becoming → Becoming → Type 0 where
  both_become : {x y : Object} → Object_stands t x y → Becomings_stand t (Becomes x) (Becomes y)
  both_stay : {f : Fault} → Becomings_stand t (Stays f) (Stays f)
