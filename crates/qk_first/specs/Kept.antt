-- The counter that is kept of a module of the first shape.
use Rattle.std.specs.Prelude.{◌≡◌, ◌≤◌, ℤ, pos, Bool, List, [], ◌∷◌, ◌++◌, Option, Some, None}
use lib.Signed.{mag}
use Rattle.std.specs.Option.{option_copied}
use Rattle.qk_ast.specs.declared.Module.{Module}
use Rattle.qk_ast.specs.declared.Jsx.{Jsx}
use Rattle.qk_ast.specs.declared.Stmt.{Stmt}
use Rattle.qk_ast.specs.First.{First_attribute, Id, On_click}
use Rattle.qk_meaning.specs.Value.{Text}
use Rattle.qk_meaning.specs.Item.{Event}
use Rattle.qk_first.specs.declared.shape.Counter.{Counter as Kept}
use Rattle.qk_first.specs.declared.shape.Signal.{Signal}
use Rattle.qk_first.specs.Counter.{Counter, counter_of, first_output}
use Rattle.qk_first.specs.Shape.{HasFirstShape, signal_of, return_of, MayStand}

abbrev pub id_among : Option Text → List First_attribute
id_among None = []
id_among (Some id) = Id id ∷ []

abbrev pub listener_among : Option Bool → List First_attribute
listener_among None = []
listener_among (Some up) = On_click up ∷ []

-- the counter that is kept
abbrev pub counter_in : Kept → Counter
counter_in kept = record { tag = kept.tag.now; attributes = id_among (option_copied kept.id) ++ listener_among kept.counts_up; initial = kept.initial; shows = kept.shows }

-- what is kept is played as this counter
pub record PlaysAs (kept : Kept) (counter : Counter) : Type 0 where
  pub printed : (events : List Event) → first_output (counter_in kept) events ≡ first_output counter events
  pub small : mag kept.initial ≤ 1000000

-- the module has the first shape, and what is kept is played as its counter
pub record IsCounterOf (kept : Kept) (m : Module) : Type 0 where
  pub shape : HasFirstShape m
  pub plays : PlaysAs kept (counter_of shape.text)

-- ---- the signal, where there is one

abbrev pub name_in : Option Signal → Option Text
name_in None = None
name_in (Some signal) = Some signal.name.now

abbrev pub initial_in : Option Signal → ℤ
initial_in None = pos 0
initial_in (Some signal) = signal.initial

abbrev pub statements_in : Option Signal → Jsx → List Stmt
statements_in None jsx = return_of jsx ∷ []
statements_in (Some signal) jsx = signal_of signal.name.now signal.initial ∷ return_of jsx ∷ []

abbrev pub SignalStands : List Text → Option Signal → Type 0
SignalStands names None = Unit {0}
SignalStands names (Some signal) = MayStand names signal.name.now signal.initial
