-- What a call did, against what is done in the meaning.
use Rattle.std.specs.Prelude.{ℕ, suc, Bool, true, ◌≡◌, ◌+◌, ◌<◌, List, [], Option, Some, None, Result, Ok, Err, Vec}
use Rattle.std.specs.declared.alloc.Global.{Global}
use Rattle.qk_ast.specs.Texts.{Text, same_text}
use Rattle.qk_meaning.specs.Value as M
use Rattle.qk_meaning.specs.Value.{Site}
use Rattle.qk_meaning.specs.Doing.{Doing, Outcome, Gives, Stops, Faults, Ends, state_left}
use Rattle.qk_meaning.specs.Expansion.{Met, Nodes, Placed, joined, for_slot, slot_of, leaf, text_nodes}
use Rattle.qk_meaning.specs.Html.{nodes_count}
use Rattle.qk_value.specs.declared.value.Value.{Value}
use Rattle.qk_value.specs.declared.value.ElemTag.{ElemTag}
use Rattle.qk_value.specs.View.{seen, seen_fields, shown_by}
use Rattle.qk_value.specs.Faults.{fault_of}
use Rattle.qk_nodes.specs.declared.node.Step.{Step}
use Rattle.qk_nodes.specs.declared.node.Node.{Node}
use Rattle.qk_nodes.specs.Tree.{path_of, nodes_of}
use Rattle.qk_tree.specs.declared.visit.Stop.{Stop}

abbrev pub met_at : (Site → List Text) → List Step → ElemTag → List (Text × Value) → Met
met_at names path tag fields = record { path = path_of path; shown = shown_by tag; fields = seen_fields names fields }

-- the outcome is this one, in a state of that kind
pub record Comes_to {S A : Type 0} (stands : S → Type 0) (outcome : Outcome S A) (one : S → Outcome S A) : Type 0 where
  pub state : S
  pub stands_so : stands state
  pub is : outcome ≡ one state

-- The call gave what is given in the meaning, or stopped as it stops. Where it was refused, this holds of the state that the meaning comes to. Of want of memory nothing is said.
abbrev pub Gave : {S R : Type 0} → (stands : S → Type 0) → (refused : R → S → Type 0) → (Site → List Text) → Outcome S M.Value → Result Value (Stop R) → Type 0
Gave stands refused names outcome (Ok v) = Comes_to stands outcome (Gives (seen names v))
Gave stands refused names outcome (Err (Stop.Fault f)) = Comes_to stands outcome (Stops (Faults (fault_of f)))
Gave stands refused names outcome (Err Stop.Ended) = Comes_to stands outcome (Stops Ends)
Gave stands refused names outcome (Err (Stop.Refused why)) = refused why (state_left outcome)
Gave stands refused names outcome (Err Stop.TooMany) = ⊥
Gave stands refused names outcome (Err Stop.Memory) = Unit {0}

-- nodes that stood there before stand in front of what is given
abbrev pub behind : {S : Type 0} → Nodes → Outcome S Nodes → Outcome S Nodes
behind before (Gives nodes s) = Gives (joined before nodes) s
behind before (Stops why s) = Stops why s

-- if anything is given, it has more nodes than that
abbrev pub exceeds : {S : Type 0} → ℕ → Outcome S Nodes → Type 0
exceeds most (Gives nodes s) = most < nodes_count nodes
exceeds most (Stops why s) = Unit {0}

-- The call left the nodes that are given in the meaning, and room for as many as are missing to `most`; or it stopped as that stops; or there are more nodes than that.
-- Where a visit was refused, this holds of the state that the meaning comes to. Of want of memory nothing is said.
abbrev pub Did : {S R : Type 0} → (stands : S → Type 0) → (refused : R → S → Type 0) → (most : ℕ) → Outcome S Nodes → Result (Unit {0}) (Stop R) → Nodes → (room : ℕ) → Type 0
Did stands refused most outcome (Ok _) nodes room = Comes_to stands outcome (Gives nodes) × (room + nodes_count nodes ≡ most)
Did stands refused most outcome (Err (Stop.Fault f)) nodes room = Comes_to stands outcome (Stops (Faults (fault_of f)))
Did stands refused most outcome (Err Stop.Ended) nodes room = Comes_to stands outcome (Stops Ends)
Did stands refused most outcome (Err (Stop.Refused why)) nodes room = refused why (state_left outcome)
Did stands refused most outcome (Err Stop.TooMany) nodes room = exceeds most outcome
Did stands refused most outcome (Err Stop.Memory) nodes room = Unit {0}

-- what a call of the traversal did, in each way that is still possible and from each state that the visitor may stand for
abbrev pub Walked : {S W V R : Type 0} → (fits : W → V → Type 0) → (names : W → Site → List Text) → (stands : W → V → S → Type 0) → (refused : W → V → R → S → Type 0) → (doing : W → Doing S Nodes)
    → (v v' : V) → (out out' : List Node) → (room room' : ℕ) → Result (Unit {0}) (Stop R) → Type 0
Walked {S} {W} fits names stands refused doing v v' out out' room room' result =
    (w : W) → fits w v' → fits w v × ((s : S) → stands w v s → Did (stands w v') (refused w v') (room + nodes_count (nodes_of (names w) out)) (behind (nodes_of (names w) out) (doing w s)) result (nodes_of (names w) out') room')

-- what of a sequence is shown: what a Slot of this name shows, or all
abbrev pub among : Option Text → List Placed → List Placed
among None all = all
among (Some name) all = for_slot name all

abbrev pub is_named : Option Text → M.Value → Bool
is_named None v = true
is_named (Some name) v = same_text (slot_of v) name

abbrev pub Took : {R : Type 0} → (room room' : ℕ) → Result (Unit {0}) (Stop R) → Type 0
Took room room' (Ok _) = room ≡ suc room'
Took room room' (Err Stop.TooMany) = room ≡ 0
Took room room' (Err _) = ⊥

-- these nodes were put behind those before, where there is room; or memory ran out
abbrev pub Added : {R : Type 0} → (most : ℕ) → (before added : Nodes) → Result (Unit {0}) (Stop R) → Nodes → (room : ℕ) → Type 0
Added most before added (Ok _) nodes room = (nodes ≡ joined before added) × (room + nodes_count nodes ≡ most)
Added most before added (Err Stop.TooMany) nodes room = most < nodes_count (joined before added)
Added most before added (Err Stop.Memory) nodes room = Unit {0}
Added most before added (Err _) nodes room = ⊥

abbrev pub TextDone : {R : Type 0} → (Site → List Text) → Text → (room room' : ℕ) → (out out' : List Node) → Result (Unit {0}) (Stop R) → Type 0
TextDone names text room room' out out' result =
    Added (room + nodes_count (nodes_of names out)) (nodes_of names out) (text_nodes text) result (nodes_of names out') room'

-- what an item that takes no step shows; it changes no state
abbrev pub LeafDone : {R : Type 0} → (Site → List Text) → Value → (room room' : ℕ) → (out out' : List Node) → Result (Unit {0}) (Stop R) → Type 0
LeafDone names v room room' out out' result =
    Did {S = Unit {0}} (λ s. Unit {0}) (λ why s. ⊥) (room + nodes_count (nodes_of names out)) (behind (nodes_of names out) (leaf (seen names v) (tt {0}))) result (nodes_of names out') room'

abbrev pub without_nodes : {R : Type 0} → Result (Vec Node Global) (Stop R) → Result (Unit {0}) (Stop R)
without_nodes (Ok nodes) = Ok tt
without_nodes (Err e) = Err e

abbrev pub nodes_in : {R : Type 0} → Result (Vec Node Global) (Stop R) → List Node
nodes_in (Ok nodes) = nodes.items
nodes_in (Err e) = []

-- what an expansion of a whole application did
abbrev pub Expanded : {S W V R : Type 0} → (fits : W → V → Type 0) → (names : W → Site → List Text) → (stands : W → V → S → Type 0) → (refused : W → V → R → S → Type 0) → (doing : W → Doing S Nodes)
    → (v v' : V) → (room room' : ℕ) → Result (Vec Node Global) (Stop R) → Type 0
Expanded {S} {W} fits names stands refused doing v v' room room' result =
    (w : W) → fits w v' → fits w v × ((s : S) → stands w v s → Did (stands w v') (refused w v') room (doing w s) (without_nodes result) (nodes_of (names w) (nodes_in result)) room')
