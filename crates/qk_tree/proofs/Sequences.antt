-- Steps of a sequence, against what is done in the meaning.
use Rattle.std.specs.Prelude.{◌≡◌, refl, ℕ, ◌+◌, ◌<◌, ◌≤◌, Bool, true, false, List, [], ◌∷◌, Option, Some, None, Result, Ok, Err, drop, length, cond}
use Rattle.std.proofs.Common.{sym, ◌∙◌, ap, subst, arith, get_or, drop-cons, add-one}
use Rattle.std.proofs.lemmas.Grind.{common_steps}
use Rattle.qk_ast.specs.Texts.{Text}
use Rattle.qk_meaning.specs.Value as M
use Rattle.qk_meaning.specs.Value.{Site}
use Rattle.qk_meaning.specs.World.{Place}
use Rattle.qk_meaning.specs.Markup.{key_of}
use Rattle.qk_meaning.specs.Doing.{Doing, Outcome, Gives, Stops, Why, Faults, Ends, give, after, state_left}
use Rattle.qk_meaning.specs.Expansion.{Nodes, no_nodes, node, Placed, joined, in_order, placed_item, placed_from}
use Rattle.qk_meaning.specs.Html.{nodes_count}
use Rattle.qk_value.specs.declared.value.Value as program
use Rattle.qk_value.specs.View.{seen, seen_all}
use Rattle.qk_value.specs.Faults.{fault_of}
use Rattle.qk_nodes.proofs.Seeing.{joined-assoc, joined-none}
use Rattle.qk_tree.specs.declared.visit.Stop.{Stop}
use Rattle.qk_tree.specs.Doings.{behind, exceeds, Comes_to, Did, among, is_named}
use Rattle.qk_tree.proofs.Keeping.{in_orders}

pub counts : (a b : Nodes) → nodes_count (joined a b) ≡ nodes_count a + nodes_count b
counts no_nodes b = omega arith
counts (node m a) b = omega (arith, counts a b)

-- what is done next, behind the nodes so far
pub resumed : {S : Type 0} → Doing S Nodes → Outcome S Nodes → Outcome S Nodes
resumed rest (Gives now s) = behind now (rest s)
resumed rest (Stops why s) = Stops why s

-- the sequence of two, as in_order has it
abbrev pub two : {S : Type 0} → Outcome S Nodes → Doing S Nodes → Outcome S Nodes
two o rest = after o (λ first s. after (rest s) (λ others. give (joined first others)))

shift : {S : Type 0} (before ns : Nodes) (r : Outcome S Nodes) → behind before (after r (λ others. give (joined ns others))) ≡ behind (joined before ns) r
shift before ns (Gives others s) = ap (λ all. Gives all s) (sym (joined-assoc before ns others))
shift before ns (Stops why s) = refl

pub sequel : {S : Type 0} (before : Nodes) (o : Outcome S Nodes) (rest : Doing S Nodes) → behind before (two o rest) ≡ resumed rest (behind before o)
unfolding resumed
sequel before (Gives ns s) rest = shift before ns (rest s)
sequel before (Stops why s) rest = refl

grows : {S : Type 0} (most : ℕ) (now : Nodes) (r : Outcome S Nodes) → most < nodes_count now → exceeds most (behind now r)
grows most now (Gives ns s) h = omega (arith, counts now ns)
grows most now (Stops why s) h = tt

still_exceeds : {S : Type 0} (most : ℕ) (rest : Doing S Nodes) (x : Outcome S Nodes) → exceeds most x → exceeds most (resumed rest x)
unfolding resumed
still_exceeds most rest (Gives now s) h = grows most now (rest s) h
still_exceeds most rest (Stops why s) h = tt

pub left_behind : {S : Type 0} (P : S → Type 0) (before : Nodes) (r : Outcome S Nodes) → P (state_left r) → P (state_left (behind before r))
left_behind P before (Gives ns s) h = h
left_behind P before (Stops why s) h = h

still_left : {S : Type 0} (P : S → Type 0) (rest : Doing S Nodes) → ((s : S) → P s → P (state_left (rest s))) → (x : Outcome S Nodes) → P (state_left x) → P (state_left (resumed rest x))
unfolding resumed
still_left P rest keeps (Gives now s) h = left_behind P now (rest s) (keeps s h)
still_left P rest keeps (Stops why s) h = h

stopped_still : {S : Type 0} (stands : S → Type 0) (rest : Doing S Nodes) (x : Outcome S Nodes) (why : Why) → Comes_to stands x (Stops why) → Comes_to stands (resumed rest x) (Stops why)
unfolding resumed
stopped_still stands rest x why h = record { state = h.state; stands_so = h.stands_so; is = ap (resumed rest) h.is }

-- where the first of two stops, both stop
pub stays : {S R : Type 0} (stands : S → Type 0) (refused : R → S → Type 0) (most : ℕ) (rest : Doing S Nodes) → ((why : R) (s : S) → refused why s → refused why (state_left (rest s))) → (x : Outcome S Nodes) (e : Stop R) (nodes nodes' : Nodes) (room room' : ℕ)
    → Did stands refused most x (Err e) nodes room → Did stands refused most (resumed rest x) (Err e) nodes' room'
stays stands refused most rest keeps x (Stop.Fault f) nodes nodes' room room' h = stopped_still stands rest x (Faults (fault_of f)) h
stays stands refused most rest keeps x Stop.Ended nodes nodes' room room' h = stopped_still stands rest x Ends h
stays stands refused most rest keeps x (Stop.Refused why) nodes nodes' room room' h = still_left (refused why) rest (keeps why) x h
stays stands refused most rest keeps x Stop.TooMany nodes nodes' room room' h = still_exceeds most rest x h
stays stands refused most rest keeps x Stop.Memory nodes nodes' room room' h = tt

-- ---- sequences

among-cons : (only : Option Text) (p : Placed) (rest : List Placed) (b : Bool) → b ≡ is_named only p.value
    → among only (p ∷ rest) ≡ cond b (p ∷ among only rest) (among only rest)
among-cons None p rest b e = ap (λ t. cond t (p ∷ rest) rest) (sym e)
among-cons (Some name) p rest b e = ap (λ t. cond t (p ∷ among (Some name) rest) (among (Some name) rest)) (sym e)

-- what is left to do of a sequence, from this place on
abbrev pub to_do : {S : Type 0} → (Place → M.Value → Doing S Nodes) → Option Text → ℕ → M.Values → Doing S Nodes
to_do one only n values = in_order one (among only (placed_from n values))

-- what comes of a sequence is what came so far with what is left to do
pub record Goes {S : Type 0} (stands : S → Type 0) (most : ℕ) (whole : Outcome S Nodes) (now : Nodes) (room : ℕ) (left : Doing S Nodes) : Type 0 where
  pub state : S
  pub stands_so : stands state
  pub is : whole ≡ behind now (left state)
  pub room_is : room + nodes_count now ≡ most

nothing_to_do : {S : Type 0} (one : Place → M.Value → Doing S Nodes) (only : Option Text) (n : ℕ) → to_do one only n M.none ≡ give no_nodes
nothing_to_do one None n = refl
nothing_to_do one (Some name) n = refl

module _ {S R : Type 0} (stands : S → Type 0) (refused : R → S → Type 0) (one : Place → M.Value → Doing S Nodes) (only : Option Text) where
  -- an item that isn't shown
  pub skips : (most : ℕ) (whole : Outcome S Nodes) (now : Nodes) (room n n' : ℕ) (values : M.Values) (v : M.Value) (rest : M.Values) (p : Place) → values ≡ M.item v rest
      → placed_item (key_of v) n v (λ m. placed_from m rest) ≡ record { place = p; value = v } ∷ placed_from n' rest → false ≡ is_named only v
      → Goes stands most whole now room (to_do one only n values) → Goes stands most whole now room (to_do one only n' rest)
  skips most whole now room n n' values v rest p is at hides h = record {
    state = h.state;
    stands_so = h.stands_so;
    is = h.is ∙ ap (λ vs. behind now (to_do one only n vs h.state)) is ∙ ap (λ all. behind now (in_order one (among only all) h.state)) at ∙ ap (λ all. behind now (in_order one all h.state)) (among-cons only _ _ false hides);
    room_is = h.room_is;
  }

  -- with an item that is shown, what comes of the sequence is what comes of the item, and the rest behind it
  splits : (whole : Outcome S Nodes) (now : Nodes) (n n' : ℕ) (values : M.Values) (v : M.Value) (rest : M.Values) (p : Place) (s : S) → values ≡ M.item v rest
      → placed_item (key_of v) n v (λ m. placed_from m rest) ≡ record { place = p; value = v } ∷ placed_from n' rest → true ≡ is_named only v
      → (one' : Place → M.Value → Doing S Nodes) → one' ≡ one → whole ≡ behind now (to_do one only n values s)
      → whole ≡ resumed (to_do one only n' rest) (behind now (one' p v s))
  splits whole now n n' values v rest p s is at shows one' alike h =
      h ∙ ap (λ vs. behind now (to_do one only n vs s)) is ∙ ap (λ all. behind now (in_order one (among only all) s)) at ∙ ap (λ all. behind now (in_order one all s)) (among-cons only _ _ true shows)
      ∙ sequel now (one p v s) (to_do one only n' rest) ∙ ap (λ f. resumed (to_do one only n' rest) (behind now (f p v s))) (sym alike)

  -- it goes on behind the item
  pub goes_on : (stands' : S → Type 0) (most : ℕ) (whole : Outcome S Nodes) (now now' : Nodes) (room room' n n' : ℕ) (values : M.Values) (v : M.Value) (rest : M.Values) (p : Place) → values ≡ M.item v rest
      → placed_item (key_of v) n v (λ m. placed_from m rest) ≡ record { place = p; value = v } ∷ placed_from n' rest → true ≡ is_named only v
      → (one' : Place → M.Value → Doing S Nodes) → one' ≡ one
      → (h : Goes stands' most whole now room (to_do one only n values)) → Did stands refused (room + nodes_count now) (behind now (one' p v h.state)) (Ok tt) now' room'
      → Goes stands most whole now' room' (to_do one only n' rest)
  unfolding resumed
  goes_on stands' most whole now now' room room' n n' values v rest p is at shows one' alike h did = record {
    state = did.0.state;
    stands_so = did.0.stands_so;
    is = splits whole now n n' values v rest p h.state is at shows one' alike h.is ∙ ap (resumed (to_do one only n' rest)) did.0.is;
    room_is = did.1 ∙ h.room_is;
  }

  -- it stops at the item
  pub stops_at : ((why : R) (place : Place) (v : M.Value) (s : S) → refused why s → refused why (state_left (one place v s))) → (stands' : S → Type 0) (most : ℕ) (whole : Outcome S Nodes) (now now' : Nodes) (room room' n n' : ℕ) (values : M.Values) (v : M.Value) (rest : M.Values) (p : Place) (e : Stop R) (r : Result (Unit {0}) (Stop R)) → r ≡ Err e → values ≡ M.item v rest
      → placed_item (key_of v) n v (λ m. placed_from m rest) ≡ record { place = p; value = v } ∷ placed_from n' rest → true ≡ is_named only v
      → (one' : Place → M.Value → Doing S Nodes) → one' ≡ one
      → (h : Goes stands' most whole now room (to_do one only n values)) → Did stands refused (room + nodes_count now) (behind now (one' p v h.state)) (Err e) now' room'
      → Did stands refused most whole r now' room'
  stops_at keeps stands' most whole now now' room room' n n' values v rest p e r failed is at shows one' alike h did =
      subst (λ q. Did stands refused most whole q now' room') (sym failed)
      (subst (λ x. Did stands refused most x (Err e) now' room') (sym (splits whole now n n' values v rest p h.state is at shows one' alike h.is))
      (stays stands refused most (to_do one only n' rest) (λ why. in_orders (refused why) one (keeps why) (among only (placed_from n' rest))) (behind now (one' p v h.state)) e now' now' room' room'
      (subst (λ m. Did stands refused m (behind now (one' p v h.state)) (Err e) now' room') h.room_is did)))

  -- the end
  pub ends : (most : ℕ) (whole : Outcome S Nodes) (now : Nodes) (room n : ℕ) (values : M.Values) → values ≡ M.none
      → Goes stands most whole now room (to_do one only n values) → Did stands refused most whole (Ok tt) now room
  ends most whole now room n values none h = (
    record {
      state = h.state;
      stands_so = h.stands_so;
      is = h.is ∙ ap (λ vs. behind now (to_do one only n vs h.state)) none ∙ ap (λ all. behind now (all h.state)) (nothing_to_do one only n) ∙ ap (λ all. Gives all h.state) (joined-none now);
    },
    h.room_is,
  )

pub next_item : (names : Site → List Text) (vs : List program.Value) (k : ℕ) (v : program.Value) → k < length vs → v ≡ get_or vs k v
    → seen_all names (drop k vs) ≡ M.item (seen names v) (seen_all names (drop (k + 1) vs))
next_item names vs k v h e =
    let d : drop k vs ≡ get_or vs k v ∷ drop (k + 1) vs = rw (add-one, drop-cons vs k v) refl in
    ap (seen_all names) d ∙ ap (λ w. M.item (seen names w) (seen_all names (drop (k + 1) vs))) (sym e)

pub none_left : (names : Site → List Text) (vs : List program.Value) (k : ℕ) → length vs ≤ k → seen_all names (drop k vs) ≡ M.none
none_left names vs k h = let d : drop k vs ≡ [] = grind (arith, common_steps) in ap (seen_all names) d
