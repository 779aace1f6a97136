-- Texts, the limit on paths, and nodes that are put around others, against what is done in the meaning.
use Rattle.std.specs.Prelude.{◌≡◌, refl, ℕ, zero, suc, ◌+◌, ◌-◌, ◌<◌, Bool, true, false, List, [], ◌∷◌, ◌++◌, Result, Ok, Err, OnOk, Vec, length}
use Rattle.std.specs.declared.alloc.Global.{Global}
use Rattle.std.proofs.Common.{sym, ◌∙◌, ap, subst, arith}
use Rattle.std.proofs.lemmas.Bool.{false≢true}
use Rattle.qk_ast.specs.Texts.{Text}
use Rattle.qk_meaning.specs.Value as M
use Rattle.qk_meaning.specs.Value.{Site}
use Rattle.qk_meaning.specs.World.{Place, Step}
use Rattle.qk_meaning.specs.Fault.{TreeTooDeep, NotText}
use Rattle.qk_meaning.specs.Doing.{Doing, Outcome, Gives, Stops, Why, Faults, Ends, give, after, put_back, state_left}
use Rattle.qk_meaning.specs.Expansion.{component_with, expand_app, nothing_given, Nodes, no_nodes, node, Node, Tagged, Inside, Shows, Visit, Expands, joined, in_order, leaf, wrapped, view_with, expand_item, elem_with, step_name, further, placed, text_nodes, Given, takes_step}
use Rattle.qk_meaning.specs.Html.{nodes_count, node_count}
use Rattle.qk_value.specs.declared.value.Value.{Value}
use Rattle.qk_value.specs.declared.value.Elem.{Elem}
use Rattle.qk_value.specs.declared.value.ElemTag.{ElemTag}
use Rattle.qk_value.specs.declared.value.Value.TheVariants as value
use Rattle.qk_value.specs.View.{seen, seen_all, seen_fields, seen_element, shown_by}
use Rattle.qk_value.proofs.Viewing.{seen-List, seen-Elem}
use Rattle.qk_value.specs.Faults.{fault_of}
use Rattle.qk_nodes.specs.declared.node.Step as program
use Rattle.qk_nodes.specs.declared.node.Place as program_place
use Rattle.qk_nodes.specs.declared.node.Node.{Node as Node'}
use Rattle.qk_nodes.specs.declared.node.Element.{Element}
use Rattle.qk_nodes.specs.declared.node.Inside.{Inside as Inside'}
use Rattle.qk_nodes.specs.declared.node.Node.TheVariants as n
use Rattle.qk_nodes.specs.Tree.{place_of, path_of, nodes_of}
use Rattle.qk_nodes.proofs.Seeing.{joined-none, node_of-Element, node_of-Instance, nodes_of-append, path_of-append}
use Rattle.qk_tree.specs.declared.visit.Stop.{Stop}
use Rattle.qk_tree.specs.Doings.{behind, exceeds, Comes_to, Did, Gave, Took, Added, without_nodes, nodes_in}
use Rattle.qk_tree.proofs.Keeping.{wraps}
use Rattle.qk_tree.proofs.Sequences.{counts, left_behind}

-- ---- texts

pub no_text : (t : Text) (before : Nodes) → length t ≡ 0 → before ≡ joined before (text_nodes t)
no_text [] before e = sym (joined-none before)
no_text (c ∷ more) before e = absurd (let f : ⊥ = omega (arith, e) in f)

pub no_room : {R : Type 0} (t : Text) (before nodes : Nodes) (room room' : ℕ) (e : Stop R) (r : Result (Unit {0}) (Stop R)) → r ≡ Err e → (length t ≡ 0 → ⊥) → Took room room' (Err e) → Added (room + nodes_count before) before (text_nodes t) r nodes room'
no_room [] before nodes room room' e r is other took = absurd (other refl)
no_room (c ∷ more) before nodes room room' Stop.TooMany r is other took =
    let many : room + nodes_count before < nodes_count (joined before (text_nodes (c ∷ more))) = omega (arith, took, counts before (text_nodes (c ∷ more))) in
    subst (λ q. Added (room + nodes_count before) before (text_nodes (c ∷ more)) q nodes room') (sym is) many
no_room t before nodes room room' (Stop.Fault f) r is other took = absurd took
no_room t before nodes room room' Stop.Ended r is other took = absurd took
no_room t before nodes room room' (Stop.Refused why) r is other took = absurd took
no_room t before nodes room room' Stop.Memory r is other took = absurd took

-- a text that isn't empty takes room for one node
pub a_text : (t : Text) (before : Nodes) (room room' : ℕ) → (length t ≡ 0 → ⊥) → room ≡ suc room' → (joined before (node (Shows t) no_nodes) ≡ joined before (text_nodes t)) × (room' + nodes_count (joined before (node (Shows t) no_nodes)) ≡ room + nodes_count before)
a_text [] before room room' other took = absurd (other refl)
a_text (c ∷ more) before room room' other took = (refl, omega (arith, took, counts before (node (Shows (c ∷ more)) no_nodes)))

-- ---- items that take no step

-- what is put there at Unit, at a state
put_at : {S R : Type 0} (stands : S → Type 0) (refused : R → S → Type 0) (s : S) → stands s → (most : ℕ) (x : Outcome (Unit {0}) Nodes) (r : Result (Unit {0}) (Stop R)) (nodes : Nodes) (room : ℕ)
    → Did {S = Unit {0}} (λ u. Unit {0}) (λ why u. ⊥) most x r nodes room → Did stands refused most (put_back (λ u. s) x) r nodes room
put_at stands refused s k most x (Ok u) nodes room h = (record { state = s; stands_so = k; is = ap (put_back (λ u. s)) h.0.is }, h.1)
put_at stands refused s k most x (Err (Stop.Fault f)) nodes room h = record { state = s; stands_so = k; is = ap (put_back (λ u. s)) h.is }
put_at stands refused s k most x (Err Stop.Ended) nodes room h = record { state = s; stands_so = k; is = ap (put_back (λ u. s)) h.is }
put_at stands refused s k most x (Err (Stop.Refused why)) nodes room h = absurd h
put_at stands refused s k most (Gives all u) (Err Stop.TooMany) nodes room h = h
put_at stands refused s k most (Stops why u) (Err Stop.TooMany) nodes room h = tt
put_at stands refused s k most x (Err Stop.Memory) nodes room h = tt

leaf_at : {S : Type 0} (before : Nodes) (v : M.Value) (s : S) → put_back (λ u. s) (behind before (leaf v (tt {0}))) ≡ behind before (leaf v s)
leaf_at before (M.Words w) s = refl
leaf_at before (M.Int i) s = refl
leaf_at before M.Undefined s = refl
leaf_at before M.Null s = refl
leaf_at before (M.Truth b) s = refl
leaf_at before (M.Ref a) s = refl
leaf_at before (M.Items list) s = refl
leaf_at before (M.Record fields) s = refl
leaf_at before (M.Elem shown key slot attributes children) s = refl
leaf_at before (M.Closure site scope hidden) s = refl
leaf_at before (M.Lifted symbol captured hidden) s = refl

no_step : {S : Type 0} (visit : Visit S) (left : ℕ) (path : List Step) (given : Given) (place : Place) (v : M.Value) (s : S) → takes_step v ≡ false → expand_item visit left path given place v s ≡ leaf v s
no_step visit zero path given place v s takes = ap (λ (b : Bool). (elim b as (λ x. Doing _ Nodes) [ true ↦ λ t. Stops (Faults TreeTooDeep) t | false ↦ leaf v ]) s) takes
no_step visit (suc n) path given place (M.Words w) s takes = refl
no_step visit (suc n) path given place (M.Int i) s takes = refl
no_step visit (suc n) path given place M.Undefined s takes = refl
no_step visit (suc n) path given place M.Null s takes = refl
no_step visit (suc n) path given place (M.Truth b) s takes = refl
no_step visit (suc n) path given place (M.Ref a) s takes = refl
no_step visit (suc n) path given place (M.Items list) s takes = absurd (false≢true (sym takes))
no_step visit (suc n) path given place (M.Record fields) s takes = refl
no_step visit (suc n) path given place (M.Elem shown key slot attributes children) s takes = absurd (false≢true (sym takes))
no_step visit (suc n) path given place (M.Closure site scope hidden) s takes = refl
no_step visit (suc n) path given place (M.Lifted symbol captured hidden) s takes = refl

pub a_leaf : {S R : Type 0} (stands : S → Type 0) (refused : R → S → Type 0) (visit : Visit S) (left : ℕ) (path : List Step) (given : Given) (place : Place) (v : M.Value) (before nodes : Nodes) (most room : ℕ) (r : Result (Unit {0}) (Stop R)) (s : S) → takes_step v ≡ false → stands s
    → Did {S = Unit {0}} (λ u. Unit {0}) (λ why u. ⊥) most (behind before (leaf v (tt {0}))) r nodes room → Did stands refused most (behind before (expand_item visit left path given place v s)) r nodes room
a_leaf stands refused visit left path given place v before nodes most room r s takes k h =
    subst (λ o. Did stands refused most o r nodes room) (leaf_at before v s ∙ ap (behind before) (sym (no_step visit left path given place v s takes)))
    (put_at stands refused s k most (behind before (leaf v (tt {0}))) r nodes room h)

-- nothing is shown
pub shows_nothing : (v : M.Value) (before : Nodes) → leaf v (tt {0}) ≡ Gives no_nodes (tt {0}) → Comes_to {S = Unit {0}} (λ u. Unit {0}) (behind before (leaf v (tt {0}))) (Gives before)
shows_nothing v before e = record { state = tt; stands_so = tt; is = ap (behind before) e ∙ ap (λ all. Gives all (tt {0})) (joined-none before) }

-- there is no text of it
pub shows_no_text : (v w : M.Value) (before : Nodes) → v ≡ w → leaf w (tt {0}) ≡ Stops (Faults NotText) (tt {0}) → Comes_to {S = Unit {0}} {A = Nodes} (λ u. Unit {0}) (behind before (leaf v (tt {0}))) (Stops (Faults NotText))
shows_no_text v w before is e = record { state = tt; stands_so = tt; is = ap (λ m. behind before (leaf m (tt {0}))) is ∙ ap (behind before) e }

-- ---- items that take a step

pub too_deep : {S : Type 0} (visit : Visit S) (left : ℕ) (path : List Step) (given : Given) (place : Place) (v w : M.Value) (before : Nodes) (s : S)
    → left ≡ 0 → v ≡ w → takes_step w ≡ true → behind before (expand_item visit left path given place v s) ≡ Stops (Faults TreeTooDeep) s
too_deep visit left path given place v w before s none is takes =
    (λ i. behind before (expand_item visit (none i) path given place (is i) s)) ∙ ap (λ (b : Bool). behind before ((elim b as (λ x. Doing _ Nodes) [ true ↦ λ t. Stops (Faults TreeTooDeep) t | false ↦ leaf w ]) s)) takes

one_less : (left : ℕ) → (left ≡ 0 → ⊥) → left ≡ suc (left - 1)
one_less zero other = absurd (other refl)
one_less (suc n) other = omega arith

pushed_path : (p p' : List program.Step) (place : program_place.Place) (name wanted : Text) → p' ≡ p ++ record { place = place; name = name } ∷ [] → name ≡ wanted → path_of p' ≡ further (path_of p) (place_of place) wanted
pushed_path p p' place name wanted pushed is = ap path_of pushed ∙ path_of-append p _ ∙ ap (λ n. further (path_of p) (place_of place) n) is

module _ {S : Type 0} (names : Site → List Text) (visit : Visit S) where
  -- a list, with the step that was pushed for it
  pub a_list : (left : ℕ) (path path' : List program.Step) (given : Given) (place : program_place.Place) (v : Value) (all listed : List Value) (name : Text) (s : S) → (left ≡ 0 → ⊥) → v ≡ value.List all → listed ≡ all → path' ≡ path ++ record { place = place; name = name } ∷ [] → name ≡ []
      → in_order (expand_item visit (left - 1) (path_of path') given) (placed (seen_all names listed)) s ≡ expand_item visit left (path_of path) given (place_of place) (seen names v) s
  a_list left path path' given place v all listed name s more is held pushed called =
      let at : path_of path' ≡ further (path_of path) (place_of place) [] = pushed_path path path' place name [] pushed called in
      let seen_so : seen names v ≡ M.Items (seen_all names all) = ap (seen names) is ∙ seen-List names all in
      ap (λ items. in_order (expand_item visit (left - 1) (path_of path') given) (placed (seen_all names items)) s) held
      ∙ ap (λ p. in_order (expand_item visit (left - 1) p given) (placed (seen_all names all)) s) at
      ∙ sym (λ i. expand_item visit (one_less left more i) (path_of path) given (place_of place) (seen_so i) s)

  -- an element, with the step that was pushed for it
  pub an_element : (left : ℕ) (path path' : List program.Step) (given : Given) (place : program_place.Place) (v : Value) (e got : Elem) (name : Text) (s : S) → (left ≡ 0 → ⊥) → v ≡ value.Elem e → got ≡ e → path' ≡ path ++ record { place = place; name = name } ∷ [] → name ≡ step_name (shown_by got.tag)
      → elem_with visit (expand_item visit (left - 1)) (path_of path') given (shown_by got.tag) (seen_fields names got.attrs) (seen_all names got.children) s ≡ expand_item visit left (path_of path) given (place_of place) (seen names v) s
  an_element left path path' given place v e got name s more is held pushed called =
      let at : path_of path' ≡ further (path_of path) (place_of place) (step_name (shown_by e.tag)) = pushed_path path path' place name (step_name (shown_by e.tag)) pushed (called ∙ ap (λ (x : Elem). step_name (shown_by x.tag)) held) in
      let seen_so : seen names v ≡ seen_element names e = ap (seen names) is ∙ seen-Elem names e in
      ap (λ (x : Elem). elem_with visit (expand_item visit (left - 1)) (path_of path') given (shown_by x.tag) (seen_fields names x.attrs) (seen_all names x.children) s) held
      ∙ ap (λ p. elem_with visit (expand_item visit (left - 1)) p given (shown_by e.tag) (seen_fields names e.attrs) (seen_all names e.children) s) at
      ∙ sym (λ i. expand_item visit (one_less left more i) (path_of path) given (place_of place) (seen_so i) s)

  -- a tag around its children
  pub a_tag : (inner : Expands S) (path : List Step) (given : Given) (shown : ElemTag) (tag : Text) (attributes : M.Fields) (children listed : List Value) (s : S) → shown ≡ ElemTag.Element tag → listed ≡ children
      → wrapped (Tagged tag attributes) (in_order (inner path given) (placed (seen_all names listed))) s ≡ elem_with visit inner path given (shown_by shown) attributes (seen_all names children) s
  a_tag inner path given shown tag attributes children listed s is held =
      ap (λ all. wrapped (Tagged tag attributes) (in_order (inner path given) (placed (seen_all names all))) s) held ∙ sym (ap (λ t. elem_with visit inner path given (shown_by t) attributes (seen_all names children) s) is)

-- the view that a visit gave, in its instance
pub a_view : {S : Type 0} (inner : Expands S) (path : List Step) (given given' : Given) (o : Outcome S M.Value) (v : M.Value) (s : S) → o ≡ Gives v s → given ≡ given'
    → wrapped (Inside path) (view_with inner path given v) s ≡ after o (λ view. wrapped (Inside path) (view_with inner path given' view))
a_view inner path given given' o v s gave held = ap (λ g. wrapped (Inside path) (view_with inner path g v) s) held ∙ sym (ap (λ p. after p (λ view. wrapped (Inside path) (view_with inner path given' view))) gave)

-- ---- nodes that are put around others

alone : {S : Type 0} (x : Outcome S Nodes) → behind no_nodes x ≡ x
alone (Gives ns s) = refl
alone (Stops why s) = refl

module _ {S R : Type 0} (stands : S → Type 0) (refused : R → S → Type 0) (around : Nodes → Node) (one_more : (ns : Nodes) → node_count (around ns) ≡ suc (nodes_count ns)) where
  abbrev pub put_around : Outcome S Nodes → Outcome S Nodes
  put_around x = after x (λ nodes. give (node (around nodes) no_nodes))

  wider : (before ns : Nodes) → nodes_count (joined before (node (around ns) no_nodes)) ≡ nodes_count before + suc (nodes_count ns)
  wider before ns = omega (arith, counts before (node (around ns) no_nodes), one_more ns)

  -- what is put around is given; the nodes before it are none
  pub wraps_all : (start : Nodes) → start ≡ no_nodes → (before ns nodes : Nodes) (x : Outcome S Nodes) (room room1 room2 : ℕ) → room ≡ suc room1 → nodes ≡ joined before (node (around ns) no_nodes)
      → Did stands refused (room1 + nodes_count start) (behind start x) (Ok tt) ns room2 → Did stands refused (room + nodes_count before) (behind before (put_around x)) (Ok tt) nodes room2
  wraps_all start none before ns nodes x room room1 room2 took pushed h =
      let did = subst (λ b. Did stands refused (room1 + nodes_count b) (behind b x) (Ok tt) ns room2) none h in (
        record {
          state = did.0.state;
          stands_so = did.0.stands_so;
          is = ap (λ o. behind before (put_around o)) (sym (alone x) ∙ did.0.is) ∙ ap (λ all. Gives all did.0.state) (sym pushed);
        },
        ap (λ all. room2 + nodes_count all) pushed ∙ omega (arith, wider before ns, took, did.1),
      )

  too_wide : (before : Nodes) (x : Outcome S Nodes) (room room1 : ℕ) → room ≡ suc room1 → exceeds (room1 + 0) (behind no_nodes x) → exceeds (room + nodes_count before) (behind before (put_around x))
  too_wide before (Gives ns s) room room1 took h = omega (arith, wider before ns, took, h)
  too_wide before (Stops why s) room room1 took h = tt

  left_around : (P : S → Type 0) (before : Nodes) (x : Outcome S Nodes) → P (state_left (behind no_nodes x)) → P (state_left (behind before (put_around x)))
  left_around P before (Gives ns s) h = h
  left_around P before (Stops why s) h = h

  stopped_around : (before : Nodes) (x : Outcome S Nodes) (why : Why) → Comes_to stands (behind no_nodes x) (Stops why) → Comes_to stands (behind before (put_around x)) (Stops why)
  stopped_around before x why h = record { state = h.state; stands_so = h.stands_so; is = ap (λ o. behind before (put_around o)) (sym (alone x) ∙ h.is) }

  -- what is put around stops
  wrap_stops : (before ns nodes : Nodes) (x : Outcome S Nodes) (room room1 room2 room3 : ℕ) (e : Stop R) → room ≡ suc room1
      → Did stands refused (room1 + 0) (behind no_nodes x) (Err e) ns room2 → Did stands refused (room + nodes_count before) (behind before (put_around x)) (Err e) nodes room3
  wrap_stops before ns nodes x room room1 room2 room3 (Stop.Fault f) took h = stopped_around before x (Faults (fault_of f)) h
  wrap_stops before ns nodes x room room1 room2 room3 Stop.Ended took h = stopped_around before x Ends h
  wrap_stops before ns nodes x room room1 room2 room3 (Stop.Refused why) took h = left_around (refused why) before x h
  wrap_stops before ns nodes x room room1 room2 room3 Stop.TooMany took h = too_wide before x room room1 took h
  wrap_stops before ns nodes x room room1 room2 room3 Stop.Memory took h = tt

  pub wraps_stop : (start : Nodes) → start ≡ no_nodes → (before ns nodes : Nodes) (x : Outcome S Nodes) (room room1 room2 room3 : ℕ) (e : Stop R) (r : Result (Unit {0}) (Stop R)) → r ≡ Err e → room ≡ suc room1
      → Did stands refused (room1 + nodes_count start) (behind start x) (Err e) ns room2 → Did stands refused (room + nodes_count before) (behind before (put_around x)) r nodes room3
  wraps_stop start none before ns nodes x room room1 room2 room3 e r is took h =
      subst (λ q. Did stands refused (room + nodes_count before) (behind before (put_around x)) q nodes room3) (sym is)
      (wrap_stops before ns nodes x room room1 room2 room3 e took (subst (λ b. Did stands refused (room1 + nodes_count b) (behind b x) (Err e) ns room2) none h))

  -- there is no room for what is put around
  full : (before : Nodes) (x : Outcome S Nodes) (room : ℕ) → room ≡ 0 → exceeds (room + nodes_count before) (behind before (put_around x))
  full before (Gives ns s) room none = omega (arith, wider before ns, none)
  full before (Stops why s) room none = tt

  no_room_for : (before nodes : Nodes) (x : Outcome S Nodes) (room room' : ℕ) (e : Stop R) → Took room room' (Err e) → Did stands refused (room + nodes_count before) (behind before (put_around x)) (Err e) nodes room'
  no_room_for before nodes x room room' Stop.TooMany took = full before x room took
  no_room_for before nodes x room room' (Stop.Fault f) took = absurd took
  no_room_for before nodes x room room' Stop.Ended took = absurd took
  no_room_for before nodes x room room' (Stop.Refused why) took = absurd took
  no_room_for before nodes x room room' Stop.Memory took = absurd took

  pub no_room_around : (before nodes : Nodes) (x : Outcome S Nodes) (room room' : ℕ) (e : Stop R) (r : Result (Unit {0}) (Stop R)) → r ≡ Err e → Took room room' (Err e) → Did stands refused (room + nodes_count before) (behind before (put_around x)) r nodes room'
  no_room_around before nodes x room room' e r is took = subst (λ q. Did stands refused (room + nodes_count before) (behind before (put_around x)) q nodes room') (sym is) (no_room_for before nodes x room room' e took)

-- ---- components

stopped_at : {S R : Type 0} (stands : S → Type 0) (refused : R → S → Type 0) (most : ℕ) (why : Why) (s : S) (nodes : Nodes) (room room' : ℕ) (e : Stop R) → Took room room' (Err e) → Did stands refused most (Stops why s) (Err e) nodes room'
stopped_at stands refused most why s nodes room room' Stop.TooMany took = tt
stopped_at stands refused most why s nodes room room' (Stop.Fault f) took = absurd took
stopped_at stands refused most why s nodes room room' Stop.Ended took = absurd took
stopped_at stands refused most why s nodes room room' (Stop.Refused w) took = absurd took
stopped_at stands refused most why s nodes room room' Stop.Memory took = absurd took

module _ {S R : Type 0} (stands : S → Type 0) (refused : R → S → Type 0) (around : Nodes → Node) (one_more : (ns : Nodes) → node_count (around ns) ≡ suc (nodes_count ns)) (inner : M.Value → Doing S Nodes) where
  -- there is no room for the instance
  pub no_room_behind : (before nodes : Nodes) (o : Outcome S M.Value) (room room' : ℕ) (e : Stop R) (r : Result (Unit {0}) (Stop R)) → r ≡ Err e → Took room room' (Err e)
      → Did stands refused (room + nodes_count before) (behind before (after o (λ view. wrapped around (inner view)))) r nodes room'
  no_room_behind before nodes (Gives v s) room room' e r is took = no_room_around stands refused around one_more before nodes (inner v s) room room' e r is took
  no_room_behind before nodes (Stops why s) room room' e r is took =
      subst (λ q. Did stands refused (room + nodes_count before) (Stops why s) q nodes room') (sym is) (stopped_at stands refused (room + nodes_count before) why s nodes room room' e took)

  refused_at : (P : S → Type 0) → ((v : M.Value) (s : S) → P s → P (state_left (inner v s))) → (before : Nodes) (o : Outcome S M.Value) → P (state_left o) → P (state_left (behind before (after o (λ view. wrapped around (inner view)))))
  refused_at P keeps before (Gives v s) h = left_behind P before (wrapped around (inner v) s) (wraps P around (inner v) (keeps v) s h)
  refused_at P keeps before (Stops why s) h = h

  -- the visit stops
  meet_stops : ((why : R) (v : M.Value) (s : S) → refused why s → refused why (state_left (inner v s))) → (names : Site → List Text) (most : ℕ) (before nodes : Nodes) (o : Outcome S M.Value) (room : ℕ) (e : Stop R)
      → Gave stands refused names o (Err e) → Did stands refused most (behind before (after o (λ view. wrapped around (inner view)))) (Err e) nodes room
  meet_stops keeps names most before nodes o room (Stop.Fault f) h = record { state = h.state; stands_so = h.stands_so; is = ap (λ p. behind before (after p (λ view. wrapped around (inner view)))) h.is }
  meet_stops keeps names most before nodes o room Stop.Ended h = record { state = h.state; stands_so = h.stands_so; is = ap (λ p. behind before (after p (λ view. wrapped around (inner view)))) h.is }
  meet_stops keeps names most before nodes o room (Stop.Refused why) h = refused_at (refused why) (keeps why) before o h
  meet_stops keeps names most before nodes o room Stop.TooMany h = absurd h
  meet_stops keeps names most before nodes o room Stop.Memory h = tt

  pub meets_stop : ((why : R) (v : M.Value) (s : S) → refused why s → refused why (state_left (inner v s))) → (names : Site → List Text) (most : ℕ) (before nodes : Nodes) (o : Outcome S M.Value) (room : ℕ) (e : Stop R) (r : Result (Unit {0}) (Stop R)) → r ≡ Err e
      → Gave stands refused names o (Err e) → Did stands refused most (behind before (after o (λ view. wrapped around (inner view)))) r nodes room
  meets_stop keeps names most before nodes o room e r is h =
      subst (λ q. Did stands refused most (behind before (after o (λ view. wrapped around (inner view)))) q nodes room) (sym is) (meet_stops keeps names most before nodes o room e h)

-- ---- what is the same outcome

-- the same outcome, with the result of an early return
pub stops_so : {S R : Type 0} (stands : S → Type 0) (refused : R → S → Type 0) (most : ℕ) (before nodes : Nodes) (room : ℕ) (o o' : Outcome S Nodes) (e : Stop R) (r : Result (Unit {0}) (Stop R)) → o ≡ o' → r ≡ Err e
    → Did stands refused most (behind before o) (Err e) nodes room → Did stands refused most (behind before o') r nodes room
stops_so stands refused most before nodes room o o' e r same is h =
    subst (λ q. Did stands refused most (behind before o') q nodes room) (sym is) (subst (λ x. Did stands refused most (behind before x) (Err e) nodes room) same h)

-- the same outcome, of which all is given
pub gives_so : {S R : Type 0} (stands : S → Type 0) (refused : R → S → Type 0) (most : ℕ) (before nodes : Nodes) (room : ℕ) (o o' : Outcome S Nodes) → o ≡ o'
    → Did stands refused most (behind before o) (Ok tt) nodes room → Did stands refused most (behind before o') (Ok tt) nodes room
gives_so stands refused most before nodes room o o' same h = subst (λ x. Did stands refused most (behind before x) (Ok tt) nodes room) same h

pub whenever : {A E : Type 0} (r : Result A E) (P : Type 0) → P → OnOk r P
whenever (Ok a) P p = p
whenever (Err e) P p = tt

-- ---- nodes that are pushed

module _ (names : Site → List Text) (out out' : List Node') where
  pub pushed_element : (e : Element) (tag : Text) (attrs : List (Text × Value)) (inner : List Node') → out' ≡ out ++ n.Element e ∷ [] → e.tag ≡ tag → e.attrs ≡ attrs → e.children ≡ inner
      → nodes_of names out' ≡ joined (nodes_of names out) (node (Tagged tag (seen_fields names attrs) (nodes_of names inner)) no_nodes)
  pushed_element e tag attrs inner pushed tagged attributed holds =
      ap (nodes_of names) pushed ∙ nodes_of-append names out _ ∙ ap (λ m. joined (nodes_of names out) (node m no_nodes))
      (node_of-Element names e ∙ ap (λ t. Tagged t (seen_fields names e.attrs) (nodes_of names e.children)) tagged ∙ ap (λ fs. Tagged tag (seen_fields names fs) (nodes_of names e.children)) attributed
      ∙ ap (λ ns. Tagged tag (seen_fields names attrs) (nodes_of names ns)) holds)

  pub pushed_instance : (i : Inside') (path : List program.Step) (inner : List Node') → out' ≡ out ++ n.Instance i ∷ [] → i.path ≡ path → i.nodes ≡ inner
      → nodes_of names out' ≡ joined (nodes_of names out) (node (Inside (path_of path) (nodes_of names inner)) no_nodes)
  pushed_instance i path inner pushed at holds =
      ap (nodes_of names) pushed ∙ nodes_of-append names out _ ∙ ap (λ m. joined (nodes_of names out) (node m no_nodes))
      (node_of-Instance names i ∙ ap (λ p. Inside (path_of p) (nodes_of names i.nodes)) at ∙ ap (λ ns. Inside (path_of path) (nodes_of names ns)) holds)

-- ---- a whole application

pub the_app : {S : Type 0} (visit : Visit S) (names : Site → List Text) (p : List program.Step) (e : Elem) (app : Text) (s : S) → p ≡ [] → e.tag ≡ ElemTag.Component app → e.attrs ≡ [] → e.children ≡ []
    → component_with visit (expand_item visit 128) (path_of p) nothing_given (shown_by e.tag) (seen_fields names e.attrs) (seen_all names e.children) s ≡ expand_app visit (M.Lifted_component app) s
the_app visit names p e app s root tagged no_fields no_children =
    λ i. component_with visit (expand_item visit 128) (path_of (root i)) nothing_given (shown_by (tagged i)) (seen_fields names (no_fields i)) (seen_all names (no_children i)) s

module _ {S R : Type 0} (stands : S → Type 0) (refused : R → S → Type 0) where
  any_nodes : (most : ℕ) (o : Outcome S Nodes) (e : Stop R) (nodes nodes' : Nodes) (room : ℕ) → Did stands refused most o (Err e) nodes room → Did stands refused most o (Err e) nodes' room
  any_nodes most o (Stop.Fault f) nodes nodes' room h = h
  any_nodes most o Stop.Ended nodes nodes' room h = h
  any_nodes most o (Stop.Refused why) nodes nodes' room h = h
  any_nodes most o Stop.TooMany nodes nodes' room h = h
  any_nodes most o Stop.Memory nodes nodes' room h = h

  from_nothing : (start : Nodes) → start ≡ no_nodes → (o o' : Outcome S Nodes) → o ≡ o' → (r : Result (Unit {0}) (Stop R)) (nodes : Nodes) (room room' : ℕ) → Did stands refused (room + nodes_count start) (behind start o) r nodes room' → Did stands refused room o' r nodes room'
  from_nothing start none o o' same r nodes room room' h =
      let bare : room + nodes_count no_nodes ≡ room = omega arith in
      subst (λ m. Did stands refused m o' r nodes room') bare
      (subst (λ x. Did stands refused (room + nodes_count no_nodes) x r nodes room') (alone o')
      (subst (λ x. Did stands refused (room + nodes_count no_nodes) (behind no_nodes x) r nodes room') same
      (subst (λ b. Did stands refused (room + nodes_count b) (behind b o) r nodes room') none h)))

  pub app_stops : (names : Site → List Text) (start : Nodes) → start ≡ no_nodes → (o o' : Outcome S Nodes) → o ≡ o' → (e : Stop R) (r : Result (Vec Node' Global) (Stop R)) → r ≡ Err e → (nodes : Nodes) (room room' : ℕ)
      → Did stands refused (room + nodes_count start) (behind start o) (Err e) nodes room' → Did stands refused room o' (without_nodes r) (nodes_of names (nodes_in r)) room'
  app_stops names start none o o' same e r is nodes room room' h =
      subst (λ q. Did stands refused room o' (without_nodes q) (nodes_of names (nodes_in q)) room') (sym is) (any_nodes room o' e nodes no_nodes room' (from_nothing start none o o' same (Err e) nodes room room' h))

  pub app_gives : (start : Nodes) → start ≡ no_nodes → (o o' : Outcome S Nodes) → o ≡ o' → (nodes : Nodes) (room room' : ℕ)
      → Did stands refused (room + nodes_count start) (behind start o) (Ok tt) nodes room' → Did stands refused room o' (Ok tt) nodes room'
  app_gives start none o o' same nodes room room' h = from_nothing start none o o' same (Ok tt) nodes room room' h
