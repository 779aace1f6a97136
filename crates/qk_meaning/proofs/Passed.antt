-- What a pass shows is the tree of the world behind it: the same expansion, over the views of the instances that it left.
use Rattle.std.specs.Prelude.{◌≡◌, refl, ℕ, zero, suc, ⊤, Bool, true, false, ◌&&◌, List, [], ◌∷◌, ◌++◌, Option, Some, None, is_some, find, cond}
use Rattle.std.proofs.Common.{sym, ap, subst, ◌∙◌}
use Rattle.std.proofs.Math.Dec.{T, eqb→eq}
use Rattle.std.proofs.lemmas.Bool.{false≢true}
use Rattle.std.proofs.lemmas.Slice.Eq.{bytes_eq-Decides}
use Rattle.std.proofs.lemmas.List.{append_assoc, append-nil}
use Rattle.qk_ast.specs.Texts.{same_text}
use Rattle.qk_meaning.specs.Value.{Text, Shown, Element, Component, Lifted_component, Fragment, Slot, Value, Values, Fields, Undefined, Null, Truth, Int, Words, Ref, Items, Record, Elem, Closure, Lifted, none, item, end}
use Rattle.qk_meaning.specs.World.{Props, Place, Keyed, Nth, Step, Instance}
use Rattle.qk_meaning.specs.Places.{same_place, same_step, same_path}
use Rattle.qk_meaning.specs.Fault.{TreeTooDeep}
use Rattle.qk_meaning.specs.Program.{Program}
use Rattle.qk_meaning.specs.Doing.{Outcome, Gives, Stops, Doing, ◌>>=◌, ◌>>◌, after, put_back, give, becomes, fault}
use Rattle.qk_meaning.specs.Running.{Running, Mounting, Again, made_at}
use Rattle.qk_meaning.specs.Setting.{called_anew}
use Rattle.qk_meaning.specs.Expansion.{Node, Tagged, Inside, Nodes, node, no_nodes, Placed, Given, nothing_given, children_of, placed, for_slot, step_name, further, Met, Visit, Expands, in_order, joined, wrapped, view_with, takes_step, leaf, slot_with, component_with, elem_with, item_with, expand_item, expand_app}
use Rattle.qk_meaning.specs.Session.{Session, runs}
use Rattle.qk_meaning.specs.Execution.{Execution, stands, execution, mount, props_set, run_again, taken, take_or_mount}
use Rattle.qk_meaning.specs.Tree.{view_of, view_at, nodes_given}
use Rattle.qk_meaning.specs.Laws as Laws
use Rattle.qk_meaning.specs.Laws.{Each_first, none_left, one_first}

-- ---- behind a step of a pass more instances stand as executed; where all of them are found in a list, the other doing gives the same

first_ones : (all one two : List Instance) → Each_first all (one ++ two) → Each_first all one
first_ones all [] two e = none_left
first_ones all (i ∷ one) two (one_first f e) = one_first f (first_ones all one two e)

last_one : (all one : List Instance) (i : Instance) → Each_first all (one ++ (i ∷ [])) → find (λ j. same_path j.path i.path) all ≡ Some i
last_one all [] i (one_first f e) = f
last_one all (j ∷ one) i (one_first f e) = last_one all one i e

pub record Adds_instances (w u : Session) : Type 0 where
  pub more : List Instance
  pub executed : u.executed ≡ w.executed ++ more

module _ (all : List Instance) where
  abbrev Tracks_so : {A : Type 0} → Session → Outcome Session A → Outcome (Unit {0}) A → Type 0
  Tracks_so w (Gives a u) o = Adds_instances w u × (Each_first all u.executed → o ≡ Gives a tt)
  Tracks_so w (Stops why u) o = ⊤

  abbrev Tracks : (A : Type 0) → Doing Session A → Doing (Unit {0}) A → Type 0
  Tracks A m m' = (w : Session) → Tracks_so w (m w) (m' tt)

  tracks_then : {A : Type 0} (w u : Session) (o : Outcome Session A) (p p' : Outcome (Unit {0}) A) → Adds_instances w u → ((v : Session) → Adds_instances u v → Each_first all v.executed → p' ≡ p) → Tracks_so u o p → Tracks_so w o p'
  tracks_then w u (Gives a v) p p' r e q = (
    record { more = r.more ++ q.0.more; executed = q.0.executed ∙ (ap (λ l. l ++ q.0.more) r.executed ∙ append_assoc w.executed r.more q.0.more) },
    λ each. e v q.0 each ∙ q.1 each,
  )
  tracks_then w u (Stops why v) p p' r e q = tt

  binds : {A B : Type 0} (m : Doing Session A) (m' : Doing (Unit {0}) A) (f : A → Doing Session B) (f' : A → Doing (Unit {0}) B) → Tracks A m m' → ((a : A) → Tracks B (f a) (f' a)) → Tracks B (◌>>=◌ m f) (◌>>=◌ m' f')
  binds {A} {B} m m' f f' p q w = go (m w) (p w)
    where
      go : (o : Outcome Session A) → Tracks_so w o (m' tt) → Tracks_so w (after o f) (after (m' tt) f')
      go (Gives a u) r =
          tracks_then w u (f a u) (f' a tt) (after (m' tt) f') r.0
          (λ v more each. ap (λ o. after o f') (r.1 (first_ones all u.executed more.more (subst (λ l. Each_first all l) more.executed each)))) (q a u)
      go (Stops why u) r = tt

  gives : {A : Type 0} (a : A) → Tracks A (give a) (give a)
  gives a w = (record { more = []; executed = sym (append-nil w.executed) }, λ each. refl)

  -- ---- expansion

  in_orders : (one : Place → Value → Doing Session Nodes) (one' : Place → Value → Doing (Unit {0}) Nodes) → ((place : Place) (v : Value) → Tracks Nodes (one place v) (one' place v)) → (list : List Placed) → Tracks Nodes (in_order one list) (in_order one' list)
  in_orders one one' p [] = gives no_nodes
  in_orders one one' p (x ∷ rest) =
      binds (one x.place x.value) (one' x.place x.value) (λ first. ◌>>=◌ (in_order one rest) (λ others. give (joined first others))) (λ first. ◌>>=◌ (in_order one' rest) (λ others. give (joined first others))) (p x.place x.value)
      (λ first. binds (in_order one rest) (in_order one' rest) (λ others. give (joined first others)) (λ others. give (joined first others)) (in_orders one one' p rest) (λ others. gives (joined first others)))

  wraps : (around : Nodes → Node) (m : Doing Session Nodes) (m' : Doing (Unit {0}) Nodes) → Tracks Nodes m m' → Tracks Nodes (wrapped around m) (wrapped around m')
  wraps around m m' p = binds m m' (λ nodes. give (node (around nodes) no_nodes)) (λ nodes. give (node (around nodes) no_nodes)) p (λ nodes. gives (node (around nodes) no_nodes))

  leaves : (v : Value) → Tracks Nodes (leaf v) (leaf v)
  leaves (Words w) = gives _
  leaves (Int i) = gives _
  leaves Undefined = gives _
  leaves Null = gives _
  leaves (Truth b) = gives _
  leaves (Ref a) = λ w. tt
  leaves (Items list) = λ w. tt
  leaves (Record fields) = λ w. tt
  leaves (Elem shown key slot attributes children) = λ w. tt
  leaves (Closure site scope hidden) = λ w. tt
  leaves (Lifted symbol captured hidden) = λ w. tt

  abbrev Both_expand : Expands Session → Expands (Unit {0}) → Type 0
  Both_expand inner inner' = (path : List Step) (given : Given) (place : Place) (v : Value) → Tracks Nodes (inner path given place v) (inner' path given place v)

  slots : (inner : Expands Session) (inner' : Expands (Unit {0})) → Both_expand inner inner' → (path : List Step) (name : Text) (given : Given) → Tracks Nodes (slot_with inner path name given) (slot_with inner' path name given)
  slots inner inner' p path name nothing_given = gives no_nodes
  slots inner inner' p path name (children_of list outer) = in_orders (inner path outer) (inner' path outer) (p path outer) (for_slot name (placed list))

  module _ (visit : Visit Session) (visit' : Visit (Unit {0})) (V : (met : Met) → Tracks Value (visit met) (visit' met)) where
    components : (inner : Expands Session) (inner' : Expands (Unit {0})) → Both_expand inner inner' → (path : List Step) (given : Given) (shown : Shown) (fields : Fields) (children : Values)
        → Tracks Nodes (component_with visit inner path given shown fields children) (component_with visit' inner' path given shown fields children)
    components inner inner' p path given shown fields children =
        let met : Met = record { path = path; shown = shown; fields = fields } in
        let shows : Value → Doing Session Nodes = λ view. wrapped (Inside path) (view_with inner path (children_of children given) view) in
        let shows' : Value → Doing (Unit {0}) Nodes = λ view. wrapped (Inside path) (view_with inner' path (children_of children given) view) in
        binds (visit met) (visit' met) shows shows' (V met)
        (λ view. wraps (Inside path) (view_with inner path (children_of children given) view) (view_with inner' path (children_of children given) view)
        (in_orders (inner path (children_of children given)) (inner' path (children_of children given)) (p path (children_of children given)) (placed (item view none))))

    elems : (inner : Expands Session) (inner' : Expands (Unit {0})) → Both_expand inner inner' → (path : List Step) (given : Given) (shown : Shown) (fields : Fields) (children : Values)
        → Tracks Nodes (elem_with visit inner path given shown fields children) (elem_with visit' inner' path given shown fields children)
    elems inner inner' p path given (Element tag) fields children =
        wraps (Tagged tag fields) (in_order (inner path given) (placed children)) (in_order (inner' path given) (placed children)) (in_orders (inner path given) (inner' path given) (p path given) (placed children))
    elems inner inner' p path given Fragment fields children = in_orders (inner path given) (inner' path given) (p path given) (placed children)
    elems inner inner' p path given (Slot name) fields children = slots inner inner' p path name given
    elems inner inner' p path given (Component site) fields children = components inner inner' p path given (Component site) fields children
    elems inner inner' p path given (Lifted_component symbol) fields children = components inner inner' p path given (Lifted_component symbol) fields children

    items : (inner : Expands Session) (inner' : Expands (Unit {0})) → Both_expand inner inner' → Both_expand (item_with visit inner) (item_with visit' inner')
    items inner inner' p path given place (Items list) = in_orders (inner (further path place []) given) (inner' (further path place []) given) (p (further path place []) given) (placed list)
    items inner inner' p path given place (Elem shown key slot attributes children) = elems inner inner' p (further path place (step_name shown)) given shown attributes children
    items inner inner' p path given place (Words w) = leaves (Words w)
    items inner inner' p path given place (Int i) = leaves (Int i)
    items inner inner' p path given place Undefined = leaves Undefined
    items inner inner' p path given place Null = leaves Null
    items inner inner' p path given place (Truth b) = leaves (Truth b)
    items inner inner' p path given place (Ref a) = leaves (Ref a)
    items inner inner' p path given place (Record fields) = leaves (Record fields)
    items inner inner' p path given place (Closure site scope hidden) = leaves (Closure site scope hidden)
    items inner inner' p path given place (Lifted symbol captured hidden) = leaves (Lifted symbol captured hidden)

    steps : (n : ℕ) → Both_expand (expand_item visit n) (expand_item visit' n)
    steps zero path given place v = last (takes_step v)
      where
        last : (b : Bool) → Tracks Nodes (elim b [ true ↦ fault TreeTooDeep | false ↦ leaf v ]) (elim b [ true ↦ fault TreeTooDeep | false ↦ leaf v ])
        last true = λ w. tt
        last false = leaves v
    steps (suc n) path given place v = items (expand_item visit n) (expand_item visit' n) (steps n) path given place v

    expands : (app : Shown) → Tracks Nodes (expand_app visit app) (expand_app visit' app)
    expands app = components (expand_item visit 128) (expand_item visit' 128) (steps 128) [] nothing_given app end none

-- ---- paths

both : (a b : Bool) → (a && b) ≡ true → (a ≡ true) × (b ≡ true)
both true b e = (refl, e)
both false b e = absurd (false≢true e)

text_is : (t u : Text) → same_text t u ≡ true → t ≡ u
text_is t u e = (bytes_eq-Decides t u).0 e

place_is : (p q : Place) → same_place p q ≡ true → p ≡ q
place_is (Keyed k) (Keyed l) e = ap (λ x. Keyed x) (text_is k l e)
place_is (Nth n) (Nth m) e = ap (λ x. Nth x) (eqb→eq n m (subst T (sym e) tt))
place_is (Keyed k) (Nth m) e = absurd (false≢true e)
place_is (Nth n) (Keyed l) e = absurd (false≢true e)

step_is : (a b : Step) → same_step a b ≡ true → a ≡ b
step_is a b e =
    let parts = both (same_place a.place b.place) (same_text a.name b.name) e in
    ap (λ x. record { place = x; name = a.name }) (place_is a.place b.place parts.0) ∙ ap (λ x. record { place = b.place; name = x }) (text_is a.name b.name parts.1)

path_is : (p q : List Step) → same_path p q ≡ true → p ≡ q
path_is [] [] e = refl
path_is [] (b ∷ q) e = absurd (false≢true e)
path_is (a ∷ p) [] e = absurd (false≢true e)
path_is (a ∷ p) (b ∷ q) e =
    let parts = both (same_step a b) (same_path p q) e in
    ap (λ x. x ∷ p) (step_is a b parts.0) ∙ ap (λ x. b ∷ x) (path_is p q parts.1)

abbrev value_or : {A : Type 0} → A → Option A → A
value_or a (Some b) = b
value_or a None = a

-- what is found passes the test
found_step : (test : Instance → Bool) (i j : Instance) (rest : Option Instance) (b : Bool) → test i ≡ b → (rest ≡ Some j → test j ≡ true) → cond b (Some i) rest ≡ Some j → test j ≡ true
found_step test i j rest true h more e = subst (λ x. test x ≡ true) (ap (value_or i) e) h
found_step test i j rest false h more e = more e

found_passes : (test : Instance → Bool) (all : List Instance) (j : Instance) → find test all ≡ Some j → test j ≡ true
found_passes test [] j e = absurd (false≢true (ap is_some e))
found_passes test (i ∷ rest) j e = found_step test i j (find test rest) (test i) refl (λ f. found_passes test rest j f) e

-- ---- visits

module _ (program : Program) (levels : ℕ) (all : List Instance) where
  -- code that runs before stands no instance
  behind_runs : {A B : Type 0} (m : Doing Running A) (f : A → Doing Session B) (m' : Doing (Unit {0}) B) → ((a : A) → Tracks all B (f a) m') → Tracks all B (◌>>=◌ (runs m) f) m'
  behind_runs {A} {B} m f m' p w = go (m w.running)
    where
      go : (o : Outcome Running A) → Tracks_so all w (after (put_back (λ s. record w { running = s }) o) f) (m' tt)
      go (Gives a s) =
          let v : Session = record w { running = s } in
          tracks_then all w v (f a v) (m' tt) (m' tt) (record { more = []; executed = sym (append-nil w.executed) }) (λ u more each. refl) (p a v)
      go (Stops why s) = tt

  stand : (mounted : Bool) (i : Instance) (met : Met) → i.path ≡ met.path → Tracks all Value (stands mounted i) (view_at all met)
  stand mounted i met e w = (
    record { more = i ∷ []; executed = refl },
    λ each. ap (λ p. view_of (find (λ j. same_path j.path p) all) tt) (sym e) ∙ ap (λ o. view_of o tt) (last_one all w.executed i each),
  )

  mounts : (met : Met) → Tracks all Value (mount program called_anew levels met) (view_at all met)
  mounts met w =
      behind_runs (made_at (Props met.fields)) (λ props. ◌>>=◌ (runs (execution program called_anew levels (Mounting met.path w.executed []) met.shown props)) (λ e. stands true (new props e))) (view_at all met)
      (λ props. behind_runs (execution program called_anew levels (Mounting met.path w.executed []) met.shown props) (λ e. stands true (new props e)) (view_at all met) (λ e. stand true (new props e) met refl)) w
    where
      new : ℕ → Execution → Instance
      new props e = record { path = met.path; component = met.shown; props = props; hooks = e.hooks; view = e.view; reads = e.reads }

  runs_again : (i : Instance) (met : Met) → i.path ≡ met.path → Tracks all Value (run_again program called_anew levels i met) (view_at all met)
  runs_again i met e =
      behind_runs (execution program called_anew levels (Again i.hooks) met.shown i.props) (λ x. stands false (record i { view = x.view; reads = x.reads })) (view_at all met)
      (λ x. stand false (record i { view = x.view; reads = x.reads }) met e)

  takes : (o : Option Instance) (met : Met) → ((i : Instance) → o ≡ Some i → i.path ≡ met.path) → Tracks all Value (taken program called_anew levels o met) (view_at all met)
  takes (Some i) met e = behind_runs (props_set program called_anew levels i.props met.fields) (λ u. run_again program called_anew levels i met) (view_at all met) (λ u. runs_again i met (e i refl))
  takes None met e = mounts met

  visits : (met : Met) → Tracks all Value (take_or_mount program called_anew levels met) (view_at all met)
  visits met w =
      let here = λ (i : Instance). same_path i.path met.path in
      takes (find here w.instances) met (λ i e. path_is i.path met.path (found_passes here w.instances i e)) w

abbrev instances_left : Outcome Session Nodes → List Instance
instances_left (Gives n v) = v.instances
instances_left (Stops why v) = v.instances

abbrev nodes_there : Outcome Session Nodes → Nodes
nodes_there (Gives n v) = n
nodes_there _ = no_nodes

abbrev gave : Outcome Session Nodes → Bool
gave (Gives n v) = true
gave _ = false

-- what the pass gave, from the expansion in it
passed : (all : List Instance) (w : Session) (o : Outcome Session Nodes) (p : Outcome (Unit {0}) Nodes) (nodes : Nodes) (after_it : Session)
    → after o (λ n. ◌>>◌ (becomes (λ v. record v { instances = v.executed; executed = [] })) (give n)) ≡ Gives nodes after_it → after_it.instances ≡ all → Each_first all all → Tracks_so all w o p → nodes_given p ≡ nodes
passed all w (Gives n u) p nodes after_it e i each r =
    let same : u.executed ≡ all = ap instances_left e ∙ i in
    ap nodes_given (r.1 (subst (λ l. Each_first all l) (sym same) each)) ∙ ap nodes_there e
passed all w (Stops why u) p nodes after_it e i each r = absurd (false≢true (ap gave e))

pub tree_is_passed : Laws.TreeIsPassed
tree_is_passed program levels w after_it nodes e each =
    let all = after_it.instances in
    let begun : Session = record w { executed = []; mounted = false } in
    passed all begun (expand_app (take_or_mount program called_anew levels) program.app begun) (expand_app (view_at all) program.app tt) nodes after_it e refl each
    (expands all (take_or_mount program called_anew levels) (view_at all) (visits program levels all) program.app begun)
