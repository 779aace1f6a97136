-- What is asked of values and objects that stand for one another.
use Rattle.std.specs.Prelude.{◌≡◌, ℕ, Bool, List}
use Rattle.qk_meaning.specs.Value.{Text, Site, Shown, Value, Values, Fields, Ref, end}
use Rattle.qk_meaning.specs.World.{Object, Loc}
use Rattle.qk_meaning.specs.Operators.{is_true, is_function, text_of, binary, decides, unary, stepped, truncated}
use Rattle.qk_meaning.specs.Same.{weight, depth}
use Rattle.qk_meaning.specs.Heap.{read_member}
use Rattle.qk_meaning.specs.Writing.{in_the_way, written, deleted}
use Rattle.qk_meaning.specs.Changes.{changed_in}
use Rattle.qk_meaning.specs.Markup.{markup_fault, element}
use Rattle.qk_meaning.specs.Parts.{in_listing_order}
use Rattle.qk_meaning.specs.Setting.{is_running}
use Rattle.qk_meaning.specs.Methods.{method_of, items_in, locations_in, is_list, keys_in, joined_text}
use Rattle.qk_meaning.specs.Calls.{marked}
use Rattle.qk_meaning.specs.Ties.{Ties, Paired, Shown_as, Stands, All_stand, Fields_stand, Pairwise, Object_stands, Loc_stands}
use Rattle.qk_meaning.specs.Worlds_stand.{Heaps_stand}
use Rattle.qk_alike.specs.Meanings_stand.{Both_answer, Reads_stand, Becomings_stand}

-- keys with what is read for them
pub record Keys_stand (t : Ties) (k l : List Text × List Loc) : Type 0 where
  pub names : k.0 ≡ l.0
  pub locations : Pairwise (Loc_stands t) k.1 l.1

-- what is asked of values and objects that stand for one another
pub record Facts (t : Ties) (captures captures' : Site → List Text) : Type 0 where
  pub truths : {v w : Value} → Stands t v w → is_true v ≡ is_true w
  pub functions : {v w : Value} → Stands t v w → is_function v ≡ is_function w
  pub texts : {v w : Value} → Stands t v w → text_of v ≡ text_of w
  pub joins : {v w : Value} → Stands t v w → joined_text v ≡ joined_text w
  pub weights : {v w : Value} → Stands t v w → weight captures v ≡ weight captures' w
  pub depths : {v w : Value} → Stands t v w → depth captures v ≡ depth captures' w
  pub decided : (op : _) {v w : Value} → Stands t v w → decides op v ≡ decides op w
  pub binaries : (op : _) {v v' w w' : Value} → Stands t v v' → Stands t w w' → Both_answer (Stands t) (binary op v w) (binary op v' w')
  pub unaries : (op : _) {v v' : Value} → Stands t v v' → Both_answer (Stands t) (unary op v) (unary op v')
  pub steps : (up : Bool) {v v' : Value} → Stands t v v' → Both_answer (Stands t) (stepped up v) (stepped up v')
  pub truncates : {v v' w w' : Value} → Stands t v v' → Stands t w w' → Both_answer (Stands t) (truncated v w) (truncated v' w')
  pub marks : {v w : Value} → Stands t v w → Both_answer (Stands t) (marked v) (marked w)
  pub methods : {h h' : List Object} {v w k l : Value} → Heaps_stand t h h' → Stands t v w → Stands t k l → method_of h v k ≡ method_of h' w l
  pub items : {h h' : List Object} {v w : Value} → Heaps_stand t h h' → Stands t v w → Pairwise (Stands t) (items_in h v) (items_in h' w)
  pub locations : {h h' : List Object} {v w : Value} → Heaps_stand t h h' → Stands t v w → Pairwise (Loc_stands t) (locations_in h v) (locations_in h' w)
  pub lists : {h h' : List Object} {v w : Value} → Heaps_stand t h h' → Stands t v w → is_list h v ≡ is_list h' w
  pub keys : {h h' : List Object} {v w : Value} → Heaps_stand t h h' → Stands t v w → Both_answer (Keys_stand t) (keys_in h v) (keys_in h' w)
  pub members : {h h' : List Object} {v w k l : Value} → Heaps_stand t h h' → Stands t v w → Stands t k l → Reads_stand t (read_member h v k) (read_member h' w l)
  pub ways : {h h' : List Object} {a b : ℕ} (effect : Bool) → Heaps_stand t h h' → Paired t.pairing a b → in_the_way effect h (Ref a) ≡ in_the_way effect h' (Ref b)
  pub writes : {x x' : Object} {v w k l : Value} → Object_stands t x x' → Stands t k l → Stands t v w → Becomings_stand t (written x k v) (written x' l w)
  pub deletes : {x x' : Object} {k l : Value} → Object_stands t x x' → Stands t k l → Becomings_stand t (deleted x k) (deleted x' l)
  pub changes : {x x' y y' : Object} → Object_stands t x x' → Object_stands t y y' → changed_in captures x y ≡ changed_in captures' x' y'
  pub under_way : {a b : ℕ} {all all' : List ℕ} → Paired t.pairing a b → Pairwise (Paired t.pairing) all all' → is_running a all ≡ is_running b all'
  pub listing : {f g : Fields} → Fields_stand t f g → Fields_stand t (in_listing_order end f) (in_listing_order end g)
  pub markup_faults : {x y : Shown} {f g : Fields} {all all' : Values} → Shown_as t.sites x y → Fields_stand t f g → All_stand t all all' → markup_fault x f all ≡ markup_fault y g all'
  pub elements : {x y : Shown} {f g : Fields} {all all' : Values} → Shown_as t.sites x y → Fields_stand t f g → All_stand t all all' → Stands t (element x f all) (element y g all')
