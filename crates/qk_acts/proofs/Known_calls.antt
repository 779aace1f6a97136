-- The known calls, put together.
use Rattle.std.proofs.Common.{◌≡◌, ◌<◌, ◌≤◌, ℕ, Bool, true, false, not, List, [], ◌∷◌, ◌++◌, length, map, get_or, Some, None, Result, Ok, Err, refl, ap, ◌∙◌, sym, subst, arith}
use denote.Enum.Bare.{sameb}
use Rattle.std.proofs.lemmas.Bool.{false≢true}
use Rattle.qk_ast.specs.declared.Known.{Known}
use Rattle.qk_meaning.specs.Value as M
use Rattle.qk_meaning.specs.Value.{Site}
use Rattle.qk_meaning.specs.Parts.{names_of}
use Rattle.qk_meaning.specs.World as W
use Rattle.qk_meaning.specs.World.{Loc, Keys}
use Rattle.qk_meaning.specs.Fault as F
use Rattle.qk_meaning.specs.Operators.{Answer, Is, Fails, text_of}
use Rattle.qk_meaning.specs.Heap.{is_made, object_at}
use Rattle.qk_meaning.specs.Happening.{Did_print}
use Rattle.qk_meaning.specs.Doing.{Doing, Gives, after, give, fault, chosen}
use Rattle.qk_meaning.specs.Running.{Running, answered, printed, locations_read}
use Rattle.qk_meaning.specs.Setting.{Setting, is_effect}
use Rattle.qk_meaning.specs.Methods.{object_keys, keys_in, as_values, keys_listed}
use Rattle.qk_meaning.specs.Making.{made_list}
use Rattle.qk_meaning.specs.Calls.{line_logged, known_called}
use Rattle.qk_value.specs.declared.value.Value.{Value}
use Rattle.qk_value.specs.declared.value.Value.TheVariants as v
use Rattle.qk_value.specs.declared.value.Fun.{Fun}
use Rattle.qk_value.specs.declared.value.FunCode.{FunCode}
use Rattle.qk_value.specs.declared.value.Elem.{Elem}
use Rattle.qk_value.specs.declared.fault.Fault.TheVariants.{TypeMismatch, RenderLog}
use Rattle.qk_value.specs.View.{seen, seen_all, seen_fields, function, fits, plain_of, plain_site}
use Rattle.qk_value.proofs.Viewing.{seen-Record, seen-Fun, seen-Elem}
use Rattle.qk_ops.specs.declared.stop.OpStop.{OpStop}
use Rattle.qk_ops.specs.Answering.{Gave}
use Rattle.qk_heap.specs.Told.{Told, Besides, all_read}
use Rattle.qk_heap.specs.Names.{object_names}
use Rattle.qk_heap.proofs.Read_laws.{keys_listed as key_list}
use Rattle.qk_code.specs.declared.mode.Mode.{Mode}
use Rattle.qk_code.specs.contracts.mode.Mode.{the_type}
use Rattle.qk_code.specs.declared.stop.Stop.{Stop}
use Rattle.qk_code.specs.declared.stop.Stop.TheVariants.{Fault}
use Rattle.qk_code.specs.Stops.{stop_on}
use Rattle.qk_code.specs.Modes.{mode_seen}
use Rattle.qk_code.specs.Asked.{Goes_on}
use Rattle.qk_making.specs.Acting.{Comes_to, Acts, Makes, seen_in}
use Rattle.qk_making.proofs.Acting.{acts_then, acts_err, acts_same, acts_made, acts_left, acts_gives, acts_faults, acts_reads, acts_prints}
use Rattle.qk_acts.specs.Ways.{only_of}
use Rattle.qk_acts.specs.Keying.{keys_read}
use Rattle.qk_acts.proofs.Array_changes.{only_is}

-- ---- answers

-- what stops an operator stops what comes of its answer
pub comes_unanswered : {A B C D : Type 0} (seen' : A → B) (view : D → C) (answer : Answer C) (next : C → Doing Running B) (e : OpStop) (r : Result A Stop) (s : Running) → r ≡ Err (stop_on e) → Gave view answer (Err e) → Comes_to seen' (after (answered answer s) next) r s
comes_unanswered seen' view answer next (OpStop.Fault f) r s stopped gave = rw stopped (ap (λ x. after (answered x s) next) gave)
comes_unanswered seen' view answer next OpStop.Memory r s stopped gave = rw stopped tt

-- an answer that is no result
pub comes_refused : {A B : Type 0} (view : A → B) (answer : Answer B) (e : OpStop) (r : Result A Stop) (s : Running) → r ≡ Err (stop_on e) → Gave view answer (Err e) → Comes_to view (answered answer s) r s
comes_refused view answer (OpStop.Fault f) r s stopped gave = rw stopped (ap (λ x. answered x s) gave)
comes_refused view answer OpStop.Memory r s stopped gave = rw stopped tt

-- ---- modes

pub in_effect : (mode : Mode) → false ≡ not (sameb the_type mode Mode.Effect) → is_effect (mode_seen mode) ≡ true
in_effect Mode.Effect e = refl
in_effect Mode.Pure e = absurd (false≢true e)
in_effect Mode.Track e = absurd (false≢true e)

pub not_in_effect : (mode : Mode) → true ≡ not (sameb the_type mode Mode.Effect) → is_effect (mode_seen mode) ≡ false
not_in_effect Mode.Effect e = absurd (false≢true (sym e))
not_in_effect Mode.Pure e = refl
not_in_effect Mode.Track e = refl

-- ---- what calls are given

-- two arguments
pub two_given : (all : List Value) (a b : Value) → 2 ≤ length all → length all < 3 → a ≡ get_or all 0 a → b ≡ get_or all 1 b → all ≡ a ∷ (b ∷ [])
two_given [] a b least below first second = absurd (omega (arith, least))
two_given (x ∷ []) a b least below first second = absurd (omega (arith, least))
two_given (x ∷ (y ∷ [])) a b least below first second = rw (first, second) refl
two_given (x ∷ (y ∷ (z ∷ rest))) a b least below first second = absurd (omega (arith, below))

module _ (here : Setting) where
  -- ---- another number of arguments

  pub not_logged : (arguments : List Value) → only_of arguments ≡ None → known_called here Known.Log (map (seen_in here) arguments) ≡ fault F.TypeMismatch
  not_logged [] e = refl
  not_logged (a ∷ []) e = cc
  not_logged (a ∷ (b ∷ rest)) e = refl

  pub not_listed : (arguments : List Value) → only_of arguments ≡ None → known_called here Known.Keys (map (seen_in here) arguments) ≡ fault F.TypeMismatch
  not_listed [] e = refl
  not_listed (a ∷ []) e = cc
  not_listed (a ∷ (b ∷ rest)) e = refl

  -- ---- `console.log`

  pub acts_logged : (v : Value) (line : M.Text) (objects : List W.Object) (told told' : List Told → Type 0) (arguments : List Value) → only_of arguments ≡ Some v → is_effect here.mode ≡ true → text_of (seen_in here v) ≡ Is line → Goes_on told told' (Besides (Did_print line) ∷ [])
      → Acts (seen_in here) (known_called here Known.Log (map (seen_in here) arguments)) objects told (Ok Value.Undefined) objects told'
  acts_logged v line objects told told' arguments given effect is goes =
      rw (only_is arguments v given) (acts_same (seen_in here) (λ s. after (printed line s) (λ u. give M.Undefined)) _ objects objects told told' (Ok Value.Undefined)
      (λ s same. sym (ap (λ b. chosen b (line_logged (seen_in here v)) (fault F.RenderLog) s) effect ∙ ap (λ x. after (answered x s) (λ t u. after (printed t u) (λ w. give M.Undefined))) is))
      (acts_then (λ (u : Unit {0}). u) (seen_in here) (printed line) (λ u. give M.Undefined) objects objects objects told told' told' tt (Ok Value.Undefined)
      (acts_prints line objects told told' goes)
      (acts_gives (seen_in here) (give M.Undefined) objects told' (Ok Value.Undefined) Value.Undefined refl (λ s same. refl))))

  pub acts_unlogged : (v : Value) (objects : List W.Object) (told : List Told → Type 0) (arguments : List Value) (r : Result Value Stop) (e : OpStop) → r ≡ Err (stop_on e) → only_of arguments ≡ Some v → is_effect here.mode ≡ true
      → Gave (λ (t : M.Text). t) (text_of (seen_in here v)) (Err e) → Acts (seen_in here) (known_called here Known.Log (map (seen_in here) arguments)) objects told r objects told
  acts_unlogged v objects told arguments r e stopped given effect gave =
      rw (only_is arguments v given) (acts_left (seen_in here) _ objects told r
      (λ s same. subst (λ b. Comes_to (seen_in here) (chosen b (line_logged (seen_in here v)) (fault F.RenderLog) s) r s) (sym effect) (comes_unanswered (seen_in here) (λ (t : M.Text). t) (text_of (seen_in here v)) (λ t u. after (printed t u) (λ w. give M.Undefined)) e r s stopped gave)))

  pub acts_unfit : (v : Value) (objects : List W.Object) (told : List Told → Type 0) (arguments : List Value) (r : Result Value Stop) → r ≡ Err (Fault RenderLog) → only_of arguments ≡ Some v → is_effect here.mode ≡ false
      → Acts (seen_in here) (known_called here Known.Log (map (seen_in here) arguments)) objects told r objects told
  acts_unfit v objects told arguments r stopped given effect =
      rw (only_is arguments v given) (acts_faults (seen_in here) _ objects told r RenderLog stopped (λ s same. ap (λ b. chosen b (line_logged (seen_in here v)) (fault F.RenderLog) s) effect))

  -- ---- `Object.keys`

  -- the names are read, then the list is made
  listed_so : (v : M.Value) (s : Running) → after (keys_read v s) (made_list here) ≡ keys_listed here v s
  listed_so v s = by (keys_in s.heap v)
    where
      by : (answer : Answer (List M.Text × List Loc)) → after (after (answered answer s) (λ keys t. after (locations_read keys.1 t) (λ u. give (as_values keys.0)))) (made_list here) ≡ after (answered answer s) (λ keys t. after (locations_read keys.1 t) (λ u. made_list here (as_values keys.0)))
      by (Is keys) = refl
      by (Fails f) = refl

  module _ (v : Value) (objects objects' : List W.Object) (told told' : List Told → Type 0) (arguments : List Value) (given : only_of arguments ≡ Some v) (r : Result Value Stop) where
    pub acts_listed : (all : List Value) → Acts (map (seen_in here)) (keys_read (seen_in here v)) objects told (Ok all) objects told' → Makes (seen_in here) (made_list here (map (seen_in here) all)) objects r objects'
        → Acts (seen_in here) (known_called here Known.Keys (map (seen_in here) arguments)) objects told r objects' told'
    acts_listed all h k =
        rw (only_is arguments v given) (acts_same (seen_in here) _ _ objects objects' told told' r (λ s same. listed_so (seen_in here v) s)
        (acts_then (map (seen_in here)) (seen_in here) (keys_read (seen_in here v)) (made_list here) objects objects objects' told told' told' all r h (acts_made (seen_in here) (made_list here (map (seen_in here) all)) objects objects' told' r k)))

    pub acts_unlisted : (e : Stop) → r ≡ Err e → Acts {A = List Value} (map (seen_in here)) (keys_read (seen_in here v)) objects told (Err e) objects told'
        → Acts (seen_in here) (known_called here Known.Keys (map (seen_in here) arguments)) objects told r objects told'
    acts_unlisted e stopped h =
        rw (only_is arguments v given) (acts_same (seen_in here) _ _ objects objects told told' r (λ s same. listed_so (seen_in here v) s)
        (acts_err (map (seen_in here)) (seen_in here) (keys_read (seen_in here v)) (made_list here) objects objects told told' r e stopped h))

  module _ (w : M.Value) (objects : List W.Object) where
    -- these are the names, and their location is read
    pub acts_keys : (names : List M.Text) (locations : List Loc) (all : List Value) (told told' : List Told → Type 0) → keys_in objects w ≡ Is (names, locations) → map (seen_in here) all ≡ as_values names → Goes_on told told' (all_read locations)
        → Acts (map (seen_in here)) (keys_read w) objects told (Ok all) objects told'
    acts_keys names locations all told told' is same goes =
        acts_same (map (seen_in here)) (λ s. after (locations_read locations s) (λ u. give (as_values names))) (keys_read w) objects objects told told' (Ok all)
        (λ s here_is. sym (ap (λ x. after (answered x s) (λ keys t. after (locations_read keys.1 t) (λ u. give (as_values keys.0)))) (ap (λ x. keys_in x w) here_is ∙ is)))
        (acts_then (λ (u : Unit {0}). u) (map (seen_in here)) (locations_read locations) (λ u. give (as_values names)) objects objects objects told told' told' tt (Ok all)
        (acts_reads locations objects told told' goes)
        (acts_gives (map (seen_in here)) (give (as_values names)) objects told' (Ok all) all refl (λ s here_is. ap (λ x. Gives x s) (sym same))))

    -- it has no keys
    pub acts_no_keys : {A : Type 0} (seen' : A → List M.Value) (told : List Told → Type 0) (r : Result A Stop) → r ≡ Err (Fault TypeMismatch) → keys_in objects w ≡ Fails F.TypeMismatch → Acts seen' (keys_read w) objects told r objects told
    acts_no_keys seen' told r stopped is =
        acts_faults seen' (keys_read w) objects told r TypeMismatch stopped
        (λ s here_is. ap (λ x. after (answered x s) (λ keys t. after (locations_read keys.1 t) (λ u. give (as_values keys.0)))) (ap (λ x. keys_in x w) here_is ∙ is))

-- the keys of the object at an address
pub keys_made : (objects : List W.Object) (a : ℕ) (names : List M.Text) → is_made objects a ≡ true → object_names (object_at objects a) ≡ Some names → keys_in objects (M.Ref a) ≡ Is (names, record { address = a; key = Keys } ∷ [])
keys_made objects a names made has =
    ap (λ b. elim b as (λ x. Answer (List M.Text × List Loc)) [ true ↦ object_keys a (object_at objects a) | false ↦ Fails F.TypeMismatch ]) made
    ∙ key_list a (object_at objects a)
    ∙ ap (λ o. elim o as (λ x. Answer (List M.Text × List Loc)) [ Some all ↦ Is (all, record { address = a; key = Keys } ∷ []) | None ↦ Fails F.TypeMismatch ]) has

pub keys_lacking : (objects : List W.Object) (a : ℕ) → is_made objects a ≡ true → object_names (object_at objects a) ≡ None → keys_in objects (M.Ref a) ≡ Fails F.TypeMismatch
keys_lacking objects a made has =
    ap (λ b. elim b as (λ x. Answer (List M.Text × List Loc)) [ true ↦ object_keys a (object_at objects a) | false ↦ Fails F.TypeMismatch ]) made
    ∙ key_list a (object_at objects a)
    ∙ ap (λ o. elim o as (λ x. Answer (List M.Text × List Loc)) [ Some all ↦ Is (all, record { address = a; key = Keys } ∷ []) | None ↦ Fails F.TypeMismatch ]) has

pub keys_unmade : (objects : List W.Object) (a : ℕ) → is_made objects a ≡ false → keys_in objects (M.Ref a) ≡ Fails F.TypeMismatch
keys_unmade objects a made = ap (λ b. elim b as (λ x. Answer (List M.Text × List Loc)) [ true ↦ object_keys a (object_at objects a) | false ↦ Fails F.TypeMismatch ]) made

-- a function has none
pub keys_of_function : (objects : List W.Object) (captured : Site → List M.Text) (f : Fun) → keys_in objects (seen captured (v.Fun f)) ≡ Fails F.TypeMismatch
keys_of_function objects captured f = ap (keys_in objects) (seen-Fun captured f) ∙ by f.code (seen_all captured f.captures) f.hidden
  where
    plain : (b : Bool) (names : List M.Text) (file : M.Text) (number : ℕ) (values : M.Values) (mark : Bool) → keys_in objects (plain_of b names file number values mark) ≡ Fails F.TypeMismatch
    plain true names file number values mark = refl
    plain false names file number values mark = refl

    by : (code : FunCode) (values : M.Values) (mark : Bool) → keys_in objects (function captured code values mark) ≡ Fails F.TypeMismatch
    by (FunCode.Symbol symbol) values mark = refl
    by (FunCode.Plain file number) values mark = plain (fits (captured (plain_site file number)) values) (captured (plain_site file number)) file number values mark

-- nor has a JSX value
pub keys_of_element : (objects : List W.Object) (captured : Site → List M.Text) (e : Elem) → keys_in objects (seen captured (v.Elem e)) ≡ Fails F.TypeMismatch
keys_of_element objects captured e = ap (keys_in objects) (seen-Elem captured e)

-- those of a record are its names
pub keys_of_record : (objects : List W.Object) (captured : Site → List M.Text) (fields : List (M.Text × Value)) → keys_in objects (seen captured (v.Record fields)) ≡ Is (names_of (seen_fields captured fields), [])
keys_of_record objects captured fields = ap (keys_in objects) (seen-Record captured fields)

-- ---- names as values

seen_more : (names : Site → List M.Text) (all : List Value) (v : Value) → map (seen names) (all ++ v ∷ []) ≡ map (seen names) all ++ seen names v ∷ []
seen_more names [] v = refl
seen_more names (w ∷ all) v = ap (λ l. seen names w ∷ l) (seen_more names all v)

values_more : (all : List M.Text) (t : M.Text) → as_values (all ++ t ∷ []) ≡ as_values all ++ M.Words t ∷ []
values_more [] t = refl
values_more (u ∷ all) t = ap (λ l. M.Words u ∷ l) (values_more all t)

-- one text more
pub text_put : (names : Site → List M.Text) (done done' : List Value) (given given' : List M.Text) (t : M.Text) → done' ≡ done ++ Value.Text t ∷ [] → given' ≡ given ++ t ∷ [] → map (seen names) done ≡ as_values given → map (seen names) done' ≡ as_values given'
text_put names done done' given given' t is more h = rw (is, more) (seen_more names done (Value.Text t) ∙ ap (λ l. l ++ M.Words t ∷ []) h ∙ sym (values_more given t))
