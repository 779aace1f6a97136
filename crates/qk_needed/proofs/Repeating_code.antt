-- A doing and its repetition in another heap, for every form of code in a mode in which nothing is written.
use Rattle.std.specs.Prelude.{◌≡◌, refl, ◌==◌, ◌||◌, ◌≤◌, ℕ, zero, suc, ◌+◌, ℤ, pos, negsuc, nat_lt, codes, if◌then◌else◌, Bool, true, false, List, [], ◌∷◌, length, drop, Option, Some, None}
use Rattle.std.proofs.Common.{sym, ap, ap₂, subst, ◌∙◌, arith}
use Rattle.qk_ast.specs.declared.Pattern.{Pattern}
use Rattle.qk_ast.specs.declared.Tag.{Tag}
use Rattle.qk_ast.specs.declared.Known.{Known}
use Rattle.qk_ast.specs.declared.AssignOp.{AssignOp}
use Rattle.qk_ast.specs.declared.Expr.{Expr, Row_of-Expr, end_of-Expr, more_of-Expr, Row_of-Field, end_of-Field, more_of-Field, Row_of-Operand, end_of-Operand, more_of-Operand, Row_of-Link, end_of-Link, more_of-Link, more_of-Arrow, more_of-Jsx}
use Rattle.qk_ast.specs.declared.Stmt.{Stmt, Block' as Statement_block', Row_of-Stmt, end_of-Stmt, more_of-Stmt, None', Some'}
use Rattle.qk_ast.specs.declared.Link.{Link}
use Rattle.qk_ast.specs.declared.Jsx.{Jsx, Jsx'}
use Rattle.qk_ast.specs.declared.Body.{Body, Block' as Body_block'}
use Rattle.qk_meaning.specs.Value.{Text, Value, Values, Fields, Undefined, Null, Truth, Int, Words, Ref, Items, Record, Elem, Closure, Lifted, end, field}
use Rattle.qk_meaning.specs.World.{Object, Plain, Array, Signal, Props, Loc, Key, Prop, Keys, Length, Index}
use Rattle.qk_meaning.specs.Fault.{ComputedCycle, NoProperty, TypeMismatch, FixedWrite, RenderWrite, RenderLog}
use Rattle.qk_meaning.specs.Texts.{joined}
use Rattle.qk_meaning.specs.Operators.{Answer, Fails, is_true, text_of, short_text, binary, unary, stepped, decides}
use Rattle.qk_meaning.specs.Parts.{packed, listed, zipped, nth, replaced, value_at, names_of}
use Rattle.qk_ast.specs.Names.{declared_in}
use Rattle.qk_ast.specs.Texts.{same_text}
use Rattle.qk_meaning.specs.Heap.{is_made, object_at, Member_read, Found, Runs, Not_there, read_member, read_object, at_name, only, at_index, index_location, Name_of_key, Name_is, Refused_as, name_of_key, Key_kind, Named, Numbered, Neither, key_kind, indexes_from, whole_array}
use Rattle.qk_meaning.specs.Writing.{in_the_way, is_state, address_of, written, deleted, cut_place, between}
use Rattle.qk_meaning.specs.Markup.{markup_fault, element}
use Rattle.qk_meaning.specs.Program.{Code, Root, Framework, Holds, Shows, Unknown, Program}
use Rattle.qk_meaning.specs.Doing.{Doing, ◌>>=◌, ◌>>◌, chosen, give, fault, asked}
use Rattle.qk_meaning.specs.Happening.{Which, At_site, Of_symbol, The_track, Hook_kind, Hook_answer, Gives_value, Runs_task, Gives_nothing, Refuses, Computed_so}
use Rattle.qk_meaning.specs.Running.{Running, Mode, Effect, Pure, Track, Outside, unhooked, noted, unless_fault, heap_of, assigned, answered, locations_read}
use Rattle.qk_meaning.specs.Setting.{Entering, Computed_reading, called_anew, Setting, setting_of, is_effect, is_running}
use Rattle.qk_meaning.specs.Making.{made, new_list, made_list, new_record, made_record, made_function, shown_of, tag_told, made_markup, filled}
use Rattle.qk_meaning.specs.References.{Reference, Of, Member, Local, Tracker, Framework_name, use_told, outer_named, named, computed_value, member_value, read, value_of, valued, changed, stored, removed, old_value, combined, fields_bound, bound, all_bound}
use Rattle.qk_meaning.specs.Methods.{Method, Map, Filter, Slice, Join, Push, Pop, Splice, Includes, Starts_with, object_items, items_in, object_locations, locations_in, items_taken, all_items, is_array, is_list, called_on_each, sliced, joined_text, items_joined, if_function, kept, changing, method_called, object_method, method_of, object_keys, keys_in, as_values, keys_listed}
use Rattle.qk_meaning.specs.Hooks.{given_so, hook_called}
use Rattle.qk_meaning.specs.Calls.{Callee, A_value, A_method, The_tracker, The_dollar, The_mark, A_hook, member_callee, callee, is_qrl, tracked, call, known_called}
use Rattle.qk_meaning.specs.Flow.{Flow, Onward, Broke, Continued, Returned, opened, flow_value}
use Rattle.qk_meaning.specs.Evaluation.{refer, followed, lifted_value, values, hole_texts, field_values, chained, markup, ran, all_ran, body_value, own_names, scope_of, parameters_bound, inside, entered, entered_with}
use Rattle.qk_meaning.specs.Standing.{Standing, A_value as Stands, Some_names, A_length, at_key, stands_at}
use Rattle.qk_needed.specs.Deciding.{One_kind, two_plain, two_arrays, two_signals, one_computed, two_props, Kinds_agree, Writes_nothing}
use Rattle.std.proofs.lemmas.Bool.{ltb-false, true≢false, false≢true}
use Rattle.qk_needed.proofs.Repeating_laws as L
use Rattle.qk_needed.proofs.Repeating_laws.{Names, Shared, Own, Relation, All_agree, Under, Laws}

-- ---- what stands the same

abbrev standing_value : Value → Standing → Value
standing_value other (Stands v) = v
standing_value other _ = other

abbrev standing_names : Standing → List Text
standing_names (Some_names all) = all
standing_names _ = []

abbrev standing_length : Standing → ℕ
standing_length (A_length n) = n
standing_length _ = 0

-- a mode in which nothing is written isn't Effect
no_effect : (mode : Mode) → Writes_nothing mode → is_effect mode ≡ false
no_effect Effect q = absurd q
no_effect Pure q = refl
no_effect Track q = refl

abbrev pub Same_there : Object → Object → Key → Type 0
Same_there o o' k = at_key o k ≡ at_key o' k

-- where nothing was made stands an empty plain object
unmade_from : (heap : List Object) (a : ℕ) → length heap ≤ a → object_at heap a ≡ Plain end
unmade_from [] a h = refl
unmade_from (o ∷ heap) zero h = absurd (omega (arith, h))
unmade_from (o ∷ heap) (suc a) h = unmade_from heap a (omega (arith, h))

unmade : (heap : List Object) (a : ℕ) → is_made heap a ≡ false → object_at heap a ≡ Plain end
unmade heap a e = unmade_from heap a (ltb-false a (length heap) e)

module _ (a : ℕ) (G H : List Object) (o o' : Object) (e : object_at G a ≡ o) (e' : object_at H a ≡ o') where
  -- what stands the same at a location of this object
  pub there_at : (k : Key) → stands_at G (record { address = a; key = k }) ≡ stands_at H (record { address = a; key = k }) → Same_there o o' k
  there_at k h = sym (ap (λ x. at_key x k) e) ∙ (h ∙ ap (λ x. at_key x k) e')

-- the same at each index that is read
module _ (a : ℕ) (G H : List Object) (v w : Values) (e : object_at G a ≡ Array v) (e' : object_at H a ≡ Array w) where
  same_items : (n : ℕ) (xs ys : List Value) → length xs ≡ length ys → All_agree G H (indexes_from a n xs)
      → ((k : ℕ) → nth (listed v) (n + k) ≡ nth xs k) → ((k : ℕ) → nth (listed w) (n + k) ≡ nth ys k) → xs ≡ ys
  same_items n [] [] l h p q = refl
  same_items n [] (y ∷ ys) l h p q = absurd (omega (arith, l))
  same_items n (x ∷ xs) [] l h p q = absurd (omega (arith, l))
  same_items n (x ∷ xs) (y ∷ ys) l h p q =
      let here : nth (listed v) n ≡ nth (listed w) n = ap (standing_value Undefined) (there_at a G H (Array v) (Array w) e e' (Index n) h.0) in
      let first : x ≡ y = sym (p 0) ∙ (ap (λ m. nth (listed v) m) (plus_zero n) ∙ (here ∙ (ap (λ m. nth (listed w) m) (sym (plus_zero n)) ∙ q 0))) in
      let rest : xs ≡ ys = same_items (suc n) xs ys (omega (arith, l)) h.1 (λ k. ap (λ m. nth (listed v) m) (sym (plus_suc n k)) ∙ p (suc k)) (λ k. ap (λ m. nth (listed w) m) (sym (plus_suc n k)) ∙ q (suc k)) in
      ap₂ (λ z zs. z ∷ zs) first rest
    where
      plus_zero : (m : ℕ) → m + 0 ≡ m
      plus_zero m = omega arith

      plus_suc : (m k : ℕ) → m + suc k ≡ suc m + k
      plus_suc m k = omega arith

  -- whole arrays that are read agree
  pub same_whole : All_agree G H (whole_array a (listed v)) → listed v ≡ listed w
  same_whole h =
      let lengths : length (listed v) ≡ length (listed w) = ap standing_length (there_at a G H (Array v) (Array w) e e' Length h.0) in
      same_items 0 (listed v) (listed w) lengths h.1 (λ k. ap (λ m. nth (listed v) m) (zero_plus k)) (λ k. ap (λ m. nth (listed w) m) (zero_plus k))
    where
      zero_plus : (k : ℕ) → 0 + k ≡ k
      zero_plus k = omega arith

module _ (outer : List ℕ) (G H : List Object) (K : Relation) (laws : Laws outer G H K) (kinds : Kinds_agree G H) (here : Setting) (quiet : Writes_nothing here.mode) (running' : List ℕ) (enter' : Entering)
    (E : (mode : Mode) → Writes_nothing mode → (f : Value) (arguments : List Value) → K Own Value (here.enter mode here.running f arguments) (enter' mode running' f arguments))
    (computed' : ℕ → Value → Doing Running Value)
    (C : (a : ℕ) (f : Value) → K Own Value (computed_value here a f) (chosen (is_running a running') (fault ComputedCycle) (computed' a f))) where
  open laws use {gives, stops, ends, bind, turn, looks, reads, sees, sets, withins, shared, hooks, sets_hooks}

  -- the same setting, but for the other way of entering and of reading computeds, and for the computeds under way
  abbrev there : Setting
  there = record here { enter = enter'; computed = computed'; running = running' }

  faults : {L : Names} {A : Type 0} (f : _) (m : Doing Running A) → K L A (fault f) m
  faults f m = stops _ m

  -- ---- the heap

  -- of objects of one kind
  abbrev Of_objects : (Object → Object → Type 0) → Type 0
  Of_objects P = (o o' : Object) → One_kind o o' → P o o'

  no_reads : {A : Type 0} (v : A) → K Shared A (◌>>◌ (locations_read []) (give v)) (◌>>◌ (locations_read []) (give v))
  no_reads v = reads [] [] v v (λ h. (refl, refl))

  one_read : (a : ℕ) (k : Key) (v v' : Value) → (stands_at G (record { address = a; key = k }) ≡ stands_at H (record { address = a; key = k }) → v' ≡ v)
      → K Shared Value (member_value here (Found v (record { address = a; key = k } ∷ []))) (member_value there (Found v' (record { address = a; key = k } ∷ [])))
  one_read a k v v' p =
      let locs : List Loc = record { address = a; key = k } ∷ [] in
      reads locs locs v v' (λ (h : All_agree G H locs). (refl, p h.0))

  only_read : (name : Text) (r r' : Member_read) → K Shared Value (member_value here r) (member_value there r') → (key : Value)
      → K Shared Value (member_value here (only name r key)) (member_value there (only name r' key))
  only_read name r r' p key = by_kind (key_kind key)
    where
      by_name : (b : Bool) → K Shared Value (member_value here (elim b [ true ↦ r | false ↦ Not_there NoProperty ])) (member_value there (elim b [ true ↦ r' | false ↦ Not_there NoProperty ]))
      by_name true = p
      by_name false = faults _ _

      by_kind : (k : Key_kind)
          → K Shared Value (member_value here (elim k [ Named t ↦ elim (same_text t name) [ true ↦ r | false ↦ Not_there NoProperty ] | Numbered n ↦ Not_there NoProperty | Neither ↦ Not_there TypeMismatch ]))
          (member_value there (elim k [ Named t ↦ elim (same_text t name) [ true ↦ r' | false ↦ Not_there NoProperty ] | Numbered n ↦ Not_there NoProperty | Neither ↦ Not_there TypeMismatch ]))
      by_kind (Named t) = by_name (same_text t name)
      by_kind (Numbered n) = faults _ _
      by_kind Neither = faults _ _

  fields_read : (a : ℕ) (f g : Fields) → ((t : Text) → stands_at G (record { address = a; key = Prop t }) ≡ stands_at H (record { address = a; key = Prop t }) → value_at t g ≡ value_at t f) → (key : Value)
      → K Shared Value (member_value here (at_name (λ t. Found (value_at t f) (record { address = a; key = Prop t } ∷ [])) key))
      (member_value there (at_name (λ t. Found (value_at t g) (record { address = a; key = Prop t } ∷ [])) key))
  fields_read a f g p key = by_name (name_of_key key)
    where
      by_name : (n : Name_of_key)
          → K Shared Value (member_value here (elim n [ Name_is t ↦ Found (value_at t f) (record { address = a; key = Prop t } ∷ []) | Refused_as x ↦ Not_there x ]))
          (member_value there (elim n [ Name_is t ↦ Found (value_at t g) (record { address = a; key = Prop t } ∷ []) | Refused_as x ↦ Not_there x ]))
      by_name (Name_is t) = one_read a (Prop t) (value_at t f) (value_at t g) (p t)
      by_name (Refused_as x) = faults _ _

  index_read : (a : ℕ) (v w : Values) → object_at G a ≡ Array v → object_at H a ≡ Array w → (n : ℤ)
      → K Shared Value (member_value here (Found (at_index (listed v) n) (index_location a n))) (member_value there (Found (at_index (listed w) n) (index_location a n)))
  index_read a v w e e' (negsuc n) = no_reads Undefined
  index_read a v w e e' (pos n) = by_size (nat_lt n 65536)
    where
      by_size : (b : Bool)
          → K Shared Value (member_value here (Found (if b then nth (listed v) n else Undefined) (if b then record { address = a; key = Index n } ∷ [] else [])))
          (member_value there (Found (if b then nth (listed w) n else Undefined) (if b then record { address = a; key = Index n } ∷ [] else [])))
      by_size true = one_read a (Index n) (nth (listed v) n) (nth (listed w) n) (λ s. sym (ap (standing_value Undefined) (there_at a G H (Array v) (Array w) e e' (Index n) s)))
      by_size false = no_reads Undefined

  array_read : (a : ℕ) (v w : Values) → object_at G a ≡ Array v → object_at H a ≡ Array w → (key : Value)
      → K Shared Value (member_value here (read_object a (Array v) key)) (member_value there (read_object a (Array w) key))
  array_read a v w e e' key = by_kind (key_kind key)
    where
      by_name : (b : Bool)
          → K Shared Value (member_value here (elim b [ true ↦ Found (Int (pos (length (listed v)))) (record { address = a; key = Length } ∷ []) | false ↦ Not_there NoProperty ]))
          (member_value there (elim b [ true ↦ Found (Int (pos (length (listed w)))) (record { address = a; key = Length } ∷ []) | false ↦ Not_there NoProperty ]))
      by_name true = one_read a Length _ _ (λ s. ap (λ n. Int (pos n)) (sym (ap standing_length (there_at a G H (Array v) (Array w) e e' Length s))))
      by_name false = faults _ _

      by_kind : (k : Key_kind)
          → K Shared Value (member_value here (elim k [
            | Named t ↦ elim (same_text t (codes "length")) [ true ↦ Found (Int (pos (length (listed v)))) (record { address = a; key = Length } ∷ []) | false ↦ Not_there NoProperty ]
            | Numbered n ↦ Found (at_index (listed v) n) (index_location a n)
            | Neither ↦ Not_there TypeMismatch
          ])) (member_value there (elim k [
            | Named t ↦ elim (same_text t (codes "length")) [ true ↦ Found (Int (pos (length (listed w)))) (record { address = a; key = Length } ∷ []) | false ↦ Not_there NoProperty ]
            | Numbered n ↦ Found (at_index (listed w) n) (index_location a n)
            | Neither ↦ Not_there TypeMismatch
          ]))
      by_kind (Named t) = by_name (same_text t (codes "length"))
      by_kind (Numbered n) = index_read a v w e e' n
      by_kind Neither = faults _ _

  object_read : (a : ℕ) (key : Value) (o o' : Object) → object_at G a ≡ o → object_at H a ≡ o' → One_kind o o'
      → K Shared Value (member_value here (read_object a o key)) (member_value there (read_object a o' key))
  object_read a key _ _ e e' (two_plain {f} {g}) = fields_read a f g (λ t s. sym (ap (standing_value Undefined) (there_at a G H (Plain f) (Plain g) e e' (Prop t) s))) key
  object_read a key _ _ e e' (two_props {f} {g}) = fields_read a f g (λ t s. sym (ap (standing_value Undefined) (there_at a G H (Props f) (Props g) e e' (Prop t) s))) key
  object_read a key _ _ e e' (two_arrays {v} {w}) = array_read a v w e e' key
  object_read a key _ _ e e' (two_signals {v} {w}) =
      only_read (codes "value") _ _ (one_read a (Prop (codes "value")) v w (λ s. sym (ap (standing_value Undefined) (there_at a G H (Signal v) (Signal w) e e' (Prop (codes "value")) s)))) key
  object_read a key _ _ e e' (one_computed {f}) = only_read (codes "value") (Runs a f) (Runs a f) (shared (C a f)) key

  same_read : (r : Member_read) → K Shared Value (member_value here r) (member_value there r)
  same_read (Found v locs) = reads locs locs v v (λ h. (refl, refl))
  same_read (Runs a f) = shared (C a f)
  same_read (Not_there f) = faults _ _

  -- what is read at an address; where nothing was made in the first nothing is read there
  made_read : (a : ℕ) (key : Value) (b : Bool) → is_made G a ≡ b
      → K Shared Value (member_value here (elim b [ true ↦ read_object a (object_at G a) key | false ↦ Not_there NoProperty ])) (member_value there (read_member H (Ref a) key))
  made_read a key true m =
      subst (λ c. K Shared Value (member_value here (read_object a (object_at G a) key)) (member_value there (elim c as (λ x. Member_read) [ true ↦ read_object a (object_at H a) key | false ↦ Not_there NoProperty ]))) (sym (kinds a m).0)
      (object_read a key (object_at G a) (object_at H a) refl refl (kinds a m).1)
  made_read a key false m = faults _ _

  member_read : (object key : Value) → K Shared Value (member_value here (read_member G object key)) (member_value there (read_member H object key))
  member_read (Ref a) key = made_read a key (is_made G a) refl
  member_read (Record fields) key = same_read (read_member G (Record fields) key)
  member_read (Items all) key = same_read (read_member G (Items all) key)
  member_read (Words t) key = same_read (read_member G (Words t) key)
  member_read Undefined key = faults _ _
  member_read Null key = faults _ _
  member_read (Truth b) key = faults _ _
  member_read (Int n) key = faults _ _
  member_read (Elem shown k slot attributes children) key = faults _ _
  member_read (Closure site scope hidden) key = faults _ _
  member_read (Lifted symbol captured hidden) key = faults _ _

  pub read_lem : (object key : Value) → K Shared Value (read here object key) (read there object key)
  read_lem object key = looks (λ heap. member_value here (read_member heap object key)) (λ heap. member_value there (read_member heap object key)) (member_read object key)

  -- ---- items and keys

  -- an array was made
  array_made : (a : ℕ) → is_array (object_at G a) ≡ true → is_made G a ≡ true
  array_made a q = go (is_made G a) refl
    where
      go : (b : Bool) → is_made G a ≡ b → b ≡ true
      go true m = refl
      go false m = absurd (false≢true (sym (ap is_array (unmade G a m)) ∙ q))

  -- what is read of the items of a list or array
  items_read : (v : Value) → is_list G v ≡ true → All_agree G H (locations_in G v) → (locations_in H v ≡ locations_in G v) × (items_in H v ≡ items_in G v)
  items_read (Ref a) q h = by_objects (object_at G a) (object_at H a) refl refl (kinds a (array_made a q)).1 h
    where
      by_objects : (o o' : Object) → object_at G a ≡ o → object_at H a ≡ o' → One_kind o o' → All_agree G H (object_locations a o)
          → (object_locations a o' ≡ object_locations a o) × (object_items o' ≡ object_items o)
      by_objects _ _ e e' two_plain h = (refl, refl)
      by_objects _ _ e e' two_props h = (refl, refl)
      by_objects _ _ e e' two_signals h = (refl, refl)
      by_objects _ _ e e' one_computed h = (refl, refl)
      by_objects _ _ e e' (two_arrays {v} {w}) h =
          let same : listed w ≡ listed v = sym (same_whole a G H v w e e' h) in
          (ap (λ all. whole_array a all) same, same)
  items_read (Items all) q h = (refl, refl)
  items_read Undefined q h = (refl, refl)
  items_read Null q h = (refl, refl)
  items_read (Truth b) q h = (refl, refl)
  items_read (Int n) q h = (refl, refl)
  items_read (Words t) q h = (refl, refl)
  items_read (Record fields) q h = (refl, refl)
  items_read (Elem shown k slot attributes children) q h = (refl, refl)
  items_read (Closure site scope hidden) q h = (refl, refl)
  items_read (Lifted symbol captured hidden) q h = (refl, refl)

  same_array : (o o' : Object) → One_kind o o' → is_array o' ≡ is_array o
  same_array _ _ two_plain = refl
  same_array _ _ two_props = refl
  same_array _ _ two_signals = refl
  same_array _ _ one_computed = refl
  same_array _ _ two_arrays = refl

  same_list : (v : Value) → is_list G v ≡ true → is_list H v ≡ true
  same_list (Ref a) q = same_array (object_at G a) (object_at H a) (kinds a (array_made a q)).1 ∙ q
  same_list (Items all) q = refl
  same_list _ q = absurd (false≢true q)

  pub all_items_lem : (v : Value) → K Shared (List Value) (all_items v) (all_items v)
  all_items_lem v = looks doing doing (by_list (is_list G v) refl)
    where
      doing : List Object → Doing Running (List Value)
      doing heap = chosen (is_list heap v) (items_taken heap v) (fault TypeMismatch)

      by_list : (b : Bool) → is_list G v ≡ b → K Shared (List Value) (chosen b (items_taken G v) (fault TypeMismatch)) (doing H)
      by_list true q = subst (λ c. K Shared (List Value) (items_taken G v) (chosen c (items_taken H v) (fault TypeMismatch))) (sym (same_list v q)) (reads (locations_in G v) (locations_in H v) (items_in G v) (items_in H v) (items_read v q))
      by_list false q = faults _ _

  same_method : (t : Text) (o o' : Object) → One_kind o o' → object_method o' t ≡ object_method o t
  same_method t _ _ two_plain = refl
  same_method t _ _ two_props = refl
  same_method t _ _ two_signals = refl
  same_method t _ _ one_computed = refl
  same_method t _ _ two_arrays = refl

  -- an object that is named was made in the first
  abbrev Made_there : Value → Type 0
  Made_there (Ref a) = is_made G a ≡ true
  Made_there _ = Unit {0}

  same_methods : (object key : Value) → Made_there object → method_of H object key ≡ method_of G object key
  same_methods (Ref a) (Words t) m = same_method t (object_at G a) (object_at H a) (kinds a m).1
  same_methods (Ref a) Undefined m = refl
  same_methods (Ref a) Null m = refl
  same_methods (Ref a) (Truth b) m = refl
  same_methods (Ref a) (Int n) m = refl
  same_methods (Ref a) (Ref b) m = refl
  same_methods (Ref a) (Items all) m = refl
  same_methods (Ref a) (Record fields) m = refl
  same_methods (Ref a) (Elem shown k slot attributes children) m = refl
  same_methods (Ref a) (Closure site scope hidden) m = refl
  same_methods (Ref a) (Lifted symbol captured hidden) m = refl
  same_methods (Items all) (Words t) m = refl
  same_methods (Items all) Undefined m = refl
  same_methods (Items all) Null m = refl
  same_methods (Items all) (Truth b) m = refl
  same_methods (Items all) (Int n) m = refl
  same_methods (Items all) (Ref b) m = refl
  same_methods (Items all) (Items others) m = refl
  same_methods (Items all) (Record fields) m = refl
  same_methods (Items all) (Elem shown k slot attributes children) m = refl
  same_methods (Items all) (Closure site scope hidden) m = refl
  same_methods (Items all) (Lifted symbol captured hidden) m = refl
  same_methods (Words u) (Words t) m = refl
  same_methods (Words u) Undefined m = refl
  same_methods (Words u) Null m = refl
  same_methods (Words u) (Truth b) m = refl
  same_methods (Words u) (Int n) m = refl
  same_methods (Words u) (Ref b) m = refl
  same_methods (Words u) (Items others) m = refl
  same_methods (Words u) (Record fields) m = refl
  same_methods (Words u) (Elem shown k slot attributes children) m = refl
  same_methods (Words u) (Closure site scope hidden) m = refl
  same_methods (Words u) (Lifted symbol captured hidden) m = refl
  same_methods Undefined key m = refl
  same_methods Null key m = refl
  same_methods (Truth b) key m = refl
  same_methods (Int n) key m = refl
  same_methods (Record fields) key m = refl
  same_methods (Elem shown k slot attributes children) key m = refl
  same_methods (Closure site scope hidden) key m = refl
  same_methods (Lifted symbol captured hidden) key m = refl

  -- ---- what is made

  pub made_lem : (v : Value) → K Shared Value (made here v) (made there v)
  made_lem v = L.choose outer G H K laws _ (L.choose outer G H K laws _ (gives v) (faults _ _)) (faults _ _)

  new_list_lem : (mode : Mode) → Writes_nothing mode → (all : List Value) → K Shared Value (new_list here mode all) (new_list there mode all)
  new_list_lem Effect q all = absurd q
  new_list_lem Pure q all = made_lem (Items (packed all))
  new_list_lem Track q all = made_lem (Items (packed all))

  pub made_list_lem : (all : List Value) → K Shared Value (made_list here all) (made_list there all)
  made_list_lem all = L.choose outer G H K laws _ (new_list_lem here.mode quiet all) (faults _ _)

  new_record_lem : (mode : Mode) → Writes_nothing mode → (fields : Fields) → K Shared Value (new_record here mode fields) (new_record there mode fields)
  new_record_lem Effect q fields = absurd q
  new_record_lem Pure q fields = made_lem (Record fields)
  new_record_lem Track q fields = made_lem (Record fields)

  pub made_record_lem : (fields : Fields) → K Shared Value (made_record here fields) (made_record there fields)
  made_record_lem fields = L.choose outer G H K laws _ (faults _ _) (L.choose outer G H K laws _ (new_record_lem here.mode quiet _) (faults _ _))

  pub made_function_lem : (place : ℕ) → K Shared Value (made_function here place) (made_function there place)
  made_function_lem place = sees (λ scope. made_lem (here.program.makes (here.program.site here.file place) scope))

  tag_told_lem : (tag : Tag) → K Shared (Unit {0}) (tag_told here tag) (tag_told there tag)
  tag_told_lem (Tag.Element t) = gives tt
  tag_told_lem (Tag.Component t) = L.choose outer G H K laws _ (gives tt) (laws.uses here.file t)
  tag_told_lem Tag.Fragment = gives tt

  pub made_markup_lem : (tag : Tag) (attributes : Fields) (children : List Value) → K Shared Value (made_markup here tag attributes children) (made_markup there tag attributes children)
  made_markup_lem tag attributes children =
      bind (L.unless_faults outer G H K laws (markup_fault (shown_of here tag) attributes (packed children))) (λ u. made_lem (element (shown_of here tag) attributes (packed children)))

  -- ---- nothing is written: something stands in the way of every change

  in_every_way : {B : Type 0} (heap : List Object) (v : Value) (m : Unit {0} → Doing Running B) (m' : Doing Running B) (b : Bool) → b ≡ false → K Shared B (◌>>=◌ (unless_fault (in_the_way b heap v)) m) m'
  in_every_way heap v m m' true e = absurd (true≢false e)
  in_every_way {B} heap (Ref a) m m' false e = by_state (is_made heap a) (is_state (object_at heap a))
    where
      by_state : (c b : Bool) → K Shared B (◌>>=◌ (unless_fault (elim c [ false ↦ Some NoProperty | true ↦ elim b [ false ↦ Some FixedWrite | true ↦ Some RenderWrite ] ])) m) m'
      by_state true true = stops _ _
      by_state true false = stops _ _
      by_state false b = stops _ _
  in_every_way heap Undefined m m' false e = stops _ _
  in_every_way heap Null m m' false e = stops _ _
  in_every_way heap (Truth b) m m' false e = stops _ _
  in_every_way heap (Int n) m m' false e = stops _ _
  in_every_way heap (Words t) m m' false e = stops _ _
  in_every_way heap (Items all) m m' false e = stops _ _
  in_every_way heap (Record fields) m m' false e = stops _ _
  in_every_way heap (Elem shown k slot attributes children) m m' false e = stops _ _
  in_every_way heap (Closure site scope hidden) m m' false e = stops _ _
  in_every_way heap (Lifted symbol captured hidden) m m' false e = stops _ _

  -- a doing that first tries what stands in the way
  guarded : {B : Type 0} (v : Value) (m m' : List Object → Doing Running B)
      → K Shared B (◌>>=◌ (asked heap_of) (λ heap. ◌>>=◌ (unless_fault (in_the_way (is_effect here.mode) heap v)) (λ u. m heap))) (◌>>=◌ (asked heap_of) (λ heap. ◌>>=◌ (unless_fault (in_the_way (is_effect here.mode) heap v)) (λ u. m' heap)))
  guarded v m m' =
      looks (λ heap. ◌>>=◌ (unless_fault (in_the_way (is_effect here.mode) heap v)) (λ u. m heap)) (λ heap. ◌>>=◌ (unless_fault (in_the_way (is_effect here.mode) heap v)) (λ u. m' heap))
      (in_every_way G v (λ u. m G) _ (is_effect here.mode) (no_effect here.mode quiet))

  assigned_lem : (name : Text) (v : Value) → K Shared (Unit {0}) (assigned name v) (assigned name v)
  assigned_lem name v = sets (replaced name v)

  pub stored_lem : (r : Reference) (v : Value) → K Shared (Unit {0}) (stored here r v) (stored there r v)
  stored_lem (Member object key) v = guarded object (λ heap. changed here (address_of object) (λ o. written o key v)) (λ heap. changed there (address_of object) (λ o. written o key v))
  stored_lem (Local name) v = assigned_lem name v
  stored_lem (Of w) v = gives tt
  stored_lem Tracker v = gives tt
  stored_lem (Framework_name name) v = gives tt

  pub removed_lem : (r : Reference) → K Shared (Unit {0}) (removed here r) (removed there r)
  removed_lem (Member object key) = guarded object (λ heap. changed here (address_of object) (λ o. deleted o key)) (λ heap. changed there (address_of object) (λ o. deleted o key))
  removed_lem (Local name) = gives tt
  removed_lem (Of w) = gives tt
  removed_lem Tracker = gives tt
  removed_lem (Framework_name name) = gives tt

  changing_lem : (v : Value) (m m' : Doing Running Value) → K Shared Value (changing (is_effect here.mode) v m) (changing (is_effect here.mode) v m')
  changing_lem v m m' = guarded v (λ heap. m) (λ heap. m')

  -- ---- names and references

  use_told_lem : (name : Text) (r : Root) → K Shared (Unit {0}) (use_told here name r) (use_told there name r)
  use_told_lem name (Framework f) = gives tt
  use_told_lem name (Holds v) = laws.uses here.file name
  use_told_lem name (Shows shown) = laws.uses here.file name
  use_told_lem name Unknown = laws.uses here.file name

  outer_lem : (name : Text) → K Shared Reference (outer_named here name) (outer_named there name)
  outer_lem name = L.choose outer G H K laws _ (gives _) (bind (use_told_lem name (here.program.root here.file name)) (λ u. gives _))

  pub named_lem : (name : Text) → K Shared Reference (named here name) (named there name)
  named_lem name = sees (λ scope. L.choose outer G H K laws _ (gives _) (outer_lem name))

  pub value_of_lem : (r : Reference) → K Shared Value (value_of here r) (value_of there r)
  value_of_lem (Of v) = gives v
  value_of_lem (Member object key) = read_lem object key
  value_of_lem (Local name) = sees (λ names. gives (value_at name names))
  value_of_lem Tracker = gives _
  value_of_lem (Framework_name name) = gives _

  pub valued_lem : {m m' : Doing Running Reference} → K Shared Reference m m' → K Shared Value (valued here m) (valued there m')
  valued_lem p = bind p (λ r. value_of_lem r)

  pub fields_bound_lem : (names : List Text) (v : Value) → K Shared (Unit {0}) (fields_bound here names v) (fields_bound there names v)
  fields_bound_lem [] v = gives tt
  fields_bound_lem (name ∷ rest) v = bind (read_lem v (Words name)) (λ w. bind (assigned_lem name w) (λ u. fields_bound_lem rest v))

  pub bound_lem : (p : Pattern) (v : Value) → K Shared (Unit {0}) (bound here p v) (bound there p v)
  bound_lem (Pattern.Name name) v = assigned_lem name v
  bound_lem (Pattern.Fields names) v = fields_bound_lem names v
  bound_lem (Pattern.Scope names) v = gives tt

  pub all_bound_lem : (ps : List Pattern) (vs : List Value) → K Shared (Unit {0}) (all_bound here ps vs) (all_bound there ps vs)
  all_bound_lem [] vs = gives tt
  all_bound_lem (p ∷ rest) vs = bind (bound_lem p (nth vs 0)) (λ u. all_bound_lem rest (drop 1 vs))

  -- ---- calls

  pub member_callee_lem : (object key : Value) (m : Option Method) → K Shared Callee (member_callee here object key m) (member_callee there object key m)
  member_callee_lem object key (Some m) = gives _
  member_callee_lem object key None = bind (read_lem object key) (λ f. gives (A_value f))

  callee_made : (object key : Value) → Made_there object → K Shared Callee (member_callee here object key (method_of G object key)) (member_callee there object key (method_of H object key))
  callee_made object key q =
      subst (λ m. K Shared Callee (member_callee here object key (method_of G object key)) (member_callee there object key m)) (sym (same_methods object key q)) (member_callee_lem object key (method_of G object key))

  -- where nothing was made no method is called, and what is read to be called isn't there
  no_method : (a : ℕ) (key : Value) → is_made G a ≡ false → method_of G (Ref a) key ≡ None
  no_method a (Words t) m = ap (λ o. object_method o t) (unmade G a m)
  no_method a _ m = refl

  not_called : (a : ℕ) (key : Value) (m' : Doing Running Callee) → is_made G a ≡ false → K Shared Callee (member_callee here (Ref a) key None) m'
  not_called a key m' m =
      looks (λ heap. ◌>>=◌ (member_value here (read_member heap (Ref a) key)) (λ f. give (A_value f))) (λ heap. m')
      (subst (λ b. K Shared Callee (◌>>=◌ (member_value here (elim b as (λ x. Member_read) [ true ↦ read_object a (object_at G a) key | false ↦ Not_there NoProperty ])) (λ f. give (A_value f))) m') (sym m) (stops _ _))

  callee_at : (object key : Value) → K Shared Callee (member_callee here object key (method_of G object key)) (member_callee there object key (method_of H object key))
  callee_at (Ref a) key = by_made (is_made G a) refl
    where
      by_made : (b : Bool) → is_made G a ≡ b → K Shared Callee (member_callee here (Ref a) key (method_of G (Ref a) key)) (member_callee there (Ref a) key (method_of H (Ref a) key))
      by_made true m = callee_made (Ref a) key m
      by_made false m = subst (λ x. K Shared Callee (member_callee here (Ref a) key x) (member_callee there (Ref a) key (method_of H (Ref a) key))) (sym (no_method a key m)) (not_called a key _ m)
  callee_at object key = callee_made object key tt

  pub callee_lem : (r : Reference) → K Shared Callee (callee here r) (callee there r)
  callee_lem (Member object key) = looks (λ heap. member_callee here object key (method_of heap object key)) (λ heap. member_callee there object key (method_of heap object key)) (callee_at object key)
  callee_lem Tracker = gives _
  callee_lem (Framework_name name) = gives _
  callee_lem (Of v) = gives _
  callee_lem (Local name) = bind (value_of_lem (Local name)) (λ f. gives (A_value f))

  pub called_on_each_lem : (f : Value) (all : List Value) → K Shared (List Value) (called_on_each here f all) (called_on_each there f all)
  called_on_each_lem f all = L.eaches outer G H K laws (λ e. shared (E here.mode quiet f _)) _

  pub if_function_lem : (f : Value) {m m' : Doing Running Value} → K Shared Value m m' → K Shared Value (if_function f m) (if_function f m')
  if_function_lem f p = L.choose outer G H K laws _ p (faults _ _)

  pub sliced_lem : (v : Value) (start : ℤ) (stop : ℕ → ℕ) → K Shared Value (sliced here v start stop) (sliced there v start stop)
  sliced_lem v start stop = bind (all_items_lem v) (λ all. made_list_lem (between all (cut_place (length all) start) (stop (length all))))

  pub items_joined_lem : (v : Value) (separator : Text) → K Shared Value (items_joined v separator) (items_joined v separator)
  items_joined_lem v separator =
      let text_lem : (w : Value) → K Shared Text (answered (joined_text w)) (answered (joined_text w)) = λ w. L.answers outer G H K laws (joined_text w) in
      bind (all_items_lem v) (λ all. bind (L.eaches outer G H K laws text_lem all) (λ texts. L.answers outer G H K laws (short_text (joined separator texts))))

  pub method_called_lem : (m : Method) (v : Value) (arguments : List Value) → K Shared Value (method_called here m v arguments) (method_called there m v arguments)
  method_called_lem Map v (f ∷ []) = if_function_lem f (bind (all_items_lem v) (λ all. bind (called_on_each_lem f all) (λ results. made_list_lem results)))
  method_called_lem Filter v (f ∷ []) = if_function_lem f (bind (all_items_lem v) (λ all. bind (called_on_each_lem f all) (λ results. made_list_lem (kept all results))))
  method_called_lem Slice v [] = sliced_lem v (pos 0) (λ size. size)
  method_called_lem Slice v (Int a ∷ []) = sliced_lem v a (λ size. size)
  method_called_lem Slice v (Int a ∷ (Int b ∷ [])) = sliced_lem v a (λ size. cut_place size b)
  method_called_lem Join v (Words t ∷ []) = items_joined_lem v t
  method_called_lem Push v arguments = changing_lem v _ _
  method_called_lem Pop v arguments = changing_lem v _ _
  method_called_lem Splice v arguments = changing_lem v _ _
  method_called_lem Includes (Words u) (Words t ∷ []) = gives _
  method_called_lem Starts_with (Words u) (Words t ∷ []) = gives _
  method_called_lem _ v _ = faults _ _

  -- the keys of an object, and what is read for them
  names_lem : (a : ℕ) (o o' : Object) → object_at G a ≡ o → object_at H a ≡ o' → One_kind o o'
      → K Shared Value (◌>>=◌ (answered (object_keys a o)) (λ keys. ◌>>◌ (locations_read keys.1) (made_list here (as_values keys.0)))) (◌>>=◌ (answered (object_keys a o')) (λ keys. ◌>>◌ (locations_read keys.1) (made_list there (as_values keys.0))))
  names_lem a _ _ e e' (two_plain {f} {g}) =
      let locs : List Loc = record { address = a; key = Keys } ∷ [] in
      bind (reads locs locs (names_of f) (names_of g) (λ (h : All_agree G H locs). (refl, sym (ap standing_names (there_at a G H (Plain f) (Plain g) e e' Keys h.0))))) (λ names. made_list_lem (as_values names))
  names_lem a _ _ e e' (two_props {f} {g}) =
      let locs : List Loc = record { address = a; key = Keys } ∷ [] in
      bind (reads locs locs (names_of f) (names_of g) (λ (h : All_agree G H locs). (refl, sym (ap standing_names (there_at a G H (Props f) (Props g) e e' Keys h.0))))) (λ names. made_list_lem (as_values names))
  names_lem a _ _ e e' two_arrays = stops _ _
  names_lem a _ _ e e' two_signals = stops _ _
  names_lem a _ _ e e' one_computed = stops _ _

  -- the keys at an address; where nothing was made there are none
  made_names : (a : ℕ) (b : Bool) → is_made G a ≡ b
      → K Shared Value (◌>>=◌ (answered (elim b as (λ x. Answer (List Text × List Loc)) [ true ↦ object_keys a (object_at G a) | false ↦ Fails TypeMismatch ])) (λ keys. ◌>>◌ (locations_read keys.1) (made_list here (as_values keys.0))))
      (◌>>=◌ (answered (keys_in H (Ref a))) (λ keys. ◌>>◌ (locations_read keys.1) (made_list there (as_values keys.0))))
  made_names a true m =
      subst (λ c. K Shared Value (◌>>=◌ (answered (object_keys a (object_at G a))) (λ keys. ◌>>◌ (locations_read keys.1) (made_list here (as_values keys.0))))
      (◌>>=◌ (answered (elim c as (λ x. Answer (List Text × List Loc)) [ true ↦ object_keys a (object_at H a) | false ↦ Fails TypeMismatch ])) (λ keys. ◌>>◌ (locations_read keys.1) (made_list there (as_values keys.0))))) (sym (kinds a m).0)
      (names_lem a (object_at G a) (object_at H a) refl refl (kinds a m).1)
  made_names a false m = stops _ _

  listed_keys : List Object → Value → Setting → Doing Running Value
  listed_keys heap v at = ◌>>=◌ (answered (keys_in heap v)) (λ keys. ◌>>◌ (locations_read keys.1) (made_list at (as_values keys.0)))

  keys_lem : (v : Value) → K Shared Value (keys_listed here v) (keys_listed there v)
  keys_lem v = looks (λ heap. ◌>>=◌ (answered (keys_in heap v)) (λ keys. ◌>>◌ (locations_read keys.1) (made_list here (as_values keys.0)))) (λ heap. ◌>>=◌ (answered (keys_in heap v)) (λ keys. ◌>>◌ (locations_read keys.1) (made_list there (as_values keys.0)))) (by_value v)
    where
      by_value : (v : Value)
          → K Shared Value (◌>>=◌ (answered (keys_in G v)) (λ keys. ◌>>◌ (locations_read keys.1) (made_list here (as_values keys.0)))) (◌>>=◌ (answered (keys_in H v)) (λ keys. ◌>>◌ (locations_read keys.1) (made_list there (as_values keys.0))))
      by_value (Ref a) = made_names a (is_made G a) refl
      by_value (Record fields) = bind (reads [] [] (names_of fields) (names_of fields) (λ h. (refl, refl))) (λ names. made_list_lem (as_values names))
      by_value Undefined = stops _ _
      by_value Null = stops _ _
      by_value (Truth b) = stops _ _
      by_value (Int n) = stops _ _
      by_value (Words t) = stops _ _
      by_value (Items all) = stops _ _
      by_value (Elem shown k slot attributes children) = stops _ _
      by_value (Closure site scope hidden) = stops _ _
      by_value (Lifted symbol captured hidden) = stops _ _

  pub tracked_lem : (f : Value) → K Shared Value (tracked here f) (tracked there f)
  tracked_lem f = bind (laws.begins The_track) (λ u. bind (shared (E Track tt f [])) (λ v. bind (laws.leaves The_track) (λ w. gives v)))

  given_so_lem : (answer : Hook_answer) → L.Runs_none answer → K Shared Value (given_so here answer) (given_so there answer)
  given_so_lem (Gives_value v) q = gives v
  given_so_lem (Runs_task f) q = absurd q
  given_so_lem Gives_nothing q = gives Undefined
  given_so_lem (Refuses f) q = faults f _

  pub hook_called_lem : (kind : Hook_kind) (arguments : List Value) → K Shared Value (hook_called here kind arguments) (hook_called there kind arguments)
  hook_called_lem kind arguments = laws.hook_answers kind arguments given_so_lem

  pub call_lem : (c : Callee) (arguments : List Value) → K Shared Value (call here c arguments) (call there c arguments)
  call_lem (A_value f) arguments = L.choose outer G H K laws _ (shared (E here.mode quiet f arguments)) (faults _ _)
  call_lem (A_method m v) arguments = method_called_lem m v arguments
  call_lem (A_hook kind) arguments = hook_called_lem kind arguments
  call_lem The_tracker (f ∷ []) = tracked_lem f
  call_lem The_dollar (f ∷ []) = gives f
  call_lem The_mark (f ∷ []) = L.answers outer G H K laws _
  call_lem _ _ = faults _ _

  known_log : (v : Value) (m m' : Doing Running Value) (b : Bool) → b ≡ false → K Shared Value (chosen b m (fault RenderLog)) m'
  known_log v m m' true e = absurd (true≢false e)
  known_log v m m' false e = faults _ _

  pub known_called_lem : (k : Known) (arguments : List Value) → K Shared Value (known_called here k arguments) (known_called there k arguments)
  known_called_lem Known.Log (v ∷ []) = known_log v _ _ (is_effect here.mode) (no_effect here.mode quiet)
  known_called_lem Known.Keys (v ∷ []) = keys_lem v
  known_called_lem Known.Str (v ∷ []) = bind (L.answers outer G H K laws (text_of v)) (λ t. gives (Words t))
  known_called_lem Known.Trunc (v ∷ (w ∷ [])) = L.answers outer G H K laws _
  known_called_lem _ _ = faults _ _

  old_values : (op : AssignOp) {m m' : Doing Running Value} → K Shared Value m m' → K Shared Value (old_value op m) (old_value op m')
  old_values AssignOp.Set p = gives Undefined
  old_values AssignOp.Add p = p
  old_values AssignOp.Sub p = p
  old_values AssignOp.Mul p = p

  mutual
    pub refers : (e : Expr) → K Shared Reference (refer e here) (refer e there)
    refers Expr.Undefined = gives _
    refers Expr.Null = gives _
    refers (Expr.Bool b) = gives _
    refers (Expr.Int n) = gives _
    refers (Expr.Text t) = gives _
    refers (Expr.Name name) = named_lem name
    refers (Expr.List' _ items) = bind (all_values items) (λ vs. bind (made_list_lem vs) (λ v. gives (Of v)))
    refers (Expr.Record' _ fields) = bind (all_fields fields) (λ vs. bind (made_record_lem vs) (λ v. gives (Of v)))
    refers (Expr.Template' parts _ holes) = bind (all_holes holes) (λ texts. bind (L.answers outer G H K laws (short_text (filled parts texts))) (λ v. gives (Of v)))
    refers (Expr.Unary' operator _ (more_of-Expr e _)) = bind (valued_lem (refers e)) (λ v. bind (L.answers outer G H K laws (unary operator v)) (λ w. gives (Of w)))
    refers (Expr.Chain' _ (more_of-Expr first _) _ rest) = bind (valued_lem (refers first)) (λ v. bind (all_operands rest v) (λ w. gives (Of w)))
    refers (Expr.Cond' _ (more_of-Expr condition _) _ (more_of-Expr chosen_part _) _ (more_of-Expr otherwise _)) =
        bind (valued_lem (refers condition)) (λ v. bind (valued_lem (L.choose outer G H K laws (is_true v) (refers chosen_part) (refers otherwise))) (λ w. gives (Of w)))
    refers (Expr.Post' _ (more_of-Expr head _) _ links) = bind (refers head) (λ r. all_links links r)
    refers (Expr.Assign' operator _ (more_of-Expr target _) _ (more_of-Expr e _)) =
        bind (refers target) (λ r. bind (old_values operator (value_of_lem r)) (λ old. bind (valued_lem (refers e)) (λ v. bind (L.answers outer G H K laws (combined operator old v)) (λ new. bind (stored_lem r new) (λ u. gives (Of new))))))
    refers (Expr.Step' up _ (more_of-Expr target _)) =
        bind (refers target) (λ r. bind (value_of_lem r) (λ old. bind (L.answers outer G H K laws (stepped up old)) (λ new. bind (stored_lem r new) (λ u. gives (Of old)))))
    refers (Expr.Known' known _ arguments) = bind (all_values arguments) (λ vs. bind (known_called_lem known vs) (λ v. gives (Of v)))
    refers (Expr.Arrow' _ (more_of-Arrow place parameters body _)) = bind (made_function_lem place) (λ v. gives (Of v))
    refers (Expr.Jsx' _ (more_of-Jsx jsx _)) = bind (markups jsx) (λ v. gives (Of v))

    pub all_links : {m : _} (links : Row_of-Link m) (r : Reference) → K Shared Reference (followed links here r) (followed links there r)
    all_links end_of-Link r = gives r
    all_links (more_of-Link (Link.Prop name) rest) r = bind (value_of_lem r) (λ v. all_links rest (Member v (Words name)))
    all_links (more_of-Link (Link.Index e) rest) r = bind (value_of_lem r) (λ v. bind (valued_lem (refers e)) (λ key. all_links rest (Member v key)))
    all_links (more_of-Link (Link.Call' _ arguments) rest) r =
        bind (callee_lem r) (λ c. bind (L.choose outer G H K laws (is_qrl c) (qrls arguments) (bind (all_values arguments) (λ vs. call_lem c vs))) (λ v. all_links rest (Of v)))

    pub qrls : {m : _} (arguments : Row_of-Expr m) → K Shared Value (lifted_value arguments here) (lifted_value arguments there)
    qrls (more_of-Expr (Expr.Text symbol) (more_of-Expr (Expr.List' _ names) _)) = bind (all_values names) (λ vs. made_lem (Lifted symbol (packed vs) false))
    qrls _ = faults _ _

    pub all_values : {m : _} (all : Row_of-Expr m) → K Shared (List Value) (values all here) (values all there)
    all_values end_of-Expr = gives []
    all_values (more_of-Expr e rest) = bind (valued_lem (refers e)) (λ v. bind (all_values rest) (λ vs. gives (v ∷ vs)))

    pub all_holes : {m : _} (all : Row_of-Expr m) → K Shared (List Text) (hole_texts all here) (hole_texts all there)
    all_holes end_of-Expr = gives []
    all_holes (more_of-Expr e rest) = bind (valued_lem (refers e)) (λ v. bind (L.answers outer G H K laws (text_of v)) (λ t. bind (all_holes rest) (λ ts. gives (t ∷ ts))))

    pub all_fields : {m : _} (all : Row_of-Field m) → K Shared Fields (field_values all here) (field_values all there)
    all_fields end_of-Field = gives end
    all_fields (more_of-Field key e rest) = bind (valued_lem (refers e)) (λ v. bind (all_fields rest) (λ fields. gives (field key v fields)))

    pub all_operands : {m : _} (all : Row_of-Operand m) (v : Value) → K Shared Value (chained all here v) (chained all there v)
    all_operands end_of-Operand v = gives v
    all_operands (more_of-Operand operator e rest) v =
        bind (L.choose outer G H K laws (decides operator v) (gives v) (bind (valued_lem (refers e)) (λ u. L.answers outer G H K laws (binary operator v u)))) (λ w. all_operands rest w)

    pub markups : (jsx : Jsx) → K Shared Value (markup jsx here) (markup jsx there)
    markups (Jsx' tag _ attributes _ children) = bind (tag_told_lem tag) (λ u. bind (all_fields attributes) (λ fields. bind (all_values children) (λ vs. made_markup_lem tag fields vs)))

    pub runs : (statement : Stmt) → K Shared Flow (ran statement here) (ran statement there)
    runs (Stmt.Const (Pattern.Scope names) e) = gives Onward
    runs (Stmt.Const (Pattern.Name name) e) = bind (valued_lem (refers e)) (λ v. bind (bound_lem (Pattern.Name name) v) (λ u. gives Onward))
    runs (Stmt.Const (Pattern.Fields names) e) = bind (valued_lem (refers e)) (λ v. bind (bound_lem (Pattern.Fields names) v) (λ u. gives Onward))
    runs (Stmt.Let name e) = bind (valued_lem (refers e)) (λ v. bind (assigned_lem name v) (λ u. gives Onward))
    runs (Stmt.Do e) = bind (valued_lem (refers e)) (λ v. gives Onward)
    runs (Stmt.Delete target) = bind (refers target) (λ r. bind (removed_lem r) (λ u. gives Onward))
    runs (Stmt.Return' None') = gives _
    runs (Stmt.Return' (Some' e)) = bind (valued_lem (refers e)) (λ v. gives (Returned v))
    runs (Stmt.If' condition _ chosen_part _ otherwise) = bind (valued_lem (refers condition)) (λ v. L.choose outer G H K laws (is_true v) (L.scopes outer G H K laws (declared_in chosen_part) (all_run chosen_part)) (L.scopes outer G H K laws (declared_in otherwise) (all_run otherwise)))
    runs (Stmt.While' condition _ body) = L.repeats outer G H K laws (valued_lem (refers condition)) (L.scopes outer G H K laws (declared_in body) (all_run body))
    runs (Stmt.ForOf' name e _ body) =
        bind (valued_lem (refers e)) (λ v. bind (all_items_lem v) (λ items. L.repeated_fors outer G H K laws (λ item. L.scopes outer G H K laws (name ∷ []) (bind (assigned_lem name item) (λ u. L.scopes outer G H K laws (declared_in body) (all_run body)))) items))
    runs Stmt.Break = gives Broke
    runs Stmt.Continue = gives Continued
    runs (Statement_block' _ statements) = L.scopes outer G H K laws (declared_in statements) (all_run statements)

    pub all_run : {m : _} (all : Row_of-Stmt m) → K Shared Flow (all_ran all here) (all_ran all there)
    all_run end_of-Stmt = gives Onward
    all_run (more_of-Stmt statement rest) = bind (runs statement) (λ flow. L.unless_lefts outer G H K laws flow (all_run rest))

    pub bodies : (body : Body) → K Shared Value (body_value body here) (body_value body there)
    bodies (Body.Value' _ (more_of-Expr e _)) = valued_lem (refers e)
    bodies (Body_block' _ statements) = bind (all_run statements) (λ flow. gives (flow_value flow))

  binds_parameters : (code : Code) (arguments : List Value) → K Shared (Unit {0}) (parameters_bound here code arguments) (parameters_bound there code arguments)
  binds_parameters code arguments = L.choose outer G H K laws here.tracks (gives tt) (all_bound_lem code.params arguments)

  pub insides : (code : Code) (scope : Fields) (arguments : List Value) → K Own Value (inside code here scope arguments) (inside code there scope arguments)
  insides code scope arguments =
      withins (opened (own_names code) (scope_of code scope)) (bind (binds_parameters code arguments) (λ u. bodies code.body))

  pub enters : (which : Which) (code : Code) (scope : Fields) (arguments : List Value) → K Own Value (entered which code here scope arguments) (entered which code there scope arguments)
  enters which code scope arguments = bind turn (λ a. bind (laws.enters which) (λ b. insides code scope arguments))

-- how functions are entered on both sides
abbrev pub Entered_alike : List ℕ → Relation → Entering → Entering → Type 0
Entered_alike outer K enter enter' =
    (mode : Mode) → Writes_nothing mode → (running running' : List ℕ) → Under outer running running' → (f : Value) (arguments : List Value) → K Own Value (enter mode running f arguments) (enter' mode running' f arguments)

-- functions are entered alike in both heaps where those inside them are
pub enters_with : (outer : List ℕ) (G H : List Object) (K : Relation) (laws : Laws outer G H K) → Kinds_agree G H → (program : Program) (computeds computeds' : Computed_reading) (enter enter' : Entering)
    → ((running running' : List ℕ) → Under outer running running' → (a : ℕ) (f : Value) → K Own Value (chosen (is_running a running) (fault ComputedCycle) (computeds enter running a f)) (chosen (is_running a running') (fault ComputedCycle) (computeds' enter' running' a f)))
    → Entered_alike outer K enter enter' → Entered_alike outer K (entered_with program computeds enter) (entered_with program computeds' enter')
enters_with outer G H K laws kinds program computeds computeds' enter enter' C E mode quiet running running' under (Closure site scope hidden) arguments =
    let code = program.code site in
    enters outer G H K laws kinds (setting_of program computeds enter mode running code) quiet running' enter' (λ m q. E m q running running' under) (computeds' enter' running') (C running running' under) (At_site site) code scope arguments
enters_with outer G H K laws kinds program computeds computeds' enter enter' C E mode quiet running running' under (Lifted symbol captured hidden) arguments =
    let code = program.lifted symbol in
    enters outer G H K laws kinds (setting_of program computeds enter mode running code) quiet running' enter' (λ m q. E m q running running' under) (computeds' enter' running') (C running running' under) (Of_symbol symbol) code
    (zipped code.captures (listed captured)) arguments
enters_with outer G H K laws kinds program computeds computeds' enter enter' C E mode quiet running running' under _ arguments = laws.stops _ _

-- one more is under way on both sides
under_one_more : (outer running running' : List ℕ) (a : ℕ) → Under outer running running' → Under outer (a ∷ running) (a ∷ running')
under_one_more outer running running' a under b p q = both_false (b == a) (is_running b running') (front (b == a) (is_running b running) p) (under b (back (b == a) (is_running b running) p) q)
  where
    front : (x y : Bool) → (x || y) ≡ false → x ≡ false
    front true y e = e
    front false y e = refl

    back : (x y : Bool) → (x || y) ≡ false → y ≡ false
    back true y e = absurd (true≢false e)
    back false y e = e

    both_false : (x y : Bool) → x ≡ false → y ≡ false → (x || y) ≡ false
    both_false true y p q = p
    both_false false y p q = q

module _ (outer : List ℕ) (G H : List Object) (K : Relation) (laws : Laws outer G H K) (enter enter' : Entering) (E : Entered_alike outer K enter enter') where
  -- what is done behind the telling that a computed's function is called
  abbrev pub behind : Entering → List ℕ → ℕ → Value → Doing Running Value
  behind by running a f = ◌>>=◌ (unhooked (by Pure (a ∷ running) f [])) (λ v. ◌>>◌ (noted (Computed_so a v)) (give v))

  pub run_behind : (running running' : List ℕ) → Under outer running running' → (a : ℕ) (f : Value) → K Own Value (behind enter running a f) (behind enter' running' a f)
  run_behind running running' under a f =
      laws.bind (laws.hooks (λ hooking q. laws.bind (laws.sets_hooks Outside tt) (λ u. laws.bind (E Pure tt (a ∷ running) (a ∷ running') (under_one_more outer running running' a under) f []) (λ v. laws.bind (laws.sets_hooks hooking q) (λ w. laws.gives v)))))
      (λ v. laws.bind (laws.computed a v) (λ w. laws.gives v))

  -- computeds whose functions are called at every read are read alike
  pub calls_anew : (running running' : List ℕ) → Under outer running running' → (a : ℕ) (f : Value)
      → K Own Value (chosen (is_running a running) (fault ComputedCycle) (called_anew enter running a f)) (chosen (is_running a running') (fault ComputedCycle) (called_anew enter' running' a f))
  calls_anew running running' under a f = by_cycle (is_running a running) refl
    where
      by_cycle : (b : Bool) → is_running a running ≡ b → K Own Value (chosen b (fault ComputedCycle) (called_anew enter running a f)) (chosen (is_running a running') (fault ComputedCycle) (called_anew enter' running' a f))
      by_cycle true e = laws.stops _ _
      by_cycle false e = laws.computes a (is_running a running') (λ o. under a e o) (run_behind running running' under a f)
