-- What is read at a key of a value.
use Rattle.std.proofs.Common.{◌≡◌, ◌<◌, ◌≤◌, ◌+◌, ℕ, zero, suc, ℤ, pos, negsuc, List, [], ◌∷◌, length, drop, get_or, slice_get, nat_lt, add-one, if◌then◌else◌, codes, Bool, true, false, not, Option, Some, None, Result, Ok, Err, refl, ap, ◌∙◌, sym, arith}
use denote.Ref.{Bor}
use Rattle.std.specs.Option.{option_map, option_copied}
use Rattle.std.specs.Slice.{IsItemAt}
use Rattle.std.proofs.lemmas.Option.{slice_get_past}
use Rattle.std.proofs.lemmas.Bool.{false≢true}
use Rattle.std.proofs.Math.Seq.{drop-cons}
use Rattle.qk_ast.specs.Texts.{Text, same_text}
use Rattle.qk_meaning.specs.Value as M
use Rattle.qk_meaning.specs.World as W
use Rattle.qk_meaning.specs.Fault.{NoProperty, TypeMismatch}
use Rattle.qk_meaning.specs.Parts.{listed, nth, found, or_undefined, value_at}
use Rattle.qk_meaning.specs.Heap.{Key_kind, Named, Numbered, Neither, key_kind, Name_of_key, Name_is, Refused_as, name_of_key, Member_read, Found, Not_there, at_name, at_index, read_list}
use Rattle.qk_value.specs.declared.fault.Fault.{Fault as Refusal}
use Rattle.qk_value.specs.declared.value.Addr.{Addr}
use Rattle.qk_value.specs.declared.value.Value.{Value}
use Rattle.qk_value.specs.Faults.{fault_of}
use Rattle.qk_value.specs.View.{seen, seen_all, seen_fields}
use Rattle.qk_ops.specs.Kinds.{int_in, words_in}
use Rattle.qk_ops.proofs.Kinds_known.{int_is, word_is}
use Rattle.qk_environment.specs.Scoping.{Captures}
use Rattle.qk_code.specs.declared.stop.Stop.{Stop}
use Rattle.qk_code.specs.declared.stop.Stop.TheVariants.{Fault, Ended, Code, Memory}
use Rattle.qk_acts.specs.declared.reading.Look.{Look}
use Rattle.qk_acts.specs.Looking.{Reads, key_location, item_location}

-- ---- results

-- the read is refused
pub reads_refused : (read : Captures → Member_read) (r : Result Look Stop) (f : Refusal) → r ≡ Err (Fault f) → ((captured : Captures) → read captured ≡ Not_there (fault_of f)) → Reads read r
reads_refused read r f is h = rw is h

-- the same read by another name
pub reads_same : (one other : Captures → Member_read) (r : Result Look Stop) → ((captured : Captures) → one captured ≡ other captured) → Reads one r → Reads other r
reads_same one other (Ok look) e h = λ captured. sym (e captured) ∙ h captured
reads_same one other (Err (Fault f)) e h = λ captured. sym (e captured) ∙ h captured
reads_same one other (Err Ended) e h = h
reads_same one other (Err (Code why)) e h = h
reads_same one other (Err Memory) e h = h

-- ---- names

named : (Text → Member_read) → Name_of_key → Member_read
named read name = elim name [ Name_is t ↦ read t | Refused_as f ↦ Not_there f ]

pub name_read : (read : Text → Member_read) (key : M.Value) (t : Text) → name_of_key key ≡ Name_is t → at_name read key ≡ read t
unfolding named
name_read read key t e = ap (named read) e

-- the value of a field
pub field_read : (place : Text → List W.Loc) (fields : M.Fields) (key : M.Value) (t : Text) (v : M.Value) → name_of_key key ≡ Name_is t → v ≡ value_at t fields → at_name (λ t. Found (value_at t fields) (place t)) key ≡ Found v (place t)
field_read place fields key t v e is = name_read (λ t. Found (value_at t fields) (place t)) key t e ∙ ap (λ x. Found x (place t)) (sym is)

-- ---- the first field of a name

module _ (captured : Captures) (t : Text) (fields : List (Text × Value)) (i : ℕ) (f : Text × Value) (within : i < length fields) (is : f ≡ get_or fields i f) where
  from_here : found t (seen_fields captured (drop i fields)) ≡ elim (same_text f.0 t) [ true ↦ Some (seen captured f.1) | false ↦ found t (seen_fields captured (drop (i + 1) fields)) ]
  from_here =
      ap (λ fs. found t (seen_fields captured fs)) (drop-cons fields i f within ∙ ap (λ g. g ∷ drop (suc i) fields) (sym is))
      ∙ ap (λ k. elim (same_text f.0 t) as (λ x. Option M.Value) [ true ↦ Some (seen captured f.1) | false ↦ found t (seen_fields captured (drop k fields)) ]) (sym (add-one i))

  pub field_here : same_text f.0 t ≡ true → found t (seen_fields captured (drop i fields)) ≡ Some (seen captured f.1)
  field_here e = from_here ∙ ap (λ b. elim b as (λ x. Option M.Value) [ true ↦ Some (seen captured f.1) | false ↦ found t (seen_fields captured (drop (i + 1) fields)) ]) e

  pub field_later : same_text f.0 t ≡ false → found t (seen_fields captured (drop (i + 1) fields)) ≡ found t (seen_fields captured (drop i fields))
  field_later e = sym (from_here ∙ ap (λ b. elim b as (λ x. Option M.Value) [ true ↦ Some (seen captured f.1) | false ↦ found t (seen_fields captured (drop (i + 1) fields)) ]) e)

-- ---- lists

list_kind : List M.Value → (ℤ → List W.Loc) → List W.Loc → Key_kind → Member_read
list_kind all at_place at_length kind =
    elim kind [
      | Named t ↦ elim (same_text t (codes "length")) [ true ↦ Found (M.Int (pos (length all))) at_length | false ↦ Not_there NoProperty ]
      | Numbered n ↦ Found (at_index all n) (at_place n)
      | Neither ↦ Not_there TypeMismatch
    ]

module _ (all : List M.Value) (at_place : ℤ → List W.Loc) (at_length : List W.Loc) (key : M.Value) where
  pub list_named : (t : Text) (b : Bool) → Some t ≡ words_in key → same_text t (codes "length") ≡ b
      → read_list all at_place at_length key ≡ elim b [ true ↦ Found (M.Int (pos (length all))) at_length | false ↦ Not_there NoProperty ]
  unfolding list_kind
  list_named t b e h =
      ap (λ k. list_kind all at_place at_length (key_kind k)) (word_is key t e)
      ∙ ap (λ b. elim b as (λ x. Member_read) [ true ↦ Found (M.Int (pos (length all))) at_length | false ↦ Not_there NoProperty ]) h

  pub list_numbered : (n : ℤ) → Some n ≡ int_in key → read_list all at_place at_length key ≡ Found (at_index all n) (at_place n)
  unfolding list_kind
  list_numbered n e = ap (λ k. list_kind all at_place at_length (key_kind k)) (int_is key n e)

-- ---- items

pub is_equal : (b : Bool) → false ≡ not b → b ≡ true
is_equal true e = refl
is_equal false e = absurd (false≢true e)

-- an item at an integer
pub index_read : (items : List Value) (array : Option Addr) (key : Value) (n p : ℤ) (r : Result Look Stop) → p ≡ n → ((captured : Captures) → Some n ≡ int_in (seen captured key))
    → Reads (λ captured. Found (at_index (listed (seen_all captured items)) p) (item_location array p)) r
    → Reads (λ captured. read_list (listed (seen_all captured items)) (item_location array) (key_location array W.Length) (seen captured key)) r
index_read items array key n p r same is =
    reads_same (λ captured. Found (at_index (listed (seen_all captured items)) p) (item_location array p)) (λ captured. read_list (listed (seen_all captured items)) (item_location array) (key_location array W.Length) (seen captured key)) r (λ captured.
    ap (λ k. Found (at_index (listed (seen_all captured items)) k) (item_location array k)) same
    ∙ sym (list_numbered (listed (seen_all captured items)) (item_location array) (key_location array W.Length) (seen captured key) n (is captured)))

pub listed_count : (captured : Captures) (xs : List Value) → length (listed (seen_all captured xs)) ≡ length xs
listed_count captured [] = refl
listed_count captured (x ∷ xs) = ap suc (listed_count captured xs)

pub item_there : (captured : Captures) (xs : List Value) (n : ℕ) → or_undefined (option_map (seen captured) (slice_get xs n)) ≡ nth (listed (seen_all captured xs)) n
item_there captured [] n = refl
item_there captured (x ∷ xs) zero = refl
item_there captured (x ∷ xs) (suc n) = item_there captured xs n

past : (a b : ℕ) → false ≡ nat_lt a b → b ≤ a
past a b h = grind (arith, h)

below : (a b : ℕ) → true ≡ nat_lt a b → a < b
below a b h = grind (arith, h)

at_place : {X : Type 0} (xs : List X) (i : ℕ) (x : X) → i < length xs → x ≡ get_or xs i x → Some x ≡ slice_get xs i
at_place [] i x h e = absurd (omega (arith, h))
at_place (y ∷ xs) zero x h e = ap Some e
at_place (y ∷ xs) (suc i) x h e = at_place xs i x (omega (arith, h)) e

pub got : {X : Type 0} (xs : List X) (i : ℕ) (r : Option (Bor X)) → IsItemAt xs i r → option_copied r ≡ slice_get xs i
got xs i None h = sym (slice_get_past xs i (past i (length xs) h.0))
got xs i (Some x) h = at_place xs i x.now (below i (length xs) h.0) h.1

small : (n : ℕ) → n < 65536 → nat_lt n 65536 ≡ true
small n h = grind (arith, h)

pub index_found : (all : List M.Value) (array : Option Addr) (n : ℕ) → n < 65536 → Found (at_index all (pos n)) (item_location array (pos n)) ≡ Found (nth all n) (key_location array (W.Index n))
index_found all None n h = ap (λ b. Found (if b then nth all n else M.Undefined) []) (small n h)
index_found all (Some a) n h = ap (λ b. Found (if b then nth all n else M.Undefined) (if b then record { address = a.0; key = W.Index n } ∷ [] else [])) (small n h)

pub no_index : (all : List M.Value) (array : Option Addr) (n : ℤ) → ((index : ℕ) → n ≡ pos index → 65536 ≤ index) → Found (at_index all n) (item_location array n) ≡ Found M.Undefined []
no_index all array (negsuc n) h = by array
  where
    by : (array : Option Addr) → Found M.Undefined (item_location array (negsuc n)) ≡ Found M.Undefined []
    by None = refl
    by (Some a) = refl
no_index all array (pos n) h = by array (great n (h n refl))
  where
    great : (n : ℕ) → 65536 ≤ n → nat_lt n 65536 ≡ false
    great n h = grind (arith, h)

    by : (array : Option Addr) → nat_lt n 65536 ≡ false → Found (at_index all (pos n)) (item_location array (pos n)) ≡ Found M.Undefined []
    by None e = ap (λ b. Found (if b then nth all n else M.Undefined) []) e
    by (Some a) e = ap (λ b. Found (if b then nth all n else M.Undefined) (if b then record { address = a.0; key = W.Index n } ∷ [] else [])) e
