-- Lists, and what is put together of lists, that stand for one another.
use Rattle.std.specs.Prelude.{◌≡◌, refl, ℕ, zero, suc, ◌-◌, pos, Bool, true, false, List, [], ◌∷◌, ◌++◌, length, take, drop, nat_le}
use Rattle.std.proofs.Common.{ap, subst}
use mathlib.Core.Path.{ap₂}
use Rattle.qk_meaning.specs.Value.{Text, Site, Value, Values, Fields, Int, Words, Ref}
use Rattle.qk_meaning.specs.World.{Array}
use Rattle.qk_meaning.specs.Fault.{TextTooLong, ListTooLong}
use Rattle.qk_meaning.specs.Parts.{packed, listed, nth, names_of, field_count}
use Rattle.qk_meaning.specs.Operators.{Answer, Is, Fails, is_true, short_text}
use Rattle.qk_meaning.specs.Writing.{Becoming, Becomes, Stays, grown_array, between}
use Rattle.qk_meaning.specs.Changes.{located}
use Rattle.qk_meaning.specs.Methods.{numbered, kept, as_values}
use Rattle.qk_meaning.specs.Ties.{Ties, Paired, Stands, undefined, int, words, All_stand, none_stand, item_stands, Fields_stand, end_stands, field_stands, Pairwise, no_more, one_more, array, Loc_stands, located_alike}
use Rattle.qk_alike.specs.Meanings_stand.{Both_answer, is, fails, Becomings_stand, both_become, both_stay}
use Rattle.qk_alike.proofs.Doing_laws.{Same}
use Rattle.qk_alike.proofs.Value_laws.{Facts}

pub lengths : {A B : Type 0} {R : A → B → Type 0} {all : List A} {all' : List B} → Pairwise R all all' → length all ≡ length all'
lengths no_more = refl
lengths (one_more h rest) = ap suc (lengths rest)

pub packs : {t : Ties} {all all' : List Value} → Pairwise (Stands t) all all' → All_stand t (packed all) (packed all')
packs no_more = none_stand
packs (one_more h rest) = item_stands h (packs rest)

pub lists_of : {t : Ties} {all all' : Values} → All_stand t all all' → Pairwise (Stands t) (listed all) (listed all')
lists_of none_stand = no_more
lists_of (item_stands h rest) = one_more h (lists_of rest)

pub nths : {t : Ties} {all all' : List Value} (n : ℕ) → Pairwise (Stands t) all all' → Stands t (nth all n) (nth all' n)
nths n no_more = undefined
nths zero (one_more h rest) = h
nths (suc n) (one_more h rest) = nths n rest

pub takes : {A B : Type 0} {R : A → B → Type 0} {all : List A} {all' : List B} (n : ℕ) → Pairwise R all all' → Pairwise R (take n all) (take n all')
takes zero h = no_more
takes (suc n) no_more = no_more
takes (suc n) (one_more h rest) = one_more h (takes n rest)

pub drops : {A B : Type 0} {R : A → B → Type 0} {all : List A} {all' : List B} (n : ℕ) → Pairwise R all all' → Pairwise R (drop n all) (drop n all')
drops zero h = h
drops (suc n) no_more = no_more
drops (suc n) (one_more h rest) = drops n rest

pub appends : {A B : Type 0} {R : A → B → Type 0} {all more : List A} {all' more' : List B} → Pairwise R all all' → Pairwise R more more' → Pairwise R (all ++ more) (all' ++ more')
appends no_more others = others
appends (one_more h rest) others = one_more h (appends rest others)

pub keeps_one : {t : Ties} (b : Bool) {v v' : Value} {all all' : List Value} → Stands t v v' → Pairwise (Stands t) all all' →
    Pairwise (Stands t) (elim b [ true ↦ v ∷ all | false ↦ all ]) (elim b [ true ↦ v' ∷ all' | false ↦ all' ])
keeps_one true h rest = one_more h rest
keeps_one false h rest = rest

-- an item of `map` and its index
pub record Numbered (t : Ties) (e e' : ℕ × Value) : Type 0 where
  pub index : e.0 ≡ e'.0
  pub value : Stands t e.1 e'.1

pub numbers : {t : Ties} {all all' : List Value} (n : ℕ) → Pairwise (Stands t) all all' → Pairwise (Numbered t) (numbered n all) (numbered n all')
numbers n no_more = no_more
numbers n (one_more h rest) = one_more (record { index = refl; value = h }) (numbers (suc n) rest)

pub word_values : {t : Ties} (all : List Text) → Pairwise (Stands t) (as_values all) (as_values all)
word_values [] = no_more
word_values (w ∷ rest) = one_more words (word_values rest)

pub located_all : {t : Ties} {a b : ℕ} → Paired t.pairing a b → (all : List _) → Pairwise (Loc_stands t) (located a all) (located b all)
located_all h [] = no_more
located_all h (k ∷ rest) = one_more (located_alike h) (located_all h rest)

pub same_names : {t : Ties} {f g : Fields} → Fields_stand t f g → names_of f ≡ names_of g
same_names end_stands = refl
same_names (field_stands {k = k} h rest) = ap (λ names. k ∷ names) (same_names rest)

pub same_counts : {t : Ties} {f g : Fields} → Fields_stand t f g → field_count f ≡ field_count g
same_counts end_stands = refl
same_counts (field_stands h rest) = ap suc (same_counts rest)

-- the same address on both sides, up to the pairing
pub data Refs (t : Ties) : Value → Value → Type 0 where
  refs : {a b : ℕ} → Paired t.pairing a b → Refs t (Ref a) (Ref b)

pub texts_equal : {all all' : List Text} → Pairwise Same all all' → all ≡ all'
texts_equal no_more = refl
texts_equal (one_more h rest) = ap₂ (λ x xs. x ∷ xs) h (texts_equal rest)

pub betweens : {t : Ties} {all all' : List Value} {a a' b b' : ℕ} → a ≡ a' → b ≡ b' → Pairwise (Stands t) all all' → Pairwise (Stands t) (between all a b) (between all' a' b')
betweens {t} {all} {all'} {a} {a'} {b} {b'} p q h = subst (λ n. Pairwise (Stands t) (between all a b) n) (λ i. between all' (p i) (q i)) (takes (b - a) (drops a h))

pub short_texts : {t : Ties} {a b : Text} → a ≡ b → Both_answer (Stands t) (short_text a) (short_text b)
short_texts {t} {a} {b} e = subst (λ x. Both_answer (Stands t) (short_text a) (short_text x)) e (go (nat_le (length a) 1048576))
  where
    go : (x : Bool) → Both_answer (Stands t) (elim x as (λ y. Answer Value) [ true ↦ Is (Words a) | false ↦ Fails TextTooLong ]) (elim x as (λ y. Answer Value) [ true ↦ Is (Words a) | false ↦ Fails TextTooLong ])
    go true = is words
    go false = fails

pub integers : {t : Ties} {m n : ℕ} → m ≡ n → Stands t (Int (pos m)) (Int (pos n))
integers {t} {m} {n} e = subst (λ x. Stands t (Int (pos m)) (Int (pos x))) e int

pub grown_arrays : {t : Ties} {all all' : List Value} → Pairwise (Stands t) all all' → Becomings_stand t (grown_array all) (grown_array all')
grown_arrays {t} {all} {all'} h = subst (λ n. Becomings_stand t (grown_array all) (elim (nat_le n 65536) as (λ y. Becoming) [ true ↦ Becomes (Array (packed all')) | false ↦ Stays ListTooLong ])) (lengths h) (go (nat_le (length all) 65536))
  where
    go : (x : Bool) → Becomings_stand t (elim x as (λ y. Becoming) [ true ↦ Becomes (Array (packed all)) | false ↦ Stays ListTooLong ]) (elim x as (λ y. Becoming) [ true ↦ Becomes (Array (packed all')) | false ↦ Stays ListTooLong ])
    go true = both_become (array (packs h))
    go false = both_stay

pub kept_items : {t : Ties} {captures captures' : Site → List Text} → Facts t captures captures' → {all all' given given' : List Value} → Pairwise (Stands t) all all' → Pairwise (Stands t) given given' → Pairwise (Stands t) (kept all given) (kept all' given')
kept_items facts no_more k = no_more
kept_items facts (one_more h hs) no_more = no_more
kept_items {t} facts (one_more {a = v} {b = v'} {rest = vs} {more = vs'} h hs) (one_more {a = w} {b = w'} {rest = ws} {more = ws'} k ks) =
    subst (λ b. Pairwise (Stands t) (kept (v ∷ vs) (w ∷ ws)) (elim b [ true ↦ v' ∷ kept vs' ws' | false ↦ kept vs' ws' ])) (facts.truths k) (keeps_one (is_true w) h (kept_items facts hs ks))
