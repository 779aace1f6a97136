-- What holds of values and objects that stand for one another.
use Rattle.std.specs.Prelude.{◌≡◌, refl, ℕ, suc, ◌+◌, max, ℤ, pos, ◌+ℤ◌, ◌-ℤ◌, ◌*ℤ◌, neg_ℤ, int_lt, int_le, int_div, int_rem, Bool, true, false, not, ◌&&◌, ◌||◌, List, [], ◌∷◌, ◌++◌, length, map, nat_le, nat_abs, Option, Some}
use Rattle.std.proofs.Common.{sym, ◌∙◌, ap, subst}
use mathlib.Core.Path.{ap₂}
use Rattle.qk_ast.specs.declared.Un.{Un}
use Rattle.qk_ast.specs.declared.Bin.{Bin}
use Rattle.qk_meaning.specs.Operators as O
use Rattle.qk_meaning.specs.Heap as H
use Rattle.qk_alike.proofs.Sames.{addresses}
use Rattle.qk_alike.specs.Meanings_stand.{Both_answer, fails, is}
use Rattle.qk_meaning.specs.Ties.{All_stand, Apart, Fields_stand, Paired, Stands, Ties, by_symbol, closure, elem, end_stands, field_stands, fields, int, item_stands, items, lifted, none_stand, null, ref, truth, undefined, words}
use Rattle.qk_ast.specs.Texts.{same_text}
use Rattle.qk_meaning.specs.Calls.{marked}
use Rattle.qk_meaning.specs.Fault.{Identity, OutOfSafeRange, TextTooLong, ZeroDivisor}
use Rattle.qk_meaning.specs.Heap.{Found, Key_kind, Member_read, Name_is, Name_of_key, Named, Neither, Not_there, Numbered, Refused_as, Runs, object_at, read_member}
use Rattle.qk_meaning.specs.Methods.{joined_text}
use Rattle.qk_meaning.specs.Operators.{Answer, Fails, Is, added, binary, decides, denied, equal_primitives, identical, is_fixed_whole, is_function, is_nullish, is_primitive, is_true, on_integers, safe, short_text, stepped, text_of, texts_joined, truncated, unary, unless_zero}
use Rattle.qk_meaning.specs.Parts.{found, or_undefined, packed, picked, value_at}
use Rattle.qk_meaning.specs.Same.{depth, depth_of_all, depth_of_fields, depth_of_named, greatest, same_integer, total, weight, weight_of_all, weight_of_fields, weight_of_named}
use Rattle.qk_meaning.specs.Value.{Fields, Int, Null, Site, Text, Truth, Undefined, Value, Values, Words, end, field}

weighed : (captures : Site → List Text) (f : Fields) (name : Text) → weight_of_named captures f name ≡ weight captures (value_at name f)
weighed captures end name = refl
weighed captures (field n v rest) name = go (same_text n name) (weighed captures rest name)
  where
    go : (b : Bool) → weight_of_named captures rest name ≡ weight captures (value_at name rest) →
        (elim b as (λ x. ℕ) [ true ↦ weight captures v | false ↦ weight_of_named captures rest name ]) ≡ weight captures (or_undefined (elim b as (λ x. Option Value) [ true ↦ Some v | false ↦ found name rest ]))
    go true e = refl
    go false e = e

weighed_all : (captures : Site → List Text) (f : Fields) (names : List Text) → total (map (λ name. weight_of_named captures f name) names) ≡ weight_of_all captures (packed (picked names f))
weighed_all captures f [] = refl
weighed_all captures f (name ∷ names) = ap₂ ◌+◌ (weighed captures f name) (weighed_all captures f names)

deep : (captures : Site → List Text) (f : Fields) (name : Text) → depth_of_named captures f name ≡ depth captures (value_at name f)
deep captures end name = refl
deep captures (field n v rest) name = go (same_text n name) (deep captures rest name)
  where
    go : (b : Bool) → depth_of_named captures rest name ≡ depth captures (value_at name rest) →
        (elim b as (λ x. ℕ) [ true ↦ depth captures v | false ↦ depth_of_named captures rest name ]) ≡ depth captures (or_undefined (elim b as (λ x. Option Value) [ true ↦ Some v | false ↦ found name rest ]))
    go true e = refl
    go false e = e

deep_all : (captures : Site → List Text) (f : Fields) (names : List Text) → greatest (map (λ name. depth_of_named captures f name) names) ≡ depth_of_all captures (packed (picked names f))
deep_all captures f [] = refl
deep_all captures f (name ∷ names) = ap₂ max (deep captures f name) (deep_all captures f names)

module _ (t : Ties) (second : Site → List Text) (second_captures : (site : Site) → t.sites.stays site ≡ true → second (t.sites.other site) ≡ t.sites.captures site) where
  mutual
    pub weights : {v w : Value} → Stands t v w → weight t.sites.captures v ≡ weight second w
    weights (items h) = ap suc (all_weights h)
    weights (fields h) = ap suc (field_weights h)
    weights (elem s f h) = ap suc (ap₂ ◌+◌ (field_weights f) (all_weights h))
    weights (closure {site = s} {f = f} {g = g} l p q h) =
        ap suc (weighed_all t.sites.captures f (t.sites.captures s) ∙ (all_weights h ∙ (sym (weighed_all second g (t.sites.captures s)) ∙ ap (λ names. total (map (λ name. weight_of_named second g name) names)) (sym (second_captures s l)))))
    weights (by_symbol {site = s} {f = f} l p h) = ap suc (weighed_all t.sites.captures f (t.sites.captures s) ∙ all_weights h)
    weights (lifted e n h) = ap suc (all_weights h)
    weights _ = refl

    all_weights : {v w : Values} → All_stand t v w → weight_of_all t.sites.captures v ≡ weight_of_all second w
    all_weights none_stand = refl
    all_weights (item_stands h hs) = ap₂ ◌+◌ (weights h) (all_weights hs)

    field_weights : {v w : Fields} → Fields_stand t v w → weight_of_fields t.sites.captures v ≡ weight_of_fields second w
    field_weights end_stands = refl
    field_weights (field_stands h hs) = ap₂ ◌+◌ (weights h) (field_weights hs)

  mutual
    pub depths : {v w : Value} → Stands t v w → depth t.sites.captures v ≡ depth second w
    depths (items h) = ap suc (all_depths h)
    depths (fields h) = ap suc (field_depths h)
    depths (elem s f h) = ap suc (ap₂ max (field_depths f) (all_depths h))
    depths (closure {site = s} {f = f} {g = g} l p q h) =
        ap suc (deep_all t.sites.captures f (t.sites.captures s) ∙ (all_depths h ∙ (sym (deep_all second g (t.sites.captures s)) ∙ ap (λ names. greatest (map (λ name. depth_of_named second g name) names)) (sym (second_captures s l)))))
    depths (by_symbol {site = s} {f = f} l p h) = ap suc (deep_all t.sites.captures f (t.sites.captures s) ∙ all_depths h)
    depths (lifted e n h) = ap suc (all_depths h)
    depths _ = refl

    all_depths : {v w : Values} → All_stand t v w → depth_of_all t.sites.captures v ≡ depth_of_all second w
    all_depths none_stand = refl
    all_depths (item_stands h hs) = ap₂ max (depths h) (all_depths hs)

    field_depths : {v w : Fields} → Fields_stand t v w → depth_of_fields t.sites.captures v ≡ depth_of_fields second w
    field_depths end_stands = refl
    field_depths (field_stands h hs) = ap₂ max (depths h) (field_depths hs)

-- ---- tests on one value

module _ {t : Ties} where
  pub truths : {v w : Value} → Stands t v w → is_true v ≡ is_true w
  truths undefined = refl
  truths _ = refl

  pub functions : {v w : Value} → Stands t v w → is_function v ≡ is_function w
  functions undefined = refl
  functions _ = refl

  pub texts : {v w : Value} → Stands t v w → text_of v ≡ text_of w
  texts undefined = refl
  texts _ = refl

  pub nullishes : {v w : Value} → Stands t v w → is_nullish v ≡ is_nullish w
  nullishes undefined = refl
  nullishes _ = refl

  pub joins : {v w : Value} → Stands t v w → joined_text v ≡ joined_text w
  joins undefined = refl
  joins _ = refl

  pub wholes : {v w : Value} → Stands t v w → is_fixed_whole v ≡ is_fixed_whole w
  wholes undefined = refl
  wholes _ = refl

  pub decided : (op : Bin) {v w : Value} → Stands t v w → decides op v ≡ decides op w
  decided Bin.Or h = truths h
  decided Bin.And h = ap not (truths h)
  decided Bin.Coalesce h = ap not (nullishes h)
  decided _ h = refl

  pub name_keys : {k l : Value} → Stands t k l → H.name_of_key k ≡ H.name_of_key l
  name_keys undefined = refl
  name_keys _ = refl

  pub key_kinds : {k l : Value} → Stands t k l → H.key_kind k ≡ H.key_kind l
  key_kinds undefined = refl
  key_kinds _ = refl

  -- ---- operators

  pub safes : (n : ℤ) → Both_answer (Stands t) (safe n) (safe n)
  safes n = go (nat_le (nat_abs n) 9007199254740991)
    where
      go : (b : Bool) → Both_answer (Stands t) (elim b as (λ x. Answer Value) [ true ↦ Is (Int n) | false ↦ Fails OutOfSafeRange ]) (elim b as (λ x. Answer Value) [ true ↦ Is (Int n) | false ↦ Fails OutOfSafeRange ])
      go true = is int
      go false = fails

  shorts : (a : Text) → Both_answer (Stands t) (short_text a) (short_text a)
  shorts a = go (nat_le (length a) 1048576)
    where
      go : (b : Bool) → Both_answer (Stands t) (elim b as (λ x. Answer Value) [ true ↦ Is (Words a) | false ↦ Fails TextTooLong ]) (elim b as (λ x. Answer Value) [ true ↦ Is (Words a) | false ↦ Fails TextTooLong ])
      go true = is words
      go false = fails

  both_texts : (x y : Answer Text) → Both_answer (Stands t) (texts_joined x y) (texts_joined x y)
  both_texts (Is a) (Is b) = shorts (a ++ b)
  both_texts (Is a) (Fails f) = fails
  both_texts (Fails f) y = fails

  joined_first : (a : Text) {y y' : Answer Text} → y ≡ y' → Both_answer (Stands t) (texts_joined (Is a) y) (texts_joined (Is a) y')
  joined_first a {y} {y'} e = subst (λ x. Both_answer (Stands t) (texts_joined (Is a) y) (texts_joined (Is a) x)) e (both_texts (Is a) y)

  adds : {v v' w w' : Value} → Stands t v v' → Stands t w w' → Both_answer (Stands t) (added v w) (added v' w')
  adds (int {n = m}) (int {n = n}) = safes (m +ℤ n)
  adds (int {n = n}) (words {w = b}) = both_texts (text_of (Int n)) (Is b)
  adds int _ = fails
  adds (words {w = a}) k = joined_first a (texts k)
  adds undefined (words {w = b}) = both_texts (text_of Undefined) (Is b)
  adds undefined _ = fails
  adds null (words {w = b}) = both_texts (text_of Null) (Is b)
  adds null _ = fails
  adds (truth {b = x}) (words {w = b}) = both_texts (text_of (Truth x)) (Is b)
  adds truth _ = fails
  adds (ref h0) words = fails
  adds (ref h0) _ = fails
  adds (items h0) words = fails
  adds (items h0) _ = fails
  adds (fields h0) words = fails
  adds (fields h0) _ = fails
  adds (elem h0 h1 h2) words = fails
  adds (elem h0 h1 h2) _ = fails
  adds (closure h0 h1 h2 h3) words = fails
  adds (closure h0 h1 h2 h3) _ = fails
  adds (by_symbol h0 h1 h2) words = fails
  adds (by_symbol h0 h1 h2) _ = fails
  adds (lifted h0 h1 h2) words = fails
  adds (lifted h0 h1 h2) _ = fails

  on_ints : (f : ℤ → ℤ → Answer Value) → ((a b : ℤ) → Both_answer (Stands t) (f a b) (f a b)) → {v v' w w' : Value} → Stands t v v' → Stands t w w' → Both_answer (Stands t) (on_integers f v w) (on_integers f v' w')
  on_ints f p int int = p _ _
  on_ints f p _ _ = fails

  unless_zeros : (d : ℤ) (x : Answer Value) → Both_answer (Stands t) x x → Both_answer (Stands t) (unless_zero d x) (unless_zero d x)
  unless_zeros d x p = go (same_integer d (pos 0))
    where
      go : (b : Bool) → Both_answer (Stands t) (elim b as (λ y. Answer Value) [ true ↦ Fails ZeroDivisor | false ↦ x ]) (elim b as (λ y. Answer Value) [ true ↦ Fails ZeroDivisor | false ↦ x ])
      go true = fails
      go false = p

  truth_answers : {x y : Answer Bool} → x ≡ y → Both_answer (Stands t) (O.truth x) (O.truth y)
  truth_answers {x} {y} e = subst (λ z. Both_answer (Stands t) (O.truth x) (O.truth z)) e (go x)
    where
      go : (x : Answer Bool) → Both_answer (Stands t) (O.truth x) (O.truth x)
      go (Is b) = is truth
      go (Fails f) = fails

  pub unaries : (op : Un) {v v' : Value} → Stands t v v' → Both_answer (Stands t) (unary op v) (unary op v')
  unaries Un.Not {v} h = subst (λ b. Both_answer (Stands t) (Is (Truth (not (is_true v)))) (Is (Truth (not b)))) (truths h) (is truth)
  unaries Un.Neg (int {n = n}) = safes (neg_ℤ n)
  unaries Un.Neg _ = fails

  pub steps : (up : Bool) {v v' : Value} → Stands t v v' → Both_answer (Stands t) (stepped up v) (stepped up v')
  steps true (int {n = n}) = safes (n +ℤ pos 1)
  steps true _ = fails
  steps false (int {n = n}) = safes (n -ℤ pos 1)
  steps false _ = fails

  pub truncates : {v v' w w' : Value} → Stands t v v' → Stands t w w' → Both_answer (Stands t) (truncated v w) (truncated v' w')
  truncates h k = on_ints (λ a b. unless_zero b (safe (int_div a b))) (λ a b. unless_zeros b (safe (int_div a b)) (safes (int_div a b))) h k

  pub marks : {v w : Value} → Stands t v w → Both_answer (Stands t) (marked v) (marked w)
  marks (closure l p q h) = is (closure l p q h)
  marks (by_symbol l p h) = is (by_symbol l p h)
  marks (lifted e n h) = is (lifted e n h)
  marks _ = fails

  module _ (apart : Apart t) where
    pub equals : {v v' w w' : Value} → Stands t v v' → Stands t w w' → equal_primitives v w ≡ equal_primitives v' w'
    equals (ref {a = a} {b = b} h) (ref {a = a'} {b = b'} k) =
        addresses a a' b b' (λ e. apart.one_right a b b' h (subst (λ x. Paired t.pairing x b') (sym e) k)) (λ e. apart.one_left a a' b h (subst (λ x. Paired t.pairing a' x) (sym e) k))
    equals (ref h) _ = refl
    equals undefined undefined = refl
    equals undefined _ = refl
    equals null null = refl
    equals null _ = refl
    equals truth truth = refl
    equals truth _ = refl
    equals int int = refl
    equals int _ = refl
    equals words words = refl
    equals words _ = refl
    equals _ _ = refl

    identicals : {v v' w w' : Value} → Stands t v v' → Stands t w w' → identical v w ≡ identical v' w'
    identicals h k = λ i. elim ((wholes h i && wholes k i) || (functions h i && functions k i)) as (λ x. Answer Bool) [ true ↦ Fails Identity | false ↦ Is (equals h k i) ]

    pub binaries : (op : Bin) {v v' w w' : Value} → Stands t v v' → Stands t w w' → Both_answer (Stands t) (binary op v w) (binary op v' w')
    binaries Bin.Add h k = adds h k
    binaries Bin.Sub h k = on_ints (λ a b. safe (a -ℤ b)) (λ a b. safes (a -ℤ b)) h k
    binaries Bin.Mul h k = on_ints (λ a b. safe (a *ℤ b)) (λ a b. safes (a *ℤ b)) h k
    binaries Bin.Rem h k = on_ints (λ a b. unless_zero b (safe (int_rem a b))) (λ a b. unless_zeros b (safe (int_rem a b)) (safes (int_rem a b))) h k
    binaries Bin.Less h k = on_ints (λ a b. Is (Truth (int_lt a b))) (λ a b. is truth) h k
    binaries Bin.LessEq h k = on_ints (λ a b. Is (Truth (int_le a b))) (λ a b. is truth) h k
    binaries Bin.More h k = on_ints (λ a b. Is (Truth (int_lt b a))) (λ a b. is truth) h k
    binaries Bin.MoreEq h k = on_ints (λ a b. Is (Truth (int_le b a))) (λ a b. is truth) h k
    binaries Bin.Same h k = truth_answers (identicals h k)
    binaries Bin.NotSame h k = truth_answers (ap denied (identicals h k))
    binaries Bin.Or h k = is k
    binaries Bin.And h k = is k
    binaries Bin.Coalesce h k = is k
