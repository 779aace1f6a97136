-- The methods of lists, arrays and texts do alike.
use Rattle.std.specs.Prelude.{◌≡◌, refl, ℕ, suc, ◌+◌, ◌-◌, ℤ, pos, List, [], ◌∷◌, ◌++◌, length, take, drop}
use Rattle.std.proofs.Common.{ap, subst}
use Rattle.qk_meaning.specs.Value.{Text, Value, Int}
use Rattle.qk_meaning.specs.World.{Object}
use Rattle.qk_meaning.specs.Parts.{nth}
use Rattle.qk_meaning.specs.Texts.{joined}
use Rattle.qk_meaning.specs.Writing.{pushed_on, items_left, cut_place, cut_count}
use Rattle.qk_meaning.specs.Doing.{Doing}
use Rattle.qk_meaning.specs.Running.{Running, Mode}
use Rattle.qk_meaning.specs.Ties.{Ties, Paired, Stands, Object_stands, plain, signal, computed, props, int, truth, words, Pairwise, no_more, one_more, array}
use Rattle.qk_meaning.specs.Alike.{Reach}
use Rattle.qk_meaning.specs.Worlds_stand.{Start}
use Rattle.qk_alike.specs.Meanings_stand.{Becomings_stand, both_become, both_stay}
use Rattle.qk_meaning.specs.Setting.{Setting, is_effect}
use Rattle.qk_meaning.specs.Methods.{Method, Map, Filter, Slice, Join, Push, Pop, Splice, Includes, Starts_with, called_on_each, mapped, filtered, sliced, items_joined, if_function, pushed, popped, cut_out, spliced, changing, method_called, as_values, keys_listed}
use Rattle.qk_alike.proofs.Doing_laws.{Relation, Settings_stand}
use Rattle.qk_alike.proofs.Lists.{lengths, packs, lists_of, nths, takes, drops, appends, Refs, Numbered, numbers, texts_equal, betweens, short_texts, integers, grown_arrays, kept_items, word_values}
use Rattle.qk_alike.proofs.Steps as S
use Rattle.qk_alike.proofs.Made.{all_items_lem, lists_made}
use Rattle.qk_alike.proofs.Referred.{Changes_stand, changed_ref, guards, effects}

module _ {t : Ties} {b : Start} {K : Relation} {here here' : Setting} (w : Settings_stand t b K here here') where
  open w use {laws, facts, entering}
  open w.laws use {gives, bind, heaps, reads}

  pub enters_mode : {r : Reach} {mode mode' : Mode} {running running' : List ℕ} {f g : Value} {all all' : List Value} → mode ≡ mode' → Pairwise (Paired t.pairing) running running' → Stands t f g → Pairwise (Stands t) all all' →
      K r Value Value (Stands t) (here.enter mode running f all) (here'.enter mode' running' g all')
  enters_mode {r} {mode} {mode'} {running} {running'} {f} {g} {all} {all'} e p q h = subst (λ m. K r Value Value (Stands t) (here.enter mode running f all) (here'.enter m running' g all')) e (entering.enters mode p q h)

  indexed : {e e' : ℕ × Value} → Numbered t e e' → Pairwise (Stands t) (e.1 ∷ Int (pos e.0) ∷ []) (e'.1 ∷ Int (pos e'.0) ∷ [])
  indexed h = one_more h.value (one_more (integers h.index) no_more)

  called_on_each_lem : {r : Reach} {f g : Value} {all all' : List Value} → Stands t f g → Pairwise (Stands t) all all' → K r _ _ (Pairwise (Stands t)) (called_on_each here f all) (called_on_each here' g all')
  called_on_each_lem h hs = S.eaches laws (λ e e' k. enters_mode w.mode w.running h (indexed k)) (numbers 0 hs)

  mapped_lem : {r : Reach} {v v' f g : Value} → Stands t v v' → Stands t f g → K r _ _ (Stands t) (mapped here v f) (mapped here' v' g)
  mapped_lem p h = bind (all_items_lem w p) (λ xs ys hs. bind (called_on_each_lem h hs) (λ us vs ks. lists_made w ks))

  filtered_lem : {r : Reach} {v v' f g : Value} → Stands t v v' → Stands t f g → K r _ _ (Stands t) (filtered here v f) (filtered here' v' g)
  filtered_lem p h = bind (all_items_lem w p) (λ xs ys hs. bind (called_on_each_lem h hs) (λ us vs ks. lists_made w (kept_items facts hs ks)))

  sliced_lem : {r : Reach} {v v' : Value} → Stands t v v' → (start : ℤ) (stop : ℕ → ℕ) → K r _ _ (Stands t) (sliced here v start stop) (sliced here' v' start stop)
  sliced_lem p start stop = bind (all_items_lem w p) (λ xs ys hs. lists_made w (betweens (ap (λ n. cut_place n start) (lengths hs)) (ap stop (lengths hs)) hs))

  items_joined_lem : {r : Reach} {v v' : Value} → Stands t v v' → (separator : Text) → K r _ _ (Stands t) (items_joined v separator) (items_joined v' separator)
  items_joined_lem p separator = bind (all_items_lem w p) (λ xs ys hs. bind (S.eaches laws (λ x y h. S.answers_same laws (facts.joins h)) hs) (λ us vs ks. S.answers laws (short_texts (ap (joined separator) (texts_equal ks)))))

  if_function_lem : {r : Reach} {f g : Value} {m m' : Doing Running Value} → Stands t f g → K r _ _ (Stands t) m m' → K r _ _ (Stands t) (if_function f m) (if_function g m')
  if_function_lem h p = S.choose laws (facts.functions h) p (S.faults laws _)

  -- ---- calls that change an array

  pushes : {v v' : Value} → Stands t v v' → Changes_stand w (pushed_on v) (pushed_on v')
  pushes {v} {v'} h = record { makes = λ o. by o }
    where
      by : {o o' : Object} → Object_stands t o o' → Becomings_stand t (pushed_on v o) (pushed_on v' o')
      by (array k) = grown_arrays (appends (lists_of k) (one_more h no_more))
      by (plain k) = both_stay
      by (signal k) = both_stay
      by (computed k) = both_stay
      by (props k) = both_stay

  leaves : (f f' : List Value → List Value) → ((xs ys : List Value) → Pairwise (Stands t) xs ys → Pairwise (Stands t) (f xs) (f' ys)) → Changes_stand w (items_left f) (items_left f')
  leaves f f' h = record { makes = λ o. by o }
    where
      by : {o o' : Object} → Object_stands t o o' → Becomings_stand t (items_left f o) (items_left f' o')
      by (array k) = both_become (array (packs (h _ _ (lists_of k))))
      by (plain k) = both_stay
      by (signal k) = both_stay
      by (computed k) = both_stay
      by (props k) = both_stay

  pushed_lem : {r : Reach} {v v' : Value} {all all' : List Value} → Refs t v v' → Stands t v v' → Pairwise (Stands t) all all' → K r _ _ (Stands t) (pushed here v all) (pushed here' v' all')
  pushed_lem xy p no_more = S.faults laws _
  pushed_lem xy p (one_more h no_more) = bind heaps (λ x y hs. bind (changed_ref w xy (pushes h)) (λ x y d. gives (integers (ap suc (lengths (facts.items hs p))))))
  pushed_lem xy p (one_more h (one_more k rest)) = S.faults laws _

  popped_lem : {r : Reach} {v v' : Value} {all all' : List Value} → Refs t v v' → Stands t v v' → Pairwise (Stands t) all all' → K r _ _ (Stands t) (popped here v all) (popped here' v' all')
  popped_lem xy p no_more =
      bind (all_items_lem w p) (λ us vs ks. bind (changed_ref w xy (leaves (λ all. take (length all - 1) all) (λ all. take (length all - 1) all) (λ xs ys h. fewer h))) (λ x y d. gives (last ks)))
    where
      fewer : {us vs : List Value} → Pairwise (Stands t) us vs → Pairwise (Stands t) (take (length us - 1) us) (take (length vs - 1) vs)
      fewer {us} {vs} ks = subst (λ n. Pairwise (Stands t) (take (length us - 1) us) (take (n - 1) vs)) (lengths ks) (takes (length us - 1) ks)

      last : {us vs : List Value} → Pairwise (Stands t) us vs → Stands t (nth us (length us - 1)) (nth vs (length vs - 1))
      last {us} {vs} ks = subst (λ n. Stands t (nth us (length us - 1)) (nth vs (n - 1))) (lengths ks) (nths (length us - 1) ks)
  popped_lem xy p (one_more h rest) = S.faults laws _

  cut_out_lem : {r : Reach} {v v' : Value} {all all' : List Value} {i i' j j' : ℕ} → Refs t v v' → Pairwise (Stands t) all all' → i ≡ i' → j ≡ j' → K r _ _ (Stands t) (cut_out here v all i j) (cut_out here' v' all' i' j')
  cut_out_lem {r} {v} {v'} {all} {all'} {i} {i'} {j} {j'} xy h p q =
      subst (λ m. K r _ _ (Stands t) (cut_out here v all i j) (cut_out here' v' all' m j')) p
      (subst (λ m. K r _ _ (Stands t) (cut_out here v all i j) (cut_out here' v' all' i m)) q
      (bind (changed_ref w xy (leaves (λ all. take i all ++ drop j all) (λ all. take i all ++ drop j all) (λ xs ys k. appends (takes i k) (drops j k)))) (λ c d e. lists_made w (betweens {a = i} {a' = i} {b = j} {b' = j} refl refl h))))

  spliced_lem : {r : Reach} {v v' : Value} {all all' : List Value} → Refs t v v' → Stands t v v' → Pairwise (Stands t) all all' → K r _ _ (Stands t) (spliced here v all) (spliced here' v' all')
  spliced_lem xy p (one_more (int {n = start}) (one_more (int {n = count}) no_more)) =
      bind (all_items_lem w p) (λ us vs ks. cut_out_lem xy ks (ap (λ n. cut_place n start) (lengths ks)) (ap (λ n. cut_place n start + cut_count n (cut_place n start) count) (lengths ks)))
  spliced_lem xy p _ = S.faults laws _

  changing_lem : {r : Reach} {v v' : Value} {m m' : Doing Running Value} → Stands t v v' → (Refs t v v' → K r _ _ (Stands t) m m') → K r _ _ (Stands t) (changing (is_effect here.mode) v m) (changing (is_effect here'.mode) v' m')
  changing_lem {r} {v} {v'} {m} {m'} p q = subst (λ e. K r _ _ (Stands t) (changing (is_effect here.mode) v m) (changing e v' m')) (effects w) (bind heaps (λ x y hs. guards w (is_effect here.mode) hs p q))

  pub method_called_lem : {r : Reach} {v v' : Value} {all all' : List Value} → (m : Method) → Stands t v v' → Pairwise (Stands t) all all' → K r _ _ (Stands t) (method_called here m v all) (method_called here' m v' all')
  method_called_lem Push p h = changing_lem p (λ xy. pushed_lem xy p h)
  method_called_lem Pop p h = changing_lem p (λ xy. popped_lem xy p h)
  method_called_lem Splice p h = changing_lem p (λ xy. spliced_lem xy p h)
  method_called_lem Map p (one_more h no_more) = if_function_lem h (mapped_lem p h)
  method_called_lem Filter p (one_more h no_more) = if_function_lem h (filtered_lem p h)
  method_called_lem Slice p no_more = sliced_lem p (pos 0) (λ size. size)
  method_called_lem Slice p (one_more (int {n = i}) no_more) = sliced_lem p i (λ size. size)
  method_called_lem Slice p (one_more (int {n = i}) (one_more (int {n = j}) no_more)) = sliced_lem p i (λ size. cut_place size j)
  method_called_lem Join p (one_more (words {w = separator}) no_more) = items_joined_lem p separator
  method_called_lem Includes words (one_more words no_more) = gives truth
  method_called_lem Starts_with words (one_more words no_more) = gives truth
  method_called_lem _ p _ = S.faults laws _

  pub keys_listed_lem : {r : Reach} {v v' : Value} → Stands t v v' → K r _ _ (Stands t) (keys_listed here v) (keys_listed here' v')
  keys_listed_lem h = bind heaps (λ x y hs. bind (S.answers laws (facts.keys hs h)) (λ k l ks. bind (reads ks.locations) (λ x y d. lists_made w (listed_words ks.names))))
    where
      listed_words : {all all' : List Text} → all ≡ all' → Pairwise (Stands t) (as_values all) (as_values all')
      listed_words {all} {all'} e = subst (λ x. Pairwise (Stands t) (as_values all) (as_values x)) e (word_values all)
