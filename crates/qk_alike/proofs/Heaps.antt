-- Heaps stand for one another behind a write, and behind a fresh object.
use Rattle.std.specs.Prelude.{◌≡◌, refl, ℕ, zero, suc, ◌+◌, ◌-◌, ◌<◌, ◌≤◌, ◌⊎◌, Bool, true, false, List, [], ◌∷◌, ◌++◌, length, drop, set, eqb}
use Rattle.std.proofs.Common.{sym, ◌∙◌, ap, subst, arith, inl, inr}
use Rattle.std.proofs.lemmas.List.{length-set, length-append}
use Rattle.std.proofs.lemmas.Bool.{eqb-true, eqb-false, ltb-true, ltb-false}
use Rattle.qk_meaning.specs.World.{Object}
use Rattle.qk_meaning.specs.Heap.{is_made, object_at}
use Rattle.qk_meaning.specs.Ties.{Ties, Apart, Paired, Object_stands, Pairwise, no_more, one_more}
use Rattle.qk_meaning.specs.Worlds_stand.{Heaps_stand}

decided : (a b : ℕ) → (a ≡ b) ⊎ (a ≡ b → ⊥)
decided a b = go (eqb a b) refl
  where
    go : (x : Bool) → eqb a b ≡ x → (a ≡ b) ⊎ (a ≡ b → ⊥)
    go true e = inl (eqb-true a b e)
    go false e = inr (eqb-false a b e)

set_here : (heap : List Object) (a : ℕ) (o : Object) → a < length heap → object_at (set heap a o) a ≡ o
set_here [] a o h = absurd (nothing a h)
  where
    nothing : (k : ℕ) → k < 0 → ⊥
    nothing k h = omega arith
set_here (x ∷ heap) zero o h = refl
set_here (x ∷ heap) (suc a) o h = set_here heap a o (omega arith)

set_beyond : (heap : List Object) (a x : ℕ) (o : Object) → length heap ≤ a → object_at (set heap a o) x ≡ object_at heap x
set_beyond [] a x o h = refl
set_beyond (y ∷ heap) zero x o h = absurd (nothing (length heap) h)
  where
    nothing : (k : ℕ) → suc k ≤ 0 → ⊥
    nothing k h = omega arith
set_beyond (y ∷ heap) (suc a) zero o h = refl
set_beyond (y ∷ heap) (suc a) (suc x) o h = set_beyond heap a x o (omega arith)

set_other : (heap : List Object) (a x : ℕ) (o : Object) → (a ≡ x → ⊥) → object_at (set heap a o) x ≡ object_at heap x
set_other [] a x o ne = refl
set_other (y ∷ heap) zero zero o ne = absurd (ne refl)
set_other (y ∷ heap) zero (suc x) o ne = refl
set_other (y ∷ heap) (suc a) zero o ne = refl
set_other (y ∷ heap) (suc a) (suc x) o ne = set_other heap a x o (λ e. ne (ap suc e))

added_here : (heap : List Object) (o : Object) → object_at (heap ++ o ∷ []) (length heap) ≡ o
added_here [] o = refl
added_here (x ∷ heap) o = added_here heap o

added_other : (heap : List Object) (o : Object) (x : ℕ) → (x ≡ length heap → ⊥) → object_at (heap ++ o ∷ []) x ≡ object_at heap x
added_other [] o zero ne = absurd (ne refl)
added_other [] o (suc x) ne = refl
added_other (y ∷ heap) o zero ne = refl
added_other (y ∷ heap) o (suc x) ne = added_other heap o x (λ e. ne (ap suc e))

-- ---- objects behind a place

dropped_at : (n i : ℕ) (heap : List Object) → object_at (drop n heap) i ≡ object_at heap (n + i)
dropped_at zero i heap = ap (λ k. object_at heap k) (none_more i)
  where
    none_more : (k : ℕ) → k ≡ 0 + k
    none_more k = omega arith
dropped_at (suc n) i [] = refl
dropped_at (suc n) i (o ∷ heap) = dropped_at n i heap ∙ ap (λ k. object_at (o ∷ heap) k) (one_more_at n i)
  where
    one_more_at : (k m : ℕ) → suc (k + m) ≡ suc k + m
    one_more_at k m = omega arith

dropped_length : (n k : ℕ) (heap : List Object) → length heap ≡ n + k → length (drop n heap) ≡ k
dropped_length zero k heap e = e ∙ none_more k
  where
    none_more : (m : ℕ) → 0 + m ≡ m
    none_more m = omega arith
dropped_length (suc n) k [] e = no_less k n e
  where
    no_less : (m i : ℕ) → 0 ≡ suc i + m → 0 ≡ m
    no_less m i e = omega (arith, e)
dropped_length (suc n) k (o ∷ heap) e = dropped_length n k heap (one_less (length heap) n k e)
  where
    one_less : (m i j : ℕ) → suc m ≡ suc i + j → m ≡ i + j
    one_less m i j e = omega (arith, e)

dropped_all : (n k : ℕ) (heap : List Object) → n ≡ length heap + k → drop n heap ≡ []
dropped_all zero k [] e = refl
dropped_all (suc n) k [] e = refl
dropped_all zero k (o ∷ heap) e = absurd (no_less (length heap) k e)
  where
    no_less : (m j : ℕ) → 0 ≡ suc m + j → ⊥
    no_less m j e = omega (arith, e)
dropped_all (suc n) k (o ∷ heap) e = dropped_all n k heap (one_less (length heap) n k e)
  where
    one_less : (m i j : ℕ) → suc i ≡ suc m + j → i ≡ m + j
    one_less m i j e = omega (arith, e)

objects_pair : {t : Ties} (all all' : List Object) → length all ≡ length all' → ((i : ℕ) → Object_stands t (object_at all i) (object_at all' i)) → Pairwise (Object_stands t) all all'
objects_pair [] [] e h = no_more
objects_pair [] (o ∷ all') e h = absurd (no_less (length all') e)
  where
    no_less : (m : ℕ) → 0 ≡ suc m → ⊥
    no_less m e = omega (arith, e)
objects_pair (o ∷ all) [] e h = absurd (no_less (length all) e)
  where
    no_less : (m : ℕ) → suc m ≡ 0 → ⊥
    no_less m e = omega (arith, e)
objects_pair (o ∷ all) (o' ∷ all') e h = one_more (h 0) (objects_pair all all' (omega (arith, e)) (λ i. h (suc i)))

module _ (t : Ties) (apart : Apart t) where
  objects_at : (h h' : List Object) {o o' : Object} (x y : ℕ) → object_at h x ≡ o → object_at h' y ≡ o' → Object_stands t o o' → Object_stands t (object_at h x) (object_at h' y)
  objects_at h h' {o} {o'} x y p q k = subst (λ z. Object_stands t z (object_at h' y)) (sym p) (subst (λ z. Object_stands t o z) (sym q) k)

  split_at : (n a : ℕ) → (a < n) ⊎ ((k : ℕ) × (a ≡ n + k))
  split_at zero a = inr (a, omega arith)
  split_at (suc n) zero = inl (omega arith)
  split_at (suc n) (suc a) = go (split_at n a)
    where
      go : (a < n) ⊎ ((k : ℕ) × (a ≡ n + k)) → (suc a < suc n) ⊎ ((k : ℕ) × (suc a ≡ suc n + k))
      go (inl h) = inl (omega arith)
      go (inr h) = inr (h.0, omega (arith, h.1))

  -- a paired address is there on both sides or on none
  pub beyond_right : {h h' : List Object} (a b k : ℕ) → Heaps_stand t h h' → Paired t.pairing a b → a ≡ length h + k → b ≡ length h' + k
  beyond_right {h} {h'} a b k hs ab e = apart.one_right a b (length h' + k) ab (subst (λ x. Paired t.pairing x (length h' + k)) (sym e) (hs.ahead k))

  pub beyond_left : {h h' : List Object} (a b k : ℕ) → Heaps_stand t h h' → Paired t.pairing a b → b ≡ length h' + k → a ≡ length h + k
  beyond_left {h} {h'} a b k hs ab e = apart.one_left a (length h + k) b ab (subst (λ x. Paired t.pairing (length h + k) x) (sym e) (hs.ahead k))

  pub made_alike : {h h' : List Object} (a b : ℕ) → Heaps_stand t h h' → Paired t.pairing a b → is_made h a ≡ is_made h' b
  made_alike {h} {h'} a b hs ab = go (is_made h a) (is_made h' b) refl refl
    where
      past : (n m : ℕ) → m ≤ n → n ≡ m + (n - m)
      past n m l = omega arith

      below : (n m k : ℕ) → n < m → n ≡ m + k → ⊥
      below n m k l e = omega arith

      go : (x y : Bool) → is_made h a ≡ x → is_made h' b ≡ y → x ≡ y
      go true true p q = refl
      go false false p q = refl
      go true false p q = absurd (below a (length h) (b - length h') (ltb-true a (length h) p) (beyond_left a b (b - length h') hs ab (past b (length h') (ltb-false b (length h') q))))
      go false true p q = absurd (below b (length h') (a - length h) (ltb-true b (length h') q) (beyond_right a b (a - length h) hs ab (past a (length h) (ltb-false a (length h) p))))

  pub heaps_set : {h h' : List Object} {o o' : Object} (a b : ℕ) → Heaps_stand t h h' → Paired t.pairing a b → Object_stands t o o' → Heaps_stand t (set h a o) (set h' b o')
  heaps_set {h} {h'} {o} {o'} a b hs ab k = record {
    there = λ x y xy. by x y xy (split_at (length h) a) (split_at (length h') b) (decided a x) (decided b y);
    ahead = λ n. subst (λ i. Paired t.pairing (i + n) (length (set h' b o') + n)) (sym (length-set h a o)) (subst (λ i. Paired t.pairing (length h + n) (i + n)) (sym (length-set h' b o')) (hs.ahead n));
  }
    where
      apart_there : (n m k : ℕ) → n < m → n ≡ m + k → ⊥
      apart_there n m k l e = omega arith

      by : (x y : ℕ) → Paired t.pairing x y → (a < length h) ⊎ ((i : ℕ) × (a ≡ length h + i)) → (b < length h') ⊎ ((i : ℕ) × (b ≡ length h' + i)) → (a ≡ x) ⊎ (a ≡ x → ⊥) → (b ≡ y) ⊎ (b ≡ y → ⊥) →
          Object_stands t (object_at (set h a o) x) (object_at (set h' b o') y)
      by x y xy (inl l) (inl m) (inl e) (inl f) =
          objects_at (set h a o) (set h' b o') x y (subst (λ z. object_at (set h a o) z ≡ o) e (set_here h a o l)) (subst (λ z. object_at (set h' b o') z ≡ o') f (set_here h' b o' m)) k
      by x y xy (inl l) (inr m) e f = absurd (apart_there a (length h) m.0 l (beyond_left a b m.0 hs ab m.1))
      by x y xy (inr l) (inl m) e f = absurd (apart_there b (length h') l.0 m (beyond_right a b l.0 hs ab l.1))
      by x y xy (inr l) (inr m) e f = objects_at (set h a o) (set h' b o') x y (set_beyond h a x o (beyond a (length h) l.0 l.1)) (set_beyond h' b y o' (beyond b (length h') m.0 m.1)) (hs.there x y xy)
        where
          beyond : (n m k : ℕ) → n ≡ m + k → m ≤ n
          beyond n m k e = omega arith
      by x y xy (inl l) (inl m) (inr e) (inr f) = objects_at (set h a o) (set h' b o') x y (set_other h a x o e) (set_other h' b y o' f) (hs.there x y xy)
      by x y xy (inl l) (inl m) (inl e) (inr f) = absurd (f (apart.one_right a b y ab (subst (λ z. Paired t.pairing z y) (sym e) xy)))
      by x y xy (inl l) (inl m) (inr e) (inl f) = absurd (e (apart.one_left a x b ab (subst (λ z. Paired t.pairing x z) (sym f) xy)))

  pub newest : {h h' : List Object} → Heaps_stand t h h' → Paired t.pairing (length h) (length h')
  newest {h} {h'} hs = subst (λ n. Paired t.pairing n (length h')) (plus_zero (length h)) (subst (λ n. Paired t.pairing (length h + 0) n) (plus_zero (length h')) (hs.ahead 0))
    where
      plus_zero : (n : ℕ) → n + 0 ≡ n
      plus_zero n = omega arith

  pub heaps_grow : {h h' : List Object} {o o' : Object} → Heaps_stand t h h' → Object_stands t o o' → Heaps_stand t (h ++ o ∷ []) (h' ++ o' ∷ [])
  heaps_grow {h} {h'} {o} {o'} hs k = record {
    there = λ x y xy. by x y xy (decided x (length h)) (decided y (length h'));
    ahead = λ n. subst (λ i. Paired t.pairing i (length (h' ++ o' ∷ []) + n)) (sym (one_longer h o n)) (subst (λ i. Paired t.pairing (length h + suc n) i) (sym (one_longer h' o' n)) (hs.ahead (suc n)));
  }
    where
      one_longer : (all : List Object) (x : Object) (n : ℕ) → length (all ++ x ∷ []) + n ≡ length all + suc n
      one_longer all x n = omega (arith, length-append all (x ∷ []))

      by : (x y : ℕ) → Paired t.pairing x y → (x ≡ length h) ⊎ (x ≡ length h → ⊥) → (y ≡ length h') ⊎ (y ≡ length h' → ⊥) → Object_stands t (object_at (h ++ o ∷ []) x) (object_at (h' ++ o' ∷ []) y)
      by x y xy (inl e) (inl f) = objects_at (h ++ o ∷ []) (h' ++ o' ∷ []) x y (subst (λ z. object_at (h ++ o ∷ []) z ≡ o) (sym e) (added_here h o)) (subst (λ z. object_at (h' ++ o' ∷ []) z ≡ o') (sym f) (added_here h' o')) k
      by x y xy (inr e) (inr f) = objects_at (h ++ o ∷ []) (h' ++ o' ∷ []) x y (added_other h o x e) (added_other h' o' y f) (hs.there x y xy)
      by x y xy (inl e) (inr f) = absurd (f (apart.one_right x y (length h') xy (subst (λ z. Paired t.pairing z (length h')) (sym e) (newest hs))))
      by x y xy (inr e) (inl f) = absurd (e (apart.one_left x (length h) y xy (subst (λ z. Paired t.pairing (length h) z) (sym f) (newest hs))))

  -- the objects made since there were so many
  pub made_since : (n n' : ℕ) {h h' : List Object} → ((k : ℕ) → Paired t.pairing (n + k) (n' + k)) → Heaps_stand t h h' → Pairwise (Object_stands t) (drop n h) (drop n' h')
  made_since n n' {h} {h'} ahead hs = go (split_at n (length h))
    where
      beside : (k : ℕ) → n ≡ length h + k → n' ≡ length h' + k
      beside k e = beyond_right n n' k hs (subst (λ z. Paired t.pairing z n') (plus_zero n) (subst (λ z. Paired t.pairing (n + 0) z) (plus_zero n') (ahead 0))) e
        where
          plus_zero : (m : ℕ) → m + 0 ≡ m
          plus_zero m = omega arith

      behind : (k : ℕ) → length h ≡ n + k → length h' ≡ n' + k
      behind k e = apart.one_right (length h) (length h') (n' + k) (newest hs) (subst (λ z. Paired t.pairing z (n' + k)) (sym e) (ahead k))

      at : (i : ℕ) → Object_stands t (object_at (drop n h) i) (object_at (drop n' h') i)
      at i = objects_at (drop n h) (drop n' h') i i (dropped_at n i h) (dropped_at n' i h') (hs.there (n + i) (n' + i) (ahead i))

      empty : (k : ℕ) → n ≡ length h + k → Pairwise (Object_stands t) (drop n h) (drop n' h')
      empty k e = subst (λ z. Pairwise (Object_stands t) z (drop n' h')) (sym (dropped_all n k h e)) (subst (λ z. Pairwise (Object_stands t) [] z) (sym (dropped_all n' k h' (beside k e))) no_more)

      more : (m j : ℕ) → m < j → j ≡ m + (j - m)
      more m j l = omega arith

      go : (length h < n) ⊎ ((k : ℕ) × (length h ≡ n + k)) → Pairwise (Object_stands t) (drop n h) (drop n' h')
      go (inl l) = empty (n - length h) (more (length h) n l)
      go (inr e) = objects_pair (drop n h) (drop n' h') (dropped_length n e.0 h e.1 ∙ sym (dropped_length n' e.0 h' (behind e.0 e.1))) at
