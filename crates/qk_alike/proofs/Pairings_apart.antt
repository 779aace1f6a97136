-- A new pairing, as behind a pause: what has to be known of its pairs, so that addresses and heaps stand for one another.
use Rattle.std.specs.Prelude.{◌≡◌, refl, ℕ, suc, ◌+◌, ◌<◌, List, [], ◌∷◌, length}
use Rattle.std.proofs.Common.{sym, subst, arith}
use Rattle.qk_meaning.specs.Value.{end}
use Rattle.qk_meaning.specs.World.{Object, Plain}
use Rattle.qk_meaning.specs.Heap.{object_at}
use Rattle.qk_meaning.specs.Ties.{Pairing, Paired, old_pair, new_pair, Object_stands, plain, end_stands}
use Rattle.qk_alike.specs.Pairings.{Pairs_apart, PairsOneToOne, HeapsBegin}

beyond : (a n k : ℕ) → a < n → a ≡ n + k → ⊥
beyond a n k h e = omega arith

one_right : (p : Pairing) → Pairs_apart p → (a b c : ℕ) → Paired p a b → Paired p a c → b ≡ c
one_right p h a b c (old_pair x) (old_pair y) = h.right a b c x y
one_right p h a b c (old_pair x) (new_pair k q r) = absurd (beyond a p.left_from k (h.left_made a b x) q)
one_right p h a b c (new_pair k q r) (old_pair y) = absurd (beyond a p.left_from k (h.left_made a c y) q)
one_right p h a b c (new_pair k q r) (new_pair l s u) = omega (arith, q, r, s, u)

one_left : (p : Pairing) → Pairs_apart p → (a b c : ℕ) → Paired p a c → Paired p b c → a ≡ b
one_left p h a b c (old_pair x) (old_pair y) = h.left a b c x y
one_left p h a b c (old_pair x) (new_pair k q r) = absurd (beyond c p.right_from k (h.right_made a c x) r)
one_left p h a b c (new_pair k q r) (old_pair y) = absurd (beyond c p.right_from k (h.right_made b c y) r)
one_left p h a b c (new_pair k q r) (new_pair l s u) = omega (arith, q, r, s, u)

past_end : (heap : List Object) (k : ℕ) → object_at heap (length heap + k) ≡ Plain end
past_end [] k = refl
past_end (o ∷ heap) k = subst (λ n. object_at (o ∷ heap) n ≡ Plain end) (shift (length heap) k) (past_end heap k)
  where
    shift : (n k : ℕ) → suc (n + k) ≡ suc n + k
    shift n k = omega arith

-- heaps stand for one another once the objects at the pairs do
pub heaps_begin : HeapsBegin
heaps_begin t heap heap' p q h = record {
  there = by;
  ahead = λ k. new_pair k (subst (λ n. length heap + k ≡ n + k) (sym p) refl) (subst (λ n. length heap' + k ≡ n + k) (sym q) refl);
}
  where
    at_end : (all : List Object) (n a k : ℕ) → n ≡ length all → a ≡ n + k → object_at all a ≡ Plain end
    at_end all n a k e f = subst (λ x. object_at all x ≡ Plain end) (sym (subst (λ m. a ≡ m + k) e f)) (past_end all k)

    by : (a b : ℕ) → Paired t.pairing a b → Object_stands t (object_at heap a) (object_at heap' b)
    by a b (old_pair x) = h a b x
    by a b (new_pair k r s) =
        subst (λ o. Object_stands t o (object_at heap' b)) (sym (at_end heap t.pairing.left_from a k p r))
        (subst (λ o. Object_stands t (Plain end) o) (sym (at_end heap' t.pairing.right_from b k q s)) (plain end_stands))

pub pairs_one_to_one : PairsOneToOne
pairs_one_to_one p h = record { one_right = one_right p h; one_left = one_left p h }
