-- A fault of nesting comes only behind so many tokens that can raise it: the steps and loops.
use Rattle.std.proofs.Common.{◌≡◌, refl, ◌∙◌, ap, arith, append_assoc, length-append}
use Rattle.std.specs.Prelude.{ℕ, zero, suc, ◌+◌, ◌≤◌, Bool, true, false, if◌then◌else◌, nat_le, List, [], ◌∷◌, ◌++◌, length, Option, Some, None, Ok, Err, codes}
use Rattle.qk_ast.specs.Characters.{Characters}
use Rattle.qk_ast.specs.Tokens.{Token}
use Rattle.qk_reading.specs.Input.{Input, at, Syntax, TooDeep, Outcome, Reader, and_then, pure, maybe, Mark, Sign, token_of, first_is, rest, advance, sees, after, expect, name_that, number, enter, many_from, many, sparse_from, sparse, separated_from, separated, collected_from, collected}
use Rattle.qk_reading.specs.Parts.{later}
use Rattle.qk_reading.specs.Laws.{can_raise, raisers}
use Rattle.qk_reading.proofs.Follow.{by_bool}
use Rattle.qk_reading.proofs.Sound.{mark_seen}

-- behind a front in which so many tokens can raise the nesting stands what follows the place
pub record Deep (n : ℕ) (ts : List Token) (left : ℕ) : Type 0 where
  pub front : List Token
  pub behind : List Token
  pub spells : front ++ behind ≡ ts
  pub place : suc (length behind) ≡ left
  pub raised : n ≤ raisers front

-- the one comes behind the other
pub record Follows (i j : Input) : Type 0 where
  pub front : List Token
  pub spells : front ++ j.tokens ≡ i.tokens

-- a fault stands among what is left, and one of nesting behind so many
pub data Good {A : Type 0} (n : ℕ) (i : Input) : Outcome A → Type 0 where
  fine : {x : A} {j : Input} → Follows i j → Good n i (Ok (x, j))
  out_of_place : {k : ℕ} → k ≤ length i.tokens → Good n i (Err (Syntax k))
  deep : {k : ℕ} → Deep n i.tokens k → Good n i (Err (TooDeep k))

pub wrong : {A : Type 0} {n : ℕ} {i : Input} → Good {A = A} n i (Err (Syntax (length i.tokens)))
wrong = out_of_place (omega arith)

raisers_append : (ts us : List Token) → raisers (ts ++ us) ≡ raisers ts + raisers us
raisers_append [] us = omega arith
raisers_append (t ∷ ts) us = by_case (raisers (ts ++ us)) (raisers ts) (raisers us) (can_raise t) (raisers_append ts us)
  where
    by_case : (x y z : ℕ) (b : Bool) → x ≡ y + z → (if b then 1 + x else x) ≡ (if b then 1 + y else y) + z
    by_case x y z true e = omega (arith, e)
    by_case x y z false e = e

pub here : {i : Input} → Follows i i
here = record { front = []; spells = refl }

behind_both : {i j k : Input} → Follows i j → Follows j k → Follows i k
behind_both r s = record { front = r.front ++ s.front; spells = append_assoc r.front s.front _ ∙ ap (λ ts. r.front ++ ts) s.spells ∙ r.spells }

deep_behind : {n k : ℕ} {i j : Input} → Follows i j → Deep n j.tokens k → Deep n i.tokens k
deep_behind r d =
    let a = raisers_append r.front d.front in
    let b = d.raised in
    record { front = r.front ++ d.front; behind = d.behind; spells = append_assoc r.front d.front d.behind ∙ ap (λ ts. r.front ++ ts) d.spells ∙ r.spells; place = d.place; raised = omega (arith, a, b) }

-- ---- steps

-- what is good behind is good here
pub pass : {A : Type 0} {n : ℕ} {i j : Input} {o : Outcome A} → Follows i j → Good n j o → Good n i o
pass r (fine s) = fine (behind_both r s)
pass {i = i} {j = j} r (out_of_place h) = let e = ap (λ ts. length ts) r.spells in let a = length-append r.front j.tokens in out_of_place (omega (arith, h, e, a))
pass r (deep d) = deep (deep_behind r d)

pub weaker : {A : Type 0} {m n : ℕ} {i : Input} {o : Outcome A} → m ≤ n → Good n i o → Good m i o
weaker h (fine s) = fine s
weaker h (out_of_place k) = out_of_place k
weaker h (deep d) = let a = d.raised in deep (record { front = d.front; behind = d.behind; spells = d.spells; place = d.place; raised = omega (arith, a, h) })

-- behind a token that can raise the nesting
pub raise : {A : Type 0} {n : ℕ} {i j : Input} {o : Outcome A} (t : Token) → can_raise t ≡ true → t ∷ j.tokens ≡ i.tokens → Good n j o → Good (suc n) i o
raise t h e (fine s) = fine (behind_both (record { front = t ∷ []; spells = e }) s)
raise t h e (out_of_place k) = let a = ap (λ ts. length ts) e in out_of_place (omega (arith, k, a))
raise t h e (deep d) =
    let a = ap (λ b. if b then 1 + raisers d.front else raisers d.front) h in
    let b = d.raised in
    deep (record { front = t ∷ d.front; behind = d.behind; spells = ap (λ ts. t ∷ ts) d.spells ∙ e; place = d.place; raised = omega (arith, a, b) })

pub skip : {A : Type 0} {n : ℕ} {i j : Input} {o : Outcome A} (t : Token) → t ∷ j.tokens ≡ i.tokens → Good n j o → Good n i o
skip t e g = pass (record { front = t ∷ []; spells = e }) g

pub good_then : {A B : Type 0} {n : ℕ} {i : Input} {o : Outcome A} {f : A → Reader B} → Good n i o → ((x : A) (j : Input) → Good n j (f x j)) → Good n i (and_then o f)
good_then (fine {x = x} {j = j} r) k = pass r (k x j)
good_then (out_of_place h) k = out_of_place h
good_then (deep d) k = deep d

pub good_later : {A B : Type 0} {n : ℕ} {i : Input} {other : Outcome A} {o : Outcome B} → Good n i other → Good n i o → Good n i (later other o)
good_later g (fine r) = fine r
good_later g (deep d) = deep d
good_later (fine r) (out_of_place h) = out_of_place h
good_later (out_of_place {k = m} g) (out_of_place {k = k} h) = by_bool (nat_le k m) (λ s. rw s (out_of_place h)) (λ s. rw s (out_of_place g))
good_later (deep {k = m} d) (out_of_place {k = k} h) = by_bool (nat_le k m) (λ s. rw s (out_of_place h)) (λ s. rw s (deep d))

-- either the token comes next, or it doesn't
pub by_seen : {P : Type 0} (m : Mark) (i : Input) → (sees m i ≡ true → after m i ≡ advance i → token_of m ∷ (advance i).tokens ≡ i.tokens → P) → (sees m i ≡ false → after m i ≡ i → P) → P
unfolding sees after
by_seen m i seen unseen = by_bool (first_is m i.tokens) (λ h. seen h (rw h refl) (mark_seen m i.tokens h)) (λ h. unseen h (rw h refl))

pub good_expect : {n : ℕ} (m : Mark) (i : Input) → Good n i (expect m i)
unfolding expect
good_expect m i = by_seen m i (λ s a e. rw s (fine (record { front = token_of m ∷ []; spells = e }))) (λ s a. rw s wrong)

-- a token that must come, and can raise the nesting
pub expect_raises : {B : Type 0} {n : ℕ} (f : Unit {0} → Reader B) (m : Mark) (i : Input) → can_raise (token_of m) ≡ true → ((j : Input) → Good n j (f tt j)) → Good (suc n) i (and_then (expect m i) f)
unfolding expect
expect_raises f m i h k = by_seen m i (λ s a e. rw s (raise (token_of m) h e (k (advance i)))) (λ s a. rw s wrong)

-- two steps before the rest
pub good_then_then : {A B C : Type 0} {n : ℕ} {i : Input} {o : Outcome A} (f : A → Reader B) (h : B → Reader C) → Good n i o → ((x : A) (j : Input) → Good n j (and_then (f x j) h)) → Good n i (and_then (and_then o f) h)
good_then_then f h (fine {x = x} {j = j} r) k = pass r (k x j)
good_then_then f h (out_of_place p) k = out_of_place p
good_then_then f h (deep d) k = deep d

-- the sign of an arrow, which can raise the nesting
pub number_raises : {B C : Type 0} {n : ℕ} (f : ℕ → Reader B) (h : B → Reader C) (i : Input) → ((x : ℕ) (j : Input) → Good n j (and_then (f x j) h)) → Good (suc n) i (and_then (and_then (number i) f) h)
unfolding number sees
number_raises f h i k = by_bool (first_is (Sign (codes "=>")) i.tokens)
    (λ s. rw s (raise {j = at (rest i.tokens) (i.arrows + 1)} (Token.Punct (codes "=>")) refl (mark_seen (Sign (codes "=>")) i.tokens s) (k i.arrows (at (rest i.tokens) (i.arrows + 1)))))
    (λ s. rw s wrong)

pub good_number : {n : ℕ} (i : Input) → Good n i (number i)
unfolding number sees
good_number i = by_bool (first_is (Sign (codes "=>")) i.tokens)
    (λ h. rw h (fine (record { front = Token.Punct (codes "=>") ∷ []; spells = mark_seen (Sign (codes "=>")) i.tokens h })))
    (λ h. rw h wrong)

name_at : {n : ℕ} (passes : Characters → Bool) (ts : List Token) (m : ℕ) → Good n (at ts m) (name_that passes (at ts m))
unfolding name_that
name_at passes [] m = wrong
name_at passes (Token.Name a ∷ ts) m = by_bool (passes a) (λ h. rw h (fine {j = at ts m} (record { front = Token.Name a ∷ []; spells = refl }))) (λ h. rw h wrong)
name_at passes (t ∷ ts) m = wrong

pub good_name : {n : ℕ} (passes : Characters → Bool) (i : Input) → Good n i (name_that passes i)
good_name passes i = name_at passes i.tokens i.arrows

pub good_enter : (room : ℕ) (i : Input) → Good room i (enter room i)
unfolding enter
good_enter zero i = deep (record { front = []; behind = i.tokens; spells = refl; place = omega arith; raised = omega arith })
good_enter (suc room) i = fine here

-- ---- loops

pub good_many_from : {A : Type 0} {n : ℕ} (step : Reader (Option A)) → ((i : Input) → Good n i (step i)) → (k : ℕ) (so_far : List A) (i : Input) → Good n i (many_from step k so_far i)
unfolding many_from
good_many_from step h zero so_far i = fine here
good_many_from {n = n} step h (suc k) so_far i = good_then (h i) (λ o j. elim o as (λ o. Good n j (maybe o (pure so_far) (λ x. many_from step k (so_far ++ x ∷ [])) j)) [
  | None ↦ fine here
  | Some x ↦ good_many_from step h k (so_far ++ x ∷ []) j
])

pub good_many : {A : Type 0} {n : ℕ} (step : Reader (Option A)) → ((i : Input) → Good n i (step i)) → (i : Input) → Good n i (many step i)
unfolding many
good_many step h i = good_many_from step h (length i.tokens) [] i

pub good_sparse_from : {A : Type 0} {n : ℕ} (step : Reader (Option (Option A))) → ((i : Input) → Good n i (step i)) → (k : ℕ) (so_far : List A) (i : Input) → Good n i (sparse_from step k so_far i)
unfolding sparse_from
good_sparse_from step h zero so_far i = fine here
good_sparse_from {n = n} step h (suc k) so_far i = good_then (h i) (λ o j.
    elim o as (λ o. Good n j (maybe o (pure so_far) (λ x. maybe x (sparse_from step k so_far) (λ y. sparse_from step k (so_far ++ y ∷ []))) j)) [
      | None ↦ fine here
      | Some x ↦ elim x as (λ x. Good n j (maybe x (sparse_from step k so_far) (λ y. sparse_from step k (so_far ++ y ∷ [])) j)) [
        | None ↦ good_sparse_from step h k so_far j
        | Some y ↦ good_sparse_from step h k (so_far ++ y ∷ []) j
      ]
    ])

pub good_sparse : {A : Type 0} {n : ℕ} (step : Reader (Option (Option A))) → ((i : Input) → Good n i (step i)) → (i : Input) → Good n i (sparse step i)
unfolding sparse
good_sparse step h i = good_sparse_from step h (length i.tokens) [] i

pub good_separated_from : {A : Type 0} {n : ℕ} (closing : Mark) (element : Reader A) → ((i : Input) → Good n i (element i)) → (k : ℕ) (so_far : List A) (i : Input) → Good n i (separated_from closing element k so_far i)
unfolding separated_from
good_separated_from closing element h zero so_far i = wrong
good_separated_from closing element h (suc k) so_far i = by_bool (sees closing i) (λ s. rw s (fine here)) (λ s. rw s (good_then (h i) (λ x j. by_seen (Sign (codes ",")) j
    (λ s a e. rw (s, a) (skip (Token.Punct (codes ",")) e (good_separated_from closing element h k (so_far ++ x ∷ []) (advance j))))
    (λ s a. rw (s, a) (fine here)))))

pub good_separated : {A : Type 0} {n : ℕ} (closing : Mark) (element : Reader A) → ((i : Input) → Good n i (element i)) → (i : Input) → Good n i (separated closing element i)
unfolding separated
good_separated closing element h i = good_separated_from closing element h (length i.tokens) [] i

pub good_collected_from : {A : Type 0} {n : ℕ} (closing : Mark) (element : List A → Reader A) → ((so_far : List A) (i : Input) → Good n i (element so_far i)) → (k : ℕ) (so_far : List A) (i : Input) → Good n i (collected_from closing element k so_far i)
unfolding collected_from
good_collected_from closing element h zero so_far i = wrong
good_collected_from closing element h (suc k) so_far i = by_bool (sees closing i) (λ s. rw s (fine here)) (λ s. rw s (good_then (h so_far i) (λ x j. by_seen (Sign (codes ",")) j
    (λ s a e. rw (s, a) (skip (Token.Punct (codes ",")) e (good_collected_from closing element h k (so_far ++ x ∷ []) (advance j))))
    (λ s a. rw (s, a) (fine here)))))

pub good_collected : {A : Type 0} {n : ℕ} (closing : Mark) (element : List A → Reader A) → ((so_far : List A) (i : Input) → Good n i (element so_far i)) → (i : Input) → Good n i (collected closing element i)
unfolding collected
good_collected closing element h i = good_collected_from closing element h (length i.tokens) [] i
