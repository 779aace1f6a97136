-- A text up to the first of one byte, and what stands behind that.
use Rattle.std.proofs.Common.{◌≡◌, ℕ, suc, ◌+◌, ◌<◌, Bool, true, false, not, ◌&&◌, [], ◌∷◌, ◌++◌, refl, ap, sym, ◌∙◌, length, take, drop, arith}
use Rattle.std.specs.Prelude.{◌==◌, cond}
use Rattle.std.specs.List.{list_all, position_or_len, before_first, after_first}
use Rattle.std.proofs.lemmas.Bool.{false≢true, eqb-true}
use Rattle.qk_meaning.specs.Value.{Text}

-- this byte isn't in the text
abbrev pub lacks : ℕ → Text → Bool
lacks c text = list_all (λ b. not (b == c)) text

pub right : (a b : Bool) → (a && b) ≡ true → b ≡ true
right true b h = h
right false b h = absurd (false≢true h)

pub left : (a b : Bool) → (a && b) ≡ true → a ≡ true
left true b h = refl
left false b h = h

module _ (c : ℕ) where
  abbrev is_it : ℕ → Bool
  is_it b = b == c

  at_hit : (x : ℕ) (xs : Text) → (x == c) ≡ true → position_or_len is_it (x ∷ xs) ≡ 0
  at_hit x xs h = rw h refl

  one_more : (n : ℕ) → 1 + n ≡ suc n
  one_more n = omega (arith)

  at_miss : (x : ℕ) (xs : Text) → (x == c) ≡ false → position_or_len is_it (x ∷ xs) ≡ suc (position_or_len is_it xs)
  at_miss x xs h = ap (λ b. cond (not b) (1 + position_or_len is_it xs) 0) h ∙ one_more (position_or_len is_it xs)

  before_hit : (x : ℕ) (xs : Text) → (x == c) ≡ true → before_first is_it (x ∷ xs) ≡ []
  before_hit x xs h = ap (λ n. take n (x ∷ xs)) (at_hit x xs h)

  after_hit : (x : ℕ) (xs : Text) → (x == c) ≡ true → after_first is_it (x ∷ xs) ≡ xs
  after_hit x xs h = ap (λ n. drop (n + 1) (x ∷ xs)) (at_hit x xs h)

  before_miss : (x : ℕ) (xs : Text) → (x == c) ≡ false → before_first is_it (x ∷ xs) ≡ x ∷ before_first is_it xs
  before_miss x xs h = ap (λ n. take n (x ∷ xs)) (at_miss x xs h)

  one_inside : (n : ℕ) → suc n + 1 ≡ suc (n + 1)
  one_inside n = omega (arith)

  after_miss : (x : ℕ) (xs : Text) → (x == c) ≡ false → after_first is_it (x ∷ xs) ≡ after_first is_it xs
  after_miss x xs h = ap (λ n. drop (n + 1) (x ∷ xs)) (at_miss x xs h) ∙ ap (λ n. drop n (x ∷ xs)) (one_inside (position_or_len is_it xs))

  -- the two parts round the first such byte
  rejoined_step : (x : ℕ) (xs : Text) (b : Bool) → (x == c) ≡ b → position_or_len is_it (x ∷ xs) < length (x ∷ xs) → (position_or_len is_it xs < length xs → xs ≡ before_first is_it xs ++ (c ∷ after_first is_it xs))
      → x ∷ xs ≡ before_first is_it (x ∷ xs) ++ (c ∷ after_first is_it (x ∷ xs))
  rejoined_step x xs true h below rest = ap (λ y. y ∷ xs) (eqb-true x c h) ∙ sym (ap (λ ys. ys ++ (c ∷ after_first is_it (x ∷ xs))) (before_hit x xs h) ∙ ap (λ ys. c ∷ ys) (after_hit x xs h))
  rejoined_step x xs false h below rest =
      ap (λ ys. x ∷ ys) (rest (omega (arith, at_miss x xs h, below))) ∙ sym (ap (λ ys. ys ++ (c ∷ after_first is_it (x ∷ xs))) (before_miss x xs h) ∙ ap (λ ys. x ∷ (before_first is_it xs ++ (c ∷ ys))) (after_miss x xs h))

  rejoined : (text : Text) → position_or_len is_it text < length text → text ≡ before_first is_it text ++ (c ∷ after_first is_it text)
  rejoined [] below = absurd (nothing_below below)
    where
      nothing_below : 0 < 0 → ⊥
      nothing_below b = omega (arith, b)
  rejoined (x ∷ xs) below = rejoined_step x xs (x == c) refl below (rejoined xs)

  before_step : (x : ℕ) (xs : Text) (b : Bool) → (x == c) ≡ b → lacks c (before_first is_it xs) ≡ true → lacks c (before_first is_it (x ∷ xs)) ≡ true
  before_step x xs true h rest = ap (lacks c) (before_hit x xs h)
  before_step x xs false h rest = ap (lacks c) (before_miss x xs h) ∙ (ap (λ b. not b && lacks c (before_first is_it xs)) h ∙ rest)

  before_lacks : (text : Text) → lacks c (before_first is_it text) ≡ true
  before_lacks [] = refl
  before_lacks (x ∷ xs) = before_step x xs (x == c) refl (before_lacks xs)

  -- a text that has no such byte
  all_step : (x : ℕ) (xs : Text) (b : Bool) → (x == c) ≡ b → position_or_len is_it (x ∷ xs) ≡ length (x ∷ xs) → (position_or_len is_it xs ≡ length xs → lacks c xs ≡ true) → lacks c (x ∷ xs) ≡ true
  all_step x xs true h e rest = absurd (omega (arith, at_hit x xs h, e))
  all_step x xs false h e rest = ap (λ b. not b && lacks c xs) h ∙ rest (omega (arith, at_miss x xs h, e))

  all_lacks : (text : Text) → position_or_len is_it text ≡ length text → lacks c text ≡ true
  all_lacks [] e = refl
  all_lacks (x ∷ xs) e = all_step x xs (x == c) refl e (all_lacks xs)

-- what `split_once` gives
pub cut_some : (c : ℕ) (text word after : Text) → word ≡ before_first (λ b. b == c) text → after ≡ after_first (λ b. b == c) text → position_or_len (λ b. b == c) text < length text
    → (text ≡ word ++ (c ∷ after)) × (lacks c word ≡ true)
cut_some c text word after w a below = (rejoined c text below ∙ sym (ap (λ l. l ++ (c ∷ after)) w ∙ ap (λ l. before_first (λ b. b == c) text ++ (c ∷ l)) a), ap (lacks c) w ∙ before_lacks c text)

pub cut_none : (c : ℕ) (text : Text) → position_or_len (λ b. b == c) text ≡ length text → lacks c text ≡ true
cut_none c text e = all_lacks c text e
