-- What is in a list.
use Rattle.std.specs.Prelude.{◌≡◌, refl, ℕ, zero, suc, ◌<◌, ◌⊎◌, Bool, true, false, List, [], ◌∷◌, ◌++◌, length, Contains}
use Rattle.std.proofs.Common.{sym, ◌∙◌, ap, subst, arith, inl, inr}
use Rattle.qk_ast.specs.Arrows.{Found_arrow, is_dollar, same_kind, of_kind, no_arrow, nth_arrow}
use Rattle.qk_source_alike.specs.Every.{Every, none_of, all_of}

pub nothing_in : {A C : Type 0} (x : A) → Contains [] x → C
nothing_in x (k, l, e) = absurd (omega (arith, l))

pub first_in : {A : Type 0} (x : A) (xs : List A) → Contains (x ∷ xs) x
first_in x xs = (0, omega arith, refl)

pub later_in : {A : Type 0} (y : A) (xs : List A) (x : A) → Contains xs x → Contains (y ∷ xs) x
later_in y xs x (k, l, e) = (suc k, omega (arith, l), e)

pub front_in : {A : Type 0} (xs ys : List A) (x : A) → Contains xs x → Contains (xs ++ ys) x
front_in [] ys x c = nothing_in x c
front_in (y ∷ xs) ys x (zero, l, e) = (0, omega arith, e)
front_in (y ∷ xs) ys x (suc k, l, e) = later_in y (xs ++ ys) x (front_in xs ys x (k, omega (arith, l), e))

pub behind_in : {A : Type 0} (xs ys : List A) (x : A) → Contains ys x → Contains (xs ++ ys) x
behind_in [] ys x c = c
behind_in (y ∷ xs) ys x c = later_in y (xs ++ ys) x (behind_in xs ys x c)

pub every_in : {A : Type 0} {G : A → Type 0} (xs : List A) → ((x : A) → Contains xs x → G x) → Every G xs
every_in [] h = none_of
every_in (x ∷ xs) h = all_of (h x (first_in x xs)) (every_in xs (λ y c. h y (later_in x xs y c)))

-- an arrow by its number, where there is one
pub nth_or_none : (xs : List Found_arrow) (n : ℕ) → Contains xs (nth_arrow xs n) ⊎ (nth_arrow xs n ≡ no_arrow)
nth_or_none [] n = inr refl
nth_or_none (a ∷ xs) zero = inl (first_in a xs)
nth_or_none (a ∷ xs) (suc n) = go (nth_or_none xs n)
  where
    go : Contains xs (nth_arrow xs n) ⊎ (nth_arrow xs n ≡ no_arrow) → Contains (a ∷ xs) (nth_arrow xs n) ⊎ (nth_arrow xs n ≡ no_arrow)
    go (inl c) = inl (later_in a xs (nth_arrow xs n) c)
    go (inr e) = inr e

-- an arrow of a kind is an arrow
pub kind_in : (dollar : Bool) (xs : List Found_arrow) (a : Found_arrow) → Contains (of_kind dollar xs) a → Contains xs a
kind_in dollar [] a c = nothing_in a c
kind_in dollar (x ∷ xs) a c = go (same_kind dollar (is_dollar x)) (λ d. kind_in dollar xs a d) c
  where
    first : ((Contains (of_kind dollar xs) a) → Contains xs a) → Contains (x ∷ of_kind dollar xs) a → Contains (x ∷ xs) a
    first next (zero, l, e) = (0, omega arith, e)
    first next (suc k, l, e) = later_in x xs a (next (k, omega (arith, l), e))

    go : (b : Bool) → ((Contains (of_kind dollar xs) a) → Contains xs a) → Contains (elim b as (λ y. List Found_arrow) [ true ↦ x ∷ of_kind dollar xs | false ↦ of_kind dollar xs ]) a → Contains (x ∷ xs) a
    go true next c = first next c
    go false next c = later_in x xs a (next c)

-- an arrow among those of its kind
pub record Numbered_in (xs : List Found_arrow) (a : Found_arrow) : Type 0 where
  pub number : ℕ
  pub there : number < length xs
  pub is : nth_arrow xs number ≡ a

own_kind : (b : Bool) → same_kind b b ≡ true
own_kind true = refl
own_kind false = refl

pub numbered_in : (dollar : Bool) (xs : List Found_arrow) (a : Found_arrow) → is_dollar a ≡ dollar → Contains xs a → Numbered_in (of_kind dollar xs) a
numbered_in dollar [] a d c = nothing_in a c
numbered_in dollar (x ∷ xs) a d (zero, l, e) =
    subst (λ b. Numbered_in (elim b as (λ y. List Found_arrow) [ true ↦ x ∷ of_kind dollar xs | false ↦ of_kind dollar xs ]) a) (sym (ap (same_kind dollar) (ap is_dollar e ∙ d) ∙ own_kind dollar))
    (record { number = 0; there = omega arith; is = e })
numbered_in dollar (x ∷ xs) a d (suc k, l, e) = go (same_kind dollar (is_dollar x)) (numbered_in dollar xs a d (k, omega (arith, l), e))
  where
    go : (b : Bool) → Numbered_in (of_kind dollar xs) a → Numbered_in (elim b as (λ y. List Found_arrow) [ true ↦ x ∷ of_kind dollar xs | false ↦ of_kind dollar xs ]) a
    go true n = let l = n.there in record { number = suc n.number; there = omega (arith, l); is = n.is }
    go false n = n
