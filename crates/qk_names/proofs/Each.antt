-- What holds of each item of a list, and lists of breaches that are empty.
use Rattle.std.proofs.Common.{◌≡◌, refl, ap, subst, arith}
use Rattle.std.proofs.lemmas.Bool.{false≢true}
use Rattle.std.specs.Prelude.{zero, suc, Bool, true, false, List, [], ◌∷◌, ◌++◌, flat_map, All, Contains, ⊤}

abbrev pub Holds : {X : Type 0} → (X → Type 0) → List X → Type 0
Holds P [] = ⊤
Holds P (x ∷ xs) = P x × Holds P xs

pub record Each {X : Type 0} (P : X → Type 0) (xs : List X) : Type 0 where
  pub each : Holds P xs

pub none : {X : Type 0} {P : X → Type 0} → Each P []
none = record { each = tt }

pub one : {X : Type 0} {P : X → Type 0} {x : X} → P x → Each P (x ∷ [])
one h = record { each = (h, tt) }

infixr 60 ◌∷'◌
pub ◌∷'◌ : {X : Type 0} {P : X → Type 0} {x : X} {xs : List X} → P x → Each P xs → Each P (x ∷ xs)
◌∷'◌ h g = record { each = (h, g.each) }

pub head : {X : Type 0} {P : X → Type 0} {x : X} {xs : List X} → Each P (x ∷ xs) → P x
head h = h.each.0

pub tail : {X : Type 0} {P : X → Type 0} {x : X} {xs : List X} → Each P (x ∷ xs) → Each P xs
tail h = record { each = h.each.1 }

holds_both : {X : Type 0} (P : X → Type 0) (xs ys : List X) → Holds P xs → Holds P ys → Holds P (xs ++ ys)
holds_both P [] ys h g = g
holds_both P (x ∷ xs) ys h g = (h.0, holds_both P xs ys h.1 g)

infixr 60 ◌▹◌
pub ◌▹◌ : {X : Type 0} {P : X → Type 0} {xs ys : List X} → Each P xs → Each P ys → Each P (xs ++ ys)
◌▹◌ {X} {P} {xs} {ys} h g = record { each = holds_both P xs ys h.each g.each }

holds_front : {X : Type 0} (P : X → Type 0) (xs ys : List X) → Holds P (xs ++ ys) → Holds P xs
holds_front P [] ys h = tt
holds_front P (x ∷ xs) ys h = (h.0, holds_front P xs ys h.1)

holds_behind : {X : Type 0} (P : X → Type 0) (xs ys : List X) → Holds P (xs ++ ys) → Holds P ys
holds_behind P [] ys h = h
holds_behind P (x ∷ xs) ys h = holds_behind P xs ys h.1

pub front : {X : Type 0} {P : X → Type 0} (xs ys : List X) → Each P (xs ++ ys) → Each P xs
front {X} {P} xs ys h = record { each = holds_front P xs ys h.each }

pub behind : {X : Type 0} {P : X → Type 0} (xs ys : List X) → Each P (xs ++ ys) → Each P ys
behind {X} {P} xs ys h = record { each = holds_behind P xs ys h.each }

holds_then : {X : Type 0} (P Q : X → Type 0) → ((x : X) → P x → Q x) → (xs : List X) → Holds P xs → Holds Q xs
holds_then P Q f [] h = tt
holds_then P Q f (x ∷ xs) h = (f x h.0, holds_then P Q f xs h.1)

pub each_then : {X : Type 0} {P Q : X → Type 0} {xs : List X} → ((x : X) → P x → Q x) → Each P xs → Each Q xs
each_then {X} {P} {Q} {xs} f h = record { each = holds_then P Q f xs h.each }

-- ---- as std says it

all_of : {X : Type 0} (P : X → Type 0) (xs : List X) → Holds P xs → All P xs
all_of P [] h k d l = absurd (omega (arith, l))
all_of P (x ∷ xs) h zero d l = h.0
all_of P (x ∷ xs) h (suc k) d l = all_of P xs h.1 k d (omega (arith, l))

pub as_all : {X : Type 0} {P : X → Type 0} {xs : List X} → Each P xs → All P xs
as_all {X} {P} {xs} h = all_of P xs h.each

pub at : {X : Type 0} {P : X → Type 0} {xs : List X} {x : X} → Each P xs → Contains xs x → P x
at {X} {P} {xs} {x} h (k, l, e) = subst P e (all_of P xs h.each k x l)

-- ---- empty lists

abbrev is_empty : {X : Type 0} → List X → Bool
is_empty [] = true
is_empty (x ∷ xs) = false

pub no_item : {X : Type 0} {C : Type 0} {x : X} {xs : List X} → x ∷ xs ≡ [] → C
no_item e = absurd (false≢true (ap is_empty e))

pub empty_front : {X : Type 0} (xs ys : List X) → xs ++ ys ≡ [] → xs ≡ []
empty_front [] ys e = refl
empty_front (x ∷ xs) ys e = no_item e

pub empty_behind : {X : Type 0} (xs ys : List X) → xs ++ ys ≡ [] → ys ≡ []
empty_behind [] ys e = e
empty_behind (x ∷ xs) ys e = no_item e

holds_empty : {X B : Type 0} (f : X → List B) (xs : List X) → flat_map f xs ≡ [] → Holds (λ x. f x ≡ []) xs
holds_empty f [] e = tt
holds_empty f (x ∷ xs) e = (empty_front (f x) (flat_map f xs) e, holds_empty f xs (empty_behind (f x) (flat_map f xs) e))

pub keeps : {X B : Type 0} (f : X → List B) (xs : List X) → flat_map f xs ≡ [] → Each (λ x. f x ≡ []) xs
keeps f xs e = record { each = holds_empty f xs e }
