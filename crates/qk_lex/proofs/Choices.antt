-- Tests, and runs of characters.
use Rattle.std.specs.Prelude.{◌≡◌, refl, ℕ, Bool, true, false, not, ◌&&◌, ◌||◌, if◌then◌else◌, ◌==◌, [], ◌∷◌, ◌++◌, Option, Some, None}
use mathlib.Core.Path.{sym, ◌∙◌, ap, subst}
use mathlib.Core.Logic.{◌⊎◌, inl, inr}
use lib.Dec.{eqb→eq, T}
use Rattle.std.proofs.lemmas.Bool.{false≢true, eq-eqb}
use Rattle.qk_ast.specs.Characters.{Characters, every, begins_with, run, after_run}
use Rattle.qk_ast.proofs.FrontToken.{if_true, if_false}

-- which way a choice went
pub which : {A : Type 0} (b : Bool) (x y r : A) → (if b then x else y) ≡ r → ((b ≡ true) × (x ≡ r)) ⊎ ((b ≡ false) × (y ≡ r))
which true x y r h = inl (refl, h)
which false x y r h = inr (refl, h)

-- a test is one or the other
pub either_way : (b : Bool) → (b ≡ true) ⊎ (b ≡ false)
either_way true = inl refl
either_way false = inr refl

abbrev pub some_or : {A : Type 0} → A → Option A → A
some_or a None = a
some_or a (Some b) = b

pub some_same : {A : Type 0} {a b : A} → Some a ≡ Some b → a ≡ b
some_same {a} e = ap (some_or a) e

abbrev pub is_there : {A : Type 0} → Option A → Bool
is_there None = false
is_there (Some a) = true

pub none_some : {A : Type 0} {a : A} → None ≡ Some a → ⊥
none_some e = false≢true (ap is_there e)

pub some_none : {A : Type 0} {a : A} → Some a ≡ None → ⊥
some_none e = none_some (sym e)

pub both : (a b : Bool) → a ≡ true → b ≡ true → (a && b) ≡ true
both true b h k = k
both false b h k = absurd (false≢true h)

pub not_true : (b : Bool) → b ≡ false → not b ≡ true
not_true b h = ap not h

pub or_true : (a b : Bool) → b ≡ true → (a || b) ≡ true
or_true true b h = refl
or_true false b h = h

pub or_left : (a b : Bool) → a ≡ true → (a || b) ≡ true
or_left true b h = refl
or_left false b h = absurd (false≢true h)

pub either_false : (a b : Bool) → (a || b) ≡ false → (a ≡ false) × (b ≡ false)
either_false true b h = absurd (false≢true (sym h))
either_false false b h = (refl, h)

pub told : (b : Bool) → T b → b ≡ true
told true t = refl
told false t = absurd t

pub same_number : (c d : ℕ) → (c == d) ≡ true → c ≡ d
same_number c d h = eqb→eq c d (subst T (sym h) tt)

pub number_same : (c : ℕ) → (c == c) ≡ true
number_same c = eq-eqb c c refl

pub number_differs : (c d : ℕ) → (c ≡ d → ⊥) → (c == d) ≡ false
number_differs c d h = elim (either_way (c == d)) [ inl e ↦ absurd (h (same_number c d e)) | inr e ↦ e ]

-- ---- a run and what follows it

pub run_whole : (p : ℕ → Bool) (text : Characters) → run p text ++ after_run p text ≡ text
run_whole p [] = refl
run_whole p (c ∷ cs) = elim (either_way (p c)) [
  | inl h ↦ ap (λ xs. xs ++ after_run p (c ∷ cs)) (if_true _ _ h) ∙ (ap (λ xs. (c ∷ run p cs) ++ xs) (if_true _ _ h) ∙ ap (λ xs. c ∷ xs) (run_whole p cs))
  | inr h ↦ ap (λ xs. xs ++ after_run p (c ∷ cs)) (if_false _ _ h) ∙ if_false _ _ h
]

pub run_every : (p : ℕ → Bool) (text : Characters) → every p (run p text) ≡ true
run_every p [] = refl
run_every p (c ∷ cs) = elim (either_way (p c)) [
  | inl h ↦ ap (λ t. every p t) (if_true (c ∷ run p cs) [] h) ∙ both (p c) _ h (run_every p cs)
  | inr h ↦ ap (λ t. every p t) (if_false (c ∷ run p cs) [] h)
]

pub run_ends : (p : ℕ → Bool) (text : Characters) → begins_with p (after_run p text) ≡ false
run_ends p [] = refl
run_ends p (c ∷ cs) = elim (either_way (p c)) [
  | inl h ↦ ap (λ t. begins_with p t) (if_true (after_run p cs) (c ∷ cs) h) ∙ run_ends p cs
  | inr h ↦ ap (λ t. begins_with p t) (if_false (after_run p cs) (c ∷ cs) h) ∙ h
]
