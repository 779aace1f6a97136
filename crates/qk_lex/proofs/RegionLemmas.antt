-- The regions as a list with the innermost last.
use Rattle.std.specs.Prelude.{◌≡◌, refl, ◌-◌, List, [], ◌∷◌, ◌++◌, length, slice_get, Option, Some, None}
use Rattle.std.specs.Option.{option_map, option_to_list}
use mathlib.Core.Path.{sym, ◌∙◌, ap}
use native.Mathlib.Omega.{arith}
use Rattle.qk_ast.specs.Tokens.{Around, leave}
use Rattle.qk_lex.specs.declared.regions.Region.{Region}
use Rattle.qk_lex.specs.Regions.{region_of, onto, around_of, innermost}

pub onto_snoc : (xs : List Region) (r : Region) (around : Around) → onto (xs ++ r ∷ []) around ≡ region_of r ∷ onto xs around
onto_snoc [] r around = refl
onto_snoc (x ∷ xs) r around = onto_snoc xs r (region_of x ∷ around)

pub onto_leave : (o : Option Region) (xs ys : List Region) → xs ≡ ys ++ option_to_list o → (o ≡ None → length ys ≡ 0) → around_of ys ≡ leave (around_of xs)
onto_leave None xs [] e h = sym (ap (λ t. leave (around_of t)) e)
onto_leave None xs (y ∷ ys) e h = absurd (no_length (h refl))
  where
    no_length : length (y ∷ ys) ≡ 0 → ⊥
    no_length l = omega (arith, l)
onto_leave (Some r) xs ys e h = sym (ap (λ t. leave (around_of t)) e ∙ ap leave (onto_snoc ys r []))

last_of : (xs : List Region) (x : Region) (around : Around) → option_map region_of (slice_get (x ∷ xs) (length xs)) ≡ innermost (onto (x ∷ xs) around)
last_of [] x around = refl
last_of (y ∷ ys) x around = last_of ys y (region_of x ∷ around)

pub last_innermost : (xs : List Region) → option_map region_of (slice_get xs (length xs - 1)) ≡ innermost (around_of xs)
last_innermost [] = refl
last_innermost (x ∷ xs) = ap (λ n. option_map region_of (slice_get (x ∷ xs) n)) one_less ∙ last_of xs x []
  where
    one_less : length (x ∷ xs) - 1 ≡ length xs
    one_less = omega arith
