-- What is written is read: names, patterns and parameters.
use Rattle.std.proofs.Common.{◌≡◌, refl, ◌∙◌, subst, arith, append_assoc, append-nil}
use Rattle.std.specs.Prelude.{ℕ, ◌-◌, ◌≤◌, ◌<◌, Bool, true, false, List, [], ◌∷◌, ◌++◌, length, codes}
use Rattle.std.proofs.Math.Nat.{le-max_left, le-max_right}
use Rattle.qk_ast.specs.declared.Pattern.{Pattern}
use Rattle.qk_ast.specs.Characters.{Characters}
use Rattle.qk_ast.specs.Tokens.{Token}
use Rattle.qk_ast.specs.Grammar.{Names, Last_name, Last_comma, Next_name, Binding, Plain, Fields_of, Bindings, No_binding, Only_binding, Binding_comma, Parameters, Bare, In_brackets}
use Rattle.qk_ast.specs.Spelling.{names_tokens, binding_tokens, bindings_tokens, parameters_tokens}
use Rattle.qk_ast.specs.Depth.{inside, binding_depth, bindings_depth, parameters_depth}
use Rattle.qk_ast.specs.Tree.{arrow_signs, bytes, names_tree, binding_tree, bindings_tree, parameters_tree}
use Rattle.qk_reading.specs.Input.{at, Sign, ◌<$>◌, first_is, first, rest, sees, after, name, name_that, separated_from, separated}
use Rattle.qk_reading.specs.Ahead.{arrow_from, finds_arrow, At_pattern, After_pattern, At_first, At_next}
use Rattle.qk_reading.specs.Parts.{names, pattern, params}
use Rattle.qk_reading.proofs.Reached.{Reaches, reached, reach_then, enter_reach}
use Rattle.qk_reading.proofs.Atoms.{separated_step, separated_last, separated_end}
use Rattle.qk_reading.proofs.Lists.{expect_reach}

-- ---- no arrows in them

pub names_uncounted : (x : Names) (ts : List Token) → arrow_signs (names_tokens x ts) ≡ arrow_signs ts
names_uncounted (Last_name a) ts = refl
names_uncounted (Last_comma a) ts = refl
names_uncounted (Next_name a more) ts = names_uncounted more ts

pub binding_uncounted : (x : Binding) (ts : List Token) → arrow_signs (binding_tokens x ts) ≡ arrow_signs ts
binding_uncounted (Plain a) ts = refl
binding_uncounted (Fields_of x) ts = names_uncounted x (Token.Punct (codes "}") ∷ ts)

bindings_uncounted : (x : Bindings) (ts : List Token) → arrow_signs (bindings_tokens x ts) ≡ arrow_signs ts
bindings_uncounted No_binding ts = refl
bindings_uncounted (Only_binding b) ts = binding_uncounted b ts
bindings_uncounted (Binding_comma b more) ts = binding_uncounted b (Token.Punct (codes ",") ∷ bindings_tokens more ts) ∙ bindings_uncounted more ts

pub parameters_uncounted : (x : Parameters) (ts : List Token) → arrow_signs (parameters_tokens x ts) ≡ arrow_signs ts
parameters_uncounted (Bare a) ts = refl
parameters_uncounted (In_brackets x) ts = bindings_uncounted x (Token.Punct (codes ")") ∷ ts)

-- ---- the scan finds the arrow

names_scanned : (x : Names) (ts : List Token) → finds_arrow At_next (names_tokens x (Token.Punct (codes "}") ∷ ts)) ≡ finds_arrow After_pattern ts
unfolding finds_arrow
names_scanned (Last_name a) ts = refl
names_scanned (Last_comma a) ts = refl
names_scanned (Next_name a more) ts = names_scanned more ts

first_scanned : (x : Names) (ts : List Token) → finds_arrow At_first (names_tokens x (Token.Punct (codes "}") ∷ ts)) ≡ finds_arrow After_pattern ts
unfolding finds_arrow
first_scanned (Last_name a) ts = refl
first_scanned (Last_comma a) ts = refl
first_scanned (Next_name a more) ts = names_scanned more ts

binding_scanned : (x : Binding) (ts : List Token) → finds_arrow At_pattern (binding_tokens x ts) ≡ finds_arrow After_pattern ts
unfolding finds_arrow
binding_scanned (Plain a) ts = refl
binding_scanned (Fields_of x) ts = first_scanned x ts

bindings_scanned : (x : Bindings) (ts : List Token) → finds_arrow At_pattern (bindings_tokens x (Token.Punct (codes ")") ∷ Token.Punct (codes "=>") ∷ ts)) ≡ true
unfolding finds_arrow
bindings_scanned No_binding ts = refl
bindings_scanned (Only_binding b) ts = binding_scanned b (Token.Punct (codes ")") ∷ Token.Punct (codes "=>") ∷ ts)
bindings_scanned (Binding_comma b more) ts = binding_scanned b (Token.Punct (codes ",") ∷ bindings_tokens more (Token.Punct (codes ")") ∷ Token.Punct (codes "=>") ∷ ts)) ∙ bindings_scanned more ts

pub arrow_seen : (x : Parameters) (ts : List Token) → arrow_from (first (parameters_tokens x (Token.Punct (codes "=>") ∷ ts))) (rest (parameters_tokens x (Token.Punct (codes "=>") ∷ ts))) ≡ true
arrow_seen (Bare a) ts = refl
arrow_seen (In_brackets x) ts = bindings_scanned x ts

-- ---- they are read

abbrev names_comma : Names → Bool
names_comma (Last_name a) = false
names_comma (Last_comma a) = true
names_comma (Next_name a more) = names_comma more

binding_longer : (x : Binding) (ts : List Token) → length ts < length (binding_tokens x ts)
binding_longer (Plain a) ts = omega arith
binding_longer (Fields_of x) ts = let a = names_longer x (Token.Punct (codes "}") ∷ ts) in omega (arith, a)
  where
    names_longer : (x : Names) (ts : List Token) → length ts < length (names_tokens x ts)
    names_longer (Last_name a) ts = omega arith
    names_longer (Last_comma a) ts = omega arith
    names_longer (Next_name a more) ts = let b = names_longer more ts in omega (arith, b)

binding_opens : (x : Binding) (ts : List Token) → first_is (Sign (codes ")")) (binding_tokens x ts) ≡ false
binding_opens (Plain a) ts = refl
binding_opens (Fields_of x) ts = refl

module _ (D : Type 0) where
  name_element : (a : Characters) (ts : List Token) (n : ℕ) → Reaches D (bytes a) (at ts n) ((bytes <$> name) (at (Token.Name a ∷ ts) n))
  unfolding name_that
  name_element a ts n = reached

  names_read : (x : Names) (n fuel : ℕ) (so_far : List (List ℕ)) (ts : List Token) → length (names_tokens x (Token.Punct (codes "}") ∷ ts)) ≤ fuel
      → Reaches D (so_far ++ names_tree x, names_comma x) (at (Token.Punct (codes "}") ∷ ts) n) (separated_from (Sign (codes "}")) (bytes <$> name) fuel so_far (at (names_tokens x (Token.Punct (codes "}") ∷ ts)) n))
  names_read (Last_name a) n fuel so_far ts f =
      separated_last (codes "}") (bytes <$> name) fuel so_far (bytes a) (at (Token.Name a ∷ Token.Punct (codes "}") ∷ ts) n) (at (Token.Punct (codes "}") ∷ ts) n) refl refl f (omega arith)
      (name_element a (Token.Punct (codes "}") ∷ ts) n)
  names_read (Last_comma a) n fuel so_far ts f =
      separated_step (codes "}") (bytes <$> name) fuel so_far (bytes a) (at (Token.Name a ∷ Token.Punct (codes ",") ∷ Token.Punct (codes "}") ∷ ts) n) (at (Token.Punct (codes "}") ∷ ts) n) refl f (omega arith)
      (name_element a (Token.Punct (codes ",") ∷ Token.Punct (codes "}") ∷ ts) n)
      (λ fuel' f'. separated_end (codes "}") (bytes <$> name) fuel' (so_far ++ bytes a ∷ []) (at (Token.Punct (codes "}") ∷ ts) n) refl f' (omega arith))
  names_read (Next_name a more) n fuel so_far ts f =
      let us = names_tokens more (Token.Punct (codes "}") ∷ ts) in
      separated_step (codes "}") (bytes <$> name) fuel so_far (bytes a) (at (Token.Name a ∷ Token.Punct (codes ",") ∷ us) n) (at us n) refl f (omega arith)
      (name_element a (Token.Punct (codes ",") ∷ us) n)
      (λ fuel' f'. subst (λ ys. Reaches D (ys, names_comma more) (at (Token.Punct (codes "}") ∷ ts) n) (separated_from (Sign (codes "}")) (bytes <$> name) fuel' (so_far ++ bytes a ∷ []) (at us n)))
      (append_assoc so_far (bytes a ∷ []) (names_tree more)) (names_read more n fuel' (so_far ++ bytes a ∷ []) ts f'))

  names_open : (x : Names) (ts : List Token) → first_is (Sign (codes "}")) (names_tokens x ts) ≡ false
  names_open (Last_name a) ts = refl
  names_open (Last_comma a) ts = refl
  names_open (Next_name a more) ts = refl

  pub names_reach : (x : Names) (n : ℕ) (ts : List Token) → Reaches D (names_tree x) (at (Token.Punct (codes "}") ∷ ts) n) (names (at (names_tokens x (Token.Punct (codes "}") ∷ ts)) n))
  unfolding names separated sees
  names_reach x n ts = rw (names_open x (Token.Punct (codes "}") ∷ ts)) (reach_then _ (names_read x n (length (names_tokens x (Token.Punct (codes "}") ∷ ts))) [] ts (omega arith)) reached)

  pub pattern_reach : (x : Binding) (room n : ℕ) (ts : List Token) → (room < binding_depth x → D) → Reaches D (binding_tree x) (at ts n) (pattern room (at (binding_tokens x ts) n))
  unfolding pattern sees after name_that
  pattern_reach (Plain a) room n ts d = reached
  pattern_reach (Fields_of x) room n ts d = reach_then _ (enter_reach room (at (names_tokens x (Token.Punct (codes "}") ∷ ts)) n) d) (reach_then _ (names_reach x n ts) (reach_then _ (expect_reach (codes "}") ts n refl) reached))

  abbrev bindings_comma : Bindings → Bool
  bindings_comma No_binding = true
  bindings_comma (Only_binding b) = false
  bindings_comma (Binding_comma b more) = bindings_comma more

  bindings_read : (x : Bindings) (room n fuel : ℕ) (so_far : List Pattern) (ts : List Token) → (room < inside (bindings_depth x) → D) → length (bindings_tokens x (Token.Punct (codes ")") ∷ ts)) ≤ fuel
      → Reaches D (so_far ++ bindings_tree x, bindings_comma x) (at (Token.Punct (codes ")") ∷ ts) n) (separated_from (Sign (codes ")")) (pattern (room - 1)) fuel so_far (at (bindings_tokens x (Token.Punct (codes ")") ∷ ts)) n))
  bindings_read No_binding room n fuel so_far ts d f = rw append-nil (separated_end (codes ")") (pattern (room - 1)) fuel so_far (at (Token.Punct (codes ")") ∷ ts) n) refl f (omega arith))
  bindings_read (Only_binding b) room n fuel so_far ts d f =
      separated_last (codes ")") (pattern (room - 1)) fuel so_far (binding_tree b) (at (binding_tokens b (Token.Punct (codes ")") ∷ ts)) n) (at (Token.Punct (codes ")") ∷ ts) n)
      (binding_opens b (Token.Punct (codes ")") ∷ ts)) refl f (binding_longer b (Token.Punct (codes ")") ∷ ts)) (pattern_reach b (room - 1) n (Token.Punct (codes ")") ∷ ts) (λ l. d (omega (arith, l))))
  bindings_read (Binding_comma b more) room n fuel so_far ts d f =
      let us = bindings_tokens more (Token.Punct (codes ")") ∷ ts) in
      let c = binding_longer b (Token.Punct (codes ",") ∷ us) in
      separated_step (codes ")") (pattern (room - 1)) fuel so_far (binding_tree b) (at (binding_tokens b (Token.Punct (codes ",") ∷ us)) n) (at us n)
      (binding_opens b (Token.Punct (codes ",") ∷ us)) f (omega (arith, c)) (pattern_reach b (room - 1) n (Token.Punct (codes ",") ∷ us) (λ l. d (omega (arith, l, le-max_left (binding_depth b) (bindings_depth more)))))
      (λ fuel' f'. subst (λ ys. Reaches D (ys, bindings_comma more) (at (Token.Punct (codes ")") ∷ ts) n) (separated_from (Sign (codes ")")) (pattern (room - 1)) fuel' (so_far ++ binding_tree b ∷ []) (at us n)))
      (append_assoc so_far (binding_tree b ∷ []) (bindings_tree more)) (bindings_read more room n fuel' (so_far ++ binding_tree b ∷ []) ts (λ l. d (omega (arith, l, le-max_right (binding_depth b) (bindings_depth more)))) f'))

  pub params_reach : (x : Parameters) (room n : ℕ) (ts : List Token) → (room < parameters_depth x → D) → Reaches D (parameters_tree x) (at ts n) (params room (at (parameters_tokens x ts) n))
  unfolding params separated sees after name_that
  params_reach (Bare a) room n ts d = reached
  params_reach (In_brackets x) room n ts d =
      let us = bindings_tokens x (Token.Punct (codes ")") ∷ ts) in
      reach_then _ (enter_reach room (at us n) (λ l. d (omega (arith, l)))) (reach_then _ (bindings_read x room n (length us) [] ts d (omega arith)) (reach_then _ (expect_reach (codes ")") ts n refl) reached))
