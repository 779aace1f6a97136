-- Arrows that are followed by those inside them.
use Rattle.std.proofs.Common.{◌≡◌, refl, sym, ◌∙◌, ap, subst, arith}
use Rattle.std.proofs.lemmas.List.{append_assoc, append-nil}
use Rattle.std.specs.Prelude.{zero, suc, List, [], ◌∷◌, ◌++◌, flat_map, All, Contains, ⊤}
use Rattle.qk_ast.specs.Texts.{Text}
use Rattle.qk_ast.specs.Arrows.{Found_arrow}
use Rattle.qk_names.specs.Inside.{inside, with_inside}
use Rattle.qk_names.proofs.Members.{contains_later, contains_front}

-- the list begins with these
pub record Begins (front xs : List Found_arrow) : Type 0 where
  pub behind : List Found_arrow
  pub whole : xs ≡ front ++ behind

abbrev pub Nests : List Found_arrow → Type 0
Nests [] = ⊤
Nests (a ∷ xs) = Begins (inside a) xs × Nests xs

pub record Nested (xs : List Found_arrow) : Type 0 where
  pub nests : Nests xs

joined : (xs ys : List Found_arrow) → Nests xs → Nests ys → Nests (xs ++ ys)
joined [] ys h g = g
joined (a ∷ xs) ys h g = (record { behind = h.0.behind ++ ys; whole = ap (λ zs. zs ++ ys) h.0.whole ∙ append_assoc (inside a) h.0.behind ys }, joined xs ys h.1 g)

infixr 60 ◌▹◌
pub ◌▹◌ : {xs ys : List Found_arrow} → Nested xs → Nested ys → Nested (xs ++ ys)
◌▹◌ {xs} {ys} h g = record { nests = joined xs ys h.nests g.nests }

pub nothing : Nested []
nothing = record { nests = tt }

-- ---- the outermost ones, with the names around them

abbrev Around : List Text → List Found_arrow → Type 0
Around scope [] = ⊤
Around scope (a ∷ xs) = (a.scope ≡ scope) × Around scope xs

pub record Outer (scope : List Text) (xs : List Found_arrow) : Type 0 where
  pub nested : Nested xs
  pub outers : List Found_arrow
  pub whole : flat_map with_inside outers ≡ xs
  pub around' : Around scope outers

flat_append : (xs ys : List Found_arrow) → flat_map with_inside (xs ++ ys) ≡ flat_map with_inside xs ++ flat_map with_inside ys
flat_append [] ys = refl
flat_append (a ∷ xs) ys = ap (λ zs. with_inside a ++ zs) (flat_append xs ys) ∙ sym (append_assoc (with_inside a) (flat_map with_inside xs) (flat_map with_inside ys))

around_both : (scope : List Text) (xs ys : List Found_arrow) → Around scope xs → Around scope ys → Around scope (xs ++ ys)
around_both scope [] ys h g = g
around_both scope (a ∷ xs) ys h g = (h.0, around_both scope xs ys h.1 g)

infixr 60 ◌▸◌
pub ◌▸◌ : {scope : List Text} {xs ys : List Found_arrow} → Outer scope xs → Outer scope ys → Outer scope (xs ++ ys)
◌▸◌ {scope} {xs} {ys} h g = record {
  nested = h.nested ▹ g.nested;
  outers = h.outers ++ g.outers;
  whole = flat_append h.outers g.outers ∙ ap (λ zs. zs ++ flat_map with_inside g.outers) h.whole ∙ ap (λ zs. xs ++ zs) g.whole;
  around' = around_both scope h.outers g.outers h.around' g.around';
}

pub none : {scope : List Text} → Outer scope []
none = record { nested = nothing; outers = []; whole = refl; around' = tt }

pub one : (a : Found_arrow) → Nested (inside a) → Outer a.scope (a ∷ inside a)
one a h = record {
  nested = record { nests = (record { behind = []; whole = sym (append-nil (inside a)) }, h.nests) };
  outers = a ∷ [];
  whole = append-nil (with_inside a);
  around' = (refl, tt);
}

-- ---- as the laws say it

pub follows : (xs front : List Found_arrow) (a : Found_arrow) (rest : List Found_arrow) → Nests xs → xs ≡ front ++ a ∷ rest → (behind : List Found_arrow) × (rest ≡ inside a ++ behind)
follows xs front a rest h e = at front (subst Nests e h)
  where
    at : (front : List Found_arrow) → Nests (front ++ a ∷ rest) → (behind : List Found_arrow) × (rest ≡ inside a ++ behind)
    at [] h = (h.0.behind, h.0.whole)
    at (b ∷ front) h = at front h.1

pub listed : (xs : List Found_arrow) (a b : Found_arrow) → Nests xs → Contains xs a → Contains (inside a) b → Contains xs b
listed [] a b h (k, l, e) c = absurd (omega (arith, l))
listed (d ∷ xs) a b h (zero, l, e) c = contains_later d b xs (subst (λ zs. Contains zs b) (sym h.0.whole) (contains_front (inside d) h.0.behind b (subst (λ a. Contains (inside a) b) (sym e) c)))
listed (d ∷ xs) a b h (suc k, l, e) c = contains_later d b xs (listed xs a b h.1 (k, omega (arith, l), e) c)

pub all_around : (P : Found_arrow → Type 0) (scope : List Text) → ((a : Found_arrow) → a.scope ≡ scope → P a) → (xs : List Found_arrow) → Around scope xs → All P xs
all_around P scope f [] h k d l = absurd (omega (arith, l))
all_around P scope f (a ∷ xs) h zero d l = f a h.0
all_around P scope f (a ∷ xs) h (suc k) d l = all_around P scope f xs h.1 k d (omega (arith, l))
