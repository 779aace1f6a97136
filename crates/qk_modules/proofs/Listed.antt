-- How a list of texts, each once, grows.
use Rattle.std.specs.Prelude.{◌≡◌, refl, Bool, true, false, List, [], ◌∷◌, ◌++◌, String, bytes_eq}
use Rattle.std.proofs.Common.{ap, sym, ◌∙◌, cond}
use Rattle.std.proofs.lemmas.List.{append-nil, append_assoc}
use Rattle.std.specs.String.{string_cmp, string_bytes}
use Rattle.std.specs.BTreeSet as sorted
use Rattle.std.specs.BTreeSet.{BTreeSet}
use Rattle.std.proofs.lemmas.Map.Text.{btree_set_updates_text}
use Rattle.qk_ast.specs.Texts.{Text, same_text}
use Rattle.qk_ast.specs.Names.{is_listed, each_once}
use Rattle.qk_modules.specs.Listing.{with_source, with_sources, with_imports}
use Rattle.qk_ast.specs.declared.Import.{Import}
use Rattle.qk_ast.specs.Framework.{framework}
use Rattle.qk_modules.specs.Gathering.{sources_in}
use Rattle.qk_modules.specs.Known.{HasTexts}

-- the one is found, or it is looked for further on
abbrev or : Bool → Bool → Bool
or b x = elim b [ true ↦ true | false ↦ x ]

turned : (a b : Bool) → or a (or b false) ≡ or b (or a false)
turned true true = refl
turned true false = refl
turned false true = refl
turned false false = refl

swapped : (a b c : Bool) → or a (or b c) ≡ or b (or a c)
swapped true true c = refl
swapped true false c = refl
swapped false true c = refl
swapped false false c = refl

-- one more at the end
listed_more : (t : Text) (all : List Text) (u : Text) → is_listed t (all ++ u ∷ []) ≡ or (same_text u t) (is_listed t all)
listed_more t [] u = refl
listed_more t (v ∷ all) u = ap (or (same_text v t)) (listed_more t all u) ∙ swapped (same_text v t) (same_text u t) (is_listed t all)

-- ---- the set beside the list

as_or : (b x : Bool) → cond b true x ≡ or b x
as_or true x = refl
as_or false x = refl

pub has_more : {Y : Type 0} (old new : BTreeSet (String Y)) (key : String Y) (all : List Text) (t : Text)
    → HasTexts old all → string_bytes key ≡ t → sorted.Updates string_cmp old new key true → HasTexts new (all ++ t ∷ [])
has_more old new key all t had e updated = λ q.
    btree_set_updates_text (string_bytes key) old new true updated q
    ∙ as_or (bytes_eq (string_bytes key) q) (sorted.contains_text old q)
    ∙ ap (λ k. or (bytes_eq k q) (sorted.contains_text old q)) e
    ∙ ap (or (bytes_eq t q)) (had q)
    ∙ sym (listed_more q all t)

-- ---- the list

-- the same texts are in both
abbrev Alike : List Text → List Text → Type 0
Alike seen all = (t : Text) → is_listed t seen ≡ is_listed t all

alike_more : (seen all : List Text) (u : Text) → Alike seen all → Alike (u ∷ seen) (all ++ u ∷ [])
alike_more seen all u h = λ t. ap (or (same_text u t)) (h t) ∙ sym (listed_more t all u)

go_on : (seen all more : List Text) (u : Text) (b : Bool) → is_listed u all ≡ b → is_listed u seen ≡ b
    → with_sources all more ≡ all ++ each_once seen more → with_sources (all ++ u ∷ []) more ≡ (all ++ u ∷ []) ++ each_once (u ∷ seen) more
    → with_sources all (u ∷ more) ≡ all ++ each_once seen (u ∷ more)
go_on seen all more u true e f old new =
    ap (λ b. with_sources (elim b as (λ _. List Text) [ true ↦ all | false ↦ all ++ u ∷ [] ]) more) e
    ∙ old
    ∙ ap (λ b. all ++ (elim b as (λ _. List Text) [ true ↦ each_once seen more | false ↦ u ∷ each_once (u ∷ seen) more ])) (sym f)
go_on seen all more u false e f old new =
    ap (λ b. with_sources (elim b as (λ _. List Text) [ true ↦ all | false ↦ all ++ u ∷ [] ]) more) e
    ∙ new
    ∙ append_assoc all (u ∷ []) (each_once (u ∷ seen) more)
    ∙ ap (λ b. all ++ (elim b as (λ _. List Text) [ true ↦ each_once seen more | false ↦ u ∷ each_once (u ∷ seen) more ])) (sym f)

pub grows : (seen all more : List Text) → Alike seen all → with_sources all more ≡ all ++ each_once seen more
grows seen all [] h = sym (append-nil all)
grows seen all (u ∷ more) h =
    go_on seen all more u (is_listed u all) refl (h u) (grows seen all more h) (grows (u ∷ seen) (all ++ u ∷ []) more (alike_more seen all u h))

with_both : (all more rest : List Text) → with_sources all (more ++ rest) ≡ with_sources (with_sources all more) rest
with_both all [] rest = refl
with_both all (u ∷ more) rest = with_both (with_source all u) more rest

pub each_once_both : (more rest : List Text) → with_sources (each_once [] more) rest ≡ each_once [] (more ++ rest)
each_once_both more rest = ap (λ l. with_sources l rest) (sym (grows [] [] more (λ t. refl))) ∙ sym (with_both [] more rest) ∙ grows [] [] (more ++ rest) (λ t. refl)

-- what is listed stays in front
pub stays_in_front : (all more : List Text) → (rest : List Text) × (with_sources all more ≡ all ++ rest)
stays_in_front all more = (each_once all more, grows all all more (λ t. refl))

-- what the imports name, source after source
pub by_import : (all : List Text) (imports : List Import) → with_imports all imports ≡ with_sources all (sources_in imports)
by_import all [] = refl
by_import all (i ∷ imports) = one (same_text i.from framework) (by_import all imports) (by_import (with_source all i.from) imports)
  where
    one : (b : Bool) → with_imports all imports ≡ with_sources all (sources_in imports)
        → with_imports (with_source all i.from) imports ≡ with_sources (with_source all i.from) (sources_in imports)
        → with_imports (elim b as (λ _. List Text) [ true ↦ all | false ↦ with_source all i.from ]) imports
        ≡ with_sources all (elim b as (λ _. List Text) [ true ↦ sources_in imports | false ↦ i.from ∷ sources_in imports ])
    one true old new = old
    one false old new = new
