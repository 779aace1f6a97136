-- What is known of the arrows of a module that a text derives, by their places: their sites and captures, at every place.
use Rattle.std.specs.Prelude.{◌≡◌, refl, ℕ, zero, suc, ◌-◌, ◌<◌, ◌≤◌, ltb, Bool, true, false, List, [], ◌∷◌, ◌++◌, ◌==◌, length, take, get_or, Contains}
use Rattle.std.proofs.Common.{sym, ◌∙◌, ap, subst, arith}
use Rattle.std.proofs.lemmas.Bool.{ltb-true, eqb-true}
use Rattle.std.proofs.lemmas.Bool.Decides.{nat_tests}
use Rattle.std.proofs.lemmas.List.{append_assoc, append-nil, get_or_past}
use Rattle.qk_ast.specs.declared.Form.TheVariants.{Source}
use Rattle.qk_ast.specs.declared.Module.{Module}
use Rattle.qk_ast.specs.Texts.{Text}
use Rattle.qk_ast.specs.Names.{those_of}
use Rattle.qk_ast.specs.Sources.{Named_module, module_of}
use Rattle.qk_ast.specs.Arrows.{Found_arrow, item_arrows, is_dollar, same_kind, of_kind, no_arrow, nth_arrow, number_at, arrow_at}
use Rattle.qk_ast.specs.Uses.{free_of, captures_of}
use Rattle.qk_captures.specs.declared.Captured.{Captured}
use Rattle.qk_captures.specs.Capturing.{captured_after}
use Rattle.qk_meaning.specs.Sites.{site_of, code_from, arrow_of, code_of}
use Rattle.qk_names.proofs.Laws as names
use Rattle.qk_value.specs.View.{is_distinct}
use Rattle.qk_value.proofs.Made.{distinct_once}
use Rattle.qk_code.specs.Standing.{site_seen}
use Rattle.qk_source_alike.specs.Accepted.{Derived}
use Rattle.qk_source_alike.proofs.Membership.{first_in, later_in}
use Rattle.qk_whole.specs.Elsewhere.{elsewhere_of}

-- ---- the entry of an arrow

abbrev pub entry_of : Text → (before : List Found_arrow) → Found_arrow → Captured
entry_of file before a = record { site = record { «module» = file; number = suc (length (of_kind (is_dollar a) before)); dollar = is_dollar a }; names = captures_of a }

pub captured_at : (file : Text) (before all : List Found_arrow) (k : ℕ) (d : Captured) → k < length all → get_or (captured_after file before all) k d ≡ entry_of file (before ++ take k all) (nth_arrow all k)
captured_at file before [] k d l = absurd (omega (arith, l))
captured_at file before (a ∷ all) zero d l = ap (λ bs. entry_of file bs a) (sym (append-nil before))
captured_at file before (a ∷ all) (suc k) d l = captured_at file (before ++ a ∷ []) all k d (omega (arith, l)) ∙ ap (λ bs. entry_of file bs (nth_arrow all k)) (append_assoc before (a ∷ []) (take k all))

pub captured_length : (file : Text) (before all : List Found_arrow) → length (captured_after file before all) ≡ length all
captured_length file before [] = refl
captured_length file before (a ∷ all) = ap suc (captured_length file (before ++ a ∷ []) all)

-- ---- an arrow by its place, and by its number

own_kind : (b : Bool) → same_kind b b ≡ true
own_kind true = refl
own_kind false = refl

pub nth_in : (all : List Found_arrow) (k : ℕ) → k < length all → Contains all (nth_arrow all k)
nth_in [] k l = absurd (omega (arith, l))
nth_in (a ∷ all) zero l = first_in a all
nth_in (a ∷ all) (suc k) l = later_in a all (nth_arrow all k) (nth_in all k (omega (arith, l)))

-- the arrow at a place is behind those of its kind that come before
pub record Counted (dollar : Bool) (front all : List Found_arrow) (a : Found_arrow) : Type 0 where
  pub below : length front < length all
  pub is : nth_arrow all (length front) ≡ a

abbrev kept_if : Bool → Found_arrow → List Found_arrow → List Found_arrow
kept_if b a rest = elim b [ true ↦ a ∷ rest | false ↦ rest ]

pub counted : (dollar : Bool) (all : List Found_arrow) (k : ℕ) → k < length all → is_dollar (nth_arrow all k) ≡ dollar → Counted dollar (of_kind dollar (take k all)) (of_kind dollar all) (nth_arrow all k)
counted dollar [] k l d = absurd (omega (arith, l))
counted dollar (a ∷ all) zero l d = subst (λ b. Counted dollar [] (kept_if b a (of_kind dollar all)) a) (sym (ap (same_kind dollar) d ∙ own_kind dollar)) (record { below = omega arith; is = refl })
counted dollar (a ∷ all) (suc k) l d = go (same_kind dollar (is_dollar a)) (counted dollar all k (omega (arith, l)) d)
  where
    go : (b : Bool) → Counted dollar (of_kind dollar (take k all)) (of_kind dollar all) (nth_arrow all k) → Counted dollar (kept_if b a (of_kind dollar (take k all))) (kept_if b a (of_kind dollar all)) (nth_arrow all k)
    go true c = let l = c.below in record { below = omega (arith, l); is = c.is }
    go false c = c

-- ---- at a place that no arrow has

abbrev NoneAt : List Found_arrow → ℕ → Type 0
NoneAt all k = (n : ℕ) → n < length all → (nth_arrow all n).place ≡ k → ⊥

none_there : (all : List Found_arrow) (k : ℕ) → NoneAt all k → arrow_at all k ≡ no_arrow
none_there [] k h = refl
none_there (a ∷ all) k h = go (a.place == k) refl (none_there all k (λ n l. h (suc n) (omega (arith, l))))
  where
    go : (b : Bool) → (a.place == k) ≡ b → arrow_at all k ≡ no_arrow → elim b as (λ y. Found_arrow) [ true ↦ a | false ↦ arrow_at all k ] ≡ no_arrow
    go true e r = absurd (h 0 (omega arith) (eqb-true a.place k e))
    go false e r = r

all_counted : (dollar : Bool) (all : List Found_arrow) (k : ℕ) → NoneAt all k → number_at (of_kind dollar all) k ≡ length (of_kind dollar all)
all_counted dollar [] k h = refl
all_counted dollar (a ∷ all) k h = go (same_kind dollar (is_dollar a)) (a.place == k) refl (all_counted dollar all k (λ n l. h (suc n) (omega (arith, l))))
  where
    go : (b c : Bool) → (a.place == k) ≡ c → number_at (of_kind dollar all) k ≡ length (of_kind dollar all) → number_at (kept_if b a (of_kind dollar all)) k ≡ length (kept_if b a (of_kind dollar all))
    go false c e r = r
    go true true e r = absurd (h 0 (omega arith) (eqb-true a.place k e))
    go true false e r = ap (λ t. elim t as (λ y. ℕ) [ true ↦ 1 | false ↦ suc (number_at (of_kind dollar all) k) ]) e ∙ ap suc r

-- ---- what is known at a place

less : (n : ℕ) → suc n - 1 ≡ n
less n = omega arith

-- the entry says what the meaning does
pub record Known_there (modules : List Named_module) (file : Text) (k : ℕ) (c : Captured) : Type 0 where
  pub site : site_of modules file k ≡ site_seen c.site
  pub names : captures_of (arrow_of modules (site_seen c.site)) ≡ c.names
  pub file' : c.site.«module» ≡ file
  pub distinct : is_distinct c.names ≡ true

pub distinct : (a : Found_arrow) → is_distinct (captures_of a) ≡ true
distinct a = distinct_once [] (those_of a.scope (free_of a))

module _ (file : Text) (m : Module) (d : Derived m) where
  abbrev all : List Found_arrow
  all = item_arrows m.items

  pub placed : (k : ℕ) → k < length all → (nth_arrow all k).place ≡ k
  placed k l = names.arrows_are_numbered Source d.bytes m d.derives k l

  pub found : (k : ℕ) → k < length all → arrow_at all k ≡ nth_arrow all k
  found k l = subst (λ p. arrow_at all p ≡ nth_arrow all k) (placed k l) (names.arrows_are_found Source d.bytes m d.derives (nth_arrow all k) (nth_in all k l))

  pub numbered : (dollar : Bool) (k : ℕ) → k < length all → is_dollar (nth_arrow all k) ≡ dollar → number_at (of_kind dollar all) k ≡ suc (length (of_kind dollar (take k all)))
  numbered dollar k l e = go (counted dollar all k l e)
    where
      go : Counted dollar (of_kind dollar (take k all)) (of_kind dollar all) (nth_arrow all k) → number_at (of_kind dollar all) k ≡ suc (length (of_kind dollar (take k all)))
      go c = subst (λ p. number_at (of_kind dollar all) p ≡ suc (length (of_kind dollar (take k all)))) (ap (λ a. a.place) c.is ∙ placed k l)
          (let h = (names.kinds_are_numbered Source d.bytes m d.derives dollar (length (of_kind dollar (take k all))) c.below).1 in omega (arith, h))

  module _ (modules : List Named_module) (e : module_of modules file ≡ m) where
    -- the code of an arrow, by its kind and number
    pub nth_code : (dollar : Bool) (n : ℕ) → code_of modules (record { file = file; number = suc n; dollar = dollar }) ≡ code_from file (nth_arrow (of_kind dollar all) n)
    nth_code dollar n = ap (λ x. code_from file (nth_arrow (of_kind dollar (item_arrows x.items)) (suc n - 1))) e ∙ ap (λ k. code_from file (nth_arrow (of_kind dollar all) k)) (less n)

    -- the arrow at a place
    pub arrow_there : (k : ℕ) → k < length all → arrow_of modules (site_seen (entry_of file (take k all) (nth_arrow all k)).site) ≡ nth_arrow all k
    arrow_there k l = ap (λ x. nth_arrow (of_kind (is_dollar (nth_arrow all k)) (item_arrows x.items)) (suc (length (of_kind (is_dollar (nth_arrow all k)) (take k all))) - 1)) e
        ∙ ap (nth_arrow (of_kind (is_dollar (nth_arrow all k)) all)) (less (length (of_kind (is_dollar (nth_arrow all k)) (take k all))))
        ∙ (counted (is_dollar (nth_arrow all k)) all k l refl).is

    pub inside : (k : ℕ) → k < length all → Known_there modules file k (entry_of file (take k all) (nth_arrow all k))
    inside k l = record {
      site = ap (λ x. record { file = file; number = number_at (of_kind (is_dollar (arrow_at (item_arrows x.items) k)) (item_arrows x.items)) k; dollar = is_dollar (arrow_at (item_arrows x.items) k) }) e
          ∙ ap (λ x. record { file = file; number = number_at (of_kind (is_dollar x) all) k; dollar = is_dollar x }) (found k l)
          ∙ ap (λ n. record { file = file; number = n; dollar = is_dollar (nth_arrow all k) }) (numbered (is_dollar (nth_arrow all k)) k l refl);
      names = ap captures_of (arrow_there k l);
      file' = refl;
      distinct = distinct (nth_arrow all k);
    }

    outside : (k : ℕ) → length all ≤ k → Known_there modules file k (elsewhere_of file all)
    outside k l = record {
      site = ap (λ x. record { file = file; number = number_at (of_kind (is_dollar (arrow_at (item_arrows x.items) k)) (item_arrows x.items)) k; dollar = is_dollar (arrow_at (item_arrows x.items) k) }) e
          ∙ ap (λ x. record { file = file; number = number_at (of_kind (is_dollar x) all) k; dollar = is_dollar x }) (none_there all k absent)
          ∙ ap (λ n. record { file = file; number = n; dollar = false }) (all_counted false all k absent);
      names = ap (λ x. captures_of (nth_arrow (of_kind false (item_arrows x.items)) (length (of_kind false all) - 1))) e;
      file' = refl;
      distinct = distinct (nth_arrow (of_kind false all) (length (of_kind false all) - 1));
    }
      where
        absent : NoneAt all k
        absent n b h = let p = placed n b in omega (arith, p, h, b, l)

    pub known_there : (k : ℕ) → Known_there modules file k (get_or (captured_after file [] all) k (elsewhere_of file all))
    known_there k = go (ltb k (length all)) refl
      where
        past : ltb k (length all) ≡ false → length all ≤ k
        past h = grind (arith, nat_tests)

        go : (b : Bool) → ltb k (length all) ≡ b → Known_there modules file k (get_or (captured_after file [] all) k (elsewhere_of file all))
        go true h = subst (Known_there modules file k) (sym (captured_at file [] all k (elsewhere_of file all) (ltb-true k (length all) h))) (inside k (ltb-true k (length all) h))
        go false h = subst (Known_there modules file k) (sym (get_or_past (captured_after file [] all) k (elsewhere_of file all) (let n = captured_length file [] all in let q = past h in omega (arith, n, q)))) (outside k (past h))
