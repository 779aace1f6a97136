-- Whole scopes and captured values agree: the two readings of source modules.
use Rattle.std.specs.Prelude.{◌≡◌, refl, Bool, true, false, List, [], ◌∷◌, Option, Some}
use Rattle.std.proofs.Common.{sym, ◌∙◌, ap, subst}
use Rattle.std.proofs.lemmas.Slice.Eq.{bytes_eq-Decides}
use Rattle.qk_alike.proofs.Sames.{not_both}
use Rattle.qk_alike.proofs.Scopes.{reached, held, found_values}
use Rattle.qk_source_alike.proofs.Same_code.{Reaches}
use Rattle.qk_source_alike.proofs.Captured.{captured_listed, free_captured, same_codes}
use Rattle.qk_alike.proofs.Agree.{readings_agree}
use Rattle.qk_alike.specs.Code_stands.{Codes_stand, Programs_stand, seen}
use Rattle.qk_ast.specs.Arrows.{Found_arrow}
use Rattle.qk_ast.specs.Names.{is_listed}
use Rattle.qk_ast.specs.Sources.{Named_module}
use Rattle.qk_ast.specs.Texts.{same_text}
use Rattle.qk_ast.specs.Uses.{captures_of, free_of}
use Rattle.qk_meaning.specs.Alike.{Locals_stand, Reach, is_local}
use Rattle.qk_meaning.specs.Parts.{found, has_field, or_undefined, packed, picked, value_at, zipped}
use Rattle.qk_meaning.specs.Program.{symbol_of}
use Rattle.qk_meaning.specs.Readings.{captured_function, captured_program_of, program_of}
use Rattle.qk_meaning.specs.Sites.{arrow_of, code_of, site_of}
use Rattle.qk_meaning.specs.Ties.{Fits, All_stand, Pairing, Site_ties, Stands, Ties, by_symbol, closure, item_stands, none_stand}
use Rattle.qk_meaning.specs.Value.{Closure, Fields, Lifted, Site, Text, Value}
use Rattle.qk_source_alike.specs.Source_rules.{source_sites, source_ties, Found_at, Source_rules}
use Rattle.qk_source_alike.specs.Laws.{ScopesAgree}

-- values of names that stand for one another
pub picks : {t : Ties} (names : List Text) (f g : Fields) → ((x : Text) → is_listed x names ≡ true → Stands t (value_at x f) (value_at x g)) → All_stand t (packed (picked names f)) (packed (picked names g))
picks [] f g h = none_stand
picks (n ∷ names) f g h = item_stands (h n (ap (λ b. elim b as (λ y. Bool) [ true ↦ true | false ↦ is_listed n names ]) ((bytes_eq-Decides n n).1 refl))) (picks names f g (λ x e. h x (later (same_text n x) (is_listed x names) e)))
  where
    later : (b c : Bool) → c ≡ true → (elim b as (λ y. Bool) [ true ↦ true | false ↦ c ]) ≡ true
    later true c e = refl
    later false c e = e

-- a scope cut to some names has those names, and their values
pub cut_held : (names : List Text) (x : Text) (g : Fields) → has_field x (zipped names (picked names g)) ≡ is_listed x names
cut_held [] x g = refl
cut_held (n ∷ names) x g = ap (λ c. elim (same_text n x) as (λ y. Bool) [ true ↦ true | false ↦ c ]) (cut_held names x g)

pub cut_value : (names : List Text) (x : Text) (g : Fields) → is_listed x names ≡ true → value_at x (zipped names (picked names g)) ≡ value_at x g
cut_value [] x g e = absurd (not_both (sym e))
cut_value (n ∷ names) x g e = go (same_text n x) refl e (cut_value names x g)
  where
    go : (b : Bool) → same_text n x ≡ b → (elim b as (λ y. Bool) [ true ↦ true | false ↦ is_listed x names ]) ≡ true → (is_listed x names ≡ true → value_at x (zipped names (picked names g)) ≡ value_at x g) →
        or_undefined (elim b as (λ y. Option Value) [ true ↦ Some (value_at n g) | false ↦ found x (zipped names (picked names g)) ]) ≡ value_at x g
    go true p e k = ap (λ z. value_at z g) ((bytes_eq-Decides n x).0 p)
    go false p e k = k e

module _ (modules : List Named_module) (lifts stays : Site → Bool) (pairing : Pairing) where
  abbrev t : Ties
  t = source_ties modules lifts stays pairing

  fit : (s : Site) (a : Found_arrow) → arrow_of modules s ≡ a → (f : Fields) → ((x : Text) → is_listed x (free_of a) ≡ true → has_field x f ≡ is_listed x (captures_of a)) → Fits t.sites s f
  fit s a e f h x k = h x (subst (λ z. is_listed x (free_of z) ≡ true) e k) ∙ ap (λ z. is_listed x (captures_of z)) (sym e)

  made : (file : Text) (a : Found_arrow) (r : Reach) → Found_at modules lifts stays file a → Reaches r (free_of a) → ((x : Text) → is_listed x (free_of a) ≡ true → is_listed x a.scope ≡ is_local r x) →
      (f g : Fields) → Locals_stand t r.free r.captured r.own f g → Stands t ((program_of modules).makes (site_of modules file a.place) f) ((captured_program_of modules).makes (site_of modules file a.place) g)
  made file a r at h l f g k = go (site_of modules file a.place) at.itself (site_of modules file a.place).dollar refl at.dollar at.plain
    where
      has : (x : Text) → is_listed x (free_of a) ≡ true → has_field x f ≡ is_listed x (captures_of a)
      has x e = held x k (h x e) ∙ (sym (l x e) ∙ free_captured a x e)

      used : (x : Text) → is_listed x (captures_of a) ≡ true → is_listed x (free_of a) ≡ true
      used x e = by (is_listed x (free_of a)) (sym (captured_listed a x) ∙ e)
        where
          by : (b : Bool) → (elim b as (λ y. Bool) [ true ↦ is_listed x a.scope | false ↦ false ]) ≡ true → b ≡ true
          by true e = refl
          by false e = e

      value : (x : Text) → is_listed x (captures_of a) ≡ true → Stands t (value_at x f) (value_at x g)
      value x e = found_values (reached x k (h x (used x e)))

      values : (s : Site) → arrow_of modules s ≡ a → All_stand t (packed (picked (captures_of (arrow_of modules s)) f)) (packed (picked (captures_of (arrow_of modules s)) g))
      values s e = subst (λ z. All_stand t (packed (picked (captures_of z) f)) (packed (picked (captures_of z) g))) (sym e) (picks (captures_of a) f g value)

      cut : (s : Site) → arrow_of modules s ≡ a → All_stand t (packed (picked (captures_of (arrow_of modules s)) f)) (packed (picked (captures_of (arrow_of modules s)) (zipped (captures_of (arrow_of modules s)) (picked (captures_of (arrow_of modules s)) g))))
      cut s e = subst (λ z. All_stand t (packed (picked (captures_of z) f)) (packed (picked (captures_of z) (zipped (captures_of z) (picked (captures_of z) g))))) (sym e)
          (picks (captures_of a) f (zipped (captures_of a) (picked (captures_of a) g)) (λ x m. subst (λ v. Stands t (value_at x f) v) (sym (cut_value (captures_of a) x g m)) (value x m)))

      go : (s : Site) → arrow_of modules s ≡ a → (b : Bool) → s.dollar ≡ b → (s.dollar ≡ true → lifts s ≡ true) → (s.dollar ≡ false → stays s ≡ true) →
          Stands t (Closure s f false) (captured_function modules s g)
      go s e true p q r =
          subst (λ b. Stands t (Closure s f false) (elim b as (λ y. Value) [ true ↦ Lifted (symbol_of s) (packed (picked (captures_of (arrow_of modules s)) g)) false | false ↦ Closure s (zipped (captures_of (arrow_of modules s)) (picked (captures_of (arrow_of modules s)) g)) false ])) (sym p)
          (by_symbol (q p) (fit s a e f has) (values s e))
      go s e false p q r =
          subst (λ b. Stands t (Closure s f false) (elim b as (λ y. Value) [ true ↦ Lifted (symbol_of s) (packed (picked (captures_of (arrow_of modules s)) g)) false | false ↦ Closure s (zipped (captures_of (arrow_of modules s)) (picked (captures_of (arrow_of modules s)) g)) false ])) (sym p)
          (closure (r p) (fit s a e f has) (λ x m. cut_held (captures_of (arrow_of modules s)) x g) (cut s e))

module _ (modules : List Named_module) (lifts stays : Site → Bool) (pairing : Pairing) (rules : Source_rules modules lifts stays pairing) where
  abbrev sites : Site_ties
  sites = source_sites modules lifts stays

  codes_stand : (s : Site) → Codes_stand (program_of modules) (captured_program_of modules) sites (seen (code_of modules s) (free_of (arrow_of modules s))) (captures_of (arrow_of modules s)) (code_of modules s) (code_of modules s)
  codes_stand s = same_codes (program_of modules) (captured_program_of modules) sites s.file (Found_at modules lifts stays s.file) (rules.roots s.file) (λ a r at h l p. made modules lifts stays p s.file a r at h l) (arrow_of modules s) (rules.tracks s) (rules.inner s)

  pub programs : Programs_stand (program_of modules) (captured_program_of modules) sites
  programs = record {
    captures = λ s. refl;
    other_captures = λ s l. refl;
    sites = λ s l. codes_stand s;
    lifts = λ s l. subst (λ c. Codes_stand (program_of modules) (captured_program_of modules) sites (seen (code_of modules s) (free_of (arrow_of modules s))) (captures_of (arrow_of modules s)) (code_of modules s) c) (sym (rules.lifted s l)) (codes_stand s);
    lifted_captures = λ s l. ap (λ c. c.captures) (rules.lifted s l);
    symbols = λ e. absurd (not_both (sym e));
    taken = λ e. absurd (not_both (sym e));
  }

-- the two readings of the modules agree on every call
pub scopes_agree : ScopesAgree
scopes_agree modules lifts stays pairing b computed rules alike = readings_agree (source_ties modules lifts stays pairing) b computed (program_of modules) (captured_program_of modules) rules.apart (programs modules lifts stays pairing rules) alike
