-- In accepted modules arrows are found at their places, those inside arrows too, and tasks take `track` at most.
use Rattle.std.specs.Prelude.{◌≡◌, refl, ℕ, ◌+◌, ◌-◌, ◌<◌, ◌≤◌, ◌⊎◌, Bool, true, false, not, ◌&&◌, nat_le, List, [], ◌∷◌, length, Contains, IsTrue, codes}
use Rattle.std.proofs.Common.{sym, ◌∙◌, ap, subst, arith, inl, inr}
use Rattle.std.proofs.lemmas.List.Elements.{All-contains}
use Rattle.std.proofs.lemmas.Slice.Eq.{bytes_eq-Decides}
use Rattle.std.proofs.lemmas.Bool.{le-leb}
use Rattle.qk_ast.specs.declared.Form.TheVariants.{Source}
use Rattle.qk_ast.specs.declared.Module.{Module}
use Rattle.qk_ast.specs.declared.Pattern.{Pattern}
use Rattle.qk_ast.specs.Texts.{Text}
use Rattle.qk_ast.specs.Names.{patterns_names}
use Rattle.qk_ast.specs.Framework.{is_module_name}
use Rattle.qk_ast.specs.Sources.{Named_module, module_of}
use Rattle.qk_ast.specs.Scopes.{is_track}
use Rattle.qk_ast.specs.Placing.{most_sites}
use Rattle.qk_ast.specs.Arrows.{Mark, Unmarked, Marked, Tasked, Found_arrow, item_arrows, is_dollar, of_kind, no_arrow, nth_arrow, number_at, arrow_at}
use Rattle.qk_meaning.specs.Value.{Site}
use Rattle.qk_meaning.specs.Setting.{has_parameter, has_tracker}
use Rattle.qk_meaning.specs.Sites.{site_of, is_task, code_from, arrow_of, code_of}
use Rattle.qk_names.specs.Inside.{inside}
use Rattle.qk_names.specs.Laws.{IsTask}
use Rattle.qk_names.proofs.Laws as names
use Rattle.qk_alike.proofs.Sames.{not_both}
use Rattle.qk_source_alike.specs.Every.{Every, none_of}
use Rattle.qk_source_alike.specs.Accepted.{Accepted, lifts_in_source, stays_in_source}
use Rattle.qk_source_alike.specs.Source_rules.{Found_at}
use Rattle.qk_source_alike.proofs.Membership.{nothing_in, every_in, nth_or_none, kind_in, Numbered_in, numbered_in}
use Rattle.qk_source_alike.proofs.Kept_modules.{Kept_module, kept, none, kept_module}

-- what the laws say of a list of arrows
pub record Placed (file : Text) (all : List Found_arrow) : Type 0 where
  pub found : (a : Found_arrow) → Contains all a → arrow_at all a.place ≡ a
  pub numbers : (dollar : Bool) (n : ℕ) → n < length (of_kind dollar all) → number_at (of_kind dollar all) (nth_arrow (of_kind dollar all) n).place ≡ n + 1
  pub named : (a : Found_arrow) → Contains all a → IsTrue (is_module_name file)
  pub few : length (of_kind true all) ≤ most_sites
  pub tasks : (a : Found_arrow) → Contains all a → a.mark ≡ Tasked → IsTask a.params

placed_so : (file : Text) (m : Module) → Kept_module file m → Placed file (item_arrows m.items)
placed_so file m (kept roots name d k) = record {
  found = λ a c. names.arrows_are_found Source d.bytes m d.derives a c;
  numbers = λ dollar n l. (names.kinds_are_numbered Source d.bytes m d.derives dollar n l).1;
  named = λ a c. name;
  few = names.sites_are_few file roots m k.1;
  tasks = λ a c. All-contains (λ a. a.mark ≡ Tasked → IsTask a.params) (item_arrows m.items) a (names.tasks_take_track Source file roots m k) c;
}
placed_so file _ none = record {
  found = λ a c. nothing_in a c;
  numbers = λ dollar n l. absurd (none_below n l);
  named = λ a c. nothing_in a c;
  few = omega arith;
  tasks = λ a c. nothing_in a c;
}
  where
    none_below : (n : ℕ) → n < 0 → ⊥
    none_below n l = omega (arith, l)

both : (b c : Bool) → b ≡ true → c ≡ true → (b && c) ≡ true
both true c e f = f
both false c e f = e

is_true : (b : Bool) → IsTrue b → b ≡ true
is_true b h = h

module _ (modules : List Named_module) (accepted : Accepted modules) where
  abbrev arrows_in : Text → List Found_arrow
  arrows_in file = item_arrows (module_of modules file).items

  pub placed : (file : Text) → Placed file (arrows_in file)
  placed file = placed_so file (module_of modules file) (kept_module modules accepted file)

  -- ---- the arrow at a place

  -- the site of an arrow that is found at its place
  abbrev own_site : Text → Found_arrow → Site
  own_site file a = record { file = file; number = number_at (of_kind (is_dollar a) (arrows_in file)) a.place; dollar = is_dollar a }

  pub site_is : (file : Text) (a : Found_arrow) → Contains (arrows_in file) a → site_of modules file a.place ≡ own_site file a
  site_is file a c = ap (λ x. record { file = file; number = number_at (of_kind (is_dollar x) (arrows_in file)) a.place; dollar = is_dollar x }) ((placed file).found a c)

  pub number_is : (file : Text) (a : Found_arrow) (n : Numbered_in (of_kind (is_dollar a) (arrows_in file)) a) → number_at (of_kind (is_dollar a) (arrows_in file)) a.place ≡ n.number + 1
  number_is file a n = subst (λ x. number_at (of_kind (is_dollar a) (arrows_in file)) x.place ≡ n.number + 1) n.is ((placed file).numbers (is_dollar a) n.number n.there)

  own_arrow : (file : Text) (a : Found_arrow) → Contains (arrows_in file) a → arrow_of modules (own_site file a) ≡ a
  own_arrow file a c = go (numbered_in (is_dollar a) (arrows_in file) a refl c)
    where
      less : (n : ℕ) → n + 1 - 1 ≡ n
      less n = omega arith

      go : Numbered_in (of_kind (is_dollar a) (arrows_in file)) a → arrow_of modules (own_site file a) ≡ a
      go n = ap (λ k. nth_arrow (of_kind (is_dollar a) (arrows_in file)) (k - 1)) (number_is file a n) ∙ (ap (λ k. nth_arrow (of_kind (is_dollar a) (arrows_in file)) k) (less n.number) ∙ n.is)

  own_lifts : (file : Text) (a : Found_arrow) → Contains (arrows_in file) a → is_dollar a ≡ true → lifts_in_source (own_site file a) ≡ true
  own_lifts file a c d = both (is_dollar a) _ d (both (is_module_name file) _ (is_true (is_module_name file) ((placed file).named a c)) (few (numbered_in (is_dollar a) (arrows_in file) a refl c)))
    where
      at_most : (n k l : ℕ) → n ≡ k + 1 → k < l → l ≤ 4096 → n ≤ 4096
      at_most n k l e h g = omega (arith, e, h, g)

      few : Numbered_in (of_kind (is_dollar a) (arrows_in file)) a → nat_le (number_at (of_kind (is_dollar a) (arrows_in file)) a.place) most_sites ≡ true
      few n = le-leb (number_at (of_kind (is_dollar a) (arrows_in file)) a.place) most_sites
          (at_most _ n.number _ (number_is file a n) n.there (subst (λ b. length (of_kind b (arrows_in file)) ≤ most_sites) (sym d) ((placed file).few)))

  pub found_there : (file : Text) (a : Found_arrow) → Contains (arrows_in file) a → Found_at modules lifts_in_source stays_in_source file a
  found_there file a c = record {
    itself = ap (arrow_of modules) (site_is file a c) ∙ own_arrow file a c;
    dollar = λ e. ap lifts_in_source (site_is file a c) ∙ own_lifts file a c (sym (ap (λ s. s.dollar) (site_is file a c)) ∙ e);
    plain = λ e. ap not e;
  }

  -- ---- the arrow of a site

  pub site_arrow : (s : Site) → Contains (arrows_in s.file) (arrow_of modules s) ⊎ (arrow_of modules s ≡ no_arrow)
  site_arrow s = go (nth_or_none (of_kind s.dollar (arrows_in s.file)) (s.number - 1))
    where
      go : Contains (of_kind s.dollar (arrows_in s.file)) (arrow_of modules s) ⊎ (arrow_of modules s ≡ no_arrow) → Contains (arrows_in s.file) (arrow_of modules s) ⊎ (arrow_of modules s ≡ no_arrow)
      go (inl c) = inl (kind_in s.dollar (arrows_in s.file) (arrow_of modules s) c)
      go (inr e) = inr e

  pub inner : (s : Site) → Every (Found_at modules lifts_in_source stays_in_source s.file) (inside (arrow_of modules s))
  inner s = go (site_arrow s)
    where
      go : Contains (arrows_in s.file) (arrow_of modules s) ⊎ (arrow_of modules s ≡ no_arrow) → Every (Found_at modules lifts_in_source stays_in_source s.file) (inside (arrow_of modules s))
      go (inl c) = every_in (inside (arrow_of modules s)) (λ b i. found_there s.file b (names.inside_is_listed (module_of modules s.file).items (arrow_of modules s) b c i))
      go (inr e) = subst (λ a. Every (Found_at modules lifts_in_source stays_in_source s.file) (inside a)) (sym e) none_of

  -- ---- tasks

  track_named : (params : List Pattern) → IsTrue (is_track params) → patterns_names params ≡ codes "track" ∷ []
  track_named (Pattern.Fields (name ∷ []) ∷ []) h = ap (λ n. n ∷ []) ((bytes_eq-Decides name (codes "track")).0 h)
  track_named _ h = absurd (not_both (sym h))

  pub tracks : (s : Site) → has_tracker (code_of modules s) ≡ true → patterns_names (arrow_of modules s).params ≡ codes "track" ∷ []
  tracks s h = go (site_arrow s) h
    where
      by : (a : Found_arrow) → (a.mark ≡ Tasked → IsTask a.params) → has_tracker (code_from s.file a) ≡ true → patterns_names a.params ≡ codes "track" ∷ []
      by a k h = marked a.mark a.params k h
        where
          taken : (params : List Pattern) → IsTask params → has_parameter params ≡ true → patterns_names params ≡ codes "track" ∷ []
          taken params (inr t) h = track_named params t
          taken params (inl e) h = absurd (not_both (sym (sym (ap has_parameter e) ∙ h)))

          marked : (mark : Mark) (params : List Pattern) → (mark ≡ Tasked → IsTask params) → (elim (is_task mark) as (λ y. Bool) [ true ↦ has_parameter params | false ↦ false ]) ≡ true → patterns_names params ≡ codes "track" ∷ []
          marked Tasked params k h = taken params (k refl) h
          marked Marked params k h = absurd (not_both (sym h))
          marked Unmarked params k h = absurd (not_both (sym h))

      go : Contains (arrows_in s.file) (arrow_of modules s) ⊎ (arrow_of modules s ≡ no_arrow) → has_tracker (code_of modules s) ≡ true → patterns_names (arrow_of modules s).params ≡ codes "track" ∷ []
      go (inl c) h = by (arrow_of modules s) ((placed s.file).tasks (arrow_of modules s) c) h
      go (inr e) h = by (arrow_of modules s) (λ m. absurd (no_mark (sym m ∙ ap (λ a. a.mark) e))) h
        where
          no_mark : Tasked ≡ Unmarked → ⊥
          no_mark e = cc
