-- What the names of a root mean stands for what they mean over captured values.
use Rattle.std.specs.Prelude.{◌≡◌, refl, ℕ, zero, suc, Bool, true, false, ◌&&◌, ◌||◌, List, [], ◌∷◌, Contains, IsTrue, Option, Some, None, codes}
use Rattle.std.proofs.Common.{sym, ◌∙◌, ap, subst, arith}
use Rattle.std.proofs.lemmas.Slice.Eq.{bytes_eq-Decides}
use Rattle.qk_ast.specs.declared.Form.TheVariants.{Source}
use Rattle.qk_ast.specs.declared.Import.{Import}
use Rattle.qk_ast.specs.declared.Item.{Item}
use Rattle.qk_ast.specs.declared.Module.{Module}
use Rattle.qk_ast.specs.declared.Expr.{Expr, Row_of-Expr, end_of-Expr, more_of-Expr, Row_of-Link, end_of-Link, more_of-Link, more_of-Arrow}
use Rattle.qk_ast.specs.declared.Link.{Link}
use Rattle.qk_ast.specs.Texts.{Text, same_text}
use Rattle.qk_ast.specs.Names.{is_listed, those_of, each_once}
use Rattle.qk_ast.specs.Framework.{framework}
use Rattle.qk_ast.specs.Sources.{Named_module, source_module, module_of}
use Rattle.qk_ast.specs.Arrows.{Mark, Unmarked, Marked, Found_arrow, arrows, item_arrows, is_dollar, call_mark}
use Rattle.qk_ast.specs.Uses.{free_of, captures_of}
use Rattle.qk_ast.specs.Spots.{arguments_of, With, called}
use Rattle.qk_ast.specs.Placing.{Root_kind, A_component, A_context, Else, is_one_text, is_made, called_kind, kind_of_value, is_item}
use Rattle.qk_ast.specs.Naming.{root_names}
use Rattle.qk_meaning.specs.Value.{end, Closure, Words, Component, Lifted_component}
use Rattle.qk_meaning.specs.Parts.{packed, picked}
use Rattle.qk_meaning.specs.Program.{Root, Framework, Holds, Shows}
use Rattle.qk_meaning.specs.Sites.{site_of, arrow_of}
use Rattle.qk_meaning.specs.Roots.{place_of, text_in, first_of, first_argument, symbol_named, called_item, item_root, found_item, imported, found_import, root_of}
use Rattle.qk_meaning.specs.Readings.{lifted_root}
use Rattle.qk_meaning.specs.Ties.{Site_ties, ties_over, Fits, words, closure, a_symbol, All_stand, none_stand}
use Rattle.qk_names.specs.Handed.{handed_in}
use Rattle.qk_names.specs.Laws.{DollarSite}
use Rattle.qk_names.proofs.Laws as names
use Rattle.qk_alike.specs.Meanings_stand.{Roots_stand, framework as framework_root, holds, shows, unknown}
use Rattle.qk_alike.proofs.Sames.{not_both}
use Rattle.qk_source_alike.specs.Every.{Every, none_of, all_of}
use Rattle.qk_source_alike.specs.Accepted.{Accepted, lifts_in_source, stays_in_source}
use Rattle.qk_source_alike.specs.Source_rules.{source_sites, Found_at}
use Rattle.qk_source_alike.proofs.Membership.{nothing_in, first_in, later_in, front_in, behind_in}
use Rattle.qk_source_alike.proofs.Kept_modules.{Kept_module, kept, none, kept_module}
use Rattle.qk_source_alike.proofs.Arrows_found.{found_there, site_is}
use Rattle.qk_source_alike.proofs.Literals_stand.{literal_stands}
use Rattle.qk_source_alike.proofs.Framework_used.{No_qrl, no_qrl, called_itself}

abbrev is_some : {A : Type 0} → Option A → Bool
is_some (Some a) = true
is_some None = false

some_is : {A : Type 0} (d : A) {a b : A} → Some a ≡ Some b → a ≡ b
some_is {A} d e = ap (λ o. elim o as (λ y. A) [ Some x ↦ x | None ↦ d ]) e

-- the arrow that a call is handed stands at the place of its first argument
handed_place : {m : _} (all : Row_of-Expr m) (mark : Mark) (a : Found_arrow) → handed_in mark (With (arguments_of all) true) ≡ Some a → place_of (first_of all) ≡ a.place
handed_place (more_of-Expr (Expr.Arrow' _ (more_of-Arrow place params body _)) end_of-Expr) mark a e = ap (λ x. x.place) (some_is a e)
handed_place _ mark a e = absurd (not_both (sym (ap is_some e)))

-- around an arrow of the root no name is captured
those_none : (xs : List Text) → those_of [] xs ≡ []
those_none [] = refl
those_none (x ∷ xs) = those_none xs

none_captured : (a : Found_arrow) → a.scope ≡ [] → captures_of a ≡ []
none_captured a e = ap (λ s. each_once [] (those_of s (free_of a))) e ∙ ap (each_once []) (those_none (free_of a))

-- this is a dollar arrow of the items
record Handed_so (items : List Item) (found : Option Found_arrow) : Type 0 where
  arrow : Found_arrow
  is : found ≡ Some arrow
  marked : arrow.mark ≡ Marked
  around : arrow.scope ≡ []
  listed : Contains (item_arrows items) arrow

-- what is known of the items of a module
record Items_known (m : Module) : Type 0 where
  formed : (i : Item) → Contains m.items i → IsTrue (is_item i.init)
  components : (i : Item) → Contains m.items i → kind_of_value i.init ≡ A_component → DollarSite m.items i.init

items_known : (file : Text) (m : Module) → Kept_module file m → Items_known m
items_known file m (kept roots name d k) = record { formed = λ i c. (names.items_have_forms file roots m k.1 i c).0; components = names.component_is_dollar_site file roots m k.1 }
items_known file _ none = record { formed = λ i c. nothing_in i c; components = λ i c. nothing_in i c }

imports_known : (file : Text) (m : Module) → Kept_module file m → Every (No_qrl file (root_names Source file m)) m.imports
imports_known file m (kept roots name d k) = no_qrl file m k.0
imports_known file _ none = none_of

-- an arrow of an item is an arrow of the items
item_listed : (items : List Item) (i : Item) (a : Found_arrow) → Contains items i → Contains (arrows i.init Unmarked []) a → Contains (item_arrows items) a
item_listed [] i a c h = nothing_in i c
item_listed (j ∷ items) i a (zero, l, e) h = front_in (arrows j.init Unmarked []) (item_arrows items) a (subst (λ x. Contains (arrows x.init Unmarked []) a) (sym e) h)
item_listed (j ∷ items) i a (suc k, l, e) h = behind_in (arrows j.init Unmarked []) (item_arrows items) a (item_listed items i a (k, omega (arith, l), e) h)

module _ (modules : List Named_module) (accepted : Accepted modules) where
  abbrev t : Site_ties
  t = source_sites modules lifts_in_source stays_in_source

  abbrev Alike : Root → Type 0
  Alike r = Roots_stand t r (lifted_root r)

  module _ (file : Text) where
    abbrev items : List Item
    items = (module_of modules file).items

    known : Items_known (module_of modules file)
    known = items_known file (module_of modules file) (kept_module modules accepted file)

    -- a component is a symbol
    shown : (place : ℕ) (a : Found_arrow) → place ≡ a.place → Contains (item_arrows items) a → is_dollar a ≡ true → a.scope ≡ [] → Alike (Shows (Component (site_of modules file place)))
    shown place a e c d n = subst (λ p. Alike (Shows (Component (site_of modules file p)))) (sym e)
        (shows (a_symbol ((found_there modules accepted file a c).dollar (ap (λ s. s.dollar) (site_is modules accepted file a c) ∙ d)) (ap captures_of (found_there modules accepted file a c).itself ∙ none_captured a n)))

    -- a root arrow stays a site, and captures nothing
    kept_arrow : (a : Found_arrow) → Contains (item_arrows items) a → is_dollar a ≡ false → a.scope ≡ [] → Alike (Holds (Closure (site_of modules file a.place) end false))
    kept_arrow a c d e = holds (λ p. closure (f.plain (ap (λ s. s.dollar) (site_is modules accepted file a c) ∙ d)) fits fits (subst (λ ns. All_stand (ties_over t p) (packed (picked ns end)) (packed (picked ns end))) (sym nothing) none_stand))
      where
        f : Found_at modules lifts_in_source stays_in_source file a
        f = found_there modules accepted file a c

        nothing : captures_of (arrow_of modules (site_of modules file a.place)) ≡ []
        nothing = ap captures_of f.itself ∙ none_captured a e

        fits : Fits t (site_of modules file a.place) end
        fits name k = sym (ap (is_listed name) nothing)

    called_stands : (callee : Text) {m : _} (links : Row_of-Link m) → (same_text callee (codes "component$") ≡ true → Alike (Shows (Component (site_of modules file (place_of (first_argument links)))))) → (same_text callee (codes "component$") ≡ false → same_text callee (codes "componentQrl") ≡ true → ⊥) →
        Alike (elim (same_text callee (codes "component$")) as (λ y. Root) [ true ↦ Shows (Component (site_of modules file (place_of (first_argument links)))) | false ↦ elim (same_text callee (codes "componentQrl")) as (λ y. Root) [ true ↦ Shows (Lifted_component (symbol_named (first_argument links))) | false ↦ Holds (Words (text_in (first_argument links))) ] ])
    called_stands callee links h g = go (same_text callee (codes "component$")) refl (same_text callee (codes "componentQrl")) refl
      where
        go : (b : Bool) → same_text callee (codes "component$") ≡ b → (c : Bool) → same_text callee (codes "componentQrl") ≡ c →
            Alike (elim b as (λ y. Root) [ true ↦ Shows (Component (site_of modules file (place_of (first_argument links)))) | false ↦ elim c as (λ y. Root) [ true ↦ Shows (Lifted_component (symbol_named (first_argument links))) | false ↦ Holds (Words (text_in (first_argument links))) ] ])
        go true p c q = h p
        go false p true q = absurd (g p q)
        go false p false q = holds (λ p. words)

    marked_dollar : (a : Found_arrow) → a.mark ≡ Marked → is_dollar a ≡ true
    marked_dollar a e = ap (λ m. elim m as (λ y. Bool) [ Unmarked ↦ false | _ ↦ true ]) e

    post_alike : (callee : Text) {m : _} (links : Row_of-Link m) → (is_made (called_kind (Some callee) (called links)) || false || false) ≡ true → (called_kind (Some callee) (called links) ≡ A_component → Handed_so items (handed_in (call_mark (Expr.Name callee)) (called links))) →
        Alike (called_item modules file callee (first_argument links))
    post_alike callee (more_of-Link (Link.Call' v all) end_of-Link) f d = called_stands callee (more_of-Link (Link.Call' v all) end_of-Link) component built
      where
        built : same_text callee (codes "component$") ≡ false → same_text callee (codes "componentQrl") ≡ true → ⊥
        built p q = not_both (sym (subst (λ c. (is_made (called_kind (Some c) (With (arguments_of all) true)) || false || false) ≡ true) ((bytes_eq-Decides callee (codes "componentQrl")).0 q) f))

        by : Handed_so items (handed_in (call_mark (Expr.Name callee)) (With (arguments_of all) true)) → Alike (Shows (Component (site_of modules file (place_of (first_of all)))))
        by site = shown (place_of (first_of all)) site.arrow (handed_place all (call_mark (Expr.Name callee)) site.arrow site.is) site.listed (marked_dollar site.arrow site.marked) site.around

        component : same_text callee (codes "component$") ≡ true → Alike (Shows (Component (site_of modules file (place_of (first_of all)))))
        component p = by (d (ap (λ b. elim b as (λ y. Root_kind) [ true ↦ A_component | false ↦ elim (same_text callee (codes "createContextId") && is_one_text (arguments_of all)) as (λ y. Root_kind) [ true ↦ A_context | false ↦ Else ] ]) p))
    post_alike callee links f d = absurd (not_both (sym f))

    item_alike : (e : Expr) → IsTrue (is_item e) → (kind_of_value e ≡ A_component → DollarSite items e) → ((a : Found_arrow) → Contains (arrows e Unmarked []) a → Contains (item_arrows items) a) → Alike (item_root modules file e)
    item_alike (Expr.Post' s (more_of-Expr (Expr.Name callee) r) u links) f d l = post_alike callee links f (λ k. handed_so (d k))
      where
        handed_so : DollarSite items (Expr.Post' s (more_of-Expr (Expr.Name callee) r) u links) → Handed_so items (handed_in (call_mark (Expr.Name callee)) (called links))
        handed_so site = record { arrow = site.arrow; is = site.handed'; marked = site.marked; around = site.around_none; listed = site.listed }
    item_alike (Expr.Arrow' s (more_of-Arrow place params body r)) f d l =
        kept_arrow (record { place = place; scope = []; mark = Unmarked; params = params; body = body }) (l (record { place = place; scope = []; mark = Unmarked; params = params; body = body }) (first_in _ _)) refl refl
    item_alike e f d l = holds (λ p. literal_stands (ties_over t p) e)

    items_alike : (name : Text) (rest : List Item) → ((i : Item) → Contains rest i → Contains items i) → Alike (found_item modules file name rest)
    items_alike name [] h = unknown
    items_alike name (i ∷ rest) h = go (same_text i.name name) (items_alike name rest (λ j c. h j (later_in i rest j c)))
      where
        own : Contains items i
        own = h i (first_in i rest)

        go : (b : Bool) → Alike (found_item modules file name rest) → Alike (elim b as (λ y. Root) [ true ↦ item_root modules file i.init | false ↦ found_item modules file name rest ])
        go true k = item_alike i.init (known.formed i own) (known.components i own) (λ a c. item_listed items i a own c)
        go false k = k

  -- a name that is imported
  imported_alike : (source name : Text) → (same_text source framework ≡ true → same_text name (codes "qrl") ≡ true → ⊥) → Alike (imported modules source name)
  imported_alike source name h = go (same_text source framework) h
    where
      go : (b : Bool) → (b ≡ true → same_text name (codes "qrl") ≡ true → ⊥) → Alike (elim b as (λ y. Root) [ true ↦ Framework name | false ↦ found_item modules (source_module source) name (module_of modules (source_module source)).items ])
      go true h = framework_root (λ p. called_itself name (h refl))
      go false h = items_alike (source_module source) name (module_of modules (source_module source)).items (λ i c. c)

  imports_alike : (file name : Text) (imports : List Import) → Every (No_qrl file (root_names Source file (module_of modules file))) imports → Alike (found_import modules file imports (module_of modules file).items name)
  imports_alike file name [] h = items_alike file name (module_of modules file).items (λ i c. c)
  imports_alike file name (i ∷ rest) (all_of h hs) = go (is_listed name i.names) refl (imports_alike file name rest hs)
    where
      go : (b : Bool) → is_listed name i.names ≡ b → Alike (found_import modules file rest (module_of modules file).items name) →
          Alike (elim b as (λ y. Root) [ true ↦ imported modules i.from name | false ↦ found_import modules file rest (module_of modules file).items name ])
      go true p k = imported_alike i.from name (h name p)
      go false p k = k

  pub roots_alike : (file name : Text) → Alike (root_of modules file name)
  roots_alike file name = imports_alike file name (module_of modules file).imports (imports_known file (module_of modules file) (kept_module modules accepted file))
