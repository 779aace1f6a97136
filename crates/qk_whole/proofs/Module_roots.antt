-- What the names of a module's items mean, whatever modules come later.
use Rattle.std.specs.Prelude.{◌≡◌, refl, ℕ, zero, suc, ◌+◌, ◌-◌, ◌<◌, ◌||◌, Bool, true, false, List, [], ◌∷◌, codes, length, take, All, Contains, Option, Some, None, get_or, IsTrue}
use Rattle.std.proofs.Common.{sym, ◌∙◌, ap, subst, arith}
use Rattle.std.proofs.lemmas.Slice.Eq.{bytes_eq-Decides}
use denote.Hole.Carrier.{hidden}
use Rattle.qk_ast.specs.declared.Body.TheBlock.{shape-the_row-Expr-0, hidden-the_row-Expr-0, hidden-the_row-Link-5, shape-the_row-Arrow-6, hidden-the_row-Arrow-6}
use Rattle.qk_ast.specs.declared.Form.TheVariants.{Source}
use Rattle.qk_ast.specs.declared.Arrow.{Arrow}
use Rattle.qk_ast.specs.declared.Expr.{Expr}
use Rattle.qk_ast.specs.declared.Expr.TheVariants as e
use Rattle.qk_ast.specs.declared.Item.{Item}
use Rattle.qk_ast.specs.declared.Link.{Link}
use Rattle.qk_ast.specs.Texts.{Text, same_text}
use Rattle.qk_ast.specs.Names.{those_of, each_once}
use Rattle.qk_ast.specs.Sources.{Named_module, module_of}
use Rattle.qk_ast.specs.Arrows.{Unmarked, Marked, Found_arrow, arrows, item_arrows, is_dollar, call_mark, of_kind, nth_arrow, number_at}
use Rattle.qk_ast.specs.Uses.{free_of, captures_of}
use Rattle.qk_ast.specs.Spots.{called}
use Rattle.qk_ast.specs.Placing.{A_component, is_made, called_kind, kind_of_value, is_item}
use Rattle.qk_lifting.specs.Kinds as lifting
use Rattle.qk_lifting.specs.declared.SegmentKind.TheVariants.{Component}
use Rattle.qk_meaning.specs.Value as M
use Rattle.qk_meaning.specs.Value.{Site, Closure, end, Words, Lifted_component}
use Rattle.qk_meaning.specs.Index.{For_component}
use Rattle.qk_meaning.specs.Program as P
use Rattle.qk_meaning.specs.Program.{Holds, Shows, Unknown, symbol_of, captures_in}
use Rattle.qk_meaning.specs.Sites.{site_of, code_from, arrow_of, code_of as code_at}
use Rattle.qk_meaning.specs.Roots.{place_of, text_in, symbol_named, called_item, item_root, found_item}
use Rattle.qk_meaning.specs.Readings.{site_spelled, captured_program_of, lifted_root}
use Rattle.qk_names.specs.Laws.{DollarSite}
use Rattle.qk_names.proofs.Laws as names
use Rattle.qk_names.specs.Handed.{handed, handed_in}
use Rattle.qk_names.specs.Inside.{inside}
use Rattle.qk_modules.specs.declared.modules.NamedModule.{NamedModule}
use Rattle.qk_sites.specs.Symbols.{symbol_text}
use Rattle.qk_code.specs.declared.func.Root.{Root}
use Rattle.qk_code.specs.Standing.{site_seen, code_of, Means}
use Rattle.qk_source_alike.specs.Accepted.{Derived, Accepted, lifts_in_source}
use Rattle.qk_source_alike.proofs.Membership.{nothing_in, first_in, later_in, front_in, behind_in}
use Rattle.qk_source_alike.proofs.Arrows_found as found
use Rattle.qk_source_alike.proofs.Symbols.{spelled_back}
use Rattle.qk_whole.specs.declared.known.Known.{Known}
use Rattle.qk_whole.specs.Kinds.{kind_at, nth_kind}
use Rattle.qk_whole.specs.Telling.{Tells, site_at}
use Rattle.qk_whole.specs.Items.{first_item, first_in as first_of_links, IsRoot}
use Rattle.qk_whole.specs.Taking.{IsSource}
use Rattle.qk_whole.proofs.Item_rows.{item_called, first_links}
use Rattle.qk_whole.proofs.Known_sites as sites
use Rattle.qk_whole.proofs.Known_sites.{Known_there, entry_of, nth_in}
use Rattle.qk_whole.proofs.Kinds_told.{Kept_kind, first_kind, Handed_row, handed_row, component_called, none_built}
use Rattle.qk_whole.proofs.Module_functions.{stands_for, file_is}

-- ---- the first item of a name

abbrev pub item_by : List Named_module → Text → Option Item → P.Root
item_by modules file None = Unknown
item_by modules file (Some i) = item_root modules file i.init

pub found_first : (modules : List Named_module) (file q : Text) (items : List Item) → found_item modules file q items ≡ item_by modules file (first_item items q)
found_first modules file q [] = refl
found_first modules file q (i ∷ rest) = go (same_text i.name q) (found_first modules file q rest)
  where
    go : (b : Bool) → found_item modules file q rest ≡ item_by modules file (first_item rest q)
        → elim b as (λ y. P.Root) [ true ↦ item_root modules file i.init | false ↦ found_item modules file q rest ] ≡ item_by modules file (elim b as (λ y. Option Item) [ true ↦ Some i | false ↦ first_item rest q ])
    go true h = refl
    go false h = h

pub first_listed : (items : List Item) (q : Text) (i : Item) → first_item items q ≡ Some i → Contains items i
first_listed [] q i h = absurd (none_some h)
  where
    none_some : None ≡ Some i → ⊥
    none_some e = cc
first_listed (j ∷ rest) q i h = go (same_text j.name q) (first_listed rest q i) h
  where
    some_is : Some j ≡ Some i → j ≡ i
    some_is e = ap (λ o. elim o as (λ y. Item) [ Some x ↦ x | None ↦ j ]) e

    go : (b : Bool) → (first_item rest q ≡ Some i → Contains rest i) → elim b as (λ y. Option Item) [ true ↦ Some j | false ↦ first_item rest q ] ≡ Some i → Contains (j ∷ rest) i
    go true k e = subst (Contains (j ∷ rest)) (some_is e) (first_in j rest)
    go false k e = later_in j rest i (k e)

-- an arrow of an item is an arrow of the items
item_listed : (items : List Item) (i : Item) (a : Found_arrow) → Contains items i → Contains (arrows i.init Unmarked []) a → Contains (item_arrows items) a
item_listed [] i a c h = nothing_in i c
item_listed (j ∷ items) i a (zero, l, e) h = front_in (arrows j.init Unmarked []) (item_arrows items) a (subst (λ x. Contains (arrows x.init Unmarked []) a) (sym e) h)
item_listed (j ∷ items) i a (suc k, l, e) h = behind_in (arrows j.init Unmarked []) (item_arrows items) a (item_listed items i a (k, omega (arith, l), e) h)

-- ---- an arrow of the root

abbrev root_arrow : Arrow → Found_arrow
root_arrow a = record { place = a.place; scope = []; mark = Unmarked; params = a.params; body = a.body }

itself_first : (a : Arrow) → Contains (arrows (e.Arrow a) Unmarked []) (root_arrow a)
unfolding shape-the_row-Arrow-6 hidden-the_row-Arrow-6 hidden
itself_first a = first_in (root_arrow a) _

arrow_item : (modules : List Named_module) (file : Text) (a : Arrow) → item_root modules file (e.Arrow a) ≡ Holds (Closure (site_of modules file a.place) end false)
unfolding shape-the_row-Arrow-6 hidden-the_row-Arrow-6 hidden
arrow_item modules file a = refl

those_none : (xs : List Text) → those_of [] xs ≡ []
those_none [] = refl
those_none (x ∷ xs) = those_none xs

none_captured : (a : Arrow) → captures_of (root_arrow a) ≡ []
none_captured a = ap (each_once []) (those_none (free_of (root_arrow a)))

nth_is : (xs : List Found_arrow) (k : ℕ) (d : Found_arrow) → k < length xs → nth_arrow xs k ≡ get_or xs k d
nth_is [] k d l = absurd (omega (arith, l))
nth_is (x ∷ xs) zero d l = refl
nth_is (x ∷ xs) (suc k) d l = nth_is xs k d (omega (arith, l))

-- ---- calls

post_is : (callee : Text) (links : List Link) → is_item (e.Post (e.Name callee) links) ≡ (is_made (called_kind (Some callee) (called (hidden-the_row-Link-5 links))) || false || false)
unfolding shape-the_row-Expr-0 hidden-the_row-Expr-0 hidden
post_is callee links = refl

post_made : (i : Item) (callee : Text) (links : List Link) → i.init ≡ e.Post (e.Name callee) links → IsTrue (is_item i.init) → (is_made (called_kind (Some callee) (called (hidden-the_row-Link-5 links))) || false || false) ≡ true
post_made i callee links is h = sym (post_is callee links) ∙ ap is_item (sym is) ∙ h

post_kind : (callee : Text) (links : List Link) → kind_of_value (e.Post (e.Name callee) links) ≡ called_kind (Some callee) (called (hidden-the_row-Link-5 links))
unfolding shape-the_row-Expr-0 hidden-the_row-Expr-0 hidden
post_kind callee links = refl

post_handed : (callee : Text) (links : List Link) → handed (e.Post (e.Name callee) links) ≡ handed_in (call_mark (Expr.Name callee)) (called (hidden-the_row-Link-5 links))
unfolding shape-the_row-Expr-0 hidden-the_row-Expr-0 hidden
post_handed callee links = refl

post_kinds : (callee : Text) (links : List Link) → lifting.kinds (e.Post (e.Name callee) links) lifting.Unmarked ≡ lifting.link_kinds (hidden-the_row-Link-5 links) (lifting.place_of_name callee)
unfolding shape-the_row-Expr-0 hidden-the_row-Expr-0 hidden
post_kinds callee links = refl

component_place : (callee : Text) → same_text callee (codes "component$") ≡ true → lifting.place_of_name callee ≡ lifting.For Component
component_place callee h = ap lifting.place_of_name ((bytes_eq-Decides callee (codes "component$")).0 h)

marked_dollar : (a : Found_arrow) → a.mark ≡ Marked → is_dollar a ≡ true
marked_dollar a h = ap (λ m. elim m as (λ y. Bool) [ Unmarked ↦ false | _ ↦ true ]) h

module _ (known : Known) (m : NamedModule) (tells : Tells known m) (d : Derived m.module) (sourced : All (λ i. IsSource i.from) m.module.imports)
    (modules : List Named_module) (first : module_of modules m.name ≡ m.module) where
  abbrev all : List Found_arrow
  all = item_arrows m.module.items

  -- the arrow at its place
  record Placed_so (a : Found_arrow) : Type 0 where
    dollar : (site_of modules m.name a.place).dollar ≡ is_dollar a
    code : arrow_of modules (site_of modules m.name a.place) ≡ a

  placed_so : (a : Found_arrow) → Contains all a → Placed_so a
  placed_so a (k, l, e) = record { dollar = ap (λ p. (site_of modules m.name p).dollar) (sym place) ∙ dollar; code = ap (λ p. arrow_of modules (site_of modules m.name p)) (sym place) ∙ code }
    where
      same : nth_arrow all k ≡ a
      same = nth_is all k a l ∙ e

      place : k ≡ a.place
      place = sym (sites.placed m.name m.module d k l) ∙ ap (λ x. x.place) same

      there : Known_there modules m.name k (entry_of m.name (take k all) (nth_arrow all k))
      there = sites.inside m.name m.module d modules first k l

      dollar : (site_of modules m.name k).dollar ≡ is_dollar a
      dollar = ap (λ s. s.dollar) there.site ∙ ap is_dollar same

      code : arrow_of modules (site_of modules m.name k) ≡ a
      code = ap (arrow_of modules) there.site ∙ sites.arrow_there m.name m.module d modules first k l ∙ same

  known_site : (place : ℕ) → site_of modules m.name place ≡ site_seen (site_at known place)
  known_site place = (subst (Known_there modules m.name place) (sym (λ i. get_or (tells.names i) place (tells.elsewhere i))) (sites.known_there m.name m.module d modules first place)).site

  component_of : (callee : Text) (x : Expr) → same_text callee (codes "component$") ≡ true → lifted_root (called_item modules m.name callee x) ≡ Shows (Lifted_component (symbol_of (site_of modules m.name (place_of x))))
  component_of callee x h = ap (λ b. lifted_root (elim b as (λ y. P.Root) [ true ↦ Shows (M.Component (site_of modules m.name (place_of x))) | false ↦ elim (same_text callee (codes "componentQrl")) as (λ y. P.Root) [ true ↦ Shows (Lifted_component (symbol_named x)) | false ↦ Holds (Words (text_in x)) ] ])) h

  context_of : (callee : Text) (x : Expr) → same_text callee (codes "component$") ≡ false → same_text callee (codes "componentQrl") ≡ false → lifted_root (called_item modules m.name callee x) ≡ Holds (Words (text_in x))
  context_of callee x h g =
      ap (λ b. lifted_root (elim b as (λ y. P.Root) [ true ↦ Shows (M.Component (site_of modules m.name (place_of x))) | false ↦ elim (same_text callee (codes "componentQrl")) as (λ y. P.Root) [ true ↦ Shows (Lifted_component (symbol_named x)) | false ↦ Holds (Words (text_in x)) ] ])) h
      ∙ ap (λ b. lifted_root (elim b as (λ y. P.Root) [ true ↦ Shows (Lifted_component (symbol_named x)) | false ↦ Holds (Words (text_in x)) ])) g

  -- ---- what each kind of root means

  pub means : (i : Item) → Contains m.module.items i → IsTrue (is_item i.init) → (r : Root) → IsRoot known i.init r → (at name : Text) → (captured_program_of modules).root at name ≡ lifted_root (item_root modules m.name i.init)
      → Means (captured_program_of modules) at name r
  means i c formed (Root.Fn f) (is, of, none, task) at name h = record {
    is = h ∙ ap lifted_root (ap (item_root modules m.name) is ∙ arrow_item modules m.name f.arrow) ∙ ap (λ t. Holds (Closure (site_of modules t f.arrow.place) end false)) (sym (file_is known m tells d sourced modules first f of));
    plain = ap (λ t. (site_of modules t f.arrow.place).dollar) (file_is known m tells d sourced modules first f of) ∙ placed.dollar;
    captures = none;
    stands = stands_for known m tells d sourced modules first f of (code_at modules (site_of modules f.file f.arrow.place)) (root_arrow f.arrow)
        (ap (λ t. code_at modules (site_of modules t f.arrow.place)) (file_is known m tells d sourced modules first f of) ∙ ap (code_from m.name) placed.code) own;
  }
    where
      placed : Placed_so (root_arrow f.arrow)
      placed = placed_so (root_arrow f.arrow) (item_listed m.module.items i (root_arrow f.arrow) c (subst (λ x. Contains (arrows x Unmarked []) (root_arrow f.arrow)) (sym is) (itself_first f.arrow)))

      own : code_of f ≡ code_from m.name (root_arrow f.arrow)
      own = λ j. record { file = file_is known m tells d sourced modules first f of j; captures = (none ∙ sym (none_captured f.arrow)) j; task = task j; params = f.arrow.params; body = f.arrow.body }
  means i c formed (Root.Literal v) (seen, is) at name h = h ∙ ap lifted_root (is modules m.name) ∙ ap Holds (sym (seen (captures_in (captured_program_of modules))))
  means i c formed (Root.Context id) (callee, links, is, (other, text)) at name h = h ∙ ap lifted_root (ap (item_root modules m.name) is ∙ item_called modules m.name callee links)
      ∙ context_of callee (first_of_links links) other (none_built callee (hidden-the_row-Link-5 links) (post_made i callee links is formed)) ∙ ap (λ t. Holds (Words t)) (sym text)
  means i c formed (Root.Component symbol) (callee, links, is, (same, spelled)) at name h = h ∙ ap lifted_root (ap (item_root modules m.name) is ∙ item_called modules m.name callee links)
      ∙ component_of callee (first_of_links links) same ∙ ap (λ s. Shows (Lifted_component (symbol_of s))) (known_site (place_of (first_of_links links))) ∙ ap (λ t. Shows (Lifted_component t)) (sym spelled)

-- ---- components are told as such

module _ (modules : List Named_module) (accepted : Accepted modules) (known : Known) (m : NamedModule) (tells : Tells known m) (d : Derived m.module) (sourced : All (λ i. IsSource i.from) m.module.imports)
    (first : module_of modules m.name ≡ m.module) (components : (i : Item) → Contains m.module.items i → kind_of_value i.init ≡ A_component → DollarSite m.module.items i.init) where
  pub component_told : (i : Item) → Contains m.module.items i → IsTrue (is_item i.init) → (callee : Text) (links : List Link) → i.init ≡ e.Post (e.Name callee) links
      → same_text callee (codes "component$") ≡ true → (symbol : Text) → symbol ≡ symbol_text (site_at known (place_of (first_of_links links))).«module» (site_at known (place_of (first_of_links links))).number
      → kind_at modules (site_spelled symbol) ≡ For_component
  component_told i c formed callee links is same symbol spelled =
      ap (λ t. kind_at modules (site_spelled t)) (spelled ∙ ap symbol_of (sym site)) ∙ ap (kind_at modules) (spelled_back (site_of modules m.name (place_of (first_of_links links))) lifts)
      ∙ ap (λ x. nth_kind (lifting.item_kinds x.items) ((site_of modules m.name (place_of (first_of_links links))).number - 1)) first ∙ ap (nth_kind (lifting.item_kinds m.module.items)) number ∙ kept.kind'
    where
      site_found : DollarSite m.module.items i.init
      site_found = components i c (ap kind_of_value is ∙ post_kind callee links ∙ component_called callee (hidden-the_row-Link-5 links) (post_made i callee links is formed) same)

      handed_so : Handed_row (hidden-the_row-Link-5 links) site_found.arrow
      handed_so = handed_row (hidden-the_row-Link-5 links) (call_mark (Expr.Name callee)) site_found.arrow (sym (post_handed callee links) ∙ ap handed (sym is) ∙ site_found.handed')

      place : place_of (first_of_links links) ≡ site_found.arrow.place
      place = ap place_of (sym (first_links links)) ∙ handed_so.place

      kept : Kept_kind m.module.items site_found.arrow For_component
      kept = first_kind m.module.items i site_found.arrow (inside site_found.arrow) Component handed_so.rest c site_found.whole (marked_dollar site_found.arrow site_found.marked)
          (ap (λ x. lifting.kinds x lifting.Unmarked) is ∙ post_kinds callee links ∙ ap (lifting.link_kinds (hidden-the_row-Link-5 links)) (component_place callee same) ∙ handed_so.kinds')

      site : site_of modules m.name (place_of (first_of_links links)) ≡ site_seen (site_at known (place_of (first_of_links links)))
      site = known_site known m tells d sourced modules first (place_of (first_of_links links))

      listed : Contains (item_arrows (module_of modules m.name).items) site_found.arrow
      listed = subst (λ x. Contains (item_arrows x.items) site_found.arrow) (sym first) site_found.listed

      own : site_of modules m.name (place_of (first_of_links links)) ≡ record { file = m.name; number = number_at (of_kind (is_dollar site_found.arrow) (item_arrows (module_of modules m.name).items)) site_found.arrow.place; dollar = is_dollar site_found.arrow }
      own = ap (site_of modules m.name) place ∙ found.site_is modules accepted m.name site_found.arrow listed

      lifts : lifts_in_source (site_of modules m.name (place_of (first_of_links links))) ≡ true
      lifts = ap (λ p. lifts_in_source (site_of modules m.name p)) place
          ∙ (found.found_there modules accepted m.name site_found.arrow listed).dollar (ap (λ t. t.dollar) (found.site_is modules accepted m.name site_found.arrow listed) ∙ marked_dollar site_found.arrow site_found.marked)

      less : (n : ℕ) → n + 1 - 1 ≡ n
      less n = omega arith

      number : (site_of modules m.name (place_of (first_of_links links))).number - 1 ≡ kept.number
      number = ap (λ t. t.number - 1) own
          ∙ ap (λ b. number_at (of_kind b (item_arrows (module_of modules m.name).items)) site_found.arrow.place - 1) (marked_dollar site_found.arrow site_found.marked)
          ∙ ap (λ x. number_at (of_kind true (item_arrows x.items)) site_found.arrow.place - 1) first
          ∙ ap (λ x. number_at (of_kind true (item_arrows m.module.items)) x.place - 1) (sym kept.arrow)
          ∙ ap (λ n. n - 1) (names.kinds_are_numbered Source d.bytes m.module d.derives true kept.number kept.below).1 ∙ less kept.number
