-- What is told of a module's text stands for what the modules mean, whatever files come later.
use Rattle.std.specs.Prelude.{◌≡◌, refl, ℕ, suc, ◌<◌, Bool, true, false, List, length, All, Contains, Option, Some, None, get_or, slice_get, IsTrue}
use Rattle.std.specs.BTreeMap.{get_by_text}
use Rattle.std.proofs.Common.{sym, ◌∙◌, ap, subst, arith}
use Rattle.std.proofs.lemmas.List.{length-map, get_or-map}
use Rattle.std.proofs.lemmas.List.Elements.{All-contains, All-get_or}
use Rattle.qk_ast.specs.declared.Form.TheVariants.{Source}
use Rattle.qk_ast.specs.declared.Item.{Item}
use Rattle.qk_ast.specs.Texts.{Text, same_text}
use Rattle.qk_ast.specs.Sources.{Named_module, module_of}
use Rattle.qk_ast.specs.Arrows.{item_arrows, of_kind, nth_arrow}
use Rattle.qk_ast.specs.Placing.{A_component, kind_of_value, is_item, root_kind}
use Rattle.qk_meaning.specs.Sites.{code_from, code_of as code_at}
use Rattle.qk_meaning.specs.Roots.{found_item}
use Rattle.qk_meaning.specs.Readings.{lifted_root}
use Rattle.qk_names.specs.Laws.{KeepsRules, DollarSite}
use Rattle.qk_names.proofs.Laws as names
use Rattle.qk_modules.specs.declared.modules.NamedModule.{NamedModule}
use Rattle.qk_application.specs.declared.application.Application.{Application}
use Rattle.qk_application.specs.Accepting.{named_module}
use Rattle.qk_code.specs.declared.func.Func.{Func}
use Rattle.qk_code.specs.declared.func.Root.{Root}
use Rattle.qk_code.specs.Sources.{Sources, Extends, reading}
use Rattle.qk_code.specs.Standing.{StandsFor, Stands, HasKind, code_of}
use Rattle.qk_source_alike.specs.Accepted.{Derived}
use Rattle.qk_whole.specs.declared.files.File.{File}
use Rattle.qk_whole.specs.Telling.{IsKind}
use Rattle.qk_whole.specs.Items.{first_item, IsRoot, IsNamed}
use Rattle.qk_whole.specs.Filing.{IsFileOf}
use Rattle.qk_whole.specs.Taking.{named, sources_of, IsSource, IsAccepted}
use Rattle.qk_whole.specs.Holding.{site_with, item_of, by_origin, Holds_kind, Holds_item, Holds_file}
use Rattle.qk_whole.proofs.Known_sites.{nth_code}
use Rattle.qk_whole.proofs.Module_found.{module_later, itself}
use Rattle.qk_whole.proofs.Module_functions.{Nth, nth, stands_for, root_so}
use Rattle.qk_whole.proofs.Module_roots.{item_by, found_first, first_listed, means, component_told}

module _ (a : Application) (accepted : IsAccepted a) (at : ℕ) (m : NamedModule) (below : at < length a.modules.list) (here : m ≡ get_or a.modules.list at m)
    (apart : (k : ℕ) → k < at → same_text (get_or a.modules.list k m).name m.name ≡ false) (c : File) (f : IsFileOf m c) where
  abbrev ms : List NamedModule
  ms = a.modules.list

  contained : Contains (named a.modules.list) (named_module m)
  contained = (at, (let n = length-map a.modules.list named_module in omega (arith, n, below)), get_or-map named_module a.modules.list at m (named_module m) below ∙ ap named_module (sym here))

  d : Derived m.module
  d = All-contains (λ (x : Named_module). Derived x.1) (named a.modules.list) (named_module m) accepted.modules.derived contained

  sourced : All (λ i. IsSource i.from) m.module.imports
  sourced = subst (λ (x : NamedModule). All (λ i. IsSource i.from) x.module.imports) (sym here) (All-get_or (λ (x : NamedModule). All (λ i. IsSource i.from) x.module.imports) a.modules.list at m below accepted.sources)

  rules : KeepsRules Source m.name (root_kind (named a.modules.list) m.module) m.module
  rules = names.accepted_keep_rules (named a.modules.list) accepted.modules.kept (named_module m) contained

  formed : (i : Item) → Contains m.module.items i → IsTrue (is_item i.init)
  formed i h = (names.items_have_forms m.name (root_kind (named a.modules.list) m.module) m.module rules.1 i h).0

  components : (i : Item) → Contains m.module.items i → kind_of_value i.init ≡ A_component → DollarSite m.module.items i.init
  components = names.component_is_dollar_site m.name (root_kind (named a.modules.list) m.module) m.module rules.1

  first : (later : Sources) → Extends (sources_of a.modules.list) later → module_of later.files m.name ≡ m.module
  first = module_later a.modules.list at m below here apart

  now : module_of (named a.modules.list) m.name ≡ m.module
  now = first (sources_of a.modules.list) (itself (sources_of a.modules.list))

  held_kind : (dollar : Bool) (fs : List Func) → IsKind f.known dollar (item_arrows m.module.items) fs → Holds_kind a.modules.list m.name dollar fs
  held_kind dollar fs k = record { count = count; stand = stand }
    where
      count : length fs ≡ length (of_kind dollar (item_arrows (module_of (named a.modules.list) m.name).items))
      count = sym (length-map fs code_of) ∙ ap length k.codes ∙ length-map (of_kind dollar (item_arrows m.module.items)) (code_from f.known.file) ∙ ap (λ x. length (of_kind dollar (item_arrows x.items))) (sym now)

      stand : (n : ℕ) (g : Func) → slice_get fs n ≡ Some g → StandsFor Source (sources_of a.modules.list) (λ p. p.code (site_with m.name dollar (suc n))) g
      stand n g h later e = go (nth f.known f.known.file fs (of_kind dollar (item_arrows m.module.items)) n g k.codes k.each h)
        where
          go : Nth f.known f.known.file (of_kind dollar (item_arrows m.module.items)) n g → Stands (reading Source later) ((reading Source later).code (site_with m.name dollar (suc n))) g
          go r = stands_for f.known m f.tells d sourced later.files (first later e) g r.of (code_at later.files (site_with m.name dollar (suc n))) (nth_arrow (of_kind dollar (item_arrows m.module.items)) n)
              (nth_code m.name m.module d later.files (first later e) dollar n) (r.code ∙ ap (λ t. code_from t (nth_arrow (of_kind dollar (item_arrows m.module.items)) n)) f.tells.file)

  item_later : (later : Sources) → Extends (sources_of a.modules.list) later → (q : Text) (o : Option Item) → first_item m.module.items q ≡ o → item_of later.files m.name q ≡ item_by later.files m.name o
  item_later later e q o h = ap (λ x. found_item later.files m.name q x.items) (first later e) ∙ found_first later.files m.name q m.module.items ∙ ap (item_by later.files m.name) h

  has_kind : (i : Item) → Contains m.module.items i → (r : Root) → IsRoot f.known i.init r → HasKind (sources_of a.modules.list) r
  has_kind i h (Root.Component symbol) (callee, links, is, (same, spelled)) =
      component_told (named a.modules.list) accepted.modules f.known m f.tells d sourced now components i h (formed i h) callee links is same symbol spelled
  has_kind i h (Root.Fn g) k = tt
  has_kind i h (Root.Literal v) k = tt
  has_kind i h (Root.Context id) k = tt

  held_item : (q : Text) (o : Option Root) (i : Option Item) → first_item m.module.items q ≡ i → IsNamed f.known o i → Holds_item a.modules.list m.name q o
  held_item q (Some r) (Some i) e h = (has_kind i listed r h, λ later x name to k. means f.known m f.tells d sourced later.files (first later x) i listed (formed i listed) r h name to (k ∙ ap lifted_root (item_later later x q (Some i) e)))
    where
      listed : Contains m.module.items i
      listed = first_listed m.module.items q i e
  held_item q None None e h = item_later (sources_of a.modules.list) (itself (sources_of a.modules.list)) q None e
  held_item q (Some r) None e h = absurd h
  held_item q None (Some i) e h = absurd h

  pub held : Holds_file a.modules.list m.name c
  held = record {
    dollars = held_kind true c.functions.dollars f.functions.of_dollars;
    plains = held_kind false c.functions.plains f.functions.of_plains;
    roots = λ q. held_item q (get_by_text c.roots q) (first_item m.module.items q) refl (f.roots q);
    origins = λ q later e. root_so later.files m.name m.module (first later e) sourced q ∙ ap (by_origin later.files m.name q) (sym (f.origins q));
  }
