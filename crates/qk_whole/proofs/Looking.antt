-- What the look-ups of a code answer.
use Rattle.std.specs.Prelude.{◌≡◌, ℕ, ◌≤◌, true, false, List, ◌∷◌, ◌++◌, codes, length, Option, Some, None, IfSome, IfNone, String}
use Rattle.std.specs.Borrow.{Bor}
use Rattle.std.specs.BTreeMap.{BTreeMap, get_by_text}
use Rattle.std.specs.Option.{option_copied}
use Rattle.std.proofs.Common.{sym, ◌∙◌, ap, subst, arith}
use Rattle.std.proofs.Math.Logic.{∥∥₁_elim}
use Rattle.std.proofs.Props.{props}
use Rattle.qk_ast.specs.declared.Form.TheVariants.{Source}
use Rattle.qk_ast.specs.declared.Origin.{Origin}
use Rattle.qk_ast.specs.declared.Origin.TheVariants.{Qwik}
use Rattle.qk_ast.specs.Characters.{number_after}
use Rattle.qk_ast.specs.Texts.{Text, decimal}
use Rattle.qk_ast.specs.Framework.{before_bar, behind_bar, behind_s}
use Rattle.qk_ast.specs.Sources.{Named_module}
use Rattle.qk_meaning.specs.Sites.{code_of as code_at}
use Rattle.qk_meaning.specs.Roots.{root_of}
use Rattle.qk_meaning.specs.Readings.{site_spelled}
use Rattle.qk_modules.specs.declared.modules.NamedModule.{NamedModule}
use Rattle.qk_sites.specs.Symbols.{IsSymbolOf}
use Rattle.qk_sites.proofs.Bars.{before_first_bar, behind_first_bar, name_barless}
use Rattle.qk_sites.proofs.Decimals.{Site_number, site_of_number, number_of_site}
use Rattle.qk_sites.proofs.Spelled.{one}
use Rattle.qk_value.specs.View.{plain_site}
use Rattle.qk_code.specs.declared.func.Func.{Func}
use Rattle.qk_code.specs.declared.func.Root.{Root}
use Rattle.qk_code.specs.Sources.{reading}
use Rattle.qk_code.specs.Standing.{Stands, StandsFor, MeansIn, HasPlain}
use Rattle.qk_whole.specs.declared.files.File.{File}
use Rattle.qk_whole.specs.Numbers.{numbered}
use Rattle.qk_whole.specs.Taking.{named, sources_of}
use Rattle.qk_whole.specs.Holding.{site_with, count_of, item_of, by_origin, Holds_item, Holds_origin, Holds_files, HasSite, NoName}
use Rattle.qk_whole.proofs.Look_ups.{numbered_stands, numbered_within, numbered_past, none_counted, item_held, item_missed, root_missed, item_means, item_lacks, framework_lacks}
use Rattle.qk_whole.proofs.One_proof.{stands_for_prop, means_in_prop, holds_item_prop, no_name_prop}

-- ---- answers on loan

pub some_by : {X : Type 0} {P : X → Type 0} (r : Option (Bor X)) (o : Option X) → option_copied r ≡ o → ((x : X) → o ≡ Some x → P x) → IfSome r (λ x. P x.now)
some_by (Some x) o e h = h x.now (sym e)
some_by None o e h = tt

pub none_by : {X : Type 0} {Q : Type 0} (r : Option (Bor X)) (o : Option X) → option_copied r ≡ o → (o ≡ None → Q) → IfNone r Q
none_by (Some x) o e h = tt
none_by None o e h = h (sym e)

pub always_none : {X : Type 0} {Q : Type 0} (r : Option X) → Q → IfNone r Q
always_none (Some x) q = tt
always_none None q = q

-- ---- the site that a symbol spells

spelled_site : (m : Text) (i : ℕ) (text : Text) → IsSymbolOf m i text → site_spelled text ≡ site_with m true i
spelled_site m i text s = λ j. record { file = file j; number = number j; dollar = true }
  where
    file : before_bar text ≡ m
    file = ap before_bar s.spelled ∙ before_first_bar m (115 ∷ decimal i) (name_barless m s.named)

    told : Site_number (decimal i)
    told = number_of_site (decimal i) (site_of_number i s.first s.last)

    again : i ≡ number_after 10 0 (decimal i)
    again = (one m m i (number_after 10 0 (decimal i)) text s (record { named = s.named; first = told.low; last = told.high; spelled = s.spelled ∙ ap (λ ds. m ++ (codes "_s" ++ ds)) (sym told.spelled) })).1

    number : number_after 10 0 (behind_s (behind_bar text)) ≡ i
    number = ap (λ t. number_after 10 0 (behind_s (behind_bar t))) s.spelled ∙ ap (λ t. number_after 10 0 (behind_s t)) (behind_first_bar m (115 ∷ decimal i) (name_barless m s.named)) ∙ sym again

module _ {Y : Type 0} (ms : List NamedModule) (files : BTreeMap (String Y) File) (right : ∥ Holds_files ms (length ms) files ∥₁) where
  -- ---- functions

  pub plain_some : (file : Text) (number : ℕ) (there : File) → get_by_text files file ≡ Some there → (f : Func) → numbered there.functions.plains number ≡ Some f → StandsFor Source (sources_of ms) (λ p. p.code (plain_site file number)) f
  plain_some file number there e f h = ∥∥₁_elim right (stands_for_prop Source (sources_of ms) (λ p. p.code (plain_site file number)) f) (λ holds. numbered_stands ms file false there.functions.plains (holds.each file there e).plains number f h)

  pub plain_has : (file : Text) (number : ℕ) (there : File) → get_by_text files file ≡ Some there → (f : Func) → numbered there.functions.plains number ≡ Some f → HasPlain Source (sources_of ms) file number
  plain_has file number there e f h = ∥∥₁_elim right (hlevel props) (λ holds. numbered_within ms file false there.functions.plains (holds.each file there e).plains number f h)

  pub plain_none : (file : Text) (number : ℕ) (there : File) → get_by_text files file ≡ Some there → numbered there.functions.plains number ≡ None → HasPlain Source (sources_of ms) file number → ⊥
  plain_none file number there e h has = ∥∥₁_elim right (hlevel props) (λ holds. numbered_past ms file false there.functions.plains (holds.each file there e).plains number h has.0 has.1)

  pub plain_absent : (file : Text) (number : ℕ) → get_by_text files file ≡ None → HasPlain Source (sources_of ms) file number → ⊥
  plain_absent file number e has = ∥∥₁_elim right (hlevel props) (λ holds. let n = none_counted ms files holds file false e in omega (arith, n, has.0, has.1))

  pub symbol_some : (symbol file : Text) (number : ℕ) → IsSymbolOf file number symbol → (there : File) → get_by_text files file ≡ Some there → (f : Func) → numbered there.functions.dollars number ≡ Some f
      → StandsFor Source (sources_of ms) (λ p. p.lifted symbol) f
  symbol_some symbol file number s there e f h = ∥∥₁_elim right (stands_for_prop Source (sources_of ms) (λ p. p.lifted symbol) f)
      (λ holds later x. subst (λ site. Stands (reading Source later) (code_at later.files site) f) (sym (spelled_site file number symbol s)) (numbered_stands ms file true there.functions.dollars (holds.each file there e).dollars number f h later x))

  pub symbol_none : (symbol file : Text) (number : ℕ) → IsSymbolOf file number symbol → (there : File) → get_by_text files file ≡ Some there → numbered there.functions.dollars number ≡ None → HasSite (named ms) symbol → ⊥
  symbol_none symbol file number s there e h has = ∥∥₁_elim right (hlevel props)
      (λ holds. numbered_past ms file true there.functions.dollars (holds.each file there e).dollars number h s.first (subst (λ site. site.number ≤ count_of (named ms) site.file true) (spelled_site file number symbol s) has.1))

  pub symbol_absent : (symbol file : Text) (number : ℕ) → IsSymbolOf file number symbol → get_by_text files file ≡ None → HasSite (named ms) symbol → ⊥
  symbol_absent symbol file number s e has = ∥∥₁_elim right (hlevel props)
      (λ holds. let n = none_counted ms files holds file true e in let k = subst (λ site. site.number ≤ count_of (named ms) site.file true) (spelled_site file number symbol s) has.1 in let p = s.first in omega (arith, n, k, p))

  -- ---- names

  pub item_there : (file name : Text) (there : File) → get_by_text files file ≡ Some there → (o : Option Root) → get_by_text there.roots name ≡ o → Holds_item ms file name o
  item_there file name there e o h = ∥∥₁_elim right (holds_item_prop ms file name o) (λ holds. subst (Holds_item ms file name) h (item_held ms files holds file name there e))

  pub item_absent : (file name : Text) → get_by_text files file ≡ None → Holds_item ms file name None
  item_absent file name e = ∥∥₁_elim right (holds_item_prop ms file name None) (λ holds. item_missed ms files holds file name e)

  pub name_absent : (file name : Text) → get_by_text files file ≡ None → NoName (root_of (named ms) file name)
  name_absent file name e = ∥∥₁_elim right (no_name_prop (root_of (named ms) file name)) (λ holds. root_missed ms files holds file name e)

  module _ (file name : Text) (there : File) (e : get_by_text files file ≡ Some there) (o : Option Origin) (h : get_by_text there.origins name ≡ o) where
    pub name_some : (at own : Text) → ((modules : List Named_module) → by_origin modules file name o ≡ item_of modules at own) → (r : Option (Bor Root)) → Holds_item ms at own (option_copied r) → IfSome r (λ r. MeansIn Source (sources_of ms) file name r.now)
    name_some at own is None k = tt
    name_some at own is (Some r) k = ∥∥₁_elim right (means_in_prop Source (sources_of ms) file name r.now)
        (λ holds. (item_means ms file name at own o r.now (subst (Holds_origin ms file name) h ((holds.each file there e).origins name)) is k).0)

    pub name_none : (at own : Text) → ((modules : List Named_module) → by_origin modules file name o ≡ item_of modules at own) → (r : Option (Bor Root)) → Holds_item ms at own (option_copied r) → IfNone r (NoName (root_of (named ms) file name))
    name_none at own is (Some r) k = tt
    name_none at own is None k = ∥∥₁_elim right (no_name_prop (root_of (named ms) file name))
        (λ holds. item_lacks ms file name at own o (subst (Holds_origin ms file name) h ((holds.each file there e).origins name)) is k)

  pub name_framework : (file name : Text) (there : File) → get_by_text files file ≡ Some there → (own : Text) → get_by_text there.origins name ≡ Some (Qwik own) → NoName (root_of (named ms) file name)
  name_framework file name there e own h = ∥∥₁_elim right (no_name_prop (root_of (named ms) file name))
      (λ holds. framework_lacks ms file name own (subst (Holds_origin ms file name) h ((holds.each file there e).origins name)))
