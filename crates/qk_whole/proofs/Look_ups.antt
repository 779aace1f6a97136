-- What is looked up in the files stands for what the modules have.
use Rattle.std.specs.Prelude.{◌≡◌, ℕ, zero, suc, ◌-◌, ◌<◌, ◌≤◌, Bool, List, [], ◌∷◌, length, Option, Some, None, slice_get, String}
use Rattle.std.specs.BTreeMap.{BTreeMap, get_by_text}
use Rattle.std.proofs.Common.{sym, ◌∙◌, ap, subst, arith}
use Rattle.qk_ast.specs.declared.Form.TheVariants.{Source}
use Rattle.qk_ast.specs.declared.Origin.{Origin}
use Rattle.qk_ast.specs.declared.Origin.TheVariants.{Qwik}
use Rattle.qk_ast.specs.Texts.{Text}
use Rattle.qk_ast.specs.Sources.{Named_module, module_of, empty_module}
use Rattle.qk_ast.specs.Arrows.{item_arrows, of_kind}
use Rattle.qk_meaning.specs.Index.{is_for_task}
use Rattle.qk_meaning.specs.Roots.{root_of, found_import, found_item}
use Rattle.qk_meaning.specs.Readings.{site_spelled, lifted_root}
use Rattle.qk_modules.specs.declared.modules.NamedModule.{NamedModule}
use Rattle.qk_code.specs.declared.func.Func.{Func}
use Rattle.qk_code.specs.declared.func.Root.{Root}
use Rattle.qk_code.specs.Standing.{StandsFor, MeansIn, HasKind}
use Rattle.qk_whole.specs.declared.files.File.{File}
use Rattle.qk_whole.specs.Numbers.{numbered}
use Rattle.qk_whole.specs.Taking.{named, sources_of}
use Rattle.qk_whole.specs.Holding.{site_with, count_of, item_of, by_origin, Holds_kind, Holds_item, Holds_origin, Holds_files, NoName}
use Rattle.qk_whole.proofs.Kinds_told.{tasks_told}
use Rattle.qk_whole.proofs.Module_found.{itself, no_module}

-- ---- numbers

number_ends : {X : Type 0} (xs : List X) (n : ℕ) → slice_get xs n ≡ None → length xs ≤ n
number_ends [] n h = omega arith
number_ends (x ∷ xs) zero h = absurd (some_none h)
  where
    some_none : Some x ≡ None → ⊥
    some_none e = cc
number_ends (x ∷ xs) (suc n) h = let k = number_ends xs n h in omega arith

number_there : {X : Type 0} (xs : List X) (n : ℕ) (x : X) → slice_get xs n ≡ Some x → n < length xs
number_there [] n x h = absurd (none_some h)
  where
    none_some : None ≡ Some x → ⊥
    none_some e = cc
number_there (y ∷ xs) zero x h = omega arith
number_there (y ∷ xs) (suc n) x h = let k = number_there xs n x h in omega arith

module _ (ms : List NamedModule) (file : Text) (dollar : Bool) (fs : List Func) (holds : Holds_kind ms file dollar fs) where
  pub numbered_stands : (number : ℕ) (f : Func) → numbered fs number ≡ Some f → StandsFor Source (sources_of ms) (λ p. p.code (site_with file dollar number)) f
  numbered_stands zero f h = absurd (none_some h)
    where
      none_some : None ≡ Some f → ⊥
      none_some e = cc
  numbered_stands (suc n) f h = holds.stand n f h

  pub numbered_within : (number : ℕ) (f : Func) → numbered fs number ≡ Some f → (0 < number) × (number ≤ count_of (named ms) file dollar)
  numbered_within zero f h = absurd (none_some h)
    where
      none_some : None ≡ Some f → ⊥
      none_some e = cc
  numbered_within (suc n) f h = let l = number_there fs n f h in let c = holds.count in (omega arith, omega (arith, l, c))

  pub numbered_past : (number : ℕ) → numbered fs number ≡ None → 0 < number → number ≤ count_of (named ms) file dollar → ⊥
  numbered_past zero h p l = omega (arith, p)
  numbered_past (suc n) h p l = let e = number_ends fs n h in let c = holds.count in omega (arith, e, c, l)

-- ---- files

module _ {Y : Type 0} (ms : List NamedModule) (files : BTreeMap (String Y) File) (holds : Holds_files ms (length ms) files) where
  pub no_file : (file : Text) → get_by_text files file ≡ None → module_of (named ms) file ≡ empty_module
  no_file file h = no_module ms file (holds.all file h)

  pub none_counted : (file : Text) (dollar : Bool) → get_by_text files file ≡ None → count_of (named ms) file dollar ≡ 0
  none_counted file dollar h = ap (λ m. length (of_kind dollar (item_arrows m.items))) (no_file file h)

  pub item_held : (file name : Text) (f : File) → get_by_text files file ≡ Some f → Holds_item ms file name (get_by_text f.roots name)
  item_held file name f h = (holds.each file f h).roots name

  pub item_missed : (file name : Text) → get_by_text files file ≡ None → Holds_item ms file name None
  item_missed file name h = ap (λ m. found_item (named ms) file name m.items) (no_file file h)

  pub root_missed : (file name : Text) → get_by_text files file ≡ None → NoName (root_of (named ms) file name)
  root_missed file name h = subst NoName (sym (ap (λ m. found_import (named ms) file m.imports m.items name) (no_file file h))) tt

-- ---- names

-- a name that means this item
pub item_means : (ms : List NamedModule) (file name at own : Text) (o : Option Origin) (r : Root) → Holds_origin ms file name o → ((modules : List Named_module) → by_origin modules file name o ≡ item_of modules at own)
    → Holds_item ms at own (Some r) → MeansIn Source (sources_of ms) file name r × HasKind (sources_of ms) r
item_means ms file name at own o r origin is h = (λ later e. h.1 later e file name (ap lifted_root (origin later e ∙ is later.files)), h.0)

pub item_lacks : (ms : List NamedModule) (file name at own : Text) (o : Option Origin) → Holds_origin ms file name o → ((modules : List Named_module) → by_origin modules file name o ≡ item_of modules at own)
    → Holds_item ms at own None → NoName (root_of (named ms) file name)
item_lacks ms file name at own o origin is h = subst NoName (sym (origin (sources_of ms) (itself (sources_of ms)) ∙ is (named ms) ∙ h)) tt

pub framework_lacks : (ms : List NamedModule) (file name own : Text) → Holds_origin ms file name (Some (Qwik own)) → NoName (root_of (named ms) file name)
framework_lacks ms file name own origin = subst NoName (sym (origin (sources_of ms) (itself (sources_of ms)))) tt

-- ---- kinds

pub kind_told : (ms : List NamedModule) (symbol : Text) (f : Func) → StandsFor Source (sources_of ms) (λ p. p.lifted symbol) f → f.task ≡ is_for_task ((sources_of ms).index.kind_of symbol)
kind_told ms symbol f h = sym (ap (λ c. c.task) (h (sources_of ms) (itself (sources_of ms))).is) ∙ sym (tasks_told (module_of (named ms) (site_spelled symbol).file).items ((site_spelled symbol).number - 1))
