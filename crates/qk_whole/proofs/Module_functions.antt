-- The functions of a module stand for its arrows, in whatever modules it is the first of its name.
use Rattle.std.specs.Prelude.{◌≡◌, refl, ℕ, zero, suc, ◌||◌, Bool, true, false, List, [], ◌∷◌, ◌++◌, codes, length, map, All, Option, Some, None, get_or, slice_get}
use Rattle.std.proofs.Common.{sym, ◌∙◌, ap, subst, arith}
use Rattle.std.proofs.lemmas.Bool.{false≢true}
use Rattle.std.proofs.lemmas.List.Elements.{All-head, All-tail}
use Rattle.std.proofs.lemmas.Slice.Eq.{bytes_eq-Decides}
use Rattle.qk_ast.specs.declared.Import.{Import}
use Rattle.qk_ast.specs.declared.Imported.{Imported}
use Rattle.qk_ast.specs.declared.Item.{Item}
use Rattle.qk_ast.specs.declared.Module.{Module}
use Rattle.qk_ast.specs.declared.Origin.{Origin}
use Rattle.qk_ast.specs.declared.Origin.TheVariants.{Qwik, Module as Of_module}
use Rattle.qk_ast.specs.declared.Expr.{Expr, more_of-Expr, more_of-Arrow}
use Rattle.qk_ast.specs.Texts.{Text, same_text}
use Rattle.qk_ast.specs.Names.{is_listed}
use Rattle.qk_ast.specs.Framework.{framework}
use Rattle.qk_ast.specs.Sources.{Named_module, module_of, source_module, is_module_source}
use Rattle.qk_ast.specs.Arrows.{Found_arrow, item_arrows, nth_arrow}
use Rattle.qk_ast.specs.Uses.{captures_of}
use Rattle.qk_captures.specs.Capturing.{captured_after}
use Rattle.qk_meaning.specs.Value as M
use Rattle.qk_meaning.specs.Value.{Site, Fields, Lifted, Closure, Component, Lifted_component, Words, end}
use Rattle.qk_meaning.specs.Parts.{packed, picked}
use Rattle.qk_meaning.specs.Program.{Root, Framework, Holds, Shows, Unknown, Code, symbol_of}
use Rattle.qk_meaning.specs.Sites.{site_of, code_from, arrow_of}
use Rattle.qk_meaning.specs.Roots.{found_item, imported as imported_root, found_import, root_of, item_root, called_item, first_argument, place_of, text_in, symbol_named}
use Rattle.qk_meaning.specs.Readings.{scope_kept, captured_program_of, lifted_root}
use Rattle.qk_modules.specs.declared.modules.NamedModule.{NamedModule}
use Rattle.qk_modules.specs.Importing.{origin_of, imported_by, imported}
use Rattle.qk_value.specs.View.{is_distinct}
use Rattle.qk_code.specs.declared.func.Func.{Func}
use Rattle.qk_code.specs.Standing.{code_of, site_seen, keeping, known_at, framework_by, framework_in, Knows, Stands}
use Rattle.qk_source_alike.specs.Accepted.{Derived}
use Rattle.qk_whole.specs.declared.known.Known.{Known}
use Rattle.qk_whole.specs.Elsewhere.{elsewhere_of}
use Rattle.qk_whole.specs.Telling.{Tells, IsOf}
use Rattle.qk_whole.specs.Origins.{origin_in}
use Rattle.qk_whole.specs.Taking.{IsSource}
use Rattle.qk_whole.specs.Holding.{item_of, by_origin}
use Rattle.qk_whole.proofs.Known_sites.{Known_there, known_there, distinct}

-- ---- origins of names

abbrev pub framework_of : Option Origin → Option Text
framework_of None = None
framework_of (Some o) = framework_by o

is_in : (es : List Imported) (q : Text) → framework_in es q ≡ framework_of (origin_in es q)
is_in [] q = refl
is_in (e ∷ rest) q = go (same_text e.name q) (is_in rest q)
  where
    go : (b : Bool) → framework_in rest q ≡ framework_of (origin_in rest q)
        → elim b as (λ y. Option Text) [ true ↦ framework_by e.origin | false ↦ framework_in rest q ] ≡ framework_of (elim b as (λ y. Option Origin) [ true ↦ Some e.origin | false ↦ origin_in rest q ])
    go true h = refl
    go false h = h

-- of the names of one import
names_in : (source : Text) (names : List Text) (es : List Imported) (q : Text) → origin_in (imported_by source names ++ es) q ≡ elim (is_listed q names) as (λ y. Option Origin) [ true ↦ Some (origin_of source q) | false ↦ origin_in es q ]
names_in source [] es q = refl
names_in source (n ∷ names) es q = go (same_text n q) refl (names_in source names es q)
  where
    go : (b : Bool) → same_text n q ≡ b → origin_in (imported_by source names ++ es) q ≡ elim (is_listed q names) as (λ y. Option Origin) [ true ↦ Some (origin_of source q) | false ↦ origin_in es q ]
        → elim b as (λ y. Option Origin) [ true ↦ Some (origin_of source n) | false ↦ origin_in (imported_by source names ++ es) q ]
        ≡ elim (elim b as (λ y. Bool) [ true ↦ true | false ↦ is_listed q names ]) as (λ y. Option Origin) [ true ↦ Some (origin_of source q) | false ↦ origin_in es q ]
    go true e h = ap (λ t. Some (origin_of source t)) ((bytes_eq-Decides n q).0 e)
    go false e h = h

either : (b c : Bool) → (b || c) ≡ true → b ≡ false → c ≡ true
either true c h e = absurd (false≢true (sym e))
either false c h e = h

no_module : (source : Text) → same_text source framework ≡ true → is_module_source source ≡ false
no_module source e = ap is_module_source ((bytes_eq-Decides source framework).0 e)

module _ (modules : List Named_module) (file : Text) where
  imported_so : (source q : Text) → IsSource source → imported_root modules source q ≡ by_origin modules file q (Some (origin_of source q))
  imported_so source q h = go (same_text source framework) (is_module_source source) (no_module source) (either (same_text source framework) (is_module_source source) h)
    where
      go : (b c : Bool) → (b ≡ true → c ≡ false) → (b ≡ false → c ≡ true)
          → elim b as (λ y. Root) [ true ↦ Framework q | false ↦ item_of modules (source_module source) q ]
          ≡ by_origin modules file q (Some (elim c as (λ y. Origin) [ true ↦ Of_module (source_module source) q | false ↦ Qwik q ]))
      go true false h g = refl
      go false true h g = refl
      go true true h g = absurd (false≢true (sym (h refl)))
      go false false h g = absurd (false≢true (g refl))

  import_so : (imports : List Import) (q : Text) → All (λ i. IsSource i.from) imports → found_import modules file imports (module_of modules file).items q ≡ by_origin modules file q (origin_in (imported imports) q)
  import_so [] q h = refl
  import_so (i ∷ rest) q h = go (is_listed q i.names) (import_so rest q (All-tail (λ i. IsSource i.from) i rest h)) ∙ ap (by_origin modules file q) (sym (names_in i.from i.names (imported rest) q))
    where
      go : (b : Bool) → found_import modules file rest (module_of modules file).items q ≡ by_origin modules file q (origin_in (imported rest) q)
          → elim b as (λ y. Root) [ true ↦ imported_root modules i.from q | false ↦ found_import modules file rest (module_of modules file).items q ]
          ≡ by_origin modules file q (elim b as (λ y. Option Origin) [ true ↦ Some (origin_of i.from q) | false ↦ origin_in (imported rest) q ])
      go true k = imported_so i.from q (All-head (λ i. IsSource i.from) i rest h)
      go false k = k

  -- what a name of the root means, by its origin
  pub root_so : (m : Module) → module_of modules file ≡ m → All (λ i. IsSource i.from) m.imports → (q : Text) → root_of modules file q ≡ by_origin modules file q (origin_in (imported m.imports) q)
  root_so m e h q = ap (λ (x : Module). found_import modules file x.imports (module_of modules file).items q) e ∙ import_so m.imports q h

  -- ---- no item is a name of the framework

  abbrev is_framework : Root → Bool
  is_framework (Framework name) = true
  is_framework _ = false

  called_plain : (at callee : Text) (x : Expr) → is_framework (lifted_root (called_item modules at callee x)) ≡ false
  called_plain at callee x = go (same_text callee (codes "component$")) (same_text callee (codes "componentQrl"))
    where
      go : (b c : Bool) → is_framework (lifted_root (elim b as (λ y. Root) [ true ↦ Shows (Component (site_of modules at (place_of x))) | false ↦ elim c as (λ y. Root) [ true ↦ Shows (Lifted_component (symbol_named x)) | false ↦ Holds (Words (text_in x)) ] ])) ≡ false
      go true c = refl
      go false true = refl
      go false false = refl

  item_plain : (at : Text) (x : Expr) → is_framework (lifted_root (item_root modules at x)) ≡ false
  item_plain at (Expr.Post' s (more_of-Expr (Expr.Name callee) r) u links) = called_plain at callee (first_argument links)
  item_plain at (Expr.Arrow' s (more_of-Arrow place params body r)) = refl
  item_plain at _ = refl

  found_plain : (at q : Text) (items : List Item) → is_framework (lifted_root (found_item modules at q items)) ≡ false
  found_plain at q [] = refl
  found_plain at q (i ∷ rest) = go (same_text i.name q) (found_plain at q rest)
    where
      go : (b : Bool) → is_framework (lifted_root (found_item modules at q rest)) ≡ false → is_framework (lifted_root (elim b as (λ y. Root) [ true ↦ item_root modules at i.init | false ↦ found_item modules at q rest ])) ≡ false
      go true h = item_plain at i.init
      go false h = h

  pub framework_so : (q other : Text) (o : Option Origin) → framework_of o ≡ Some other → lifted_root (by_origin modules file q o) ≡ Framework other
  framework_so q other (Some (Qwik name)) h = ap (λ (o : Option Text). elim o as (λ y. Root) [ Some x ↦ Framework x | None ↦ Unknown ]) h
  framework_so q other (Some (Of_module m name)) h = absurd (none_some h)
    where
      none_some : None ≡ Some other → ⊥
      none_some e = cc
  framework_so q other None h = absurd (none_some h)
    where
      none_some : None ≡ Some other → ⊥
      none_some e = cc

  pub others_so : (q other : Text) (o : Option Origin) → framework_of o ≡ None → lifted_root (by_origin modules file q o) ≡ Framework other → ⊥
  others_so q other (Some (Qwik name)) h e = some_none h
    where
      some_none : Some name ≡ None → ⊥
      some_none e = cc
  others_so q other (Some (Of_module m name)) h e = false≢true (sym (found_plain m name (module_of modules m).items) ∙ ap is_framework e)
  others_so q other None h e = false≢true (sym (found_plain file q (module_of modules file).items) ∙ ap is_framework e)

-- ---- what is known of a function's file

keeps : (b : Bool) (s : Site) (names names' : List Text) (scope : Fields) → names ≡ names'
    → elim b as (λ y. M.Value) [ true ↦ Lifted (symbol_of s) (packed (picked names scope)) false | false ↦ Closure s (scope_kept names scope) false ] ≡ keeping b s names' scope
keeps true s names names' scope e = ap (λ ns. Lifted (symbol_of s) (packed (picked ns scope)) false) e
keeps false s names names' scope e = ap (λ ns. Closure s (scope_kept ns scope) false) e

module _ (known : Known) (m : NamedModule) (tells : Tells known m) (d : Derived m.module) (sourced : All (λ i. IsSource i.from) m.module.imports)
    (modules : List Named_module) (first : module_of modules m.name ≡ m.module) where
  abbrev all : List Found_arrow
  all = item_arrows m.module.items

  pub there : (f : Func) → IsOf known f → (place : ℕ) → Known_there modules m.name place (known_at f place)
  there f of place = subst (Known_there modules m.name place) (sym (λ i. get_or (names i) place (others i))) (known_there m.name m.module d modules first place)
    where
      names : f.names.captures ≡ captured_after m.name [] all
      names = ap (λ n. n.captures) of.names ∙ tells.names

      others : f.elsewhere ≡ elsewhere_of m.name all
      others = of.elsewhere ∙ tells.elsewhere

  pub file_is : (f : Func) → IsOf known f → f.file ≡ m.name
  file_is f of = of.file ∙ tells.file

  root_is : (f : Func) → IsOf known f → (name : Text) → root_of modules f.file name ≡ by_origin modules m.name name (origin_in f.imports.entries name)
  root_is f of name = ap (λ t. root_of modules t name) (file_is f of) ∙ root_so modules m.name m.module first sourced name ∙ ap (λ es. by_origin modules m.name name (origin_in es name)) (sym (ap (λ t. t.entries) of.imports ∙ tells.imports))

  pub knows : (f : Func) → IsOf known f → Knows (captured_program_of modules) f
  knows f of = record {
    site = λ place. ap (λ t. site_of modules t place) (file_is f of) ∙ (there f of place).site;
    file = λ place. (there f of place).file' ∙ sym (file_is f of);
    captures = λ place. (there f of place).names;
    distinct = λ place. (there f of place).distinct;
    makes = λ place scope. keeps (known_at f place).site.dollar (site_seen (known_at f place).site) (captures_of (arrow_of modules (site_seen (known_at f place).site))) (known_at f place).names scope (there f of place).names;
    framework = λ name other h. ap lifted_root (root_is f of name) ∙ framework_so modules m.name name other (origin_in f.imports.entries name) (sym (is_in f.imports.entries name) ∙ h);
    others = λ name other h e. others_so modules m.name name other (origin_in f.imports.entries name) (sym (is_in f.imports.entries name) ∙ h) (sym (ap lifted_root (root_is f of name)) ∙ e);
  }

  -- it stands for an arrow of its code
  pub stands_for : (f : Func) → IsOf known f → (code : Code) (a : Found_arrow) → code ≡ code_from m.name a → code_of f ≡ code_from m.name a → Stands (captured_program_of modules) code f
  stands_for f of code a is own = record { is = is ∙ sym own; distinct = subst (λ ns. is_distinct ns ≡ true) (sym (ap (λ c. c.captures) own)) (distinct a); knows = knows f of }

-- ---- the functions of a kind

-- a function by its place in the list
pub record Nth (known : Known) (file : Text) (xs : List Found_arrow) (n : ℕ) (f : Func) : Type 0 where
  pub code : code_of f ≡ code_from file (nth_arrow xs n)
  pub of : IsOf known f

abbrev head_or : {X : Type 0} → X → List X → X
head_or d [] = d
head_or d (x ∷ xs) = x

abbrev tail_of : {X : Type 0} → List X → List X
tail_of [] = []
tail_of (x ∷ xs) = xs

some_is : {X : Type 0} (d : X) {a b : X} → Some a ≡ Some b → a ≡ b
some_is {X} d e = ap (λ o. elim o as (λ y. X) [ Some x ↦ x | None ↦ d ]) e

pub nth : (known : Known) (file : Text) (fs : List Func) (xs : List Found_arrow) (n : ℕ) (f : Func) → map code_of fs ≡ map (code_from file) xs → All (IsOf known) fs → slice_get fs n ≡ Some f → Nth known file xs n f
nth known file [] xs n f e h g = absurd (none_some g)
  where
    none_some : None ≡ Some f → ⊥
    none_some e = cc
nth known file (g ∷ fs) [] n f e h k = absurd (nothing (ap length e))
  where
    nothing : suc (length (map code_of fs)) ≡ 0 → ⊥
    nothing e = omega (arith, e)
nth known file (g ∷ fs) (x ∷ xs) zero f e h k = record { code = ap code_of (sym (some_is g k)) ∙ ap (head_or (code_of g)) e; of = subst (IsOf known) (some_is g k) (All-head (IsOf known) g fs h) }
nth known file (g ∷ fs) (x ∷ xs) (suc n) f e h k = let r = nth known file fs xs n f (ap tail_of e) (All-tail (IsOf known) g fs h) k in record { code = r.code; of = r.of }
