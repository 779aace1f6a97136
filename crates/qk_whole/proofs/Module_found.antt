-- A module is found by its name where none of that name stands before it, whatever modules come later.
use Rattle.std.specs.Prelude.{◌≡◌, refl, ℕ, zero, suc, ◌<◌, true, false, List, [], ◌∷◌, ◌++◌, length, get_or}
use Rattle.std.proofs.Common.{sym, ◌∙◌, ap, arith}
use Rattle.std.proofs.lemmas.List.{append-nil}
use Rattle.std.proofs.lemmas.Slice.Eq.{bytes_eq-Decides}
use Rattle.qk_ast.specs.declared.Module.{Module}
use Rattle.qk_ast.specs.Texts.{Text, same_text}
use Rattle.qk_ast.specs.Sources.{Named_module, module_of, empty_module}
use Rattle.qk_modules.specs.declared.modules.NamedModule.{NamedModule}
use Rattle.qk_code.specs.Sources.{Sources, Extends}
use Rattle.qk_whole.specs.Taking.{named, sources_of}

pub module_first : (ms : List NamedModule) (at : ℕ) (m : NamedModule) (added : List Named_module) → at < length ms → m ≡ get_or ms at m → ((k : ℕ) → k < at → same_text (get_or ms k m).name m.name ≡ false)
    → module_of (named ms ++ added) m.name ≡ m.module
module_first [] at m added l is apart = absurd (omega (arith, l))
module_first (x ∷ ms) zero m added l is apart =
    ap (λ (y : NamedModule). elim (same_text y.name m.name) as (λ z. Module) [ true ↦ y.module | false ↦ module_of (named ms ++ added) m.name ]) (sym is)
    ∙ ap (λ b. elim b as (λ z. Module) [ true ↦ m.module | false ↦ module_of (named ms ++ added) m.name ]) ((bytes_eq-Decides m.name m.name).1 refl)
module_first (x ∷ ms) (suc at) m added l is apart =
    ap (λ b. elim b as (λ z. Module) [ true ↦ x.module | false ↦ module_of (named ms ++ added) m.name ]) (apart 0 (omega arith))
    ∙ module_first ms at m added (omega (arith, l)) is (λ k h. apart (suc k) (omega (arith, h)))

pub module_later : (ms : List NamedModule) (at : ℕ) (m : NamedModule) → at < length ms → m ≡ get_or ms at m → ((k : ℕ) → k < at → same_text (get_or ms k m).name m.name ≡ false)
    → (later : Sources) → Extends (sources_of ms) later → module_of later.files m.name ≡ m.module
module_later ms at m l is apart later e = ap (λ fs. module_of fs m.name) e.files ∙ module_first ms at m e.added l is apart

pub itself : (s : Sources) → Extends s s
itself s = record { added = []; files = sym (append-nil s.files); index = refl }

pub no_module : (ms : List NamedModule) (name : Text) → ((k : ℕ) (d : NamedModule) → k < length ms → same_text (get_or ms k d).name name ≡ false) → module_of (named ms) name ≡ empty_module
no_module [] name h = refl
no_module (x ∷ ms) name h =
    ap (λ b. elim b as (λ z. Module) [ true ↦ x.module | false ↦ module_of (named ms) name ]) (h 0 x (omega arith))
    ∙ no_module ms name (λ k d l. h (suc k) d (omega (arith, l)))
