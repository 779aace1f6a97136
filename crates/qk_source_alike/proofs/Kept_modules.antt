-- What holds of the module of a name in an accepted application.
use Rattle.std.specs.Prelude.{◌≡◌, refl, Bool, true, false, List, [], ◌∷◌, Contains, IsTrue}
use Rattle.std.proofs.Common.{subst}
use Rattle.std.proofs.lemmas.List.Elements.{All-contains}
use Rattle.std.proofs.lemmas.Slice.Eq.{bytes_eq-Decides}
use Rattle.qk_ast.specs.declared.Form.TheVariants.{Source}
use Rattle.qk_ast.specs.declared.Module.{Module}
use Rattle.qk_ast.specs.Texts.{Text, same_text}
use Rattle.qk_ast.specs.Framework.{is_module_name}
use Rattle.qk_ast.specs.Sources.{Named_module, empty_module, module_of}
use Rattle.qk_ast.specs.Placing.{Root_kind, root_kind}
use Rattle.qk_names.specs.Laws.{KeepsRules}
use Rattle.qk_names.proofs.Laws as names
use Rattle.qk_source_alike.specs.Accepted.{Derived, Accepted}
use Rattle.qk_source_alike.proofs.Membership.{first_in, later_in}

-- a module of that name that keeps the rules, or none
pub data Kept_module (file : Text) : Module → Type 0 where
  kept : {m : Module} (roots : Text → Root_kind) → IsTrue (is_module_name file) → Derived m → KeepsRules Source file roots m → Kept_module file m
  none : Kept_module file empty_module

module _ (modules : List Named_module) (accepted : Accepted modules) where
  one_kept : (m : Named_module) → Contains modules m → Kept_module m.0 m.1
  one_kept m c = kept (root_kind modules m.1) (All-contains (λ m. IsTrue (is_module_name m.0)) modules m accepted.names c) (All-contains (λ m. Derived m.1) modules m accepted.derived c) (names.accepted_keep_rules modules accepted.kept m c)

  among : (rest : List Named_module) (file : Text) → ((m : Named_module) → Contains rest m → Contains modules m) → Kept_module file (module_of rest file)
  among [] file h = none
  among (m ∷ rest) file h = go (same_text m.0 file) refl (among rest file (λ n c. h n (later_in m rest n c)))
    where
      go : (b : Bool) → same_text m.0 file ≡ b → Kept_module file (module_of rest file) → Kept_module file (elim b as (λ y. Module) [ true ↦ m.1 | false ↦ module_of rest file ])
      go true e k = subst (λ name. Kept_module name m.1) ((bytes_eq-Decides m.0 file).0 e) (one_kept m (h m (first_in m rest)))
      go false e k = k

  pub kept_module : (file : Text) → Kept_module file (module_of modules file)
  kept_module file = among modules file (λ m c. c)
