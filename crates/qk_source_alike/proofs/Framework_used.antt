-- In a source that keeps the rules of names no import from the framework names `qrl`, and so what is called stands for itself.
use Rattle.std.specs.Prelude.{◌≡◌, refl, Bool, true, false, not, ◌&&◌, ◌||◌, List, [], ◌∷◌, ◌++◌, flat_map, Option, Some, codes}
use Rattle.std.proofs.Common.{sym, ◌∙◌, ap, subst}
use Rattle.std.proofs.lemmas.Bool.{or_parts}
use Rattle.std.proofs.lemmas.Slice.Eq.{bytes_eq-Decides}
use Rattle.qk_ast.specs.declared.Form.TheVariants.{Source}
use Rattle.qk_ast.specs.declared.ScopeKind.{ScopeKind}
use Rattle.qk_ast.specs.declared.Import.{Import}
use Rattle.qk_ast.specs.declared.Module.{Module}
use Rattle.qk_ast.specs.Texts.{Text, same_text}
use Rattle.qk_ast.specs.Names.{is_listed}
use Rattle.qk_ast.specs.Framework.{framework, may_import, is_taken, is_symbol}
use Rattle.qk_ast.specs.Mentions.{Mention, Imports, imported_after, import_names, import_mentions, item_mentions, module_mentions}
use Rattle.qk_ast.specs.Naming.{breach_if, root_names, naming_breaches, all_naming_breaches}
use Rattle.qk_meaning.specs.Methods.{looked_up}
use Rattle.qk_meaning.specs.Calls.{Callee, framework_callees}
use Rattle.qk_meaning.specs.Ties.{Ties}
use Rattle.qk_alike.specs.Meanings_stand.{Callees_stand, dollars_called, marks_called, hooks_called, Found_callees, no_callees, some_callees, Framework_alike}
use Rattle.qk_alike.proofs.Sames.{not_both}
use Rattle.qk_source_alike.specs.Every.{Every, none_of, all_of}
use Rattle.qk_source_alike.proofs.Same_code.{all_left}

-- ---- what is called

-- of each entry of that name the callee stands for itself
data Callable_in (t : Ties) (name : Text) : List (Text × Callee) → Type 0 where
  no_entries : Callable_in t name []
  entry : {key : Text} {c : Callee} {rest : List (Text × Callee)} → (same_text name key ≡ true → Callees_stand t c c) → Callable_in t name rest → Callable_in t name ((key, c) ∷ rest)

found_itself : {t : Ties} (name : Text) {entries : List (Text × Callee)} → Callable_in t name entries → Found_callees t (looked_up name entries) (looked_up name entries)
found_itself name no_entries = no_callees
found_itself {t} name (entry {key = key} {c = c} {rest = rest} h k) = go (same_text name key) h (found_itself name k)
  where
    go : (b : Bool) → (b ≡ true → Callees_stand t c c) → Found_callees t (looked_up name rest) (looked_up name rest) →
        Found_callees t (elim b as (λ y. Option Callee) [ true ↦ Some c | false ↦ looked_up name rest ]) (elim b as (λ y. Option Callee) [ true ↦ Some c | false ↦ looked_up name rest ])
    go true h k = some_callees (h refl)
    go false h k = k

callable : {t : Ties} (name : Text) → (same_text name (codes "qrl") ≡ true → ⊥) → Callable_in t name framework_callees
callable name unless =
    entry (λ e. dollars_called) (entry (λ e. marks_called) (entry (λ e. absurd (unless e)) (entry (λ e. hooks_called) (entry (λ e. hooks_called) (entry (λ e. hooks_called) (entry (λ e. hooks_called)
    (entry (λ e. hooks_called) (entry (λ e. hooks_called) (entry (λ e. hooks_called) (entry (λ e. hooks_called) no_entries))))))))))

pub called_itself : {t : Ties} (name : Text) → (same_text name (codes "qrl") ≡ true → ⊥) → Framework_alike t name name
called_itself name unless = found_itself name (callable name unless)

-- ---- no import names `qrl`

abbrev is_empty : {X : Type 0} → List X → Bool
is_empty [] = true
is_empty (x ∷ xs) = false

empty_left : {X : Type 0} (xs ys : List X) → xs ++ ys ≡ [] → xs ≡ []
empty_left [] ys e = refl
empty_left (x ∷ xs) ys e = absurd (not_both (sym (ap is_empty e)))

empty_right : {X : Type 0} (xs ys : List X) → xs ++ ys ≡ [] → ys ≡ []
empty_right [] ys e = e
empty_right (x ∷ xs) ys e = absurd (not_both (sym (ap is_empty e)))

pub every_kept : {X B : Type 0} (f : X → List B) (xs : List X) → flat_map f xs ≡ [] → Every (λ x. f x ≡ []) xs
every_kept f [] e = none_of
every_kept f (x ∷ xs) e = all_of (empty_left (f x) (flat_map f xs) e) (every_kept f xs (empty_right (f x) (flat_map f xs) e))

not_broken : (b : Bool) (kind : ScopeKind) (name : Text) → breach_if b kind name ≡ [] → b ≡ false
not_broken true kind name e = absurd (not_both (sym (ap is_empty e)))
not_broken false kind name e = refl

every_right : {A : Type 0} {G : A → Type 0} (xs ys : List A) → Every G (xs ++ ys) → Every G ys
every_right [] ys h = h
every_right (x ∷ xs) ys (all_of h hs) = every_right xs ys hs

module _ (file : Text) (roots : List Text) where
  abbrev Well : Mention → Type 0
  Well mention = naming_breaches Source file roots mention ≡ []

  no_import : (name source : Text) (earlier : List Text) → Well (Imports name source earlier) → same_text source framework ≡ true → same_text name (codes "qrl") ≡ true → ⊥
  no_import name source earlier h e f = not_both (sym (ap (λ b. is_taken (codes "qrl") && not (b && may_import Source (codes "qrl"))) e) ∙ parts)
    where
      broken : (is_listed (codes "qrl") earlier || (is_taken (codes "qrl") && not (same_text source framework && may_import Source (codes "qrl"))) || is_symbol (codes "qrl")) ≡ false
      broken = not_broken _ _ (codes "qrl") (subst (λ n. Well (Imports n source earlier)) ((bytes_eq-Decides name (codes "qrl")).0 f) h)

      parts : (is_taken (codes "qrl") && not (same_text source framework && may_import Source (codes "qrl"))) ≡ false
      parts = (or_parts (is_listed (codes "qrl") earlier) (is_taken (codes "qrl") && not (same_text source framework && may_import Source (codes "qrl")))
          (or_parts (is_listed (codes "qrl") earlier || (is_taken (codes "qrl") && not (same_text source framework && may_import Source (codes "qrl")))) (is_symbol (codes "qrl")) broken).0).1

  named_by_import : (name source : Text) (earlier names : List Text) → Every Well (imported_after source earlier names) → is_listed name names ≡ true → same_text source framework ≡ true → same_text name (codes "qrl") ≡ true → ⊥
  named_by_import name source earlier [] h e = absurd (not_both (sym e))
  named_by_import name source earlier (n ∷ names) (all_of h hs) e = go (same_text n name) refl e (named_by_import name source (earlier ++ n ∷ []) names hs)
    where
      go : (b : Bool) → same_text n name ≡ b → (elim b as (λ y. Bool) [ true ↦ true | false ↦ is_listed name names ]) ≡ true → (is_listed name names ≡ true → same_text source framework ≡ true → same_text name (codes "qrl") ≡ true → ⊥) →
          same_text source framework ≡ true → same_text name (codes "qrl") ≡ true → ⊥
      go true p e next f g = no_import n source earlier h f (subst (λ x. same_text x (codes "qrl") ≡ true) (sym ((bytes_eq-Decides n name).0 p)) g)
      go false p e next f g = next e f g

  -- of an import from the framework, no name is `qrl`
  abbrev pub No_qrl : Import → Type 0
  No_qrl i = (name : Text) → is_listed name i.names ≡ true → same_text i.from framework ≡ true → same_text name (codes "qrl") ≡ true → ⊥

  no_qrl_from : (earlier : List Text) (imports : List Import) → Every Well (import_mentions earlier imports) → Every No_qrl imports
  no_qrl_from earlier [] h = none_of
  no_qrl_from earlier (i ∷ rest) h =
      all_of (λ name. named_by_import name i.from earlier i.names (all_left (imported_after i.from earlier i.names) (import_mentions (earlier ++ i.names) rest) h))
      (no_qrl_from (earlier ++ i.names) rest (every_right (imported_after i.from earlier i.names) (import_mentions (earlier ++ i.names) rest) h))

pub no_qrl : (file : Text) (m : Module) → all_naming_breaches Source file m ≡ [] → Every (No_qrl file (root_names Source file m)) m.imports
no_qrl file m e = no_qrl_from file (root_names Source file m) [] m.imports
    (all_left (import_mentions [] m.imports) (item_mentions (import_names m.imports) m.items) (every_kept (naming_breaches Source file (root_names Source file m)) (module_mentions m) e))
