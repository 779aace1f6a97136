-- The modules of an accepted application keep the rules.
use Rattle.std.proofs.Common.{◌≡◌, refl}
use Rattle.std.specs.Prelude.{List, [], ◌∷◌, map, flat_map, Contains}
use Rattle.qk_ast.specs.declared.Form.TheVariants.{Source}
use Rattle.qk_ast.specs.Sources.{Named_module}
use Rattle.qk_ast.specs.Naming.{all_naming_breaches}
use Rattle.qk_ast.specs.Placing.{all_placing_breaches, root_kind}
use Rattle.qk_ast.specs.Application.{Of_names, Of_places, naming_of, placing_of, application_breaches}
use Rattle.qk_names.specs.Laws.{KeepsRules}
use Rattle.qk_names.proofs.Each.{Each, at, keeps, empty_front, empty_behind, no_item}

mapped_empty : {X Y : Type 0} (f : X → Y) (xs : List X) → map f xs ≡ [] → xs ≡ []
mapped_empty f [] e = refl
mapped_empty f (x ∷ xs) e = no_item e

pub accepted : (modules : List Named_module) → application_breaches modules ≡ [] → (m : Named_module) → Contains modules m → KeepsRules Source m.0 (root_kind modules m.1) m.1
accepted modules e m c =
    let names : Each (λ m. naming_of m ≡ []) modules = keeps naming_of modules (empty_front (flat_map naming_of modules) (flat_map (placing_of modules) modules) e) in
    let places : Each (λ m. placing_of modules m ≡ []) modules = keeps (placing_of modules) modules (empty_behind (flat_map naming_of modules) (flat_map (placing_of modules) modules) e) in
    (mapped_empty (Of_names m.0) (all_naming_breaches Source m.0 m.1) (at names c), mapped_empty (Of_places m.0) (all_placing_breaches m.0 (root_kind modules m.1) m.1) (at places c))
