-- The root's names count by which names are among them.
use Rattle.std.specs.Prelude.{◌≡◌, refl, Bool, true, false, List, [], ◌∷◌, ◌++◌, flat_map, Option, Some, None}
use Rattle.std.proofs.Common.{◌∙◌, ap}
use Rattle.qk_ast.specs.declared.Form.{Form}
use Rattle.qk_ast.specs.declared.ScopeKind.TheVariants.{UnknownName}
use Rattle.qk_ast.specs.Texts.{Text}
use Rattle.qk_ast.specs.Names.{is_listed}
use Rattle.qk_ast.specs.Framework.{is_fixed}
use Rattle.qk_ast.specs.Scopes.{Local, meaning}
use Rattle.qk_ast.specs.Mentions.{Mention, Imports, Roots, Declares, Uses}
use Rattle.qk_ast.specs.Naming.{Naming_breach, breach_if, local_breaches, root_breaches, naming_breaches}

abbrev meant : Text → Bool → Bool → Option Local → Bool → List Naming_breach
meant name assigned fixed local known = elim fixed [
  | true ↦ breach_if true UnknownName name
  | false ↦ elim local [ Some l ↦ local_breaches name assigned l | None ↦ root_breaches name assigned known ]
]

module _ (form : Form) (file : Text) (a b : List Text) (same : (q : Text) → is_listed q a ≡ is_listed q b) where
  mention_rooted : (m : Mention) → naming_breaches form file a m ≡ naming_breaches form file b m
  mention_rooted (Imports name source earlier) = refl
  mention_rooted (Roots name earlier) = refl
  mention_rooted (Declares name earlier) = refl
  mention_rooted (Uses name assigned scopes) = ap (meant name assigned (is_fixed name) (meaning name scopes)) (same name)

  pub rooted : (ms : List Mention) → flat_map (naming_breaches form file a) ms ≡ flat_map (naming_breaches form file b) ms
  rooted [] = refl
  rooted (m ∷ ms) = ap (λ front. front ++ flat_map (naming_breaches form file a) ms) (mention_rooted m) ∙ ap (λ rest. naming_breaches form file b m ++ rest) (rooted ms)
