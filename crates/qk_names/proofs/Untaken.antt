-- Where no rule of names is broken, no scope declares a taken name.
use Rattle.std.proofs.Common.{◌≡◌, refl, sym, ◌∙◌, ap}
use Rattle.std.proofs.lemmas.Bool.{false≢true, or_parts}
use Rattle.std.specs.Prelude.{Bool, true, false, ◌||◌, List, [], ◌∷◌, ◌++◌, Option, Some, None}
use Rattle.qk_ast.specs.declared.Form.{Form}
use Rattle.qk_ast.specs.declared.ScopeKind.{ScopeKind}
use Rattle.qk_ast.specs.declared.Stmt.{Stmt, Row_of-Stmt, end_of-Stmt, more_of-Stmt}
use Rattle.qk_ast.specs.declared.Body.{Body, Block' as Body_block'}
use Rattle.qk_ast.specs.Texts.{Text, same_text}
use Rattle.qk_ast.specs.Names.{is_listed, pattern_names}
use Rattle.qk_ast.specs.Framework.{is_taken}
use Rattle.qk_ast.specs.Scopes.{Kind, Constant, Declaration, Scope, kind_in, meaning_from, declared_as, declarations_of, declarations, declarations_in, behind as behind_statement}
use Rattle.qk_ast.specs.Mentions.{Mention, Declares, declared_after, statement_mentions, block_mentions, body_mentions}
use Rattle.qk_ast.specs.Naming.{breach_if, naming_breaches}
use Rattle.qk_names.proofs.Bits.{text_is}
use Rattle.qk_names.proofs.Each.{Each, none, one, head, tail, front, behind, ◌∷'◌, ◌▹◌, no_item}

abbrev pub Untaken : Declaration → Type 0
Untaken d = is_taken d.name ≡ false

abbrev pub Clean : List Scope → Type 0
Clean scopes = Each (λ scope. Each Untaken scope.declared) scopes

abbrev chosen : Declaration → Option Kind → Bool → Option Kind
chosen d rest b = elim b [ true ↦ Some d.kind | false ↦ rest ]

passed : (name : Text) → is_taken name ≡ true → (d : Declaration) (rest : Option Kind) (b : Bool) → same_text d.name name ≡ b → Untaken d → rest ≡ None → chosen d rest b ≡ None
passed name t d rest true e u k = absurd (false≢true (sym u ∙ ap is_taken (text_is d.name name e) ∙ t))
passed name t d rest false e u k = k

no_kind : (name : Text) → is_taken name ≡ true → (ds : List Declaration) → Each Untaken ds → kind_in name ds ≡ None
no_kind name t [] h = refl
no_kind name t (d ∷ ds) h = passed name t d (kind_in name ds) (same_text d.name name) refl (head h) (no_kind name t ds (tail h))

-- a taken name means no local
pub no_local : (name : Text) → is_taken name ≡ true → (scopes : List Scope) (inside : Bool) → Clean scopes → meaning_from inside name scopes ≡ None
no_local name t [] inside h = refl
no_local name t (scope ∷ outer) inside h =
    ap (λ k. elim k [ Some kind ↦ Some (record { kind = kind; in_arrow = inside; ended = is_listed name scope.ended }) | None ↦ meaning_from (inside || scope.of_arrow) name outer ]) (no_kind name t scope.declared (head h))
    ∙ no_local name t outer (inside || scope.of_arrow) (tail h)

not_broken : (b : Bool) (kind : ScopeKind) (name : Text) → breach_if b kind name ≡ [] → b ≡ false
not_broken true kind name e = no_item e
not_broken false kind name e = refl

module _ (form : Form) (file : Text) (roots : List Text) where
  abbrev pub Named_well : Mention → Type 0
  Named_well mention = naming_breaches form file roots mention ≡ []

  untaken : (name : Text) (earlier : List Text) → Named_well (Declares name earlier) → is_taken name ≡ false
  untaken name earlier e = (or_parts (is_listed name earlier) (is_taken name) (not_broken (is_listed name earlier || is_taken name) _ name e)).1

  pub names_clean : (kind : Kind) (earlier names : List Text) → Each Named_well (declared_after earlier names) → Each Untaken (declared_as kind names)
  names_clean kind earlier [] h = none
  names_clean kind earlier (name ∷ names) h = untaken name earlier (head h) ∷' names_clean kind (earlier ++ name ∷ []) names (tail h)

  pub name_clean : (kind : Kind) (name : Text) (earlier : List Text) → Named_well (Declares name earlier) → Each Untaken (declared_as kind (name ∷ []))
  name_clean kind name earlier e = one (untaken name earlier e)

  statement_clean : (x : Stmt) (own : Scope) (outer : List Scope) → Each Named_well (statement_mentions x own outer) → Each Untaken (declarations_of x)
  statement_clean (Stmt.Const pattern x) own outer h = names_clean Constant own.ended (pattern_names pattern) (front _ _ h)
  statement_clean (Stmt.Let name x) own outer h = one (untaken name own.ended (head h))
  statement_clean x own outer h = none

  pub block_clean : {m : _} (xs : Row_of-Stmt m) (own : Scope) (outer : List Scope) → Each Named_well (block_mentions xs own outer) → Each Untaken (declarations xs)
  block_clean end_of-Stmt own outer h = none
  block_clean (more_of-Stmt x rest) own outer h = statement_clean x own outer (front _ _ h) ▹ block_clean rest (behind_statement x own) outer (behind _ _ h)

  pub body_clean : (x : Body) (own : Scope) (outer : List Scope) → Each Named_well (body_mentions x own outer) → Each Untaken (declarations_in x)
  body_clean (Body.Value' _ xs) own outer h = none
  body_clean (Body_block' _ xs) own outer h = block_clean xs own outer h
