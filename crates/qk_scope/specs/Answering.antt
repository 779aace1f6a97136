-- What is answered of the breaches at a part of a module.
use Rattle.std.specs.Prelude.{◌≡◌, ◌||◌, List, [], ◌∷◌, ◌++◌, flat_map, Option, Some, None, Result, Ok, Err}
use Rattle.qk_ast.specs.declared.ScopeKind.{ScopeKind}
use Rattle.qk_ast.specs.declared.ScopeKind.TheVariants.{DuplicateName}
use Rattle.qk_ast.specs.Texts.{Text}
use Rattle.qk_ast.specs.Names.{is_listed}
use Rattle.qk_ast.specs.Framework.{is_taken}
use Rattle.qk_ast.specs.Scopes.{Scope}
use Rattle.qk_ast.specs.Mentions.{Mention}
use Rattle.qk_ast.specs.Naming.{Naming_breach, breach_if, naming_breaches}
use Rattle.qk_scope.specs.declared.fault.ScopeFault.{ScopeFault}
use Rattle.qk_scope.specs.declared.rules.Rules.{Rules}
use Rattle.qk_scope.specs.declared.keeper.Keeper.{Keeper}

-- the fault is the refusal of such a breach, or want of memory
unfoldable pub Blames : ScopeKind → Text → ScopeFault → Type 0
Blames kind name (ScopeFault.Refused k n) = (k ≡ kind) × (n ≡ name)
Blames kind name ScopeFault.Memory = Unit {0}

-- the fault is the refusal of the first of these breaches, or want of memory
unfoldable pub Faults : List Naming_breach → ScopeFault → Type 0
Faults breaches (ScopeFault.Refused kind name) = (rest : List Naming_breach) × (breaches ≡ record { kind = kind; name = name } ∷ rest)
Faults breaches ScopeFault.Memory = Unit {0}

-- all is well where there are no breaches, else the first is refused
unfoldable pub Answers : {T : Type 0} → List Naming_breach → Result T ScopeFault → Type 0
Answers breaches (Ok done) = breaches ≡ []
Answers breaches (Err fault) = Faults breaches fault

-- the breaches of these mentions
unfoldable pub breaches : Rules → List Mention → List Naming_breach
breaches rules all = flat_map (naming_breaches rules.form rules.file.now rules.roots) all

-- the breaches where the walk stands, of what is mentioned in the scopes around it
abbrev pub broken : Keeper → (List Scope → List Mention) → List Naming_breach
broken k part = breaches k.rules (part k.scopes)

-- the breaches of names that are declared one after another, behind earlier ones
abbrev pub declared_breaches : (earlier : List Text) → List Text → List Naming_breach
declared_breaches earlier [] = []
declared_breaches earlier (name ∷ rest) = breach_if (is_listed name earlier || is_taken name) DuplicateName name ++ declared_breaches (earlier ++ name ∷ []) rest

abbrev pub first_of : List Naming_breach → Option Naming_breach
first_of [] = None
first_of (breach ∷ rest) = Some breach

-- the breach of this kind by that name
abbrev pub breach_by : Text → Option ScopeKind → Option Naming_breach
breach_by name None = None
breach_by name (Some kind) = Some (record { kind = kind; name = name })
