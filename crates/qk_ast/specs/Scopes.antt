-- The scopes around a place of a module's code, and what a name means there.
use Rattle.std.specs.Prelude.{Bool, true, false, ◌||◌, List, [], ◌∷◌, ◌++◌, map, Option, Some, None, codes}
use Rattle.qk_ast.specs.declared.Pattern.{Pattern}
use Rattle.qk_ast.specs.declared.Stmt.{Stmt, Row_of-Stmt, end_of-Stmt, more_of-Stmt}
use Rattle.qk_ast.specs.declared.Body.{Body, Block' as Body_block'}
use Rattle.qk_ast.specs.Texts.{Text, same_text}
use Rattle.qk_ast.specs.Names.{is_listed, pattern_names, patterns_names}
use Rattle.qk_ast.specs.Arrows.{Mark, Tasked}

-- How a local is declared: once and for all (parameters and the names of a `for` too), by `let`, or as the `track` of a task.
pub data Kind : Type 0 where
  Constant Variable Tracker : Kind

pub record Declaration : Type 0 where
  pub name : Text
  pub kind : Kind

-- A scope around a place: whether it is an arrow's own, all that is declared in it, and which of these declarations have ended at the place.
pub record Scope : Type 0 where
  pub of_arrow : Bool
  pub declared : List Declaration
  pub ended : List Text

-- What a name means at a place, where a scope declares it: how it is declared, whether an arrow stands between that scope and the place,
-- and whether the declaration has ended there.
pub record Local : Type 0 where
  pub kind : Kind
  pub in_arrow : Bool
  pub ended : Bool

abbrev pub kind_in : Text → List Declaration → Option Kind
kind_in name [] = None
kind_in name (d ∷ rest) = elim (same_text d.name name) [ true ↦ Some d.kind | false ↦ kind_in name rest ]

-- the innermost scope that declares the name decides; the scopes are listed from the innermost on
abbrev pub meaning_from : (in_arrow : Bool) → Text → List Scope → Option Local
meaning_from in_arrow name [] = None
meaning_from in_arrow name (scope ∷ outer) =
    elim (kind_in name scope.declared) [
      | Some kind ↦ Some (record { kind = kind; in_arrow = in_arrow; ended = is_listed name scope.ended })
      | None ↦ meaning_from (in_arrow || scope.of_arrow) name outer
    ]

abbrev pub meaning : Text → List Scope → Option Local
meaning = meaning_from false

abbrev pub is_local : Text → List Scope → Bool
is_local name scopes = elim (meaning name scopes) [ Some local ↦ true | None ↦ false ]

-- ---- what is declared

abbrev pub declared_as : Kind → List Text → List Declaration
declared_as kind names = map (λ name. record { name = name; kind = kind }) names

-- the names that a statement declares in its block; those of `useLexicalScope` are locals as well
abbrev pub names_declared : Stmt → List Text
names_declared (Stmt.Const pattern e) = pattern_names pattern
names_declared (Stmt.Let name e) = name ∷ []
names_declared _ = []

abbrev pub declarations_of : Stmt → List Declaration
declarations_of (Stmt.Const pattern e) = declared_as Constant (pattern_names pattern)
declarations_of (Stmt.Let name e) = declared_as Variable (name ∷ [])
declarations_of _ = []

abbrev pub declarations : {m : _} → Row_of-Stmt m → List Declaration
declarations end_of-Stmt = []
declarations (more_of-Stmt statement rest) = declarations_of statement ++ declarations rest

-- the one parameter of a task that has one: `{ track }`
abbrev pub is_track : List Pattern → Bool
is_track (Pattern.Fields (name ∷ []) ∷ []) = same_text name (codes "track")
is_track _ = false

abbrev pub parameter_kind : Mark → List Pattern → Kind
parameter_kind Tasked params = elim (is_track params) [ true ↦ Tracker | false ↦ Constant ]
parameter_kind mark params = Constant

abbrev pub parameters : Mark → List Pattern → List Declaration
parameters mark params = declared_as (parameter_kind mark params) (patterns_names params)

abbrev pub declarations_in : Body → List Declaration
declarations_in (Body.Value' _ e) = []
declarations_in (Body_block' _ statements) = declarations statements

-- ---- scopes, as they stand at their begin

-- an arrow's own: its parameters, whose declarations have ended where its body begins, and its block
abbrev pub arrow_scope : Mark → List Pattern → Body → Scope
arrow_scope mark params body = record { of_arrow = true; declared = parameters mark params ++ declarations_in body; ended = patterns_names params }

abbrev pub block_scope : {m : _} → Row_of-Stmt m → Scope
block_scope statements = record { of_arrow = false; declared = declarations statements; ended = [] }

-- of a `for`: its name, whose declaration ends behind the list
abbrev pub for_scope : (ended : List Text) → Text → Scope
for_scope ended name = record { of_arrow = false; declared = declared_as Constant (name ∷ []); ended = ended }

-- the scope behind a statement of its block
abbrev pub behind : Stmt → Scope → Scope
behind statement scope = record { of_arrow = scope.of_arrow; declared = scope.declared; ended = scope.ended ++ names_declared statement }
