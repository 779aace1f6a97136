-- The scope that a layer stands for: what it is of, and which of its statements have passed.
use Rattle.std.specs.Prelude.{Bool, true, false, List, [], ◌∷◌, ◌++◌, flat_map}
use Rattle.qk_ast.specs.declared.Stmt.{Stmt}
use Rattle.qk_ast.specs.Texts.{Text}
use Rattle.qk_ast.specs.Scopes.{Scope, declarations_of, names_declared, arrow_scope, for_scope, behind}
use Rattle.qk_locals.specs.declared.layer.Origin.{Origin}
use Rattle.qk_locals.specs.Meanings.{mark_of}

-- the scope of a block, by the list of its statements
abbrev pub block_of : List Stmt → Scope
block_of statements = record { of_arrow = false; declared = flat_map declarations_of statements; ended = [] }

-- the scope of a `for`, by whether its name's declaration has ended
abbrev pub for_of : Text → (ended : Bool) → Scope
for_of name ended = for_scope (elim ended [ true ↦ name ∷ [] | false ↦ [] ]) name

-- the scope of a layer at its begin
abbrev pub begun : Origin → Scope
begun (Origin.Arrow mark params body) = arrow_scope (mark_of mark) params.now body.now
begun (Origin.Block statements) = block_of statements.now
begun (Origin.For name ended) = for_of name.now ended

-- a scope behind statements of its block
abbrev pub behind_all : List Stmt → Scope → Scope
behind_all statements scope = record { of_arrow = scope.of_arrow; declared = scope.declared; ended = scope.ended ++ flat_map names_declared statements }

-- ---- scopes, the innermost first

abbrev pub nothing : Scope
nothing = record { of_arrow = false; declared = []; ended = [] }

-- the innermost scope
abbrev pub own : List Scope → Scope
own [] = nothing
own (scope ∷ outer) = scope

-- the scopes once the innermost is behind a statement of its block
abbrev pub passed : Stmt → List Scope → List Scope
passed statement [] = []
passed statement (scope ∷ outer) = behind statement scope ∷ outer
