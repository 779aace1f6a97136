-- The mentions of what the tree holds in lists, and those in the innermost of the scopes around.
use Rattle.std.specs.Prelude.{List, [], ◌∷◌, ◌++◌, drop, Option, Some, None, true, false}
use Rattle.qk_ast.specs.declared.Expr.{Expr}
use Rattle.qk_ast.specs.declared.Field.{Field}
use Rattle.qk_ast.specs.declared.Operand.{Operand}
use Rattle.qk_ast.specs.declared.Link.{Link}
use Rattle.qk_ast.specs.declared.Stmt.{Stmt}
use Rattle.qk_ast.specs.declared.Body.{Body}
use Rattle.qk_ast.specs.declared.Arrow.{Arrow}
use Rattle.qk_ast.specs.Texts.{Text}
use Rattle.qk_ast.specs.Names.{patterns_names}
use Rattle.qk_ast.specs.Arrows.{Mark, Unmarked, attribute_mark}
use Rattle.qk_ast.specs.Scopes.{Scope, arrow_scope, behind}
use Rattle.qk_ast.specs.Mentions.{Mention, Uses, Declares, declared_after, mentions, all_mentions, statement_mentions, body_mentions, name_in}
use Rattle.qk_locals.specs.Layers.{block_of, for_of, own}

abbrev pub part_of : Mark → List Scope → Expr → List Mention
part_of mark scopes x = mentions x mark scopes

abbrev pub field_part : List Scope → Field → List Mention
field_part scopes f = mentions f.value Unmarked scopes

abbrev pub attribute_part : List Scope → Field → List Mention
attribute_part scopes f = mentions f.value (attribute_mark f.key) scopes

abbrev pub operand_part : List Scope → Operand → List Mention
operand_part scopes o = mentions o.value Unmarked scopes

-- a link; the arguments of a call have the mark
abbrev pub link_part : Mark → List Scope → Link → List Mention
link_part mark scopes (Link.Prop name) = []
link_part mark scopes (Link.Index x) = mentions x Unmarked scopes
link_part mark scopes (Link.Call' _ all) = all_mentions all mark scopes

-- links, of which the first has the mark
abbrev pub links_part : Mark → List Scope → List Link → List Mention
links_part mark scopes [] = []
links_part mark scopes (link ∷ rest) = link_part mark scopes link ++ links_part Unmarked scopes rest

-- a target of an assignment
abbrev pub target_part : List Scope → Expr → List Mention
target_part scopes target = elim (name_in target) [ Some name ↦ Uses name true scopes ∷ [] | None ↦ mentions target Unmarked scopes ]

-- what is returned
abbrev pub returned_part : List Scope → Option Expr → List Mention
returned_part scopes None = []
returned_part scopes (Some x) = mentions x Unmarked scopes

-- an arrow that stands there: its parameters are declared, and its body stands in a scope of its own
abbrev pub arrow_part : Mark → List Scope → Arrow → List Mention
arrow_part mark scopes a = declared_after [] (patterns_names a.params) ++ body_mentions a.body (arrow_scope mark a.params a.body) scopes

-- ---- blocks

-- statements one after another, each in the scope behind those before it
abbrev pub row_part : Scope → List Scope → List Stmt → List Mention
row_part scope outer [] = []
row_part scope outer (statement ∷ rest) = statement_mentions statement scope outer ++ row_part (behind statement scope) outer rest

-- a block within these scopes
abbrev pub block_part : List Scope → List Stmt → List Mention
block_part scopes statements = row_part (block_of statements) scopes statements

-- in the innermost of these scopes
abbrev pub statement_part : List Scope → Stmt → List Mention
statement_part scopes statement = statement_mentions statement (own scopes) (drop 1 scopes)

abbrev pub statements_part : List Scope → List Stmt → List Mention
statements_part scopes statements = row_part (own scopes) (drop 1 scopes) statements

abbrev pub body_part : List Scope → Body → List Mention
body_part scopes body = body_mentions body (own scopes) (drop 1 scopes)

-- a `for`: in its list the name's declaration hasn't ended yet
abbrev pub for_part : Text → Expr → List Stmt → List Scope → List Mention
for_part name x statements scopes = Declares name [] ∷ (mentions x Unmarked (for_of name false ∷ scopes) ++ block_part (for_of name true ∷ scopes) statements)
