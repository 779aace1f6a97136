-- Where code declares names and where it uses them, in text order, each with what surrounds the place.
use Rattle.std.specs.Prelude.{Bool, true, false, List, [], ◌∷◌, ◌++◌}
use Rattle.qk_ast.specs.declared.Expr.{Expr, more_of-Arrow, more_of-Jsx}
use Rattle.qk_ast.specs.declared.Stmt.{Stmt}
use Rattle.qk_ast.specs.Texts.{Text}
use Rattle.qk_ast.specs.Names.{pattern_names, patterns_names}
use Rattle.qk_ast.specs.Scopes.{Scope, arrow_scope, for_scope, behind}
use Rattle.qk_ast.specs.Mentions.{Mention, Declares, Uses, declared_after, tag_mentions}
use Rattle.qk_locals.specs.Layers.{block_of}
use Rattle.qk_node.specs.Used.{tag_of}
use Rattle.qk_node.specs.Nodes.{Node, Value, Statement, Block, For_block}
use Rattle.qk_node.specs.Growing.{Forest, none, more}

abbrev pub innermost_ended : List Scope → List Text
innermost_ended [] = []
innermost_ended (own ∷ outer) = own.ended

-- whether the first of the children is assigned
abbrev pub assigns : Node → Bool
assigns (Value (Expr.Assign' op _ target _ x) mark) = true
assigns (Value (Expr.Step' up _ target) mark) = true
assigns _ = false

-- the node itself
abbrev pub mention_here : Node → (assigned : Bool) → List Scope → List Mention
mention_here (Value (Expr.Name name) mark) assigned scopes = Uses name assigned scopes ∷ []
mention_here (Value (Expr.Arrow' _ (more_of-Arrow place params body _)) mark) assigned scopes = declared_after [] (patterns_names params)
mention_here (Value (Expr.Jsx' _ (more_of-Jsx jsx _)) mark) assigned scopes = tag_mentions (tag_of jsx) scopes
mention_here (Statement (Stmt.Const pattern x)) assigned scopes = declared_after (innermost_ended scopes) (pattern_names pattern)
mention_here (Statement (Stmt.Let name x)) assigned scopes = Declares name (innermost_ended scopes) ∷ []
mention_here (Statement (Stmt.ForOf' name x _ all)) assigned scopes = Declares name [] ∷ []
mention_here _ assigned scopes = []

-- the scopes around what is inside a node
abbrev pub scopes_inside : Node → List Scope → List Scope
scopes_inside (Value (Expr.Arrow' _ (more_of-Arrow place params body _)) mark) scopes = arrow_scope mark params body ∷ scopes
scopes_inside (Statement (Stmt.ForOf' name x _ all)) scopes = for_scope [] name ∷ scopes
scopes_inside (Block ss) scopes = block_of ss ∷ scopes
scopes_inside (For_block name ss) (own ∷ outer) = block_of ss ∷ for_scope (name ∷ []) name ∷ outer
scopes_inside _ scopes = scopes

-- the scopes around what is behind a node
abbrev pub scopes_behind : Node → List Scope → List Scope
scopes_behind (Statement s) (own ∷ outer) = behind s own ∷ outer
scopes_behind _ scopes = scopes

-- whether the first node is assigned
abbrev pub mentions_in : Forest → (assigned : Bool) → List Scope → List Mention
mentions_in none assigned scopes = []
mentions_in (more n inside after) assigned scopes = mention_here n assigned scopes ++ (mentions_in inside (assigns n) (scopes_inside n scopes) ++ mentions_in after false (scopes_behind n scopes))
