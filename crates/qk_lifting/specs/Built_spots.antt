-- What stands where in a built file: as in a module, and the own arrow of a segment counts as the arrow of its kind.
use Rattle.std.specs.Prelude.{Bool, true, false, not, ◌&&◌, List, [], ◌∷◌, ◌++◌, Option, Some, None, codes}
use Rattle.qk_ast.specs.declared.Module.{Module}
use Rattle.qk_ast.specs.declared.Item.{Item as Root_item}
use Rattle.qk_ast.specs.declared.Pattern.{Pattern}
use Rattle.qk_ast.specs.declared.Tag.{Tag}
use Rattle.qk_ast.specs.declared.Expr.{Expr, more_of-Expr, more_of-Arrow}
use Rattle.qk_ast.specs.declared.Stmt.{Stmt, Row_of-Stmt, end_of-Stmt, more_of-Stmt}
use Rattle.qk_ast.specs.declared.Body.{Body, Block' as Body_block'}
use Rattle.qk_ast.specs.Texts.{Text, same_text}
use Rattle.qk_ast.specs.Arrows.{Mark, Unmarked, Tasked}
use Rattle.qk_ast.specs.Scopes.{Scope, arrow_scope, is_local}
use Rattle.qk_ast.specs.Mentions.{name_in}
use Rattle.qk_ast.specs.Spots.{Spot, Named, Tagged, called, is_whole_call, is_named, item_spots, statement_spots, body_spots}
use Rattle.qk_ast.specs.Placing.{Root_kind, A_component, A_context, Else, is_context_argument}
use Rattle.qk_lifting.specs.declared.SegmentKind.{SegmentKind}
use Rattle.qk_lifting.specs.declared.SegmentKind.TheVariants.{Component, Task}

-- ---- the own block of a component

abbrev pub built_statement_hooks : List Text
built_statement_hooks = codes "useTaskQrl" ∷ codes "useContextProvider" ∷ []

abbrev pub is_built_hook_call : Expr → Bool
is_built_hook_call (Expr.Post' _ (more_of-Expr head _) _ links) = is_named built_statement_hooks (name_in head) && is_whole_call (called links)
is_built_hook_call _ = false

abbrev pub lets_built_hooks_follow : Stmt → Bool
lets_built_hooks_follow (Stmt.Const pattern e) = true
lets_built_hooks_follow (Stmt.Do e) = is_built_hook_call e
lets_built_hooks_follow _ = false

abbrev pub own_block_spots : {m : _} → Row_of-Stmt m → (hooks : Bool) → List Scope → List Spot
own_block_spots end_of-Stmt hooks scopes = []
own_block_spots (more_of-Stmt statement rest) hooks scopes = statement_spots statement hooks scopes ++ own_block_spots rest (hooks && lets_built_hooks_follow statement) scopes

-- ---- the own arrow of a segment; the statement of its captures, first in its block, is no spot

abbrev pub is_a_component : SegmentKind → Bool
is_a_component Component = true
is_a_component _ = false

abbrev pub own_mark : SegmentKind → Mark
own_mark Task = Tasked
own_mark _ = Unmarked

abbrev pub first_spots : {m : _} → Row_of-Stmt m → (hooks : Bool) → List Scope → List Spot
first_spots (more_of-Stmt (Stmt.Const (Pattern.Scope names) e) rest) hooks scopes = own_block_spots rest hooks scopes
first_spots all hooks scopes = own_block_spots all hooks scopes

abbrev pub own_body_spots : Body → (hooks : Bool) → List Scope → List Spot
own_body_spots (Body.Value' n all) hooks scopes = body_spots (Body.Value' n all) false scopes
own_body_spots (Body_block' _ all) hooks scopes = first_spots all hooks scopes

abbrev pub own_spots : SegmentKind → Expr → List Spot
own_spots kind (Expr.Arrow' _ (more_of-Arrow place params body _)) = own_body_spots body (is_a_component kind) (arrow_scope (own_mark kind) params body ∷ [])
own_spots kind _ = []

abbrev pub segment_spots : SegmentKind → List Root_item → List Spot
segment_spots kind [] = []
segment_spots kind (i ∷ rest) = own_spots kind i.init ++ segment_spots kind rest

-- a segment of that kind, or what remains of a module
abbrev pub built_spots : Option SegmentKind → Module → List Spot
built_spots (Some kind) m = segment_spots kind m.items
built_spots None m = item_spots m.items

-- ---- what a file uses a name of its root as: a component, a context id, or something else

abbrev pub use_at : Text → Spot → Option Root_kind
use_at name (Named other call standing scopes) =
    elim (same_text other name && not (is_local name scopes)) [ true ↦ Some (elim (is_context_argument call standing) [ true ↦ A_context | false ↦ Else ]) | false ↦ None ]
use_at name (Tagged (Tag.Component other) children scopes) = elim (same_text other name && not (is_local name scopes)) [ true ↦ Some A_component | false ↦ None ]
use_at name _ = None

abbrev pub first_use : Option Root_kind → Option Root_kind → Option Root_kind
first_use (Some kind) later = Some kind
first_use None later = later

-- by its first use; a file that keeps the rules has none that differs
abbrev pub used_as : Text → List Spot → Option Root_kind
used_as name [] = None
used_as name (spot ∷ rest) = first_use (use_at name spot) (used_as name rest)
