-- The names in scope as the walk keeps them: all that were entered, each once, and apart from them whether `track` is in scope.
use Rattle.std.specs.Prelude.{Bool, true, false, ◌||◌, List, [], ◌∷◌, codes, length, take, flat_map}
use Rattle.qk_ast.specs.declared.Expr.{Expr, more_of-Arrow}
use Rattle.qk_ast.specs.declared.Form.{Form}
use Rattle.qk_ast.specs.declared.Form.TheVariants.{Source, Built}
use Rattle.qk_ast.specs.declared.Pattern.{Pattern}
use Rattle.qk_ast.specs.declared.Stmt.{Stmt}
use Rattle.qk_ast.specs.Texts.{Text, same_text}
use Rattle.qk_ast.specs.Names.{others_than, patterns_names, declared_by, body_names}
use Rattle.qk_ast.specs.Arrows as arrows
use Rattle.qk_ast.specs.Walking.{with_name}
use Rattle.qk_node.specs.Nodes.{Node, Value, Block, For_block}
use Rattle.qk_captures.specs.declared.scope.Scope.{Scope}
use Rattle.qk_captures.specs.declared.scope.Outside.{Outside}
use Rattle.qk_ast.specs.Arrows.{names_around}

-- whether an arrow with this mark is a dollar arrow
abbrev pub is_dollar_mark : arrows.Mark → Bool
is_dollar_mark mark = elim mark [ arrows.Unmarked ↦ false | _ ↦ true ]

abbrev pub track : Text
track = codes "track"

abbrev pub shown : (track_shown : Bool) → List Text → List Text
shown true names = track ∷ names
shown false names = others_than (track ∷ []) names

-- the names that are in scope
abbrev pub in_scope : Scope → List Text
in_scope s = shown s.track s.names

-- with one name more
abbrev pub with_one : Text → Scope → Scope
with_one name s = record { names = with_name s.names name; track = s.track || same_text name track }

-- with the names of an inner scope
unfoldable pub with_all : List Text → Scope → Scope
with_all [] s = s
with_all (name ∷ rest) s = with_all rest (with_one name s)

-- inside an arrow; a task with a parameter hides `track`, and has no name of its own
abbrev pub inside_arrow : arrows.Mark → List Pattern → Scope → Scope
inside_arrow arrows.Tasked (p ∷ rest) s = record { names = s.names; track = false }
inside_arrow mark params s = with_all (patterns_names params) s

-- the names that statements declare in their block
abbrev pub block_names : List Stmt → List Text
block_names statements = flat_map declared_by statements

-- inside a node of the tree
abbrev pub entered : Node → Scope → Scope
entered (Value (Expr.Arrow' _ (more_of-Arrow place params body _)) mark) s = with_all (body_names body) (inside_arrow mark params s)
entered (Block ss) s = with_all (block_names ss) s
entered (For_block name ss) s = with_all (block_names ss) (with_one name s)
entered _ s = s

-- the names of the `useLexicalScope` with which statements begin
abbrev pub first_names : List Stmt → List Text
first_names (Stmt.Const (Pattern.Scope names) e ∷ rest) = names
first_names _ = []

-- the names that are entered before an item's value
abbrev pub names_before : Form → Expr → List Text
names_before Source x = []
names_before Built x = names_around x

-- what is remembered of a scope when an inner one is entered
abbrev pub outside_of : Scope → Outside
outside_of s = record { names = length s.names; track = s.track }

-- back from the inner scope
abbrev pub back_to : Outside → Scope → Scope
back_to outside s = record { names = take outside.names s.names; track = outside.track }
