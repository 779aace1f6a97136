-- The walk that finds free names: which names it knows, and which it finds next.
use Rattle.std.specs.Prelude.{true, false, ◌||◌, List, [], ◌∷◌, ◌++◌, Option, Some, None, flat_map}
use Rattle.qk_ast.specs.declared.Expr.{Expr}
use Rattle.qk_ast.specs.declared.Field.{Field}
use Rattle.qk_ast.specs.declared.Operand.{Operand}
use Rattle.qk_ast.specs.declared.Link.{Link}
use Rattle.qk_ast.specs.declared.Pattern.{Pattern}
use Rattle.qk_ast.specs.declared.Stmt.{Stmt}
use Rattle.qk_ast.specs.declared.walk.Walk.{Walk}
use Rattle.qk_ast.specs.Texts.{Text}
use Rattle.qk_ast.specs.Names.{is_listed, others_than, declared_by}
use Rattle.qk_ast.specs.Uses.{uses, all_uses, statement_uses}

-- the names with one more at the end, unless it is among them
abbrev pub with_name : List Text → Text → List Text
with_name names t = elim (is_listed t names) [ true ↦ names | false ↦ names ++ t ∷ [] ]

abbrev pub with_names : List Text → List Text → List Text
with_names names [] = names
with_names names (t ∷ rest) = with_names (with_name names t) rest

-- of names in order of use, those that are found next: each that is neither bound nor seen before
abbrev pub found_next : List Text → List Text → List Text → List Text
found_next bound seen [] = []
found_next bound seen (t ∷ rest) = elim (is_listed t bound || is_listed t seen) [ true ↦ found_next bound seen rest | false ↦ t ∷ found_next bound (seen ++ t ∷ []) rest ]

-- ---- the names of what the tree holds in a list

abbrev pub field_use : Field → List Text
field_use f = uses f.value

abbrev pub operand_use : Operand → List Text
operand_use o = uses o.value

abbrev pub link_use : Link → List Text
link_use (Link.Prop name) = []
link_use (Link.Index x) = uses x
link_use (Link.Call' _ all) = all_uses all

-- the names of what a constant is made of; those of `useLexicalScope` use nothing
abbrev pub constant_use : Pattern → Expr → List Text
constant_use (Pattern.Scope names) x = []
constant_use _ x = uses x

-- the names of what is returned
abbrev pub returned_use : Option Expr → List Text
returned_use None = []
returned_use (Some x) = uses x

abbrev pub names_declared : List Stmt → List Text
names_declared statements = flat_map declared_by statements

-- the names that a block uses and doesn't declare
abbrev pub block_use : List Stmt → List Text
block_use statements = others_than (names_declared statements) (flat_map statement_uses statements)

-- ---- the walk

-- the walk behind these uses
unfoldable pub behind : List Text → Walk → Walk
behind names w = record { bound = w.bound; seen = w.seen ++ found_next w.bound w.seen names; found = w.found ++ found_next w.bound w.seen names }
