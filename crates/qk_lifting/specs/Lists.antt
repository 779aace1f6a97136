-- Lifted code over the lists that it holds, as the code makes it.
use Rattle.std.specs.Prelude.{ℕ, List, [], ◌∷◌, map}
use Rattle.qk_ast.specs.declared.Expr.{Expr}
use Rattle.qk_ast.specs.declared.Field.{Field}
use Rattle.qk_ast.specs.declared.Operand.{Operand}
use Rattle.qk_ast.specs.declared.Link.{Link}
use Rattle.qk_ast.specs.declared.Stmt.{Stmt}
use Rattle.qk_lifting.specs.Kinds.{Place, Unmarked, attribute_place}
use Rattle.qk_lifting.specs.References.{Reference}
use Rattle.qk_lifting.specs.Lifting.{lifted, link_lifted, statement_lifted}

abbrev pub expressions_of : (ℕ → Reference) → Place → List Expr → List Expr
expressions_of refer there xs = map (λ x. lifted refer x there) xs

abbrev pub field_of : (ℕ → Reference) → Field → Field
field_of refer f = record { key = f.key; value = lifted refer f.value Unmarked }

abbrev pub attribute_of : (ℕ → Reference) → Field → Field
attribute_of refer f = record { key = f.key; value = lifted refer f.value (attribute_place f.key) }

abbrev pub operand_of : (ℕ → Reference) → Operand → Operand
operand_of refer o = record { op = o.op; value = lifted refer o.value Unmarked }

-- the arguments of the first link stand there
abbrev pub links_of : (ℕ → Reference) → Place → List Link → List Link
links_of refer there [] = []
links_of refer there (l ∷ ls) = link_lifted refer l there ∷ links_of refer Unmarked ls

abbrev pub statements_of : (ℕ → Reference) → List Stmt → List Stmt
statements_of refer ss = map (statement_lifted refer) ss
