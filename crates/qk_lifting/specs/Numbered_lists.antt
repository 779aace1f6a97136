-- Numbered code over the lists that it holds, as the code makes it.
use Rattle.std.specs.Prelude.{ℕ, ◌+◌, List, [], ◌∷◌}
use Rattle.qk_ast.specs.declared.Expr.{Expr}
use Rattle.qk_ast.specs.declared.Field.{Field}
use Rattle.qk_ast.specs.declared.Operand.{Operand}
use Rattle.qk_ast.specs.declared.Link.{Link}
use Rattle.qk_ast.specs.declared.Stmt.{Stmt}
use Rattle.qk_lifting.specs.Numbering.{count, link_count, statement_count, numbered, link_numbered, statement_numbered}

abbrev pub expressions_from : ℕ → List Expr → List Expr
expressions_from n [] = []
expressions_from n (x ∷ xs) = numbered n x ∷ expressions_from (n + count x) xs

abbrev pub fields_from : ℕ → List Field → List Field
fields_from n [] = []
fields_from n (f ∷ fs) = record { key = f.key; value = numbered n f.value } ∷ fields_from (n + count f.value) fs

abbrev pub operands_from : ℕ → List Operand → List Operand
operands_from n [] = []
operands_from n (o ∷ os) = record { op = o.op; value = numbered n o.value } ∷ operands_from (n + count o.value) os

abbrev pub links_from : ℕ → List Link → List Link
links_from n [] = []
links_from n (l ∷ ls) = link_numbered n l ∷ links_from (n + link_count l) ls

abbrev pub statements_from : ℕ → List Stmt → List Stmt
statements_from n [] = []
statements_from n (s ∷ ss) = statement_numbered n s ∷ statements_from (n + statement_count s) ss
