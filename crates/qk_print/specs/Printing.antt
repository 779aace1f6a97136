-- The text of a module, as built files have it.
use Rattle.std.specs.Prelude.{Bool, true, false, not, List, [], ◌∷◌, ◌++◌, map, Option, Some, None, codes, flat_map}
use Rattle.std.specs.Fmt.{signed_decimal}
use Rattle.qk_ast.specs.declared.Module.{Module}
use Rattle.qk_ast.specs.declared.Import.{Import}
use Rattle.qk_ast.specs.declared.Item.{Item}
use Rattle.qk_ast.specs.declared.Pattern.{Pattern}
use Rattle.qk_ast.specs.declared.Pattern.TheVariants as p
use Rattle.qk_ast.specs.declared.Tag.{Tag}
use Rattle.qk_ast.specs.declared.Tag.TheVariants as t
use Rattle.qk_ast.specs.declared.Known.{Known}
use Rattle.qk_ast.specs.declared.Known.TheVariants as known
use Rattle.qk_ast.specs.declared.Bin.{Bin}
use Rattle.qk_ast.specs.declared.Expr.{Expr, Row_of-Expr, end_of-Expr, more_of-Expr, Row_of-Field, end_of-Field, more_of-Field, Row_of-Operand, end_of-Operand, more_of-Operand, Row_of-Link, end_of-Link, more_of-Link, more_of-Arrow, more_of-Jsx}
use Rattle.qk_ast.specs.declared.Stmt.{Stmt, Block' as Statement_block', Row_of-Stmt, end_of-Stmt, more_of-Stmt, None', Some'}
use Rattle.qk_ast.specs.declared.Link.{Link}
use Rattle.qk_ast.specs.declared.Jsx.{Jsx, Jsx'}
use Rattle.qk_ast.specs.declared.Body.{Body, Block' as Body_block'}
use Rattle.qk_print.specs.Letters.{Text, between, commas, braced, unless_bare, quoted, parts_and_holes, truth, un_sign, bin_sign, assign_sign, bump_sign}
use Rattle.qk_print.specs.Shapes.{is_record, is_markup, is_head, is_operand, is_statement, is_right_side}

-- An expression with its text.
pub record Printed : Type 0 where
  pub form : Expr
  pub text : Text

-- A key with the text of its value, an operator with its operand.
pub record Keyed : Type 0 where
  pub key : Text
  pub text : Text

pub record Operated : Type 0 where
  pub op : Bin
  pub form : Expr
  pub text : Text

-- ---- what holds nothing nested

abbrev pub pattern_text : Pattern → Text
pattern_text (p.Name t) = t
pattern_text (p.Fields ts) = braced ts
pattern_text (p.Scope ts) = codes "[" ++ (commas ts ++ codes "]")

-- ---- parts

abbrev pub text_of : Printed → Text
text_of x = x.text

abbrev pub operand_text : Option Bin → Printed → Text
operand_text next x = unless_bare (is_operand next x.form) x.text

abbrev pub field_text : Keyed → Text
field_text f = quoted f.key ++ (codes ": " ++ f.text)

abbrev pub attribute_text : Keyed → Text
attribute_text f = codes " " ++ (f.key ++ (codes "={" ++ (f.text ++ codes "}")))

-- a hole's text, and a child's: an element as it is, another expression in braces
abbrev pub hole_text : Printed → Text
hole_text x = unless_bare (not (is_markup x.form)) x.text

abbrev pub child_text : Printed → Text
child_text x = elim (is_markup x.form) [ true ↦ x.text | false ↦ codes "{" ++ (x.text ++ codes "}") ]

abbrev pub known_front : Known → Text
known_front known.Log = codes "console.log("
known_front known.Keys = codes "Object.keys("
known_front known.Str = codes "String("
known_front known.Trunc = codes "Math.trunc("

abbrev pub known_arguments : Known → List Printed → Text
known_arguments known.Trunc xs = between (codes " / ") (map (operand_text None) xs)
known_arguments known xs = commas (map text_of xs)

abbrev pub known_text : Known → List Printed → Text
known_text known xs = known_front known ++ (known_arguments known xs ++ codes ")")

-- the operator that comes first
abbrev pub first_operator : List Operated → Option Bin
first_operator [] = None
first_operator (o ∷ os) = Some o.op

abbrev pub operands_text : List Operated → Text
operands_text [] = []
operands_text (o ∷ os) = bin_sign o.op ++ (operand_text (first_operator os) (record { form = o.form; text = o.text }) ++ operands_text os)

-- behind the attributes: `/>` without children, else the children and the closing tag
abbrev pub content_text : Text → List Text → Text
content_text name [] = codes "/>"
content_text name (c ∷ cs) = codes ">" ++ (flat_map (λ d. d) (c ∷ cs) ++ (codes "</" ++ (name ++ codes ">")))

-- `<tag a={e}>children</tag>`, or `<>children</>` without a tag
abbrev pub named_text : Text → List Text → List Text → Text
named_text name attributes children = codes "<" ++ (name ++ (flat_map (λ a. a) attributes ++ content_text name children))

abbrev pub element_text : Tag → List Text → List Text → Text
element_text (t.Element name) attributes children = named_text name attributes children
element_text (t.Component name) attributes children = named_text name attributes children
element_text t.Fragment attributes children = codes "<>" ++ (flat_map (λ c. c) children ++ codes "</>")

abbrev pub block_text : List Text → Text
block_text statements = codes "{ " ++ (flat_map (λ s. s ++ codes " ") statements ++ codes "}")

abbrev pub else_text : List Text → Text
else_text [] = []
else_text (s ∷ ss) = codes " else " ++ block_text (s ∷ ss)

-- ---- the whole

abbrev mutual
  pub expression_text : Expr → Text
  expression_text Expr.Undefined = codes "undefined"
  expression_text Expr.Null = codes "null"
  expression_text (Expr.Bool b) = truth b
  expression_text (Expr.Int n) = signed_decimal n
  expression_text (Expr.Text t) = quoted t
  expression_text (Expr.Name t) = t
  expression_text (Expr.List' _ all) = codes "[" ++ (commas (map text_of (printed all)) ++ codes "]")
  expression_text (Expr.Record' _ fields) = braced (map field_text (keyed fields))
  expression_text (Expr.Template' parts _ holes) = codes "`" ++ (parts_and_holes parts (map hole_text (printed holes)) ++ codes "`")
  expression_text (Expr.Unary' op _ (more_of-Expr x _)) = un_sign op ++ operand_text None (record { form = x; text = expression_text x })
  expression_text (Expr.Chain' _ (more_of-Expr x _) _ rest) = operand_text (first_operator (operated rest)) (record { form = x; text = expression_text x })
      ++ operands_text (operated rest)
  expression_text (Expr.Cond' _ (more_of-Expr a _) _ (more_of-Expr b _) _ (more_of-Expr c _)) =
      operand_text None (record { form = a; text = expression_text a }) ++ (codes " ? "
      ++ (operand_text None (record { form = b; text = expression_text b }) ++ (codes " : "
      ++ operand_text None (record { form = c; text = expression_text c }))))
  expression_text (Expr.Post' _ (more_of-Expr x _) _ links) = unless_bare (is_head x) (expression_text x) ++ links_text links
  expression_text (Expr.Assign' op _ (more_of-Expr target _) _ (more_of-Expr x _)) = expression_text target ++ (assign_sign op ++ unless_bare (is_right_side op x) (expression_text x))
  expression_text (Expr.Step' up _ (more_of-Expr target _)) = expression_text target ++ bump_sign up
  expression_text (Expr.Known' known _ all) = known_text known (printed all)
  expression_text (Expr.Arrow' _ (more_of-Arrow place params body _)) = codes "(" ++ (commas (map pattern_text params) ++ (codes ") => " ++ body_text body))
  expression_text (Expr.Jsx' _ (more_of-Jsx jsx _)) = jsx_text jsx

  pub printed : {m : _} → Row_of-Expr m → List Printed
  printed end_of-Expr = []
  printed (more_of-Expr x rest) = record { form = x; text = expression_text x } ∷ printed rest

  pub keyed : {m : _} → Row_of-Field m → List Keyed
  keyed end_of-Field = []
  keyed (more_of-Field key x rest) = record { key = key; text = expression_text x } ∷ keyed rest

  pub operated : {m : _} → Row_of-Operand m → List Operated
  operated end_of-Operand = []
  operated (more_of-Operand op x rest) = record { op = op; form = x; text = expression_text x } ∷ operated rest

  pub links_text : {m : _} → Row_of-Link m → Text
  links_text end_of-Link = []
  links_text (more_of-Link link rest) = link_text link ++ links_text rest

  pub link_text : Link → Text
  link_text (Link.Prop name) = codes "." ++ name
  link_text (Link.Index x) = codes "[" ++ (expression_text x ++ codes "]")
  link_text (Link.Call' _ all) = codes "(" ++ (commas (map text_of (printed all)) ++ codes ")")

  pub jsx_text : Jsx → Text
  jsx_text (Jsx' tag _ attributes _ children) = element_text tag (map attribute_text (keyed attributes)) (map child_text (printed children))

  -- a record after `=>` would be a block
  pub body_text : Body → Text
  body_text (Body.Value' _ (more_of-Expr x _)) = unless_bare (not (is_record x)) (expression_text x)
  body_text (Body_block' _ all) = block_text (statements_texts all)

  pub statement_text : Stmt → Text
  statement_text (Stmt.Const pattern x) = codes "const " ++ (pattern_text pattern ++ (codes " = " ++ (expression_text x ++ codes ";")))
  statement_text (Stmt.Let name x) = codes "let " ++ (name ++ (codes " = " ++ (expression_text x ++ codes ";")))
  statement_text (Stmt.Do x) = unless_bare (is_statement x) (expression_text x) ++ codes ";"
  statement_text (Stmt.Delete x) = codes "delete " ++ (expression_text x ++ codes ";")
  statement_text (Stmt.Return' None') = codes "return;"
  statement_text (Stmt.Return' (Some' x)) = codes "return " ++ (expression_text x ++ codes ";")
  statement_text (Stmt.If' x _ then _ otherwise) = codes "if (" ++ (expression_text x ++ (codes ") " ++ (block_text (statements_texts then) ++ else_text (statements_texts otherwise))))
  statement_text (Stmt.While' x _ all) = codes "while (" ++ (expression_text x ++ (codes ") " ++ block_text (statements_texts all)))
  statement_text (Stmt.ForOf' name x _ all) = codes "for (const " ++ (name ++ (codes " of " ++ (unless_bare (not (is_markup x)) (expression_text x) ++ (codes ") " ++ block_text (statements_texts all)))))
  statement_text Stmt.Break = codes "break;"
  statement_text Stmt.Continue = codes "continue;"
  statement_text (Statement_block' _ all) = block_text (statements_texts all)

  pub statements_texts : {m : _} → Row_of-Stmt m → List Text
  statements_texts end_of-Stmt = []
  statements_texts (more_of-Stmt statement rest) = statement_text statement ∷ statements_texts rest

-- ---- the module: a line for each import and item

abbrev pub import_text : Import → Text
import_text i = codes "import " ++ (braced i.names ++ (codes " from " ++ (quoted i.from ++ codes ";\n")))

abbrev pub export_text : Bool → Text
export_text true = codes "export "
export_text false = []

abbrev pub item_text : Item → Text
item_text i = export_text i.exported ++ (codes "const " ++ (i.name ++ (codes " = " ++ (expression_text i.init ++ codes ";\n"))))

abbrev pub print_text : Module → Text
print_text m = flat_map import_text m.imports ++ flat_map item_text m.items
