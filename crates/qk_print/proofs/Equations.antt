-- The text of each form, over the lists that it holds.
use Rattle.std.specs.Prelude.{◌≡◌, refl, ℕ, Bool, not, ◌&&◌, List, [], ◌∷◌, ◌++◌, map, Option, Some, None, codes, flat_map}
use Rattle.std.proofs.Common.{ap, ◌∙◌, sym}
use denote.Hole.Carrier.{hidden, roll}
use Rattle.qk_ast.specs.declared.Body.TheBlock.{shape-the_row-Expr-0, hidden-the_row-Expr-0, hidden-the_row-Expr-2, hidden-the_row-Stmt-1, hidden-the_row-Field-3, hidden-the_row-Operand-4, hidden-the_row-Link-5, shape-the_row-Arrow-6, hidden-the_row-Arrow-6, shape-the_row-Jsx-7, hidden-the_row-Jsx-7}
use Rattle.qk_ast.specs.declared.Expr.{Expr}
use Rattle.qk_ast.specs.declared.Expr.TheVariants as e
use Rattle.qk_ast.specs.declared.Stmt.{Stmt}
use Rattle.qk_ast.specs.declared.Stmt.TheVariants as s
use Rattle.qk_ast.specs.declared.Link.{Link}
use Rattle.qk_ast.specs.declared.Link.TheVariants as l
use Rattle.qk_ast.specs.declared.Body.TheVariants as b
use Rattle.qk_ast.specs.declared.Body.{Body}
use Rattle.qk_ast.specs.declared.Tag.{Tag}
use Rattle.qk_ast.specs.declared.Un.{Un}
use Rattle.qk_ast.specs.declared.AssignOp.{AssignOp}
use Rattle.qk_ast.specs.declared.Known.{Known}
use Rattle.qk_ast.specs.declared.Pattern.{Pattern}
use Rattle.qk_ast.specs.declared.Jsx.{Jsx, roll-Jsx, out-Jsx, roll-out-Jsx}
use Rattle.qk_ast.specs.declared.Field.{Field}
use Rattle.qk_ast.specs.declared.Operand.{Operand}
use Rattle.qk_print.specs.Letters.{Text, commas, braced, unless_bare, parts_and_holes, un_sign, assign_sign, bump_sign}
use Rattle.qk_print.specs.Lists.{printed_of, keyed_of, operated_of, expressions_text, statements_text, last_is_return}
use Rattle.qk_ast.specs.declared.Bin.{Bin}
use Rattle.qk_print.specs.Shapes.{ends_in_return, is_less, is_record, is_markup, is_head, is_operand, is_right_side}
use Rattle.qk_print.specs.Printing.{expression_text, printed, keyed, operated, links_text, link_text, jsx_text, body_text, statement_text, statements_texts, text_of, operand_text, field_text, attribute_text, hole_text, child_text, known_text, first_operator, operands_text, element_text, block_text, else_text, pattern_text}

-- ---- rows are their lists

printed_row : (xs : List Expr) → printed (hidden-the_row-Expr-2 xs) ≡ map printed_of xs
unfolding hidden-the_row-Expr-2 hidden
printed_row [] = refl
printed_row (x ∷ xs) = ap (λ ps. printed_of x ∷ ps) (printed_row xs)

keyed_row : (fs : List Field) → keyed (hidden-the_row-Field-3 fs) ≡ map keyed_of fs
unfolding hidden-the_row-Field-3 hidden
keyed_row [] = refl
keyed_row (f ∷ fs) = ap (λ ps. keyed_of f ∷ ps) (keyed_row fs)

operated_row : (os : List Operand) → operated (hidden-the_row-Operand-4 os) ≡ map operated_of os
unfolding hidden-the_row-Operand-4 hidden
operated_row [] = refl
operated_row (o ∷ os) = ap (λ ps. operated_of o ∷ ps) (operated_row os)

links_row : (ls : List Link) → links_text (hidden-the_row-Link-5 ls) ≡ flat_map link_text ls
unfolding hidden-the_row-Link-5 hidden
links_row [] = refl
links_row (l ∷ ls) = ap (λ t. link_text l ++ t) (links_row ls)

statements_row : (ss : List Stmt) → statements_texts (hidden-the_row-Stmt-1 ss) ≡ map statement_text ss
unfolding hidden-the_row-Stmt-1 hidden
statements_row [] = refl
statements_row (s ∷ ss) = ap (λ ts. statement_text s ∷ ts) (statements_row ss)

last_row : (ls : List Link) → ends_in_return (hidden-the_row-Link-5 ls) ≡ last_is_return ls
unfolding hidden-the_row-Link-5 hidden
last_row [] = refl
last_row (l ∷ []) = refl
last_row (l ∷ m ∷ ls) = last_row (m ∷ ls)

pub texts_are : (xs : List Expr) → map text_of (map printed_of xs) ≡ map expression_text xs
texts_are [] = refl
texts_are (x ∷ xs) = ap (λ ts. expression_text x ∷ ts) (texts_are xs)

-- ---- expressions

pub operand_of_post : (next : Option Bin) (x : Expr) (ls : List Link) → is_operand next (e.Post x ls) ≡ not (is_less next && last_is_return ls)
operand_of_post next x ls = ap (λ b. not (is_less next && b)) (last_row ls)

pub text_of_list : (xs : List Expr) → expression_text (e.List xs) ≡ codes "[" ++ (expressions_text xs ++ codes "]")
text_of_list xs = ap (λ ps. codes "[" ++ (commas (map text_of ps) ++ codes "]")) (printed_row xs) ∙ ap (λ ts. codes "[" ++ (commas ts ++ codes "]")) (texts_are xs)

pub text_of_record : (fs : List Field) → expression_text (e.Record fs) ≡ braced (map field_text (map keyed_of fs))
text_of_record fs = ap (λ ps. braced (map field_text ps)) (keyed_row fs)

pub text_of_template : (parts : List Text) (xs : List Expr) → expression_text (e.Template parts xs) ≡ codes "`" ++ (parts_and_holes parts (map hole_text (map printed_of xs)) ++ codes "`")
text_of_template parts xs = ap (λ ps. codes "`" ++ (parts_and_holes parts (map hole_text ps) ++ codes "`")) (printed_row xs)

pub text_of_unary : (op : Un) (x : Expr) → expression_text (e.Unary op x) ≡ un_sign op ++ operand_text None (printed_of x)
unfolding shape-the_row-Expr-0 hidden-the_row-Expr-0 hidden
text_of_unary op x = refl

pub text_of_chain : (x : Expr) (os : List Operand) → expression_text (e.Chain x os) ≡ operand_text (first_operator (map operated_of os)) (printed_of x) ++ operands_text (map operated_of os)
unfolding shape-the_row-Expr-0 hidden-the_row-Expr-0 hidden
text_of_chain x os = ap (λ ps. operand_text (first_operator ps) (printed_of x) ++ operands_text ps) (operated_row os)

pub text_of_choice : (a b c : Expr) → expression_text (e.Cond a b c) ≡ operand_text None (printed_of a) ++ (codes " ? " ++ (operand_text None (printed_of b) ++ (codes " : " ++ operand_text None (printed_of c))))
unfolding shape-the_row-Expr-0 hidden-the_row-Expr-0 hidden
text_of_choice a b c = refl

pub text_of_post : (x : Expr) (ls : List Link) → expression_text (e.Post x ls) ≡ unless_bare (is_head x) (expression_text x) ++ flat_map link_text ls
unfolding shape-the_row-Expr-0 hidden-the_row-Expr-0 hidden
text_of_post x ls = ap (λ t. unless_bare (is_head x) (expression_text x) ++ t) (links_row ls)

pub text_of_assign : (op : AssignOp) (target x : Expr) → expression_text (e.Assign op target x) ≡ expression_text target ++ (assign_sign op ++ unless_bare (is_right_side op x) (expression_text x))
unfolding shape-the_row-Expr-0 hidden-the_row-Expr-0 hidden
text_of_assign op target x = refl

pub text_of_step : (up : Bool) (target : Expr) → expression_text (e.Step up target) ≡ expression_text target ++ bump_sign up
unfolding shape-the_row-Expr-0 hidden-the_row-Expr-0 hidden
text_of_step up target = refl

pub text_of_known : (known : Known) (xs : List Expr) → expression_text (e.Known known xs) ≡ known_text known (map printed_of xs)
text_of_known known xs = ap (known_text known) (printed_row xs)

pub text_of_arrow : (place : ℕ) (params : List Pattern) (body : Body) → expression_text (e.Arrow (record { place = place; params = params; body = body }))
    ≡ codes "(" ++ (commas (map pattern_text params) ++ (codes ") => " ++ body_text body))
unfolding shape-the_row-Arrow-6 hidden-the_row-Arrow-6 hidden
text_of_arrow place params body = refl

pub text_of_markup : (jsx : Jsx) → expression_text (e.Jsx jsx) ≡ jsx_text jsx
unfolding shape-the_row-Jsx-7 hidden-the_row-Jsx-7 hidden
text_of_markup jsx = refl

-- ---- what expressions hold

pub text_of_call : (xs : List Expr) → link_text (l.Call xs) ≡ codes "(" ++ (expressions_text xs ++ codes ")")
text_of_call xs = ap (λ ps. codes "(" ++ (commas (map text_of ps) ++ codes ")")) (printed_row xs) ∙ ap (λ ts. codes "(" ++ (commas ts ++ codes ")")) (texts_are xs)

pub text_of_element : (tag : Tag) (fs : List Field) (xs : List Expr) → jsx_text (roll-Jsx (record { tag = tag; attrs = fs; children = xs }))
    ≡ element_text tag (map attribute_text (map keyed_of fs)) (map child_text (map printed_of xs))
unfolding roll-Jsx hidden roll
text_of_element tag fs xs = ap (λ ps. element_text tag (map attribute_text ps) (map child_text (printed (hidden-the_row-Expr-2 xs)))) (keyed_row fs)
    ∙ ap (λ ps. element_text tag (map attribute_text (map keyed_of fs)) (map child_text ps)) (printed_row xs)

pub text_of_jsx : (jsx : Jsx) → jsx_text jsx ≡ element_text (out-Jsx jsx).tag (map attribute_text (map keyed_of (out-Jsx jsx).attrs)) (map child_text (map printed_of (out-Jsx jsx).children))
text_of_jsx jsx = ap jsx_text (sym (roll-out-Jsx jsx)) ∙ text_of_element (out-Jsx jsx).tag (out-Jsx jsx).attrs (out-Jsx jsx).children

pub text_of_value : (x : Expr) → body_text (b.Value x) ≡ unless_bare (not (is_record x)) (expression_text x)
unfolding shape-the_row-Expr-0 hidden-the_row-Expr-0 hidden
text_of_value x = refl

pub text_of_body : (ss : List Stmt) → body_text (b.Block ss) ≡ statements_text ss
text_of_body ss = ap block_text (statements_row ss)

-- ---- statements

pub text_of_return : statement_text (s.Return None) ≡ codes "return;"
text_of_return = refl

pub text_of_return_value : (x : Expr) → statement_text (s.Return (Some x)) ≡ codes "return " ++ (expression_text x ++ codes ";")
text_of_return_value x = refl

pub text_of_if : (x : Expr) (ss ts : List Stmt) → statement_text (s.If x ss ts)
    ≡ codes "if (" ++ (expression_text x ++ (codes ") " ++ (statements_text ss ++ else_text (map statement_text ts))))
text_of_if x ss ts = ap (λ us. codes "if (" ++ (expression_text x ++ (codes ") " ++ (block_text us ++ else_text (statements_texts (hidden-the_row-Stmt-1 ts)))))) (statements_row ss)
    ∙ ap (λ us. codes "if (" ++ (expression_text x ++ (codes ") " ++ (statements_text ss ++ else_text us)))) (statements_row ts)

pub text_of_while : (x : Expr) (ss : List Stmt) → statement_text (s.While x ss) ≡ codes "while (" ++ (expression_text x ++ (codes ") " ++ statements_text ss))
text_of_while x ss = ap (λ us. codes "while (" ++ (expression_text x ++ (codes ") " ++ block_text us))) (statements_row ss)

pub text_of_for : (name : Text) (x : Expr) (ss : List Stmt) → statement_text (s.ForOf name x ss)
    ≡ codes "for (const " ++ (name ++ (codes " of " ++ (unless_bare (not (is_markup x)) (expression_text x) ++ (codes ") " ++ statements_text ss))))
text_of_for name x ss = ap (λ us. codes "for (const " ++ (name ++ (codes " of " ++ (unless_bare (not (is_markup x)) (expression_text x) ++ (codes ") " ++ block_text us))))) (statements_row ss)

pub text_of_block : (ss : List Stmt) → statement_text (s.Block ss) ≡ statements_text ss
text_of_block ss = ap block_text (statements_row ss)
