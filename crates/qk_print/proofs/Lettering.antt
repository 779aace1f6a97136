-- The texts of signs, words, names, and of what stands in quotes, each as one token.
use Rattle.std.specs.Prelude.{refl, Bool, true, false, [], ◌∷◌, ◌++◌, codes}
use Rattle.std.proofs.Common.{ap, sym, ◌∙◌}
use Rattle.std.proofs.lemmas.List.{append_assoc}
use Rattle.std.proofs.lemmas.Str.{encodes-append}
use Rattle.std.specs.Char.{encode_utf8}
use Rattle.qk_ast.specs.declared.Un.{Un}
use Rattle.qk_ast.specs.declared.Un.TheVariants as un
use Rattle.qk_ast.specs.declared.Bin.{Bin}
use Rattle.qk_ast.specs.declared.Bin.TheVariants as bin
use Rattle.qk_ast.specs.declared.AssignOp.{AssignOp}
use Rattle.qk_ast.specs.declared.AssignOp.TheVariants as assign
use Rattle.qk_ast.specs.Characters.{Characters}
use Rattle.qk_ast.specs.Tokens.{Token, Edge, written}
use Rattle.qk_ast.specs.Tree.{bytes}
use Rattle.qk_ast.specs.Spelling as spell
use Rattle.qk_ast.specs.Spelling.{Writing, ◌⨾◌, nothing, one, sign, word, name, begin, truth_word}
use Rattle.qk_print.specs.Letters.{Text, quoted, template_part, truth, un_sign, bin_sign, assign_sign, bump_sign}
use Rattle.qk_print.proofs.Rewriting.{text_pieces, template_pieces}
use Rattle.qk_print.proofs.Quoting.{text_spelled, template_spelled}
use Rattle.qk_print.proofs.Lines as lines
use Rattle.qk_print.proofs.Lines.{Line, ◌▹◌}
use Rattle.qk_print.proofs.Laying.{Lays_as, lays_then, lays_space, lays_one}

pub lays_open : Lays_as (lines.sign (codes "(")) (sign (codes "(")) (codes "(")
unfolding encode_utf8
lays_open = lays_one (Token.Punct (codes "(")) (codes "(") (λ R. refl)

pub lays_close : Lays_as (lines.sign (codes ")")) (sign (codes ")")) (codes ")")
unfolding encode_utf8
lays_close = lays_one (Token.Punct (codes ")")) (codes ")") (λ R. refl)

pub lays_square : Lays_as (lines.sign (codes "[")) (sign (codes "[")) (codes "[")
unfolding encode_utf8
lays_square = lays_one (Token.Punct (codes "[")) (codes "[") (λ R. refl)

pub lays_end_square : Lays_as (lines.sign (codes "]")) (sign (codes "]")) (codes "]")
unfolding encode_utf8
lays_end_square = lays_one (Token.Punct (codes "]")) (codes "]") (λ R. refl)

pub lays_brace : Lays_as (lines.sign (codes "{")) (sign (codes "{")) (codes "{")
unfolding encode_utf8
lays_brace = lays_one (Token.Punct (codes "{")) (codes "{") (λ R. refl)

pub lays_end_brace : Lays_as (lines.sign (codes "}")) (sign (codes "}")) (codes "}")
unfolding encode_utf8
lays_end_brace = lays_one (Token.Punct (codes "}")) (codes "}") (λ R. refl)

pub lays_dot : Lays_as (lines.sign (codes ".")) (sign (codes ".")) (codes ".")
unfolding encode_utf8
lays_dot = lays_one (Token.Punct (codes ".")) (codes ".") (λ R. refl)

pub lays_comma : Lays_as (lines.sign (codes ",")) (sign (codes ",")) (codes ",")
unfolding encode_utf8
lays_comma = lays_one (Token.Punct (codes ",")) (codes ",") (λ R. refl)

pub lays_semicolon : Lays_as (lines.sign (codes ";")) (sign (codes ";")) (codes ";")
unfolding encode_utf8
lays_semicolon = lays_one (Token.Punct (codes ";")) (codes ";") (λ R. refl)

pub lays_colon : Lays_as (lines.sign (codes ":")) (sign (codes ":")) (codes ":")
unfolding encode_utf8
lays_colon = lays_one (Token.Punct (codes ":")) (codes ":") (λ R. refl)

pub lays_question : Lays_as (lines.sign (codes "?")) (sign (codes "?")) (codes "?")
unfolding encode_utf8
lays_question = lays_one (Token.Punct (codes "?")) (codes "?") (λ R. refl)

pub lays_equals : Lays_as (lines.sign (codes "=")) (sign (codes "=")) (codes "=")
unfolding encode_utf8
lays_equals = lays_one (Token.Punct (codes "=")) (codes "=") (λ R. refl)

pub lays_arrow : Lays_as (lines.sign (codes "=>")) (sign (codes "=>")) (codes "=>")
unfolding encode_utf8
lays_arrow = lays_one (Token.Punct (codes "=>")) (codes "=>") (λ R. refl)

pub lays_slash : Lays_as (lines.sign (codes "/")) (sign (codes "/")) (codes "/")
unfolding encode_utf8
lays_slash = lays_one (Token.Punct (codes "/")) (codes "/") (λ R. refl)

pub lays_tag_end : Lays_as (lines.sign (codes ">")) (sign (codes ">")) (codes ">")
unfolding encode_utf8
lays_tag_end = lays_one (Token.Punct (codes ">")) (codes ">") (λ R. refl)

pub lays_tag_closed : Lays_as (lines.sign (codes "/>")) (sign (codes "/>")) (codes "/>")
unfolding encode_utf8
lays_tag_closed = lays_one (Token.Punct (codes "/>")) (codes "/>") (λ R. refl)

pub lays_tag_closing : Lays_as (lines.sign (codes "</")) (sign (codes "</")) (codes "</")
unfolding encode_utf8
lays_tag_closing = lays_one (Token.Punct (codes "</")) (codes "</") (λ R. refl)

pub lays_fragment_closing : Lays_as (lines.sign (codes "</>")) (sign (codes "</>")) (codes "</>")
unfolding encode_utf8
lays_fragment_closing = lays_one (Token.Punct (codes "</>")) (codes "</>") (λ R. refl)

pub lays_not : Lays_as (lines.sign (codes "!")) (sign (codes "!")) (codes "!")
unfolding encode_utf8
lays_not = lays_one (Token.Punct (codes "!")) (codes "!") (λ R. refl)

pub lays_minus : Lays_as (lines.sign (codes "-")) (sign (codes "-")) (codes "-")
unfolding encode_utf8
lays_minus = lays_one (Token.Punct (codes "-")) (codes "-") (λ R. refl)

pub lays_plus_plus : Lays_as (lines.sign (codes "++")) (sign (codes "++")) (codes "++")
unfolding encode_utf8
lays_plus_plus = lays_one (Token.Punct (codes "++")) (codes "++") (λ R. refl)

pub lays_minus_minus : Lays_as (lines.sign (codes "--")) (sign (codes "--")) (codes "--")
unfolding encode_utf8
lays_minus_minus = lays_one (Token.Punct (codes "--")) (codes "--") (λ R. refl)

pub lays_or : Lays_as (lines.sign (codes "||")) (sign (codes "||")) (codes "||")
unfolding encode_utf8
lays_or = lays_one (Token.Punct (codes "||")) (codes "||") (λ R. refl)

pub lays_and : Lays_as (lines.sign (codes "&&")) (sign (codes "&&")) (codes "&&")
unfolding encode_utf8
lays_and = lays_one (Token.Punct (codes "&&")) (codes "&&") (λ R. refl)

pub lays_coalesce : Lays_as (lines.sign (codes "??")) (sign (codes "??")) (codes "??")
unfolding encode_utf8
lays_coalesce = lays_one (Token.Punct (codes "??")) (codes "??") (λ R. refl)

pub lays_same : Lays_as (lines.sign (codes "===")) (sign (codes "===")) (codes "===")
unfolding encode_utf8
lays_same = lays_one (Token.Punct (codes "===")) (codes "===") (λ R. refl)

pub lays_not_same : Lays_as (lines.sign (codes "!==")) (sign (codes "!==")) (codes "!==")
unfolding encode_utf8
lays_not_same = lays_one (Token.Punct (codes "!==")) (codes "!==") (λ R. refl)

pub lays_less : Lays_as (lines.sign (codes "<")) (sign (codes "<")) (codes "<")
unfolding encode_utf8
lays_less = lays_one (Token.Punct (codes "<")) (codes "<") (λ R. refl)

pub lays_less_eq : Lays_as (lines.sign (codes "<=")) (sign (codes "<=")) (codes "<=")
unfolding encode_utf8
lays_less_eq = lays_one (Token.Punct (codes "<=")) (codes "<=") (λ R. refl)

pub lays_more : Lays_as (lines.sign (codes ">")) (sign (codes ">")) (codes ">")
unfolding encode_utf8
lays_more = lays_one (Token.Punct (codes ">")) (codes ">") (λ R. refl)

pub lays_more_eq : Lays_as (lines.sign (codes ">=")) (sign (codes ">=")) (codes ">=")
unfolding encode_utf8
lays_more_eq = lays_one (Token.Punct (codes ">=")) (codes ">=") (λ R. refl)

pub lays_add : Lays_as (lines.sign (codes "+")) (sign (codes "+")) (codes "+")
unfolding encode_utf8
lays_add = lays_one (Token.Punct (codes "+")) (codes "+") (λ R. refl)

pub lays_mul : Lays_as (lines.sign (codes "*")) (sign (codes "*")) (codes "*")
unfolding encode_utf8
lays_mul = lays_one (Token.Punct (codes "*")) (codes "*") (λ R. refl)

pub lays_rem : Lays_as (lines.sign (codes "%")) (sign (codes "%")) (codes "%")
unfolding encode_utf8
lays_rem = lays_one (Token.Punct (codes "%")) (codes "%") (λ R. refl)

pub lays_add_set : Lays_as (lines.sign (codes "+=")) (sign (codes "+=")) (codes "+=")
unfolding encode_utf8
lays_add_set = lays_one (Token.Punct (codes "+=")) (codes "+=") (λ R. refl)

pub lays_sub_set : Lays_as (lines.sign (codes "-=")) (sign (codes "-=")) (codes "-=")
unfolding encode_utf8
lays_sub_set = lays_one (Token.Punct (codes "-=")) (codes "-=") (λ R. refl)

pub lays_mul_set : Lays_as (lines.sign (codes "*=")) (sign (codes "*=")) (codes "*=")
unfolding encode_utf8
lays_mul_set = lays_one (Token.Punct (codes "*=")) (codes "*=") (λ R. refl)

pub lays_undefined : Lays_as (lines.word (codes "undefined")) (word (codes "undefined")) (codes "undefined")
unfolding encode_utf8
lays_undefined = lays_one (Token.Reserved (codes "undefined")) (codes "undefined") (λ R. refl)

pub lays_null : Lays_as (lines.word (codes "null")) (word (codes "null")) (codes "null")
unfolding encode_utf8
lays_null = lays_one (Token.Reserved (codes "null")) (codes "null") (λ R. refl)

pub lays_true : Lays_as (lines.word (codes "true")) (word (codes "true")) (codes "true")
unfolding encode_utf8
lays_true = lays_one (Token.Reserved (codes "true")) (codes "true") (λ R. refl)

pub lays_false : Lays_as (lines.word (codes "false")) (word (codes "false")) (codes "false")
unfolding encode_utf8
lays_false = lays_one (Token.Reserved (codes "false")) (codes "false") (λ R. refl)

pub lays_const : Lays_as (lines.word (codes "const")) (word (codes "const")) (codes "const")
unfolding encode_utf8
lays_const = lays_one (Token.Reserved (codes "const")) (codes "const") (λ R. refl)

pub lays_let : Lays_as (lines.word (codes "let")) (word (codes "let")) (codes "let")
unfolding encode_utf8
lays_let = lays_one (Token.Reserved (codes "let")) (codes "let") (λ R. refl)

pub lays_return : Lays_as (lines.word (codes "return")) (word (codes "return")) (codes "return")
unfolding encode_utf8
lays_return = lays_one (Token.Reserved (codes "return")) (codes "return") (λ R. refl)

pub lays_if : Lays_as (lines.word (codes "if")) (word (codes "if")) (codes "if")
unfolding encode_utf8
lays_if = lays_one (Token.Reserved (codes "if")) (codes "if") (λ R. refl)

pub lays_else : Lays_as (lines.word (codes "else")) (word (codes "else")) (codes "else")
unfolding encode_utf8
lays_else = lays_one (Token.Reserved (codes "else")) (codes "else") (λ R. refl)

pub lays_while : Lays_as (lines.word (codes "while")) (word (codes "while")) (codes "while")
unfolding encode_utf8
lays_while = lays_one (Token.Reserved (codes "while")) (codes "while") (λ R. refl)

pub lays_for : Lays_as (lines.word (codes "for")) (word (codes "for")) (codes "for")
unfolding encode_utf8
lays_for = lays_one (Token.Reserved (codes "for")) (codes "for") (λ R. refl)

pub lays_break : Lays_as (lines.word (codes "break")) (word (codes "break")) (codes "break")
unfolding encode_utf8
lays_break = lays_one (Token.Reserved (codes "break")) (codes "break") (λ R. refl)

pub lays_continue : Lays_as (lines.word (codes "continue")) (word (codes "continue")) (codes "continue")
unfolding encode_utf8
lays_continue = lays_one (Token.Reserved (codes "continue")) (codes "continue") (λ R. refl)

pub lays_delete : Lays_as (lines.word (codes "delete")) (word (codes "delete")) (codes "delete")
unfolding encode_utf8
lays_delete = lays_one (Token.Reserved (codes "delete")) (codes "delete") (λ R. refl)

pub lays_import : Lays_as (lines.word (codes "import")) (word (codes "import")) (codes "import")
unfolding encode_utf8
lays_import = lays_one (Token.Reserved (codes "import")) (codes "import") (λ R. refl)

pub lays_export : Lays_as (lines.word (codes "export")) (word (codes "export")) (codes "export")
unfolding encode_utf8
lays_export = lays_one (Token.Reserved (codes "export")) (codes "export") (λ R. refl)

pub lays_console : Lays_as (lines.name (codes "console")) (name (codes "console")) (codes "console")
unfolding encode_utf8
lays_console = lays_one (Token.Name (codes "console")) (codes "console") (λ R. refl)

pub lays_log : Lays_as (lines.name (codes "log")) (name (codes "log")) (codes "log")
unfolding encode_utf8
lays_log = lays_one (Token.Name (codes "log")) (codes "log") (λ R. refl)

pub lays_Object : Lays_as (lines.name (codes "Object")) (name (codes "Object")) (codes "Object")
unfolding encode_utf8
lays_Object = lays_one (Token.Name (codes "Object")) (codes "Object") (λ R. refl)

pub lays_keys : Lays_as (lines.name (codes "keys")) (name (codes "keys")) (codes "keys")
unfolding encode_utf8
lays_keys = lays_one (Token.Name (codes "keys")) (codes "keys") (λ R. refl)

pub lays_String : Lays_as (lines.name (codes "String")) (name (codes "String")) (codes "String")
unfolding encode_utf8
lays_String = lays_one (Token.Name (codes "String")) (codes "String") (λ R. refl)

pub lays_Math : Lays_as (lines.name (codes "Math")) (name (codes "Math")) (codes "Math")
unfolding encode_utf8
lays_Math = lays_one (Token.Name (codes "Math")) (codes "Math") (λ R. refl)

pub lays_trunc : Lays_as (lines.name (codes "trunc")) (name (codes "trunc")) (codes "trunc")
unfolding encode_utf8
lays_trunc = lays_one (Token.Name (codes "trunc")) (codes "trunc") (λ R. refl)

pub lays_of : Lays_as (lines.name (codes "of")) (name (codes "of")) (codes "of")
unfolding encode_utf8
lays_of = lays_one (Token.Name (codes "of")) (codes "of") (λ R. refl)

pub lays_from : Lays_as (lines.name (codes "from")) (name (codes "from")) (codes "from")
unfolding encode_utf8
lays_from = lays_one (Token.Name (codes "from")) (codes "from") (λ R. refl)

pub lays_tag : Lays_as (lines.begin (codes "<")) (begin (codes "<")) (codes "<")
unfolding encode_utf8
lays_tag = lays_one (Token.Begin (codes "<")) (codes "<") (λ R. refl)

pub lays_fragment : Lays_as (lines.begin (codes "<>")) (begin (codes "<>")) (codes "<>")
unfolding encode_utf8
lays_fragment = lays_one (Token.Begin (codes "<>")) (codes "<>") (λ R. refl)

pub lays_name : (a : Characters) → Lays_as (lines.name a) (name a) (bytes a)
lays_name a = lays_one (Token.Name a) (bytes a) (λ R. encodes-append a (written R []))

pub lays_reserved : (a : Characters) → Lays_as (lines.word a) (word a) (bytes a)
lays_reserved a = lays_one (Token.Reserved a) (bytes a) (λ R. encodes-append a (written R []))

pub lays_int : (digits : Characters) → Lays_as (lines.put (Token.Int digits)) (one (Token.Int digits)) (bytes digits)
lays_int digits = lays_one (Token.Int digits) (bytes digits) (λ R. encodes-append digits (written R []))

pub lays_quoted : (cs : Characters) → Lays_as (lines.put (Token.Text 34 (text_pieces cs))) (one (Token.Text 34 (text_pieces cs))) (quoted (bytes cs))
unfolding encode_utf8
lays_quoted cs = lays_one (Token.Text 34 (text_pieces cs)) (quoted (bytes cs)) (λ R. ap (λ x. 34 ∷ x) (text_spelled cs (34 ∷ written R []) ∙ sym (append_assoc _ (34 ∷ []) _)))

pub lays_whole : (cs : Characters) → Lays_as (lines.put (Token.Template Edge.Backquote (template_pieces cs) Edge.Backquote)) (one (Token.Template Edge.Backquote (template_pieces cs) Edge.Backquote)) (codes "`" ++ (template_part (bytes cs) ++ codes "`"))
unfolding encode_utf8
lays_whole cs = lays_one _ (codes "`" ++ (template_part (bytes cs) ++ codes "`")) (λ R. ap (λ x. 96 ∷ x) (template_spelled cs (96 ∷ written R []) ∙ sym (append_assoc _ (96 ∷ []) _)))

pub lays_first_part : (cs : Characters) → Lays_as (lines.put (Token.Template Edge.Backquote (template_pieces cs) Edge.Hole)) (one (Token.Template Edge.Backquote (template_pieces cs) Edge.Hole)) (codes "`" ++ (template_part (bytes cs) ++ codes "${"))
unfolding encode_utf8
lays_first_part cs = lays_one _ (codes "`" ++ (template_part (bytes cs) ++ codes "${")) (λ R. ap (λ x. 96 ∷ x) (template_spelled cs (36 ∷ 123 ∷ written R []) ∙ sym (append_assoc _ (36 ∷ 123 ∷ []) _)))

pub lays_later_part : (cs : Characters) → Lays_as (lines.put (Token.Template Edge.Hole (template_pieces cs) Edge.Hole)) (one (Token.Template Edge.Hole (template_pieces cs) Edge.Hole)) (codes "}" ++ (template_part (bytes cs) ++ codes "${"))
unfolding encode_utf8
lays_later_part cs = lays_one _ (codes "}" ++ (template_part (bytes cs) ++ codes "${")) (λ R. ap (λ x. 125 ∷ x) (template_spelled cs (36 ∷ 123 ∷ written R []) ∙ sym (append_assoc _ (36 ∷ 123 ∷ []) _)))

pub lays_last_part : (cs : Characters) → Lays_as (lines.put (Token.Template Edge.Hole (template_pieces cs) Edge.Backquote)) (one (Token.Template Edge.Hole (template_pieces cs) Edge.Backquote)) (codes "}" ++ (template_part (bytes cs) ++ codes "`"))
unfolding encode_utf8
lays_last_part cs = lays_one _ (codes "}" ++ (template_part (bytes cs) ++ codes "`")) (λ R. ap (λ x. 125 ∷ x) (template_spelled cs (96 ∷ written R []) ∙ sym (append_assoc _ (96 ∷ []) _)))

-- ---- signs of operators, with their spaces

pub lays_truth : (b : Bool) → Lays_as (lines.truth_line b) (truth_word b) (truth b)
lays_truth true = lays_true
lays_truth false = lays_false

pub lays_un : (op : Un) → Lays_as (lines.un_line op) (spell.un_sign op) (un_sign op)
lays_un un.Not = lays_not
lays_un un.Neg = lays_minus

pub lays_bump : (up : Bool) → Lays_as (lines.bump_line up) (spell.bump_sign up) (bump_sign up)
lays_bump true = lays_plus_plus
lays_bump false = lays_minus_minus

-- between spaces
pub lays_apart : {l : Line} {w : Writing} {t : Text} → Lays_as l w t → Lays_as (lines.apart l) w (codes " " ++ (t ++ codes " "))
lays_apart {l} {w} {t} h = lays_then nothing (w ⨾ nothing) (codes " ") (t ++ codes " ") lays_space (lays_then w nothing t (codes " ") h lays_space)

pub lays_bin : (op : Bin) → Lays_as (lines.bin_line op) (spell.bin_sign op) (bin_sign op)
lays_bin bin.Or = lays_apart lays_or
lays_bin bin.And = lays_apart lays_and
lays_bin bin.Coalesce = lays_apart lays_coalesce
lays_bin bin.Same = lays_apart lays_same
lays_bin bin.NotSame = lays_apart lays_not_same
lays_bin bin.Less = lays_apart lays_less
lays_bin bin.LessEq = lays_apart lays_less_eq
lays_bin bin.More = lays_apart lays_more
lays_bin bin.MoreEq = lays_apart lays_more_eq
lays_bin bin.Add = lays_apart lays_add
lays_bin bin.Sub = lays_apart lays_minus
lays_bin bin.Mul = lays_apart lays_mul
lays_bin bin.Rem = lays_apart lays_rem

pub lays_assign : (op : AssignOp) → Lays_as (lines.assign_line op) (spell.assign_sign op) (assign_sign op)
lays_assign assign.Set = lays_apart lays_equals
lays_assign assign.Add = lays_apart lays_add_set
lays_assign assign.Sub = lays_apart lays_sub_set
lays_assign assign.Mul = lays_apart lays_mul_set
