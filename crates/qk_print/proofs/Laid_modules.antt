-- The tokens of a printed module, laid out in lines, spell its text.
use Rattle.std.specs.Prelude.{ℕ, ◌+◌, Bool, true, false, List, [], ◌∷◌, ◌++◌, map, codes, flat_map}
use Rattle.qk_ast.specs.Characters.{Characters}
use Rattle.qk_ast.specs.Tokens.{Token, piece_value}
use Rattle.qk_ast.specs.Tree.{bytes, arrows, tree, names_tree, import_tree, items_tree, module_tree}
use Rattle.qk_print.specs.Printing.{expression_text, import_text, item_text, print_text}
use Rattle.qk_ast.specs.Spelling.{import_tokens, imports_tokens, item_tokens, items_tokens, module_tokens}
use Rattle.qk_print.proofs.Lines as lines
use Rattle.qk_print.proofs.Lines.{module_line}
use Rattle.qk_print.proofs.Laying.{Lays, Lays_as, lays_by_line, lays_nothing, lays_space, lays_feed}
use Rattle.qk_print.proofs.Lettering as x
use Rattle.qk_print.proofs.Laid_parts.{Numbers, ◌⊹◌, names_numbers, lays_braced, some_names, names_laid}
use Rattle.qk_print.proofs.Laid.{laid}
use Rattle.qk_ast.specs.Grammar.{Expression, Import_line, Item_line, Module_text}
use Rattle.qk_print.proofs.Rewriting.{built, built_import, built_item, built_module}
use Rattle.qk_ast.specs.Spelling.{◌⨾◌, tokens, sign, name, word}

import_laid : (i : Import_line) → Lays_as (lines.import_line (built_import i)) (import_tokens (built_import i)) (import_text (import_tree i))
import_laid i = (x.lays_import ⊹ lays_space) ⊹ (lays_braced false _ (names_tree i.names) (some_names i.names) (names_laid i.names) ⊹ (x.lays_apart x.lays_from ⊹ (x.lays_quoted (map piece_value i.source) ⊹ (x.lays_semicolon ⊹ lays_feed))))

imports_laid : (is : List Import_line) (R : List Token) → Numbers (imports_tokens is R) → Lays_as (lines.imports_line (map built_import is)) (imports_tokens (map built_import is)) (flat_map import_text (map import_tree is)) × Numbers R
imports_laid [] R g = (lays_nothing, g)
imports_laid (i ∷ is) R g = let d = imports_laid is R (names_numbers i.names _ g) in (import_laid i ⊹ d.0, d.1)

value_laid : (a : Characters) (v : Expression) (n : ℕ) → Lays_as (lines.line (built v)) (tokens (built v)) (expression_text (tree n v))
    → Lays_as (lines.value_line a (built v)) (word (codes "const") ⨾ name a ⨾ sign (codes "=") ⨾ tokens (built v) ⨾ sign (codes ";")) (codes "const " ++ (bytes a ++ (codes " = " ++ (expression_text (tree n v) ++ codes ";\n"))))
value_laid a v n h = (x.lays_const ⊹ lays_space) ⊹ (x.lays_name a ⊹ (x.lays_apart x.lays_equals ⊹ (h ⊹ (x.lays_semicolon ⊹ lays_feed))))

item_laid : (exported : Bool) (a : Characters) (v : Expression) (n : ℕ) (R : List Token) → Numbers (item_tokens (record { exported = exported; name = a; value = v }) R)
    → Lays_as (lines.item_line (record { exported = exported; name = a; value = built v })) (item_tokens (record { exported = exported; name = a; value = built v })) (item_text (record { exported = exported; name = bytes a; init = tree n v })) × Numbers R
item_laid true a v n R g = let c = laid v n (Token.Punct (codes ";") ∷ R) g in ((x.lays_export ⊹ lays_space) ⊹ value_laid a v n c.0, c.1)
item_laid false a v n R g = let c = laid v n (Token.Punct (codes ";") ∷ R) g in (value_laid a v n c.0, c.1)

items_laid : (is : List Item_line) (n : ℕ) (R : List Token) → Numbers (items_tokens is R) → Lays_as (lines.items_line (map built_item is)) (items_tokens (map built_item is)) (flat_map item_text (items_tree n is)) × Numbers R
items_laid [] n R g = (lays_nothing, g)
items_laid (i ∷ is) n R g = let c = item_laid i.exported i.name i.value n (items_tokens is R) g in let d = items_laid is (n + arrows (tokens i.value)) R c.1 in (c.0 ⊹ d.0, d.1)

pub module_laid_as : (m : Module_text) → Numbers (module_tokens m) → Lays_as (module_line (built_module m)) (imports_tokens (map built_import m.imports) ⨾ items_tokens (map built_item m.items)) (print_text (module_tree m))
module_laid_as m g = let c = imports_laid m.imports (items_tokens m.items []) g in let d = items_laid m.items 0 [] c.1 in c.0 ⊹ d.0

abbrev pub module_laid : (m : Module_text) → Numbers (module_tokens m) → Lays (imports_tokens (map built_import m.imports) ⨾ items_tokens (map built_item m.items)) (print_text (module_tree m))
module_laid m g = lays_by_line (module_line (built_module m)) _ _ (module_laid_as m g)
