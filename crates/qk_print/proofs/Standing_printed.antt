-- The tokens of a printed module stand where they are printed.
use Rattle.std.specs.Prelude.{◌≡◌, refl, Bool, true, false, Option, None, List, [], ◌∷◌, map, codes}
use Rattle.std.proofs.Common.{subst}
use Rattle.qk_ast.specs.declared.Form.TheVariants.{Source}
use Rattle.qk_ast.specs.Characters.{Characters}
use Rattle.qk_ast.specs.Tokens.{Token, Written, Braces, piece_value, stands, tokens_of}
use Rattle.qk_ast.specs.Rules.{keeps, items_keep, module_keeps}
use Rattle.qk_ast.specs.Grammar.{Expression, Import_line, Item_line, Module_text}
use Rattle.qk_ast.specs.Spelling.{tokens, import_tokens, imports_tokens, item_tokens, items_tokens, module_tokens}
use Rattle.qk_print.proofs.Rewriting.{built, built_import, built_item, built_module}
use Rattle.qk_print.proofs.Lines.{Line, import_line, imports_line, value_line, item_line, items_line, module_line}
use Rattle.qk_print.proofs.Fitting.{Fit, text_fits, said, past, past_sign, past_brace}
use Rattle.qk_print.proofs.Pieces_stand.{text_stands}
use Rattle.qk_print.proofs.Neighbours.{At, fed, code_token, keyword, name_apart, code_sign, code_apart}
use Rattle.qk_print.proofs.Stands_parts.{inside, braced_stands}
use Rattle.qk_print.proofs.Stands.{names_stand, stood}

-- It may stand in the code of the module.
record Outermost (l : Line) : Type 0 where
  here : {before : Option Token} (R : Written) → ((last : Option Token) → At [] last R) → At [] before (l R)

nothing_stands : Outermost (λ R. R)
nothing_stands = record { here = λ R k. k _ }

import_stands : (i : Import_line) (R : List Token) → Fit [] (import_tokens i R) → Outermost (import_line (built_import i)) × Fit [] R
import_stands i R h = let n = names_stand i.names (Braces ∷ []) _ refl (past_brace refl (past h)) in (
  record {
    here = λ Q k. keyword (codes "import") refl refl ((braced_stands false _ n.0).here _ refl refl (λ u. name_apart (codes "from") refl refl refl
        (code_token refl (refl, text_stands (map piece_value i.source)) (code_sign (codes ";") refl refl refl refl (fed (k _))))));
  },
  past_sign refl refl refl (past (past (past n.1))),
)

imports_stand : (is : List Import_line) (R : List Token) → Fit [] (imports_tokens is R) → Outermost (imports_line (map built_import is)) × Fit [] R
imports_stand [] R h = (nothing_stands, h)
imports_stand (i ∷ is) R h = let s = import_stands i (imports_tokens is R) h in let m = imports_stand is R s.1 in (record { here = λ Q k. s.0.here _ (λ u. m.0.here Q k) }, m.1)

value_stands : (a : Characters) (v : Expression) (R : List Token) → keeps Source v → Fit [] (Token.Reserved (codes "const") ∷ Token.Name a ∷ Token.Punct (codes "=") ∷ tokens v (Token.Punct (codes ";") ∷ R)) → Outermost (value_line a (built v)) × Fit [] R
value_stands a v R p h = let f = said refl (past h) in let s = stood v [] (Token.Punct (codes ";") ∷ R) refl p (past_sign refl refl refl (past (past h))) in
    (record { here = λ Q k. keyword (codes "const") refl refl (code_token refl (f.0, f.1, refl) (code_apart (codes "=") refl refl refl (λ cs. refl) (inside (built v) s.0 refl refl refl (λ u q. code_sign (codes ";") refl refl refl refl (fed (k _)))))) }, past_sign refl refl refl s.1)

item_stands : (exported : Bool) (a : Characters) (v : Expression) (R : List Token) → keeps Source v → Fit [] (item_tokens (record { exported = exported; name = a; value = v }) R)
    → Outermost (item_line (record { exported = exported; name = a; value = built v })) × Fit [] R
item_stands true a v R p h = let s = value_stands a v R p (past h) in (record { here = λ Q k. keyword (codes "export") refl refl (s.0.here Q k) }, s.1)
item_stands false a v R p h = value_stands a v R p h

items_stand : (is : List Item_line) (R : List Token) → items_keep Source is → Fit [] (items_tokens is R) → Outermost (items_line (map built_item is)) × Fit [] R
items_stand [] R p h = (nothing_stands, h)
items_stand (i ∷ is) R p h = let s = item_stands i.exported i.name i.value (items_tokens is R) p.0 h in let m = items_stand is R p.1 s.1 in (record { here = λ Q k. s.0.here _ (λ u. m.0.here Q k) }, m.1)

pub printed_stands : (m : Module_text) (w : Written) → stands [] None w [] → tokens_of w ≡ module_tokens m → module_keeps Source m → stands [] None (module_line (built_module m) (Written.End [])) []
printed_stands m w h e p =
    let fit = subst (Fit []) e (text_fits w [] None [] h) in
    let imports = imports_stand m.imports (items_tokens m.items []) fit in
    let items = items_stand m.items [] p imports.1 in
    let all : At [] None (module_line (built_module m) (Written.End [])) = imports.0.here _ (λ u. items.0.here _ (λ v. record { stand = refl })) in
    all.stand
