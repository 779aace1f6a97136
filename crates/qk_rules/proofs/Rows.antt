-- The rows of trees as the lists that they hold.
use Rattle.std.specs.Prelude.{◌≡◌, refl, Bool, List, [], ◌∷◌, ◌==◌, ◌&&◌, length, Option}
use Rattle.std.proofs.Common.{sym, ◌∙◌, ap, arith}
use denote.Hole.Carrier.{hidden}
use Rattle.qk_ast.specs.declared.Body.TheBlock.{shape-the_row-Expr-0, hidden-the_row-Expr-0, hidden-the_row-Expr-2, hidden-the_row-Link-5}
use Rattle.qk_ast.specs.declared.Expr.{Expr}
use Rattle.qk_ast.specs.declared.Expr.TheVariants as e
use Rattle.qk_ast.specs.declared.Link.{Link}
use Rattle.qk_ast.specs.declared.Link.TheVariants as l
use Rattle.qk_ast.specs.Texts.{Text}
use Rattle.qk_ast.specs.Mentions.{name_in}
use Rattle.qk_ast.specs.Spots.{Called, With, arguments_of, called, is_last, is_hook_call, is_named, is_whole_call, statement_hooks}
use Rattle.qk_rules.specs.Standings.{called_by, is_none_left}

pub arguments_row : (xs : List Expr) → arguments_of (hidden-the_row-Expr-2 xs) ≡ xs
unfolding hidden-the_row-Expr-2 hidden
arguments_row [] = refl
arguments_row (x ∷ xs) = ap (λ rest. x ∷ rest) (arguments_row xs)

last_row : (ls : List Link) → is_last (hidden-the_row-Link-5 ls) ≡ is_none_left ls
unfolding hidden-the_row-Link-5 hidden
last_row [] = refl
last_row (link ∷ ls) = refl

pub called_row : (ls : List Link) → called (hidden-the_row-Link-5 ls) ≡ called_by ls
unfolding hidden-the_row-Link-5 hidden
called_row [] = refl
called_row (Link.Prop name ∷ ls) = refl
called_row (Link.Index x ∷ ls) = refl
called_row (Link.Call' _ all ∷ ls) = ap (With (arguments_of all)) (last_row ls)

none_left : (ls : List Link) → (length ls == 0) ≡ is_none_left ls
none_left [] = refl
none_left (link ∷ ls) = grind arith

-- a call in front of these links
pub call_told : (links : List Link) (first : Link) (later : List Link) (xs arguments : List Expr) (whole : Bool)
    → links ≡ first ∷ later → first ≡ l.Call xs → arguments ≡ xs → whole ≡ (length later == 0) → With arguments whole ≡ called_by links
call_told links first later xs arguments whole split is_call same last =
    ap (λ all. With all whole) (same ∙ sym (arguments_row xs)) ∙ ap (With (arguments_of (hidden-the_row-Expr-2 xs))) (last ∙ none_left later)
    ∙ ap (λ link. called_by (link ∷ later)) (sym is_call) ∙ ap called_by (sym split)

hook_row : (head : Expr) (ls : List Link) → is_hook_call (e.Post head ls) ≡ (is_named statement_hooks (name_in head) && is_whole_call (called_by ls))
unfolding shape-the_row-Expr-0 hidden-the_row-Expr-0 hidden
hook_row head ls = ap (λ call. is_named statement_hooks (name_in head) && is_whole_call call) (called_row ls)

-- a head with links, as it is looked at
pub hook_told : (x head : Expr) (ls : List Link) (name : Option Text) (call : Called) (found : Bool) → x ≡ e.Post head ls
    → found ≡ (is_named statement_hooks name && is_whole_call call) → name ≡ name_in head → call ≡ called_by ls → found ≡ is_hook_call x
hook_told x head ls name call found form told named is_call =
    told ∙ ap (λ n. is_named statement_hooks n && is_whole_call call) named ∙ ap (λ c. is_named statement_hooks (name_in head) && is_whole_call c) is_call
    ∙ sym (hook_row head ls) ∙ ap is_hook_call (sym form)
