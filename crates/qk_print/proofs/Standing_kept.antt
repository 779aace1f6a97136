-- What stands without brackets in the printed writing, and in the text of the tree.
use Rattle.std.specs.Prelude.{◌≡◌, refl, ℕ, not, ◌&&◌, ◌||◌, Option, ◌∷◌}
use Rattle.std.proofs.Common.{ap, ◌∙◌}
use Rattle.qk_ast.specs.declared.Bin.{Bin}
use Rattle.qk_ast.specs.Tree.{tree, link_tree, links_tree}
use Rattle.qk_print.specs.Shapes.{is_record, is_markup, is_head, is_operand, is_less, is_return, is_statement}
use Rattle.qk_print.specs.Lists.{last_is_return}
use Rattle.qk_print.proofs.Equations.{operand_of_post}
use Rattle.qk_ast.specs.Grammar.{Expression, Undefined, Null, Truth, Number, Quoted, Named, Whole, Holed, Bracketed, Listed, Recorded, Markup, Log, Keys, Str, Trunc, Postfix, Prefix, Chain, Choice, Function, Link, Dot, Index, Call, Links, No_link, Next_link}
use Rattle.qk_print.proofs.Rewriting.{stands_as_head, stands_as_operand, is_recorded, is_marked_up, is_return_link, ends_with_return, built, built_link, built_links}

link_returns : (n : ℕ) (k : Link) → is_return (link_tree n k) ≡ is_return_link (built_link k)
link_returns n (Dot w) = refl
link_returns n (Index x) = refl
link_returns n (Call arguments) = refl

links_return : (n m : ℕ) (k : Link) (ks : Links) → last_is_return (link_tree n k ∷ links_tree m ks) ≡ ends_with_return (built_link k) (built_links ks)
links_return n m k No_link = link_returns n k
links_return n m k (Next_link next more) = links_return m _ next more

pub same_operand : (next : Option Bin) (x : Expression) (n : ℕ) → is_operand next (tree n x) ≡ stands_as_operand next (built x)
same_operand next Undefined n = refl
same_operand next Null n = refl
same_operand next (Truth a) n = refl
same_operand next (Number a) n = refl
same_operand next (Quoted a b) n = refl
same_operand next (Named a) n = refl
same_operand next (Whole a) n = refl
same_operand next (Holed a b c) n = refl
same_operand next (Bracketed a) n = same_operand next a n
same_operand next (Listed a) n = refl
same_operand next (Recorded a) n = refl
same_operand next (Markup a) n = refl
same_operand next (Log a) n = refl
same_operand next (Keys a) n = refl
same_operand next (Str a) n = refl
same_operand next (Trunc a b) n = refl
same_operand next (Postfix a b c) n = operand_of_post next (tree n a) _ ∙ ap (λ r. not (is_less next && r)) (links_return _ _ b c)
same_operand next (Prefix a b) n = refl
same_operand next (Chain a b c d) n = refl
same_operand next (Choice a b c) n = refl
same_operand next (Function a b) n = refl

pub same_head : (x : Expression) (n : ℕ) → is_head (tree n x) ≡ stands_as_head (built x)
same_head Undefined n = refl
same_head Null n = refl
same_head (Truth a) n = refl
same_head (Number a) n = refl
same_head (Quoted a b) n = refl
same_head (Named a) n = refl
same_head (Whole a) n = refl
same_head (Holed a b c) n = refl
same_head (Bracketed a) n = same_head a n
same_head (Listed a) n = refl
same_head (Recorded a) n = refl
same_head (Markup a) n = refl
same_head (Log a) n = refl
same_head (Keys a) n = refl
same_head (Str a) n = refl
same_head (Trunc a b) n = refl
same_head (Postfix a b c) n = refl
same_head (Prefix a b) n = refl
same_head (Chain a b c d) n = refl
same_head (Choice a b c) n = refl
same_head (Function a b) n = refl

pub same_record : (x : Expression) (n : ℕ) → is_record (tree n x) ≡ is_recorded (built x)
same_record Undefined n = refl
same_record Null n = refl
same_record (Truth a) n = refl
same_record (Number a) n = refl
same_record (Quoted a b) n = refl
same_record (Named a) n = refl
same_record (Whole a) n = refl
same_record (Holed a b c) n = refl
same_record (Bracketed a) n = same_record a n
same_record (Listed a) n = refl
same_record (Recorded a) n = refl
same_record (Markup a) n = refl
same_record (Log a) n = refl
same_record (Keys a) n = refl
same_record (Str a) n = refl
same_record (Trunc a b) n = refl
same_record (Postfix a b c) n = refl
same_record (Prefix a b) n = refl
same_record (Chain a b c d) n = refl
same_record (Choice a b c) n = refl
same_record (Function a b) n = refl

pub same_markup : (x : Expression) (n : ℕ) → is_markup (tree n x) ≡ is_marked_up (built x)
same_markup Undefined n = refl
same_markup Null n = refl
same_markup (Truth a) n = refl
same_markup (Number a) n = refl
same_markup (Quoted a b) n = refl
same_markup (Named a) n = refl
same_markup (Whole a) n = refl
same_markup (Holed a b c) n = refl
same_markup (Bracketed a) n = same_markup a n
same_markup (Listed a) n = refl
same_markup (Recorded a) n = refl
same_markup (Markup a) n = refl
same_markup (Log a) n = refl
same_markup (Keys a) n = refl
same_markup (Str a) n = refl
same_markup (Trunc a b) n = refl
same_markup (Postfix a b c) n = refl
same_markup (Prefix a b) n = refl
same_markup (Chain a b c d) n = refl
same_markup (Choice a b c) n = refl
same_markup (Function a b) n = refl

pub same_statement_form : (x : Expression) (n : ℕ) → is_statement (tree n x) ≡ not (is_recorded (built x) || is_marked_up (built x))
same_statement_form x n = ap (λ b. not (b || is_markup (tree n x))) (same_record x n) ∙ ap (λ b. not (is_recorded (built x) || b)) (same_markup x n)
