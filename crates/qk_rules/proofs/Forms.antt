-- What each form of a tree breaks: what its parts break, one after another.
use Rattle.std.specs.Prelude.{◌≡◌, refl, ℕ, ℤ, Bool, true, false, ◌&&◌, List, [], ◌∷◌, ◌++◌, flat_map, Option, Some, None}
use Rattle.std.proofs.Common.{sym, ◌∙◌, ap}
use Rattle.std.proofs.lemmas.List.{append_assoc, append-nil}
use denote.Hole.Carrier.{hidden, roll}
use Rattle.qk_ast.specs.declared.Body.TheBlock.{shape-the_row-Expr-0, hidden-the_row-Expr-0, hidden-the_row-Expr-2, hidden-the_row-Stmt-1, hidden-the_row-Field-3, hidden-the_row-Operand-4, hidden-the_row-Link-5, shape-the_row-Arrow-6, hidden-the_row-Arrow-6, shape-the_row-Jsx-7, hidden-the_row-Jsx-7}
use Rattle.qk_ast.specs.declared.Item.{Item as Root_item}
use Rattle.qk_ast.specs.declared.Expr.{Expr}
use Rattle.qk_ast.specs.declared.Expr.TheVariants as e
use Rattle.qk_ast.specs.declared.Stmt.{Stmt}
use Rattle.qk_ast.specs.declared.Stmt.TheVariants as s
use Rattle.qk_ast.specs.declared.Link.{Link}
use Rattle.qk_ast.specs.declared.Link.TheVariants as l
use Rattle.qk_ast.specs.declared.Body.{Body}
use Rattle.qk_ast.specs.declared.Body.TheVariants as b
use Rattle.qk_ast.specs.declared.Tag.{Tag}
use Rattle.qk_ast.specs.declared.Un.{Un}
use Rattle.qk_ast.specs.declared.AssignOp.{AssignOp}
use Rattle.qk_ast.specs.declared.Known.{Known}
use Rattle.qk_ast.specs.declared.Pattern.{Pattern}
use Rattle.qk_ast.specs.declared.Jsx.{Jsx, roll-Jsx, out-Jsx, roll-out-Jsx}
use Rattle.qk_ast.specs.declared.Field.{Field}
use Rattle.qk_ast.specs.declared.Operand.{Operand}
use Rattle.qk_ast.specs.Texts.{Text}
use Rattle.qk_ast.specs.Scopes.{declarations, declarations_of, block_scope, for_scope}
use Rattle.qk_ast.specs.Mentions.{name_in}
use Rattle.qk_ast.specs.Spots.{Standing, Anywhere, Root_value, Hook_statement, Called, Spot, Item, Named, Tagged, Attributed, argument_of, called, has_children, where_hooks, const_standing, lets_hooks_follow, spots, all_spots, field_spots, operand_spots, link_spots, attribute_spots, statement_spots, block_spots, item_spots}
use Rattle.qk_ast.specs.Placing.{Root_kind, Placing_breach, placing_breaches}
use Rattle.qk_locals.specs.Layers.{block_of}
use Rattle.qk_rules.specs.Standings.{called_by}
use Rattle.qk_rules.specs.Parts.{Place, inside, broken, of_name, of_expression, of_field, of_operand, of_arguments, of_link, of_links, of_head, of_head_named, is_any, of_tag, of_attribute, of_attributes, of_markup, of_body, of_arrow, of_statement, of_statements, of_block, of_returned, of_item}
use Rattle.qk_rules.proofs.Rows.{called_row}

-- ---- spots one after another

flat_both : {X Y : Type 0} (f : X → List Y) (xs ys : List X) → flat_map f (xs ++ ys) ≡ flat_map f xs ++ flat_map f ys
flat_both f [] ys = refl
flat_both f (x ∷ xs) ys = ap (λ rest. f x ++ rest) (flat_both f xs ys) ∙ sym (append_assoc (f x) (flat_map f xs) (flat_map f ys))

pub broken_both : (p : Place) (xs ys : List Spot) → broken p (xs ++ ys) ≡ broken p xs ++ broken p ys
unfolding broken
broken_both p xs ys = flat_both (placing_breaches p.file p.roots) xs ys

broken_none : (p : Place) → broken p [] ≡ []
unfolding broken
broken_none p = refl

-- two parts, each by what it breaks
two : (p : Place) (xs ys : List Spot) (front back : List Placing_breach) → broken p xs ≡ front → broken p ys ≡ back → broken p (xs ++ ys) ≡ front ++ back
two p xs ys front back f g = broken_both p xs ys ∙ ap (λ first. first ++ broken p ys) f ∙ ap (λ later. front ++ later) g

-- ---- rows are their lists

rest_row : (p : Place) (callee : Option Text) (xs : List Expr) → broken p (all_spots (hidden-the_row-Expr-2 xs) callee false p.scopes) ≡ flat_map (of_expression p (argument_of callee false)) xs
unfolding of_expression hidden-the_row-Expr-2 hidden
rest_row p callee [] = broken_none p
rest_row p callee (x ∷ xs) = two p (spots x (argument_of callee false) p.scopes) (all_spots (hidden-the_row-Expr-2 xs) callee false p.scopes) _ _ refl (rest_row p callee xs)

arguments_row : (p : Place) (callee : Option Text) (xs : List Expr) → broken p (all_spots (hidden-the_row-Expr-2 xs) callee true p.scopes) ≡ of_arguments p callee xs
unfolding of_expression hidden-the_row-Expr-2 hidden
arguments_row p callee [] = broken_none p
arguments_row p callee (x ∷ xs) = two p (spots x (argument_of callee true) p.scopes) (all_spots (hidden-the_row-Expr-2 xs) callee false p.scopes) _ _ refl (rest_row p callee xs)

fields_row : (p : Place) (fs : List Field) → broken p (field_spots (hidden-the_row-Field-3 fs) p.scopes) ≡ flat_map (of_field p) fs
unfolding of_expression hidden-the_row-Field-3 hidden
fields_row p [] = broken_none p
fields_row p (f ∷ fs) = two p (spots f.value Anywhere p.scopes) (field_spots (hidden-the_row-Field-3 fs) p.scopes) _ _ refl (fields_row p fs)

operands_row : (p : Place) (os : List Operand) → broken p (operand_spots (hidden-the_row-Operand-4 os) p.scopes) ≡ flat_map (of_operand p) os
unfolding of_expression hidden-the_row-Operand-4 hidden
operands_row p [] = broken_none p
operands_row p (o ∷ os) = two p (spots o.value Anywhere p.scopes) (operand_spots (hidden-the_row-Operand-4 os) p.scopes) _ _ refl (operands_row p os)

later_links : (p : Place) (ls : List Link) → broken p (link_spots (hidden-the_row-Link-5 ls) None p.scopes) ≡ flat_map (of_link p None) ls
unfolding of_expression of_link hidden-the_row-Link-5 hidden
later_links p [] = broken_none p
later_links p (Link.Prop name ∷ ls) = later_links p ls
later_links p (Link.Index x ∷ ls) = two p (spots x Anywhere p.scopes) (link_spots (hidden-the_row-Link-5 ls) None p.scopes) _ _ refl (later_links p ls)
later_links p (Link.Call' _ all ∷ ls) = two p (all_spots all None true p.scopes) (link_spots (hidden-the_row-Link-5 ls) None p.scopes) _ _ refl (later_links p ls)

links_row : (p : Place) (callee : Option Text) (ls : List Link) → broken p (link_spots (hidden-the_row-Link-5 ls) callee p.scopes) ≡ of_links p callee ls
unfolding of_expression of_link hidden-the_row-Link-5 hidden
links_row p callee [] = broken_none p
links_row p callee (Link.Prop name ∷ ls) = later_links p ls
links_row p callee (Link.Index x ∷ ls) = two p (spots x Anywhere p.scopes) (link_spots (hidden-the_row-Link-5 ls) None p.scopes) _ _ refl (later_links p ls)
links_row p callee (Link.Call' _ all ∷ ls) = two p (all_spots all callee true p.scopes) (link_spots (hidden-the_row-Link-5 ls) None p.scopes) _ _ refl (later_links p ls)

attributes_row : (p : Place) (tag : Tag) (earlier : List Text) (fs : List Field) → broken p (attribute_spots tag earlier (hidden-the_row-Field-3 fs) p.scopes) ≡ of_attributes p tag earlier fs
unfolding of_expression of_attribute hidden-the_row-Field-3 hidden
attributes_row p tag earlier [] = broken_none p
attributes_row p tag earlier (f ∷ fs) =
    two p (Attributed tag f.key f.value earlier ∷ []) (spots f.value Anywhere p.scopes ++ attribute_spots tag (earlier ++ f.key ∷ []) (hidden-the_row-Field-3 fs) p.scopes) _ _ refl
    (two p (spots f.value Anywhere p.scopes) (attribute_spots tag (earlier ++ f.key ∷ []) (hidden-the_row-Field-3 fs) p.scopes) _ _ refl (attributes_row p tag (earlier ++ f.key ∷ []) fs))
    ∙ sym (append_assoc (broken p (Attributed tag f.key f.value earlier ∷ [])) (of_expression p Anywhere f.value) (of_attributes p tag (earlier ++ f.key ∷ []) fs))

statements_row : (p : Place) (hooks : Bool) (ss : List Stmt) → broken p (block_spots (hidden-the_row-Stmt-1 ss) hooks p.scopes) ≡ of_statements p hooks ss
unfolding of_statement hidden-the_row-Stmt-1 hidden
statements_row p hooks [] = broken_none p
statements_row p hooks (s ∷ ss) = two p (statement_spots s hooks p.scopes) (block_spots (hidden-the_row-Stmt-1 ss) (hooks && lets_hooks_follow s) p.scopes) _ _ refl (statements_row p (hooks && lets_hooks_follow s) ss)

declarations_row : (ss : List Stmt) → declarations (hidden-the_row-Stmt-1 ss) ≡ flat_map declarations_of ss
unfolding hidden-the_row-Stmt-1 hidden
declarations_row [] = refl
declarations_row (s ∷ ss) = ap (λ rest. declarations_of s ++ rest) (declarations_row ss)

scope_row : (ss : List Stmt) → block_scope (hidden-the_row-Stmt-1 ss) ≡ block_of ss
scope_row ss = ap (λ all. record { of_arrow = false; declared = all; ended = [] }) (declarations_row ss)

block_row : (p : Place) (ss : List Stmt) → broken p (block_spots (hidden-the_row-Stmt-1 ss) false (block_scope (hidden-the_row-Stmt-1 ss) ∷ p.scopes)) ≡ of_block p ss
unfolding of_block broken
block_row p ss = ap (λ scope. broken p (block_spots (hidden-the_row-Stmt-1 ss) false (scope ∷ p.scopes))) (scope_row ss) ∙ statements_row (inside (block_of ss) p) false ss

-- ---- expressions

-- one expression, that stands anywhere
alone : (p : Place) (x : Expr) → broken p (spots x Anywhere p.scopes ++ []) ≡ of_expression p Anywhere x
unfolding of_expression
alone p x = ap (broken p) (append-nil (spots x Anywhere p.scopes))

pub of_named : (p : Place) (standing : Standing) (name : Text) → of_expression p standing (e.Name name) ≡ of_name p name Called.Not_called standing
unfolding of_expression of_name
of_named p standing name = refl

pub of_list : (p : Place) (standing : Standing) (xs : List Expr) → of_expression p standing (e.List xs) ≡ flat_map (of_expression p Anywhere) xs
unfolding of_expression
of_list p standing xs = rest_row p None xs

pub of_record : (p : Place) (standing : Standing) (fs : List Field) → of_expression p standing (e.Record fs) ≡ flat_map (of_field p) fs
unfolding of_expression
of_record p standing fs = fields_row p fs

pub of_template : (p : Place) (standing : Standing) (parts : List Text) (xs : List Expr) → of_expression p standing (e.Template parts xs) ≡ flat_map (of_expression p Anywhere) xs
unfolding of_expression
of_template p standing parts xs = rest_row p None xs

pub of_unary : (p : Place) (standing : Standing) (op : Un) (x : Expr) → of_expression p standing (e.Unary op x) ≡ of_expression p Anywhere x
unfolding of_expression shape-the_row-Expr-0 hidden-the_row-Expr-0 hidden
of_unary p standing op x = alone p x

pub of_chain : (p : Place) (standing : Standing) (x : Expr) (os : List Operand) → of_expression p standing (e.Chain x os) ≡ of_expression p Anywhere x ++ flat_map (of_operand p) os
unfolding of_expression shape-the_row-Expr-0 hidden-the_row-Expr-0 hidden
of_chain p standing x os = two p (spots x Anywhere p.scopes ++ []) (operand_spots (hidden-the_row-Operand-4 os) p.scopes) _ _ (alone p x) (operands_row p os)

pub of_choice : (p : Place) (standing : Standing) (x y z : Expr) → of_expression p standing (e.Cond x y z) ≡ of_expression p Anywhere x ++ (of_expression p Anywhere y ++ of_expression p Anywhere z)
unfolding of_expression shape-the_row-Expr-0 hidden-the_row-Expr-0 hidden
of_choice p standing x y z = two p (spots x Anywhere p.scopes ++ []) ((spots y Anywhere p.scopes ++ []) ++ (spots z Anywhere p.scopes ++ [])) _ _ (alone p x)
    (two p (spots y Anywhere p.scopes ++ []) (spots z Anywhere p.scopes ++ []) _ _ (alone p y) (alone p z))

pub of_post : (p : Place) (standing : Standing) (head : Expr) (ls : List Link) → of_expression p standing (e.Post head ls) ≡ of_head p head (called_by ls) standing ++ of_links p (name_in head) ls
unfolding of_expression of_name shape-the_row-Expr-0 hidden-the_row-Expr-0 hidden
of_post p standing head ls = by (name_in head)
  where
    by : (o : Option Text) → broken p (elim o as (λ _. List Spot) [
      | Some name ↦ Named name (called (hidden-the_row-Link-5 ls)) standing p.scopes ∷ link_spots (hidden-the_row-Link-5 ls) (Some name) p.scopes
      | None ↦ spots head Anywhere p.scopes ++ link_spots (hidden-the_row-Link-5 ls) None p.scopes
    ]) ≡ of_head_named p o head (called_by ls) standing ++ of_links p o ls
    by (Some name) = two p (Named name (called (hidden-the_row-Link-5 ls)) standing p.scopes ∷ []) (link_spots (hidden-the_row-Link-5 ls) (Some name) p.scopes) _ _
        (ap (λ call. broken p (Named name call standing p.scopes ∷ [])) (called_row ls)) (links_row p (Some name) ls)
    by None = two p (spots head Anywhere p.scopes) (link_spots (hidden-the_row-Link-5 ls) None p.scopes) _ _ refl (links_row p None ls)

pub of_assign : (p : Place) (standing : Standing) (op : AssignOp) (target x : Expr) → of_expression p standing (e.Assign op target x) ≡ of_expression p Anywhere target ++ of_expression p Anywhere x
unfolding of_expression shape-the_row-Expr-0 hidden-the_row-Expr-0 hidden
of_assign p standing op target x = two p (spots target Anywhere p.scopes ++ []) (spots x Anywhere p.scopes ++ []) _ _ (alone p target) (alone p x)

pub of_step : (p : Place) (standing : Standing) (up : Bool) (target : Expr) → of_expression p standing (e.Step up target) ≡ of_expression p Anywhere target
unfolding of_expression shape-the_row-Expr-0 hidden-the_row-Expr-0 hidden
of_step p standing up target = alone p target

pub of_known : (p : Place) (standing : Standing) (known : Known) (xs : List Expr) → of_expression p standing (e.Known known xs) ≡ flat_map (of_expression p Anywhere) xs
unfolding of_expression
of_known p standing known xs = rest_row p None xs

pub of_function : (p : Place) (standing : Standing) (place : ℕ) (params : List Pattern) (body : Body) → of_expression p standing (e.Arrow (record { place = place; params = params; body = body })) ≡ of_arrow p standing params body
unfolding of_expression of_arrow of_body broken shape-the_row-Arrow-6 hidden-the_row-Arrow-6 hidden
of_function p standing place params body = refl

pub of_element : (p : Place) (standing : Standing) (jsx : Jsx) → of_expression p standing (e.Jsx jsx) ≡ of_markup p jsx
unfolding of_expression of_markup shape-the_row-Jsx-7 hidden-the_row-Jsx-7 hidden
of_element p standing jsx = refl

-- what breaks nothing
pub of_undefined : (p : Place) (standing : Standing) → of_expression p standing e.Undefined ≡ []
unfolding of_expression broken
of_undefined p standing = refl

pub of_null : (p : Place) (standing : Standing) → of_expression p standing e.Null ≡ []
unfolding of_expression broken
of_null p standing = refl

pub of_bool : (p : Place) (standing : Standing) (b : Bool) → of_expression p standing (e.Bool b) ≡ []
unfolding of_expression broken
of_bool p standing b = refl

pub of_int : (p : Place) (standing : Standing) (n : ℤ) → of_expression p standing (e.Int n) ≡ []
unfolding of_expression broken
of_int p standing n = refl

pub of_text : (p : Place) (standing : Standing) (t : Text) → of_expression p standing (e.Text t) ≡ []
unfolding of_expression broken
of_text p standing t = refl

pub of_property : (p : Place) (callee : Option Text) (name : Text) → of_link p callee (l.Prop name) ≡ []
unfolding of_link
of_property p callee name = refl

pub of_index : (p : Place) (callee : Option Text) (x : Expr) → of_link p callee (l.Index x) ≡ of_expression p Anywhere x
unfolding of_link
of_index p callee x = refl

pub of_break : (p : Place) (hooks : Bool) → of_statement p hooks s.Break ≡ []
unfolding of_statement broken
of_break p hooks = refl

pub of_continue : (p : Place) (hooks : Bool) → of_statement p hooks s.Continue ≡ []
unfolding of_statement broken
of_continue p hooks = refl

pub of_call : (p : Place) (callee : Option Text) (xs : List Expr) → of_link p callee (l.Call xs) ≡ of_arguments p callee xs
unfolding of_link
of_call p callee xs = arguments_row p callee xs

-- ---- elements

children_row : (xs : List Expr) → has_children (hidden-the_row-Expr-2 xs) ≡ is_any xs
unfolding hidden-the_row-Expr-2 hidden
children_row [] = refl
children_row (x ∷ xs) = refl

element : (p : Place) (tag : Tag) (fs : List Field) (xs : List Expr)
    → of_markup p (roll-Jsx (record { tag = tag; attrs = fs; children = xs })) ≡ of_tag p tag (is_any xs) ++ (of_attributes p tag [] fs ++ flat_map (of_expression p Anywhere) xs)
unfolding of_markup of_tag roll-Jsx hidden roll
element p tag fs xs = two p (Tagged tag (has_children (hidden-the_row-Expr-2 xs)) p.scopes ∷ []) (attribute_spots tag [] (hidden-the_row-Field-3 fs) p.scopes ++ all_spots (hidden-the_row-Expr-2 xs) None false p.scopes) _ _
    (ap (λ any. broken p (Tagged tag any p.scopes ∷ [])) (children_row xs))
    (two p (attribute_spots tag [] (hidden-the_row-Field-3 fs) p.scopes) (all_spots (hidden-the_row-Expr-2 xs) None false p.scopes) _ _ (attributes_row p tag [] fs) (rest_row p None xs))

pub of_jsx : (p : Place) (jsx : Jsx) → of_markup p jsx ≡ of_tag p (out-Jsx jsx).tag (is_any (out-Jsx jsx).children) ++ (of_attributes p (out-Jsx jsx).tag [] (out-Jsx jsx).attrs ++ flat_map (of_expression p Anywhere) (out-Jsx jsx).children)
of_jsx p jsx = let j = out-Jsx jsx in ap (of_markup p) (sym (roll-out-Jsx jsx)) ∙ element p j.tag j.attrs j.children

-- ---- bodies and statements

pub of_value : (p : Place) (component : Bool) (x : Expr) → of_body p component (b.Value x) ≡ of_expression p Anywhere x
unfolding of_body shape-the_row-Expr-0 hidden-the_row-Expr-0 hidden
of_value p component x = alone p x

pub of_whole_block : (p : Place) (component : Bool) (ss : List Stmt) → of_body p component (b.Block ss) ≡ of_statements p component ss
unfolding of_body
of_whole_block p component ss = statements_row p component ss

pub of_constant : (p : Place) (hooks : Bool) (pattern : Pattern) (x : Expr) → of_statement p hooks (s.Const pattern x) ≡ of_expression p (const_standing pattern hooks) x
unfolding of_statement of_expression
of_constant p hooks pattern x = refl

pub of_let : (p : Place) (hooks : Bool) (name : Text) (x : Expr) → of_statement p hooks (s.Let name x) ≡ of_expression p Anywhere x
unfolding of_statement of_expression
of_let p hooks name x = refl

pub of_do : (p : Place) (hooks : Bool) (x : Expr) → of_statement p hooks (s.Do x) ≡ of_expression p (where_hooks Hook_statement hooks) x
unfolding of_statement of_expression
of_do p hooks x = refl

pub of_delete : (p : Place) (hooks : Bool) (x : Expr) → of_statement p hooks (s.Delete x) ≡ of_expression p Anywhere x
unfolding of_statement of_expression
of_delete p hooks x = refl

pub of_return : (p : Place) (hooks : Bool) (x : Option Expr) → of_statement p hooks (s.Return x) ≡ of_returned p x
unfolding of_statement of_expression
of_return p hooks None = broken_none p
of_return p hooks (Some x) = refl

pub of_if : (p : Place) (hooks : Bool) (x : Expr) (ss ts : List Stmt) → of_statement p hooks (s.If x ss ts) ≡ of_expression p Anywhere x ++ (of_block p ss ++ of_block p ts)
unfolding of_statement of_expression
of_if p hooks x ss ts = two p (spots x Anywhere p.scopes) (block_spots (hidden-the_row-Stmt-1 ss) false (block_scope (hidden-the_row-Stmt-1 ss) ∷ p.scopes) ++ block_spots (hidden-the_row-Stmt-1 ts) false (block_scope (hidden-the_row-Stmt-1 ts) ∷ p.scopes)) _ _ refl
    (two p (block_spots (hidden-the_row-Stmt-1 ss) false (block_scope (hidden-the_row-Stmt-1 ss) ∷ p.scopes)) (block_spots (hidden-the_row-Stmt-1 ts) false (block_scope (hidden-the_row-Stmt-1 ts) ∷ p.scopes)) _ _ (block_row p ss) (block_row p ts))

pub of_while : (p : Place) (hooks : Bool) (x : Expr) (ss : List Stmt) → of_statement p hooks (s.While x ss) ≡ of_expression p Anywhere x ++ of_block p ss
unfolding of_statement of_expression
of_while p hooks x ss = two p (spots x Anywhere p.scopes) (block_spots (hidden-the_row-Stmt-1 ss) false (block_scope (hidden-the_row-Stmt-1 ss) ∷ p.scopes)) _ _ refl (block_row p ss)

pub of_for : (p : Place) (hooks : Bool) (name : Text) (x : Expr) (ss : List Stmt) → of_statement p hooks (s.ForOf name x ss) ≡ of_expression (inside (for_scope [] name) p) Anywhere x ++ of_block (inside (for_scope [] name) p) ss
unfolding of_statement of_expression broken
of_for p hooks name x ss = let q = inside (for_scope [] name) p in
    two q (spots x Anywhere q.scopes) (block_spots (hidden-the_row-Stmt-1 ss) false (block_scope (hidden-the_row-Stmt-1 ss) ∷ q.scopes)) _ _ refl (block_row q ss)

pub of_inner_block : (p : Place) (hooks : Bool) (ss : List Stmt) → of_statement p hooks (s.Block ss) ≡ of_block p ss
unfolding of_statement
of_inner_block p hooks ss = block_row p ss

-- ---- items

pub items_row : (file : Text) (roots : Text → Root_kind) (items : List Root_item) → flat_map (placing_breaches file roots) (item_spots items) ≡ flat_map (of_item (record { file = file; roots = roots; scopes = [] })) items
unfolding of_item of_expression broken
items_row file roots [] = refl
items_row file roots (i ∷ rest) = let spotted = spots i.init Root_value [] in
    ap (λ later. placing_breaches file roots (Item i.name i.init) ++ later)
    (flat_both (placing_breaches file roots) spotted (item_spots rest) ∙ ap (λ later. flat_map (placing_breaches file roots) spotted ++ later) (items_row file roots rest))
    ∙ sym (append_assoc (placing_breaches file roots (Item i.name i.init)) (flat_map (placing_breaches file roots) spotted) (flat_map (of_item (record { file = file; roots = roots; scopes = [] })) rest))
