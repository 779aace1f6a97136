-- Where the walk stands once it has entered a scope.
use Rattle.std.specs.Prelude.{◌≡◌, refl, Bool, false, List, [], ◌∷◌, ◌++◌}
use Rattle.std.proofs.Common.{sym, ◌∙◌, ap}
use Rattle.std.proofs.lemmas.List.{append-nil}
use Rattle.qk_ast.specs.declared.Expr.{Expr}
use Rattle.qk_ast.specs.declared.Stmt.{Stmt}
use Rattle.qk_ast.specs.declared.Body.{Body}
use Rattle.qk_ast.specs.declared.Tag.{Tag}
use Rattle.qk_ast.specs.declared.Field.{Field}
use Rattle.qk_ast.specs.declared.Pattern.{Pattern}
use Rattle.qk_ast.specs.Texts.{Text}
use Rattle.qk_ast.specs.Arrows.{Mark}
use Rattle.qk_ast.specs.Scopes.{Scope, arrow_scope, for_scope}
use Rattle.qk_ast.specs.Spots.{Standing, Anywhere, Called, standing_mark, is_component_arrow}
use Rattle.qk_locals.specs.Layers.{block_of, for_of}
use Rattle.qk_rules.specs.declared.walk.Walk.{Walk}
use Rattle.qk_rules.specs.Root_table.{kind_by}
use Rattle.qk_rules.specs.Breaches.{use_breaches}
use Rattle.qk_rules.specs.Parts.{Place, inside, broken, of_name, of_tag, tag_breaches, of_attribute, attribute_breaches, of_attributes, of_expression, of_body, of_arrow, of_statements, of_block}
use Rattle.qk_rules.specs.Walking.{place}

-- the walk with these scopes
abbrev pub among : Walk → List Scope → Walk
among w scopes = record { alloc = w.alloc; file = w.file; roots = w.roots; scopes = scopes }

pub arrow_entered : (w : Walk) (scopes : List Scope) (standing : Standing) (mark : Mark) (params given : List Pattern) (body : Body) (component : Bool)
    → scopes ≡ arrow_scope mark given body ∷ w.scopes → mark ≡ standing_mark standing → given ≡ params → component ≡ is_component_arrow standing
    → of_arrow (place w) standing params body ≡ of_body (place (among w scopes)) component body
unfolding of_arrow place
arrow_entered w scopes standing mark params given body component entered marked same is_component =
    ap (λ m. of_body (inside (arrow_scope m params body) (place w)) (is_component_arrow standing) body) (sym marked)
    ∙ ap (λ ps. of_body (inside (arrow_scope mark ps body) (place w)) (is_component_arrow standing) body) (sym same)
    ∙ ap (λ c. of_body (inside (arrow_scope mark given body) (place w)) c body) (sym is_component)
    ∙ ap (λ all. of_body (place (among w all)) component body) (sym entered)

pub block_entered : (w : Walk) (scopes : List Scope) (ss : List Stmt) → scopes ≡ block_of ss ∷ w.scopes → of_block (place w) ss ≡ of_statements (place (among w scopes)) false ss
unfolding of_block place
block_entered w scopes ss entered = ap (λ all. of_statements (place (among w all)) false ss) (sym entered)

pub for_entered : (w : Walk) (scopes : List Scope) (name : Text) (x : Expr) (ss : List Stmt) → scopes ≡ for_of name false ∷ w.scopes
    → of_expression (inside (for_scope [] name) (place w)) Anywhere x ++ of_block (inside (for_scope [] name) (place w)) ss
    ≡ of_expression (place (among w scopes)) Anywhere x ++ of_block (place (among w scopes)) ss
unfolding place
for_entered w scopes name x ss entered = ap (λ all. of_expression (place (among w all)) Anywhere x ++ of_block (place (among w all)) ss) (sym entered)

-- ---- single spots

pub name_there : (w : Walk) (name : Text) (call : Called) (standing : Standing) → of_name (place w) name call standing ≡ use_breaches (kind_by w.roots) name call standing w.scopes
unfolding of_name broken place
name_there w name call standing = append-nil (use_breaches (kind_by w.roots) name call standing w.scopes)

pub tag_there : (w : Walk) (tag : Tag) (children : Bool) → of_tag (place w) tag children ≡ tag_breaches (kind_by w.roots) tag children w.scopes
unfolding of_tag broken place
tag_there w (Tag.Element name) children = append-nil _
tag_there w (Tag.Component name) children = append-nil _
tag_there w Tag.Fragment children = refl

attribute_there : (p : Place) (tag : Tag) (earlier : List Text) (f : Field) → of_attribute p tag earlier f ≡ attribute_breaches tag f earlier ++ of_expression p Anywhere f.value
unfolding of_attribute broken
attribute_there p tag earlier f = ap (λ front. front ++ of_expression p Anywhere f.value) (append-nil (attribute_breaches tag f earlier))

-- an attribute in front of others
pub attribute_first : (p : Place) (tag : Tag) (earlier : List Text) (f : Field) (rest : List Field)
    → of_attributes p tag earlier (f ∷ rest) ≡ (attribute_breaches tag f earlier ++ of_expression p Anywhere f.value) ++ of_attributes p tag (earlier ++ f.key ∷ []) rest
attribute_first p tag earlier f rest = ap (λ front. front ++ of_attributes p tag (earlier ++ f.key ∷ []) rest) (attribute_there p tag earlier f)
