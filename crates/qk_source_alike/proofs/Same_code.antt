-- A piece of code stands for itself between two programs, where its names are within reach and its arrows make functions that stand for one another.
use Rattle.std.specs.Prelude.{◌≡◌, refl, Bool, true, false, List, [], ◌∷◌, ◌++◌}
use Rattle.std.proofs.Common.{sym, ◌∙◌, ap, subst}
use Rattle.std.proofs.lemmas.Slice.Eq.{bytes_eq-Decides}
use Rattle.qk_ast.specs.declared.Pattern.{Pattern}
use Rattle.qk_ast.specs.declared.Tag.{Tag}
use Rattle.qk_ast.specs.declared.Expr.{Expr, Row_of-Expr, end_of-Expr, more_of-Expr, Row_of-Field, end_of-Field, more_of-Field, Row_of-Operand, end_of-Operand, more_of-Operand, Row_of-Link, end_of-Link, more_of-Link, more_of-Arrow, more_of-Jsx}
use Rattle.qk_ast.specs.declared.Stmt.{Stmt, Block' as Statement_block', Row_of-Stmt, end_of-Stmt, more_of-Stmt, None', Some'}
use Rattle.qk_ast.specs.declared.Link.{Link}
use Rattle.qk_ast.specs.declared.Jsx.{Jsx'}
use Rattle.qk_ast.specs.Arrows as A
use Rattle.qk_ast.specs.Uses as U
use Rattle.qk_alike.specs.Code_stands as C
use Rattle.qk_alike.proofs.Sames.{not_both}
use Rattle.qk_alike.specs.Meanings_stand.{Roots_stand, framework, holds, shows, unknown}
use Rattle.qk_ast.specs.Arrows.{Found_arrow, Mark, Unmarked}
use Rattle.qk_ast.specs.Names.{around, declared_in, is_listed, others_than}
use Rattle.qk_ast.specs.Texts.{same_text}
use Rattle.qk_ast.specs.Uses.{free_of}
use Rattle.qk_meaning.specs.Alike.{Locals_stand, Reach, deeper, is_local, is_reached}
use Rattle.qk_meaning.specs.Making.{root_shown}
use Rattle.qk_meaning.specs.Program.{Program, Root}
use Rattle.qk_meaning.specs.Ties.{Pairing, Shown_as, Site_ties, Stands, a_fragment, ties_over}
use Rattle.qk_meaning.specs.Value.{Fields, Text}
use Rattle.qk_source_alike.specs.Every.{Every, none_of, all_of}

pub all_left : {A : Type 0} {G : A → Type 0} (xs ys : List A) → Every G (xs ++ ys) → Every G xs
all_left [] ys h = none_of
all_left (x ∷ xs) ys (all_of h hs) = all_of h (all_left xs ys hs)

pub all_right : {A : Type 0} {G : A → Type 0} (xs ys : List A) → Every G (xs ++ ys) → Every G ys
all_right [] ys h = h
all_right (x ∷ xs) ys (all_of h hs) = all_right xs ys hs

listed_left : (x : Text) (xs ys : List Text) → is_listed x xs ≡ true → is_listed x (xs ++ ys) ≡ true
listed_left x [] ys h = absurd (not_both (sym h))
listed_left x (n ∷ xs) ys h = go (same_text n x) h (listed_left x xs ys)
  where
    go : (b : Bool) → (elim b as (λ y. Bool) [ true ↦ true | false ↦ is_listed x xs ]) ≡ true → (is_listed x xs ≡ true → is_listed x (xs ++ ys) ≡ true) → (elim b as (λ y. Bool) [ true ↦ true | false ↦ is_listed x (xs ++ ys) ]) ≡ true
    go true h next = refl
    go false h next = next h

listed_right : (x : Text) (xs ys : List Text) → is_listed x ys ≡ true → is_listed x (xs ++ ys) ≡ true
listed_right x [] ys h = h
listed_right x (n ∷ xs) ys h = go (same_text n x) (listed_right x xs ys h)
  where
    go : (b : Bool) → is_listed x (xs ++ ys) ≡ true → (elim b as (λ y. Bool) [ true ↦ true | false ↦ is_listed x (xs ++ ys) ]) ≡ true
    go true h = refl
    go false h = h

-- a name of a list that isn't among these is among the others
pub listed_others : (names : List Text) (x : Text) (xs : List Text) → is_listed x xs ≡ true → is_listed x names ≡ false → is_listed x (others_than names xs) ≡ true
listed_others names x [] h e = absurd (not_both (sym h))
listed_others names x (n ∷ xs) h e = go (same_text n x) refl (is_listed n names) refl h (λ k. listed_others names x xs k e)
  where
    go : (b : Bool) → same_text n x ≡ b → (c : Bool) → is_listed n names ≡ c → (elim b as (λ y. Bool) [ true ↦ true | false ↦ is_listed x xs ]) ≡ true → (is_listed x xs ≡ true → is_listed x (others_than names xs) ≡ true) →
        is_listed x (elim c as (λ y. List Text) [ true ↦ others_than names xs | false ↦ n ∷ others_than names xs ]) ≡ true
    go true p true q h next = absurd (not_both (sym (subst (λ z. is_listed z names ≡ true) ((bytes_eq-Decides n x).0 p) q) ∙ e))
    go true p false q h next = ap (λ b. elim b as (λ y. Bool) [ true ↦ true | false ↦ is_listed x (others_than names xs) ]) p
    go false p true q h next = next h
    go false p false q h next = ap (λ b. elim b as (λ y. Bool) [ true ↦ true | false ↦ is_listed x (others_than names xs) ]) p ∙ next h

pub around_listed : (x : Text) (names own : List Text) → is_listed x (around names own) ≡ (elim (is_listed x names) as (λ y. Bool) [ true ↦ true | false ↦ is_listed x own ])
around_listed x [] own = refl
around_listed x (n ∷ rest) own = around_listed x rest (n ∷ own) ∙ go (is_listed x rest) (same_text n x)
  where
    go : (a b : Bool) → (elim a as (λ y. Bool) [ true ↦ true | false ↦ elim b as (λ y. Bool) [ true ↦ true | false ↦ is_listed x own ] ]) ≡ (elim (elim b as (λ y. Bool) [ true ↦ true | false ↦ a ]) as (λ y. Bool) [ true ↦ true | false ↦ is_listed x own ])
    go true true = refl
    go true false = refl
    go false true = refl
    go false false = refl

abbrev pub Reaches : Reach → List Text → Type 0
Reaches r xs = (x : Text) → is_listed x xs ≡ true → is_reached r x ≡ true

-- the names declared around the place are the locals of its reach
abbrev pub Scoped : Reach → List Text → Type 0
Scoped r scope = (x : Text) → is_reached r x ≡ true → is_listed x scope ≡ is_local r x

pub lefts : (r : Reach) (xs ys : List Text) → Reaches r (xs ++ ys) → Reaches r xs
lefts r xs ys h = λ x e. h x (listed_left x xs ys e)

pub rights : (r : Reach) (xs ys : List Text) → Reaches r (xs ++ ys) → Reaches r ys
rights r xs ys h = λ x e. h x (listed_right x xs ys e)

-- names that are reached where they aren't newly declared
pub deepens_by : (r : Reach) (names xs : List Text) → ((x : Text) → is_listed x xs ≡ true → is_listed x names ≡ false → is_reached r x ≡ true) → Reaches (deeper names r) xs
deepens_by r names xs h x e = ap (λ b. elim b as (λ y. Bool) [ true ↦ true | false ↦ is_listed x r.free ]) (around_listed x names r.own) ∙ go (is_listed x names) (h x e)
  where
    go : (b : Bool) → (b ≡ false → is_reached r x ≡ true) → (elim (elim b as (λ y. Bool) [ true ↦ true | false ↦ is_listed x r.own ]) as (λ y. Bool) [ true ↦ true | false ↦ is_listed x r.free ]) ≡ true
    go true k = refl
    go false k = k refl

pub deepens : (r : Reach) (names xs : List Text) → Reaches r (others_than names xs) → Reaches (deeper names r) xs
deepens r names xs h x e = ap (λ b. elim b as (λ y. Bool) [ true ↦ true | false ↦ is_listed x r.free ]) (around_listed x names r.own) ∙ go (is_listed x names) (λ k. h x (listed_others names x xs e k))
  where
    go : (b : Bool) → (b ≡ false → is_reached r x ≡ true) → (elim (elim b as (λ y. Bool) [ true ↦ true | false ↦ is_listed x r.own ]) as (λ y. Bool) [ true ↦ true | false ↦ is_listed x r.free ]) ≡ true
    go true k = refl
    go false k = k refl

pub deepens_scope : (r : Reach) (names scope : List Text) → Scoped r scope → Scoped (deeper names r) (around names scope)
deepens_scope r names scope h x e =
    around_listed x names scope ∙ (go (is_listed x names) (sym (ap (λ b. elim b as (λ y. Bool) [ true ↦ true | false ↦ is_listed x r.free ]) (around_listed x names r.own)) ∙ e)
    ∙ sym (ap (λ b. elim b as (λ y. Bool) [ true ↦ true | false ↦ is_listed x r.captured ]) (around_listed x names r.own)))
  where
    go : (b : Bool) → (elim (elim b as (λ y. Bool) [ true ↦ true | false ↦ is_listed x r.own ]) as (λ y. Bool) [ true ↦ true | false ↦ is_listed x r.free ]) ≡ true →
        (elim b as (λ y. Bool) [ true ↦ true | false ↦ is_listed x scope ]) ≡ (elim (elim b as (λ y. Bool) [ true ↦ true | false ↦ is_listed x r.own ]) as (λ y. Bool) [ true ↦ true | false ↦ is_listed x r.captured ])
    go true k = refl
    go false k = h x k

shown_roots : (P Q : Program) {t : Site_ties} {x y : Root} → Roots_stand t x y → Shown_as t (root_shown x) (root_shown y)
shown_roots P Q (framework h) = a_fragment
shown_roots P Q (holds h) = a_fragment
shown_roots P Q (shows h) = h
shown_roots P Q unknown = a_fragment

module _ (P Q : Program) (t : Site_ties) (file file' : Text) (Good : Found_arrow → Type 0) (roots : (name : Text) → Roots_stand t (P.root file name) (Q.root file' name))
    (makes : (a : Found_arrow) (r : Reach) → Good a → Reaches r (free_of a) → ((x : Text) → is_listed x (free_of a) ≡ true → is_listed x a.scope ≡ is_local r x) →
    (p : Pairing) (f g : Fields) → Locals_stand (ties_over t p) r.free r.captured r.own f g → Stands (ties_over t p) (P.makes (P.site file a.place) f) (Q.makes (Q.site file' a.place) g)) where
  tags : (tag : Tag) → C.Tags_stand P Q t file file' tag tag
  tags (Tag.Element name) = C.element_tags
  tags (Tag.Component name) = C.component_tags (shown_roots P Q (roots name))
  tags Tag.Fragment = C.fragment_tags

  mutual
    pub same_expr : (e : Expr) (mark : Mark) (scope : List Text) (r : Reach) → Reaches r (U.uses e) → Scoped r scope → Every Good (A.arrows e mark scope) → C.Exprs_stand P Q t file file' r e e
    same_expr Expr.Undefined mark scope r h s g = C.undefineds
    same_expr Expr.Null mark scope r h s g = C.nulls
    same_expr (Expr.Bool b) mark scope r h s g = C.bools
    same_expr (Expr.Int n) mark scope r h s g = C.ints
    same_expr (Expr.Text w) mark scope r h s g = C.texts
    same_expr (Expr.Name name) mark scope r h s g = C.names (h name (ap (λ b. elim b as (λ y. Bool) [ true ↦ true | false ↦ false ]) ((bytes_eq-Decides name name).1 refl))) (λ out. roots name)
    same_expr (Expr.List' _ all) mark scope r h s g = C.lists (same_row all Unmarked scope r h s g)
    same_expr (Expr.Record' _ all) mark scope r h s g = C.records (same_fields all scope r h s g)
    same_expr (Expr.Template' parts _ all) mark scope r h s g = C.templates (same_row all Unmarked scope r h s g)
    same_expr (Expr.Unary' op _ (more_of-Expr e rest)) mark scope r h s g = C.unaries (same_expr e Unmarked scope r (lefts r _ _ h) s (all_left _ _ g))
    same_expr (Expr.Chain' _ (more_of-Expr e rest) _ all) mark scope r h s g = C.chains (same_expr e Unmarked scope r (lefts r _ _ (lefts r _ _ h)) s (all_left _ _ (all_left _ _ g))) (same_operands all scope r (rights r _ _ h) s (all_right _ _ g))
    same_expr (Expr.Cond' _ (more_of-Expr a x) _ (more_of-Expr b y) _ (more_of-Expr c z)) mark scope r h s g =
        C.conditionals (same_expr a Unmarked scope r (lefts r _ _ (lefts r _ _ h)) s (all_left _ _ (all_left _ _ g)))
        (same_expr b Unmarked scope r (lefts r (U.uses b) (U.all_uses y) (lefts r (U.uses b ++ U.all_uses y) (U.uses c ++ U.all_uses z) (rights r (U.uses a ++ U.all_uses x) ((U.uses b ++ U.all_uses y) ++ (U.uses c ++ U.all_uses z)) h))) s (all_left _ _ (all_left _ _ (all_right _ _ g))))
        (same_expr c Unmarked scope r (lefts r (U.uses c) (U.all_uses z) (rights r (U.uses b ++ U.all_uses y) (U.uses c ++ U.all_uses z) (rights r (U.uses a ++ U.all_uses x) ((U.uses b ++ U.all_uses y) ++ (U.uses c ++ U.all_uses z)) h))) s (all_left _ _ (all_right _ _ (all_right _ _ g))))
    same_expr (Expr.Post' _ (more_of-Expr e rest) _ all) mark scope r h s g = C.posts (same_expr e Unmarked scope r (lefts r _ _ (lefts r _ _ h)) s (all_left _ _ g)) (same_links all (A.call_mark e) scope r (rights r _ _ h) s (all_right _ _ g))
    same_expr (Expr.Assign' op _ (more_of-Expr a x) _ (more_of-Expr b y)) mark scope r h s g =
        C.assignments (same_expr a Unmarked scope r (lefts r _ _ (lefts r _ _ h)) s (all_left _ _ (all_left _ _ g))) (same_expr b Unmarked scope r (lefts r _ _ (rights r _ _ h)) s (all_left _ _ (all_right _ _ g)))
    same_expr (Expr.Step' up _ (more_of-Expr e rest)) mark scope r h s g = C.steps (same_expr e Unmarked scope r (lefts r _ _ h) s (all_left _ _ g))
    same_expr (Expr.Known' known _ all) mark scope r h s g = C.knowns (same_row all Unmarked scope r h s g)
    same_expr (Expr.Arrow' _ (more_of-Arrow place params body _)) mark scope r h s (all_of good g) =
        C.functions C.an_arrow C.an_arrow (makes (record { place = place; scope = scope; mark = mark; params = params; body = body }) r good h (λ x e. s x (h x e)))
    same_expr (Expr.Jsx' _ (more_of-Jsx (Jsx' tag _ attributes _ children) _)) mark scope r h s g =
        C.elements (tags tag) (same_attributes attributes scope r (lefts r (U.field_uses attributes) (U.all_uses children) (rights r (U.tag_use tag) (U.field_uses attributes ++ U.all_uses children) h)) s (all_left _ _ g)) (same_row children Unmarked scope r (rights r (U.field_uses attributes) (U.all_uses children) (rights r (U.tag_use tag) (U.field_uses attributes ++ U.all_uses children) h)) s (all_right _ _ g))

    same_row : {m : _} (all : Row_of-Expr m) (mark : Mark) (scope : List Text) (r : Reach) → Reaches r (U.all_uses all) → Scoped r scope → Every Good (A.all_arrows all mark scope) → C.Rows_stand P Q t file file' r m m all all
    same_row end_of-Expr mark scope r h s g = C.no_exprs
    same_row (more_of-Expr e rest) mark scope r h s g = C.one_expr (same_expr e mark scope r (lefts r _ _ h) s (all_left _ _ g)) (same_row rest mark scope r (rights r _ _ h) s (all_right _ _ g))

    same_fields : {m : _} (all : Row_of-Field m) (scope : List Text) (r : Reach) → Reaches r (U.field_uses all) → Scoped r scope → Every Good (A.field_arrows all scope) → C.Field_rows_stand P Q t file file' r m m all all
    same_fields end_of-Field scope r h s g = C.no_fields
    same_fields (more_of-Field key e rest) scope r h s g = C.one_field (same_expr e Unmarked scope r (lefts r _ _ h) s (all_left _ _ g)) (same_fields rest scope r (rights r _ _ h) s (all_right _ _ g))

    same_attributes : {m : _} (all : Row_of-Field m) (scope : List Text) (r : Reach) → Reaches r (U.field_uses all) → Scoped r scope → Every Good (A.attribute_arrows all scope) → C.Field_rows_stand P Q t file file' r m m all all
    same_attributes end_of-Field scope r h s g = C.no_fields
    same_attributes (more_of-Field key e rest) scope r h s g = C.one_field (same_expr e (A.attribute_mark key) scope r (lefts r _ _ h) s (all_left _ _ g)) (same_attributes rest scope r (rights r _ _ h) s (all_right _ _ g))

    same_operands : {m : _} (all : Row_of-Operand m) (scope : List Text) (r : Reach) → Reaches r (U.operand_uses all) → Scoped r scope → Every Good (A.operand_arrows all scope) → C.Operand_rows_stand P Q t file file' r m m all all
    same_operands end_of-Operand scope r h s g = C.no_operands
    same_operands (more_of-Operand op e rest) scope r h s g = C.one_operand (same_expr e Unmarked scope r (lefts r _ _ h) s (all_left _ _ g)) (same_operands rest scope r (rights r _ _ h) s (all_right _ _ g))

    same_links : {m : _} (all : Row_of-Link m) (mark : Mark) (scope : List Text) (r : Reach) → Reaches r (U.link_uses all) → Scoped r scope → Every Good (A.link_arrows all mark scope) → C.Link_rows_stand P Q t file file' r m m all all
    same_links end_of-Link mark scope r h s g = C.no_links
    same_links (more_of-Link (Link.Prop name) rest) mark scope r h s g = C.prop_link (same_links rest Unmarked scope r h s g)
    same_links (more_of-Link (Link.Index e) rest) mark scope r h s g = C.index_link (same_expr e Unmarked scope r (lefts r _ _ h) s (all_left _ _ g)) (same_links rest Unmarked scope r (rights r _ _ h) s (all_right _ _ g))
    same_links (more_of-Link (Link.Call' _ all) rest) mark scope r h s g = C.call_link (same_row all mark scope r (lefts r _ _ h) s (all_left _ _ g)) (same_links rest Unmarked scope r (rights r _ _ h) s (all_right _ _ g))

    same_stmt : (e : Stmt) (scope : List Text) (r : Reach) → Reaches r (U.statement_uses e) → Scoped r scope → Every Good (A.statement_arrows e scope) → C.Stmts_stand P Q t file file' r e e
    same_stmt (Stmt.Const (Pattern.Name name) e) scope r h s g = C.const_names (same_expr e Unmarked scope r h s g)
    same_stmt (Stmt.Const (Pattern.Fields all) e) scope r h s g = C.const_fields (same_expr e Unmarked scope r h s g)
    same_stmt (Stmt.Const (Pattern.Scope all) e) scope r h s g = C.const_scopes
    same_stmt (Stmt.Let name e) scope r h s g = C.lets (same_expr e Unmarked scope r h s g)
    same_stmt (Stmt.Do e) scope r h s g = C.dos (same_expr e Unmarked scope r h s g)
    same_stmt (Stmt.Delete e) scope r h s g = C.deletes (same_expr e Unmarked scope r h s g)
    same_stmt (Stmt.Return' None') scope r h s g = C.returns
    same_stmt (Stmt.Return' (Some' e)) scope r h s g = C.returns_of (same_expr e Unmarked scope r h s g)
    same_stmt (Stmt.If' e _ then _ otherwise) scope r h s g =
        C.ifs (same_expr e Unmarked scope r (lefts r _ _ h) s (all_left _ _ g)) (C.a_block refl (same_stmts then (around (declared_in then) scope) (deeper (declared_in then) r) (deepens r (declared_in then) (U.block_uses then) (lefts r (others_than (declared_in then) (U.block_uses then)) (others_than (declared_in otherwise) (U.block_uses otherwise)) (rights r (U.uses e) (others_than (declared_in then) (U.block_uses then) ++ others_than (declared_in otherwise) (U.block_uses otherwise)) h))) (deepens_scope r (declared_in then) scope s) (all_left _ _ (all_right _ _ g)))) (C.a_block refl (same_stmts otherwise (around (declared_in otherwise) scope) (deeper (declared_in otherwise) r) (deepens r (declared_in otherwise) (U.block_uses otherwise) (rights r (others_than (declared_in then) (U.block_uses then)) (others_than (declared_in otherwise) (U.block_uses otherwise)) (rights r (U.uses e) (others_than (declared_in then) (U.block_uses then) ++ others_than (declared_in otherwise) (U.block_uses otherwise)) h))) (deepens_scope r (declared_in otherwise) scope s) (all_right _ _ (all_right _ _ g))))
    same_stmt (Stmt.While' e _ all) scope r h s g = C.whiles (same_expr e Unmarked scope r (lefts r _ _ h) s (all_left _ _ g)) (C.a_block refl (same_stmts all (around (declared_in all) scope) (deeper (declared_in all) r) (deepens r (declared_in all) (U.block_uses all) (rights r _ _ h)) (deepens_scope r (declared_in all) scope s) (all_right _ _ g)))
    same_stmt (Stmt.ForOf' name e _ all) scope r h s g =
        C.fors (same_expr e Unmarked scope r (lefts r _ _ h) s (all_left _ _ g)) (C.a_block refl (same_stmts all (around (declared_in all) (name ∷ scope)) (deeper (declared_in all) (deeper (name ∷ []) r)) (deepens (deeper (name ∷ []) r) (declared_in all) (U.block_uses all) (deepens r (name ∷ []) (others_than (declared_in all) (U.block_uses all)) (rights r (U.uses e) (others_than (name ∷ []) (others_than (declared_in all) (U.block_uses all))) h))) (deepens_scope (deeper (name ∷ []) r) (declared_in all) (name ∷ scope) (deepens_scope r (name ∷ []) scope s)) (all_right _ _ g)))
    same_stmt Stmt.Break scope r h s g = C.breaks
    same_stmt Stmt.Continue scope r h s g = C.continues
    same_stmt (Statement_block' _ all) scope r h s g = C.blocks (C.a_block refl (same_stmts all (around (declared_in all) scope) (deeper (declared_in all) r) (deepens r (declared_in all) (U.block_uses all) h) (deepens_scope r (declared_in all) scope s) g))

    pub same_stmts : {m : _} (all : Row_of-Stmt m) (scope : List Text) (r : Reach) → Reaches r (U.block_uses all) → Scoped r scope → Every Good (A.block_arrows all scope) → C.Stmt_rows_stand P Q t file file' r m m all all
    same_stmts end_of-Stmt scope r h s g = C.no_stmts
    same_stmts (more_of-Stmt e rest) scope r h s g = C.one_stmt (same_stmt e scope r (lefts r _ _ h) s (all_left _ _ g)) (same_stmts rest scope r (rights r _ _ h) s (all_right _ _ g))
