-- Where no rule of names is broken, the scopes around arrows have no name that a declaration may not have.
use Rattle.std.specs.Prelude.{◌≡◌, refl, Bool, true, false, ◌||◌, List, [], ◌∷◌, ◌++◌, flat_map, ⊤, codes}
use Rattle.std.proofs.Common.{sym, ◌∙◌, ap, true≢false}
use Rattle.std.proofs.lemmas.List.Concat.{flat_map-append}
use Rattle.std.proofs.lemmas.List.Elements.{All-from_recursion}
use Rattle.std.specs.List.{AllByRecursion}
use Rattle.std.specs.Cmp.Lexicographic.{same_text as told_same}
use Rattle.qk_ast.specs.declared.Item.{Item}
use Rattle.qk_ast.specs.declared.ScopeKind.TheVariants.{DuplicateName}
use Rattle.qk_ast.specs.declared.Expr.{Expr, Row_of-Expr, end_of-Expr, more_of-Expr, Row_of-Field, end_of-Field, more_of-Field, Row_of-Operand, end_of-Operand, more_of-Operand, Row_of-Link, end_of-Link, more_of-Link, more_of-Arrow, more_of-Jsx}
use Rattle.qk_ast.specs.declared.Pattern.{Pattern}
use Rattle.qk_ast.specs.declared.Stmt.{Stmt, Block' as Statement_block', Row_of-Stmt, end_of-Stmt, more_of-Stmt, None', Some'}
use Rattle.qk_ast.specs.declared.Link.{Link}
use Rattle.qk_ast.specs.declared.Jsx.{Jsx, Jsx'}
use Rattle.qk_ast.specs.declared.Body.{Body, Block' as Body_block'}
use Rattle.qk_ast.specs.Texts.{Text, same_text}
use Rattle.qk_ast.specs.Framework.{is_taken}
use Rattle.qk_ast.specs.Names.{is_listed, around, others_than, pattern_names, patterns_names, declared_by, declared_in}
use Rattle.qk_ast.specs.Arrows.{Mark, Unmarked, Marked, Tasked, Found_arrow, arrows, all_arrows, field_arrows, attribute_arrows, operand_arrows, link_arrows, jsx_arrows, statement_arrows, block_arrows, body_arrows, item_arrows, call_mark, attribute_mark, inner_scope}
use Rattle.qk_ast.specs.Scopes.{Scope, arrow_scope, block_scope, for_scope, behind}
use Rattle.qk_ast.specs.Mentions.{Mention, Declares, Roots, declared_after, tag_mentions, mentions, target_mentions, all_mentions, field_mentions, attribute_mentions, operand_mentions, link_mentions, jsx_mentions, statement_mentions, block_mentions, body_mentions, import_mentions, item_mentions, import_names}
use Rattle.qk_ast.specs.Naming.{Naming_breach, breach_if, naming_breaches, root_names}
use Rattle.qk_lifting.specs.Laws.{Clear, ScopesAreClear}
use Rattle.qk_lifting.proofs.Once.{still_listed}

-- ---- lists without breaches

abbrev is_none : List Naming_breach → Bool
is_none [] = true
is_none (x ∷ xs) = false

no_left : (xs ys : List Naming_breach) → xs ++ ys ≡ [] → xs ≡ []
no_left [] ys h = refl
no_left (x ∷ xs) ys h = absurd (true≢false (sym (ap is_none h)))

no_right : (xs ys : List Naming_breach) → xs ++ ys ≡ [] → ys ≡ []
no_right [] ys h = h
no_right (x ∷ xs) ys h = absurd (true≢false (sym (ap is_none h)))

-- ---- clear scopes

abbrev Untaken : List Text → Type 0
Untaken [] = ⊤
Untaken (n ∷ rest) = (is_taken n ≡ false) × Untaken rest

untaken_both : (xs ys : List Text) → Untaken xs → Untaken ys → Untaken (xs ++ ys)
untaken_both [] ys h g = g
untaken_both (x ∷ xs) ys h g = (h.0, untaken_both xs ys h.1 g)

clear_front : (n : Text) (scope : List Text) → is_taken n ≡ false → Clear scope → Clear (n ∷ scope)
clear_front n scope e h = λ t. by t (same_text n t) refl
  where
    by : (t : Text) (b : Bool) → same_text n t ≡ b → elim b [ true ↦ true | false ↦ is_listed t scope ] ≡ true → is_taken t ≡ false
    by t true f g = ap is_taken (sym (told_same n t (sym f))) ∙ e
    by t false f g = h t g

clear_around : (names scope : List Text) → Untaken names → Clear scope → Clear (around names scope)
clear_around [] scope u h = h
clear_around (n ∷ names) scope u h = clear_around names (n ∷ scope) u.1 (clear_front n scope u.0 h)

clear_others : (names scope : List Text) → Clear scope → Clear (others_than names scope)
clear_others names scope h = λ t g. h t (still_listed t names scope g)

clear_inner : (mark : Mark) (params : List Pattern) (scope : List Text) → Untaken (patterns_names params) → Clear scope → Clear (inner_scope mark params scope)
clear_inner Unmarked params scope u h = clear_around (patterns_names params) scope u h
clear_inner Marked params scope u h = clear_around (patterns_names params) scope u h
clear_inner Tasked [] scope u h = h
clear_inner Tasked (p ∷ rest) scope u h = clear_others (codes "track" ∷ []) scope h

-- ---- arrows whose scopes are clear

abbrev ClearIn : Found_arrow → Type 0
ClearIn a = Clear a.scope

record Cleared (xs : List Found_arrow) : Type 0 where
  cleared : AllByRecursion ClearIn xs

cleared_both : (xs ys : List Found_arrow) → AllByRecursion ClearIn xs → AllByRecursion ClearIn ys → AllByRecursion ClearIn (xs ++ ys)
cleared_both [] ys h g = g
cleared_both (x ∷ xs) ys h g = (h.0, cleared_both xs ys h.1 g)

infixr 60 ◌▸◌
◌▸◌ : {xs ys : List Found_arrow} → Cleared xs → Cleared ys → Cleared (xs ++ ys)
◌▸◌ {xs} {ys} h g = record { cleared = cleared_both xs ys h.cleared g.cleared }

none : Cleared []
none = record { cleared = tt }

arrow : (a : Found_arrow) (inside : List Found_arrow) → Clear a.scope → Cleared inside → Cleared (a ∷ inside)
arrow a inside h g = record { cleared = (h, g.cleared) }

module _ (f : Mention → List Naming_breach) (declares : (name : Text) (earlier : List Text) → f (Declares name earlier) ≡ [] → is_taken name ≡ false) where
  -- none of the mentions breaks a rule
  record Kept (ms : List Mention) : Type 0 where
    kept : flat_map f ms ≡ []

  front : {xs : List Mention} (ys : List Mention) → Kept (xs ++ ys) → Kept xs
  front {xs} ys h = record { kept = no_left (flat_map f xs) (flat_map f ys) (sym (flat_map-append f xs ys) ∙ h.kept) }

  back : (xs : List Mention) {ys : List Mention} → Kept (xs ++ ys) → Kept ys
  back xs {ys} h = record { kept = no_right (flat_map f xs) (flat_map f ys) (sym (flat_map-append f xs ys) ∙ h.kept) }

  untaken_after : (earlier names : List Text) → Kept (declared_after earlier names) → Untaken names
  untaken_after earlier [] h = tt
  untaken_after earlier (n ∷ rest) h = (
    declares n earlier (no_left (f (Declares n earlier)) (flat_map f (declared_after (earlier ++ n ∷ []) rest)) h.kept),
    untaken_after (earlier ++ n ∷ []) rest (back (Declares n earlier ∷ []) h),
  )

  untaken_statement : (s : Stmt) (own : Scope) (scopes : List Scope) → Kept (statement_mentions s own scopes) → Untaken (declared_by s)
  untaken_statement (Stmt.Const (Pattern.Scope names) x) own scopes h = tt
  untaken_statement (Stmt.Const (Pattern.Name name) x) own scopes h = untaken_after own.ended (name ∷ []) (front (mentions x Unmarked (own ∷ scopes)) h)
  untaken_statement (Stmt.Const (Pattern.Fields names) x) own scopes h = untaken_after own.ended names (front (mentions x Unmarked (own ∷ scopes)) h)
  untaken_statement (Stmt.Let name x) own scopes h = (declares name own.ended (no_left (f (Declares name own.ended)) (flat_map f (mentions x Unmarked (own ∷ scopes))) h.kept), tt)
  untaken_statement s own scopes h = tt

  untaken_block : {m : _} (xs : Row_of-Stmt m) (own : Scope) (scopes : List Scope) → Kept (block_mentions xs own scopes) → Untaken (declared_in xs)
  untaken_block end_of-Stmt own scopes h = tt
  untaken_block (more_of-Stmt s rest) own scopes h = untaken_both (declared_by s) (declared_in rest) (untaken_statement s own scopes (front (block_mentions rest (behind s own) scopes) h))
      (untaken_block rest (behind s own) scopes (back (statement_mentions s own scopes) h))

  -- a target that is no name
  target : (x : Expr) (scope : List Text) (scopes : List Scope) → Kept (target_mentions (more_of-Expr x end_of-Expr) scopes) → (Kept (mentions x Unmarked scopes) → Cleared (arrows x Unmarked scope)) → Cleared (arrows x Unmarked scope)
  target (Expr.Name name) scope scopes h g = none
  target x scope scopes h g = g h

  mutual
    expression : (x : Expr) (mark : Mark) (scope : List Text) (scopes : List Scope) → Kept (mentions x mark scopes) → Clear scope → Cleared (arrows x mark scope)
    expression (Expr.Arrow' _ (more_of-Arrow place params x _)) mark scope scopes h c =
        arrow (record { place = place; scope = scope; mark = mark; params = params; body = x }) (body_arrows x (inner_scope mark params scope)) c
        (body x (arrow_scope mark params x) (inner_scope mark params scope) scopes (back (declared_after [] (patterns_names params)) h)
        (clear_inner mark params scope (untaken_after [] (patterns_names params) (front (body_mentions x (arrow_scope mark params x) scopes) h)) c))
    expression (Expr.List' _ xs) mark scope scopes h c = all xs Unmarked scope scopes h c
    expression (Expr.Record' _ xs) mark scope scopes h c = fields xs scope scopes h c
    expression (Expr.Template' parts _ xs) mark scope scopes h c = all xs Unmarked scope scopes h c
    expression (Expr.Unary' operator _ xs) mark scope scopes h c = all xs Unmarked scope scopes h c
    expression (Expr.Chain' _ first _ rest) mark scope scopes h c = all first Unmarked scope scopes (front _ h) c ▸ operands rest scope scopes (back (all_mentions first Unmarked scopes) h) c
    expression (Expr.Cond' _ x _ y _ z) mark scope scopes h c = all x Unmarked scope scopes (front _ h) c
        ▸ (all y Unmarked scope scopes (front _ (back (all_mentions x Unmarked scopes) h)) c ▸ all z Unmarked scope scopes (back (all_mentions y Unmarked scopes) (back (all_mentions x Unmarked scopes) h)) c)
    expression (Expr.Post' _ (more_of-Expr head _) _ xs) mark scope scopes h c = expression head Unmarked scope scopes (front _ h) c ▸ links xs (call_mark head) scope scopes (back (mentions head Unmarked scopes) h) c
    expression (Expr.Assign' operator _ (more_of-Expr x end_of-Expr) _ y) mark scope scopes h c =
        (target x scope scopes (front _ h) (λ g. expression x Unmarked scope scopes g c) ▸ none) ▸ all y Unmarked scope scopes (back (target_mentions (more_of-Expr x end_of-Expr) scopes) h) c
    expression (Expr.Step' up _ (more_of-Expr x end_of-Expr)) mark scope scopes h c = target x scope scopes h (λ g. expression x Unmarked scope scopes g c) ▸ none
    expression (Expr.Known' known _ xs) mark scope scopes h c = all xs Unmarked scope scopes h c
    expression (Expr.Jsx' _ (more_of-Jsx x _)) mark scope scopes h c = jsx x scope scopes h c
    expression x mark scope scopes h c = none

    all : {m : _} (xs : Row_of-Expr m) (mark : Mark) (scope : List Text) (scopes : List Scope) → Kept (all_mentions xs mark scopes) → Clear scope → Cleared (all_arrows xs mark scope)
    all end_of-Expr mark scope scopes h c = none
    all (more_of-Expr x rest) mark scope scopes h c = expression x mark scope scopes (front _ h) c ▸ all rest mark scope scopes (back (mentions x mark scopes) h) c

    fields : {m : _} (xs : Row_of-Field m) (scope : List Text) (scopes : List Scope) → Kept (field_mentions xs scopes) → Clear scope → Cleared (field_arrows xs scope)
    fields end_of-Field scope scopes h c = none
    fields (more_of-Field key x rest) scope scopes h c = expression x Unmarked scope scopes (front _ h) c ▸ fields rest scope scopes (back (mentions x Unmarked scopes) h) c

    attributes : {m : _} (xs : Row_of-Field m) (scope : List Text) (scopes : List Scope) → Kept (attribute_mentions xs scopes) → Clear scope → Cleared (attribute_arrows xs scope)
    attributes end_of-Field scope scopes h c = none
    attributes (more_of-Field key x rest) scope scopes h c = expression x (attribute_mark key) scope scopes (front _ h) c ▸ attributes rest scope scopes (back (mentions x (attribute_mark key) scopes) h) c

    operands : {m : _} (xs : Row_of-Operand m) (scope : List Text) (scopes : List Scope) → Kept (operand_mentions xs scopes) → Clear scope → Cleared (operand_arrows xs scope)
    operands end_of-Operand scope scopes h c = none
    operands (more_of-Operand operator x rest) scope scopes h c = expression x Unmarked scope scopes (front _ h) c ▸ operands rest scope scopes (back (mentions x Unmarked scopes) h) c

    links : {m : _} (xs : Row_of-Link m) (mark : Mark) (scope : List Text) (scopes : List Scope) → Kept (link_mentions xs mark scopes) → Clear scope → Cleared (link_arrows xs mark scope)
    links end_of-Link mark scope scopes h c = none
    links (more_of-Link (Link.Prop name) rest) mark scope scopes h c = links rest Unmarked scope scopes h c
    links (more_of-Link (Link.Index x) rest) mark scope scopes h c = expression x Unmarked scope scopes (front _ h) c ▸ links rest Unmarked scope scopes (back (mentions x Unmarked scopes) h) c
    links (more_of-Link (Link.Call' _ xs) rest) mark scope scopes h c = all xs mark scope scopes (front _ h) c ▸ links rest Unmarked scope scopes (back (all_mentions xs mark scopes) h) c

    jsx : (x : Jsx) (scope : List Text) (scopes : List Scope) → Kept (jsx_mentions x scopes) → Clear scope → Cleared (jsx_arrows x scope)
    jsx (Jsx' tag _ xs _ children) scope scopes h c = attributes xs scope scopes (front _ (back (tag_mentions tag scopes) h)) c
        ▸ all children Unmarked scope scopes (back (attribute_mentions xs scopes) (back (tag_mentions tag scopes) h)) c

    statement : (x : Stmt) (own : Scope) (scope : List Text) (scopes : List Scope) → Kept (statement_mentions x own scopes) → Clear scope → Cleared (statement_arrows x scope)
    statement (Stmt.Const pattern x) own scope scopes h c = expression x Unmarked scope (own ∷ scopes) (back (declared_after own.ended (pattern_names pattern)) h) c
    statement (Stmt.Let name x) own scope scopes h c = expression x Unmarked scope (own ∷ scopes) (back (Declares name own.ended ∷ []) h) c
    statement (Stmt.Do x) own scope scopes h c = expression x Unmarked scope (own ∷ scopes) h c
    statement (Stmt.Delete x) own scope scopes h c = expression x Unmarked scope (own ∷ scopes) h c
    statement (Stmt.Return' None') own scope scopes h c = none
    statement (Stmt.Return' (Some' x)) own scope scopes h c = expression x Unmarked scope (own ∷ scopes) h c
    statement (Stmt.If' x _ then _ otherwise) own scope scopes h c = expression x Unmarked scope (own ∷ scopes) (front _ h) c
        ▸ (block then (block_scope then) (around (declared_in then) scope) (own ∷ scopes) (front _ (back (mentions x Unmarked (own ∷ scopes)) h)) (clear_around (declared_in then) scope (untaken_block then (block_scope then) (own ∷ scopes) (front _ (back (mentions x Unmarked (own ∷ scopes)) h))) c)
        ▸ block otherwise (block_scope otherwise) (around (declared_in otherwise) scope) (own ∷ scopes) (back (block_mentions then (block_scope then) (own ∷ scopes)) (back (mentions x Unmarked (own ∷ scopes)) h)) (clear_around (declared_in otherwise) scope (untaken_block otherwise (block_scope otherwise) (own ∷ scopes) (back (block_mentions then (block_scope then) (own ∷ scopes)) (back (mentions x Unmarked (own ∷ scopes)) h))) c))
    statement (Stmt.While' x _ xs) own scope scopes h c = expression x Unmarked scope (own ∷ scopes) (front _ h) c ▸ block xs (block_scope xs) (around (declared_in xs) scope) (own ∷ scopes) (back (mentions x Unmarked (own ∷ scopes)) h) (clear_around (declared_in xs) scope (untaken_block xs (block_scope xs) (own ∷ scopes) (back (mentions x Unmarked (own ∷ scopes)) h)) c)
    statement (Stmt.ForOf' name x _ xs) own scope scopes h c =
        expression x Unmarked scope (for_scope [] name ∷ own ∷ scopes) (front _ (back (Declares name [] ∷ []) h)) c
        ▸ block xs (block_scope xs) (around (declared_in xs) (name ∷ scope)) (for_scope (name ∷ []) name ∷ own ∷ scopes) (back (mentions x Unmarked (for_scope [] name ∷ own ∷ scopes)) (back (Declares name [] ∷ []) h)) (clear_around (declared_in xs) (name ∷ scope) (untaken_block xs (block_scope xs) (for_scope (name ∷ []) name ∷ own ∷ scopes) (back (mentions x Unmarked (for_scope [] name ∷ own ∷ scopes)) (back (Declares name [] ∷ []) h))) (clear_front name scope (declares name [] (no_left (f (Declares name [])) _ h.kept)) c))
    statement Stmt.Break own scope scopes h c = none
    statement Stmt.Continue own scope scopes h c = none
    statement (Statement_block' _ xs) own scope scopes h c = block xs (block_scope xs) (around (declared_in xs) scope) (own ∷ scopes) h (clear_around (declared_in xs) scope (untaken_block xs (block_scope xs) (own ∷ scopes) h) c)

    block : {m : _} (xs : Row_of-Stmt m) (own : Scope) (scope : List Text) (scopes : List Scope) → Kept (block_mentions xs own scopes) → Clear scope → Cleared (block_arrows xs scope)
    block end_of-Stmt own scope scopes h c = none
    block (more_of-Stmt x rest) own scope scopes h c = statement x own scope scopes (front _ h) c ▸ block rest (behind x own) scope scopes (back (statement_mentions x own scopes) h) c

    body : (x : Body) (own : Scope) (scope : List Text) (scopes : List Scope) → Kept (body_mentions x own scopes) → Clear scope → Cleared (body_arrows x scope)
    body (Body.Value' _ xs) own scope scopes h c = all xs Unmarked scope (own ∷ scopes) h c
    body (Body_block' _ xs) own scope scopes h c = block xs own (around (declared_in xs) scope) scopes h (clear_around (declared_in xs) scope (untaken_block xs own scopes h) c)

  items : (earlier : List Text) (is : List Item) → Kept (item_mentions earlier is) → Cleared (item_arrows is)
  items earlier [] h = none
  items earlier (i ∷ rest) h = expression i.init Unmarked [] [] (front _ (back (Roots i.name earlier ∷ []) h)) (λ t g. absurd (true≢false (sym g)))
      ▸ items (earlier ++ i.name ∷ []) rest (back (mentions i.init Unmarked []) (back (Roots i.name earlier ∷ []) h))

breaks : (b c : Bool) (name : Text) → breach_if (b || c) DuplicateName name ≡ [] → c ≡ false
breaks b false name e = refl
breaks true true name e = absurd (true≢false (sym (ap is_none e)))
breaks false true name e = absurd (true≢false (sym (ap is_none e)))

pub scopes_are_clear : ScopesAreClear
scopes_are_clear form file m h =
    let f : Mention → List Naming_breach = naming_breaches form file (root_names form file m) in
    let d : (name : Text) (earlier : List Text) → f (Declares name earlier) ≡ [] → is_taken name ≡ false = λ name earlier e. breaks (is_listed name earlier) (is_taken name) name e in
    All-from_recursion ClearIn (item_arrows m.items) (items f d (import_names m.imports) m.items (back f d (import_mentions [] m.imports) (record { kept = h }))).cleared
