-- Where no rule of names and places is broken, each free name of an arrow is declared around it, or is a name of the root.
use Rattle.std.proofs.Common.{◌≡◌}
use Rattle.std.specs.Prelude.{ℕ, Bool, true, false, ◌&&◌, List, [], ◌∷◌, ◌++◌, Option, Some, None}
use Rattle.qk_ast.specs.declared.Form.{Form}
use Rattle.qk_ast.specs.declared.Item.{Item}
use Rattle.qk_ast.specs.declared.Pattern.{Pattern}
use Rattle.qk_ast.specs.declared.Tag.{Tag}
use Rattle.qk_ast.specs.declared.Expr.{Expr, Row_of-Expr, end_of-Expr, more_of-Expr, Row_of-Field, end_of-Field, more_of-Field, Row_of-Operand, end_of-Operand, more_of-Operand, Row_of-Link, end_of-Link, more_of-Link, more_of-Arrow, more_of-Jsx}
use Rattle.qk_ast.specs.declared.Stmt.{Stmt, Block' as Statement_block', Row_of-Stmt, end_of-Stmt, more_of-Stmt, None', Some'}
use Rattle.qk_ast.specs.declared.Link.{Link}
use Rattle.qk_ast.specs.declared.Jsx.{Jsx, Jsx'}
use Rattle.qk_ast.specs.declared.Body.{Body, Block' as Body_block'}
use Rattle.qk_ast.specs.Texts.{Text}
use Rattle.qk_ast.specs.Names.{around, patterns_names, declared_in, body_names}
use Rattle.qk_ast.specs.Arrows.{Mark, Unmarked, Tasked, Found_arrow, arrows, all_arrows, field_arrows, attribute_arrows, operand_arrows, link_arrows, jsx_arrows, statement_arrows, block_arrows, body_arrows, item_arrows, call_mark, name_mark, attribute_mark, inner_scope}
use Rattle.qk_ast.specs.Uses.{free_of}
use Rattle.qk_ast.specs.Scopes.{is_track, Constant, Scope, parameter_kind, arrow_scope, block_scope, for_scope, behind as behind_statement}
use Rattle.qk_ast.specs.Mentions.{Uses, declared_after, mentions, all_mentions, field_mentions, attribute_mentions, operand_mentions, link_mentions, jsx_mentions, statement_mentions, block_mentions, body_mentions, item_mentions, name_in}
use Rattle.qk_ast.specs.Spots.{Named, Standing, Anywhere, Hook_statement, Root_value, spots, all_spots, field_spots, operand_spots, link_spots, jsx_spots, attribute_spots, statement_spots, block_spots, body_spots, item_spots, called, argument_of, standing_mark, is_component_arrow, const_standing, where_hooks, lets_hooks_follow}
use Rattle.qk_ast.specs.Placing.{Root_kind}
use Rattle.qk_names.specs.Inside.{inside}
use Rattle.qk_names.specs.Laws.{IsTask}
use Rattle.qk_names.proofs.Each.{Each, none, head, tail, front, behind, each_then, ◌∷'◌, ◌▹◌}
use Rattle.qk_names.proofs.Untaken.{Clean, names_clean, name_clean, block_clean, body_clean}
use Rattle.qk_names.proofs.Tasks.{unmarked, attribute_unmarked}
use Rattle.qk_names.proofs.Plain.{Plain, Plain_all, Plain_fields, Plain_operands, Plain_links, Plain_jsx, Plain_statement, Plain_block, Plain_body}
use Rattle.qk_names.proofs.UsesKnown.{Mentioned, Placed, arrow}
use Rattle.qk_names.proofs.Covered.{Agree, known, Covers, Covers_in, covers_statement, covers_block, covers_for, covers_list, covers_arrow, covers_task, without_track}

unmarked_agree : (standing : Standing) → Agree Unmarked standing
unmarked_agree standing e = absurd (unmarked e)

attribute_agree : (name : Text) (standing : Standing) → Agree (attribute_mark name) standing
attribute_agree name standing e = absurd (attribute_unmarked name e)

-- a mark and the name that is called
abbrev Called_agree : Mark → Option Text → Type 0
Called_agree mark callee = (first : Bool) → Agree mark (argument_of callee first)

unmarked_called : (callee : Option Text) → Called_agree Unmarked callee
unmarked_called callee first e = absurd (unmarked e)

name_called : (name : Text) → Called_agree (name_mark name) (Some name)
name_called name first e = e

module _ (form : Form) (file : Text) (roots : List Text) (kinds : Text → Root_kind) where
  abbrev pub Tasks : List Found_arrow → Type 0
  Tasks xs = Each (λ a. a.mark ≡ Tasked → IsTask a.params) xs

  -- its free names are known
  abbrev pub Known_free : List Text → Found_arrow → Type 0
  Known_free others a = Each (λ t. known others a.scope t ≡ true) (free_of a)

  -- and inside a task with `track` that name isn't one of these
  abbrev pub Closed : List Text → List Found_arrow → Type 0
  Closed others xs = Each (λ a. Known_free others a × (a.mark ≡ Tasked → is_track a.params ≡ true → Each (Known_free (without_track others)) (inside a))) xs

  abbrev Fine : Expr → Type 0
  Fine x = (others : List Text) (mark : Mark) (standing : Standing) (outer scopes : List Scope) (scope : List Text) → Agree mark standing → Covers roots others outer scopes scope
      → Mentioned form file roots kinds (mentions x mark outer) → Clean scopes → Placed form file roots kinds (spots x standing scopes) → Tasks (arrows x mark scope) → Closed others (arrows x mark scope)

  abbrev All_fine : {m : _} → Row_of-Expr m → Type 0
  All_fine xs = (others : List Text) (mark : Mark) (callee : Option Text) (first : Bool) (outer scopes : List Scope) (scope : List Text) → Called_agree mark callee → Covers roots others outer scopes scope
      → Mentioned form file roots kinds (all_mentions xs mark outer) → Clean scopes → Placed form file roots kinds (all_spots xs callee first scopes) → Tasks (all_arrows xs mark scope) → Closed others (all_arrows xs mark scope)

  abbrev Fields_fine : {m : _} → Row_of-Field m → Type 0
  Fields_fine xs = (others : List Text) (outer scopes : List Scope) (scope : List Text) → Covers roots others outer scopes scope
      → Mentioned form file roots kinds (field_mentions xs outer) → Clean scopes → Placed form file roots kinds (field_spots xs scopes) → Tasks (field_arrows xs scope) → Closed others (field_arrows xs scope)

  abbrev Attributes_fine : {m : _} → Row_of-Field m → Type 0
  Attributes_fine xs = (others : List Text) (tag : Tag) (earlier : List Text) (outer scopes : List Scope) (scope : List Text) → Covers roots others outer scopes scope
      → Mentioned form file roots kinds (attribute_mentions xs outer) → Clean scopes → Placed form file roots kinds (attribute_spots tag earlier xs scopes) → Tasks (attribute_arrows xs scope) → Closed others (attribute_arrows xs scope)

  abbrev Operands_fine : {m : _} → Row_of-Operand m → Type 0
  Operands_fine xs = (others : List Text) (outer scopes : List Scope) (scope : List Text) → Covers roots others outer scopes scope
      → Mentioned form file roots kinds (operand_mentions xs outer) → Clean scopes → Placed form file roots kinds (operand_spots xs scopes) → Tasks (operand_arrows xs scope) → Closed others (operand_arrows xs scope)

  abbrev Links_fine : {m : _} → Row_of-Link m → Type 0
  Links_fine xs = (others : List Text) (mark : Mark) (callee : Option Text) (outer scopes : List Scope) (scope : List Text) → Called_agree mark callee → Covers roots others outer scopes scope
      → Mentioned form file roots kinds (link_mentions xs mark outer) → Clean scopes → Placed form file roots kinds (link_spots xs callee scopes) → Tasks (link_arrows xs mark scope) → Closed others (link_arrows xs mark scope)

  abbrev Jsx_fine : Jsx → Type 0
  Jsx_fine x = (others : List Text) (outer scopes : List Scope) (scope : List Text) → Covers roots others outer scopes scope
      → Mentioned form file roots kinds (jsx_mentions x outer) → Clean scopes → Placed form file roots kinds (jsx_spots x scopes) → Tasks (jsx_arrows x scope) → Closed others (jsx_arrows x scope)

  abbrev Statement_fine : Stmt → Type 0
  Statement_fine x = (others : List Text) (hooks : Bool) (own : Scope) (outer scopes : List Scope) (scope : List Text) → Covers_in roots others own.declared outer scopes scope
      → Mentioned form file roots kinds (statement_mentions x own outer) → Clean scopes → Placed form file roots kinds (statement_spots x hooks scopes) → Tasks (statement_arrows x scope) → Closed others (statement_arrows x scope)

  abbrev Block_fine : {m : _} → Row_of-Stmt m → Type 0
  Block_fine xs = (others : List Text) (hooks : Bool) (own : Scope) (outer scopes : List Scope) (scope : List Text) → Covers_in roots others own.declared outer scopes scope
      → Mentioned form file roots kinds (block_mentions xs own outer) → Clean scopes → Placed form file roots kinds (block_spots xs hooks scopes) → Tasks (block_arrows xs scope) → Closed others (block_arrows xs scope)

  abbrev Body_fine : Body → Type 0
  Body_fine x = (others : List Text) (component : Bool) (own : Scope) (outer scopes : List Scope) (scope : List Text) → Covers_in roots others own.declared outer scopes (around (body_names x) scope)
      → Mentioned form file roots kinds (body_mentions x own outer) → Clean scopes → Placed form file roots kinds (body_spots x component scopes) → Tasks (body_arrows x scope) → Closed others (body_arrows x scope)

  target : (x : Expr) → Fine x → (others : List Text) (outer scopes : List Scope) (scope : List Text) → Covers roots others outer scopes scope
      → Mentioned form file roots kinds (elim (name_in x) [ Some name ↦ Uses name true outer ∷ [] | None ↦ mentions x Unmarked outer ]) → Clean scopes
      → Placed form file roots kinds (spots x Anywhere scopes) → Tasks (arrows x Unmarked scope) → Closed others (arrows x Unmarked scope)
  target (Expr.Name name) f others outer scopes scope v h c p s = none
  target x f others outer scopes scope v h c p s = f others Unmarked Anywhere outer scopes scope (unmarked_agree Anywhere) v h c p s

  call : (x : Expr) → Fine x → {m : _} (xs : Row_of-Link m) → Links_fine xs → (others : List Text) (standing : Standing) (outer scopes : List Scope) (scope : List Text) → Covers roots others outer scopes scope
      → Mentioned form file roots kinds (mentions x Unmarked outer ++ link_mentions xs (call_mark x) outer) → Clean scopes
      → Placed form file roots kinds (elim (name_in x) [ Some name ↦ Named name (called xs) standing scopes ∷ link_spots xs (Some name) scopes | None ↦ spots x Anywhere scopes ++ link_spots xs None scopes ])
      → Tasks (arrows x Unmarked scope ++ link_arrows xs (call_mark x) scope) → Closed others (arrows x Unmarked scope ++ link_arrows xs (call_mark x) scope)
  call (Expr.Name name) f xs g others standing outer scopes scope v h c p s = g others (name_mark name) (Some name) outer scopes scope (name_called name) v (tail h) c (tail p) s
  call x f xs g others standing outer scopes scope v h c p s =
      f others Unmarked Anywhere outer scopes scope (unmarked_agree Anywhere) v (front (mentions x Unmarked outer) (link_mentions xs Unmarked outer) h) c (front (spots x Anywhere scopes) (link_spots xs None scopes) p)
      (front (arrows x Unmarked scope) (link_arrows xs Unmarked scope) s)
      ▹ g others Unmarked None outer scopes scope (unmarked_called None) v (behind (mentions x Unmarked outer) (link_mentions xs Unmarked outer) h) c (behind (spots x Anywhere scopes) (link_spots xs None scopes) p)
      (behind (arrows x Unmarked scope) (link_arrows xs Unmarked scope) s)

  -- an arrow and those inside it
  arrow_by : (place : ℕ) (params : List Pattern) (x : Body) → Plain_body x → Body_fine x → (others : List Text) (mark : Mark) (standing : Standing) (outer scopes : List Scope) (scope : List Text) → Agree mark standing → Covers roots others outer scopes scope
      → Mentioned form file roots kinds (declared_after [] (patterns_names params) ++ body_mentions x (arrow_scope mark params x) outer) → Clean scopes
      → Placed form file roots kinds (body_spots x (is_component_arrow standing) (arrow_scope (standing_mark standing) params x ∷ scopes))
      → Tasks (record { place = place; scope = scope; mark = mark; params = params; body = x } ∷ body_arrows x (inner_scope mark params scope))
      → Closed others (record { place = place; scope = scope; mark = mark; params = params; body = x } ∷ body_arrows x (inner_scope mark params scope))
  arrow_by place params x q f others mark standing outer scopes scope a v h c p s =
      let clean = (names_clean form file roots (parameter_kind (standing_mark standing) params) [] (patterns_names params) (front _ _ h) ▹ body_clean form file roots x (arrow_scope mark params x) outer (behind _ _ h)) ∷' c in
      let covered = covers_arrow roots others mark standing params x q a (head s) outer scopes scope v in
      let within = arrow_scope (standing_mark standing) params x ∷ scopes in (
        each_then (λ t g. v t g.0 g.1) (arrow form file roots kinds params x q mark standing outer scopes h c p),
        (λ tasked track. each_then (λ b g. g.0) (f (without_track others) (is_component_arrow standing) (arrow_scope mark params x) outer within (inner_scope mark params scope)
            (covers_task roots others mark standing params x a tasked track outer scopes (around (body_names x) (inner_scope mark params scope)) covered) (behind _ _ h) clean p (tail s))),
      )
      ∷' f others (is_component_arrow standing) (arrow_scope mark params x) outer within (inner_scope mark params scope) covered (behind _ _ h) clean p (tail s)

  -- a block of its own
  inner : {m : _} (xs : Row_of-Stmt m) → Plain_block xs → Block_fine xs → (others : List Text) (outer scopes : List Scope) (scope : List Text) → Covers roots others outer scopes scope
      → Mentioned form file roots kinds (block_mentions xs (block_scope xs) outer) → Clean scopes → Placed form file roots kinds (block_spots xs false (block_scope xs ∷ scopes))
      → Tasks (block_arrows xs (around (declared_in xs) scope)) → Closed others (block_arrows xs (around (declared_in xs) scope))
  inner xs q f others outer scopes scope v h c p s =
      f others false (block_scope xs) outer (block_scope xs ∷ scopes) (around (declared_in xs) scope) (covers_block roots others xs q outer scopes scope v) h (block_clean form file roots xs (block_scope xs) outer h ∷' c) p s

  mutual
    pub expression : (x : Expr) → Plain x → Fine x
    expression (Expr.Arrow' _ (more_of-Arrow place params x _)) q = λ others mark standing outer scopes scope a v h c p s. arrow_by place params x q (body x q) others mark standing outer scopes scope a v h c p s
    expression (Expr.List' _ xs) q = λ others mark standing outer scopes scope a v h c p s. all xs q others Unmarked None false outer scopes scope (unmarked_called None) v h c p s
    expression (Expr.Record' _ xs) q = λ others mark standing outer scopes scope a v h c p s. fields xs q others outer scopes scope v h c p s
    expression (Expr.Template' parts _ xs) q = λ others mark standing outer scopes scope a v h c p s. all xs q others Unmarked None false outer scopes scope (unmarked_called None) v h c p s
    expression (Expr.Unary' operator _ xs) q = λ others mark standing outer scopes scope a v h c p s. all xs q others Unmarked None false outer scopes scope (unmarked_called None) v h c p s
    expression (Expr.Chain' _ first _ rest) q = λ others mark standing outer scopes scope a v h c p s.
        all first q.0 others Unmarked None false outer scopes scope (unmarked_called None) v (front _ _ h) c (front _ _ p) (front _ _ s) ▹ operands rest q.1 others outer scopes scope v (behind _ _ h) c (behind _ _ p) (behind _ _ s)
    expression (Expr.Cond' _ x _ y _ z) q = λ others mark standing outer scopes scope a v h c p s.
        all x q.0 others Unmarked None false outer scopes scope (unmarked_called None) v (front _ _ h) c (front _ _ p) (front _ _ s)
        ▹ all y q.1.0 others Unmarked None false outer scopes scope (unmarked_called None) v (front _ _ (behind _ _ h)) c (front _ _ (behind _ _ p)) (front _ _ (behind _ _ s))
        ▹ all z q.1.1 others Unmarked None false outer scopes scope (unmarked_called None) v (behind _ _ (behind _ _ h)) c (behind _ _ (behind _ _ p)) (behind _ _ (behind _ _ s))
    expression (Expr.Post' _ (more_of-Expr x end_of-Expr) _ xs) q = λ others mark standing outer scopes scope a v h c p s. call x (expression x q.0.0) xs (links xs q.1) others standing outer scopes scope v h c p s
    expression (Expr.Assign' operator _ (more_of-Expr x end_of-Expr) _ xs) q = λ others mark standing outer scopes scope a v h c p s.
        (target x (expression x q.0.0) others outer scopes scope v (front _ _ h) c (front _ _ (front _ _ p)) (front _ _ (front _ _ s)) ▹ none)
        ▹ all xs q.1 others Unmarked None false outer scopes scope (unmarked_called None) v (behind _ _ h) c (behind _ _ p) (behind _ _ s)
    expression (Expr.Step' up _ (more_of-Expr x end_of-Expr)) q = λ others mark standing outer scopes scope a v h c p s. target x (expression x q.0) others outer scopes scope v h c (front _ _ p) (front _ _ s) ▹ none
    expression (Expr.Known' known _ xs) q = λ others mark standing outer scopes scope a v h c p s. all xs q others Unmarked None false outer scopes scope (unmarked_called None) v h c p s
    expression (Expr.Jsx' _ (more_of-Jsx x _)) q = λ others mark standing outer scopes scope a v h c p s. jsx x q others outer scopes scope v h c p s
    expression (Expr.Name t) q = λ others mark standing outer scopes scope a v h c p s. none
    expression Expr.Undefined q = λ others mark standing outer scopes scope a v h c p s. none
    expression Expr.Null q = λ others mark standing outer scopes scope a v h c p s. none
    expression (Expr.Bool b) q = λ others mark standing outer scopes scope a v h c p s. none
    expression (Expr.Int n) q = λ others mark standing outer scopes scope a v h c p s. none
    expression (Expr.Text t) q = λ others mark standing outer scopes scope a v h c p s. none

    pub all : {m : _} (xs : Row_of-Expr m) → Plain_all xs → All_fine xs
    all end_of-Expr q = λ others mark callee first outer scopes scope a v h c p s. none
    all (more_of-Expr x rest) q = λ others mark callee first outer scopes scope a v h c p s.
        expression x q.0 others mark (argument_of callee first) outer scopes scope (a first) v (front _ _ h) c (front _ _ p) (front _ _ s)
        ▹ all rest q.1 others mark callee false outer scopes scope a v (behind _ _ h) c (behind _ _ p) (behind _ _ s)

    pub fields : {m : _} (xs : Row_of-Field m) → Plain_fields xs → Fields_fine xs
    fields end_of-Field q = λ others outer scopes scope v h c p s. none
    fields (more_of-Field key x rest) q = λ others outer scopes scope v h c p s.
        expression x q.0 others Unmarked Anywhere outer scopes scope (unmarked_agree Anywhere) v (front _ _ h) c (front _ _ p) (front _ _ s) ▹ fields rest q.1 others outer scopes scope v (behind _ _ h) c (behind _ _ p) (behind _ _ s)

    pub attributes : {m : _} (xs : Row_of-Field m) → Plain_fields xs → Attributes_fine xs
    attributes end_of-Field q = λ others tag earlier outer scopes scope v h c p s. none
    attributes (more_of-Field key x rest) q = λ others tag earlier outer scopes scope v h c p s.
        expression x q.0 others (attribute_mark key) Anywhere outer scopes scope (attribute_agree key Anywhere) v (front _ _ h) c (front _ _ (tail p)) (front _ _ s)
        ▹ attributes rest q.1 others tag (earlier ++ key ∷ []) outer scopes scope v (behind _ _ h) c (behind _ _ (tail p)) (behind _ _ s)

    pub operands : {m : _} (xs : Row_of-Operand m) → Plain_operands xs → Operands_fine xs
    operands end_of-Operand q = λ others outer scopes scope v h c p s. none
    operands (more_of-Operand operator x rest) q = λ others outer scopes scope v h c p s.
        expression x q.0 others Unmarked Anywhere outer scopes scope (unmarked_agree Anywhere) v (front _ _ h) c (front _ _ p) (front _ _ s) ▹ operands rest q.1 others outer scopes scope v (behind _ _ h) c (behind _ _ p) (behind _ _ s)

    pub links : {m : _} (xs : Row_of-Link m) → Plain_links xs → Links_fine xs
    links end_of-Link q = λ others mark callee outer scopes scope a v h c p s. none
    links (more_of-Link (Link.Prop name) rest) q = λ others mark callee outer scopes scope a v h c p s. links rest q.1 others Unmarked None outer scopes scope (unmarked_called None) v h c p s
    links (more_of-Link (Link.Index x) rest) q = λ others mark callee outer scopes scope a v h c p s.
        expression x q.0 others Unmarked Anywhere outer scopes scope (unmarked_agree Anywhere) v (front _ _ h) c (front _ _ p) (front _ _ s)
        ▹ links rest q.1 others Unmarked None outer scopes scope (unmarked_called None) v (behind _ _ h) c (behind _ _ p) (behind _ _ s)
    links (more_of-Link (Link.Call' _ xs) rest) q = λ others mark callee outer scopes scope a v h c p s.
        all xs q.0 others mark callee true outer scopes scope a v (front _ _ h) c (front _ _ p) (front _ _ s)
        ▹ links rest q.1 others Unmarked None outer scopes scope (unmarked_called None) v (behind _ _ h) c (behind _ _ p) (behind _ _ s)

    pub jsx : (x : Jsx) → Plain_jsx x → Jsx_fine x
    jsx (Jsx' tag _ xs _ children) q = λ others outer scopes scope v h c p s.
        attributes xs q.0 others tag [] outer scopes scope v (front _ _ (behind _ _ h)) c (front _ _ (tail p)) (front _ _ s)
        ▹ all children q.1 others Unmarked None false outer scopes scope (unmarked_called None) v (behind _ _ (behind _ _ h)) c (behind _ _ (tail p)) (behind _ _ s)

    pub statement : (x : Stmt) → Plain_statement x → Statement_fine x
    statement (Stmt.Const pattern x) q = λ others hooks own outer scopes scope v h c p s.
        expression x q.1 others Unmarked (const_standing pattern hooks) (own ∷ outer) scopes scope (unmarked_agree (const_standing pattern hooks)) (covers_statement roots others own outer scopes scope v) (behind _ _ h) c p s
    statement (Stmt.Let name x) q = λ others hooks own outer scopes scope v h c p s. expression x q others Unmarked Anywhere (own ∷ outer) scopes scope (unmarked_agree Anywhere) (covers_statement roots others own outer scopes scope v) (tail h) c p s
    statement (Stmt.Do x) q = λ others hooks own outer scopes scope v h c p s.
        expression x q others Unmarked (where_hooks Hook_statement hooks) (own ∷ outer) scopes scope (unmarked_agree (where_hooks Hook_statement hooks)) (covers_statement roots others own outer scopes scope v) h c p s
    statement (Stmt.Delete x) q = λ others hooks own outer scopes scope v h c p s. expression x q others Unmarked Anywhere (own ∷ outer) scopes scope (unmarked_agree Anywhere) (covers_statement roots others own outer scopes scope v) h c p s
    statement (Stmt.Return' None') q = λ others hooks own outer scopes scope v h c p s. none
    statement (Stmt.Return' (Some' x)) q = λ others hooks own outer scopes scope v h c p s. expression x q others Unmarked Anywhere (own ∷ outer) scopes scope (unmarked_agree Anywhere) (covers_statement roots others own outer scopes scope v) h c p s
    statement (Stmt.If' x _ then _ otherwise) q = λ others hooks own outer scopes scope v h c p s.
        let w = covers_statement roots others own outer scopes scope v in
        expression x q.0 others Unmarked Anywhere (own ∷ outer) scopes scope (unmarked_agree Anywhere) w (front _ _ h) c (front _ _ p) (front _ _ s)
        ▹ inner then q.1.0 (block then q.1.0) others (own ∷ outer) scopes scope w (front _ _ (behind _ _ h)) c (front _ _ (behind _ _ p)) (front _ _ (behind _ _ s))
        ▹ inner otherwise q.1.1 (block otherwise q.1.1) others (own ∷ outer) scopes scope w (behind _ _ (behind _ _ h)) c (behind _ _ (behind _ _ p)) (behind _ _ (behind _ _ s))
    statement (Stmt.While' x _ xs) q = λ others hooks own outer scopes scope v h c p s.
        let w = covers_statement roots others own outer scopes scope v in
        expression x q.0 others Unmarked Anywhere (own ∷ outer) scopes scope (unmarked_agree Anywhere) w (front _ _ h) c (front _ _ p) (front _ _ s)
        ▹ inner xs q.1 (block xs q.1) others (own ∷ outer) scopes scope w (behind _ _ h) c (behind _ _ p) (behind _ _ s)
    statement (Stmt.ForOf' name x _ xs) q = λ others hooks own outer scopes scope v h c p s.
        let w = covers_statement roots others own outer scopes scope v in
        let c' = name_clean form file roots Constant name [] (head h) ∷' c in
        expression x q.0 others Unmarked Anywhere (for_scope [] name ∷ own ∷ outer) (for_scope [] name ∷ scopes) scope (unmarked_agree Anywhere) (covers_list roots others name (own ∷ outer) scopes scope w) (front _ _ (tail h)) c' (front _ _ p) (front _ _ s)
        ▹ inner xs q.1 (block xs q.1) others (for_scope (name ∷ []) name ∷ own ∷ outer) (for_scope [] name ∷ scopes) (name ∷ scope) (covers_for roots others name (own ∷ outer) scopes scope w) (behind _ _ (tail h)) c' (behind _ _ p) (behind _ _ s)
    statement Stmt.Break q = λ others hooks own outer scopes scope v h c p s. none
    statement Stmt.Continue q = λ others hooks own outer scopes scope v h c p s. none
    statement (Statement_block' _ xs) q = λ others hooks own outer scopes scope v h c p s. inner xs q (block xs q) others (own ∷ outer) scopes scope (covers_statement roots others own outer scopes scope v) h c p s

    pub block : {m : _} (xs : Row_of-Stmt m) → Plain_block xs → Block_fine xs
    block end_of-Stmt q = λ others hooks own outer scopes scope v h c p s. none
    block (more_of-Stmt x rest) q = λ others hooks own outer scopes scope v h c p s.
        statement x q.0 others hooks own outer scopes scope v (front _ _ h) c (front _ _ p) (front _ _ s)
        ▹ block rest q.1 others (hooks && lets_hooks_follow x) (behind_statement x own) outer scopes scope v (behind _ _ h) c (behind _ _ p) (behind _ _ s)

    pub body : (x : Body) → Plain_body x → Body_fine x
    body (Body.Value' _ xs) q = λ others component own outer scopes scope v h c p s.
        all xs q others Unmarked None false (own ∷ outer) scopes scope (unmarked_called None) (covers_statement roots others own outer scopes scope v) h c p s
    body (Body_block' _ xs) q = λ others component own outer scopes scope v h c p s. block xs q others component own outer scopes (around (declared_in xs) scope) v h c p s

  pub items : (earlier : List Text) (xs : List Item) → Each (λ i. Plain i.init) xs → Mentioned form file roots kinds (item_mentions earlier xs) → Placed form file roots kinds (item_spots xs)
      → Tasks (item_arrows xs) → Closed roots (item_arrows xs)
  items earlier [] q h p s = none
  items earlier (i ∷ rest) q h p s =
      expression i.init (head q) roots Unmarked Root_value [] [] [] (unmarked_agree Root_value) (λ t e u. e) (front _ _ (tail h)) none (front _ _ (tail p)) (front _ _ s)
      ▹ items (earlier ++ i.name ∷ []) rest (tail q) (behind _ _ (tail h)) (behind _ _ (tail p)) (behind _ _ s)
