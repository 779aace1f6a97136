-- Where no rule of names and places is broken, each name that is used is known, and no `track` is used inside an arrow of its task.
use Rattle.std.proofs.Common.{◌≡◌, refl}
use Rattle.std.proofs.lemmas.Bool.{false≢true}
use Rattle.std.specs.Prelude.{Bool, true, false, ◌&&◌, List, [], ◌∷◌, ◌++◌, Option, Some, None}
use Rattle.qk_ast.specs.declared.Form.{Form}
use Rattle.qk_ast.specs.declared.Item.{Item}
use Rattle.qk_ast.specs.declared.Pattern.{Pattern}
use Rattle.qk_ast.specs.declared.Tag.{Tag}
use Rattle.qk_ast.specs.declared.Expr.{Expr, Row_of-Expr, end_of-Expr, more_of-Expr, Row_of-Field, end_of-Field, more_of-Field, Row_of-Operand, end_of-Operand, more_of-Operand, Row_of-Link, end_of-Link, more_of-Link, more_of-Arrow, more_of-Jsx}
use Rattle.qk_ast.specs.declared.Stmt.{Stmt, Block' as Statement_block', Row_of-Stmt, end_of-Stmt, more_of-Stmt, None', Some'}
use Rattle.qk_ast.specs.declared.Link.{Link}
use Rattle.qk_ast.specs.declared.Jsx.{Jsx, Jsx'}
use Rattle.qk_ast.specs.declared.Body.{Body, Block' as Body_block'}
use Rattle.qk_ast.specs.Texts.{Text, same_text}
use Rattle.qk_ast.specs.Names.{is_listed, others_than, patterns_names, declared_in, body_names}
use Rattle.qk_ast.specs.Arrows.{Mark, Unmarked, call_mark, attribute_mark, name_mark}
use Rattle.qk_ast.specs.Uses.{uses, all_uses, field_uses, operand_uses, link_uses, jsx_uses, statement_uses, block_uses, body_uses, tag_use}
use Rattle.qk_ast.specs.Scopes.{Constant, Declaration, Scope, kind_in, parameter_kind, arrow_scope, block_scope, for_scope, declarations, declarations_in, behind as behind_statement}
use Rattle.qk_ast.specs.Mentions.{Mention, Uses, declared_after, mentions, all_mentions, field_mentions, attribute_mentions, operand_mentions, link_mentions, jsx_mentions, statement_mentions, block_mentions, body_mentions, tag_mentions, item_mentions, name_in}
use Rattle.qk_ast.specs.Spots.{Spot, Named, Tagged, Standing, Anywhere, Hook_statement, Root_value, Not_called, spots, all_spots, field_spots, operand_spots, link_spots, jsx_spots, attribute_spots, statement_spots, block_spots, body_spots, item_spots, called, argument_of, standing_mark, is_component_arrow, const_standing, where_hooks, lets_hooks_follow}
use Rattle.qk_ast.specs.Placing.{Root_kind, placing_breaches}
use Rattle.qk_names.proofs.Each.{Each, none, one, head, tail, front, behind, each_then, ◌∷'◌, ◌▹◌}
use Rattle.qk_names.proofs.Untaken.{Clean, Named_well, names_clean, name_clean, block_clean, body_clean}
use Rattle.qk_names.proofs.Plain.{Plain, Plain_all, Plain_fields, Plain_operands, Plain_links, Plain_jsx, Plain_statement, Plain_block, Plain_body}
use Rattle.qk_names.proofs.Listed.{each_other, kind_as, kind_both, block_kind, body_kind}
use Rattle.qk_names.proofs.Known.{if_kind, seen, tame, untracked, untracked_tame, use_seen, name_tame, tag_tame, seen_out, tame_out}

module _ (form : Form) (file : Text) (roots : List Text) (kinds : Text → Root_kind) where
  abbrev pub Mentioned : List Mention → Type 0
  Mentioned xs = Each (Named_well form file roots) xs

  abbrev pub Placed : List Spot → Type 0
  Placed xs = Each (λ spot. placing_breaches file kinds spot ≡ []) xs

  -- of a name that is used among these scopes
  abbrev pub Fact : (outer scopes : List Scope) → Text → Type 0
  Fact outer scopes t = (seen roots t outer ≡ true) × (tame t scopes ≡ true)

  -- the same of one that an arrow there uses
  abbrev pub Outside : (outer scopes : List Scope) → Text → Type 0
  Outside outer scopes t = (seen roots t outer ≡ true) × (untracked t scopes ≡ true)

  -- of one that is used where these are declared too
  abbrev pub Within : List Declaration → (outer scopes : List Scope) → Text → Type 0
  Within ds outer scopes t = (kind_in t ds ≡ None → seen roots t outer ≡ true) × (tame t scopes ≡ true)

  inward : (own : Scope) (outer scopes : List Scope) (t : Text) → Fact (own ∷ outer) scopes t → Within own.declared outer scopes t
  inward own outer scopes t f = ((λ k. seen_out roots t own outer k f.0), f.1)

  all_inward : (own : Scope) (outer scopes : List Scope) {xs : List Text} → Each (Fact (own ∷ outer) scopes) xs → Each (Within own.declared outer scopes) xs
  all_inward own outer scopes h = each_then (inward own outer scopes) h

  -- out of a block
  block_out : {m : _} (xs : Row_of-Stmt m) → Plain_block xs → (outer scopes : List Scope) → Each (Within (declarations xs) outer (block_scope xs ∷ scopes)) (block_uses xs) → Each (Fact outer scopes) (others_than (declared_in xs) (block_uses xs))
  block_out xs q outer scopes h = each_then (λ t f. (f.1.0 (block_kind xs q t f.0), tame_out t (block_scope xs) scopes (block_kind xs q t f.0) f.1.1)) (each_other (declared_in xs) (block_uses xs) h)

  -- out of a `for`: of what stands behind its name, and of the list
  for_out : (name : Text) (outer scopes : List Scope) (xs : List Text) → Each (Fact (for_scope (name ∷ []) name ∷ outer) (for_scope [] name ∷ scopes)) xs → Each (Fact outer scopes) (others_than (name ∷ []) xs)
  for_out name outer scopes xs h =
      each_then (λ t f. (seen_out roots t (for_scope (name ∷ []) name) outer (kind_as Constant t (name ∷ []) f.0) f.1.0, tame_out t (for_scope [] name) scopes (kind_as Constant t (name ∷ []) f.0) f.1.1))
      (each_other (name ∷ []) xs h)

  list_out : (name : Text) (outer scopes : List Scope) (t : Text) → Fact (for_scope [] name ∷ outer) (for_scope [] name ∷ scopes) t → Fact outer scopes t
  list_out name outer scopes t f = by (same_text name t) f.0 f.1
    where
      by : (b : Bool) → if_kind (elim b [ true ↦ Some Constant | false ↦ None ]) (λ k. false) (seen roots t outer) ≡ true
          → if_kind (elim b [ true ↦ Some Constant | false ↦ None ]) (λ k. true) (tame t scopes) ≡ true → Fact outer scopes t
      by true h g = absurd (false≢true h)
      by false h g = (h, g)

  -- what an arrow uses
  pub arrow_outside : (params : List Pattern) (x : Body) → Plain_body x → (mark : Mark) (standing : Standing) (outer scopes : List Scope)
      → Each (λ t. (is_listed t (body_names x) ≡ false) × Within (arrow_scope mark params x).declared outer (arrow_scope (standing_mark standing) params x ∷ scopes) t) (body_uses x)
      → Each (Outside outer scopes) (others_than (patterns_names params) (body_uses x))
  arrow_outside params x q mark standing outer scopes h =
      each_then (λ t f.
      let k = body_kind x q t f.1.0 in (
        f.1.1.0 (kind_both t _ (declarations_in x) (kind_as (parameter_kind mark params) t (patterns_names params) f.0) k),
        tame_out t (arrow_scope (standing_mark standing) params x) scopes (kind_both t _ (declarations_in x) (kind_as (parameter_kind (standing_mark standing) params) t (patterns_names params) f.0) k) f.1.1.1,
      ))
      (each_other (patterns_names params) (body_uses x) h)

  tag_facts : (tag : Tag) (children : Bool) (outer scopes : List Scope) → Mentioned (tag_mentions tag outer) → Clean scopes → placing_breaches file kinds (Tagged tag children scopes) ≡ [] → Each (Fact outer scopes) (tag_use tag)
  tag_facts (Tag.Component name) children outer scopes h c p = one (use_seen form file roots name false outer (head h), tag_tame file kinds name children scopes c p)
  tag_facts tag children outer scopes h c p = none

  abbrev Fine : Expr → Type 0
  Fine x = (mark : Mark) (standing : Standing) (outer scopes : List Scope) → Mentioned (mentions x mark outer) → Clean scopes → Placed (spots x standing scopes) → Each (Fact outer scopes) (uses x)

  abbrev All_fine : {m : _} → Row_of-Expr m → Type 0
  All_fine xs = (mark : Mark) (callee : Option Text) (first : Bool) (outer scopes : List Scope)
      → Mentioned (all_mentions xs mark outer) → Clean scopes → Placed (all_spots xs callee first scopes) → Each (Fact outer scopes) (all_uses xs)

  abbrev Fields_fine : {m : _} → Row_of-Field m → Type 0
  Fields_fine xs = (outer scopes : List Scope) → Mentioned (field_mentions xs outer) → Clean scopes → Placed (field_spots xs scopes) → Each (Fact outer scopes) (field_uses xs)

  abbrev Attributes_fine : {m : _} → Row_of-Field m → Type 0
  Attributes_fine xs = (tag : Tag) (earlier : List Text) (outer scopes : List Scope)
      → Mentioned (attribute_mentions xs outer) → Clean scopes → Placed (attribute_spots tag earlier xs scopes) → Each (Fact outer scopes) (field_uses xs)

  abbrev Operands_fine : {m : _} → Row_of-Operand m → Type 0
  Operands_fine xs = (outer scopes : List Scope) → Mentioned (operand_mentions xs outer) → Clean scopes → Placed (operand_spots xs scopes) → Each (Fact outer scopes) (operand_uses xs)

  abbrev Links_fine : {m : _} → Row_of-Link m → Type 0
  Links_fine xs = (mark : Mark) (callee : Option Text) (outer scopes : List Scope)
      → Mentioned (link_mentions xs mark outer) → Clean scopes → Placed (link_spots xs callee scopes) → Each (Fact outer scopes) (link_uses xs)

  abbrev Jsx_fine : Jsx → Type 0
  Jsx_fine x = (outer scopes : List Scope) → Mentioned (jsx_mentions x outer) → Clean scopes → Placed (jsx_spots x scopes) → Each (Fact outer scopes) (jsx_uses x)

  abbrev Statement_fine : Stmt → Type 0
  Statement_fine x = (hooks : Bool) (own : Scope) (outer scopes : List Scope)
      → Mentioned (statement_mentions x own outer) → Clean scopes → Placed (statement_spots x hooks scopes) → Each (Within own.declared outer scopes) (statement_uses x)

  abbrev Block_fine : {m : _} → Row_of-Stmt m → Type 0
  Block_fine xs = (hooks : Bool) (own : Scope) (outer scopes : List Scope)
      → Mentioned (block_mentions xs own outer) → Clean scopes → Placed (block_spots xs hooks scopes) → Each (Within own.declared outer scopes) (block_uses xs)

  abbrev Body_fine : Body → Type 0
  Body_fine x = (component : Bool) (own : Scope) (outer scopes : List Scope)
      → Mentioned (body_mentions x own outer) → Clean scopes → Placed (body_spots x component scopes)
      → Each (λ t. (is_listed t (body_names x) ≡ false) × Within own.declared outer scopes t) (body_uses x)

  target : (x : Expr) → Fine x → (outer scopes : List Scope)
      → Mentioned (elim (name_in x) [ Some name ↦ Uses name true outer ∷ [] | None ↦ mentions x Unmarked outer ]) → Clean scopes → Placed (spots x Anywhere scopes) → Each (Fact outer scopes) (uses x)
  target (Expr.Name name) f outer scopes h c p = one (use_seen form file roots name true outer (head h), name_tame file kinds name Not_called Anywhere scopes (head p))
  target x f outer scopes h c p = f Unmarked Anywhere outer scopes h c p

  call : (x : Expr) → Fine x → {m : _} (xs : Row_of-Link m) → Links_fine xs → (standing : Standing) (outer scopes : List Scope)
      → Mentioned (mentions x Unmarked outer ++ link_mentions xs (call_mark x) outer) → Clean scopes
      → Placed (elim (name_in x) [ Some name ↦ Named name (called xs) standing scopes ∷ link_spots xs (Some name) scopes | None ↦ spots x Anywhere scopes ++ link_spots xs None scopes ])
      → Each (Fact outer scopes) (uses x ++ link_uses xs)
  call (Expr.Name name) f xs g standing outer scopes h c p =
      (use_seen form file roots name false outer (head h), name_tame file kinds name (called xs) standing scopes (head p)) ∷' g (name_mark name) (Some name) outer scopes (tail h) c (tail p)
  call x f xs g standing outer scopes h c p =
      f Unmarked Anywhere outer scopes (front (mentions x Unmarked outer) (link_mentions xs Unmarked outer) h) c (front (spots x Anywhere scopes) (link_spots xs None scopes) p)
      ▹ g Unmarked None outer scopes (behind (mentions x Unmarked outer) (link_mentions xs Unmarked outer) h) c (behind (spots x Anywhere scopes) (link_spots xs None scopes) p)

  -- with nothing behind a part
  padded : (outer scopes : List Scope) (xs ys : List Text) → Each (Fact outer scopes) (xs ++ ys) → Each (Fact outer scopes) ((xs ++ []) ++ ys)
  padded outer scopes xs ys h = (front xs ys h ▹ none) ▹ behind xs ys h

  -- an arrow of that body
  arrow_by : (params : List Pattern) (x : Body) → Plain_body x → Body_fine x → (mark : Mark) (standing : Standing) (outer scopes : List Scope)
      → Mentioned (declared_after [] (patterns_names params) ++ body_mentions x (arrow_scope mark params x) outer) → Clean scopes
      → Placed (body_spots x (is_component_arrow standing) (arrow_scope (standing_mark standing) params x ∷ scopes))
      → Each (Outside outer scopes) (others_than (patterns_names params) (body_uses x))
  arrow_by params x q f mark standing outer scopes h c p =
      arrow_outside params x q mark standing outer scopes
      (f (is_component_arrow standing) (arrow_scope mark params x) outer (arrow_scope (standing_mark standing) params x ∷ scopes) (behind _ _ h)
      ((names_clean form file roots (parameter_kind (standing_mark standing) params) [] (patterns_names params) (front _ _ h) ▹ body_clean form file roots x (arrow_scope mark params x) outer (behind _ _ h)) ∷' c) p)

  -- a block of its own
  inner : {m : _} (xs : Row_of-Stmt m) → Plain_block xs → Block_fine xs → (outer scopes : List Scope)
      → Mentioned (block_mentions xs (block_scope xs) outer) → Clean scopes → Placed (block_spots xs false (block_scope xs ∷ scopes)) → Each (Fact outer scopes) (others_than (declared_in xs) (block_uses xs))
  inner xs q f outer scopes h c p =
      block_out xs q outer scopes (f false (block_scope xs) outer (block_scope xs ∷ scopes) h (block_clean form file roots xs (block_scope xs) outer h ∷' c) p)

  mutual
    pub expression : (x : Expr) → Plain x → Fine x
    expression (Expr.Arrow' _ (more_of-Arrow place params x _)) q = λ mark standing outer scopes h c p.
        each_then (λ t f. (f.0, untracked_tame t scopes f.1)) (arrow_by params x q (body x q) mark standing outer scopes h c p)
    expression (Expr.List' _ xs) q = λ mark standing outer scopes h c p. all xs q Unmarked None false outer scopes h c p
    expression (Expr.Record' _ xs) q = λ mark standing outer scopes h c p. fields xs q outer scopes h c p
    expression (Expr.Template' parts _ xs) q = λ mark standing outer scopes h c p. all xs q Unmarked None false outer scopes h c p
    expression (Expr.Unary' operator _ xs) q = λ mark standing outer scopes h c p. all xs q Unmarked None false outer scopes h c p
    expression (Expr.Chain' _ first _ rest) q = λ mark standing outer scopes h c p.
        all first q.0 Unmarked None false outer scopes (front _ _ h) c (front _ _ p) ▹ operands rest q.1 outer scopes (behind _ _ h) c (behind _ _ p)
    expression (Expr.Cond' _ x _ y _ z) q = λ mark standing outer scopes h c p.
        all x q.0 Unmarked None false outer scopes (front _ _ h) c (front _ _ p)
        ▹ all y q.1.0 Unmarked None false outer scopes (front _ _ (behind _ _ h)) c (front _ _ (behind _ _ p))
        ▹ all z q.1.1 Unmarked None false outer scopes (behind _ _ (behind _ _ h)) c (behind _ _ (behind _ _ p))
    expression (Expr.Post' _ (more_of-Expr x end_of-Expr) _ xs) q = λ mark standing outer scopes h c p.
        padded outer scopes (uses x) (link_uses xs) (call x (expression x q.0.0) xs (links xs q.1) standing outer scopes h c p)
    expression (Expr.Assign' operator _ (more_of-Expr x end_of-Expr) _ xs) q = λ mark standing outer scopes h c p.
        (target x (expression x q.0.0) outer scopes (front _ _ h) c (front _ _ (front _ _ p)) ▹ none) ▹ all xs q.1 Unmarked None false outer scopes (behind _ _ h) c (behind _ _ p)
    expression (Expr.Step' up _ (more_of-Expr x end_of-Expr)) q = λ mark standing outer scopes h c p. target x (expression x q.0) outer scopes h c (front _ _ p) ▹ none
    expression (Expr.Known' known _ xs) q = λ mark standing outer scopes h c p. all xs q Unmarked None false outer scopes h c p
    expression (Expr.Jsx' _ (more_of-Jsx x _)) q = λ mark standing outer scopes h c p. jsx x q outer scopes h c p
    expression (Expr.Name t) q = λ mark standing outer scopes h c p. one (use_seen form file roots t false outer (head h), name_tame file kinds t Not_called standing scopes (head p))
    expression Expr.Undefined q = λ mark standing outer scopes h c p. none
    expression Expr.Null q = λ mark standing outer scopes h c p. none
    expression (Expr.Bool b) q = λ mark standing outer scopes h c p. none
    expression (Expr.Int n) q = λ mark standing outer scopes h c p. none
    expression (Expr.Text t) q = λ mark standing outer scopes h c p. none

    pub all : {m : _} (xs : Row_of-Expr m) → Plain_all xs → All_fine xs
    all end_of-Expr q = λ mark callee first outer scopes h c p. none
    all (more_of-Expr x rest) q = λ mark callee first outer scopes h c p.
        expression x q.0 mark (argument_of callee first) outer scopes (front _ _ h) c (front _ _ p) ▹ all rest q.1 mark callee false outer scopes (behind _ _ h) c (behind _ _ p)

    pub fields : {m : _} (xs : Row_of-Field m) → Plain_fields xs → Fields_fine xs
    fields end_of-Field q = λ outer scopes h c p. none
    fields (more_of-Field key x rest) q = λ outer scopes h c p.
        expression x q.0 Unmarked Anywhere outer scopes (front _ _ h) c (front _ _ p) ▹ fields rest q.1 outer scopes (behind _ _ h) c (behind _ _ p)

    pub attributes : {m : _} (xs : Row_of-Field m) → Plain_fields xs → Attributes_fine xs
    attributes end_of-Field q = λ tag earlier outer scopes h c p. none
    attributes (more_of-Field key x rest) q = λ tag earlier outer scopes h c p.
        expression x q.0 (attribute_mark key) Anywhere outer scopes (front _ _ h) c (front _ _ (tail p)) ▹ attributes rest q.1 tag (earlier ++ key ∷ []) outer scopes (behind _ _ h) c (behind _ _ (tail p))

    pub operands : {m : _} (xs : Row_of-Operand m) → Plain_operands xs → Operands_fine xs
    operands end_of-Operand q = λ outer scopes h c p. none
    operands (more_of-Operand operator x rest) q = λ outer scopes h c p.
        expression x q.0 Unmarked Anywhere outer scopes (front _ _ h) c (front _ _ p) ▹ operands rest q.1 outer scopes (behind _ _ h) c (behind _ _ p)

    pub links : {m : _} (xs : Row_of-Link m) → Plain_links xs → Links_fine xs
    links end_of-Link q = λ mark callee outer scopes h c p. none
    links (more_of-Link (Link.Prop name) rest) q = λ mark callee outer scopes h c p. links rest q.1 Unmarked None outer scopes h c p
    links (more_of-Link (Link.Index x) rest) q = λ mark callee outer scopes h c p.
        expression x q.0 Unmarked Anywhere outer scopes (front _ _ h) c (front _ _ p) ▹ links rest q.1 Unmarked None outer scopes (behind _ _ h) c (behind _ _ p)
    links (more_of-Link (Link.Call' _ xs) rest) q = λ mark callee outer scopes h c p.
        all xs q.0 mark callee true outer scopes (front _ _ h) c (front _ _ p) ▹ links rest q.1 Unmarked None outer scopes (behind _ _ h) c (behind _ _ p)

    pub jsx : (x : Jsx) → Plain_jsx x → Jsx_fine x
    jsx (Jsx' tag _ xs _ children) q = λ outer scopes h c p.
        tag_facts tag _ outer scopes (front _ _ h) c (head p)
        ▹ attributes xs q.0 tag [] outer scopes (front _ _ (behind _ _ h)) c (front _ _ (tail p))
        ▹ all children q.1 Unmarked None false outer scopes (behind _ _ (behind _ _ h)) c (behind _ _ (tail p))

    pub statement : (x : Stmt) → Plain_statement x → Statement_fine x
    statement (Stmt.Const (Pattern.Name name) x) q = λ hooks own outer scopes h c p. all_inward own outer scopes (expression x q.1 Unmarked (const_standing (Pattern.Name name) hooks) (own ∷ outer) scopes (tail h) c p)
    statement (Stmt.Const (Pattern.Fields names) x) q = λ hooks own outer scopes h c p. all_inward own outer scopes (expression x q.1 Unmarked Anywhere (own ∷ outer) scopes (behind _ _ h) c p)
    statement (Stmt.Const (Pattern.Scope names) x) q = λ hooks own outer scopes h c p. none
    statement (Stmt.Let name x) q = λ hooks own outer scopes h c p. all_inward own outer scopes (expression x q Unmarked Anywhere (own ∷ outer) scopes (tail h) c p)
    statement (Stmt.Do x) q = λ hooks own outer scopes h c p. all_inward own outer scopes (expression x q Unmarked (where_hooks Hook_statement hooks) (own ∷ outer) scopes h c p)
    statement (Stmt.Delete x) q = λ hooks own outer scopes h c p. all_inward own outer scopes (expression x q Unmarked Anywhere (own ∷ outer) scopes h c p)
    statement (Stmt.Return' None') q = λ hooks own outer scopes h c p. none
    statement (Stmt.Return' (Some' x)) q = λ hooks own outer scopes h c p. all_inward own outer scopes (expression x q Unmarked Anywhere (own ∷ outer) scopes h c p)
    statement (Stmt.If' x _ then _ otherwise) q = λ hooks own outer scopes h c p.
        all_inward own outer scopes (expression x q.0 Unmarked Anywhere (own ∷ outer) scopes (front _ _ h) c (front _ _ p)
        ▹ inner then q.1.0 (block then q.1.0) (own ∷ outer) scopes (front _ _ (behind _ _ h)) c (front _ _ (behind _ _ p))
        ▹ inner otherwise q.1.1 (block otherwise q.1.1) (own ∷ outer) scopes (behind _ _ (behind _ _ h)) c (behind _ _ (behind _ _ p)))
    statement (Stmt.While' x _ xs) q = λ hooks own outer scopes h c p.
        all_inward own outer scopes (expression x q.0 Unmarked Anywhere (own ∷ outer) scopes (front _ _ h) c (front _ _ p) ▹ inner xs q.1 (block xs q.1) (own ∷ outer) scopes (behind _ _ h) c (behind _ _ p))
    statement (Stmt.ForOf' name x _ xs) q = λ hooks own outer scopes h c p.
        let c' = name_clean form file roots Constant name [] (head h) ∷' c in
        all_inward own outer scopes
        (each_then (list_out name (own ∷ outer) scopes) (expression x q.0 Unmarked Anywhere (for_scope [] name ∷ own ∷ outer) (for_scope [] name ∷ scopes) (front _ _ (tail h)) c' (front _ _ p))
        ▹ for_out name (own ∷ outer) scopes (others_than (declared_in xs) (block_uses xs)) (inner xs q.1 (block xs q.1) (for_scope (name ∷ []) name ∷ own ∷ outer) (for_scope [] name ∷ scopes) (behind _ _ (tail h)) c' (behind _ _ p)))
    statement Stmt.Break q = λ hooks own outer scopes h c p. none
    statement Stmt.Continue q = λ hooks own outer scopes h c p. none
    statement (Statement_block' _ xs) q = λ hooks own outer scopes h c p. all_inward own outer scopes (inner xs q (block xs q) (own ∷ outer) scopes h c p)

    pub block : {m : _} (xs : Row_of-Stmt m) → Plain_block xs → Block_fine xs
    block end_of-Stmt q = λ hooks own outer scopes h c p. none
    block (more_of-Stmt x rest) q = λ hooks own outer scopes h c p.
        statement x q.0 hooks own outer scopes (front _ _ h) c (front _ _ p) ▹ block rest q.1 (hooks && lets_hooks_follow x) (behind_statement x own) outer scopes (behind _ _ h) c (behind _ _ p)

    pub body : (x : Body) → Plain_body x → Body_fine x
    body (Body.Value' _ xs) q = λ component own outer scopes h c p.
        each_then (λ t f. (refl, inward own outer scopes t f)) (all xs q Unmarked None false (own ∷ outer) scopes h c p)
    body (Body_block' _ xs) q = λ component own outer scopes h c p. each_other (declared_in xs) (block_uses xs) (block xs q component own outer scopes h c p)

  -- what an arrow uses
  pub arrow : (params : List Pattern) (x : Body) → Plain_body x → (mark : Mark) (standing : Standing) (outer scopes : List Scope)
      → Mentioned (declared_after [] (patterns_names params) ++ body_mentions x (arrow_scope mark params x) outer) → Clean scopes
      → Placed (body_spots x (is_component_arrow standing) (arrow_scope (standing_mark standing) params x ∷ scopes))
      → Each (Outside outer scopes) (others_than (patterns_names params) (body_uses x))
  arrow params x q = arrow_by params x q (body x q)

  pub items : (earlier : List Text) (xs : List Item) → Each (λ i. Plain i.init) xs → Mentioned (item_mentions earlier xs) → Placed (item_spots xs) → Each (λ i. Each (λ t. is_listed t roots ≡ true) (uses i.init)) xs
  items earlier [] q h p = none
  items earlier (i ∷ rest) q h p =
      each_then (λ t f. f.0) (expression i.init (head q) Unmarked Root_value [] [] (front _ _ (tail h)) none (front _ _ (tail p)))
      ∷' items (earlier ++ i.name ∷ []) rest (tail q) (behind _ _ (tail h)) (behind _ _ (tail p))
