-- Where no rule of names and places is broken, a task has no parameter or `{ track }`.
use Rattle.std.proofs.Common.{◌≡◌, refl, sym, ◌∙◌, ap, subst}
use Rattle.std.proofs.lemmas.Bool.{false≢true, or_cases}
use Rattle.std.proofs.lemmas.List.{nil_from_length}
use mathlib.Core.Logic.{◌⊎◌, inl, inr}
use Rattle.std.specs.Prelude.{Bool, true, false, ◌==◌, ◌||◌, ◌&&◌, List, [], ◌∷◌, ◌++◌, length, Option, Some, None, codes, ⊤}
use Rattle.qk_ast.specs.declared.Form.{Form}
use Rattle.qk_ast.specs.declared.Item.{Item}
use Rattle.qk_ast.specs.declared.Pattern.{Pattern}
use Rattle.qk_ast.specs.declared.Expr.{Expr, Row_of-Expr, end_of-Expr, more_of-Expr, Row_of-Field, end_of-Field, more_of-Field, Row_of-Operand, end_of-Operand, more_of-Operand, Row_of-Link, end_of-Link, more_of-Link, more_of-Arrow, more_of-Jsx}
use Rattle.qk_ast.specs.declared.Stmt.{Stmt, Block' as Statement_block', Row_of-Stmt, end_of-Stmt, more_of-Stmt, None', Some'}
use Rattle.qk_ast.specs.declared.Link.{Link}
use Rattle.qk_ast.specs.declared.Jsx.{Jsx, Jsx'}
use Rattle.qk_ast.specs.declared.Tag.{Tag}
use Rattle.qk_ast.specs.declared.Body.{Body, Block' as Body_block'}
use Rattle.qk_ast.proofs.Pieces.{nat_is}
use Rattle.qk_ast.specs.Texts.{Text, same_text, is_among}
use Rattle.qk_ast.specs.Names.{patterns_names}
use Rattle.qk_ast.specs.Arrows.{Mark, Unmarked, Marked, Tasked, Found_arrow, arrows, all_arrows, field_arrows, attribute_arrows, operand_arrows, link_arrows, jsx_arrows, statement_arrows, block_arrows, body_arrows, item_arrows, call_mark, name_mark, attribute_mark, inner_scope}
use Rattle.qk_ast.specs.Scopes.{Constant, Scope, Local, meaning, arrow_scope, block_scope, for_scope, is_track, parameter_kind, behind as behind_statement}
use Rattle.qk_ast.specs.Mentions.{Mention, Uses, mentions, all_mentions, field_mentions, attribute_mentions, operand_mentions, link_mentions, jsx_mentions, statement_mentions, block_mentions, body_mentions, item_mentions, name_in}
use Rattle.qk_ast.specs.Spots.{Spot, Named, Standing, Anywhere, Hook_statement, Root_value, spots, all_spots, field_spots, operand_spots, link_spots, jsx_spots, attribute_spots, statement_spots, block_spots, body_spots, item_spots, called, is_last, arguments_of, argument_of, standing_mark, is_component_arrow, const_standing, where_hooks, lets_hooks_follow}
use Rattle.qk_ast.specs.Placing.{Root_kind, Placing_breach, dollar_names, placing_breaches, local_use_breaches, root_use_breaches, is_dollar_call_refused, is_dollar_argument, has_parameters}
use Rattle.qk_names.specs.Laws.{IsTask}
use Rattle.qk_names.proofs.Bits.{text_is}
use Rattle.qk_names.proofs.Each.{Each, none, head, tail, front, behind, ◌∷'◌, ◌▹◌}
use Rattle.qk_names.proofs.Components.{dollar_kept, taken}
use Rattle.qk_names.proofs.Untaken.{Clean, no_local, Named_well, names_clean, name_clean, block_clean, body_clean}

-- ---- what a mark asks of an expression

abbrev pub Fits : Mark → Expr → Type 0
Fits mark (Expr.Arrow' _ (more_of-Arrow place params body _)) = mark ≡ Tasked → IsTask params
Fits mark _ = ⊤

abbrev AllFit : Mark → {m : _} → Row_of-Expr m → Type 0
AllFit mark end_of-Expr = ⊤
AllFit mark (more_of-Expr x rest) = Fits mark x × AllFit mark rest

abbrev FitsCalled : Mark → {m : _} → Row_of-Link m → Type 0
FitsCalled mark (more_of-Link (Link.Call' _ xs) rest) = AllFit mark xs
FitsCalled mark _ = ⊤

other_fits : (mark : Mark) → (mark ≡ Tasked → ⊥) → (x : Expr) → Fits mark x
other_fits mark n (Expr.Arrow' _ (more_of-Arrow place params body _)) = λ e. absurd (n e)
other_fits mark n x = tt

all_fit : (mark : Mark) → (mark ≡ Tasked → ⊥) → {m : _} (xs : Row_of-Expr m) → AllFit mark xs
all_fit mark n end_of-Expr = tt
all_fit mark n (more_of-Expr x rest) = (other_fits mark n x, all_fit mark n rest)

fits_called : (mark : Mark) → (mark ≡ Tasked → ⊥) → {m : _} (xs : Row_of-Link m) → FitsCalled mark xs
fits_called mark n (more_of-Link (Link.Call' _ xs) rest) = all_fit mark n xs
fits_called mark n xs = tt

abbrev is_tasked : Mark → Bool
is_tasked Tasked = true
is_tasked _ = false

pub unmarked : Unmarked ≡ Tasked → ⊥
unmarked e = false≢true (ap is_tasked e)

marked : Marked ≡ Tasked → ⊥
marked e = false≢true (ap is_tasked e)

either_mark : (b : Bool) → (elim b [ true ↦ Marked | false ↦ Unmarked ]) ≡ Tasked → ⊥
either_mark true e = marked e
either_mark false e = unmarked e

pub attribute_unmarked : (name : Text) → attribute_mark name ≡ Tasked → ⊥
attribute_unmarked name = either_mark _

name_unmarked : (name : Text) → same_text name (codes "useTask$") ≡ false → name_mark name ≡ Tasked → ⊥
name_unmarked name e f = either_mark _ (sym (ap (λ b. elim b [ true ↦ Tasked | false ↦ elim (is_among name (codes "component$" ∷ codes "$" ∷ codes "useComputed$" ∷ [])) [ true ↦ Marked | false ↦ Unmarked ] ]) e) ∙ f)

-- ---- a call of `useTask$`

task_among : (name : Text) → name ≡ codes "useTask$" → is_among name dollar_names ≡ true
task_among name e = ap (λ name. is_among name dollar_names) e

is_task : (params : List Pattern) → ((length params == 0) || is_track params) ≡ true → IsTask params
is_task params h = by (or_cases (length params == 0) (is_track params) h)
  where
    by : ((length params == 0) ≡ true) ⊎ (is_track params ≡ true) → IsTask params
    by (inl e) = inl (nil_from_length params (nat_is (length params) 0 e))
    by (inr e) = inr e

argument_fits : (name : Text) → name ≡ codes "useTask$" → (mark : Mark) {m : _} (xs : Row_of-Expr m) → is_dollar_argument name (arguments_of xs) ≡ true → AllFit mark xs
argument_fits name e mark (more_of-Expr (Expr.Arrow' _ (more_of-Arrow place params body _)) end_of-Expr) h =
    ((λ tasked. is_task params (subst (λ name. has_parameters name params ≡ true) e h)), tt)
argument_fits name e mark xs h = absurd (false≢true h)

call_fits : (name : Text) → name ≡ codes "useTask$" → (mark : Mark) {m : _} (xs : Row_of-Link m) → is_dollar_call_refused name (called xs) ≡ false → FitsCalled mark xs
call_fits name e mark (more_of-Link (Link.Call' _ xs) rest) h = argument_fits name e mark xs (taken name (arguments_of xs) (is_last rest) (task_among name e) h)
call_fits name e mark xs h = tt

module _ (form : Form) (file : Text) (roots : List Text) (kinds : Text → Root_kind) where
  abbrev Mentioned : List Mention → Type 0
  Mentioned xs = Each (Named_well form file roots) xs

  abbrev Placed : List Spot → Type 0
  Placed xs = Each (λ spot. placing_breaches file kinds spot ≡ []) xs

  abbrev Tasks : List Found_arrow → Type 0
  Tasks xs = Each (λ a. a.mark ≡ Tasked → IsTask a.params) xs

  name_fits : (name : Text) {m : _} (xs : Row_of-Link m) (standing : Standing) (scopes : List Scope) → Clean scopes → placing_breaches file kinds (Named name (called xs) standing scopes) ≡ [] → FitsCalled (name_mark name) xs
  name_fits name xs standing scopes c p = by (same_text name (codes "useTask$")) refl
    where
      broken : Option Local → List Placing_breach
      broken local = elim local [ Some local ↦ local_use_breaches name (called xs) local | None ↦ root_use_breaches kinds name (called xs) standing scopes ]

      by : (b : Bool) → same_text name (codes "useTask$") ≡ b → FitsCalled (name_mark name) xs
      by false e = fits_called (name_mark name) (name_unmarked name e) xs
      by true e =
          let same = text_is name (codes "useTask$") e in
          let nowhere = subst (λ name. meaning name scopes ≡ None) (sym same) (no_local (codes "useTask$") refl scopes false c) in
          call_fits name same (name_mark name) xs (dollar_kept kinds name (called xs) standing scopes (sym (ap broken nowhere) ∙ p))

  -- where their mentions and spots break nothing, their tasks are good
  abbrev Fine : Expr → Type 0
  Fine x = (mark : Mark) (standing : Standing) (outer scopes : List Scope) (scope : List Text)
      → Fits mark x → Mentioned (mentions x mark outer) → Clean scopes → Placed (spots x standing scopes) → Tasks (arrows x mark scope)

  abbrev All_fine : {m : _} → Row_of-Expr m → Type 0
  All_fine xs = (mark : Mark) (callee : Option Text) (first : Bool) (outer scopes : List Scope) (scope : List Text)
      → AllFit mark xs → Mentioned (all_mentions xs mark outer) → Clean scopes → Placed (all_spots xs callee first scopes) → Tasks (all_arrows xs mark scope)

  abbrev Fields_fine : {m : _} → Row_of-Field m → Type 0
  Fields_fine xs = (outer scopes : List Scope) (scope : List Text) → Mentioned (field_mentions xs outer) → Clean scopes → Placed (field_spots xs scopes) → Tasks (field_arrows xs scope)

  abbrev Attributes_fine : {m : _} → Row_of-Field m → Type 0
  Attributes_fine xs = (tag : Tag) (earlier : List Text) (outer scopes : List Scope) (scope : List Text)
      → Mentioned (attribute_mentions xs outer) → Clean scopes → Placed (attribute_spots tag earlier xs scopes) → Tasks (attribute_arrows xs scope)

  abbrev Operands_fine : {m : _} → Row_of-Operand m → Type 0
  Operands_fine xs = (outer scopes : List Scope) (scope : List Text) → Mentioned (operand_mentions xs outer) → Clean scopes → Placed (operand_spots xs scopes) → Tasks (operand_arrows xs scope)

  abbrev Links_fine : {m : _} → Row_of-Link m → Type 0
  Links_fine xs = (mark : Mark) (callee : Option Text) (outer scopes : List Scope) (scope : List Text)
      → FitsCalled mark xs → Mentioned (link_mentions xs mark outer) → Clean scopes → Placed (link_spots xs callee scopes) → Tasks (link_arrows xs mark scope)

  abbrev Jsx_fine : Jsx → Type 0
  Jsx_fine x = (outer scopes : List Scope) (scope : List Text) → Mentioned (jsx_mentions x outer) → Clean scopes → Placed (jsx_spots x scopes) → Tasks (jsx_arrows x scope)

  abbrev Statement_fine : Stmt → Type 0
  Statement_fine x = (hooks : Bool) (own : Scope) (outer scopes : List Scope) (scope : List Text)
      → Mentioned (statement_mentions x own outer) → Clean scopes → Placed (statement_spots x hooks scopes) → Tasks (statement_arrows x scope)

  abbrev Block_fine : {m : _} → Row_of-Stmt m → Type 0
  Block_fine xs = (hooks : Bool) (own : Scope) (outer scopes : List Scope) (scope : List Text)
      → Mentioned (block_mentions xs own outer) → Clean scopes → Placed (block_spots xs hooks scopes) → Tasks (block_arrows xs scope)

  abbrev Body_fine : Body → Type 0
  Body_fine x = (component : Bool) (own : Scope) (outer scopes : List Scope) (scope : List Text)
      → Mentioned (body_mentions x own outer) → Clean scopes → Placed (body_spots x component scopes) → Tasks (body_arrows x scope)

  -- a target: a name has no arrows, and else it is an expression
  target : (x : Expr) → Fine x → (outer scopes : List Scope) (scope : List Text)
      → Mentioned (elim (name_in x) [ Some name ↦ Uses name true outer ∷ [] | None ↦ mentions x Unmarked outer ]) → Clean scopes → Placed (spots x Anywhere scopes) → Tasks (arrows x Unmarked scope)
  target (Expr.Name name) f outer scopes scope h c p = none
  target x f outer scopes scope h c p = f Unmarked Anywhere outer scopes scope (other_fits Unmarked unmarked x) h c p

  -- what links are on
  call : (x : Expr) → Fine x → {m : _} (xs : Row_of-Link m) → Links_fine xs → (standing : Standing) (outer scopes : List Scope) (scope : List Text)
      → Mentioned (mentions x Unmarked outer ++ link_mentions xs (call_mark x) outer) → Clean scopes
      → Placed (elim (name_in x) [ Some name ↦ Named name (called xs) standing scopes ∷ link_spots xs (Some name) scopes | None ↦ spots x Anywhere scopes ++ link_spots xs None scopes ])
      → Tasks (arrows x Unmarked scope ++ link_arrows xs (call_mark x) scope)
  call (Expr.Name name) f xs g standing outer scopes scope h c p = g (name_mark name) (Some name) outer scopes scope (name_fits name xs standing scopes c (head p)) (tail h) c (tail p)
  call x f xs g standing outer scopes scope h c p =
      f Unmarked Anywhere outer scopes scope (other_fits Unmarked unmarked x) (front (mentions x Unmarked outer) (link_mentions xs Unmarked outer) h) c (front (spots x Anywhere scopes) (link_spots xs None scopes) p)
      ▹ g Unmarked None outer scopes scope (fits_called Unmarked unmarked xs) (behind (mentions x Unmarked outer) (link_mentions xs Unmarked outer) h) c (behind (spots x Anywhere scopes) (link_spots xs None scopes) p)

  mutual
    pub expression : (x : Expr) → Fine x
    expression (Expr.Arrow' _ (more_of-Arrow place params x _)) = λ mark standing outer scopes scope f h c p.
        f ∷' body x (is_component_arrow standing) (arrow_scope mark params x) outer (arrow_scope (standing_mark standing) params x ∷ scopes) (inner_scope mark params scope) (behind _ _ h)
        ((names_clean form file roots (parameter_kind (standing_mark standing) params) [] (patterns_names params) (front _ _ h) ▹ body_clean form file roots x (arrow_scope mark params x) outer (behind _ _ h)) ∷' c) p
    expression (Expr.List' _ xs) = λ mark standing outer scopes scope f h c p. all xs Unmarked None false outer scopes scope (all_fit Unmarked unmarked xs) h c p
    expression (Expr.Record' _ xs) = λ mark standing outer scopes scope f h c p. fields xs outer scopes scope h c p
    expression (Expr.Template' parts _ xs) = λ mark standing outer scopes scope f h c p. all xs Unmarked None false outer scopes scope (all_fit Unmarked unmarked xs) h c p
    expression (Expr.Unary' operator _ xs) = λ mark standing outer scopes scope f h c p. all xs Unmarked None false outer scopes scope (all_fit Unmarked unmarked xs) h c p
    expression (Expr.Chain' _ first _ rest) = λ mark standing outer scopes scope f h c p.
        all first Unmarked None false outer scopes scope (all_fit Unmarked unmarked first) (front _ _ h) c (front _ _ p) ▹ operands rest outer scopes scope (behind _ _ h) c (behind _ _ p)
    expression (Expr.Cond' _ x _ y _ z) = λ mark standing outer scopes scope f h c p.
        all x Unmarked None false outer scopes scope (all_fit Unmarked unmarked x) (front _ _ h) c (front _ _ p)
        ▹ all y Unmarked None false outer scopes scope (all_fit Unmarked unmarked y) (front _ _ (behind _ _ h)) c (front _ _ (behind _ _ p))
        ▹ all z Unmarked None false outer scopes scope (all_fit Unmarked unmarked z) (behind _ _ (behind _ _ h)) c (behind _ _ (behind _ _ p))
    expression (Expr.Post' _ (more_of-Expr x end_of-Expr) _ xs) = λ mark standing outer scopes scope f h c p. call x (expression x) xs (links xs) standing outer scopes scope h c p
    expression (Expr.Assign' operator _ (more_of-Expr x end_of-Expr) _ xs) = λ mark standing outer scopes scope f h c p.
        (target x (expression x) outer scopes scope (front _ _ h) c (front _ _ (front _ _ p)) ▹ none) ▹ all xs Unmarked None false outer scopes scope (all_fit Unmarked unmarked xs) (behind _ _ h) c (behind _ _ p)
    expression (Expr.Step' up _ (more_of-Expr x end_of-Expr)) = λ mark standing outer scopes scope f h c p. target x (expression x) outer scopes scope h c (front _ _ p) ▹ none
    expression (Expr.Known' known _ xs) = λ mark standing outer scopes scope f h c p. all xs Unmarked None false outer scopes scope (all_fit Unmarked unmarked xs) h c p
    expression (Expr.Jsx' _ (more_of-Jsx x _)) = λ mark standing outer scopes scope f h c p. jsx x outer scopes scope h c p
    expression Expr.Undefined = λ mark standing outer scopes scope f h c p. none
    expression Expr.Null = λ mark standing outer scopes scope f h c p. none
    expression (Expr.Bool b) = λ mark standing outer scopes scope f h c p. none
    expression (Expr.Int n) = λ mark standing outer scopes scope f h c p. none
    expression (Expr.Text t) = λ mark standing outer scopes scope f h c p. none
    expression (Expr.Name t) = λ mark standing outer scopes scope f h c p. none

    pub all : {m : _} (xs : Row_of-Expr m) → All_fine xs
    all end_of-Expr = λ mark callee first outer scopes scope f h c p. none
    all (more_of-Expr x rest) = λ mark callee first outer scopes scope f h c p.
        expression x mark (argument_of callee first) outer scopes scope f.0 (front _ _ h) c (front _ _ p) ▹ all rest mark callee false outer scopes scope f.1 (behind _ _ h) c (behind _ _ p)

    pub fields : {m : _} (xs : Row_of-Field m) → Fields_fine xs
    fields end_of-Field = λ outer scopes scope h c p. none
    fields (more_of-Field key x rest) = λ outer scopes scope h c p.
        expression x Unmarked Anywhere outer scopes scope (other_fits Unmarked unmarked x) (front _ _ h) c (front _ _ p) ▹ fields rest outer scopes scope (behind _ _ h) c (behind _ _ p)

    pub attributes : {m : _} (xs : Row_of-Field m) → Attributes_fine xs
    attributes end_of-Field = λ tag earlier outer scopes scope h c p. none
    attributes (more_of-Field key x rest) = λ tag earlier outer scopes scope h c p.
        expression x (attribute_mark key) Anywhere outer scopes scope (other_fits (attribute_mark key) (attribute_unmarked key) x) (front _ _ h) c (front _ _ (tail p))
        ▹ attributes rest tag (earlier ++ key ∷ []) outer scopes scope (behind _ _ h) c (behind _ _ (tail p))

    pub operands : {m : _} (xs : Row_of-Operand m) → Operands_fine xs
    operands end_of-Operand = λ outer scopes scope h c p. none
    operands (more_of-Operand operator x rest) = λ outer scopes scope h c p.
        expression x Unmarked Anywhere outer scopes scope (other_fits Unmarked unmarked x) (front _ _ h) c (front _ _ p) ▹ operands rest outer scopes scope (behind _ _ h) c (behind _ _ p)

    pub links : {m : _} (xs : Row_of-Link m) → Links_fine xs
    links end_of-Link = λ mark callee outer scopes scope f h c p. none
    links (more_of-Link (Link.Prop name) rest) = λ mark callee outer scopes scope f h c p. links rest Unmarked None outer scopes scope (fits_called Unmarked unmarked rest) h c p
    links (more_of-Link (Link.Index x) rest) = λ mark callee outer scopes scope f h c p.
        expression x Unmarked Anywhere outer scopes scope (other_fits Unmarked unmarked x) (front _ _ h) c (front _ _ p)
        ▹ links rest Unmarked None outer scopes scope (fits_called Unmarked unmarked rest) (behind _ _ h) c (behind _ _ p)
    links (more_of-Link (Link.Call' _ xs) rest) = λ mark callee outer scopes scope f h c p.
        all xs mark callee true outer scopes scope f (front _ _ h) c (front _ _ p)
        ▹ links rest Unmarked None outer scopes scope (fits_called Unmarked unmarked rest) (behind _ _ h) c (behind _ _ p)

    pub jsx : (x : Jsx) → Jsx_fine x
    jsx (Jsx' tag _ xs _ children) = λ outer scopes scope h c p.
        attributes xs tag [] outer scopes scope (front _ _ (behind _ _ h)) c (front _ _ (tail p))
        ▹ all children Unmarked None false outer scopes scope (all_fit Unmarked unmarked children) (behind _ _ (behind _ _ h)) c (behind _ _ (tail p))

    pub statement : (x : Stmt) → Statement_fine x
    statement (Stmt.Const pattern x) = λ hooks own outer scopes scope h c p. expression x Unmarked (const_standing pattern hooks) (own ∷ outer) scopes scope (other_fits Unmarked unmarked x) (behind _ _ h) c p
    statement (Stmt.Let name x) = λ hooks own outer scopes scope h c p. expression x Unmarked Anywhere (own ∷ outer) scopes scope (other_fits Unmarked unmarked x) (tail h) c p
    statement (Stmt.Do x) = λ hooks own outer scopes scope h c p. expression x Unmarked (where_hooks Hook_statement hooks) (own ∷ outer) scopes scope (other_fits Unmarked unmarked x) h c p
    statement (Stmt.Delete x) = λ hooks own outer scopes scope h c p. expression x Unmarked Anywhere (own ∷ outer) scopes scope (other_fits Unmarked unmarked x) h c p
    statement (Stmt.Return' None') = λ hooks own outer scopes scope h c p. none
    statement (Stmt.Return' (Some' x)) = λ hooks own outer scopes scope h c p. expression x Unmarked Anywhere (own ∷ outer) scopes scope (other_fits Unmarked unmarked x) h c p
    statement (Stmt.If' x _ then _ otherwise) = λ hooks own outer scopes scope h c p.
        let yes = front _ _ (behind _ _ h) in
        let no = behind _ _ (behind _ _ h) in
        expression x Unmarked Anywhere (own ∷ outer) scopes scope (other_fits Unmarked unmarked x) (front _ _ h) c (front _ _ p)
        ▹ block then false (block_scope then) (own ∷ outer) (block_scope then ∷ scopes) _ yes (block_clean form file roots then (block_scope then) (own ∷ outer) yes ∷' c) (front _ _ (behind _ _ p))
        ▹ block otherwise false (block_scope otherwise) (own ∷ outer) (block_scope otherwise ∷ scopes) _ no (block_clean form file roots otherwise (block_scope otherwise) (own ∷ outer) no ∷' c) (behind _ _ (behind _ _ p))
    statement (Stmt.While' x _ xs) = λ hooks own outer scopes scope h c p.
        expression x Unmarked Anywhere (own ∷ outer) scopes scope (other_fits Unmarked unmarked x) (front _ _ h) c (front _ _ p)
        ▹ block xs false (block_scope xs) (own ∷ outer) (block_scope xs ∷ scopes) _ (behind _ _ h) (block_clean form file roots xs (block_scope xs) (own ∷ outer) (behind _ _ h) ∷' c) (behind _ _ p)
    statement (Stmt.ForOf' name x _ xs) = λ hooks own outer scopes scope h c p.
        let c' = name_clean form file roots Constant name [] (head h) ∷' c in
        let inner = for_scope (name ∷ []) name ∷ own ∷ outer in
        expression x Unmarked Anywhere (for_scope [] name ∷ own ∷ outer) (for_scope [] name ∷ scopes) scope (other_fits Unmarked unmarked x) (front _ _ (tail h)) c' (front _ _ p)
        ▹ block xs false (block_scope xs) inner (block_scope xs ∷ for_scope [] name ∷ scopes) _ (behind _ _ (tail h)) (block_clean form file roots xs (block_scope xs) inner (behind _ _ (tail h)) ∷' c') (behind _ _ p)
    statement Stmt.Break = λ hooks own outer scopes scope h c p. none
    statement Stmt.Continue = λ hooks own outer scopes scope h c p. none
    statement (Statement_block' _ xs) = λ hooks own outer scopes scope h c p.
        block xs false (block_scope xs) (own ∷ outer) (block_scope xs ∷ scopes) _ h (block_clean form file roots xs (block_scope xs) (own ∷ outer) h ∷' c) p

    pub block : {m : _} (xs : Row_of-Stmt m) → Block_fine xs
    block end_of-Stmt = λ hooks own outer scopes scope h c p. none
    block (more_of-Stmt x rest) = λ hooks own outer scopes scope h c p.
        statement x hooks own outer scopes scope (front _ _ h) c (front _ _ p) ▹ block rest (hooks && lets_hooks_follow x) (behind_statement x own) outer scopes scope (behind _ _ h) c (behind _ _ p)

    pub body : (x : Body) → Body_fine x
    body (Body.Value' _ xs) = λ component own outer scopes scope h c p. all xs Unmarked None false (own ∷ outer) scopes scope (all_fit Unmarked unmarked xs) h c p
    body (Body_block' _ xs) = λ component own outer scopes scope h c p. block xs component own outer scopes _ h c p

  pub items : (earlier : List Text) (xs : List Item) → Mentioned (item_mentions earlier xs) → Placed (item_spots xs) → Tasks (item_arrows xs)
  items earlier [] h p = none
  items earlier (i ∷ rest) h p =
      expression i.init Unmarked Root_value [] [] [] (other_fits Unmarked unmarked i.init) (front _ _ (tail h)) none (front _ _ (tail p))
      ▹ items (earlier ++ i.name ∷ []) rest (behind _ _ (tail h)) (behind _ _ (tail p))
