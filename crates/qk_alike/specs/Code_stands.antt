-- When a piece of code of one program stands for one of another: form by form, its names within reach, what its file's root says of them, and the functions that its arrows make.
use Rattle.std.specs.Prelude.{◌≡◌, ℕ, ℤ, Bool, true, false, List, [], ◌∷◌, codes}
use Rattle.qk_ast.specs.declared.Pattern.{Pattern}
use Rattle.qk_ast.specs.declared.Tag.{Tag}
use Rattle.qk_ast.specs.declared.Known.{Known}
use Rattle.qk_ast.specs.declared.AssignOp.{AssignOp}
use Rattle.qk_ast.specs.declared.Bin.{Bin}
use Rattle.qk_ast.specs.declared.Un.{Un}
use Rattle.qk_ast.specs.declared.Expr.{Expr, Row_of-Expr, end_of-Expr, more_of-Expr, Row_of-Field, end_of-Field, more_of-Field, Row_of-Operand, end_of-Operand, more_of-Operand, Row_of-Link, end_of-Link, more_of-Link, more_of-Arrow, more_of-Jsx}
use Rattle.qk_ast.specs.declared.Stmt.{Stmt, Block' as Statement_block', Row_of-Stmt, end_of-Stmt, more_of-Stmt, None', Some'}
use Rattle.qk_ast.specs.declared.Link.{Link}
use Rattle.qk_ast.specs.declared.Jsx.{Jsx'}
use Rattle.qk_ast.specs.declared.Body.{Body, Block' as Body_block'}
use Rattle.qk_alike.specs.Meanings_stand.{Framework_alike, Roots_stand}
use Rattle.qk_meaning.specs.Alike.{Locals_stand, Reach, deeper, is_local, is_reached}
use Rattle.qk_meaning.specs.Ties.{Pairing, Shown_as, Site_ties, Stands, ties_over}
use Rattle.qk_ast.specs.Names.{around, declared_in, is_listed}
use Rattle.qk_ast.specs.Texts.{same_text}
use Rattle.qk_meaning.specs.Evaluation.{own_names}
use Rattle.qk_meaning.specs.Making.{root_shown}
use Rattle.qk_meaning.specs.Parts.{packed, picked}
use Rattle.qk_meaning.specs.Program.{Code, Framework, Program}
use Rattle.qk_meaning.specs.Setting.{has_tracker}
use Rattle.qk_meaning.specs.Value.{Fields, Lifted, Site, Text, Value}

-- a name that is no local and means this name of the framework
pub record Means (P : Program) (file : Text) (r : Reach) (name meaning : Text) : Type 0 where
  pub reached : is_reached r name ≡ true
  pub no_local : is_local r name ≡ false
  pub no_tracker : same_text name (codes "track") ≡ false
  pub root : P.root file name ≡ Framework meaning

-- a row of names of locals
pub data Local_names (r : Reach) : List Text → (m : _) → Row_of-Expr m → Type 0 where
  no_names : Local_names r [] _ end_of-Expr
  one_name : {name : Text} {names : List Text} {m : _} {rest : Row_of-Expr m} → is_reached r name ≡ true → is_local r name ≡ true → Local_names r names _ rest → Local_names r (name ∷ names) _ (more_of-Expr (Expr.Name name) rest)

-- a row of one arrow; a row of a symbol and names of locals; a row of one call with such arguments
pub data Arrow_row (place : ℕ) : (m : _) → Row_of-Expr m → Type 0 where
  arrow_row : {params : List Pattern} {body : Body} {s rest : _} → Arrow_row place _ (more_of-Expr (Expr.Arrow' s (more_of-Arrow place params body rest)) end_of-Expr)

pub data Qrl_row (r : Reach) (symbol : Text) (names : List Text) : (m : _) → Row_of-Expr m → Type 0 where
  qrl_row : {s : _} {row : _} {m : _} {rest : Row_of-Expr m} → Local_names r names _ row → Qrl_row r symbol names _ (more_of-Expr (Expr.Text symbol) (more_of-Expr (Expr.List' s row) rest))

pub data One_call (R : (m : _) → Row_of-Expr m → Type 0) : (m : _) → Row_of-Link m → Type 0 where
  one_call : {s : _} {all : _} → R _ all → One_call R _ (more_of-Link (Link.Call' s all) end_of-Link)

-- the forms that make a function of the names in scope: an arrow, `$(arrow)`, and `qrl("symbol", [names])`
pub data Makes (P : Program) (file : Text) (r : Reach) : Expr → Type 0 where
  an_arrow : {place : ℕ} {params : List Pattern} {body : Body} {s rest : _} → Makes P file r (Expr.Arrow' s (more_of-Arrow place params body rest))
  a_dollar : {name : Text} {place : ℕ} {s u : _} {rest : _} {links : _} → Means P file r name (codes "$") → One_call (Arrow_row place) _ links → Makes P file r (Expr.Post' s (more_of-Expr (Expr.Name name) rest) u links)
  a_qrl : {name symbol : Text} {names : List Text} {s u : _} {rest : _} {links : _} → Means P file r name (codes "qrl") → One_call (Qrl_row r symbol names) _ links → Makes P file r (Expr.Post' s (more_of-Expr (Expr.Name name) rest) u links)

-- the function that such a form makes
abbrev pub made_by : {P : Program} {file : Text} {r : Reach} {e : Expr} → Makes P file r e → Fields → Value
made_by {P} {file} (an_arrow {place = place}) scope = P.makes (P.site file place) scope
made_by {P} {file} (a_dollar {place = place} m call) scope = P.makes (P.site file place) scope
made_by (a_qrl {symbol = symbol} {names = names} m call) scope = Lifted symbol (packed (picked names scope)) false

pub data Tags_stand (P Q : Program) (t : Site_ties) (file file' : Text) : Tag → Tag → Type 0 where
  element_tags : {tag : Text} → Tags_stand P Q t file file' (Tag.Element tag) (Tag.Element tag)
  component_tags : {name : Text} → Shown_as t (root_shown (P.root file name)) (root_shown (Q.root file' name)) → Tags_stand P Q t file file' (Tag.Component name) (Tag.Component name)
  fragment_tags : Tags_stand P Q t file file' Tag.Fragment Tag.Fragment

mutual
  -- expressions
  pub data Exprs_stand (P Q : Program) (t : Site_ties) (file file' : Text) : Reach → Expr → Expr → Type 0 where
    undefineds : {r : Reach} → Exprs_stand P Q t file file' r Expr.Undefined Expr.Undefined
    nulls : {r : Reach} → Exprs_stand P Q t file file' r Expr.Null Expr.Null
    bools : {r : Reach} {b : Bool} → Exprs_stand P Q t file file' r (Expr.Bool b) (Expr.Bool b)
    ints : {r : Reach} {n : ℤ} → Exprs_stand P Q t file file' r (Expr.Int n) (Expr.Int n)
    texts : {r : Reach} {w : Text} → Exprs_stand P Q t file file' r (Expr.Text w) (Expr.Text w)
    -- a name that is reached; where it isn't a local, the files' roots say what stands for one another
    names : {r : Reach} {name : Text} → is_reached r name ≡ true → (is_local r name ≡ false → Roots_stand t (P.root file name) (Q.root file' name)) → Exprs_stand P Q t file file' r (Expr.Name name) (Expr.Name name)
    lists : {r : Reach} {s s' : _} {all all' : _} → Rows_stand P Q t file file' r _ _ all all' → Exprs_stand P Q t file file' r (Expr.List' s all) (Expr.List' s' all')
    records : {r : Reach} {s s' : _} {all all' : _} → Field_rows_stand P Q t file file' r _ _ all all' → Exprs_stand P Q t file file' r (Expr.Record' s all) (Expr.Record' s' all')
    templates : {r : Reach} {parts : List Text} {s s' : _} {all all' : _} → Rows_stand P Q t file file' r _ _ all all' → Exprs_stand P Q t file file' r (Expr.Template' parts s all) (Expr.Template' parts s' all')
    unaries : {r : Reach} {op : Un} {s s' : _} {e e' : Expr} {rest rest' : _} → Exprs_stand P Q t file file' r e e' → Exprs_stand P Q t file file' r (Expr.Unary' op s (more_of-Expr e rest)) (Expr.Unary' op s' (more_of-Expr e' rest'))
    chains : {r : Reach} {s s' : _} {e e' : Expr} {rest rest' : _} {u u' : _} {all all' : _} → Exprs_stand P Q t file file' r e e' → Operand_rows_stand P Q t file file' r _ _ all all' → Exprs_stand P Q t file file' r (Expr.Chain' s (more_of-Expr e rest) u all) (Expr.Chain' s' (more_of-Expr e' rest') u' all')
    conditionals : {r : Reach} {s s' : _} {a a' : Expr} {ar ar' : _} {u u' : _} {b b' : Expr} {br br' : _} {v v' : _} {c c' : Expr} {cr cr' : _} → Exprs_stand P Q t file file' r a a' → Exprs_stand P Q t file file' r b b' → Exprs_stand P Q t file file' r c c' →
        Exprs_stand P Q t file file' r (Expr.Cond' s (more_of-Expr a ar) u (more_of-Expr b br) v (more_of-Expr c cr)) (Expr.Cond' s' (more_of-Expr a' ar') u' (more_of-Expr b' br') v' (more_of-Expr c' cr'))
    posts : {r : Reach} {s s' : _} {e e' : Expr} {rest rest' : _} {u u' : _} {all all' : _} → Exprs_stand P Q t file file' r e e' → Link_rows_stand P Q t file file' r _ _ all all' → Exprs_stand P Q t file file' r (Expr.Post' s (more_of-Expr e rest) u all) (Expr.Post' s' (more_of-Expr e' rest') u' all')
    assignments : {r : Reach} {op : AssignOp} {s s' : _} {a a' : Expr} {ar ar' : _} {u u' : _} {b b' : Expr} {br br' : _} → Exprs_stand P Q t file file' r a a' → Exprs_stand P Q t file file' r b b' →
        Exprs_stand P Q t file file' r (Expr.Assign' op s (more_of-Expr a ar) u (more_of-Expr b br)) (Expr.Assign' op s' (more_of-Expr a' ar') u' (more_of-Expr b' br'))
    steps : {r : Reach} {up : Bool} {s s' : _} {e e' : Expr} {rest rest' : _} → Exprs_stand P Q t file file' r e e' → Exprs_stand P Q t file file' r (Expr.Step' up s (more_of-Expr e rest)) (Expr.Step' up s' (more_of-Expr e' rest'))
    knowns : {r : Reach} {known : Known} {s s' : _} {all all' : _} → Rows_stand P Q t file file' r _ _ all all' → Exprs_stand P Q t file file' r (Expr.Known' known s all) (Expr.Known' known s' all')
    -- forms that make functions, which stand for one another; of the bodies the programs speak
    functions : {r : Reach} {e e' : Expr} (m : Makes P file r e) (m' : Makes Q file' r e') → ((p : Pairing) (f g : Fields) → Locals_stand (ties_over t p) r.free r.captured r.own f g → Stands (ties_over t p) (made_by m f) (made_by m' g)) → Exprs_stand P Q t file file' r e e'
    -- two names of the framework for one thing, as `useTask$` and `useTaskQrl`
    framework_names : {r : Reach} {name name' a b : Text} → Means P file r name a → Means Q file' r name' b → ((p : Pairing) → Framework_alike (ties_over t p) a b) → Exprs_stand P Q t file file' r (Expr.Name name) (Expr.Name name')
    elements : {r : Reach} {s s' : _} {rest rest' : _} {tag tag' : Tag} {u u' v v' : _} {attributes attributes' : _} {children children' : _} → Tags_stand P Q t file file' tag tag' → Field_rows_stand P Q t file file' r _ _ attributes attributes' → Rows_stand P Q t file file' r _ _ children children' →
        Exprs_stand P Q t file file' r (Expr.Jsx' s (more_of-Jsx (Jsx' tag u attributes v children) rest)) (Expr.Jsx' s' (more_of-Jsx (Jsx' tag' u' attributes' v' children') rest'))

  pub data Rows_stand (P Q : Program) (t : Site_ties) (file file' : Text) : Reach → (m m' : _) → Row_of-Expr m → Row_of-Expr m' → Type 0 where
    no_exprs : {r : Reach} → Rows_stand P Q t file file' r _ _ end_of-Expr end_of-Expr
    one_expr : {r : Reach} {e e' : Expr} {m m' : _} {rest : Row_of-Expr m} {rest' : Row_of-Expr m'} → Exprs_stand P Q t file file' r e e' → Rows_stand P Q t file file' r _ _ rest rest' → Rows_stand P Q t file file' r _ _ (more_of-Expr e rest) (more_of-Expr e' rest')

  pub data Field_rows_stand (P Q : Program) (t : Site_ties) (file file' : Text) : Reach → (m m' : _) → Row_of-Field m → Row_of-Field m' → Type 0 where
    no_fields : {r : Reach} → Field_rows_stand P Q t file file' r _ _ end_of-Field end_of-Field
    one_field : {r : Reach} {key : Text} {e e' : Expr} {m m' : _} {rest : Row_of-Field m} {rest' : Row_of-Field m'} → Exprs_stand P Q t file file' r e e' → Field_rows_stand P Q t file file' r _ _ rest rest' → Field_rows_stand P Q t file file' r _ _ (more_of-Field key e rest) (more_of-Field key e' rest')

  pub data Operand_rows_stand (P Q : Program) (t : Site_ties) (file file' : Text) : Reach → (m m' : _) → Row_of-Operand m → Row_of-Operand m' → Type 0 where
    no_operands : {r : Reach} → Operand_rows_stand P Q t file file' r _ _ end_of-Operand end_of-Operand
    one_operand : {r : Reach} {op : Bin} {e e' : Expr} {m m' : _} {rest : Row_of-Operand m} {rest' : Row_of-Operand m'} → Exprs_stand P Q t file file' r e e' → Operand_rows_stand P Q t file file' r _ _ rest rest' → Operand_rows_stand P Q t file file' r _ _ (more_of-Operand op e rest) (more_of-Operand op e' rest')

  pub data Link_rows_stand (P Q : Program) (t : Site_ties) (file file' : Text) : Reach → (m m' : _) → Row_of-Link m → Row_of-Link m' → Type 0 where
    no_links : {r : Reach} → Link_rows_stand P Q t file file' r _ _ end_of-Link end_of-Link
    prop_link : {r : Reach} {name : Text} {m m' : _} {rest : Row_of-Link m} {rest' : Row_of-Link m'} → Link_rows_stand P Q t file file' r _ _ rest rest' → Link_rows_stand P Q t file file' r _ _ (more_of-Link (Link.Prop name) rest) (more_of-Link (Link.Prop name) rest')
    index_link : {r : Reach} {e e' : Expr} {m m' : _} {rest : Row_of-Link m} {rest' : Row_of-Link m'} → Exprs_stand P Q t file file' r e e' → Link_rows_stand P Q t file file' r _ _ rest rest' → Link_rows_stand P Q t file file' r _ _ (more_of-Link (Link.Index e) rest) (more_of-Link (Link.Index e') rest')
    call_link : {r : Reach} {s s' : _} {all all' : _} {m m' : _} {rest : Row_of-Link m} {rest' : Row_of-Link m'} → Rows_stand P Q t file file' r _ _ all all' → Link_rows_stand P Q t file file' r _ _ rest rest' → Link_rows_stand P Q t file file' r _ _ (more_of-Link (Link.Call' s all) rest) (more_of-Link (Link.Call' s' all') rest')

  -- statements
  pub data Stmts_stand (P Q : Program) (t : Site_ties) (file file' : Text) : Reach → Stmt → Stmt → Type 0 where
    const_names : {r : Reach} {name : Text} {e e' : Expr} → Exprs_stand P Q t file file' r e e' → Stmts_stand P Q t file file' r (Stmt.Const (Pattern.Name name) e) (Stmt.Const (Pattern.Name name) e')
    const_fields : {r : Reach} {all : List Text} {e e' : Expr} → Exprs_stand P Q t file file' r e e' → Stmts_stand P Q t file file' r (Stmt.Const (Pattern.Fields all) e) (Stmt.Const (Pattern.Fields all) e')
    const_scopes : {r : Reach} {all : List Text} {e e' : Expr} → Stmts_stand P Q t file file' r (Stmt.Const (Pattern.Scope all) e) (Stmt.Const (Pattern.Scope all) e')
    lets : {r : Reach} {name : Text} {e e' : Expr} → Exprs_stand P Q t file file' r e e' → Stmts_stand P Q t file file' r (Stmt.Let name e) (Stmt.Let name e')
    dos : {r : Reach} {e e' : Expr} → Exprs_stand P Q t file file' r e e' → Stmts_stand P Q t file file' r (Stmt.Do e) (Stmt.Do e')
    deletes : {r : Reach} {e e' : Expr} → Exprs_stand P Q t file file' r e e' → Stmts_stand P Q t file file' r (Stmt.Delete e) (Stmt.Delete e')
    returns : {r : Reach} → Stmts_stand P Q t file file' r (Stmt.Return' None') (Stmt.Return' None')
    returns_of : {r : Reach} {e e' : Expr} → Exprs_stand P Q t file file' r e e' → Stmts_stand P Q t file file' r (Stmt.Return' (Some' e)) (Stmt.Return' (Some' e'))
    ifs : {r : Reach} {e e' : Expr} {s s' u u' : _} {then then' : _} {otherwise otherwise' : _} → Exprs_stand P Q t file file' r e e' → Blocks_stand P Q t file file' r _ _ then then' → Blocks_stand P Q t file file' r _ _ otherwise otherwise' → Stmts_stand P Q t file file' r (Stmt.If' e s then u otherwise) (Stmt.If' e' s' then' u' otherwise')
    whiles : {r : Reach} {e e' : Expr} {s s' : _} {all all' : _} → Exprs_stand P Q t file file' r e e' → Blocks_stand P Q t file file' r _ _ all all' → Stmts_stand P Q t file file' r (Stmt.While' e s all) (Stmt.While' e' s' all')
    fors : {r : Reach} {name : Text} {e e' : Expr} {s s' : _} {all all' : _} → Exprs_stand P Q t file file' r e e' → Blocks_stand P Q t file file' (deeper (name ∷ []) r) _ _ all all' → Stmts_stand P Q t file file' r (Stmt.ForOf' name e s all) (Stmt.ForOf' name e' s' all')
    breaks : {r : Reach} → Stmts_stand P Q t file file' r Stmt.Break Stmt.Break
    continues : {r : Reach} → Stmts_stand P Q t file file' r Stmt.Continue Stmt.Continue
    blocks : {r : Reach} {s s' : _} {all all' : _} → Blocks_stand P Q t file file' r _ _ all all' → Stmts_stand P Q t file file' r (Statement_block' s all) (Statement_block' s' all')

  -- blocks, which declare the same names
  pub data Blocks_stand (P Q : Program) (t : Site_ties) (file file' : Text) : Reach → (m m' : _) → Row_of-Stmt m → Row_of-Stmt m' → Type 0 where
    a_block : {r : Reach} {m m' : _} {all : Row_of-Stmt m} {all' : Row_of-Stmt m'} → declared_in all ≡ declared_in all' → Stmt_rows_stand P Q t file file' (deeper (declared_in all) r) _ _ all all' → Blocks_stand P Q t file file' r _ _ all all'

  pub data Stmt_rows_stand (P Q : Program) (t : Site_ties) (file file' : Text) : Reach → (m m' : _) → Row_of-Stmt m → Row_of-Stmt m' → Type 0 where
    no_stmts : {r : Reach} → Stmt_rows_stand P Q t file file' r _ _ end_of-Stmt end_of-Stmt
    one_stmt : {r : Reach} {e e' : Stmt} {m m' : _} {rest : Row_of-Stmt m} {rest' : Row_of-Stmt m'} → Stmts_stand P Q t file file' r e e' → Stmt_rows_stand P Q t file file' r _ _ rest rest' → Stmt_rows_stand P Q t file file' r _ _ (more_of-Stmt e rest) (more_of-Stmt e' rest')

-- statements of an arrow's block: the second may begin with its captured values
pub data Own_rows_stand (P Q : Program) (t : Site_ties) (file file' : Text) : Reach → (m m' : _) → Row_of-Stmt m → Row_of-Stmt m' → Type 0 where
  both_rows : {r : Reach} {m m' : _} {all : Row_of-Stmt m} {all' : Row_of-Stmt m'} → Stmt_rows_stand P Q t file file' r _ _ all all' → Own_rows_stand P Q t file file' r _ _ all all'
  scope_row : {r : Reach} {m m' : _} {all : Row_of-Stmt m} {all' : Row_of-Stmt m'} {names : List Text} {e : Expr} → Stmt_rows_stand P Q t file file' r _ _ all all' → Own_rows_stand P Q t file file' r _ _ all (more_of-Stmt (Stmt.Const (Pattern.Scope names) e) all')

-- a block that returns an expression, which stands for this one
pub data Returns_stand (P Q : Program) (t : Site_ties) (file file' : Text) : Reach → Expr → (m : _) → Row_of-Stmt m → Type 0 where
  return_row : {r : Reach} {e e' : Expr} → Exprs_stand P Q t file file' r e e' → Returns_stand P Q t file file' r e _ (more_of-Stmt (Stmt.Return' (Some' e')) end_of-Stmt)
  scope_return_row : {r : Reach} {e e' d : Expr} {names : List Text} → Exprs_stand P Q t file file' r e e' → Returns_stand P Q t file file' r e _ (more_of-Stmt (Stmt.Const (Pattern.Scope names) d) (more_of-Stmt (Stmt.Return' (Some' e')) end_of-Stmt))

-- the bodies of arrows, whose names are open
pub data Bodies_stand (P Q : Program) (t : Site_ties) (file file' : Text) : Reach → Body → Body → Type 0 where
  value_bodies : {r : Reach} {s s' : _} {e e' : Expr} {rest rest' : _} → Exprs_stand P Q t file file' r e e' → Bodies_stand P Q t file file' r (Body.Value' s (more_of-Expr e rest)) (Body.Value' s' (more_of-Expr e' rest'))
  block_bodies : {r : Reach} {s s' : _} {all all' : _} → Own_rows_stand P Q t file file' r _ _ all all' → Bodies_stand P Q t file file' r (Body_block' s all) (Body_block' s' all')
  -- the first is an expression, which the second returns
  returned_bodies : {r : Reach} {s s' : _} {e : Expr} {rest : _} {all : _} → Returns_stand P Q t file file' r e _ all → Bodies_stand P Q t file file' r (Body.Value' s (more_of-Expr e rest)) (Body_block' s' all)

-- the reach of an arrow's body
abbrev pub reach_of : Code → List Text → List Text → Reach
reach_of code free captured = record { own = around (own_names code) []; free = free; captured = captured }

-- the arrows of functions that stand for one another: the same parameters, and bodies that stand for one another
pub record Codes_stand (P Q : Program) (t : Site_ties) (free captured : List Text) (code code' : Code) : Type 0 where
  pub tracker : has_tracker code ≡ has_tracker code'
  pub params : code.params ≡ code'.params
  pub names : own_names code ≡ own_names code'
  pub bodies : Bodies_stand P Q t code.file code'.file (reach_of code free captured) code.body code'.body
  -- where the arrow is a task's with the parameter `track`, that name isn't captured
  pub tracked : has_tracker code ≡ true → is_listed (codes "track") captured ≡ false

-- the names that an arrow's code may find around it: for a task with the parameter `track` also that name, which it never finds
abbrev pub seen : Code → List Text → List Text
seen code free = elim (has_tracker code) [ true ↦ codes "track" ∷ free | false ↦ free ]

-- two programs whose functions stand for one another
pub record Programs_stand (P Q : Program) (t : Site_ties) : Type 0 where
  pub captures : (site : Site) → (P.code site).captures ≡ t.captures site
  pub other_captures : (site : Site) → t.stays site ≡ true → (Q.code (t.other site)).captures ≡ t.captures site
  pub sites : (site : Site) → t.stays site ≡ true → Codes_stand P Q t (seen (P.code site) (t.free site)) (t.captures site) (P.code site) (Q.code (t.other site))
  pub lifts : (site : Site) → t.lifts site ≡ true → Codes_stand P Q t (seen (P.code site) (t.free site)) (t.captures site) (P.code site) (Q.lifted (t.symbol site))
  pub lifted_captures : (site : Site) → t.lifts site ≡ true → (Q.lifted (t.symbol site)).captures ≡ t.captures site
  -- the functions of symbols, where both sides have them
  pub symbols : t.symbols ≡ true → (symbol : Text) → (free : List Text) × Codes_stand P Q t (seen (P.lifted symbol) free) (t.taken symbol) (P.lifted symbol) (Q.lifted symbol)
  pub taken : t.symbols ≡ true → (symbol : Text) → ((P.lifted symbol).captures ≡ t.taken symbol) × ((Q.lifted symbol).captures ≡ t.taken symbol)
