-- The rules of the reader that hold nothing nested.
use Rattle.std.specs.Prelude.{ℕ, ◌-◌, Bool, true, false, ◌&&◌, if◌then◌else◌, nat_le, List, [], ◌∷◌, ◌++◌, map, Option, Some, None, Ok, Err, codes}
use Rattle.qk_ast.specs.declared.Expr.{Expr}
use Rattle.qk_ast.specs.declared.Expr.TheVariants as e
use Rattle.qk_ast.specs.declared.Stmt.{Stmt}
use Rattle.qk_ast.specs.declared.Stmt.TheVariants as s
use Rattle.qk_ast.specs.declared.Link.{Link as Tree_link}
use Rattle.qk_ast.specs.declared.Link.TheVariants as l
use Rattle.qk_ast.specs.declared.Pattern.{Pattern}
use Rattle.qk_ast.specs.declared.Pattern.TheVariants as p
use Rattle.qk_ast.specs.declared.Known.{Known}
use Rattle.qk_ast.specs.declared.Field.{Field as Tree_field}
use Rattle.qk_ast.specs.declared.Operand.{Operand as Tree_operand}
use Rattle.qk_ast.specs.Characters.{Characters, same, is_one_of}
use Rattle.qk_ast.specs.Tokens.{Token, Edge}
use Rattle.qk_ast.specs.Tree.{bytes, value}
use Rattle.qk_ast.specs.Grammar.{Level}
use Rattle.qk_reading.specs.Input.{Input, Syntax, TooDeep, Outcome, Reader, ◌>>=◌, ◌>>◌, ◌<$>◌, pure, maybe, Kind, Chained, Called, Atomic, Read, reading, Head, headed, Sign, Given, first_is, refuse, peek, take_token, look, eat, expect, name, number, enter, many, separated}
use Rattle.qk_reading.specs.Ahead.{kind_tightness, operator}

-- ---- names and patterns

-- at least one name, up to `}`
unfoldable pub names : Reader (List (List ℕ))
names = do
  ended ← look (Sign (codes "}"))
  if ended then refuse else (do
    xs ← separated (Sign (codes "}")) (bytes <$> name)
    pure (xs.0))

-- a name, or `{ a, b }` with so much room for it
abbrev pub pattern_by : ℕ → Bool → Reader Pattern
pattern_by room true = do
  enter room
  xs ← names
  expect (Sign (codes "}"))
  pure (p.Fields xs)
pattern_by room false = (λ a. p.Name (bytes a)) <$> name

unfoldable pub pattern : ℕ → Reader Pattern
pattern room = eat (Sign (codes "{")) >>= pattern_by room

abbrev pub params_by : ℕ → Bool → Reader (List Pattern)
params_by room true = do
  enter room
  xs ← separated (Sign (codes ")")) (pattern (room - 1))
  expect (Sign (codes ")"))
  pure (xs.0)
params_by room false = (λ a. p.Name (bytes a) ∷ []) <$> name

unfoldable pub params : ℕ → Reader (List Pattern)
params room = eat (Sign (codes "(")) >>= params_by room

-- an arrow up to its `=>`
unfoldable pub arrow_head : ℕ → Reader (List Pattern × ℕ)
arrow_head room = do
  xs ← params room
  n ← number
  pure (xs, n)

-- ---- where two rules might go on

-- Where two rules might go on and both are refused, the later fault counts.
abbrev pub later_fault : {A B : Type 0} → Outcome A → ℕ → Outcome B
later_fault (Ok x) k = Err (Syntax k)
later_fault (Err (Syntax m)) k = if nat_le k m then Err (Syntax k) else Err (Syntax m)
later_fault (Err (TooDeep m)) k = if nat_le k m then Err (Syntax k) else Err (TooDeep m)

abbrev pub later : {A B : Type 0} → Outcome A → Outcome B → Outcome B
later other (Ok x) = Ok x
later other (Err (Syntax k)) = later_fault other k
later other (Err (TooDeep k)) = Err (TooDeep k)

-- ---- what is made of what was read

abbrev pub chained : Level → Read → List Tree_operand → Read
chained level x [] = x
chained level x (y ∷ ys) = reading (e.Chain x.tree (y ∷ ys)) (Chained level)

abbrev pub linked : Head → List Tree_link × Kind → Read
linked h ([], kind) = reading h.tree kind
linked h (x ∷ xs, kind) = reading (e.Post h.tree (x ∷ xs)) kind

abbrev pub plain_head : Read → Head
plain_head x = headed x.tree x.kind []

abbrev pub atomic : Expr → Read
atomic x = reading x Atomic

abbrev pub child_text : Characters → Option Expr
child_text [] = None
child_text (c ∷ cs) = Some (e.Text (bytes (c ∷ cs)))

abbrev pub keys : List Tree_field → List (List ℕ)
keys fields = map (λ (f : Tree_field). f.key) fields

-- a literal's word
abbrev pub literal : Characters → Option Expr
literal a = if same a (codes "undefined") then Some e.Undefined else (if same a (codes "null") then Some e.Null
    else (if same a (codes "true") then Some (e.Bool true) else (if same a (codes "false") then Some (e.Bool false) else None)))

-- the known call of one argument, or else a call by that name
abbrev pub called_with : Known → Expr → List Tree_link → List Expr × Bool → Head
called_with k object links (x ∷ [], false) = headed (e.Known k (x ∷ [])) Atomic []
called_with k object links (xs, comma) = headed object Called (links ++ l.Call xs ∷ [])

-- ---- parts of records, templates, calls and chains

-- a key that none before has
unfoldable pub fresh : List ℕ → List Tree_field → Reader (Unit {0})
fresh key found = if is_one_of key (keys found) then refuse else take_token

abbrev pub part_by : Option Token → Reader (List ℕ × Bool)
part_by (Some (Token.Template Edge.Hole pieces Edge.Hole)) = take_token >> pure (value pieces, true)
part_by (Some (Token.Template Edge.Hole pieces Edge.Backquote)) = take_token >> pure (value pieces, false)
part_by _ = refuse

-- a template's part after a hole, and whether another hole follows it
unfoldable pub part : Reader (List ℕ × Bool)
part = peek >>= part_by

abbrev pub word_by : Option Expr → Reader Expr
word_by None = refuse
word_by (Some x) = take_token >> pure x

-- a division's dividend is a product, and `/` follows
abbrev pub is_dividend : Kind → Input → Bool
is_dividend kind i = nat_le 6 (kind_tightness kind) && first_is (Sign (codes "/")) i.tokens

abbrev pub math_links : List Tree_link
math_links = l.Prop (bytes (codes "trunc")) ∷ []

abbrev pub math : Expr
math = e.Name (bytes (codes "Math"))

unfoldable pub divides : Kind → Reader Bool
divides kind i = Ok (is_dividend kind i, i)

-- OBJECT . METHOD (
abbrev pub skip_dotted : Reader (Unit {0})
skip_dotted = take_token >> take_token >> take_token >> take_token

abbrev pub dot_by : Option Token → Reader (List ℕ)
dot_by (Some (Token.Name a)) = take_token >> pure (bytes a)
dot_by (Some (Token.Reserved a)) = take_token >> pure (bytes a)
dot_by _ = refuse

unfoldable pub operand : Level → Reader Read → Reader (Option Tree_operand)
operand level tighter = do
  op ← operator level
  maybe op (pure None) (λ o. (λ (x : Read). Some (record { op = o; value = x.tree })) <$> tighter)

unfoldable pub chain : Level → Reader Read → Reader Read
chain level tighter = do
  x ← tighter
  ys ← many (operand level tighter)
  pure (chained level x ys)

-- ---- the statement of a lexical scope, and the end of a statement

abbrev pub comma_name_by : Bool → Reader (Option (List ℕ))
comma_name_by true = (λ a. Some (bytes a)) <$> name
comma_name_by false = pure None

unfoldable pub comma_name : Reader (Option (List ℕ))
comma_name = eat (Sign (codes ",")) >>= comma_name_by

abbrev pub scope_call : Expr
scope_call = e.Post (e.Name (bytes (codes "useLexicalScope"))) (l.Call [] ∷ [])

abbrev pub ended : Stmt → Reader Stmt
ended x = expect (Sign (codes ";")) >> pure x

-- [a, b] = useLexicalScope();
unfoldable pub scope : ℕ → Reader Stmt
scope room = do
  take_token
  enter room
  a ← name
  more ← many comma_name
  expect (Sign (codes "]"))
  expect (Sign (codes "="))
  expect (Given (codes "useLexicalScope"))
  expect (Sign (codes "("))
  expect (Sign (codes ")"))
  expect (Sign (codes ";"))
  pure (s.Const (p.Scope (bytes a ∷ more)) scope_call)
