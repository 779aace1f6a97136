-- The rules of the reader for expressions. Each has the form, so much room for nesting, and what reads one level further in.
use Rattle.std.specs.Prelude.{ℕ, zero, suc, Bool, true, false, ◌&&◌, if◌then◌else◌, nat_le, List, [], ◌∷◌, ◌++◌, Option, Some, None, Ok, pos, codes}
use Rattle.qk_ast.specs.declared.Form.{Form}
use Rattle.qk_ast.specs.declared.Expr.{Expr}
use Rattle.qk_ast.specs.declared.Expr.TheVariants as e
use Rattle.qk_ast.specs.declared.Link.{Link as Tree_link}
use Rattle.qk_ast.specs.declared.Link.TheVariants as l
use Rattle.qk_ast.specs.declared.Tag.TheVariants as t
use Rattle.qk_ast.specs.declared.Un.{Un}
use Rattle.qk_ast.specs.declared.Un.TheVariants as un
use Rattle.qk_ast.specs.declared.Known.{Known}
use Rattle.qk_ast.specs.declared.Known.TheVariants as known
use Rattle.qk_ast.specs.declared.Jsx.{roll-Jsx}
use Rattle.qk_ast.specs.declared.Field.{Field as Tree_field}
use Rattle.qk_ast.specs.Characters.{Characters, same, number_after}
use Rattle.qk_ast.specs.Tokens.{Token, Edge, is_tag_name}
use Rattle.qk_ast.specs.JsxText.{jsx_text, decoded}
use Rattle.qk_ast.specs.Tree.{bytes, value, tag_tree}
use Rattle.qk_ast.specs.Grammar.{Or_level, Coalesce_level, And_level, Same_level, Order_level, Sum_level, Product_level}
use Rattle.qk_reading.specs.Input.{Reader, ◌>>=◌, ◌>>◌, ◌<$>◌, pure, maybe, Kind, Loose, Prefixed, Called, Member, Bare, Atomic, Read, reading, Head, headed, Inner, Whole, Tight, Tagged, Untagged, Nested, Mark, Sign, left, refuse, peek, take_token, look, eat, expect, name_that, enter, many, sparse, separated, separated_from, collected}
use Rattle.qk_reading.specs.Ahead.{kind_tightness, arrow_ahead, known_ahead}
use Rattle.qk_reading.specs.Parts.{arrow_head, later, chained, linked, plain_head, atomic, child_text, literal, called_with, fresh, part, word_by, math_links, math, divides, skip_dotted, dot_by, operand, chain}

module _ (form : Form) (room : ℕ) (inner : Nested) where
  abbrev pub nested : Reader Expr
  nested = (λ (x : Read). x.tree) <$> inner.value Whole

  -- ---- lists in brackets

  unfoldable pub args : Mark → Reader (List Expr × Bool)
  args closing = do
    enter room
    xs ← separated closing nested
    expect closing
    pure xs

  -- what follows a key
  unfoldable pub field_value : List ℕ → Reader Tree_field
  field_value key = do
    expect (Sign (codes ":"))
    x ← nested
    pure (record { key = key; value = x })

  abbrev pub named_by : Characters → Bool → Reader Tree_field
  named_by a true = (λ x. record { key = bytes a; value = x }) <$> nested
  named_by a false = pure (record { key = bytes a; value = e.Name (bytes a) })

  abbrev pub field_by : List Tree_field → Option Token → Reader Tree_field
  field_by found (Some (Token.Name a)) = fresh (bytes a) found >> eat (Sign (codes ":")) >>= named_by a
  field_by found (Some (Token.Reserved a)) = fresh (bytes a) found >> field_value (bytes a)
  field_by found (Some (Token.Text quote pieces)) = fresh (value pieces) found >> field_value (value pieces)
  field_by found _ = refuse

  unfoldable pub field : List Tree_field → Reader Tree_field
  field found = peek >>= field_by found

  unfoldable pub fields : Reader (List Tree_field)
  fields = do
    enter room
    xs ← collected (Sign (codes "}")) field
    expect (Sign (codes "}"))
    pure (xs.0)

  -- ---- templates

  unfoldable pub holes_from : ℕ → List (List ℕ) → List Expr → Reader (List (List ℕ) × List Expr)
  holes_from zero parts values = refuse
  holes_from (suc n) parts values = do
    x ← nested
    text ← part
    if text.1 then holes_from n (parts ++ text.0 ∷ []) (values ++ x ∷ []) else pure (parts ++ text.0 ∷ [], values ++ x ∷ [])

  unfoldable pub holes : List ℕ → Reader Expr
  holes text i = ((λ (xs : List (List ℕ) × List Expr). e.Template xs.0 xs.1) <$> holes_from (suc (left i)) (text ∷ []) []) i

  -- ---- atoms

  unfoldable pub bracketed : Reader Expr
  bracketed = do
    x ← nested
    expect (Sign (codes ")"))
    pure x

  abbrev pub element : Inner → Reader Expr
  element which = (λ (x : Read). x.tree) <$> inner.value which

  abbrev pub start_by : Characters → Reader Expr
  start_by a = if same a (codes "<") then take_token >> element Tagged else (if same a (codes "<>") then take_token >> element Untagged else refuse)

  abbrev pub bracket_by : Characters → Reader Expr
  bracket_by a = if same a (codes "(") then take_token >> bracketed
      else (if same a (codes "[") then take_token >> ((λ (xs : List Expr × Bool). e.List (xs.0)) <$> args (Sign (codes "]")))
      else (if same a (codes "{") then take_token >> (e.Record <$> fields) else refuse))

  abbrev pub atom_by : Option Token → Reader Read
  atom_by (Some (Token.Name a)) = take_token >> pure (reading (e.Name (bytes a)) Bare)
  atom_by (Some (Token.Reserved a)) = atomic <$> word_by (literal a)
  atom_by (Some (Token.Int digits)) = take_token >> pure (atomic (e.Int (pos (number_after 10 0 digits))))
  atom_by (Some (Token.Text quote pieces)) = take_token >> pure (atomic (e.Text (value pieces)))
  atom_by (Some (Token.Template Edge.Backquote pieces Edge.Backquote)) = take_token >> pure (atomic (e.Template (value pieces ∷ []) []))
  atom_by (Some (Token.Template Edge.Backquote pieces Edge.Hole)) = take_token >> (atomic <$> holes (value pieces))
  atom_by (Some (Token.Punct a)) = atomic <$> bracket_by a
  atom_by (Some (Token.Begin a)) = atomic <$> start_by a
  atom_by _ = refuse

  unfoldable pub atom : Reader Read
  atom = peek >>= atom_by

  -- ---- calls by a known name

  abbrev pub more_by : Expr → Bool → Reader (List Expr × Bool)
  more_by x true i = separated_from (Sign (codes ")")) nested (left i) (x ∷ []) i
  more_by x false i = Ok ((x ∷ [], false), i)

  abbrev pub trunc_by : Expr → Bool → Reader Head
  trunc_by x true = do
    take_token
    y ← inner.value Tight
    expect (Sign (codes ")"))
    pure (headed (e.Known known.Trunc (x ∷ y.tree ∷ [])) Atomic [])
  trunc_by x false = do
    more ← eat (Sign (codes ","))
    xs ← more_by x more
    expect (Sign (codes ")"))
    pure (headed math Called (math_links ++ l.Call (xs.0) ∷ []))

  abbrev pub trunc_from : Bool → Reader Head
  trunc_from true = take_token >> pure (headed math Called (math_links ++ l.Call [] ∷ []))
  trunc_from false = do
    x ← inner.value Whole
    divided ← divides (x.kind)
    trunc_by (x.tree) divided

  unfoldable pub trunc : Reader Head
  trunc = enter room >> look (Sign (codes ")")) >>= trunc_from

  unfoldable pub called : Known → Reader Head
  called known.Str = take_token >> take_token >> (called_with known.Str (e.Name (bytes (codes "String"))) [] <$> args (Sign (codes ")")))
  called known.Log = skip_dotted >> (called_with known.Log (e.Name (bytes (codes "console"))) (l.Prop (bytes (codes "log")) ∷ []) <$> args (Sign (codes ")")))
  called known.Keys = skip_dotted >> (called_with known.Keys (e.Name (bytes (codes "Object"))) (l.Prop (bytes (codes "keys")) ∷ []) <$> args (Sign (codes ")")))
  called known.Trunc = skip_dotted >> trunc

  abbrev pub head_by : Option Known → Reader Head
  head_by None = plain_head <$> atom
  head_by (Some k) = called k

  unfoldable pub head : Reader Head
  head i = head_by (known_ahead i.tokens) i

  -- ---- postfix forms

  abbrev pub link_sign : Characters → Reader (Option (Tree_link × Kind))
  link_sign a = if same a (codes ".") then take_token >> ((λ w. Some (l.Prop w, Member)) <$> (peek >>= dot_by))
      else (if same a (codes "[") then take_token >> nested >>= (λ x. expect (Sign (codes "]")) >> pure (Some (l.Index x, Member)))
      else (if same a (codes "(") then take_token >> ((λ (xs : List Expr × Bool). Some (l.Call (xs.0), Called)) <$> args (Sign (codes ")"))) else pure None))

  abbrev pub link_by : Option Token → Reader (Option (Tree_link × Kind))
  link_by (Some (Token.Punct a)) = link_sign a
  link_by _ = pure None

  unfoldable pub link : Reader (Option (Tree_link × Kind))
  link = peek >>= link_by

  unfoldable pub links_from : ℕ → Kind → List Tree_link → Reader (List Tree_link × Kind)
  links_from zero kind found = pure (found, kind)
  links_from (suc n) kind found = do
    one ← link
    maybe one (pure (found, kind)) (λ x. links_from n (x.1) (found ++ x.0 ∷ []))

  unfoldable pub links : Kind → List Tree_link → Reader (List Tree_link × Kind)
  links kind found i = links_from (left i) kind found i

  unfoldable pub postfix : Reader Read
  postfix = do
    h ← head
    xs ← links (h.kind) (h.links)
    pure (linked h xs)

  -- ---- operators

  abbrev pub prefixed : Un → Reader Read
  prefixed op = (λ (x : Read). reading (e.Unary op x.tree) Prefixed) <$> inner.value Tight

  unfoldable pub unary : Reader Read
  unary = do
    is_not ← eat (Sign (codes "!"))
    if is_not then prefixed un.Not else (do
      is_minus ← eat (Sign (codes "-"))
      if is_minus then prefixed un.Neg else postfix)

  unfoldable pub product : Reader Read
  product = chain Product_level unary

  unfoldable pub sum : Reader Read
  sum = chain Sum_level product

  unfoldable pub order : Reader Read
  order = chain Order_level sum

  unfoldable pub equality : Reader Read
  equality = chain Same_level order

  unfoldable pub conjunction : Reader Read
  conjunction = chain And_level equality

  -- a chain of `??` after an equality, or of `||`
  abbrev pub logic_by : Read → Bool → Reader Read
  logic_by x true = chained Coalesce_level x <$> many (operand Coalesce_level equality)
  logic_by x false = chained Or_level x <$> many (operand Or_level conjunction)

  unfoldable pub logic : Reader Read
  logic = do
    x ← conjunction
    asked ← look (Sign (codes "??"))
    logic_by x (asked && nat_le 3 (kind_tightness (x.kind)))

  abbrev pub choice_by : Read → Bool → Reader Read
  choice_by x true = do
    y ← nested
    expect (Sign (codes ":"))
    z ← nested
    pure (reading (e.Cond (x.tree) y z) Loose)
  choice_by x false = pure x

  unfoldable pub choice : Reader Read
  choice = do
    x ← logic
    asked ← eat (Sign (codes "?"))
    choice_by x asked

  unfoldable pub arrow : Reader Read
  arrow = do
    head ← arrow_head room
    body ← inner.body
    pure (reading (e.Arrow (record { place = head.1; params = head.0; body = body })) Loose)

  unfoldable pub whole : Reader Read
  whole i = if arrow_ahead i then arrow i else later (arrow_head room i) (choice i)

  -- ---- JSX

  abbrev pub set_by : Characters → Option Token → Reader Tree_field
  set_by a (Some (Token.Attribute quote text)) = take_token >> pure (record { key = bytes a; value = e.Text (bytes (decoded text)) })
  set_by a (Some (Token.Punct sign)) = do
    expect (Sign (codes "{"))
    x ← nested
    expect (Sign (codes "}"))
    pure (record { key = bytes a; value = x })
  set_by a _ = refuse

  abbrev pub attribute_from : Characters → Bool → Reader (Option Tree_field)
  attribute_from a true = Some <$> (peek >>= set_by a)
  attribute_from a false = pure (Some (record { key = bytes a; value = e.Bool true }))

  abbrev pub attribute_by : Option Token → Reader (Option Tree_field)
  attribute_by (Some (Token.Name a)) = take_token >> eat (Sign (codes "=")) >>= attribute_from a
  attribute_by _ = pure None

  unfoldable pub attribute : Reader (Option Tree_field)
  attribute = peek >>= attribute_by

  -- behind a child's `{`
  abbrev pub braced_by : Bool → Reader (Option (Option Expr))
  braced_by true = take_token >> pure (Some None)
  braced_by false = nested >>= (λ x. expect (Sign (codes "}")) >> pure (Some (Some x)))

  abbrev pub child_by : Option Token → Reader (Option (Option Expr))
  child_by (Some (Token.JsxText text)) = take_token >> pure (Some (child_text (jsx_text text)))
  child_by (Some (Token.Punct a)) = if same a (codes "{") then take_token >> enter room >> look (Sign (codes "}")) >>= braced_by else pure None
  child_by (Some (Token.Begin a)) = (λ x. Some (Some x)) <$> start_by a
  child_by _ = pure None

  unfoldable pub child : Reader (Option (Option Expr))
  child = peek >>= child_by

  unfoldable pub children : Reader (List Expr)
  children = sparse child

  abbrev pub tagged_by : Characters → List Tree_field → Bool → Reader Expr
  tagged_by tag attributes true = pure (e.Jsx (roll-Jsx (record { tag = tag_tree tag; attrs = attributes; children = [] })))
  tagged_by tag attributes false = do
    expect (Sign (codes ">"))
    xs ← children
    expect (Sign (codes "</"))
    name_that (same tag)
    expect (Sign (codes ">"))
    pure (e.Jsx (roll-Jsx (record { tag = tag_tree tag; attrs = attributes; children = xs })))

  -- behind `<`
  unfoldable pub tagged : Reader Expr
  tagged = do
    tag ← name_that is_tag_name
    attributes ← many attribute
    closed ← eat (Sign (codes "/>"))
    tagged_by tag attributes closed

  -- behind `<>`
  unfoldable pub untagged : Reader Expr
  untagged = do
    xs ← children
    expect (Sign (codes "</>"))
    pure (e.Jsx (roll-Jsx (record { tag = t.Fragment; attrs = []; children = xs })))

  abbrev pub level : Inner → Reader Read
  level Whole = whole
  level Tight = unary
  level Tagged = atomic <$> tagged
  level Untagged = atomic <$> untagged
