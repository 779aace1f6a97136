-- Words for the trees of a module of the first form; they unfold to the constructors, so that the meaning of such a tree computes.
use Rattle.std.specs.Prelude.{ℕ, ℤ, Bool, true, false, List, [], ◌∷◌, Option, Some, None, codes}
use Rattle.qk_ast.specs.declared.Module.{Module}
use Rattle.qk_ast.specs.declared.Pattern.{Pattern}
use Rattle.qk_ast.specs.declared.Tag.{Tag}
use Rattle.qk_ast.specs.declared.Expr.{Expr, Row_of-Expr, end_of-Expr, more_of-Expr, Row_of-Field, end_of-Field, more_of-Field, end_of-Link, more_of-Link, end_of-Arrow, more_of-Arrow, end_of-Jsx, more_of-Jsx}
use Rattle.qk_ast.specs.declared.Stmt.{Stmt, Some', end_of-Stmt, more_of-Stmt}
use Rattle.qk_ast.specs.declared.Link.{Link}
use Rattle.qk_ast.specs.declared.Jsx.{Jsx, Jsx'}
use Rattle.qk_ast.specs.declared.Body.{Body, Block' as Body_block'}
use mathlib.Core.Former.{arity, this, list}
use Rattle.qk_ast.specs.First.{First_attribute, Id, On_click}
use Rattle.qk_meaning.specs.Value.{Text, Site}

-- the module's name, and the sites of its two arrows
abbrev pub root : Text
root = codes "root"

abbrev pub component_site : Site
component_site = record { file = root; number = 1; dollar = true }

abbrev pub listener_site : Site
listener_site = record { file = root; number = 2; dollar = true }

-- NAME.value
abbrev pub value_of : Text → Expr
value_of n = Expr.Post' tt (more_of-Expr (Expr.Name n) end_of-Expr) (tt ∷ []) (more_of-Link (Link.Prop (codes "value")) end_of-Link)

-- f(x)
abbrev pub called : Text → Expr → Expr
called f x = Expr.Post' tt (more_of-Expr (Expr.Name f) end_of-Expr) (tt ∷ []) (more_of-Link (Link.Call' (tt ∷ []) (more_of-Expr x end_of-Expr)) end_of-Link)

-- () => ..
abbrev pub arrow : ℕ → Body → Expr
arrow place body = Expr.Arrow' tt (more_of-Arrow place [] body end_of-Arrow)

-- NAME.value++, or with --
abbrev pub bump : Bool → Text → Body
bump up n = Body.Value' tt (more_of-Expr (Expr.Step' up tt (more_of-Expr (value_of n) end_of-Expr)) end_of-Expr)

abbrev pub units : {A : Type 0} → List A → List (Unit {0})
units [] = []
units (x ∷ rest) = tt ∷ units rest

abbrev pub row : (all : List Expr) → Row_of-Expr (arity (list this) (units all))
row [] = end_of-Expr
row (e ∷ rest) = more_of-Expr e (row rest)

abbrev pub field_row : (all : List (Text × Expr)) → Row_of-Field (arity (list this) (units all))
field_row [] = end_of-Field
field_row (e ∷ rest) = more_of-Field e.0 e.1 (field_row rest)

-- ---- the element

-- the attributes; the one listener is the second arrow of the module
abbrev pub attribute_pair : Text → First_attribute → Text × Expr
attribute_pair n (Id id) = (codes "id", Expr.Text id)
attribute_pair n (On_click up) = (codes "onClick$", arrow 1 (bump up n))

abbrev pub attribute_pairs : Text → List First_attribute → List (Text × Expr)
attribute_pairs n [] = []
attribute_pairs n (a ∷ more) = attribute_pair n a ∷ attribute_pairs n more

abbrev pub children : Bool → Text → List Expr
children true n = value_of n ∷ []
children false n = []

abbrev pub element_at : Tag → Bool → Text → List First_attribute → Jsx
element_at tag shows n attributes =
    Jsx' tag (units (attribute_pairs n attributes)) (field_row (attribute_pairs n attributes)) (units (children shows n)) (row (children shows n))

abbrev pub element : Bool → Text → Text → List First_attribute → Jsx
element shows n tag attributes = element_at (Tag.Element tag) shows n attributes

-- return <..>;
abbrev pub returned : Jsx → Stmt
returned jsx = Stmt.Return' (Some' (Expr.Jsx' tt (more_of-Jsx jsx end_of-Jsx)))

-- ---- the component

-- { const NAME = useSignal(INT); return <..>; }
abbrev pub with_signal : Text → ℤ → Jsx → Body
with_signal n k jsx = Body_block' (tt ∷ tt ∷ []) (more_of-Stmt (Stmt.Const (Pattern.Name n) (called (codes "useSignal") (Expr.Int k))) (more_of-Stmt (returned jsx) end_of-Stmt))

-- { return <..>; }
abbrev pub without_signal : Jsx → Body
without_signal jsx = Body_block' (tt ∷ []) (more_of-Stmt (returned jsx) end_of-Stmt)

-- ---- the module

abbrev pub body_of : Option ℤ → Text → Jsx → Body
body_of None n jsx = without_signal jsx
body_of (Some k) n jsx = with_signal n k jsx

abbrev pub first_module : List Text → Text → Option ℤ → Jsx → Module
first_module imported n signal jsx = record {
  imports = record { names = imported; from = codes "@builder.io/qwik" } ∷ [];
  items = record { exported = true; name = codes "App"; init = called (codes "component$") (arrow 0 (body_of signal n jsx)) } ∷ [];
}
