-- Which modules have the first shape, and what their trees are made of.
use Rattle.std.specs.Prelude.{◌≡◌, ℕ, ℤ, pos, ◌≤ℤ◌, Bool, true, false, not, ◌&&◌, List, [], ◌∷◌, map, Option, Some, None, codes, IsTrue, ◌⊎◌}
use Rattle.qk_ast.specs.declared.Module.{Module}
use Rattle.qk_ast.specs.declared.Import.{Import}
use Rattle.qk_ast.specs.declared.Item.{Item}
use Rattle.qk_ast.specs.declared.Expr.{Expr}
use Rattle.qk_ast.specs.declared.Expr.TheVariants as e
use Rattle.qk_ast.specs.declared.Stmt.{Stmt}
use Rattle.qk_ast.specs.declared.Stmt.TheVariants as s
use Rattle.qk_ast.specs.declared.Link.TheVariants as l
use Rattle.qk_ast.specs.declared.Body.{Body}
use Rattle.qk_ast.specs.declared.Body.TheVariants as b
use Rattle.qk_ast.specs.declared.Pattern.TheVariants as p
use Rattle.qk_ast.specs.declared.Tag.TheVariants as t
use Rattle.qk_ast.specs.declared.Field.{Field}
use Rattle.qk_ast.specs.declared.Jsx.{Jsx, out-Jsx}
use Rattle.qk_ast.specs.Characters.{is_one_of}
use Rattle.qk_ast.specs.Tokens.{reserved_words}
use Rattle.qk_ast.specs.First.{is_distinct}
use Rattle.qk_ast.specs.Tree.{module_tree}
use Rattle.qk_ast.specs.First.{First_text, Fits, module_of, are_qwik_names, first_tags, is_short_word}
use Rattle.qk_meaning.specs.Value.{Text}

-- the module is that of a text of the first form
pub record HasFirstShape (m : Module) : Type 0 where
  pub text : First_text
  pub fits : Fits text
  pub means : module_tree (module_of text) ≡ m

-- ---- the parts of such a tree

-- f(x)
abbrev pub call_of : Text → Expr → Expr
call_of f x = e.Post (e.Name f) (l.Call (x ∷ []) ∷ [])

-- NAME.value
abbrev pub value_in : Text → Expr
value_in name = e.Post (e.Name name) (l.Prop (codes "value") ∷ [])

-- () => .., the arrow with this number
abbrev pub arrow_at : ℕ → Body → Expr
arrow_at place body = e.Arrow (record { place = place; params = []; body = body })

-- import { .. } from "@builder.io/qwik";
abbrev pub import_of : List Text → Import
import_of names = record { names = names; from = codes "@builder.io/qwik" }

-- () => { .. }, the first arrow
abbrev pub block_of : List Stmt → Expr
block_of statements = arrow_at 0 (b.Block statements)

-- export const App = component$(() => { .. });
abbrev pub app_of : List Stmt → Item
app_of statements = record { exported = true; name = codes "App"; init = call_of (codes "component$") (block_of statements) }

-- const NAME = useSignal(INITIAL);
abbrev pub signal_of : Text → ℤ → Stmt
signal_of name initial = s.Const (p.Name name) (call_of (codes "useSignal") (e.Int initial))

-- return <..>;
abbrev pub return_of : Jsx → Stmt
return_of jsx = s.Return (Some (e.Jsx jsx))

-- () => NAME.value++, or with `--`; the second arrow of the module
abbrev pub listener_of : Text → Bool → Expr
listener_of name up = arrow_at 1 (b.Value (e.Step up (value_in name)))

-- ---- the element, where a signal has this name or there is none

-- id=".."
abbrev pub IsId : Text → Field → Type 0
IsId id field = IsTrue (is_short_word id) × (field ≡ record { key = codes "id"; value = e.Text id })

-- onClick$={..}
abbrev pub IsListener : Option Text → Bool → Field → Type 0
IsListener None up field = ⊥
IsListener (Some name) up field = field ≡ record { key = codes "onClick$"; value = listener_of name up }

-- an id and a listener, each at most once, in either order
abbrev pub AreAttributes : Option Text → Option Text → Option Bool → List Field → Type 0
AreAttributes name None None fields = fields ≡ []
AreAttributes name (Some id) None fields = (a : Field) × (fields ≡ a ∷ []) × IsId id a
AreAttributes name None (Some up) fields = (a : Field) × (fields ≡ a ∷ []) × IsListener name up a
AreAttributes name (Some id) (Some up) fields = (a : Field) × (c : Field) × ((fields ≡ a ∷ c ∷ []) ⊎ (fields ≡ c ∷ a ∷ [])) × IsId id a × IsListener name up c

-- the element shows the signal, or nothing
abbrev pub AreChildren : Option Text → Bool → List Expr → Type 0
AreChildren name false children = children ≡ []
AreChildren None true children = ⊥
AreChildren (Some name) true children = children ≡ value_in name ∷ []

pub record IsElement (name : Option Text) (tag : Text) (id : Option Text) (counts_up : Option Bool) (shows : Bool) (jsx : Jsx) : Type 0 where
  pub tagged : (out-Jsx jsx).tag ≡ t.Element tag
  pub known : IsTrue (is_one_of tag first_tags)
  pub attributes : AreAttributes name id counts_up (out-Jsx jsx).attrs
  pub children : AreChildren name shows (out-Jsx jsx).children

-- ---- names and numbers

-- framework names, each once, and `component$` among them
abbrev pub is_import : List Text → Bool
is_import names = are_qwik_names names && is_distinct names && is_one_of (codes "component$") names

-- what a signal may be called
abbrev pub is_signal_name : Text → Bool
is_signal_name name = is_short_word name && not (is_one_of name reserved_words) && not (is_one_of name (map codes ("console" ∷ "qrl" ∷ [])))

-- a signal may have this name and this first value under this import
pub record MayStand (names : List Text) (name : Text) (initial : ℤ) : Type 0 where
  pub named : IsTrue (is_signal_name name)
  pub imported : IsTrue (is_one_of (codes "useSignal") names)
  pub from : pos 0 ≤ℤ initial
  pub to : initial ≤ℤ pos 1000000
