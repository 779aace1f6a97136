-- What the names of items are, as it is told of their values.
use Rattle.std.specs.Prelude.{◌≡◌, true, false, List, [], ◌∷◌, Option, Some, None, codes}
use Rattle.std.specs.Borrow.{Bor}
use Rattle.qk_ast.specs.declared.Expr.{Expr}
use Rattle.qk_ast.specs.declared.Expr.TheVariants as e
use Rattle.qk_ast.specs.declared.Item.{Item}
use Rattle.qk_ast.specs.declared.Link.{Link, out-Link}
use Rattle.qk_ast.specs.declared.Body.TheOpen.{Link-F}
use Rattle.qk_ast.specs.Texts.{Text, same_text}
use Rattle.qk_ast.specs.Sources.{Named_module}
use Rattle.qk_meaning.specs.Value as M
use Rattle.qk_meaning.specs.Program.{Holds}
use Rattle.qk_meaning.specs.Roots.{literal, place_of, text_in, item_root}
use Rattle.qk_sites.specs.Symbols.{symbol_text}
use Rattle.qk_value.specs.View.{seen}
use Rattle.qk_code.specs.declared.func.Root.{Root}
use Rattle.qk_whole.specs.declared.known.Known.{Known}
use Rattle.qk_whole.specs.Telling.{site_at, IsOf}

-- the first item of a name
abbrev pub first_item : List Item → Text → Option Item
first_item [] q = None
first_item (i ∷ rest) q = elim (same_text i.name q) [ true ↦ Some i | false ↦ first_item rest q ]

-- ---- arguments on loan

-- undefined where there is none
abbrev pub argument_in : Option (Bor Expr) → Expr
argument_in None = Expr.Undefined
argument_in (Some x) = x.now

abbrev pub first_of : List Expr → Expr
first_of [] = Expr.Undefined
first_of (x ∷ rest) = x

-- the first argument of the first link
abbrev pub first_in : List Link → Expr
first_in [] = Expr.Undefined
first_in (l ∷ rest) = elim (out-Link l) [ Link-F.Call xs ↦ first_of xs | _ ↦ Expr.Undefined ]

-- ---- what a name is

-- a call of that name with this first argument makes this
abbrev pub IsCalled : Known → Text → Expr → Root → Type 0
IsCalled known callee argument (Root.Component symbol) =
    (same_text callee (codes "component$") ≡ true) × (symbol ≡ symbol_text (site_at known (place_of argument)).«module» (site_at known (place_of argument)).number)
IsCalled known callee argument (Root.Context id) = (same_text callee (codes "component$") ≡ false) × (id ≡ text_in argument)
IsCalled known callee argument _ = ⊥

-- this is the name of an item with that value
abbrev pub IsRoot : Known → Expr → Root → Type 0
IsRoot known value (Root.Fn f) = (value ≡ e.Arrow f.arrow) × IsOf known f × (f.captures ≡ []) × (f.task ≡ false)
IsRoot known value (Root.Literal v) = ((names : M.Site → List Text) → seen names v ≡ literal value) × ((modules : List Named_module) (file : Text) → item_root modules file value ≡ Holds (literal value))
IsRoot known value r = (callee : Text) × (links : List Link) × (value ≡ e.Post (e.Name callee) links) × IsCalled known callee (first_in links) r

-- this is the name, where that is the first item of it
abbrev pub IsNamed : Known → Option Root → Option Item → Type 0
IsNamed known (Some r) (Some i) = IsRoot known i.init r
IsNamed known None None = Unit {0}
IsNamed known _ _ = ⊥
