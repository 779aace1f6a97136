-- The laws of arrows and names.
use Rattle.std.specs.Prelude.{◌≡◌, ◌⊎◌, ℕ, ◌+◌, ◌<◌, ◌≤◌, Bool, true, ◌||◌, Some, List, [], ◌∷◌, ◌++◌, length, flat_map, All, Contains, IsTrue, codes}
use Rattle.qk_ast.specs.declared.Form.{Form}
use Rattle.qk_ast.specs.declared.Module.{Module}
use Rattle.qk_ast.specs.declared.Item.{Item}
use Rattle.qk_ast.specs.Derives.{Derives}
use Rattle.qk_ast.specs.Arrows.{Mark, Unmarked, Marked, Tasked, Found_arrow, arrows, item_arrows, of_kind, nth_arrow, arrow_at, number_at}
use Rattle.qk_ast.specs.Uses.{uses, free_of, captures_of}
use Rattle.qk_ast.specs.declared.Expr.{Expr}
use Rattle.qk_ast.specs.declared.Pattern.{Pattern}
use Rattle.qk_ast.specs.Scopes.{is_track}
use Rattle.qk_ast.specs.Naming.{all_naming_breaches, root_names}
use Rattle.qk_ast.specs.declared.Form.TheVariants.{Source}
use Rattle.qk_ast.specs.Names.{is_listed, others_than, scope_names}
use Rattle.qk_ast.specs.Texts.{Text}
use Rattle.qk_ast.specs.Placing.{Root_kind, A_component, A_context, kind_of_value, is_data, is_item, is_app, most_sites, all_placing_breaches, root_kind}
use Rattle.qk_ast.specs.Sources.{Named_module}
use Rattle.qk_ast.specs.Application.{application_breaches}
use Rattle.qk_names.specs.Handed.{handed}
use Rattle.qk_names.specs.Inside.{inside, with_inside}

-- ---- places

-- the arrows of a module that a text derives have the places 0, 1, 2 .. in text order
abbrev pub ArrowsAreNumbered : Type 0
ArrowsAreNumbered = (form : Form) (bytes : List ℕ) (m : Module) → Derives form bytes m → (n : ℕ) → n < length (item_arrows m.items) → (nth_arrow (item_arrows m.items) n).place ≡ n

-- each arrow of such a module is found at its place
abbrev pub ArrowsAreFound : Type 0
ArrowsAreFound = (form : Form) (bytes : List ℕ) (m : Module) → Derives form bytes m → (a : Found_arrow) → Contains (item_arrows m.items) a → arrow_at (item_arrows m.items) a.place ≡ a

-- the arrows of one kind are found at their places, and numbered by them from 1
abbrev pub KindsAreNumbered : Type 0
KindsAreNumbered = (form : Form) (bytes : List ℕ) (m : Module) → Derives form bytes m → (dollar : Bool) (n : ℕ) → n < length (of_kind dollar (item_arrows m.items))
    → (arrow_at (of_kind dollar (item_arrows m.items)) (nth_arrow (of_kind dollar (item_arrows m.items)) n).place ≡ nth_arrow (of_kind dollar (item_arrows m.items)) n)
    × (number_at (of_kind dollar (item_arrows m.items)) (nth_arrow (of_kind dollar (item_arrows m.items)) n).place ≡ n + 1)

-- ---- arrows inside arrows

-- the arrows inside an arrow follow it at once
abbrev pub InsideFollows : Type 0
InsideFollows = (items : List Item) (front : List Found_arrow) (a : Found_arrow) (rest : List Found_arrow) → item_arrows items ≡ front ++ a ∷ rest
    → (behind : List Found_arrow) × (rest ≡ inside a ++ behind)

-- what stands inside an arrow of the items is an arrow of the items
abbrev pub InsideIsListed : Type 0
InsideIsListed = (items : List Item) (a b : Found_arrow) → Contains (item_arrows items) a → Contains (inside a) b → Contains (item_arrows items) b

-- The arrows of the items are those that stand in no other, each with those inside it; and the former capture nothing.
pub record Outermost (items : List Item) : Type 0 where
  pub outers : List Found_arrow
  pub whole : flat_map with_inside outers ≡ item_arrows items
  pub around_none : All (λ a. a.scope ≡ []) outers
  pub captured_none : All (λ a. captures_of a ≡ []) outers

abbrev pub OutermostCaptureNothing : Type 0
OutermostCaptureNothing = (items : List Item) → Outermost items

-- ---- items

-- The expression is one call with one arrow: a dollar site of the items, with one parameter at most.
pub record DollarSite (items : List Item) (e : Expr) : Type 0 where
  pub arrow : Found_arrow
  pub handed' : handed e ≡ Some arrow
  pub marked : arrow.mark ≡ Marked
  pub around_none : arrow.scope ≡ []
  pub parameters : length arrow.params ≤ 1
  -- the arrows of the expression are this one and those inside it
  pub whole : arrows e Unmarked [] ≡ with_inside arrow
  pub listed : Contains (item_arrows items) arrow
  pub among_dollars : Contains (of_kind true (item_arrows items)) arrow

-- where no rule of places is broken, a component of the root is made of a dollar site
abbrev pub ComponentIsDollarSite : Type 0
ComponentIsDollarSite = (file : Text) (roots : Text → Root_kind) (m : Module) → all_placing_breaches file roots m ≡ []
    → (i : Item) → Contains m.items i → kind_of_value i.init ≡ A_component → DollarSite m.items i.init

-- there an item is a component, a context id, an arrow or fixed data, and `App` of the module `root` is a component
abbrev pub ItemsHaveForms : Type 0
ItemsHaveForms = (file : Text) (roots : Text → Root_kind) (m : Module) → all_placing_breaches file roots m ≡ []
    → (i : Item) → Contains m.items i → IsTrue (is_item i.init) × (IsTrue (is_app file i.name) → kind_of_value i.init ≡ A_component)

-- there a module has 4,096 dollar sites at most
abbrev pub SitesAreFew : Type 0
SitesAreFew = (file : Text) (roots : Text → Root_kind) (m : Module) → all_placing_breaches file roots m ≡ [] → length (of_kind true (item_arrows m.items)) ≤ most_sites

-- a context id has no arrows
abbrev pub ContextsHaveNoArrows : Type 0
ContextsHaveNoArrows = (e : Expr) → kind_of_value e ≡ A_context → (mark : Mark) (scope : List Text) → arrows e mark scope ≡ []

-- fixed data has no arrows and uses no names
abbrev pub DataStands : Type 0
DataStands = (e : Expr) → is_data e ≡ true → ((mark : Mark) (scope : List Text) → arrows e mark scope ≡ []) × (uses e ≡ [])

-- ---- accepted applications

-- no rule of names and no rule of places is broken
abbrev pub KeepsRules : Form → Text → (Text → Root_kind) → Module → Type 0
KeepsRules form file roots m = (all_naming_breaches form file m ≡ []) × (all_placing_breaches file roots m ≡ [])

-- the modules of an accepted application break none
abbrev pub AcceptedKeepRules : Type 0
AcceptedKeepRules = (modules : List Named_module) → application_breaches modules ≡ [] → (m : Named_module) → Contains modules m → KeepsRules Source m.0 (root_kind modules m.1) m.1

-- ---- tasks

-- the parameters of a task: none, or `{ track }`
abbrev pub IsTask : List Pattern → Type 0
IsTask params = (params ≡ []) ⊎ IsTrue (is_track params)

-- where no rule is broken each task has such parameters
abbrev pub TasksTakeTrack : Type 0
TasksTakeTrack = (form : Form) (file : Text) (roots : Text → Root_kind) (m : Module) → KeepsRules form file roots m
    → All (λ a. a.mark ≡ Tasked → IsTask a.params) (item_arrows m.items)

-- ---- names

-- the arrows of a source have no lexical scope
abbrev pub SourcesHaveNoScopes : Type 0
SourcesHaveNoScopes = (bytes : List ℕ) (m : Module) → Derives Source bytes m → All (λ a. scope_names a.body ≡ []) (item_arrows m.items)

-- in a source, where no rule is broken, each free name of an arrow is captured, or a name of the root
abbrev pub NamesAreCaptured : Type 0
NamesAreCaptured = (file : Text) (roots : Text → Root_kind) (bytes : List ℕ) (m : Module) → Derives Source bytes m → KeepsRules Source file roots m
    → All (λ a. All (λ name. IsTrue (is_listed name (captures_of a) || is_listed name (root_names Source file m))) (free_of a)) (item_arrows m.items)

-- there each name that an item uses and doesn't declare is a name of the root
abbrev pub ItemsUseRootNames : Type 0
ItemsUseRootNames = (file : Text) (roots : Text → Root_kind) (bytes : List ℕ) (m : Module) → Derives Source bytes m → KeepsRules Source file roots m
    → All (λ i. All (λ name. IsTrue (is_listed name (root_names Source file m))) (uses i.init)) m.items

-- there each free name of an arrow inside a task that takes `track` is captured, or a name of the root other than `track`
abbrev pub TrackStays : Type 0
TrackStays = (file : Text) (roots : Text → Root_kind) (bytes : List ℕ) (m : Module) → Derives Source bytes m → KeepsRules Source file roots m
    → All (λ a. a.mark ≡ Tasked → IsTrue (is_track a.params)
    → All (λ b. All (λ name. IsTrue (is_listed name (captures_of b) || is_listed name (others_than (codes "track" ∷ []) (root_names Source file m)))) (free_of b)) (inside a)) (item_arrows m.items)
