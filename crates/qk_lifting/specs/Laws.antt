-- The laws of lifted modules.
use Rattle.std.specs.Prelude.{◌≡◌, ℕ, zero, suc, true, false, List, [], ◌∷◌, length, map, Some, All, Contains, IsTrue, ⊤}
use Rattle.qk_ast.specs.declared.Form.{Form}
use Rattle.qk_ast.specs.declared.Form.TheVariants.{Source}
use Rattle.qk_ast.specs.Placing.{Root_kind}
use Rattle.qk_ast.specs.declared.Body.{Body}
use Rattle.qk_ast.specs.declared.Expr.{Expr}
use Rattle.qk_ast.specs.Derives.{Derives}
use Rattle.qk_ast.specs.Naming.{all_naming_breaches}
use Rattle.qk_ast.specs.declared.Module.{Module}
use Rattle.qk_ast.specs.Texts.{Text}
use Rattle.qk_ast.specs.Arrows.{Tasked, Found_arrow, is_dollar, body_arrows, item_arrows}
use Rattle.qk_ast.specs.Texts.{same_text}
use Rattle.qk_lifting.specs.declared.SegmentKind.{SegmentKind}
use Rattle.qk_lifting.specs.declared.Entry.{Entry}
use Rattle.qk_lifting.specs.Index.{is_entry, are_entries}
use Rattle.qk_lifting.specs.Files.{entries_in_order}
use Rattle.qk_lifting.specs.Hooks.{hook_letters}
use Rattle.qk_lifting.specs.Built_file.{allows, fits_entry}
use Rattle.qk_lifting.specs.declared.SegmentKind.TheVariants.{Component}
use Rattle.qk_ast.specs.Names.{scope_names}
use Rattle.qk_ast.specs.Uses.{uses, body_uses, captures_of}
use Rattle.qk_ast.specs.Framework.{is_taken}
use Rattle.qk_ast.specs.Names.{is_listed}
use Rattle.qk_names.specs.Inside.{inside}
use Rattle.qk_names.specs.Laws.{IsTask, KeepsRules}
use Rattle.qk_lifting.specs.Lifting.{body_lifted}
use Rattle.qk_lifting.specs.Numbering.{numbered, body_numbered}
use Rattle.qk_lifting.specs.References.{Reference}
use Rattle.qk_lifting.specs.Marks.{mark_of}
use Rattle.qk_lifting.specs.Segments.{Dollar_site, dollar_arrows, dollar_sites, reference_at, entry_of, segment_module}

abbrev pub arrow_of : Dollar_site → Found_arrow
arrow_of site = site.arrow

abbrev pub kind_of : Dollar_site → SegmentKind
kind_of site = site.kind

-- the dollar sites of a module are its dollar arrows, in order
abbrev pub SitesAreArrows : Type 0
SitesAreArrows = (file : Text) (m : Module) → map arrow_of (dollar_sites file m) ≡ dollar_arrows m

-- a site is of kind task exactly where its arrow is marked as a task
abbrev pub KindsAreMarks : Type 0
KindsAreMarks = (file : Text) (m : Module) → map mark_of (map kind_of (dollar_sites file m)) ≡ map (λ a. a.mark) (dollar_arrows m)

-- ---- captures

-- of each of these arrows it is told what it captures
abbrev pub Tells : (ℕ → Reference) → List Found_arrow → Type 0
Tells refer [] = ⊤
Tells refer (a ∷ rest) = ((refer a.place).captures ≡ captures_of a) × Tells refer rest

pub record Told (refer : ℕ → Reference) (found : List Found_arrow) : Type 0 where
  pub tells : Tells refer found

-- the arrow with its code lifted
abbrev pub lifted_arrow : (ℕ → Reference) → Found_arrow → Found_arrow
lifted_arrow refer a = record { place = a.place; scope = a.scope; mark = a.mark; params = a.params; body = body_lifted refer a.body }

-- no name of the scope is one that a declaration may not have
abbrev pub Clear : List Text → Type 0
Clear scope = (t : Text) → is_listed t scope ≡ true → is_taken t ≡ false

-- a lifted arrow captures what the arrow captures, in the same order
abbrev pub LiftingKeepsCaptures : Type 0
LiftingKeepsCaptures = (refer : ℕ → Reference) (a : Found_arrow) → Told refer (inside a) → Clear a.scope → (a.mark ≡ Tasked → IsTask a.params) → captures_of (lifted_arrow refer a) ≡ captures_of a

-- where no rule of names is broken, the scopes around the arrows of a module are clear
abbrev pub ScopesAreClear : Type 0
ScopesAreClear = (form : Form) (file : Text) (m : Module) → all_naming_breaches form file m ≡ [] → All (λ a. Clear a.scope) (item_arrows m.items)

-- of the arrows inside an arrow of a module it is told what they capture
abbrev pub CapturesAreTold : Type 0
CapturesAreTold = (form : Form) (bytes : List ℕ) (file : Text) (m : Module) → Derives form bytes m → (a : Found_arrow) → Contains (item_arrows m.items) a → Told (reference_at file m) (inside a)

-- in a module that keeps the rules each arrow captures, once it is lifted, what it captured
abbrev pub ModulesKeepCaptures : Type 0
ModulesKeepCaptures = (file : Text) (roots : Text → Root_kind) (bytes : List ℕ) (m : Module) → Derives Source bytes m → KeepsRules Source file roots m
    → All (λ a. captures_of (lifted_arrow (reference_at file m) a) ≡ captures_of a) (item_arrows m.items)

-- ---- the arrows of lifted code

-- those that are no dollar arrows and stand in none, behind as many that stand in one
abbrev pub outside_after : ℕ → List Found_arrow → List Found_arrow
outside_after n [] = []
outside_after (suc n) (a ∷ rest) = outside_after n rest
outside_after zero (a ∷ rest) = elim (is_dollar a) [ true ↦ outside_after (length (inside a)) rest | false ↦ a ∷ outside_after zero rest ]

abbrev pub outside : List Found_arrow → List Found_arrow
outside = outside_after 0

-- the arrows of a lifted body are those of the body that are no dollar arrows and stand in none, each lifted
abbrev pub LiftingKeepsArrows : Type 0
LiftingKeepsArrows = (refer : ℕ → Reference) (x : Body) (scope : List Text) → body_arrows (body_lifted refer x) scope ≡ map (lifted_arrow refer) (outside (body_arrows x scope))

-- ---- numbering

-- code that is numbered anew uses the same names in the same order
abbrev pub NumberingKeepsNames : Type 0
NumberingKeepsNames = (n : ℕ) → ((x : Expr) → uses (numbered n x) ≡ uses x) × ((x : Body) → body_uses (body_numbered n x) ≡ body_uses x)

-- ---- segments and their entries

-- lifted and numbered code has the same hooks in the same order
abbrev pub HooksAreKept : Type 0
HooksAreKept = (refer : ℕ → Reference) (n : ℕ) (x : Body) → hook_letters (body_numbered n (body_lifted refer x)) ≡ hook_letters x

-- the file of a dollar site fits the entry of its symbol, if its parameters are those of its kind and a component captures nothing
abbrev pub SegmentsFit : Type 0
SegmentsFit = (file : Text) (m : Module) (site : Dollar_site) → scope_names site.arrow.body ≡ [] → IsTrue (allows site.kind site.arrow.params) → (site.kind ≡ Component → captures_of site.arrow ≡ [])
    → IsTrue (fits_entry (Some (entry_of site)) (segment_module file m site))

-- ---- the index

-- the entries have other symbols than that one
abbrev pub Others : Entry → List Entry → Type 0
Others e [] = ⊤
Others e (f ∷ rest) = (same_text e.symbol f.symbol ≡ false) × Others e rest

-- entries that keep their rules, each with a symbol of its own
abbrev pub EachAlone : List Entry → Type 0
EachAlone [] = ⊤
EachAlone (e ∷ rest) = IsTrue (is_entry e) × Others e rest × EachAlone rest

-- put in order, they keep the order of an index
abbrev pub EntriesAreInOrder : Type 0
EntriesAreInOrder = (entries : List Entry) → EachAlone entries → IsTrue (are_entries (entries_in_order entries))
