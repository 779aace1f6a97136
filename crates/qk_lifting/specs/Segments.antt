-- What a module becomes: a segment for each of its dollar arrows, and what remains of it.
use Rattle.std.specs.Prelude.{ℕ, suc, true, ◌||◌, List, [], ◌∷◌, ◌++◌, length, flat_map, map, codes}
use Rattle.qk_ast.specs.declared.Module.{Module}
use Rattle.qk_ast.specs.declared.Item.{Item}
use Rattle.qk_ast.specs.declared.Pattern.{Pattern}
use Rattle.qk_ast.specs.declared.Expr.{Expr, more_of-Arrow, end_of-Arrow, more_of-Expr}
use Rattle.qk_ast.specs.declared.Stmt.{Stmt, end_of-Stmt, more_of-Stmt, Some'}
use Rattle.qk_ast.specs.declared.Body.{Body, Block' as Body_block'}
use Rattle.qk_ast.specs.Texts.{Text}
use Rattle.qk_ast.specs.Names.{is_listed, others_than}
use Rattle.qk_ast.specs.Arrows.{Found_arrow, item_arrows, of_kind, number_at, arrow_at}
use Rattle.qk_ast.specs.Uses.{uses, captures_of}
use Rattle.qk_ast.specs.Mentions.{item_names}
use Rattle.qk_ast.specs.Sources.{Named_module}
use Rattle.qk_sites.specs.Symbols.{symbol_text}
use Rattle.qk_lifting.specs.declared.SegmentKind.{SegmentKind}
use Rattle.qk_lifting.specs.declared.SegmentKind.TheVariants.{Component}
use Rattle.qk_lifting.specs.declared.Entry.{Entry}
use Rattle.qk_lifting.specs.Kinds.{Unmarked, item_kinds}
use Rattle.qk_lifting.specs.References.{Reference, linked, call_of_none}
use Rattle.qk_lifting.specs.Lifting.{lifted, body_lifted}
use Rattle.qk_lifting.specs.Numbering.{numbered, items_numbered}
use Rattle.qk_lifting.specs.Importing.{origin, imports_of}
use Rattle.qk_lifting.specs.Hooks.{hook_letters}

-- ---- the dollar arrows of a module

abbrev pub dollar_arrows : Module → List Found_arrow
dollar_arrows m = of_kind true (item_arrows m.items)

-- the symbol and the captures of the one with this place
abbrev pub reference_at : Text → Module → ℕ → Reference
reference_at file m place = record { symbol = symbol_text file (number_at (dollar_arrows m) place); captures = captures_of (arrow_at (item_arrows m.items) place) }

-- ---- the own arrow of a segment

-- `const [captures] = useLexicalScope();`
abbrev pub scope_statement : List Text → Stmt
scope_statement names = Stmt.Const (Pattern.Scope names) (linked (Expr.Name (codes "useLexicalScope")) call_of_none)

-- where an arrow captures, its block begins with that statement, and an expression is returned
abbrev pub with_captures : List Text → Body → Body
with_captures [] body = body
with_captures (name ∷ rest) (Body.Value' _ (more_of-Expr e _)) =
    Body_block' (tt ∷ tt ∷ []) (more_of-Stmt (scope_statement (name ∷ rest)) (more_of-Stmt (Stmt.Return' (Some' e)) end_of-Stmt))
with_captures (name ∷ rest) (Body_block' n all) = Body_block' (tt ∷ n) (more_of-Stmt (scope_statement (name ∷ rest)) all)

abbrev pub own_arrow : (ℕ → Reference) → Found_arrow → Expr
own_arrow refer a = Expr.Arrow' tt (more_of-Arrow a.place a.params (with_captures (captures_of a) (body_lifted refer a.body)) end_of-Arrow)

-- ---- the names that a segment imports: those of the root that its arrow uses, and what gives it the captures

abbrev pub scope_word : List Text → List Text
scope_word [] = []
scope_word (name ∷ rest) = codes "useLexicalScope" ∷ []

abbrev pub segment_uses : (ℕ → Reference) → Found_arrow → List Text
segment_uses refer a = scope_word (captures_of a) ++ others_than (captures_of a) (uses (own_arrow refer a))

-- ---- segments

-- A dollar arrow with its symbol and its kind.
pub record Dollar_site : Type 0 where
  pub symbol : Text
  pub kind : SegmentKind
  pub arrow : Found_arrow

-- arrows and kinds, both in text order; the first of them is the one behind that many
abbrev pub sites_after : Text → ℕ → List SegmentKind → List Found_arrow → List Dollar_site
sites_after file n (kind ∷ kinds) (a ∷ arrows) = record { symbol = symbol_text file (suc n); kind = kind; arrow = a } ∷ sites_after file (suc n) kinds arrows
sites_after file n kinds arrows = []

abbrev pub dollar_sites : Text → Module → List Dollar_site
dollar_sites file m = sites_after file 0 (item_kinds m.items) (dollar_arrows m)

-- only a component has hooks
abbrev pub site_hooks : Dollar_site → Text
site_hooks site = elim site.kind [ Component ↦ hook_letters site.arrow.body | _ ↦ [] ]

abbrev pub entry_of : Dollar_site → Entry
entry_of site = record { symbol = site.symbol; kind = site.kind; captures = length (captures_of site.arrow); hooks = site_hooks site }

-- `export const SYMBOL = ARROW;`
abbrev pub segment_module : Text → Module → Dollar_site → Module
segment_module file m site = record {
  imports = imports_of (origin file m) (segment_uses (reference_at file m) site.arrow);
  items = record { exported = true; name = site.symbol; init = numbered 0 (own_arrow (reference_at file m) site.arrow) } ∷ [];
}

-- A segment: what the index says of it, and its file.
pub record Segment : Type 0 where
  pub entry : Entry
  pub code : Module

abbrev pub segment_of : Text → Module → Dollar_site → Segment
segment_of file m site = record { entry = entry_of site; code = segment_module file m site }

-- ---- what remains

-- the names that the segments use
abbrev pub names_of_segments : Text → Module → List Text
names_of_segments file m = flat_map (segment_uses (reference_at file m)) (dollar_arrows m)

-- exported where the source has it so or a segment uses it
abbrev pub remaining_item : Text → Module → Item → Item
remaining_item file m i = record { exported = i.exported || is_listed i.name (names_of_segments file m); name = i.name; init = lifted (reference_at file m) i.init Unmarked }

abbrev pub remaining_items : Text → Module → List Item
remaining_items file m = map (remaining_item file m) m.items

-- what the items use of other files
abbrev pub item_uses : List Item → List Text
item_uses items = others_than (item_names items) (flat_map (λ i. uses i.init) items)

abbrev pub remainder : Text → Module → Module
remainder file m = record { imports = imports_of (origin file m) (item_uses (remaining_items file m)); items = items_numbered 0 (remaining_items file m) }

-- A module lifted: what remains of it, and its segments by their numbers.
pub record Lifted : Type 0 where
  pub name : Text
  pub remainder' : Module
  pub segments : List Segment

abbrev pub lifted_module : Named_module → Lifted
lifted_module m = record { name = m.0; remainder' = remainder m.0 m.1; segments = map (segment_of m.0 m.1) (dollar_sites m.0 m.1) }
