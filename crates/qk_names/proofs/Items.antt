-- What the rules of places ask of items, and how many dollar sites they allow.
use Rattle.std.proofs.Common.{◌≡◌, refl, sym, ◌∙◌, ap, subst, arith, append-nil}
use Rattle.std.proofs.lemmas.Bool.{false≢true, not-false}
use Rattle.std.specs.Prelude.{zero, suc, ◌≤◌, nat_le, Bool, true, false, not, ◌&&◌, List, [], ◌∷◌, length, flat_map, Some, Contains, IsTrue, codes}
use Rattle.qk_ast.specs.declared.Item.{Item as Root_item}
use Rattle.qk_ast.specs.declared.Module.{Module}
use Rattle.qk_ast.specs.declared.RuleKind.TheVariants.{NotComponent, RootValue, TooManySites}
use Rattle.qk_ast.specs.declared.Expr.{Expr, Row_of-Expr, end_of-Expr, more_of-Expr, Row_of-Link, end_of-Link, more_of-Link}
use Rattle.qk_ast.specs.declared.Link.{Link}
use Rattle.qk_ast.specs.Texts.{Text, same_text}
use Rattle.qk_ast.specs.Arrows.{Mark, arrows, all_arrows, link_arrows, item_arrows, of_kind, name_mark}
use Rattle.qk_ast.specs.Spots.{Item, Root_value, With, spots, item_spots, called, arguments_of}
use Rattle.qk_ast.specs.Tags.{is_text_literal}
use Rattle.qk_ast.specs.Placing.{Root_kind, A_component, A_context, Else, refuse_if, kind_of_value, called_kind, is_one_text, is_component, is_app, is_item, placing_breaches, all_placing_breaches, site_breaches, most_sites}
use Rattle.qk_names.proofs.Each.{Each, head, tail, behind, keeps, empty_front, empty_behind}
use Rattle.qk_names.proofs.Components.{not_refused}

abbrev is_made_context : Root_kind → Bool
is_made_context A_context = true
is_made_context _ = false

-- ---- contexts

text_empty : (x : Expr) → is_text_literal x ≡ true → (mark : Mark) (scope : List Text) → arrows x mark scope ≡ []
text_empty (Expr.Text t) h mark scope = refl
text_empty x h mark scope = absurd (false≢true h)

one_text : {m : _} (xs : Row_of-Expr m) → is_one_text (arguments_of xs) ≡ true → (mark : Mark) (scope : List Text) → all_arrows xs mark scope ≡ []
one_text end_of-Expr h mark scope = absurd (false≢true h)
one_text (more_of-Expr x end_of-Expr) h mark scope = append-nil (arrows x mark scope) ∙ text_empty x h mark scope
one_text (more_of-Expr x (more_of-Expr y rest)) h mark scope = absurd (false≢true h)

context_text : (name : Text) (arguments : List Expr) → called_kind (Some name) (With arguments true) ≡ A_context → is_one_text arguments ≡ true
context_text name arguments e = by (same_text name (codes "component$")) (same_text name (codes "createContextId")) (is_one_text arguments) (ap is_made_context e)
  where
    by : (b c d : Bool) → is_made_context (elim b [ true ↦ A_component | false ↦ elim (c && d) [ true ↦ A_context | false ↦ Else ] ]) ≡ true → d ≡ true
    by true c d e = absurd (false≢true e)
    by false true true e = refl
    by false true false e = absurd (false≢true e)
    by false false d e = absurd (false≢true e)

context_links : (name : Text) {m : _} (xs : Row_of-Link m) → called_kind (Some name) (called xs) ≡ A_context → (mark : Mark) (scope : List Text) → link_arrows xs mark scope ≡ []
context_links name (more_of-Link (Link.Call' _ xs) end_of-Link) e mark scope = append-nil (all_arrows xs mark scope) ∙ one_text xs (context_text name (arguments_of xs) e) mark scope
context_links name xs e mark scope = absurd (false≢true (ap is_made_context e))

pub context_empty : (x : Expr) → kind_of_value x ≡ A_context → (mark : Mark) (scope : List Text) → arrows x mark scope ≡ []
context_empty (Expr.Post' _ (more_of-Expr (Expr.Name name) _) _ xs) e mark scope = context_links name xs e (name_mark name) scope
context_empty x e mark scope = absurd (false≢true (ap is_made_context e))

-- ---- items

component_is : (k : Root_kind) → is_component k ≡ true → k ≡ A_component
component_is A_component h = refl
component_is A_context h = absurd (false≢true h)
component_is Else h = absurd (false≢true h)

app_kind : (app : Bool) (k : Root_kind) → (app && not (is_component k)) ≡ false → app ≡ true → k ≡ A_component
app_kind app k h a = component_is k (not-false (is_component k) (sym (ap (λ b. b && not (is_component k)) a) ∙ h))

module _ (file : Text) (roots : Text → Root_kind) where
  item_kept : (items : List Root_item) (i : Root_item) → Contains items i → Each (λ spot. placing_breaches file roots spot ≡ []) (item_spots items) → placing_breaches file roots (Item i.name i.init) ≡ []
  item_kept [] i (k, l, e) h = absurd (omega (arith, l))
  item_kept (j ∷ rest) i (zero, l, e) h = subst (λ i. placing_breaches file roots (Item i.name i.init) ≡ []) e (head h)
  item_kept (j ∷ rest) i (suc k, l, e) h = item_kept rest i (k, omega (arith, l), e) (behind (spots j.init Root_value []) (item_spots rest) (tail h))

  module _ (m : Module) (kept : all_placing_breaches file roots m ≡ []) where
    stand : Each (λ spot. placing_breaches file roots spot ≡ []) (item_spots m.items)
    stand = keeps (placing_breaches file roots) (item_spots m.items) (empty_front (flat_map (placing_breaches file roots) (item_spots m.items)) (site_breaches m) kept)

    pub item_form : (i : Root_item) → Contains m.items i → IsTrue (is_item i.init)
    item_form i c = not-false (is_item i.init) (not_refused (not (is_item i.init)) RootValue i.name
        (empty_behind (refuse_if (is_app file i.name && not (is_component (kind_of_value i.init))) NotComponent i.name) (refuse_if (not (is_item i.init)) RootValue i.name) (item_kept m.items i c stand)))

    pub app_is_component : (i : Root_item) → Contains m.items i → IsTrue (is_app file i.name) → kind_of_value i.init ≡ A_component
    app_is_component i c a = app_kind (is_app file i.name) (kind_of_value i.init)
        (not_refused (is_app file i.name && not (is_component (kind_of_value i.init))) NotComponent i.name
        (empty_front (refuse_if (is_app file i.name && not (is_component (kind_of_value i.init))) NotComponent i.name) (refuse_if (not (is_item i.init)) RootValue i.name) (item_kept m.items i c stand))) a

    pub few_sites : length (of_kind true (item_arrows m.items)) ≤ most_sites
    few_sites =
        let e = empty_behind (flat_map (placing_breaches file roots) (item_spots m.items)) (site_breaches m) kept in
        let f = not-false (nat_le (length (of_kind true (item_arrows m.items))) most_sites) (not_refused (not (nat_le (length (of_kind true (item_arrows m.items))) most_sites)) TooManySites (codes "-") e) in
        grind (arith, f)
