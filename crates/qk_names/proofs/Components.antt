-- Where no rule of places is broken, a component of the root is made of one marked arrow.
use Rattle.std.proofs.Common.{◌≡◌, refl, sym, ◌∙◌, ap, subst, arith, append-nil}
use Rattle.std.proofs.lemmas.Bool.{false≢true, not-false}
use Rattle.std.specs.Prelude.{zero, suc, ◌≤◌, nat_le, Bool, true, false, not, ◌&&◌, ◌||◌, List, [], ◌∷◌, ◌++◌, length, Some, Contains, codes, flat_map}
use Rattle.qk_ast.specs.declared.Item.{Item}
use Rattle.qk_ast.specs.declared.Module.{Module}
use Rattle.qk_ast.specs.declared.RuleKind.{RuleKind}
use Rattle.qk_ast.specs.declared.Expr.{Expr, Row_of-Expr, end_of-Expr, more_of-Expr, Row_of-Link, end_of-Link, more_of-Link, more_of-Arrow}
use Rattle.qk_ast.specs.declared.Link.{Link}
use Rattle.qk_ast.specs.declared.Pattern.{Pattern}
use Rattle.qk_ast.specs.declared.RuleKind.TheVariants.{DollarArgument}
use Rattle.qk_ast.specs.Scopes.{Scope}
use Rattle.qk_ast.specs.Texts.{Text, same_text, is_among}
use Rattle.qk_ast.specs.Arrows.{Found_arrow, Marked, Unmarked, Mark, arrows, all_arrows, link_arrows, item_arrows, name_mark}
use Rattle.qk_ast.specs.Spots.{Root_value, Standing, Called, With, spots, called, item_spots, arguments_of}
use Rattle.qk_ast.specs.Placing.{Root_kind, A_component, A_context, Else, dollar_names, has_parameters, root_use_breaches, refuse_if, kind_of_value, called_kind, is_one_text, placing_breaches, all_placing_breaches, site_breaches, is_dollar_argument, is_dollar_call_refused}
use Rattle.qk_names.specs.Inside.{inside, with_inside}
use Rattle.qk_names.specs.Handed.{handed, handed_in}
use Rattle.qk_names.specs.Laws.{DollarSite}
use Rattle.qk_names.proofs.Each.{Each, head, tail, front, behind, keeps, empty_front, empty_behind, no_item}
use Rattle.qk_names.proofs.Bits.{text_is}
use Rattle.qk_names.proofs.Members.{contains_first, of_item, among_dollars}

-- ---- kinds

abbrev is_made_component : Root_kind → Bool
is_made_component A_component = true
is_made_component _ = false

named_component : (name : Text) (arguments : List Expr) → called_kind (Some name) (With arguments true) ≡ A_component → same_text name (codes "component$") ≡ true
named_component name arguments e = by (same_text name (codes "component$")) e
  where
    other : (b : Bool) {C : Type 0} → (elim b [ true ↦ A_context | false ↦ Else ]) ≡ A_component → C
    other true e = absurd (false≢true (ap is_made_component e))
    other false e = absurd (false≢true (ap is_made_component e))

    by : (b : Bool) → (elim b [ true ↦ A_component | false ↦ elim (same_text name (codes "createContextId") && is_one_text arguments) [ true ↦ A_context | false ↦ Else ] ]) ≡ A_component → b ≡ true
    by true e = refl
    by false e = other (same_text name (codes "createContextId") && is_one_text arguments) e

-- ---- what isn't refused

pub not_refused : (b : Bool) (kind : RuleKind) (name : Text) → refuse_if b kind name ≡ [] → b ≡ false
not_refused true kind name e = no_item e
not_refused false kind name e = refl

second : {X : Type 0} (xs ys zs : List X) → xs ++ (ys ++ zs) ≡ [] → ys ≡ []
second xs ys zs e = empty_front ys zs (empty_behind xs (ys ++ zs) e)

-- a call of a dollar name that keeps the rules isn't refused
pub dollar_kept : (roots : Text → Root_kind) (name : Text) (call : Called) (standing : Standing) (scopes : List Scope) → root_use_breaches roots name call standing scopes ≡ [] → is_dollar_call_refused name call ≡ false
dollar_kept roots name call standing scopes e = not_refused (is_dollar_call_refused name call) DollarArgument name (second _ _ _ e)

-- where the name is a dollar name, it is called with the one arrow that it takes
pub taken : (name : Text) (arguments : List Expr) (whole : Bool) → is_among name dollar_names ≡ true → is_dollar_call_refused name (With arguments whole) ≡ false → is_dollar_argument name arguments ≡ true
taken name arguments whole d e = not-false (is_dollar_argument name arguments) (sym (ap (λ b. b && not (is_dollar_argument name arguments)) d) ∙ e)

-- ---- the site

record Site (x : Expr) : Type 0 where
  pub arrow : Found_arrow
  pub handed' : handed x ≡ Some arrow
  pub marked : arrow.mark ≡ Marked
  pub free : arrow.scope ≡ []
  pub parameters : length arrow.params ≤ 1
  pub whole : arrows x Unmarked [] ≡ with_inside arrow

component_among : (name : Text) → same_text name (codes "component$") ≡ true → is_among name dollar_names ≡ true
component_among name e = ap (λ b. b || is_among name (codes "$" ∷ codes "useTask$" ∷ codes "useComputed$" ∷ [])) e

component_parameters : (name : Text) (params : List Pattern) → same_text name (codes "component$") ≡ true → has_parameters name params ≡ true → length params ≤ 1
component_parameters name params e h = let f : nat_le (length params) 1 ≡ true = subst (λ n. has_parameters n params ≡ true) (text_is name (codes "component$") e) h in grind (arith, f)

-- what a call of that mark is handed
record Handed (name : Text) (call : Called) (found : List Found_arrow) (mark : Mark) : Type 0 where
  pub arrow : Found_arrow
  pub handed' : handed_in mark call ≡ Some arrow
  pub marked : arrow.mark ≡ mark
  pub free : arrow.scope ≡ []
  pub parameters : has_parameters name arrow.params ≡ true
  pub whole : found ≡ with_inside arrow

by_arguments : (name : Text) (mark : Mark) {m : _} (xs : Row_of-Expr m) → is_dollar_argument name (arguments_of xs) ≡ true → Handed name (With (arguments_of xs) true) (all_arrows xs mark []) mark
by_arguments name mark (more_of-Expr (Expr.Arrow' _ (more_of-Arrow place params body _)) end_of-Expr) h =
    let a : Found_arrow = record { place = place; scope = []; mark = mark; params = params; body = body } in
    record { arrow = a; handed' = refl; marked = refl; free = refl; parameters = h; whole = append-nil (with_inside a) }
by_arguments name mark xs h = absurd (false≢true h)

by_links : (name : Text) (mark : Mark) {m : _} (xs : Row_of-Link m) → called_kind (Some name) (called xs) ≡ A_component → is_dollar_call_refused name (called xs) ≡ false → Handed name (called xs) (link_arrows xs mark []) mark
by_links name mark (more_of-Link (Link.Call' _ xs) end_of-Link) e h =
    let a = by_arguments name mark xs (taken name (arguments_of xs) true (component_among name (named_component name (arguments_of xs) e)) h) in
    record { arrow = a.arrow; handed' = a.handed'; marked = a.marked; free = a.free; parameters = a.parameters; whole = append-nil (all_arrows xs mark []) ∙ a.whole }
by_links name mark xs e h = absurd (false≢true (ap is_made_component e))

named : (name : Text) (call : Called) → called_kind (Some name) call ≡ A_component → same_text name (codes "component$") ≡ true
named name (With arguments true) e = named_component name arguments e
named name call e = absurd (false≢true (ap is_made_component e))

module _ (file : Text) (roots : Text → Root_kind) where
  site : (x : Expr) → kind_of_value x ≡ A_component → Each (λ spot. placing_breaches file roots spot ≡ []) (spots x Root_value []) → Site x
  site (Expr.Post' _ (more_of-Expr (Expr.Name name) _) _ xs) e h =
      let n = named name (called xs) e in
      let a = by_links name (name_mark name) xs e (dollar_kept roots name (called xs) Root_value [] (head h)) in
      record {
        arrow = a.arrow;
        handed' = a.handed';
        marked = a.marked ∙ ap name_mark (text_is name (codes "component$") n);
        free = a.free;
        parameters = component_parameters name a.arrow.params n a.parameters;
        whole = a.whole;
      }
  site x e h = absurd (false≢true (ap is_made_component e))

  of_items : (items : List Item) (i : Item) → Contains items i → Each (λ spot. placing_breaches file roots spot ≡ []) (item_spots items) → Each (λ spot. placing_breaches file roots spot ≡ []) (spots i.init Root_value [])
  of_items [] i (k, l, e) h = absurd (omega (arith, l))
  of_items (j ∷ rest) i (zero, l, e) h = subst (λ i. Each (λ spot. placing_breaches file roots spot ≡ []) (spots i.init Root_value [])) e (front _ _ (tail h))
  of_items (j ∷ rest) i (suc k, l, e) h = of_items rest i (k, omega (arith, l), e) (behind _ _ (tail h))

  pub dollar_site : (m : Module) → all_placing_breaches file roots m ≡ [] → (i : Item) → Contains m.items i → kind_of_value i.init ≡ A_component → DollarSite m.items i.init
  dollar_site m kept i c e =
      let s = site i.init e (of_items m.items i c (keeps (placing_breaches file roots) (item_spots m.items) (empty_front (flat_map (placing_breaches file roots) (item_spots m.items)) (site_breaches m) kept))) in
      let listed = of_item m.items i s.arrow c (subst (λ xs. Contains xs s.arrow) (sym s.whole) (contains_first s.arrow (inside s.arrow))) in
      record {
        arrow = s.arrow;
        handed' = s.handed';
        marked = s.marked;
        around_none = s.free;
        parameters = s.parameters;
        whole = s.whole;
        listed = listed;
        among_dollars = among_dollars (item_arrows m.items) s.arrow (ap (λ mark. elim mark [ Unmarked ↦ false | _ ↦ true ]) s.marked) listed;
      }
