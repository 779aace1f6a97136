-- A module of the first shape has each of its parts.
use Rattle.std.specs.Prelude.{◌≡◌, refl, ℤ, pos, ◌≤ℤ◌, not, List, [], ◌∷◌, map, Option, Some, None, IsTrue, IsSomeAnd, codes}
use Rattle.std.specs.Str.{encode_utf8_all}
use Rattle.std.specs.Char.{encode_utf8}
use Rattle.std.proofs.Common.{ap, ◌∙◌, arith}
use Rattle.std.proofs.lemmas.Bool.{false≢true, leb-true}
use Rattle.std.proofs.lemmas.Int.{ints}
use mathlib.Core.Path.{sym, subst}
use mathlib.Core.Logic.{inl, inr}
use Rattle.qk_ast.specs.declared.Module.{Module}
use Rattle.qk_ast.specs.declared.Expr.{Expr}
use Rattle.qk_ast.specs.declared.Expr.TheVariants as e
use Rattle.qk_ast.specs.declared.Stmt.{Stmt}
use Rattle.qk_ast.specs.declared.Field.{Field}
use Rattle.qk_ast.specs.declared.Jsx.{Jsx, out-Jsx, out-roll-Jsx}
use Rattle.qk_ast.specs.Characters.{Characters, is_one_of, number_after}
use Rattle.qk_ast.specs.Grammar.{Then, Return_step, Plain_step, Markup, No_statement}
use Rattle.qk_ast.specs.Tree.{statements_tree, element_tree, attributes_tree, tag_tree}
use Rattle.qk_ast.specs.First.{First_text, First_attribute, Shape, Selfclosing, Empty, Shown, Fits, block_of, element_of, attributes_of, names_of, attribute_name, attributes_fit, first_tags, state_fits}
use Rattle.qk_meaning.specs.Value.{Text}
use Rattle.qk_first.specs.Counter.{is_shown, listener}
use Rattle.qk_first.specs.Shape.{HasFirstShape, import_of, app_of, signal_of, return_of, value_in, listener_of, AreAttributes, AreChildren, IsElement, is_signal_name, MayStand}
use Rattle.qk_first.specs.declared.shape.Signal.{Signal}
use Rattle.qk_first.specs.Kept.{name_in, SignalStands}
use Rattle.qk_first.proofs.Texts.{left, right, word, letters_bytes}
use Rattle.qk_first.proofs.Listings.{Listing, listing, nothing, id_only, click_only, id_click, click_id}
use Rattle.qk_first.proofs.Trees.{tag_is}
use Rattle.qk_first.proofs.Composed.{names_bytes, id_of, id_made, listener_made, element_in, first_statements, module_parts, with_signal, without_signal}

-- ---- the import and the item

pub imports_are : (m : Module) → (shape : HasFirstShape m) → m.imports ≡ import_of (names_of shape.text.imported) ∷ []
imports_are m shape =
    ap (λ (x : Module). x.imports) (sym shape.means ∙ module_parts shape.text)
    ∙ ap (λ (ns : List Text). import_of ns ∷ []) (names_bytes shape.text.imported (left _ _ (left _ _ shape.fits.qwik)))

pub items_are : (m : Module) → (shape : HasFirstShape m) → m.items ≡ app_of (first_statements shape.text) ∷ []
items_are m shape = ap (λ (x : Module). x.items) (sym shape.means ∙ module_parts shape.text)

-- ---- the attributes

two_are : (x y a c : Field) → a ≡ x → c ≡ y → x ∷ y ∷ [] ≡ a ∷ c ∷ []
two_are x y a c p q = ap (λ (z : Field). z ∷ y ∷ []) (sym p) ∙ ap (λ (z : Field). a ∷ z ∷ []) (sym q)

attributes_with : (name : Text) → encode_utf8_all name ≡ name → {attributes : List First_attribute} → Listing attributes → IsTrue (attributes_fit attributes) → (fields : List Field)
    → fields ≡ attributes_tree 1 (attributes_of name attributes) → AreAttributes (Some name) (id_of attributes) (listener attributes) fields
attributes_with name n nothing fit fields h = h
attributes_with name n (id_only {id = id} w) fit fields h =
    let a : Field = record { key = codes "id"; value = e.Text id } in
    (a, h ∙ ap (λ (x : Field). x ∷ []) (sym (id_made id a (left _ _ fit, refl))), (left _ _ fit, refl))
attributes_with name n (click_only {up = up}) fit fields h =
    let c : Field = record { key = codes "onClick$"; value = listener_of name up } in
    (c, h ∙ ap (λ (x : Field). x ∷ []) (sym (listener_made name n up c refl)), refl)
attributes_with name n (id_click {id = id} {up = up} w) fit fields h =
    let a : Field = record { key = codes "id"; value = e.Text id } in
    let c : Field = record { key = codes "onClick$"; value = listener_of name up } in
    (a, c, inl (h ∙ two_are _ _ a c (id_made id a (left _ _ fit, refl)) (listener_made name n up c refl)), (left _ _ fit, refl), refl)
attributes_with name n (click_id {up = up} {id = id} w) fit fields h =
    let a : Field = record { key = codes "id"; value = e.Text id } in
    let c : Field = record { key = codes "onClick$"; value = listener_of name up } in
    (a, c, inr (h ∙ two_are _ _ c a (listener_made name n up c refl) (id_made id a (left _ _ fit, refl))), (left _ _ fit, refl), refl)

attributes_without : (name : Text) → {attributes : List First_attribute} → Listing attributes → IsTrue (attributes_fit attributes) → IsTrue (not (is_one_of (codes "onClick$") (map attribute_name attributes)))
    → (fields : List Field) → fields ≡ attributes_tree 1 (attributes_of name attributes) → AreAttributes None (id_of attributes) (listener attributes) fields
attributes_without name nothing fit unheard fields h = h
attributes_without name (id_only {id = id} w) fit unheard fields h =
    let a : Field = record { key = codes "id"; value = e.Text id } in
    (a, h ∙ ap (λ (x : Field). x ∷ []) (sym (id_made id a (left _ _ fit, refl))), (left _ _ fit, refl))
attributes_without name click_only fit unheard fields h = absurd (false≢true unheard)
attributes_without name (id_click w) fit unheard fields h = absurd (false≢true unheard)
attributes_without name (click_id w) fit unheard fields h = absurd (false≢true unheard)

-- ---- the element

children_of : Shape → Text → List Expr
children_of Shown name = value_in (encode_utf8_all name) ∷ []
children_of Empty name = []
children_of Selfclosing name = []

rolled : (shape : Shape) (name tag : Characters) (attributes : List First_attribute)
    → out-Jsx (element_tree 1 (element_of shape name tag (attributes_of name attributes))) ≡ record { tag = tag_tree tag; attrs = attributes_tree 1 (attributes_of name attributes); children = children_of shape name }
unfolding children_of encode_utf8
rolled Selfclosing name tag attributes = out-roll-Jsx _
rolled Empty name tag attributes = out-roll-Jsx _
rolled Shown name tag attributes = out-roll-Jsx _

children_with : (shape : Shape) (name : Text) → encode_utf8_all name ≡ name → (children : List Expr) → children ≡ children_of shape name → AreChildren (Some name) (is_shown shape) children
unfolding children_of
children_with Selfclosing name n children h = h
children_with Empty name n children h = h
children_with Shown name n children h = h ∙ ap (λ (t : Text). value_in t ∷ []) n

children_without : (shape : Shape) (name : Text) (names : List Text) (attributes : List First_attribute) → IsTrue (state_fits None names attributes shape)
    → (children : List Expr) → children ≡ children_of shape name → AreChildren None (is_shown shape) children
unfolding children_of
children_without Selfclosing name names attributes fit children h = h
children_without Empty name names attributes fit children h = h
children_without Shown name names attributes fit children h = absurd (false≢true fit)

unheard : (shape : Shape) (names : List Text) (attributes : List First_attribute) → IsTrue (state_fits None names attributes shape) → IsTrue (not (is_one_of (codes "onClick$") (map attribute_name attributes)))
unheard Selfclosing names attributes fit = fit
unheard Empty names attributes fit = fit
unheard Shown names attributes fit = absurd (false≢true fit)

-- the name of the signal, where there is one
abbrev pub name_if : Option Characters → Text → Option Text
name_if None name = None
name_if (Some digits) name = Some name

element_by : (initial : Option Characters) (shape : Shape) (name tag : Characters) (names : List Text) (attributes : List First_attribute) → encode_utf8_all name ≡ name → IsTrue (is_one_of tag first_tags)
    → Listing attributes → IsTrue (attributes_fit attributes) → IsTrue (state_fits initial names attributes shape)
    → IsElement (name_if initial name) tag (id_of attributes) (listener attributes) (is_shown shape) (element_tree 1 (element_of shape name tag (attributes_of name attributes)))
element_by (Some digits) shape name tag names attributes n known listed fit state = record {
  tagged = ap (λ o. o.tag) (rolled shape name tag attributes) ∙ tag_is tag known;
  known = known;
  attributes = attributes_with name n listed fit _ (ap (λ o. o.attrs) (rolled shape name tag attributes));
  children = children_with shape name n _ (ap (λ o. o.children) (rolled shape name tag attributes));
}
element_by None shape name tag names attributes n known listed fit state = record {
  tagged = ap (λ o. o.tag) (rolled shape name tag attributes) ∙ tag_is tag known;
  known = known;
  attributes = attributes_without name listed fit (unheard shape names attributes state) _ (ap (λ o. o.attrs) (rolled shape name tag attributes));
  children = children_without shape name names attributes state _ (ap (λ o. o.children) (rolled shape name tag attributes));
}

own_bytes : (f : First_text) → Fits f → encode_utf8_all f.name ≡ f.name
own_bytes f fits = letters_bytes f.name (word f.name (left _ _ (left _ _ fits.named))).letters

element_is : (f : First_text) → Fits f → IsElement (name_if f.initial f.name) f.tag (id_of f.attributes) (listener f.attributes) (is_shown f.shape) (element_tree 1 (element_in f))
element_is f fits = element_by f.initial f.shape f.name f.tag (names_of f.imported) f.attributes (own_bytes f fits) fits.tagged (listing f.attributes fits.attributed) (left _ _ fits.attributed) fits.state

-- ---- the statements

-- some statements of the first form are of neither kind only where there are none
pub of_a_kind : (f : First_text) (statements : List Stmt) (R : Type 0) → statements ≡ first_statements f
    → ((name : Text) (n : ℤ) (j : Jsx) → statements ≡ signal_of name n ∷ return_of j ∷ [] → R) → ((j : Jsx) → statements ≡ return_of j ∷ [] → R) → R
of_a_kind f statements R is stateful stateless = go f.initial is
  where
    go : (initial : Option Characters) → statements ≡ statements_tree 1 (block_of initial f.name (Then (Return_step (Plain_step (Markup (element_in f)))) No_statement)) → R
    go (Some digits) e = stateful _ _ _ (e ∙ with_signal digits f.name (element_in f))
    go None e = stateless _ (e ∙ without_signal f.name (element_in f))

-- what is told of the signal and the element
pub record Told (f : First_text) (signal : Option Signal) (jsx : Jsx) : Type 0 where
  pub named : name_in signal ≡ name_if f.initial f.name
  pub stands : SignalStands (names_of f.imported) signal
  pub element : jsx ≡ element_tree 1 (element_in f)

may_stand : (digits name : Characters) (names : List Text) (attributes : List First_attribute) (shape : Shape) → IsTrue (is_signal_name name) → IsTrue (state_fits (Some digits) names attributes shape)
    → (s : Signal) → s.name.now ≡ name → s.initial ≡ pos (number_after 10 0 digits) → MayStand names s.name.now s.initial
may_stand digits name names attributes shape named fit s n v =
    let small = leb-true (number_after 10 0 digits) 1000000 (left _ _ fit) in
    record {
      named = subst (λ t. IsTrue (is_signal_name t)) (sym n) named;
      imported = right _ _ fit;
      from = subst (λ z. pos 0 ≤ℤ z) (sym v) (omega (arith, ints));
      to = subst (λ z. z ≤ℤ pos 1000000) (sym v) (omega (arith, ints, small));
    }

some_is : (f : First_text) (fits : Fits f) (digits : Characters) → f.initial ≡ Some digits → (signal : Option Signal)
    → IsSomeAnd signal (λ s. (s.name.now ≡ encode_utf8_all f.name) × (s.initial ≡ pos (number_after 10 0 digits)))
    → (name_in signal ≡ Some f.name) × SignalStands (names_of f.imported) signal
some_is f fits digits at (Some s) h =
    let n = h.0 ∙ own_bytes f fits in
    (ap Some n, may_stand digits f.name (names_of f.imported) f.attributes f.shape fits.named (subst (λ i. IsTrue (state_fits i (names_of f.imported) f.attributes f.shape)) at fits.state) s n h.1)
some_is f fits digits at None h = absurd h

pub told : (f : First_text) → Fits f → (signal : Option Signal) (jsx : Jsx) (statements : List Stmt) → statements ≡ first_statements f
    → ((name : Text) (n : ℤ) (j : Jsx) → statements ≡ signal_of name n ∷ return_of j ∷ [] → IsSomeAnd signal (λ s. (s.name.now ≡ name) × (s.initial ≡ n)) × (jsx ≡ j))
    → ((j : Jsx) → statements ≡ return_of j ∷ [] → (signal ≡ None) × (jsx ≡ j)) → Told f signal jsx
told f fits signal jsx statements is stateful stateless = go f.initial refl
  where
    go : (initial : Option Characters) → f.initial ≡ initial → Told f signal jsx
    go (Some digits) at =
        let r = stateful _ _ _ (is ∙ (ap (λ i. statements_tree 1 (block_of i f.name (Then (Return_step (Plain_step (Markup (element_in f)))) No_statement))) at ∙ with_signal digits f.name (element_in f))) in
        let s = some_is f fits digits at signal r.0 in
        record { named = s.0 ∙ ap (λ i. name_if i f.name) (sym at); stands = s.1; element = r.1 }
    go None at =
        let r = stateless _ (is ∙ (ap (λ i. statements_tree 1 (block_of i f.name (Then (Return_step (Plain_step (Markup (element_in f)))) No_statement))) at ∙ without_signal f.name (element_in f))) in
        record { named = ap name_in r.0 ∙ ap (λ i. name_if i f.name) (sym at); stands = subst (λ s. SignalStands (names_of f.imported) s) (sym r.0) tt; element = r.1 }

pub told_element : (f : First_text) → Fits f → (signal : Option Signal) (jsx : Jsx) → Told f signal jsx → IsElement (name_in signal) f.tag (id_of f.attributes) (listener f.attributes) (is_shown f.shape) jsx
told_element f fits signal jsx t =
    subst (λ n. IsElement n f.tag (id_of f.attributes) (listener f.attributes) (is_shown f.shape) jsx) (sym t.named)
    (subst (λ j. IsElement (name_if f.initial f.name) f.tag (id_of f.attributes) (listener f.attributes) (is_shown f.shape) j) (sym t.element) (element_is f fits))
