-- A module that has the parts of the first shape is that of a text of the first form.
use Rattle.std.specs.Prelude.{◌≡◌, refl, ℕ, ◌≤◌, ℤ, pos, negsuc, ◌≤ℤ◌, Bool, true, false, not, ◌&&◌, List, [], ◌∷◌, ◌++◌, map, Option, Some, None, IsTrue, codes}
use Rattle.std.specs.Str.{encode_utf8_all}
use Rattle.std.specs.Char.{encode_utf8}
use Rattle.std.specs.Option.{option_copied}
use Rattle.std.proofs.Common.{ap, ◌∙◌, arith}
use Rattle.std.proofs.lemmas.Bool.{false≢true, le-leb}
use Rattle.std.proofs.lemmas.Int.{ints}
use mathlib.Core.Path.{sym, subst}
use mathlib.Core.Logic.{inl, inr}
use lib.Signed.{mag}
use Rattle.qk_ast.specs.declared.Module.{Module}
use Rattle.qk_ast.specs.declared.Import.{Import}
use Rattle.qk_ast.specs.declared.Item.{Item}
use Rattle.qk_ast.specs.declared.Expr.{Expr}
use Rattle.qk_ast.specs.declared.Expr.TheVariants as e
use Rattle.qk_ast.specs.declared.Link.TheVariants as l
use Rattle.qk_ast.specs.declared.Body.TheVariants as b
use Rattle.qk_ast.specs.declared.Stmt.{Stmt}
use Rattle.qk_ast.specs.declared.Tag.{Tag}
use Rattle.qk_ast.specs.declared.Field.{Field}
use Rattle.qk_ast.specs.declared.Jsx.{Jsx, out-Jsx, roll-Jsx, roll-out-Jsx}
use Rattle.qk_ast.specs.Characters.{Characters, is_one_of, number_after}
use Rattle.qk_ast.specs.Grammar.{Names, Last_name, Last_comma, Next_name, Element, Then, Return_step, Plain_step, Markup, No_statement}
use Rattle.qk_ast.specs.First.{is_distinct}
use Rattle.qk_ast.specs.JsxText.{decoded}
use Rattle.qk_ast.specs.Tree.{module_tree, names_tree, statements_tree, element_tree, attributes_tree, tag_tree}
use Rattle.qk_ast.specs.First.{First_text, First_attribute, Id, On_click, Shape, Empty, Shown, Fits, module_of, block_of, element_of, attributes_of, names_of, are_qwik_names, qwik_names, attribute_name, attributes_fit}
use Rattle.qk_meaning.specs.Value.{Text}
use Rattle.qk_ast.specs.Texts.{digits_before}
use Rattle.qk_first.specs.Counter.{Counter, is_shown, listener, first_output}
use Rattle.qk_first.specs.Shape.{import_of, app_of, signal_of, return_of, value_in, listener_of, IsId, IsListener, AreAttributes, AreChildren, IsElement, is_import, MayStand}
use Rattle.qk_first.specs.declared.shape.Counter.{Counter as Kept}
use Rattle.qk_first.specs.declared.shape.Signal.{Signal}
use Rattle.qk_first.specs.Kept.{id_among, listener_among, PlaysAs, IsCounterOf, name_in, initial_in, statements_in, SignalStands}
use Rattle.qk_first.proofs.Texts.{left, right, both, among, word, IsWord, letters_bytes, letters_decoded}
use Rattle.qk_first.proofs.Listings.{Listing, listing, nothing, id_only, click_only, id_click, click_id}
use Rattle.qk_first.proofs.Trees.{tag_is}
use Rattle.qk_first.proofs.Alike.{Alike, alike_output}
use Rattle.qk_first.proofs.Digits.{digits_read}

-- ---- the import

qwik_bytes : (a : Characters) → IsTrue (is_one_of a qwik_names) → encode_utf8_all a ≡ a
unfolding encode_utf8
qwik_bytes a h = among (λ a. encode_utf8_all a ≡ a) a qwik_names h (refl, (refl, (refl, (refl, (refl, (refl, (refl, (refl, (refl, (refl, (refl, tt)))))))))))

pub names_bytes : (names : Names) → IsTrue (are_qwik_names (names_of names)) → names_tree names ≡ names_of names
names_bytes (Last_name a) h = ap (λ x. x ∷ []) (qwik_bytes a (left (is_one_of a qwik_names) _ h))
names_bytes (Last_comma a) h = ap (λ x. x ∷ []) (qwik_bytes a (left (is_one_of a qwik_names) _ h))
names_bytes (Next_name a more) h =
    ap (λ x. x ∷ names_tree more) (qwik_bytes a (left (is_one_of a qwik_names) _ h)) ∙ ap (λ xs. a ∷ xs) (names_bytes more (right (is_one_of a qwik_names) _ h))

names_from : Text → List Text → Names
names_from a [] = Last_name a
names_from a (b ∷ more) = Next_name a (names_from b more)

from_is : (a : Text) (more : List Text) → names_of (names_from a more) ≡ a ∷ more
unfolding names_from
from_is a [] = refl
from_is a (b ∷ more) = ap (λ xs. a ∷ xs) (from_is b more)

record Imported (names : List Text) : Type 0 where
  written : Names
  same : names_of written ≡ names

imported : (names : List Text) → IsTrue (is_import names) → Imported names
imported [] h = absurd (false≢true h)
imported (a ∷ more) h = record { written = names_from a more; same = from_is a more }

imported_tree : {names : List Text} → (i : Imported names) → IsTrue (is_import names) → names_tree i.written ≡ names
imported_tree {names} i h =
    let k : IsTrue (are_qwik_names names) = left _ _ (left _ _ h) in
    names_bytes i.written (subst (λ ns. IsTrue (are_qwik_names ns)) (sym i.same) k) ∙ i.same

-- ---- the attributes

abbrev pub id_of : List First_attribute → Option Text
id_of [] = None
id_of (Id id ∷ more) = Some id
id_of (On_click up ∷ more) = id_of more

text_is : (id : Characters) → IsWord id → encode_utf8_all (decoded id) ≡ id
text_is id w = ap encode_utf8_all (letters_decoded id w.letters) ∙ letters_bytes id w.letters

record Written (name : Text) (id : Option Text) (up : Option Bool) (fields : List Field) : Type 0 where
  attributes : List First_attribute
  fits : IsTrue (attributes_fit attributes && is_distinct (map attribute_name attributes))
  same_id : id_of attributes ≡ id
  same_listener : listener attributes ≡ up
  made : fields ≡ attributes_tree 1 (attributes_of name attributes)

pub id_made : (id : Text) (a : Field) → IsId id a → a ≡ record { key = encode_utf8_all (codes "id"); value = e.Text (encode_utf8_all (decoded id)) }
unfolding encode_utf8
id_made id a h = h.1 ∙ ap (λ (t : Text). record { key = codes "id"; value = e.Text t }) (sym (text_is id (word id h.0)))

pub listener_made : (name : Text) → encode_utf8_all name ≡ name → (up : Bool) (c : Field) → IsListener (Some name) up c
    → c ≡ record { key = encode_utf8_all (codes "onClick$"); value = e.Arrow (record { place = 1; params = []; body = b.Value (e.Step up (e.Post (e.Name (encode_utf8_all name)) (l.Prop (encode_utf8_all (codes "value")) ∷ []))) }) }
unfolding encode_utf8
listener_made name n up c h = h ∙ ap (λ (t : Text). record { key = codes "onClick$"; value = listener_of t up }) (sym n)

two_are : (fields : List Field) (a c x y : Field) → fields ≡ a ∷ c ∷ [] → a ≡ x → c ≡ y → fields ≡ x ∷ y ∷ []
two_are fields a c x y e p q = e ∙ (ap (λ (z : Field). z ∷ c ∷ []) p ∙ ap (λ (z : Field). x ∷ z ∷ []) q)

written : (name : Text) → encode_utf8_all name ≡ name → (id : Option Text) (up : Option Bool) (fields : List Field) → AreAttributes (Some name) id up fields → Written name id up fields
written name n None None fields h = record { attributes = []; fits = refl; same_id = refl; same_listener = refl; made = h }
written name n (Some id) None fields h = record {
  attributes = Id id ∷ [];
  fits = both _ _ (both _ _ h.2.0 refl) refl;
  same_id = refl;
  same_listener = refl;
  made = h.1 ∙ ap (λ (x : Field). x ∷ []) (id_made id h.0 h.2);
}
written name n None (Some up) fields h = record {
  attributes = On_click up ∷ [];
  fits = refl;
  same_id = refl;
  same_listener = refl;
  made = h.1 ∙ ap (λ (x : Field). x ∷ []) (listener_made name n up h.0 h.2);
}
written name n (Some id) (Some up) fields h = elim h.2 [
  | inl e ↦ record {
    attributes = Id id ∷ On_click up ∷ [];
    fits = both _ _ (both _ _ h.3.0 refl) refl;
    same_id = refl;
    same_listener = refl;
    made = two_are fields h.0 h.1 _ _ e (id_made id h.0 h.3) (listener_made name n up h.1 h.4);
  }
  | inr e ↦ record {
    attributes = On_click up ∷ Id id ∷ [];
    fits = both _ _ (both _ _ h.3.0 refl) refl;
    same_id = refl;
    same_listener = refl;
    made = two_are fields h.1 h.0 _ _ e (listener_made name n up h.1 h.4) (id_made id h.0 h.3);
  }
]

-- ---- the element

shape_of : Bool → Shape
shape_of true = Shown
shape_of false = Empty

shown_is : (shows : Bool) → is_shown (shape_of shows) ≡ shows
unfolding shape_of
shown_is true = refl
shown_is false = refl

jsx_is : (jsx : Jsx) (tag : Tag) (fields : List Field) (children : List Expr) → (out-Jsx jsx).tag ≡ tag → (out-Jsx jsx).attrs ≡ fields → (out-Jsx jsx).children ≡ children
    → jsx ≡ roll-Jsx (record { tag = tag; attrs = fields; children = children })
jsx_is jsx tag fields children tagged attributed inside =
    sym (roll-out-Jsx jsx)
    ∙ (ap (λ (x : Tag). roll-Jsx (record { tag = x; attrs = (out-Jsx jsx).attrs; children = (out-Jsx jsx).children })) tagged
    ∙ (ap (λ (x : List Field). roll-Jsx (record { tag = tag; attrs = x; children = (out-Jsx jsx).children })) attributed
    ∙ ap (λ (x : List Expr). roll-Jsx (record { tag = tag; attrs = fields; children = x })) inside))

element_empty : (name tag : Text) → encode_utf8_all name ≡ name → (id : Option Text) (up : Option Bool) (jsx : Jsx) → IsElement (Some name) tag id up false jsx
    → (w : Written name id up (out-Jsx jsx).attrs) → jsx ≡ element_tree 1 (element_of Empty name tag (attributes_of name w.attributes))
element_empty name tag n id up jsx h w = jsx_is jsx (tag_tree tag) (attributes_tree 1 (attributes_of name w.attributes)) [] (h.tagged ∙ sym (tag_is tag h.known)) w.made h.children

element_made : (name tag : Text) → encode_utf8_all name ≡ name → (id : Option Text) (up : Option Bool) (shows : Bool) (jsx : Jsx) → IsElement (Some name) tag id up shows jsx
    → (w : Written name id up (out-Jsx jsx).attrs) → jsx ≡ element_tree 1 (element_of (shape_of shows) name tag (attributes_of name w.attributes))
unfolding shape_of encode_utf8
element_made name tag n id up false jsx h w = element_empty name tag n id up jsx h w
element_made name tag n id up true jsx h w =
    jsx_is jsx (tag_tree tag) (attributes_tree 1 (attributes_of name w.attributes)) (value_in (encode_utf8_all name) ∷ []) (h.tagged ∙ sym (tag_is tag h.known)) w.made
    (h.children ∙ ap (λ (t : Text). value_in t ∷ []) (sym n))

-- where there is no signal, the element would be the same under one that it doesn't use
record Unused (name : Text) (tag : Text) (id : Option Text) (up : Option Bool) (shows : Bool) (jsx : Jsx) : Type 0 where
  element : IsElement (Some name) tag id up shows jsx
  unheard : up ≡ None
  unshown : shows ≡ false

attributes_unused : (name : Text) (id : Option Text) (up : Option Bool) (fields : List Field) → AreAttributes None id up fields → AreAttributes (Some name) id up fields × (up ≡ None)
attributes_unused name None None fields h = (h, refl)
attributes_unused name (Some id) None fields h = (h, refl)
attributes_unused name None (Some up) fields h = absurd h.2
attributes_unused name (Some id) (Some up) fields h = absurd h.4

children_unused : (name : Text) (shows : Bool) (children : List Expr) → AreChildren None shows children → AreChildren (Some name) shows children × (shows ≡ false)
children_unused name false children h = (h, refl)
children_unused name true children h = absurd h

unused : (name tag : Text) (id : Option Text) (up : Option Bool) (shows : Bool) (jsx : Jsx) → IsElement None tag id up shows jsx → Unused name tag id up shows jsx
unused name tag id up shows jsx h =
    let a = attributes_unused name id up (out-Jsx jsx).attrs h.attributes in
    let c = children_unused name shows (out-Jsx jsx).children h.children in
    record { element = record { tagged = h.tagged; known = h.known; attributes = a.0; children = c.0 }; unheard = a.1; unshown = c.1 }

-- ---- the module

abbrev pub element_in : First_text → Element
element_in f = element_of f.shape f.name f.tag (attributes_of f.name f.attributes)

abbrev pub first_statements : First_text → List Stmt
first_statements f = statements_tree 1 (block_of f.initial f.name (Then (Return_step (Plain_step (Markup (element_in f)))) No_statement))

pub module_parts : (f : First_text) → module_tree (module_of f) ≡ record { imports = import_of (names_tree f.imported) ∷ []; items = app_of (first_statements f) ∷ [] }
unfolding encode_utf8
module_parts f = refl

-- the statements, by the signal
pub with_signal : (digits name : Characters) (element : Element)
    → statements_tree 1 (block_of (Some digits) name (Then (Return_step (Plain_step (Markup element))) No_statement)) ≡ signal_of (encode_utf8_all name) (pos (number_after 10 0 digits)) ∷ return_of (element_tree 1 element) ∷ []
unfolding encode_utf8
with_signal digits name element = refl

pub without_signal : (name : Characters) (element : Element) → statements_tree 1 (block_of None name (Then (Return_step (Plain_step (Markup element))) No_statement)) ≡ return_of (element_tree 1 element) ∷ []
without_signal name element = refl

module_from : (f : First_text) (m : Module) (names : List Text) (statements : List Stmt) → m.imports ≡ import_of names ∷ [] → m.items ≡ app_of statements ∷ []
    → names_tree f.imported ≡ names → first_statements f ≡ statements → module_tree (module_of f) ≡ m
module_from f m names statements imports items named stated =
    module_parts f
    ∙ (ap (λ (ns : List Text). record { imports = import_of ns ∷ []; items = app_of (first_statements f) ∷ [] }) named
    ∙ (ap (λ (ss : List Stmt). record { imports = import_of names ∷ []; items = app_of ss ∷ [] }) stated
    ∙ (ap (λ (i : List Import). record { imports = i; items = app_of statements ∷ [] }) (sym imports)
    ∙ ap (λ (i : List Item). record { imports = m.imports; items = i }) (sym items))))

-- ---- the counter

abbrev counter_from : Text → Option Text → Option Bool → ℤ → Bool → Counter
counter_from tag id up initial shows = record { tag = tag; attributes = id_among id ++ listener_among up; initial = initial; shows = shows }

alike : (tag : Text) (initial : ℤ) (shows : Bool) {attributes : List First_attribute} → Listing attributes
    → Alike (counter_from tag (id_of attributes) (listener attributes) initial shows) (record { tag = tag; attributes = attributes; initial = initial; shows = shows })
alike tag initial shows nothing = record { hear = λ e. refl; show = λ n. refl; start = refl }
alike tag initial shows (id_only w) = record { hear = λ e. refl; show = λ n. refl; start = refl }
alike tag initial shows click_only = record { hear = λ e. refl; show = λ n. refl; start = refl }
alike tag initial shows (id_click w) = record { hear = λ e. refl; show = λ n. refl; start = refl }
alike tag initial shows (click_id w) = record { hear = λ e. refl; show = λ n. refl; start = refl }

plays : (kept : Kept) (attributes : List First_attribute) (initial : ℤ) (shows : Bool) → Listing attributes → id_of attributes ≡ option_copied kept.id → listener attributes ≡ kept.counts_up
    → kept.initial ≡ initial → kept.shows ≡ shows → mag initial ≤ 1000000 → PlaysAs kept (record { tag = kept.tag.now; attributes = attributes; initial = initial; shows = shows })
plays kept attributes initial shows listed id up first shown small = record {
  printed = λ events.
      ap (λ c. first_output c events) (ap (λ x. counter_from kept.tag.now x kept.counts_up kept.initial kept.shows) (sym id) ∙ (ap (λ x. counter_from kept.tag.now (id_of attributes) x kept.initial kept.shows) (sym up)
      ∙ (ap (λ x. counter_from kept.tag.now (id_of attributes) (listener attributes) x kept.shows) first ∙ ap (λ x. counter_from kept.tag.now (id_of attributes) (listener attributes) initial x) shown)))
      ∙ alike_output _ _ (alike kept.tag.now initial shows listed) events;
  small = subst (λ i. mag i ≤ 1000000) (sym first) small;
}

small_value : (z : ℤ) → pos 0 ≤ℤ z → z ≤ℤ pos 1000000 → (n : ℕ) × (z ≡ pos n) × (n ≤ 1000000)
small_value (pos n) low high = (n, refl, omega (arith, ints))
small_value (negsuc n) low high = absurd (omega (arith, ints))

unheard_names : {attributes : List First_attribute} → Listing attributes → listener attributes ≡ None → IsTrue (not (is_one_of (codes "onClick$") (map attribute_name attributes)))
unheard_names nothing h = refl
unheard_names (id_only w) h = refl
unheard_names click_only h = cc
unheard_names (id_click w) h = cc
unheard_names (click_id w) h = cc

module _ (m : Module) (names : List Text) (jsx : Jsx) (kept : Kept) (imports : m.imports ≡ import_of names ∷ []) (h : IsTrue (is_import names)) where
  composed_by : (s : Signal) (digits : Characters) → pos (number_after 10 0 digits) ≡ s.initial → number_after 10 0 digits ≤ 1000000
      → m.items ≡ app_of (statements_in (Some s) jsx) ∷ [] → MayStand names s.name.now s.initial
      → IsElement (Some s.name.now) kept.tag.now (option_copied kept.id) kept.counts_up kept.shows jsx → kept.initial ≡ s.initial → IsCounterOf kept m
  composed_by s digits value small items stands el first =
      let n = letters_bytes s.name.now (word s.name.now (left _ _ (left _ _ stands.named))).letters in
      let a = written s.name.now n (option_copied kept.id) kept.counts_up (out-Jsx jsx).attrs el.attributes in
      let i = imported names h in
      let f : First_text = record { imported = i.written; name = s.name.now; initial = Some digits; tag = kept.tag.now; attributes = a.attributes; shape = shape_of kept.shows } in
      let fits : Fits f = record {
        qwik = subst (λ ns. IsTrue (is_import ns)) (sym i.same) h;
        named = stands.named;
        tagged = el.known;
        attributed = a.fits;
        state = both _ _ (le-leb (number_after 10 0 digits) 1000000 small) (subst (λ ns. IsTrue (is_one_of (codes "useSignal") ns)) (sym i.same) stands.imported);
      } in
      let made = element_made s.name.now kept.tag.now n (option_copied kept.id) kept.counts_up kept.shows jsx el a in
      let stated : first_statements f ≡ statements_in (Some s) jsx =
      with_signal digits s.name.now (element_in f)
      ∙ (ap (λ (t : Text). signal_of t (pos (number_after 10 0 digits)) ∷ return_of (element_tree 1 (element_in f)) ∷ []) n
      ∙ (ap (λ (z : ℤ). signal_of s.name.now z ∷ return_of (element_tree 1 (element_in f)) ∷ []) value
      ∙ ap (λ (j : Jsx). signal_of s.name.now s.initial ∷ return_of j ∷ []) (sym made))) in
      record {
        shape = record { text = f; fits = fits; means = module_from f m names (statements_in (Some s) jsx) imports items (imported_tree i h) stated };
        plays = plays kept a.attributes (pos (number_after 10 0 digits)) (is_shown (shape_of kept.shows)) (listing a.attributes a.fits) a.same_id a.same_listener (first ∙ sym value) (sym (shown_is kept.shows)) small;
      }

  composed_with : (s : Signal) → m.items ≡ app_of (statements_in (Some s) jsx) ∷ [] → MayStand names s.name.now s.initial
      → IsElement (Some s.name.now) kept.tag.now (option_copied kept.id) kept.counts_up kept.shows jsx → kept.initial ≡ s.initial → IsCounterOf kept m
  composed_with s items stands el first =
      let v = small_value s.initial stands.from stands.to in
      let d : number_after 10 0 (digits_before 7 v.0 []) ≡ v.0 = digits_read 7 v.0 [] (omega (arith, v.2)) in
      composed_by s (digits_before 7 v.0 []) (ap pos d ∙ sym v.1) (subst (λ k. k ≤ 1000000) (sym d) v.2) items stands el first

  composed_without : m.items ≡ app_of (statements_in None jsx) ∷ [] → IsElement None kept.tag.now (option_copied kept.id) kept.counts_up kept.shows jsx → kept.initial ≡ pos 0 → IsCounterOf kept m
  unfolding encode_utf8
  composed_without items bare first =
      let u = unused (codes "n") kept.tag.now (option_copied kept.id) kept.counts_up kept.shows jsx bare in
      let el = subst (λ s. IsElement (Some (codes "n")) kept.tag.now (option_copied kept.id) kept.counts_up s jsx) u.unshown u.element in
      let a = written (codes "n") refl (option_copied kept.id) kept.counts_up (out-Jsx jsx).attrs el.attributes in
      let i = imported names h in
      let l = listing a.attributes a.fits in
      let f : First_text = record { imported = i.written; name = codes "n"; initial = None; tag = kept.tag.now; attributes = a.attributes; shape = Empty } in
      let fits : Fits f = record {
        qwik = subst (λ ns. IsTrue (is_import ns)) (sym i.same) h;
        named = refl;
        tagged = el.known;
        attributed = a.fits;
        state = unheard_names l (a.same_listener ∙ u.unheard);
      } in
      let made : jsx ≡ element_tree 1 (element_in f) = element_empty (codes "n") kept.tag.now refl (option_copied kept.id) kept.counts_up jsx el a in
      record {
        shape = record { text = f; fits = fits; means = module_from f m names (statements_in None jsx) imports items (imported_tree i h) (without_signal (codes "n") (element_in f) ∙ ap (λ (j : Jsx). return_of j ∷ []) (sym made)) };
        plays = plays kept a.attributes (pos 0) false l a.same_id a.same_listener first u.unshown (omega arith);
      }

  pub composed : (signal : Option Signal) → m.items ≡ app_of (statements_in signal jsx) ∷ [] → SignalStands names signal
      → IsElement (name_in signal) kept.tag.now (option_copied kept.id) kept.counts_up kept.shows jsx → kept.initial ≡ initial_in signal → IsCounterOf kept m
  composed (Some s) = composed_with s
  composed None = λ items stands. composed_without items
