-- The HTML of the element is what the counter prints, and it is within the limits.
use Rattle.std.specs.Prelude.{◌≡◌, refl, ◌≤◌, ℤ, Bool, true, false, ◌&&◌, nat_le, List, [], ◌∷◌, ◌++◌, length, Option, Some, None, IsTrue, codes}
use Rattle.std.specs.List.{list_any}
use Rattle.std.proofs.Common.{ap, ◌∙◌, arith, append-nil}
use Rattle.std.proofs.lemmas.List.{length-append}
use Rattle.std.proofs.lemmas.Bool.{le-leb}
use Rattle.qk_ast.specs.Characters.{Characters, is_one_of, every, is_small_letter}
use Rattle.qk_ast.specs.First.{First_attribute, first_tags}
use Rattle.qk_meaning.specs.Value.{Text, Value, Ref, Closure, Fields, end, field}
use Rattle.qk_ast.specs.Texts.{same_text}
use Rattle.qk_meaning.specs.Texts.{integer_text}
use Rattle.qk_meaning.specs.Expansion.{Tagged, Inside, Nodes, no_nodes, node, joined, text_nodes}
use Rattle.qk_meaning.specs.Html as Html
use Rattle.qk_ast.specs.Framework.{void_tags}
use Rattle.qk_meaning.specs.Html.{written, text_char, html, nodes_count, closed}
use Rattle.qk_meaning.specs.Tree as Found
use Rattle.qk_meaning.specs.Tree.{heard_by, listener_among, first_with, shows_id, names_event}
use Rattle.qk_meaning.specs.Parts.{or_else}
use Rattle.qk_meaning.specs.Item.{Event, html_within_limits}
use Rattle.qk_meaning.specs.Doing.{Gives, chosen, give, fault}
use Rattle.qk_meaning.specs.Running.{Running}
use Rattle.qk_meaning.specs.Fault.{TreeTooLarge, HtmlTooLong}
use Rattle.qk_first.specs.Counter.{Counter, has_id, clicks_it, attributes_html, shown_number, first_html}
use Rattle.qk_first.proofs.Words.{listener_site}
use Rattle.qk_first.proofs.Texts.{among, IsWord}
use Rattle.qk_first.proofs.Listings.{Listing, nothing, id_only, click_only, id_click, click_id, has_listener}
use Rattle.qk_first.proofs.Plain.{plain_letters, number_plain, number_short, written_text, written_attribute, is_printed, printed_plain, every_append}
use Rattle.qk_first.proofs.Component.{attribute_fields}
use Rattle.qk_first.proofs.Passes.{child_nodes}

-- what holds of the three tags
pub record IsTag (tag : Characters) : Type 0 where
  pub closes : list_any (same_text tag) void_tags ≡ false
  pub letters : IsTrue (every is_small_letter tag)
  pub short : length tag ≤ 6

pub tag_holds : (tag : Characters) → IsTrue (is_one_of tag first_tags) → IsTag tag
tag_holds tag h = among IsTag tag first_tags h (record { closes = refl; letters = refl; short = omega arith }, (record { closes = refl; letters = refl; short = omega arith }, (record { closes = refl; letters = refl; short = omega arith }, tt)))

-- ---- the children

text_html : (t : Text) → html (joined (text_nodes t) no_nodes) ≡ written text_char t
text_html [] = refl
text_html (c ∷ cs) = append-nil (written text_char (c ∷ cs))

text_count : (t : Text) → nodes_count (joined (text_nodes t) no_nodes) ≤ 1
text_count [] = omega arith
text_count (c ∷ cs) = omega arith

child_count : (shows : Bool) (v : ℤ) → nodes_count (child_nodes shows v) ≤ 1
child_count true v = text_count (integer_text v)
child_count false v = omega arith

child_html : (shows : Bool) (v : ℤ) → html (child_nodes shows v) ≡ elim shows [ true ↦ integer_text v | false ↦ [] ]
child_html true v = text_html (integer_text v) ∙ written_text (integer_text v) (number_plain v)
child_html false v = refl

-- ---- the attributes

attribute_is : (id : Text) → IsWord id → written Html.attribute_char id ≡ id
attribute_is id w = written_attribute id (plain_letters id w.letters)

fields_html : (n : Text) {attributes : List First_attribute} → Listing attributes → Html.attributes_html (attribute_fields n attributes) ≡ attributes_html attributes
fields_html n nothing = refl
fields_html n (id_only {id = id} w) = ap (λ (t : Text). (codes " id=\"" ++ (t ++ codes "\"")) ++ []) (attribute_is id w)
fields_html n click_only = refl
fields_html n (id_click {id = id} w) = ap (λ (t : Text). (codes " id=\"" ++ (t ++ codes "\"")) ++ []) (attribute_is id w)
fields_html n (click_id {id = id} w) = ap (λ (t : Text). (codes " id=\"" ++ (t ++ codes "\"")) ++ []) (attribute_is id w)

short_id : (id : Text) → length id ≤ 8 → length ((codes " id=\"" ++ (id ++ codes "\"")) ++ []) ≤ 14
short_id id h = simp length-append (omega arith)

printed_id : (id : Text) → IsWord id → every is_printed ((codes " id=\"" ++ (id ++ codes "\"")) ++ []) ≡ true
printed_id id w = every_append is_printed (codes " id=\"" ++ (id ++ codes "\"")) [] (every_append is_printed id (codes "\"") (printed_plain id (plain_letters id w.letters)) refl) refl

attributes_short : {attributes : List First_attribute} → Listing attributes → length (attributes_html attributes) ≤ 14
attributes_short nothing = omega arith
attributes_short (id_only {id = id} w) = short_id id w.short
attributes_short click_only = omega arith
attributes_short (id_click {id = id} w) = short_id id w.short
attributes_short (click_id {id = id} w) = short_id id w.short

attributes_printed : {attributes : List First_attribute} → Listing attributes → every is_printed (attributes_html attributes) ≡ true
attributes_printed nothing = refl
attributes_printed (id_only {id = id} w) = printed_id id w
attributes_printed click_only = refl
attributes_printed (id_click {id = id} w) = printed_id id w
attributes_printed (click_id {id = id} w) = printed_id id w

abbrev number_if : Bool → ℤ → Text
number_if shows v = elim shows [ true ↦ integer_text v | false ↦ [] ]

number_in : (shows : Bool) (v : ℤ) → length (number_if shows v) ≤ 65
number_in true v = number_short v
number_in false v = omega arith

number_printed : (shows : Bool) (v : ℤ) → every is_printed (number_if shows v) ≡ true
number_printed true v = printed_plain (integer_text v) (number_plain v)
number_printed false v = refl

-- ---- the element

module _ (c : Counter) (n : Text) (list : Listing c.attributes) (tagged : IsTag c.tag) where
  abbrev pub nodes_of : ℤ → Nodes
  nodes_of v = node (Inside [] (node (Tagged c.tag (attribute_fields n c.attributes) (child_nodes c.shows v)) no_nodes)) no_nodes

  abbrev behind : ℤ → Text
  behind v = shown_number c v ++ (codes "</" ++ (c.tag ++ codes ">"))

  html_is : (v : ℤ) → html (nodes_of v) ≡ first_html c v
  html_is v =
      append-nil (html (node (Tagged c.tag (attribute_fields n c.attributes) (child_nodes c.shows v)) no_nodes))
      ∙ append-nil (Html.node_html (Tagged c.tag (attribute_fields n c.attributes) (child_nodes c.shows v)))
      ∙ ap (λ (t : Text). codes "<" ++ (c.tag ++ (t ++ (codes ">" ++ closed c.tag (html (child_nodes c.shows v)))))) (fields_html n list)
      ∙ ap (λ (t : Text). codes "<" ++ (c.tag ++ (attributes_html c.attributes ++ (codes ">" ++ closed c.tag t)))) (child_html c.shows v)
      ∙ ap (λ (b : Bool). codes "<" ++ (c.tag ++ (attributes_html c.attributes ++ (codes ">" ++ elim b [ true ↦ [] | false ↦ behind v ])))) tagged.closes

  html_short : (v : ℤ) → length (first_html c v) ≤ 200
  html_short v =
      simp (length-append (c.tag), length-append (attributes_html c.attributes), length-append (shown_number c v)) (omega (arith, tagged.short, attributes_short list, number_in c.shows v))

  pub html_printed : (v : ℤ) → every is_printed (first_html c v) ≡ true
  html_printed v =
      let tag = printed_plain c.tag (plain_letters c.tag tagged.letters) in
      every_append is_printed c.tag (attributes_html c.attributes ++ (codes ">" ++ behind v)) tag
      (every_append is_printed (attributes_html c.attributes) (codes ">" ++ behind v) (attributes_printed list)
      (every_append is_printed (shown_number c v) (codes "</" ++ (c.tag ++ codes ">")) (number_printed c.shows v)
      (every_append is_printed c.tag (codes ">") tag refl)))

  -- the HTML is made within the limits
  pub fits : (v : ℤ) (s : Running) → html_within_limits (nodes_of v) s ≡ Gives (first_html c v) s
  fits v s =
      ap (λ (b : Bool). chosen b (chosen (nat_le (length (html (nodes_of v))) 16777216) (give (html (nodes_of v))) (fault HtmlTooLong)) (fault TreeTooLarge) s) (le-leb (nodes_count (nodes_of v)) 65536 (omega (arith, child_count c.shows v)))
      ∙ ap (λ (t : Text). chosen (nat_le (length t) 16777216) (give t) (fault HtmlTooLong) s) (html_is v)
      ∙ ap (λ (b : Bool). chosen b (give (first_html c v)) (fault HtmlTooLong) s) (le-leb (length (first_html c v)) 16777216 (omega (arith, html_short v)))

-- ---- who hears an event

abbrev pub own_listener : Text → Value
own_listener n = Closure listener_site (field n (Ref 1) end) false

-- the listener where the event is a click at the element and it has one
abbrev pub if_both : Bool → Bool → Value → Option Value
if_both true true f = Some f
if_both true false f = None
if_both false b f = None

text_unfound : (id t : Text) → first_with id (joined (text_nodes t) no_nodes) ≡ None
text_unfound id [] = refl
text_unfound id (c ∷ cs) = refl

child_unfound : (id : Text) (shows : Bool) (v : ℤ) → first_with id (child_nodes shows v) ≡ None
child_unfound id true v = text_unfound id (integer_text v)
child_unfound id false v = refl

id_shown : (n id : Text) {attributes : List First_attribute} → Listing attributes → shows_id id (attribute_fields n attributes) ≡ has_id id attributes
id_shown n id nothing = refl
id_shown n id (id_only w) = refl
id_shown n id click_only = refl
id_shown n id (id_click w) = refl
id_shown n id (click_id w) = refl

-- the letters of `onClick$` are those of a click alone
names_click : (kind : Text) → names_event kind (codes "Click$") ≡ same_text kind (codes "click")
names_click [] = refl
names_click (a ∷ []) = refl
names_click (a ∷ b ∷ []) = refl
names_click (a ∷ b ∷ c ∷ []) = refl
names_click (a ∷ b ∷ c ∷ d ∷ []) = refl
names_click (a ∷ b ∷ c ∷ d ∷ e ∷ []) = refl
names_click (a ∷ b ∷ c ∷ d ∷ e ∷ f ∷ rest) = refl

-- what listens to events of a kind
abbrev heard_if : Bool → Value → Option Value
heard_if b f = elim (b && true) [ true ↦ Some f | false ↦ None ]

if_click : (n : Text) (kind : Text) → heard_if (names_event kind (codes "Click$")) (own_listener n) ≡ if_both (same_text kind (codes "click")) true (own_listener n)
if_click n kind = ap (λ (b : Bool). heard_if b (own_listener n)) (names_click kind) ∙ go (same_text kind (codes "click"))
  where
    go : (b : Bool) → heard_if b (own_listener n) ≡ if_both b true (own_listener n)
    go true = refl
    go false = refl

never : (b : Bool) (f : Value) → None ≡ if_both b false f
never true f = refl
never false f = refl

listener_found : (n kind : Text) {attributes : List First_attribute} → Listing attributes
    → Found.listener kind (attribute_fields n attributes) ≡ if_both (same_text kind (codes "click")) (has_listener attributes) (own_listener n)
listener_found n kind nothing = never _ _
listener_found n kind (id_only w) = never _ _
listener_found n kind click_only = if_click n kind
listener_found n kind (id_click w) = if_click n kind
listener_found n kind (click_id w) = if_click n kind

pub heard_is : (c : Counter) (n : Text) (e : Event) → Listing c.attributes → (v : ℤ)
    → heard_by e.kind e.id (node (Inside [] (node (Tagged c.tag (attribute_fields n c.attributes) (child_nodes c.shows v)) no_nodes)) no_nodes)
    ≡ if_both (clicks_it c e) (has_listener c.attributes) (own_listener n)
heard_is c n e list v =
    ap (λ (b : Bool). listener_among e.kind (or_else (or_else (elim b [ true ↦ Some (attribute_fields n c.attributes) | false ↦ first_with e.id (child_nodes c.shows v) ]) None) None)) (id_shown n e.id list)
    ∙ go (has_id e.id c.attributes)
  where
    other_id : (a : Bool) → None ≡ if_both (a && false) (has_listener c.attributes) (own_listener n)
    other_id true = refl
    other_id false = refl

    own_id : (a : Bool) → if_both a (has_listener c.attributes) (own_listener n) ≡ if_both (a && true) (has_listener c.attributes) (own_listener n)
    own_id true = refl
    own_id false = refl

    go : (b : Bool) → listener_among e.kind (or_else (or_else (elim b [ true ↦ Some (attribute_fields n c.attributes) | false ↦ first_with e.id (child_nodes c.shows v) ]) None) None)
        ≡ if_both (same_text e.kind (codes "click") && b) (has_listener c.attributes) (own_listener n)
    go true = listener_found n e.kind list ∙ own_id (same_text e.kind (codes "click"))
    go false = ap (λ (o : Option Fields). listener_among e.kind (or_else (or_else o None) None)) (child_unfound e.id c.shows v) ∙ other_id (same_text e.kind (codes "click"))
