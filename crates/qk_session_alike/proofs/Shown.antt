-- Trees that stand for one another show one text, and have listeners that stand for one another.
use Rattle.std.specs.Prelude.{◌≡◌, refl, suc, ◌+◌, Bool, true, false, ◌&&◌, [], ◌++◌, Option, Some, None, codes}
use Rattle.std.proofs.Common.{ap, subst}
use mathlib.Core.Path.{ap₂}
use Rattle.qk_ast.specs.Texts.{same_text, ends_in_dollar}
use Rattle.qk_meaning.specs.Value.{Text, Value, Fields}
use Rattle.qk_meaning.specs.Parts.{or_else}
use Rattle.qk_meaning.specs.Operators.{is_function}
use Rattle.qk_meaning.specs.Html.{written, attribute_char, shown_as, attribute_html, attributes_html, closed, node_html, html, node_count, nodes_count}
use Rattle.qk_meaning.specs.Expansion.{Node, Nodes}
use Rattle.qk_meaning.specs.Tree.{shows_id, first_node, first_with, is_listener_of, listener, listener_among, heard_by}
use Rattle.qk_meaning.specs.Ties.{Ties, Stands, undefined, null, truth, int, words, ref, items, fields, elem, closure, by_symbol, lifted, Fields_stand, end_stands, field_stands, Found_stands, both_none, both_some}
use Rattle.qk_alike.proofs.Values.{functions}
use Rattle.qk_alike.proofs.Objects.{field_values}
use Rattle.qk_session_alike.specs.Trees_stand.{Node_stands, tagged, shows_text, inside, Nodes_stand, no_nodes_stand, node_stands}

-- the attributes of the first element with an id
data First_stands (t : Ties) : Option Fields → Option Fields → Type 0 where
  no_first : First_stands t None None
  both_first : {f g : Fields} → Fields_stand t f g → First_stands t (Some f) (Some g)

module _ {t : Ties} where
  -- ---- html

  shown_alike : {v w : Value} → Stands t v w → shown_as v ≡ shown_as w
  shown_alike undefined = refl
  shown_alike null = refl
  shown_alike (truth {b = true}) = refl
  shown_alike (truth {b = false}) = refl
  shown_alike int = refl
  shown_alike words = refl
  shown_alike (ref k) = refl
  shown_alike (items k) = refl
  shown_alike (fields k) = refl
  shown_alike (elem s f k) = refl
  shown_alike (closure l m n k) = refl
  shown_alike (by_symbol l m k) = refl
  shown_alike (lifted l m k) = refl

  pub attribute_alike : (name : Text) {v w : Value} → Stands t v w → attribute_html name v ≡ attribute_html name w
  attribute_alike name h = ap (λ (o : Option Text). elim (ends_in_dollar name) as (λ y. Text) [
    | true ↦ []
    | false ↦ elim o as (λ y. Text) [ None ↦ [] | Some u ↦ codes " " ++ (name ++ (codes "=\"" ++ (written attribute_char u ++ codes "\""))) ]
  ]) (shown_alike h)

  attributes_alike : {f g : Fields} → Fields_stand t f g → attributes_html f ≡ attributes_html g
  attributes_alike end_stands = refl
  attributes_alike (field_stands {k = k} h hs) = ap₂ (λ x y. x ++ y) (attribute_alike k h) (attributes_alike hs)

  mutual
    node_alike : {v w : Node} → Node_stands t v w → node_html v ≡ node_html w
    node_alike (tagged {tag = tag} f h) = ap₂ (λ x y. codes "<" ++ (tag ++ (x ++ (codes ">" ++ closed tag y)))) (attributes_alike f) (html_alike h)
    node_alike shows_text = refl
    node_alike (inside h) = html_alike h

    pub html_alike : {v w : Nodes} → Nodes_stand t v w → html v ≡ html w
    html_alike no_nodes_stand = refl
    html_alike (node_stands h hs) = ap₂ (λ x y. x ++ y) (node_alike h) (html_alike hs)

  mutual
    node_counts : {v w : Node} → Node_stands t v w → node_count v ≡ node_count w
    node_counts (tagged f h) = ap suc (counts_alike h)
    node_counts shows_text = refl
    node_counts (inside h) = ap suc (counts_alike h)

    pub counts_alike : {v w : Nodes} → Nodes_stand t v w → nodes_count v ≡ nodes_count w
    counts_alike no_nodes_stand = refl
    counts_alike (node_stands h hs) = ap₂ ◌+◌ (node_counts h) (counts_alike hs)

  -- ---- listeners

  id_alike : (id : Text) {f g : Fields} → Fields_stand t f g → shows_id id f ≡ shows_id id g
  id_alike id h = ap (λ (o : Option Text). elim o as (λ y. Bool) [ Some w ↦ same_text w id | None ↦ false ]) (shown_alike (field_values (codes "id") h))

  either_first : {o o' u u' : Option Fields} → First_stands t o o' → First_stands t u u' → First_stands t (or_else o u) (or_else o' u')
  either_first no_first k = k
  either_first (both_first h) k = both_first h

  chosen_first : (c : Bool) {f g : Fields} {o o' : Option Fields} → Fields_stand t f g → First_stands t o o' → First_stands t (elim c as (λ y. Option Fields) [ true ↦ Some f | false ↦ o ]) (elim c as (λ y. Option Fields) [ true ↦ Some g | false ↦ o' ])
  chosen_first true h k = both_first h
  chosen_first false h k = k

  mutual
    first_alike : (id : Text) {v w : Node} → Node_stands t v w → First_stands t (first_node id v) (first_node id w)
    first_alike id shows_text = no_first
    first_alike id (inside h) = firsts_alike id h
    first_alike id (tagged {f = f} {g = g} {v = v} {w = w} a h) =
        subst (λ c. First_stands t (elim (shows_id id f) as (λ y. Option Fields) [ true ↦ Some f | false ↦ first_with id v ]) (elim c as (λ y. Option Fields) [ true ↦ Some g | false ↦ first_with id w ])) (id_alike id a) (chosen_first (shows_id id f) a (firsts_alike id h))

    firsts_alike : (id : Text) {v w : Nodes} → Nodes_stand t v w → First_stands t (first_with id v) (first_with id w)
    firsts_alike id no_nodes_stand = no_first
    firsts_alike id (node_stands h hs) = either_first (first_alike id h) (firsts_alike id hs)

  chosen_listener : (c : Bool) {v w : Value} {o o' : Option Value} → Stands t v w → Found_stands t o o' → Found_stands t (elim c as (λ y. Option Value) [ true ↦ Some v | false ↦ o ]) (elim c as (λ y. Option Value) [ true ↦ Some w | false ↦ o' ])
  chosen_listener true h k = both_some h
  chosen_listener false h k = k

  listeners_alike : (kind : Text) {f g : Fields} → Fields_stand t f g → Found_stands t (listener kind f) (listener kind g)
  listeners_alike kind end_stands = both_none
  listeners_alike kind (field_stands {k = k} {v = v} {w = w} {rest = rest} {more = more} h hs) =
      subst (λ c. Found_stands t (elim (is_listener_of kind k && is_function v) as (λ y. Option Value) [ true ↦ Some v | false ↦ listener kind rest ]) (elim (is_listener_of kind k && c) as (λ y. Option Value) [ true ↦ Some w | false ↦ listener kind more ])) (functions h)
      (chosen_listener (is_listener_of kind k && is_function v) h (listeners_alike kind hs))

  among_alike : (kind : Text) {o o' : Option Fields} → First_stands t o o' → Found_stands t (listener_among kind o) (listener_among kind o')
  among_alike kind no_first = both_none
  among_alike kind (both_first h) = listeners_alike kind h

  pub heard_alike : (kind id : Text) {v w : Nodes} → Nodes_stand t v w → Found_stands t (heard_by kind id v) (heard_by kind id w)
  heard_alike kind id h = among_alike kind (firsts_alike id h)
