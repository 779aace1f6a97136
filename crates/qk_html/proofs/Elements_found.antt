-- The first element of an id, with the attributes that the meaning finds.
use Rattle.std.specs.Prelude.{◌≡◌, refl, Bool, true, false, List, Option, Some, None}
use Rattle.std.proofs.Common.{sym, ◌∙◌, ap}
use Rattle.qk_meaning.specs.Value.{Text, Site, Fields}
use Rattle.qk_meaning.specs.Parts.{or_else}
use Rattle.qk_meaning.specs.Expansion as E
use Rattle.qk_meaning.specs.Expansion.{Nodes, no_nodes, node, Tagged, Shows, Inside}
use Rattle.qk_meaning.specs.Tree.{shows_id, first_node, first_with}
use Rattle.qk_value.specs.declared.value.Value.{Value}
use Rattle.qk_value.specs.View.{seen_fields}
use Rattle.qk_nodes.specs.declared.node.Node.{Node}
use Rattle.qk_nodes.specs.declared.node.Element.{Element}
use Rattle.qk_nodes.specs.declared.node.Inside as code
use Rattle.qk_nodes.specs.declared.node.Node.TheVariants as n
use Rattle.qk_nodes.specs.Tree.{node_of, nodes_of}
use Rattle.qk_nodes.proofs.Seeing.{node_of-Element, node_of-Instance}
use Rattle.qk_html.specs.Finding.{first_element, first_element_in, attributes_of}

-- ---- its attributes are those that the meaning finds

-- none, or an element with these attributes
abbrev Has : Option E.Node → Option Fields → Type 0
Has None None = Unit {0}
Has (Some (Tagged tag attributes children)) (Some fields) = attributes ≡ fields
Has _ _ = ⊥

has_else : (a c : Option E.Node) (b d : Option Fields) → Has a b → Has c d → Has (or_else a c) (or_else b d)
has_else None c None d h k = k
has_else (Some (Tagged tag attributes children)) c (Some fields) d h k = h
has_else None c (Some fields) d h k = absurd h
has_else (Some (Tagged tag attributes children)) c None d h k = absurd h
has_else (Some (Shows w)) c b d h k = absurd h
has_else (Some (Inside path nodes)) c b d h k = absurd h

has_attributes : (a : Option E.Node) (b : Option Fields) → Has a b → attributes_of a ≡ b
has_attributes None None h = refl
has_attributes (Some (Tagged tag attributes children)) (Some fields) h = ap Some h
has_attributes None (Some fields) h = absurd h
has_attributes (Some (Tagged tag attributes children)) None h = absurd h
has_attributes (Some (Shows w)) b h = absurd h
has_attributes (Some (Inside path nodes)) b h = absurd h

has_first : (shown : Bool) (tag : Text) (attributes : Fields) (children : Nodes) (a : Option E.Node) (b : Option Fields) → Has a b
    → Has (elim shown [ true ↦ Some (Tagged tag attributes children) | false ↦ a ]) (elim shown [ true ↦ Some attributes | false ↦ b ])
has_first true tag attributes children a b h = refl
has_first false tag attributes children a b h = h

mutual
  has_in : (id : Text) (m : E.Node) → Has (first_element_in id m) (first_node id m)
  has_in id (Tagged tag attributes children) = has_first (shows_id id attributes) tag attributes children _ _ (has_among id children)
  has_in id (Shows w) = tt
  has_in id (Inside path nodes) = has_among id nodes

  has_among : (id : Text) (ms : Nodes) → Has (first_element id ms) (first_with id ms)
  has_among id no_nodes = tt
  has_among id (node m rest) = has_else (first_element_in id m) (first_element id rest) (first_node id m) (first_with id rest) (has_in id m) (has_among id rest)

pub attributes_found : (id : Text) (ms : Nodes) (found : Option E.Node) → found ≡ first_element id ms → attributes_of found ≡ first_with id ms
attributes_found id ms found is = ap attributes_of is ∙ has_attributes _ _ (has_among id ms)

-- ---- inside a node

module _ (names : Site → List Text) (id : Text) where
  pub in_element : (m : Node) (e : Element) (attributes : List (Text × Value)) (nodes : List Node) → m ≡ n.Element e → attributes ≡ e.attrs → nodes ≡ e.children
      → shows_id id (seen_fields names attributes) ≡ false → first_element id (nodes_of names nodes) ≡ first_element_in id (node_of names m)
  in_element m e attributes nodes is these those other =
      ap (λ ms. first_element id (nodes_of names ms)) those
      ∙ sym (ap (λ k. first_element_in id (node_of names k)) is
      ∙ ap (first_element_in id) (node_of-Element names e)
      ∙ ap (λ b. elim b [ true ↦ Some (Tagged e.tag (seen_fields names e.attrs) (nodes_of names e.children)) | false ↦ first_element id (nodes_of names e.children) ]) (ap (λ fs. shows_id id (seen_fields names fs)) (sym these) ∙ other))

  pub in_instance : (m : Node) (i : code.Inside) (nodes : List Node) → m ≡ n.Instance i → nodes ≡ i.nodes → first_element id (nodes_of names nodes) ≡ first_element_in id (node_of names m)
  in_instance m i nodes is those =
      ap (λ ms. first_element id (nodes_of names ms)) those ∙ sym (ap (λ k. first_element_in id (node_of names k)) is ∙ ap (first_element_in id) (node_of-Instance names i))
