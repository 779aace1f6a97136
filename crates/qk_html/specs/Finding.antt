-- The first element of an id, as the meaning finds its attributes.
use Rattle.std.specs.Prelude.{Bool, true, false, Option, Some, None}
use Rattle.qk_ast.specs.Texts.{same_text}
use Rattle.qk_meaning.specs.Value.{Text, Value, Fields}
use Rattle.qk_meaning.specs.Parts.{or_else}
use Rattle.qk_meaning.specs.Html.{shown_as}
use Rattle.qk_meaning.specs.Tree.{shows_id}
use Rattle.qk_meaning.specs.Expansion.{Node, Tagged, Shows, Inside, Nodes, no_nodes, node}

abbrev mutual
  pub first_element_in : Text → Node → Option Node
  first_element_in id (Tagged tag attributes children) = elim (shows_id id attributes) [ true ↦ Some (Tagged tag attributes children) | false ↦ first_element id children ]
  first_element_in id (Shows w) = None
  first_element_in id (Inside path nodes) = first_element id nodes

  -- the first element in document order whose shown `id` is this one
  pub first_element : Text → Nodes → Option Node
  first_element id no_nodes = None
  first_element id (node n rest) = or_else (first_element_in id n) (first_element id rest)

-- the attributes of an element
abbrev pub attributes_of : Option Node → Option Fields
attributes_of (Some (Tagged tag attributes children)) = Some attributes
attributes_of _ = None

-- an attribute of this value shows this text
abbrev pub shows_text : Text → Value → Bool
shows_text text v = elim (shown_as v) [ Some w ↦ same_text w text | None ↦ false ]
