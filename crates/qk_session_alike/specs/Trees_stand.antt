-- When a tree of one reading stands for one of another, and what is met on the way to it.
use Rattle.std.specs.Prelude.{◌≡◌, true, List}
use Rattle.qk_meaning.specs.Value.{Text, Site, Shown, Value, Values, Fields}
use Rattle.qk_meaning.specs.World.{Place, Step}
use Rattle.qk_meaning.specs.Program.{symbol_of}
use Rattle.qk_meaning.specs.Expansion.{Node, Tagged, Shows, Inside, Nodes, no_nodes, node, Placed, Given, nothing_given, children_of, Met}
use Rattle.qk_meaning.specs.Ties.{Ties, Site_ties, Shown_as, Stands, All_stand, Fields_stand}

mutual
  -- trees are alike but for what stands for one another in their attributes
  pub data Node_stands (t : Ties) : Node → Node → Type 0 where
    tagged : {tag : Text} {f g : Fields} {v w : Nodes} → Fields_stand t f g → Nodes_stand t v w → Node_stands t (Tagged tag f v) (Tagged tag g w)
    shows_text : {w : Text} → Node_stands t (Shows w) (Shows w)
    inside : {path : List Step} {v w : Nodes} → Nodes_stand t v w → Node_stands t (Inside path v) (Inside path w)

  pub data Nodes_stand (t : Ties) : Nodes → Nodes → Type 0 where
    no_nodes_stand : Nodes_stand t no_nodes no_nodes
    node_stands : {v w : Node} {rest more : Nodes} → Node_stands t v w → Nodes_stand t rest more → Nodes_stand t (node v rest) (node w more)

-- items at one place
pub data Placed_stand (t : Ties) : Placed → Placed → Type 0 where
  placed_alike : {place : Place} {v w : Value} → Stands t v w → Placed_stand t (record { place = place; value = v }) (record { place = place; value = w })

pub data Given_stand (t : Ties) : Given → Given → Type 0 where
  nothing_stands : Given_stand t nothing_given nothing_given
  children_stand : {v w : Values} {g h : Given} → All_stand t v w → Given_stand t g h → Given_stand t (children_of v g) (children_of w h)

-- components at one path
pub data Met_stand (t : Ties) : Met → Met → Type 0 where
  met_alike : {path : List Step} {x y : Shown} {f g : Fields} → Shown_as t.sites x y → Fields_stand t f g → Met_stand t (record { path = path; shown = x; fields = f }) (record { path = path; shown = y; fields = g })

-- a component that is a symbol in the second reading has one name in paths on both sides: its symbol
pub record Named_alike (t : Site_ties) : Type 0 where
  pub lifted : (site : Site) → t.lifts site ≡ true → symbol_of site ≡ t.symbol site
