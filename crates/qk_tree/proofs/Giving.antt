-- What given children stand for, by the frame.
use Rattle.std.specs.Prelude.{◌≡◌, refl, List}
use Rattle.std.proofs.Common.{ap, sym, ◌∙◌}
use denote.Hole.Carrier.{hidden}
use Rattle.qk_ast.specs.Texts.{Text}
use Rattle.qk_meaning.specs.Value.{Site}
use Rattle.qk_meaning.specs.Value as M
use Rattle.qk_meaning.specs.World.{Step}
use Rattle.qk_meaning.specs.Expansion as E
use Rattle.qk_meaning.specs.Expansion.{in_order, for_slot, placed, elem_with, slot_with}
use Rattle.qk_value.specs.declared.value.Value.{Value}
use Rattle.qk_value.specs.declared.value.ElemTag.{ElemTag}
use Rattle.qk_value.specs.View.{seen_all, shown_by}
use Rattle.qk_tree.specs.declared.given.Given.TheBlock.{shape-the_row-Frame-0, hidden-the_row-Frame-0}
use Rattle.qk_tree.specs.declared.given.Frame.{Frame}
use Rattle.qk_tree.specs.declared.given.Given.{Given}
use Rattle.qk_tree.specs.declared.given.Given.TheVariants as g
use Rattle.qk_tree.specs.Giving.{given_of}

pub given_of-Children : (names : Site → List Text) (f : Frame) → given_of names (g.Children f) ≡ E.children_of (seen_all names f.children) (given_of names f.outer)
unfolding shape-the_row-Frame-0 hidden-the_row-Frame-0 hidden
given_of-Children names f = refl

-- of a frame of these parts
pub given_to : (names : Site → List Text) (f : Frame) (children : List Value) (outer : Given) → f.children ≡ children → f.outer ≡ outer → given_of names (g.Children f) ≡ E.children_of (seen_all names children) (given_of names outer)
given_to names f children outer holds within = given_of-Children names f ∙ ap (λ all. E.children_of (seen_all names all) (given_of names f.outer)) holds ∙ ap (λ rest. E.children_of (seen_all names children) (given_of names rest)) within

-- what a Slot shows of given children
pub a_slot : {S : Type 0} (names : Site → List Text) (visit : E.Visit S) (inner : E.Expands S) (path : List Step) (given : Given) (f : Frame) (tag : ElemTag) (name : Text) (attributes : M.Fields) (children : M.Values) (s : S) → given ≡ g.Children f → tag ≡ ElemTag.Slot name
    → in_order (inner path (given_of names f.outer)) (for_slot name (placed (seen_all names f.children))) s ≡ elem_with visit inner path (given_of names given) (shown_by tag) attributes children s
a_slot names visit inner path given f tag name attributes children s holds is =
    ap (λ gs. slot_with inner path name gs s) (sym (given_of-Children names f) ∙ ap (given_of names) (sym holds)) ∙ ap (λ t. elem_with visit inner path (given_of names given) (shown_by t) attributes children s) (sym is)
