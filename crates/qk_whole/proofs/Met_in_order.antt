-- The walk meets the arrows in text order, whatever names are declared around them.
use Rattle.std.specs.Prelude.{◌≡◌, ℕ, ◌+◌, ◌<◌, ◌≤◌, List, [], ◌∷◌, ◌++◌, length, drop, map}
use Rattle.std.proofs.Common.{sym, ◌∙◌, ap}
use Rattle.std.proofs.Math.ListN.{get_or}
use Rattle.std.proofs.lemmas.List.{append_assoc, append-nil, map-append, at_drop_more, at_drop_all}
use Rattle.qk_ast.specs.declared.Arrow.{Arrow}
use Rattle.qk_ast.specs.declared.Item.{Item}
use Rattle.qk_ast.specs.Texts.{Text}
use Rattle.qk_ast.specs.Arrows.{Mark, Unmarked, Found_arrow, arrows, item_arrows}
use Rattle.qk_ast.specs.declared.Expr.TheVariants as e
use Rattle.qk_node.specs.Nodes.{Node, Value, plain}
use Rattle.qk_node.proofs.Forms.{arrow_itself}
use Rattle.qk_node.specs.Growing.{within, grown, tree}
use Rattle.qk_node.specs.Found.{arrow_here, scope_inside, arrows_in}
use Rattle.qk_node.proofs.Same_arrows.{same_arrows}
use Rattle.qk_whole.specs.declared.met.Met.{Met}
use Rattle.qk_whole.specs.Meeting.{met_seen, arrow_seen}

abbrev Seen : Type 0
Seen = Arrow × Mark

abbrev seen : List Found_arrow → List Seen
seen found = map arrow_seen found

seen_both : (xs ys : List Found_arrow) → seen (xs ++ ys) ≡ seen xs ++ seen ys
seen_both xs ys = map-append arrow_seen xs ys

-- a node, and the nodes behind it
pub next_met : (n : Node) (ns : List Node) (old : List Seen) (done now : List Seen) → ((scope : List Text) → now ≡ done ++ seen (arrows_in (tree n) scope))
    → ((scope : List Text) → done ++ seen (arrows_in (grown (n ∷ ns)) scope) ≡ old)
    → (scope : List Text) → now ++ seen (arrows_in (grown ns) scope) ≡ old
next_met n ns old done now h k scope = ap (λ xs. xs ++ seen (arrows_in (grown ns) scope)) (h scope)
    ∙ append_assoc done (seen (arrows_in (tree n) scope)) (seen (arrows_in (grown ns) scope))
    ∙ ap (λ xs. done ++ xs) (sym (seen_both (arrows_in (tree n) scope) (arrows_in (grown ns) scope)) ∙ ap seen (whole scope))
    ∙ k scope
  where
    whole : (scope : List Text) → arrows_in (tree n) scope ++ arrows_in (grown ns) scope ≡ arrows_in (grown (n ∷ ns)) scope
    whole scope = append_assoc (arrow_here n scope) (arrows_in (within n) (scope_inside n scope) ++ []) (arrows_in (grown ns) scope)
        ∙ ap (λ found. arrow_here n scope ++ (found ++ arrows_in (grown ns) scope)) (append-nil (arrows_in (within n) (scope_inside n scope)))

-- the node itself, and then all that is inside it
pub node_met : (n : Node) (old met now : List Seen) → ((scope : List Text) → met ≡ old ++ seen (arrow_here n scope))
    → ((scope : List Text) → now ≡ met ++ seen (arrows_in (within n) scope))
    → (scope : List Text) → now ≡ old ++ seen (arrows_in (tree n) scope)
node_met n old met now h k scope = k (scope_inside n scope) ∙ ap (λ xs. xs ++ seen (arrows_in (within n) (scope_inside n scope))) (h scope)
    ∙ append_assoc old (seen (arrow_here n scope)) (seen (arrows_in (within n) (scope_inside n scope)))
    ∙ ap (λ xs. old ++ xs) (sym (seen_both (arrow_here n scope) (arrows_in (within n) (scope_inside n scope)))
    ∙ ap (λ found. seen (arrow_here n scope ++ found)) (sym (append-nil (arrows_in (within n) (scope_inside n scope)))))

-- one item more
pub next_item : (items : List Item) (i : ℕ) (x : Item) (old done now : List Seen) → i < length items → x ≡ get_or items i x
    → ((scope : List Text) → now ≡ done ++ seen (arrows_in (tree (plain x.init)) scope))
    → done ++ seen (item_arrows (drop i items)) ≡ old → now ++ seen (item_arrows (drop (i + 1) items)) ≡ old
next_item items i x old done now below here h k =
    ap (λ xs. xs ++ seen rest) (h [] ∙ ap (λ found. done ++ seen found) (same_arrows x.init Unmarked []))
    ∙ append_assoc done (seen (arrows x.init Unmarked [])) (seen rest)
    ∙ ap (λ xs. done ++ xs) (sym (seen_both (arrows x.init Unmarked []) rest) ∙ ap (λ y. seen (item_arrows (y ∷ drop (i + 1) items))) here)
    ∙ ap (λ xs. done ++ xs) (sym (at_drop_more (λ ys. seen (item_arrows ys)) items i x below)) ∙ k
  where
    rest : List Found_arrow
    rest = item_arrows (drop (i + 1) items)

pub all_items : (items : List Item) (i : ℕ) (done : List Seen) → length items ≤ i → done ++ seen (item_arrows (drop i items)) ≡ seen (item_arrows items) → done ≡ seen (item_arrows items)
all_items items i done past h = sym (append-nil done) ∙ sym (at_drop_all (λ ys. done ++ seen (item_arrows ys)) items i past) ∙ h

-- an arrow
pub one_met : (n : Node) (a : Arrow) (mark : Mark) (m : Met) (old new : List Met) → n ≡ Value (e.Arrow a) mark → met_seen m ≡ (a, mark) → new ≡ old ++ m ∷ []
    → (scope : List Text) → map met_seen new ≡ map met_seen old ++ seen (arrow_here n scope)
one_met n a mark m old new is met put scope = ap (map met_seen) put ∙ map-append met_seen old (m ∷ []) ∙ ap (λ x. map met_seen old ++ x ∷ []) met
    ∙ ap (λ found. map met_seen old ++ seen found) (sym (arrow_itself a mark scope) ∙ ap (λ n. arrow_here n scope) (sym is))
