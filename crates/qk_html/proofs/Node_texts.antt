-- The text of a node, by what the node is.
use Rattle.std.specs.Prelude.{◌≡◌, ℕ, true, false, List, [], ◌++◌, codes}
use Rattle.std.specs.List.{list_any}
use Rattle.std.proofs.Common.{sym, ◌∙◌, ap, subst}
use Rattle.qk_ast.specs.Framework.{void_tags}
use Rattle.qk_ast.specs.Texts.{same_text}
use Rattle.qk_meaning.specs.Value.{Text, Site}
use Rattle.qk_meaning.specs.Html.{attributes_html, closed, node_html, html}
use Rattle.qk_value.specs.declared.value.Value.{Value}
use Rattle.qk_value.specs.View.{seen_fields}
use Rattle.qk_nodes.specs.declared.node.Node.{Node}
use Rattle.qk_nodes.specs.declared.node.Element.{Element}
use Rattle.qk_nodes.specs.declared.node.Inside as code
use Rattle.qk_nodes.specs.declared.node.Node.TheVariants as n
use Rattle.qk_nodes.specs.Tree.{node_of, nodes_of, element_of}
use Rattle.qk_nodes.proofs.Seeing.{node_of-Element, node_of-Instance}
use Rattle.qk_html.specs.Appends.{Appends}
use Rattle.qk_html.proofs.Appending.{Wrote, of_same}

pub not_void : (tag children : Text) {most : ℕ} {old new : Text} {r : Wrote} → list_any (same_text tag) void_tags ≡ false
    → Appends (children ++ (codes "</" ++ (tag ++ codes ">"))) most old new r → Appends (closed tag children) most old new r
not_void tag children {most = most} {old = old} {new = new} {r = r} other h =
    subst (λ b. Appends (elim b [ true ↦ [] | false ↦ children ++ (codes "</" ++ (tag ++ codes ">")) ]) most old new r) (sym other) h

module _ (names : Site → List Text) {most : ℕ} {old new : Text} {r : Wrote} where
  pub of_attributes : {all them : List (Text × Value)} → them ≡ all → Appends (attributes_html (seen_fields names them)) most old new r → Appends (attributes_html (seen_fields names all)) most old new r
  of_attributes e h = of_same (ap (λ a. attributes_html (seen_fields names a)) e) h

  pub of_nodes : {all them : List Node} → them ≡ all → Appends (html (nodes_of names them)) most old new r → Appends (html (nodes_of names all)) most old new r
  of_nodes e h = of_same (ap (λ a. html (nodes_of names a)) e) h

  pub of_element : (m : Node) (e : Element) → m ≡ n.Element e → Appends (node_html (element_of names e)) most old new r → Appends (node_html (node_of names m)) most old new r
  of_element m e is h = of_same (ap node_html (sym (ap (node_of names) is ∙ node_of-Element names e))) h

  pub of_instance : (m : Node) (i : code.Inside) {them : List Node} → m ≡ n.Instance i → them ≡ i.nodes → Appends (html (nodes_of names them)) most old new r → Appends (node_html (node_of names m)) most old new r
  of_instance m i is e h = of_same (ap (λ a. html (nodes_of names a)) e ∙ ap node_html (sym (ap (node_of names) is ∙ node_of-Instance names i))) h
