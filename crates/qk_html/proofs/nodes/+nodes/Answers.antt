use Rattle.std.proofs.Common.{◌≡◌, ◌∙◌, sym, rules, arith, Err}
use Rattle.qk_html.proofs.Appending.{both, stops}
use Rattle.qk_html.proofs.Walking.{begin, goes_on, ends_at, finish}
use Rattle.qk_html.proofs.Listed.{next_node, no_node}
use Rattle.qk_html.proofs.Node_texts.{not_void, of_attributes, of_nodes, of_element, of_instance}
use Rattle.qk_html.proofs.nodes.+nodes.Goals as goal

pub nodes_html-loop-node-init : goal.nodes_html-loop-node-init
nodes_html-loop-node-init t c = λ names. begin c.args.out.now.items _

pub nodes_html-returns-in_err-node_html : goal.nodes_html-returns-in_err-node_html
nodes_html-returns-in_err-node_html t c =
    let is : c.from_residual.result ≡ Err c.in_err-node_html.field-0.0 = search rules in
    λ names. ends_at _ _ (next_node names c.args.nodes.now c.loop-node.node-index _ c.loop-node-test.true c.node-item.is) (c.loop-node.invariant names) is (c.in_err-node_html.ensures names)

pub nodes_html-loop-node-preserved : goal.nodes_html-loop-node-preserved
nodes_html-loop-node-preserved t c = λ names.
    goes_on _ _ (next_node names c.args.nodes.now c.loop-node.node-index _ c.loop-node-test.true c.node-item.is) (c.loop-node.invariant names) (c.in_ok-node_html.ensures names)

pub nodes_html-returns : goal.nodes_html-returns
nodes_html-returns t c = λ names. finish (no_node names c.args.nodes.now c.loop-node.node-index (omega (arith, c.loop-node-test.false))) (c.loop-node.invariant names)

pub node_html-returns-in-Element : goal.node_html-returns-in-Element
node_html-returns-in-Element t c = λ names. of_element names c.args.node.now _ c.in-Element.is (c.element.ensures names)

pub node_html-returns-in-Instance : goal.node_html-returns-in-Instance
node_html-returns-in-Instance t c = λ names. of_instance names c.args.node.now _ c.in-Instance.is c.as_slice.ensures (c.nodes_html.ensures names)

pub element-returns-in_err-put : goal.element-returns-in_err-put
element-returns-in_err-put t c =
    let is : c.from_residual-in_err-put.result ≡ Err c.in_err-put.field-0.0 = search rules in
    λ names. both c.in_ok-push.ensures (stops _ is c.in_err-put.ensures)

pub element-returns-in_err-attributes_html : goal.element-returns-in_err-attributes_html
element-returns-in_err-attributes_html t c =
    let is : c.from_residual-in_err-attributes_html.result ≡ Err c.in_err-attributes_html.field-0.0 = search rules in
    λ names. both c.in_ok-push.ensures (both c.in_ok-put.ensures (stops _ is (of_attributes names c.as_slice.ensures (c.in_err-attributes_html.ensures names))))

pub element-returns-in_err-push-2 : goal.element-returns-in_err-push-2
element-returns-in_err-push-2 t c =
    let is : c.from_residual-in_err-push-2.result ≡ Err c.in_err-push-2.field-0.0 = search rules in
    λ names. both c.in_ok-push.ensures (both c.in_ok-put.ensures (both (of_attributes names c.as_slice.ensures (c.in_ok-attributes_html.ensures names)) (stops _ is c.in_err-push-2.ensures)))

pub element-returns : goal.element-returns
element-returns t c = λ names.
    both c.in_ok-push.ensures (both c.in_ok-put.ensures (both (of_attributes names c.as_slice.ensures (c.in_ok-attributes_html.ensures names)) (both c.in_ok-push-2.ensures (c.closed.ensures names))))

pub closed-returns-in_err-nodes_html : goal.closed-returns-in_err-nodes_html
closed-returns-in_err-nodes_html t c =
    let is : c.from_residual.result ≡ Err c.in_err-nodes_html.field-0.0 = search rules in
    λ names. not_void c.args.e.now.tag _ (sym c.is_void.ensures ∙ c.if-is_void.false) (stops _ is (of_nodes names c.as_slice.ensures (c.in_err-nodes_html.ensures names)))

pub closed-returns : goal.closed-returns
closed-returns t c = λ names.
    not_void c.args.e.now.tag _ (sym c.is_void.ensures ∙ c.if-is_void.false) (both (of_nodes names c.as_slice.ensures (c.in_ok-nodes_html.ensures names)) c.closing_tag.ensures)
