use Rattle.std.proofs.Common.{◌∙◌, ◌+◌, ap, sym, refl, rules}
use Rattle.qk_meaning.specs.Html.{nodes_count}
use Rattle.qk_nodes.specs.Tree.{nodes_of}
use Rattle.qk_nodes.proofs.Seeing.{nodes_of-append}
use Rattle.qk_tree.proofs.Steps.{no_text, no_room, a_text}
use Rattle.qk_tree.proofs.shown.shown_text.Goals as goal

pub returns-then-len-eq0 : goal.returns-then-len-eq0
returns-then-len-eq0 g c = λ names. (no_text c.args.text (nodes_of names c.args.out.now.items) (sym c.len.ensures ∙ c.if-len-eq0.true), refl)

pub returns-in_err-take_room : goal.returns-in_err-take_room
returns-in_err-take_room g c = λ names. no_room c.args.text (nodes_of names c.args.out.now.items) _ c.args.room.now c.take_room.new.room c.in_err-take_room.field-0.0 _ (search rules)
    (λ e. c.if-len-eq0.false (c.len.ensures ∙ e)) c.in_err-take_room.ensures

pub returns : goal.returns
returns g c = λ names.
    let pushed = ap (nodes_of names) c.in_ok-push_node.ensures ∙ nodes_of-append names c.args.out.now.items _ in
    let text = a_text c.args.text (nodes_of names c.args.out.now.items) c.args.room.now c.take_room.new.room (λ e. c.if-len-eq0.false (c.len.ensures ∙ e)) c.in_ok-take_room.ensures in
    (pushed ∙ text.0, ap (λ all. c.take_room.new.room + nodes_count all) pushed ∙ text.1)
