use Rattle.std.specs.Prelude.{[], length}
use Rattle.std.proofs.Common.{◌≡◌, ◌∙◌, ap, rules, take}
use Rattle.qk_html.proofs.Appending.{front_left}
use Rattle.qk_html.proofs.nodes.html.Goals as goal

pub returns-in-Err-clause-kept : goal.returns-in-Err-clause-kept
returns-in-Err-clause-kept c =
    let before : c.len-before.result ≡ length c.args.out.now.items = search rules in
    c.truncate.ensures.items
    ∙ (ap (λ n. take n c.nodes_html.new.out.items) before ∙ front_left c.args.out.now.items c.nodes_html.new.out.items (c.in-Err.ensures (λ site. [])).front)
