use Rattle.std.proofs.Common.{refl, ap, sym, ◌∙◌}
use Rattle.qk_ast.specs.Placing.{kind_of_value}
use Rattle.qk_rules.specs.Kinds_of_root.{root_kind_of}
use Rattle.qk_rules.specs.Root_table.{kind_at, earlier_of, one_kind, item_kinds}
use Rattle.qk_rules.proofs.Root_tables.{kinds_next, kinds_last}
use Rattle.qk_rules.proofs.roots.Roots.add_items.Goals as goal

pub loop-item-preserved : goal.loop-item-preserved
loop-item-preserved c = λ q.
    let old = kind_at c.loop-item.self q in
    let item = c.item-item.result in
    kinds_next (λ items. item_kinds items q) (λ i. one_kind i.name (kind_of_value i.init) q) (λ x xs. refl) old (kind_at c.add.new.self q) c.args.items.now c.loop-item.item-index item c.loop-item-test.true c.item-item.is
    (c.in_ok-add.ensures q
    ∙ ap (λ name. earlier_of old (one_kind name (root_kind_of c.kind_of_value.result) q)) c.as_str.ensures
    ∙ ap (λ kind. earlier_of old (one_kind item.name kind q)) c.kind_of_value.ensures)
    ∙ c.loop-item.invariant q

pub returns : goal.returns
returns c = λ q. sym (kinds_last (λ items. item_kinds items q) refl (kind_at c.loop-item.self q) c.args.items.now c.loop-item.item-index c.loop-item-test.false) ∙ c.loop-item.invariant q
