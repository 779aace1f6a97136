use Rattle.std.proofs.Common.{refl, ap, sym, ◌∙◌}
use Rattle.qk_rules.specs.Kinds_of_root.{root_kind_of}
use Rattle.qk_rules.specs.Root_table.{kind_at, kind_from, earlier_of, one_kind, name_kinds}
use Rattle.qk_rules.proofs.Root_tables.{kinds_next, kinds_last}
use Rattle.qk_rules.proofs.roots.Roots.add_names.Goals as goal

pub loop-name-preserved : goal.loop-name-preserved
loop-name-preserved c = λ q.
    let old = kind_at c.loop-name.self q in
    let name = c.name-item.result in
    let kinds = kind_from c.args.from in
    kinds_next (λ names. name_kinds kinds names q) (λ n. one_kind n (kinds n) q) (λ x xs. refl) old (kind_at c.add.new.self q) c.args.names.now c.loop-name.name-index name c.loop-name-test.true c.name-item.is
    (c.in_ok-add.ensures q
    ∙ ap (λ n. earlier_of old (one_kind n (root_kind_of c.kind_from.result) q)) c.as_str.ensures
    ∙ ap (λ kind. earlier_of old (one_kind name kind q)) (c.kind_from.ensures ∙ ap kinds c.as_str-in-loop-name.ensures))
    ∙ c.loop-name.invariant q

pub returns : goal.returns
returns c = λ q. sym (kinds_last (λ names. name_kinds (kind_from c.args.from) names q) refl (kind_at c.loop-name.self q) c.args.names.now c.loop-name.name-index c.loop-name-test.false) ∙ c.loop-name.invariant q
