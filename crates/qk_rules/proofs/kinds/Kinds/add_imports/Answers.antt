use Rattle.std.proofs.Common.{refl, ap, sym, ◌≡◌, ◌∙◌}
use Rattle.qk_ast.specs.Placing.{imported_kind}
use Rattle.qk_rules.specs.Root_table.{kind_at, kind_from, earlier_of, name_kinds, import_kinds}
use Rattle.qk_rules.proofs.Root_tables.{kinds_next, kinds_last}
use Rattle.qk_rules.proofs.kinds.Kinds.add_imports.Goals as goal

pub loop-import-preserved : goal.loop-import-preserved
loop-import-preserved c = λ q.
    let old = kind_at c.loop-import.roots q in
    let modules = c.args.self.now in
    let import = c.import-item.result in
    let told : kind_from c.table_of-table.result ≡ imported_kind modules c.as_str.result.now = λ j q. c.table_of-table.ensures q j in
    kinds_next (λ imports. import_kinds modules imports q) (λ i. name_kinds (imported_kind modules i.from) i.names q) (λ x xs. refl) old (kind_at c.add_names.new.self q) c.args.imports.now c.loop-import.import-index import
    c.loop-import-test.true c.import-item.is
    (c.in_ok-add_names.ensures q
    ∙ ap (λ kinds. earlier_of old (name_kinds kinds c.as_slice.result.now q)) (told ∙ ap (imported_kind modules) c.as_str.ensures)
    ∙ ap (λ names. earlier_of old (name_kinds (imported_kind modules import.from) names q)) c.as_slice.ensures)
    ∙ c.loop-import.invariant q

pub returns : goal.returns
returns c = λ q. sym (kinds_last (λ imports. import_kinds c.args.self.now imports q) refl (kind_at c.loop-import.roots q) c.args.imports.now c.loop-import.import-index c.loop-import-test.false) ∙ c.loop-import.invariant q
