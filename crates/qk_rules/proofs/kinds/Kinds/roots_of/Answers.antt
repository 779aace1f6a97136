use Rattle.std.proofs.Common.{ap, ◌∙◌}
use Rattle.qk_rules.specs.Root_table.{kind_at, earlier_of, item_kinds, import_kinds}
use Rattle.qk_rules.proofs.Module_tables.{root_from_nothing}
use Rattle.qk_rules.proofs.kinds.Kinds.roots_of.Goals as goal

pub returns : goal.returns
returns c = λ q.
    let none = kind_at c.new-roots.result q in
    let some = kind_at c.add_imports.new.roots q in
    root_from_nothing c.args.self.now c.args.m.now.imports c.args.m.now.items q none some (kind_at c.add_items.new.self q) (c.new-roots.ensures q)
    (c.in_ok-add_imports.ensures q ∙ ap (λ imports. earlier_of none (import_kinds c.args.self.now imports q)) c.as_slice.ensures)
    (c.in_ok-add_items.ensures q ∙ ap (λ items. earlier_of some (item_kinds items q)) c.as_slice-2.ensures)
