use Rattle.std.proofs.Common.{rules}
use Rattle.qk_ast.specs.Placing.{root_kind}
use Rattle.qk_rules.specs.Root_table.{kind_by}
use Rattle.qk_rules.specs.Walking.{place}
use Rattle.qk_rules.proofs.Whole_check.{sites_at, begun, items_refused, items_kept, for_want}
use Rattle.qk_rules.proofs.checking.check.Goals as goal

pub returns-in_err-roots : goal.returns-in_err-roots
returns-in_err-roots c = for_want c.args.name.now (root_kind c.args.kinds.now c.args.m.now) c.args.m.now c.from_residual.result (search rules)

pub returns-in_err-items : goal.returns-in_err-items
returns-in_err-items c =
    let file = c.args.name.now in
    let roots = root_kind c.args.kinds.now c.args.m.now in
    let walk = place c.new-walk.result in
    items_refused file roots c.args.m.now walk c.as_slice.result.now c.from_residual-in_err-items.result c.in_err-items.field-0.0
    (begun walk c.as_str.result.now file (kind_by c.in_ok-roots.roots) roots c.new-walk.ensures c.as_str.ensures c.in_ok-roots.ensures) c.as_slice.ensures c.in_err-items.ensures.answers (search rules)

pub returns : goal.returns
returns c =
    let file = c.args.name.now in
    let roots = root_kind c.args.kinds.now c.args.m.now in
    let walk = place c.new-walk.result in
    items_kept file roots c.args.m.now walk c.as_slice.result.now c.sites_told.result
    (begun walk c.as_str.result.now file (kind_by c.in_ok-roots.roots) roots c.new-walk.ensures c.as_str.ensures c.in_ok-roots.ensures) c.as_slice.ensures c.in_ok-items.ensures.answers
    (sites_at c.args.m.now c.as_slice-2.result.now c.sites_told.result c.as_slice-2.ensures c.sites_told.ensures)
