use Rattle.std.proofs.Common.{sym, ap, ◌∙◌}
use Rattle.qk_captures.specs.Walking.{behind, items_found}
use Rattle.qk_captures.proofs.Numbers.{found_from_nothing}
use Rattle.qk_captures.proofs.captures.Goals as goal

pub returns : goal.returns
returns c = let all = found_from_nothing c.args.form c.args.m.now c.args.file.now c.new-walk.result c.items.new.self c.new-walk.ensures.file c.new-walk.ensures.scope c.new-walk.ensures.dollar c.new-walk.ensures.plain c.new-walk.ensures.found
    (c.in_ok-items.ensures ∙ ap (λ items. behind (items_found c.args.form items) c.new-walk.result) c.as_slice.ensures) in
    rw (sym all) c.into_found.ensures
