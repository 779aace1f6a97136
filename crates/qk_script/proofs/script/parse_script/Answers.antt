use Rattle.std.proofs.Common.{rules, map, sym, subst}
use Rattle.qk_script.specs.Answer.{item_of}
use Rattle.qk_script.proofs.Items.{IsRead, read_none, read_more, read_wrong}
use Rattle.qk_script.proofs.script.parse_script.Goals as goal

pub loop-rest-init : goal.loop-rest-init
loop-rest-init c = (c.utf8.text, subst (λ xs. IsRead c.args.text.now 0 (map item_of xs) c.args.text.now) (sym c.new-items.ensures.items) (read_none c.args.text.now))

pub returns-then-not-branch-clause-fault : goal.returns-then-not-branch-clause-fault
returns-then-not-branch-clause-fault c =
    read_wrong _ _ _ c.first_line.result.1.now _ _ c.loop-rest.invariant.1 (c.first_line.ensures.lines (search rules)) (c.in_ok-add_line.ensures.wrong c.if-not-branch.true)

pub loop-rest-preserved : goal.loop-rest-preserved
loop-rest-preserved c = (
  search rules,
  read_more _ _ _ c.first_line.result.1.now _ _ _ c.loop-rest.invariant.1 (c.first_line.ensures.lines (search rules)) (c.first_line.ensures.shorter (search rules)) (c.in_ok-add_line.ensures.added c.if-not-branch.false),
)
