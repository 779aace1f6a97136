use Rattle.qk_captures.proofs.Walks.{behind_item}
use Rattle.qk_captures.proofs.walk.Walk.item.Goals as goal

pub returns : goal.returns
returns c = behind_item c.args.form c.args.item.now c.args.self.now c.node.new.self c.enter_around.new.self c.leave.new.self c.outside-outside.result c.outside-outside.ensures
    c.in_ok-enter_around.ensures c.in_ok-node.ensures c.leave.ensures
