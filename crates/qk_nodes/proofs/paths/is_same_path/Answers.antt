use Rattle.std.proofs.Common.{sym}
use Rattle.qk_nodes.proofs.Comparing.{unlike}
use Rattle.qk_nodes.proofs.paths.is_same_path.Goals as goal

pub returns-then-a-b : goal.returns-then-a-b
returns-then-a-b c = sym (unlike c.args.a.now c.args.b.now c.if-a-b.true)
