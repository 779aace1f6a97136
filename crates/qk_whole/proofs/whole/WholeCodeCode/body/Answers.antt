use Rattle.std.proofs.Common.{ap, ◌∙◌}
use Rattle.qk_whole.proofs.Look_ups.{kind_told}
use Rattle.qk_whole.proofs.whole.WholeCodeCode.body.Goals as goal

pub returns-in_ok-share-in-Some-clause-kind : goal.returns-in_ok-share-in-Some-clause-kind
returns-in_ok-share-in-Some-clause-kind c =
    ap (λ f. f.task) c.in_ok-share-in-Some.ensures ∙ kind_told c.args.self.now.modules.list c.args.symbol.now c.in-Some.function.now c.in-Some.ensures.some
