use Rattle.std.proofs.Common.{rules, ap}
use Rattle.qk_first.specs.Shape.{block_of}
use Rattle.qk_first.proofs.Found.{if_some, app_is}
use Rattle.qk_first.proofs.shape.app.Goals as goal

pub returns-in_err-argument-clause-whole : goal.returns-in_err-argument-clause-whole
returns-in_err-argument-clause-whole c statements h = absurd (c.in_err-argument.ensures.whole (block_of statements) (ap (λ i. i.init) h))

pub returns-clause-found : goal.returns-clause-found
returns-clause-found c = if_some c.block.result _ _ (λ it h. app_is c.args.item.now c.in_ok-argument.field-0.now it.now (search rules) (search rules) c.in_ok-argument.ensures.found h) c.block.ensures.found

pub returns-clause-whole : goal.returns-clause-whole
returns-clause-whole c statements h = c.block.ensures.whole statements (c.in_ok-argument.ensures.whole (block_of statements) (ap (λ i. i.init) h))
