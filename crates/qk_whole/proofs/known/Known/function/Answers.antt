use Rattle.std.proofs.Common.{ap, ◌∙◌}
use Rattle.qk_code.specs.Standing.{code_of}
use Rattle.qk_whole.proofs.Results.{if_ok}
use Rattle.qk_whole.proofs.known.Known.function.Goals as goal

pub returns-clause-code : goal.returns-clause-code
returns-clause-code c = if_ok c.new.result (λ f e. ap code_of e ∙ (λ i. record {
  file = c.in_ok-share.ensures i;
  captures = c.in_ok-share-2.ensures i;
  task = c.is_task.ensures i;
  params = (c.in_ok-share-3.ensures i).params;
  body = (c.in_ok-share-3.ensures i).body;
})) c.new.ensures
