use Rattle.std.proofs.Common.{ap, sym, ◌∙◌}
use Rattle.qk_hooks.specs.Ran_again.{task_among}
use Rattle.qk_hooks.proofs.Run_again.{at_instance, no_instance}
use Rattle.qk_hooks.proofs.ran.found_at.Goals as goal

pub returns-then-id-all : goal.returns-then-id-all
returns-then-id-all c =
    c.found_among.ensures ∙ ap (task_among c.args.id.hook) (c.deref.ensures.value ∙ ap (λ i. i.hooks.items) (sym c.index-all-id.is))
    ∙ sym (at_instance c.args.id.instance c.args.id.hook c.args.all.now c.index-all-id.result c.if-id-all.true c.index-all-id.is)

pub returns : goal.returns
returns c = sym (no_instance c.args.id.instance c.args.id.hook c.args.all.now c.if-id-all.false)
