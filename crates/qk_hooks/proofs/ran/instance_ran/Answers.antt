use Rattle.std.proofs.Common.{ap, refl, length, sym, ◌∙◌}
use Rattle.qk_hooks.specs.Ran_again.{hooks_ran}
use Rattle.qk_hooks.proofs.Made_due.{refilled}
use Rattle.qk_hooks.proofs.ran.instance_ran.Goals as goal

pub returns : goal.returns
returns c =
    let before = c.args.instance.now.hooks in
    record {
      hooks = _;
      ran = refilled before.len c.ran_among.new.hooks before.items (sym before.ok.0) (c.ran_among.auto.hooks ∙ ap length c.deref_mut.ensures.value) ∙ (c.ran_among.ensures ∙ ap (hooks_ran c.args.hook c.args.tracks c.args.due) c.deref_mut.ensures.value);
      is = refl;
    }
