use Rattle.std.proofs.Common.{◌∙◌, ap, map, refl, length, sym}
use Rattle.qk_hooks.specs.Marking.{hook_marked}
use Rattle.qk_hooks.proofs.Made_due.{refilled}
use Rattle.qk_hooks.proofs.marking.mark_instance.Goals as goal

pub returns : goal.returns
returns c =
    let before = c.args.instance.now.hooks in
    record {
      hooks = _;
      marked = refilled before.len c.mark_hooks.new.hooks before.items (sym before.ok.0) (c.mark_hooks.auto.hooks ∙ ap length c.deref_mut.ensures.value) ∙ (c.mark_hooks.ensures ∙ ap (map (hook_marked c.args.l.now)) c.deref_mut.ensures.value);
      is = refl;
    }
