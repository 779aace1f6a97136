use Rattle.std.proofs.Common.{length}
use Rattle.std.proofs.lemmas.Slice.Zip.{zip_end}
use Rattle.qk_value.specs.View.{seen}
use Rattle.qk_eval.proofs.Plain_steps.{all_kept}
use Rattle.qk_eval.proofs.pieces.kept.Goals as goal

pub returns : goal.returns
returns c = λ names.
    all_kept (seen names) c.loop-v.left c.args.all.now c.args.flags.now (length c.loop-v.yielded)
    (zip_end c.args.all.now c.args.flags.now c.loop-v.yielded _ c.loop-v.v-iterator c.next.new.self c.next.result (cc) (cc) c.loop-v.yielded_by c.in-None.is c.next.ensures.steps)
    (c.loop-v.invariant names)
