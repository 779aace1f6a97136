use Rattle.std.proofs.Common.{refl}
use Rattle.qk_meaning.specs.References.{written_to}
use Rattle.qk_making.specs.Acting.{seen_in}
use Rattle.qk_eval.proofs.Acted.{ran_acted}
use Rattle.qk_eval.proofs.stepping.store_member.Goals as goal

pub returns : goal.returns
returns g c = λ outer. ran_acted _ _ _ c.args.here.now.func.now c.args.here.now.mode c.args.here.now.running.now c.args.here.now.levels _ (λ here. written_to here (seen_in here c.args.object.now) (seen_in here c.args.key.now) (seen_in here c.args.v)) c.args.machine.now.heap _ _ _ _ (λ p. refl) c.write_member.ensures
