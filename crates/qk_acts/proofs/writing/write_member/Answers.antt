use Rattle.std.proofs.Common.{rules}
use Rattle.qk_meaning.specs.Setting.{captures}
use Rattle.qk_meaning.specs.Writing.{written}
use Rattle.qk_making.specs.Acting.{seen_in}
use Rattle.qk_acts.specs.Naming.{nothing}
use Rattle.qk_acts.proofs.Changing.{made_at, acts_open, acts_shut, acts_turned, acts_kept}
use Rattle.qk_acts.proofs.writing.write_member.Goals as goal

pub returns-in_err-a : goal.returns-in_err-a
returns-in_err-a g c = λ here mode_is. acts_shut here c.args.mode mode_is c.args.heap.now c.args.object.now (nothing here) _ _ _ _ (search rules) c.in_err-a.ensures

pub write-requires : goal.write-requires
write-requires g c = made_at c.args.mode c.args.heap.now c.args.object.now c.in_ok-a.a c.in_ok-a.ensures

pub returns-in_err-write : goal.returns-in_err-write
returns-in_err-write g c = λ here mode_is.
    acts_open here c.args.mode mode_is c.args.heap.now c.args.object.now (nothing here) _ _ _ c.in_ok-a.a _ _ c.in_ok-a.ensures
    (acts_kept here c.args.mode mode_is c.args.heap.now c.args.object.now (nothing here) g.H.Watch.stands_for c.args.host.now c.write.new.w c.in_ok-a.a (λ o. written o (seen_in here c.args.key.now) (seen_in here c.args.v)) c.write.new.self _ _ (search rules) c.in_err-write.ensures.kept c.in_ok-a.ensures (c.in_err-write.ensures.refused (captures here)) c.in_err-write.ensures.silent)

pub returns : goal.returns
returns g c = λ here mode_is.
    acts_open here c.args.mode mode_is c.args.heap.now c.args.object.now (nothing here) _ _ _ c.in_ok-a.a _ _ c.in_ok-a.ensures
    (acts_turned here c.args.mode mode_is c.args.heap.now c.args.object.now g.H.Watch.stands_for c.args.host.now c.write.new.w c.in_ok-a.a (λ o. written o (seen_in here c.args.key.now) (seen_in here c.args.v)) c.write.new.self c.in_ok-a.ensures (c.in_ok-write.ensures.became (captures here)))
