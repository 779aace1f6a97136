use Rattle.std.proofs.Common.{refl}
use Rattle.qk_meaning.specs.References.{member_removed}
use Rattle.qk_meaning.specs.Setting.{is_effect}
use Rattle.qk_making.specs.Acting.{seen_in}
use Rattle.qk_code.proofs.Runs.{ran_gives}
use Rattle.qk_eval.proofs.Acted.{ran_acted}
use Rattle.qk_eval.proofs.stepping.remove.Goals as goal

pub returns-in-Member : goal.returns-in-Member
returns-in-Member g c = λ outer. rw c.in-Member.is (ran_acted _ _ _ c.args.here.now.func.now c.args.here.now.mode c.args.here.now.running.now c.args.here.now.levels _ (λ here. member_removed here (is_effect here.mode) (seen_in here c.in-Member.object) (seen_in here c.in-Member.key)) c.args.machine.now.heap _ _ _ _ (λ p. refl) c.remove_member.ensures)

pub returns-in-Of : goal.returns-in-Of
returns-in-Of g c = λ outer. rw c.in-Of.is (ran_gives _ _ _ _ _ _ _ (λ p k past. refl))

pub returns-in-Local : goal.returns-in-Local
returns-in-Local g c = λ outer. rw c.in-Local.is (ran_gives _ _ _ _ _ _ _ (λ p k past. refl))

pub returns-in-Tracker : goal.returns-in-Tracker
returns-in-Tracker g c = λ outer. rw c.in-Tracker.is (ran_gives _ _ _ _ _ _ _ (λ p k past. refl))

pub returns-in-Framework : goal.returns-in-Framework
returns-in-Framework g c = λ outer. rw c.in-Framework.is (ran_gives _ _ _ _ _ _ _ (λ p k past. refl))
