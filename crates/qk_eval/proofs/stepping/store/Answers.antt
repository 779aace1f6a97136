use Rattle.std.proofs.Common.{rules, refl}
use Rattle.qk_meaning.specs.Program.{captures_in}
use Rattle.qk_code.proofs.Runs.{ran_lost, ran_gives}
use Rattle.qk_eval.specs.Placing.{setting}
use Rattle.qk_eval.proofs.Storing.{ran_stored}
use Rattle.qk_eval.proofs.stepping.store.Goals as goal

pub returns-in_err-share-in-Member : goal.returns-in_err-share-in-Member
returns-in_err-share-in-Member g c = ran_lost _ _ _ _ _ _ _ (search rules)

pub returns-in-Member : goal.returns-in-Member
returns-in-Member g c = rw c.in-Member.is ((rw c.in_ok-share-in-Member.ensures at c.store_member.ensures) _)

pub returns-in_err-share-in-Local : goal.returns-in_err-share-in-Local
returns-in_err-share-in-Local g c = ran_lost _ _ _ _ _ _ _ (search rules)

pub returns-in-Local : goal.returns-in-Local
returns-in-Local g c = rw c.in-Local.is (ran_stored _ _ _ (setting c.args.here.now) _ c.in-Local.name c.args.v.now _ _ c.in_ok-share-in-Local.ensures (λ p. c.assign.ensures (captures_in p)))

pub returns-in-Of : goal.returns-in-Of
returns-in-Of g c = rw c.in-Of.is (ran_gives _ _ _ _ _ _ _ (λ p k past. refl))

pub returns-in-Tracker : goal.returns-in-Tracker
returns-in-Tracker g c = rw c.in-Tracker.is (ran_gives _ _ _ _ _ _ _ (λ p k past. refl))

pub returns : goal.returns
returns g c = rw c.in-Framework.is (ran_gives _ _ _ _ _ _ _ (λ p k past. refl))
