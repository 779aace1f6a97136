use Rattle.std.proofs.Common.{rules, refl}
use Rattle.qk_eval.proofs.Roots.{ran_root_used, ran_root_lost, ran_root_refused}
use Rattle.qk_eval.proofs.stepping.root_named.Goals as goal

pub returns-in_err-root : goal.returns-in_err-root
returns-in_err-root g c = λ outer none. ran_root_refused _ _ c.args.here.now.func.now c.args.here.now.mode c.args.here.now.running.now c.args.here.now.levels _ _ _ _ _ _ _ c.in_err-root.field-0.0 (search rules) refl none c.in_err-root.ensures.grows c.in_err-root.ensures.cause c.in_err-root.ensures.asks

pub returns-in_err-root_value : goal.returns-in_err-root_value
returns-in_err-root_value g c = λ outer none. ran_root_lost _ _ _ c.args.here.now.func.now c.args.here.now.mode c.args.here.now.running.now c.args.here.now.levels _ _ _ _ _ _ (search rules) c.in_ok-root.ensures.grows c.in_ok-root.ensures.cause.cause

pub returns : goal.returns
returns g c = λ outer none. ran_root_used _ _ _ c.args.here.now.func.now c.args.here.now.mode c.args.here.now.running.now c.args.here.now.levels _ _ _ _ _ _ _ _ refl c.in_ok-root.ensures.gives c.in_ok-root.ensures.grows c.in_ok-root.ensures.cause.cause c.in_ok-root.ensures.asks (λ p m. c.in_ok-root_value.ensures p _ _ m)
