use Rattle.std.proofs.Common.{refl}
use Rattle.qk_eval.specs.Placing.{setting}
use Rattle.qk_eval.proofs.Expressions.{to_arrow}
use Rattle.qk_eval.proofs.Acted.{ran_function}
use Rattle.qk_eval.proofs.stepping.arrow_value.Goals as goal

pub returns : goal.returns
returns g c = to_arrow _ _ _ (setting c.args.here.now) _ _ _ c.args.arrow.now (ran_function _ _ c.args.here.now.func.now c.args.here.now.mode c.args.here.now.running.now c.args.here.now.levels _ c.args.scope.now.names.items c.args.arrow.now.place _ c.make_function.ensures.cause (λ p. refl) c.make_function.ensures.made)
