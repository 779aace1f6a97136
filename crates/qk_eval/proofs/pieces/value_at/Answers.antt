use Rattle.std.proofs.Common.{sym, ◌∙◌, ap}
use Rattle.std.specs.Option.{option_copied}
use Rattle.qk_value.specs.declared.value.Value.{Value}
use Rattle.qk_value.specs.View.{seen}
use Rattle.qk_acts.proofs.Looked.{got}
use Rattle.qk_eval.proofs.Binding.{first_there}
use Rattle.qk_eval.proofs.Plain_steps.{if_ok}
use Rattle.qk_eval.proofs.pieces.value_at.Goals as goal

pub returns-in-Some : goal.returns-in-Some
returns-in-Some c = if_ok c.share.result (λ v same names. first_there names c.args.given.now c.args.at c.in-Some.v.now (sym (got c.args.given.now c.args.at c.get.result c.get.ensures.lookup) ∙ ap option_copied c.in-Some.is) ∙ ap {A = Value} (seen names) (sym same)) c.share.ensures
