use Rattle.std.proofs.Common.{◌∙◌, ap}
use Rattle.std.specs.Option.{option_map}
use Rattle.qk_lex.specs.Regions.{region_of}
use Rattle.qk_lex.proofs.Lifts.{in_module}
use Rattle.qk_lex.proofs.step.next_token.Goals as goal

pub returns-in-None-clause-value : goal.returns-in-None-clause-value
returns-in-None-clause-value c = λ around e. in_module around c.args.before_jsx _ _ (e ∙ ap (λ o. option_map region_of o) c.in-None.is) c.code_token.ensures.value

pub returns-in-Some-clause-value : goal.returns-in-Some-clause-value
returns-in-Some-clause-value c = λ around e. c.token_in.ensures.value around (e ∙ ap (λ o. option_map region_of o) c.in-Some.is)
