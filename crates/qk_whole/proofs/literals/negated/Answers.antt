use Rattle.qk_whole.proofs.Literal_rows.{negated_itself}
use Rattle.qk_whole.proofs.literals.negated.Goals as goal

pub returns-in_default : goal.returns-in_default
returns-in_default c = λ names. negated_itself names c.args.v c.in_default.not-Int
