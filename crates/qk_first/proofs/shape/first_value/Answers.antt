use Rattle.qk_ast.specs.declared.Expr.TheVariants as e
use Rattle.qk_first.proofs.shape.first_value.Goals as goal

pub returns-in_err-n-clause-whole : goal.returns-in_err-n-clause-whole
returns-in_err-n-clause-whole c n h = absurd (c.in_err-n.ensures.whole (e.Int n) h)

pub returns-in_default : goal.returns-in_default
returns-in_default c = record { found = tt; whole = λ n h. absurd (c.in_default.not-Int n (c.in_ok-n.ensures.whole (e.Int n) h)) }
