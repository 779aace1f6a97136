use Rattle.std.proofs.Common.{◌∙◌, sym}
use Rattle.qk_lex.proofs.TableLemmas.{sign_none, sign_some}
use Rattle.qk_lex.proofs.step.sign_of.Goals as goal

pub returns-then-is_empty-clause-value : goal.returns-then-is_empty-clause-value
returns-then-is_empty-clause-value c = λ x e. sign_none c.args.signs _ _ c.sign_at-sign.ensures (sym c.is_empty.ensures ∙ c.if-is_empty.true)

pub returns-clause-value : goal.returns-clause-value
returns-clause-value c = λ x e. sign_some c.args.signs _ _ _ _ x c.sign_at-sign.ensures (sym c.is_empty.ensures ∙ c.if-is_empty.false) e c.skip.ensures.value
