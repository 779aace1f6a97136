use Rattle.std.proofs.Common.{◌∙◌, sym}
use Rattle.qk_lex.proofs.BytesLemmas.{no_front, not_longer, longer}
use Rattle.qk_lex.proofs.tables.better.Goals as goal

pub returns-then-not-begins_with : goal.returns-then-not-begins_with
returns-then-not-begins_with c = no_front c.args.best.now c.args.sign.now c.args.text.now (sym c.begins_with.ensures ∙ c.if-not-begins_with.true)

pub returns-then-best-sign : goal.returns-then-best-sign
returns-then-best-sign c = longer c.args.best.now c.args.sign.now c.args.text.now (sym c.begins_with.ensures ∙ c.if-not-begins_with.false) c.if-best-sign.true

pub returns-else-best-sign : goal.returns-else-best-sign
returns-else-best-sign c = not_longer c.args.best.now c.args.sign.now c.args.text.now c.if-best-sign.false
