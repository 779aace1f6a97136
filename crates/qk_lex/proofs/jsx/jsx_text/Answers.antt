use Rattle.std.proofs.Common.{◌∙◌, sym}
use Rattle.qk_lex.proofs.JoinLemmas.{plain_jsx}
use Rattle.qk_lex.proofs.jsx.jsx_text.Goals as goal

pub returns-then-is_plain-clause-text : goal.returns-then-is_plain-clause-text
returns-then-is_plain-clause-text c = c.in_ok-from_str.ensures.ok ∙ plain_jsx c.args.raw.now c.utf8.raw (sym c.is_plain.ensures ∙ c.if-is_plain.true)
