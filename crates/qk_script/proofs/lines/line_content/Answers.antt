use Rattle.qk_script.proofs.LineTexts.{content_stripped, content_plain}
use Rattle.qk_script.proofs.lines.line_content.Goals as goal

pub returns-in-Some : goal.returns-in-Some
unfolding lib.Utf8.encode
returns-in-Some c = content_stripped c.args.line.now c.in-Some.content.now c.in-Some.ensures.cases.0 c.in-Some.ensures.cases.2 c.in-Some.ensures.cases.1.1.split

pub returns-in-None : goal.returns-in-None
unfolding lib.Utf8.encode
returns-in-None c = content_plain c.args.line.now c.in-None.ensures.cases
