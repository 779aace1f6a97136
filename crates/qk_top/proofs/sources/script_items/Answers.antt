use Rattle.qk_top.specs.Script.{not_utf8}
use Rattle.qk_top.proofs.Readings.{line_refused, many_refused}
use Rattle.qk_top.proofs.sources.script_items.Goals as goal

pub returns-in_default : goal.returns-in_default
returns-in_default c = not_utf8 c.requires c.in_default.ensures.cases.0

pub returns-in-Err-Line : goal.returns-in-Err-Line
returns-in-Err-Line c = line_refused _ _ c.requires c.in-Ok.ensures.cases _ c.in-Err-Line.number c.in-Err-Line.ensures.fault c.in-Err-Line.field-0-is

pub returns-in-Err-TooMany : goal.returns-in-Err-TooMany
returns-in-Err-TooMany c = many_refused _ _ c.requires c.in-Ok.ensures.cases _ c.in-Err-TooMany.ensures.fault c.in-Err-TooMany.field-0-is
