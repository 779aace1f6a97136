use Rattle.std.proofs.Common.{subst, sym}
use Rattle.qk_ast.specs.declared.Form.TheVariants.{Source}
use Rattle.qk_ast.specs.Derives.{Derives}
use Rattle.qk_parse.specs.Parsing.{Refused, NoneDerived}
use Rattle.qk_modules.specs.Gathering.{RefusedText, not_utf8, too_many}
use Rattle.qk_modules.proofs.Texts_refused.{text_refused}
use Rattle.qk_modules.proofs.turn.parsed.Goals as goal

pub returns-in_default : goal.returns-in_default
returns-in_default c = not_utf8 c.in_default.ensures.cases.0

pub returns-in-Ok-parse_module : goal.returns-in-Ok-parse_module
returns-in-Ok-parse_module c = too_many c.if-before-ge-MODULES.true (subst (λ t. Derives Source t c.in-Ok-parse_module.field-0) c.in-Ok.ensures.cases.0 c.in-Ok-parse_module.ensures.derived)

pub returns-in-Err : goal.returns-in-Err
returns-in-Err c =
    subst (RefusedText c.args.before c.args.name c.args.bytes.now) (sym c.unparsed.ensures)
    (text_refused c.args.before c.args.name c.args.bytes.now c.in-Err.fault c.in-Ok.ensures.cases.1
    (subst (λ t. Refused Source t c.in-Err.fault) c.in-Ok.ensures.cases.0 c.in-Err.ensures.refused)
    (subst (λ t. NoneDerived Source t c.in-Err.fault) c.in-Ok.ensures.cases.0 c.in-Err.ensures.none))
