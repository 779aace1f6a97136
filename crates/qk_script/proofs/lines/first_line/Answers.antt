use Rattle.std.proofs.Common.{ap, ◌∙◌, arith}
use Rattle.qk_script.specs.Script.{lines_of}
use Rattle.qk_script.proofs.Cuts.{cut_some, cut_none}
use Rattle.qk_script.proofs.LineTexts.{lines_cut, text_whole}
use Rattle.qk_script.proofs.lines.first_line.Goals as goal

pub returns-in-Some-clause-lines : goal.returns-in-Some-clause-lines
returns-in-Some-clause-lines c some =
    let parts = c.in-Some.ensures.byte (omega (arith)) (λ w o h. h) in
    let cut = cut_some 10 c.args.text.now c.in-Some.line.now c.in-Some.after.now parts.0 parts.1 parts.2 in
    ap lines_of cut.0 ∙ lines_cut c.in-Some.line.now c.in-Some.after.now cut.1

pub returns-in-None-clause-lines : goal.returns-in-None-clause-lines
returns-in-None-clause-lines c some = text_whole c.args.text.now some (cut_none 10 c.args.text.now (c.in-None.ensures.byte (omega (arith)) (λ w o h. h)))
