use Rattle.std.proofs.Common.{arith}
use Rattle.qk_script.proofs.Cuts.{cut_some, cut_none}
use Rattle.qk_script.proofs.lines.first_word.Goals as goal

pub returns-in-Some-clause-parts : goal.returns-in-Some-clause-parts
returns-in-Some-clause-parts c =
    let parts = c.in-Some.ensures.byte (omega (arith)) (λ w o h. h) in
    (cut_some 32 c.args.text.now c.in-Some.word.now c.in-Some.after.now parts.0 parts.1 parts.2).0

pub returns-in-Some-clause-word : goal.returns-in-Some-clause-word
returns-in-Some-clause-word c =
    let parts = c.in-Some.ensures.byte (omega (arith)) (λ w o h. h) in
    (cut_some 32 c.args.text.now c.in-Some.word.now c.in-Some.after.now parts.0 parts.1 parts.2).1

pub returns-in-None-clause-word : goal.returns-in-None-clause-word
returns-in-None-clause-word c = cut_none 32 c.args.text.now (c.in-None.ensures.byte (omega (arith)) (λ w o h. h))
