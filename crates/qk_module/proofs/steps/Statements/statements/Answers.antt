use Rattle.std.proofs.Common.{true, [], refl, rules, arith}
use Rattle.std.proofs.lemmas.Grind.{common_steps}
use Rattle.qk_reading.specs.Input.{left}
use Rattle.qk_reading.specs.Reader.{nesting}
use Rattle.qk_reading.specs.Statements.{statements_from}
use Rattle.qk_grammar.proofs.Turns.{one_more}
use Rattle.qk_module.proofs.steps.Statements.statements.Goals as goal

pub loop-turn-preserved : goal.loop-turn-preserved
unfolding statements_from
loop-turn-preserved g c =
    let forms = c.args.self.now.forms in
    let begun = statements_from forms.form forms.room (nesting forms.form forms.room) c.args.looped true (left c.args.tokens.now) [] c.args.tokens.now in
    let e = one_more {x = begun} (λ n. statements_from forms.form forms.room (nesting forms.form forms.room) c.args.looped c.loop-turn.first n c.loop-turn.found c.loop-turn.tokens) c.left-turn-end.result c.loop-turn._turn c.loop-turn-test.true c.loop-turn.invariant in
    rw (e, ← c.sees.ensures, c.if-sees.false, c.in_ok-statement.ensures, c.in_ok-push.ensures.appended) refl

pub returns-in_err-statement : goal.returns-in_err-statement
unfolding statements_from
returns-in_err-statement g c =
    let forms = c.args.self.now.forms in
    let begun = statements_from forms.form forms.room (nesting forms.form forms.room) c.args.looped true (left c.args.tokens.now) [] c.args.tokens.now in
    let e = one_more {x = begun} (λ n. statements_from forms.form forms.room (nesting forms.form forms.room) c.args.looped c.loop-turn.first n c.loop-turn.found c.loop-turn.tokens) c.left-turn-end.result c.loop-turn._turn c.loop-turn-test.true c.loop-turn.invariant in
    rw (e, ← c.sees.ensures, c.if-sees.false) (first_of (search rules, grind (arith, common_steps)))
