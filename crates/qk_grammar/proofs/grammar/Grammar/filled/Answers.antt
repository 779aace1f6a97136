use Rattle.std.proofs.Common.{◌≡◌, suc, ◌+◌, ◌-◌, [], ◌∷◌, ap, rules, arith}
use Rattle.std.proofs.lemmas.Grind.{common_steps}
use Rattle.qk_reading.specs.Input.{left}
use Rattle.qk_reading.specs.Forms.{holes_from}
use Rattle.qk_reading.specs.Reader.{nesting}
use Rattle.qk_grammar.proofs.Turns.{one_more}
use Rattle.qk_grammar.proofs.grammar.Grammar.filled.Goals as goal

pub loop-turn-init : goal.loop-turn-init
loop-turn-init g c =
    let turns : suc (left c.args.tokens.now) ≡ c.left-turn-end.result + 1 - 0 = omega (arith, c.left-turn-end.ensures.left) in
    let e = ap (λ n. holes_from c.args.self.now.form c.args.self.now.room (nesting c.args.self.now.form c.args.self.now.room) n (c.args.first ∷ []) [] c.args.tokens.now) turns in
    first_of (search rules, grind (arith, common_steps))

pub loop-turn-preserved : goal.loop-turn-preserved
unfolding holes_from
loop-turn-preserved g c =
    let e = one_more (λ n. holes_from c.args.self.now.form c.args.self.now.room (nesting c.args.self.now.form c.args.self.now.room) n c.loop-turn.parts c.loop-turn.values c.loop-turn.tokens) _ c.loop-turn._turn c.loop-turn-test.true c.loop-turn.invariant in
    first_of (search rules, grind (arith, common_steps))

pub returns-in_err-nested : goal.returns-in_err-nested
unfolding holes_from
returns-in_err-nested g c =
    let e = one_more (λ n. holes_from c.args.self.now.form c.args.self.now.room (nesting c.args.self.now.form c.args.self.now.room) n c.loop-turn.parts c.loop-turn.values c.loop-turn.tokens) _ c.loop-turn._turn c.loop-turn-test.true c.loop-turn.invariant in
    first_of (search rules, grind (arith, common_steps))

pub returns-in_err-part : goal.returns-in_err-part
unfolding holes_from
returns-in_err-part g c =
    let e = one_more (λ n. holes_from c.args.self.now.form c.args.self.now.room (nesting c.args.self.now.form c.args.self.now.room) n c.loop-turn.parts c.loop-turn.values c.loop-turn.tokens) _ c.loop-turn._turn c.loop-turn-test.true c.loop-turn.invariant in
    first_of (search rules, grind (arith, common_steps))
