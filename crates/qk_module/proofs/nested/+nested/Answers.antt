use Rattle.std.proofs.Common.{◌≡◌, ap, arith}
use Rattle.qk_reading.specs.Reader.{nesting}
use Rattle.qk_grammar.specs.Seen.{inner_of, group_of}
use Rattle.qk_grammar.proofs.Turns.{deeper}
use Rattle.qk_module.proofs.nested.+nested.Goals as goal

pub body-returns-then-room-eq0 : goal.body-returns-then-room-eq0
unfolding nesting
body-returns-then-room-eq0 t c _ = let none : c.args.room ≡ 0 = omega arith in rw c.too_deep.ensures (ap (λ n. (nesting c.args.form n).body c.args.tokens.now) none)

pub body-returns : goal.body-returns
unfolding nesting
body-returns t c = rw (deeper (λ n. (nesting c.args.form n).body c.args.tokens.now) c.args.room (omega arith)) c.body.ensures

pub group-returns-then-room-eq0 : goal.group-returns-then-room-eq0
unfolding nesting
group-returns-then-room-eq0 t c _ = let none : c.args.room ≡ 0 = omega arith in rw c.too_deep.ensures (ap (λ n. (nesting c.args.form n).group (group_of c.args.which) c.args.tokens.now) none)

pub group-returns : goal.group-returns
unfolding nesting
group-returns t c = rw (deeper (λ n. (nesting c.args.form n).group (group_of c.args.which) c.args.tokens.now) c.args.room (omega arith)) c.group.ensures

pub value-returns-then-room-eq0 : goal.value-returns-then-room-eq0
unfolding nesting
value-returns-then-room-eq0 t c _ = let none : c.args.room ≡ 0 = omega arith in rw c.too_deep.ensures (ap (λ n. (nesting c.args.form n).value (inner_of c.args.which) c.args.tokens.now) none)

pub value-returns : goal.value-returns
unfolding nesting
value-returns t c = rw (deeper (λ n. (nesting c.args.form n).value (inner_of c.args.which) c.args.tokens.now) c.args.room (omega arith)) c.level.ensures
