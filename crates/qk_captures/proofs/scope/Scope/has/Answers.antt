use Rattle.std.proofs.Common.{sym, ◌∙◌}
use Rattle.qk_captures.proofs.Scopes.{has_track, has_other}
use Rattle.qk_captures.proofs.scope.Scope.has.Goals as goal

pub returns-then-eq : goal.returns-then-eq
returns-then-eq c = has_track c.args.name.now c.args.self.now (sym c.eq.ensures ∙ c.if-eq.true)

pub returns-else-eq : goal.returns-else-eq
returns-else-eq c = c.has.ensures ∙ has_other c.args.name.now c.args.self.now (sym c.eq.ensures ∙ c.if-eq.false)
