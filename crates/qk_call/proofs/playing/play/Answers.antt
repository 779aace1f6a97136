use Rattle.qk_meaning.specs.Value.{end}
use Rattle.qk_call.proofs.Plays.{plays}
use Rattle.qk_call.proofs.playing.play.Goals as goal

pub returns-clause-plays : goal.returns-clause-plays
returns-clause-plays g c =
    plays g.C.Code.form c.args.mode c.args.f.now c.args.most (g.C.Code.sources c.args.code.now) (g.C.Code.sources c.call-result.new.code) (g.C.Code.counts c.args.code.now) (g.C.Code.counts c.call-result.new.code)
    (g.C.Code.asked c.args.code.now) (g.C.Code.asked c.call-result.new.code) c.call-result.new.host.lines c.call-result.new.machine
    c.in_ok-came_by.field-0 c.call-result.result c.new.result c.new-2.result c.new-console.result.lines
    c.in_ok-came_by.ensures c.new.ensures c.new-2.ensures c.new-console.ensures (c.call-result.ensures (λ p. end))

pub returns-clause-grows : goal.returns-clause-grows
returns-clause-grows g c = (c.call-result.ensures (λ p. end)).grows

pub returns-in_err-came_by-clause-grows : goal.returns-in_err-came_by-clause-grows
returns-in_err-came_by-clause-grows g c = (c.call-result.ensures (λ p. end)).grows
