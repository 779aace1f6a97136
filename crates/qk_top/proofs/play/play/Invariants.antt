use Rattle.std.proofs.Common.{map, ◌≡◌}
use Rattle.qk_script.specs.Answer.{event_of}
use Rattle.qk_first.specs.Kept.{counter_in}
use Rattle.qk_top.proofs.Plays.{IsPlayed}
use Rattle.qk_top.proofs.play.play.Given as goal

abbrev pub invariant-loop-index : goal.invariant-loop-index
invariant-loop-index g l = record {
  played : IsPlayed (counter_in l.counter) (map (λ e. event_of e.now) l.events) l.index l.number (g.K.Sink.bytes l.fn.out) (g.K.Sink.bytes l.out);
  faults : g.K.Sink.faults l.out ≡ g.K.Sink.faults l.fn.out;
}
