use Rattle.std.proofs.Common.{rules, arith, refl, ◌∙◌}
use Rattle.std.proofs.lemmas.List.{length-map}
use Rattle.qk_script.specs.Answer.{event_of}
use Rattle.qk_top.proofs.Plays.{first_part, no_blocks, event_part, event_blocks, played_none, played_more, played_all, played_in_bits, event_there, handed_on, want_handed}
use Rattle.qk_top.proofs.play.play.Goals as goal

pub returns-in_err-put_first-clause-failed : goal.returns-in_err-put_first-clause-failed
returns-in_err-put_first-clause-failed g c failed = first_part _ _ _ _ c.in_err-put_first.ensures.front

pub returns-in_err-put_first-clause-want : goal.returns-in_err-put_first-clause-want
returns-in_err-put_first-clause-want g c want = no_blocks _ _ _ _ (c.in_err-put_first.ensures.want (want_handed _ _ (search rules) want))

pub loop-index-init : goal.loop-index-init
loop-index-init g c = record {
  played = played_in_bits _ _ 0 _ _ _ _ (omega arith) refl (played_none _ _ _ _ c.requires.initial c.in_ok-put_first.ensures.played);
  faults = c.in_ok-put_first.ensures.cause.ok;
}

pub put_event-requires : goal.put_event-requires
put_event-requires g c = omega (arith, c.loop-index.invariant.played.small, c.requires.short, c.loop-index-test.true)

pub loop-index-preserved : goal.loop-index-preserved
loop-index-preserved g c = record {
  played = played_in_bits _ _ _ _ _ _ _ (omega arith) c.in_ok-number.ensures.number
      (played_more _ _ _ _ _ _ _ _ c.loop-index.invariant.played (rw length-map c.loop-index-test.true) (event_there (λ e. event_of e.now) _ _ c.index-events-index.result c.loop-index-test.true c.index-events-index.is) c.in_ok-number.ensures.played);
  faults = c.in_ok-number.ensures.cause.ok ∙ c.loop-index.invariant.faults;
}

pub returns-clause-played : goal.returns-clause-played
returns-clause-played g c = played_all _ _ _ _ _ _ c.loop-index.invariant.played (rw length-map c.loop-index-test.false)

pub returns-in_err-number-clause-failed : goal.returns-in_err-number-clause-failed
returns-in_err-number-clause-failed g c failed =
    event_part _ _ _ _ _ _ _ _ c.loop-index.invariant.played (rw length-map c.loop-index-test.true) (event_there (λ e. event_of e.now) _ _ c.index-events-index.result c.loop-index-test.true c.index-events-index.is) c.in_err-number.ensures.front

pub returns-in_err-number-clause-want : goal.returns-in_err-number-clause-want
returns-in_err-number-clause-want g c want = event_blocks _ _ _ _ _ _ _ c.loop-index.invariant.played (c.in_err-number.ensures.want (want_handed _ _ (search rules) want))

pub returns-in_err-number-clause-cause : goal.returns-in_err-number-clause-cause
returns-in_err-number-clause-cause g c = handed_on _ _ _ _ _ c.loop-index.invariant.faults c.in_err-number.ensures.cause (search rules)
