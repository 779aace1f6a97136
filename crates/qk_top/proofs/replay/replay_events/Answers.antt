use Rattle.std.proofs.Common.{rules, inr}
use Rattle.std.proofs.lemmas.List.{length-map}
use Rattle.qk_top.specs.declared.refusal.Kind.TheVariants as kind
use Rattle.qk_top.proofs.Comings.{application_plays, application_is, part_put, blocks_put, fault_ended, not_built_ended}
use Rattle.qk_top.proofs.Stopped.{no_usage, no_store, no_sink}
use Rattle.qk_top.proofs.replay.replay_events.Goals as goal

pub returns-in_err-application-clause-comes : goal.returns-in_err-application-clause-comes
returns-in_err-application-clause-comes g c told e = fault_ended told _ _ _ _ (c.in_err-application.ensures.found told e) (search rules)

pub returns-in_default-clause-comes : goal.returns-in_default-clause-comes
returns-in_default-clause-comes g c told e = not_built_ended told _ _ _ _ (c.in_ok-application.ensures.found told e) c.in_default.ensures.none c.refused_root.ensures

pub returns-in-Ok-clause-comes : goal.returns-in-Ok-clause-comes
returns-in-Ok-clause-comes g c told e =
    let some = c.in-Some.ensures.some in
    (_, application_plays told _ some.0 _ _ (c.in_ok-application.ensures.found told e) some.1 some.2 (rw length-map c.requires), c.in-Ok.ensures.played)

pub returns-in-Err-Failed-clause-comes : goal.returns-in-Err-Failed-clause-comes
returns-in-Err-Failed-clause-comes g c told e =
    let some = c.in-Some.ensures.some in
    (some.0, application_is told _ some.0 _ (c.in_ok-application.ensures.found told e) some.1 some.2, part_put some.0 _ _ _ _ some.2 (rw length-map c.requires) (c.play.ensures.failed (search rules)))

pub returns-clause-comes : goal.returns-clause-comes
returns-clause-comes g c told e =
    let some = c.in-Some.ensures.some in
    inr (some.0, application_is told _ some.0 _ (c.in_ok-application.ensures.found told e) some.1 some.2, blocks_put some.0 _ _ _ _ some.2 (rw length-map c.requires) (c.play.ensures.want (search rules)))

pub returns-in_default-clause-command : goal.returns-in_default-clause-command
returns-in_default-clause-command g c e = no_usage kind.NotBuilt _ c.refused_root.ensures e

pub returns-in_default-clause-store : goal.returns-in_default-clause-store
returns-in_default-clause-store g c = no_store kind.NotBuilt _ c.refused_root.ensures _ _ _ c.in_ok-application.ensures.cause

pub returns-in_default-clause-sink : goal.returns-in_default-clause-sink
returns-in_default-clause-sink g c = no_sink kind.NotBuilt _ c.refused_root.ensures _
