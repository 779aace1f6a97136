use Rattle.std.proofs.Common.{rules, ap, sym, subst, ◌∙◌, refl, ◌≡◌, ◌≤◌, map}
use Rattle.std.specs.Prelude.{IfSome, IfNone, Contains}
use Rattle.std.proofs.lemmas.List.{length-map}
use Rattle.qk_meaning.specs.Run.{Happens, Pauses}
use Rattle.qk_script.specs.Answer.{event_of, item_of}
use Rattle.qk_top.specs.Answers.{refused_script}
use Rattle.qk_top.specs.Script.{with_pause}
use Rattle.qk_top.proofs.Scripts.{few_events}
use Rattle.qk_top.proofs.Comings.{script_ended, spells_events, plays_events, events_ended}
use Rattle.qk_top.proofs.Orders.{script_alone, script_and_modules}
use Rattle.qk_top.proofs.replay.replay.Goals as goal

pub returns-in_err-items-clause-comes : goal.returns-in_err-items-clause-comes
returns-in_err-items-clause-comes g c told e = script_ended _ told _ _ _ _ c.in-Some.ensures.some (c.in_err-items.ensures.found told e) (search rules)

pub replay_events-requires : goal.replay_events-requires
replay_events-requires g c =
    let happened = subst (λ o. IfSome o (λ events. map item_of c.as_slice.result.now ≡ map Happens (map (λ e. event_of e.now) events.items))) c.in-Ok-Some.field-0-is c.in-Ok-Some.ensures.some in
    let items_are = ap (map item_of) (sym c.as_slice.ensures.value) ∙ happened in
    let lent = ap (map (λ e. event_of e.now)) c.as_slice-in-Ok-Some.ensures.value in
    let read = c.in_ok-items.ensures.read in
    subst (λ n. n ≤ 65536) (length-map _ (λ e. event_of e.now)) (few_events read.0 _ (spells_events read.0 _ _ _ read.1 items_are lent))

pub returns-in-Ok-Some-clause-comes : goal.returns-in-Ok-Some-clause-comes
returns-in-Ok-Some-clause-comes g c told e =
    let happened = subst (λ o. IfSome o (λ events. map item_of c.as_slice.result.now ≡ map Happens (map (λ e. event_of e.now) events.items))) c.in-Ok-Some.field-0-is c.in-Ok-Some.ensures.some in
    let items_are = ap (map item_of) (sym c.as_slice.ensures.value) ∙ happened in
    let lent = ap (map (λ e. event_of e.now)) c.as_slice-in-Ok-Some.ensures.value in
    let found = c.in_ok-items.ensures.found told e in
    events_ended _ told _ _ _ _ (plays_events _ told _ found.0 _ _ _ c.in-Some.ensures.some found.1 found.2 items_are lent) (c.replay_events.ensures.comes told (c.in_ok-items.ensures.files ∙ e))

pub returns-in-Ok-None-clause-comes : goal.returns-in-Ok-None-clause-comes
returns-in-Ok-None-clause-comes g c told e =
    let pauses = subst (λ o. IfNone o (Contains (map item_of c.as_slice.result.now) Pauses)) c.in-Ok-None.field-0-is c.in-Ok-None.ensures.none in
    let found = c.in_ok-items.ensures.found told e in
    (refused_script c.in-Some.ensures.some found.1 (with_pause found.2 (subst (λ items. Contains (map item_of items) Pauses) c.as_slice.ensures.value pauses)), refl)

pub returns-in_err-items-clause-order : goal.returns-in_err-items-clause-order
returns-in_err-items-clause-order g c = script_alone _ _ _ _ _ c.in-Some.ensures.some c.in_err-items.ensures.reads

pub returns-in-Ok-Some-clause-order : goal.returns-in-Ok-Some-clause-order
returns-in-Ok-Some-clause-order g c =
    let happened = subst (λ o. IfSome o (λ events. map item_of c.as_slice.result.now ≡ map Happens (map (λ e. event_of e.now) events.items))) c.in-Ok-Some.field-0-is c.in-Ok-Some.ensures.some in
    let items_are = ap (map item_of) (sym c.as_slice.ensures.value) ∙ happened in
    let lent = ap (map (λ e. event_of e.now)) c.as_slice-in-Ok-Some.ensures.value in
    let read = c.in_ok-items.ensures.read in
    script_and_modules _ _ _ _ read.0 _ _ _ _ c.in-Some.ensures.some (spells_events read.0 _ _ _ read.1 items_are lent) read.2 c.in_ok-items.ensures.files c.replay_events.ensures.reads

pub returns-in-Ok-None-clause-order : goal.returns-in-Ok-None-clause-order
returns-in-Ok-None-clause-order g c = script_alone _ _ _ _ _ c.in-Some.ensures.some c.in_ok-items.ensures.reads

pub returns-clause-order : goal.returns-clause-order
returns-clause-order g c = script_alone _ _ _ _ _ c.in-Some.ensures.some c.in_ok-items.ensures.reads
