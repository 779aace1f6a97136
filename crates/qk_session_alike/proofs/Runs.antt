-- Each run of one program has a run of the other that shows the same.
use Rattle.std.specs.Prelude.{◌≡◌, refl, List, [], ◌∷◌}
use Rattle.std.proofs.Common.{sym, ◌∙◌, subst}
use Rattle.qk_meaning.specs.Value.{Text}
use Rattle.qk_meaning.specs.World.{World}
use Rattle.qk_meaning.specs.Fault.{Fault}
use Rattle.qk_meaning.specs.Program.{Program}
use Rattle.qk_meaning.specs.Doing.{Why, Faults, Ends, Outcome, Gives, Stops, has_ended}
use Rattle.qk_meaning.specs.Session.{Session, world_of}
use Rattle.qk_meaning.specs.Item.{Block, Limits, first_item, event_item}
use Rattle.qk_meaning.specs.Run.{Line, Happens, Pauses, Entry, Played, Paused, Faulted, Ended, Run_from, played_all, paused, played, faulted, endless, Run, rendered, render_faulted, render_endless}
use Rattle.qk_meaning.specs.Ties.{Ties, Apart, Shown_as, Pairwise, no_more, one_more}
use Rattle.qk_meaning.specs.Worlds_stand.{Heaps_stand, Worlds_stand}
use Rattle.qk_meaning.specs.Readings_agree.{Items_agree, both_give, both_stop}
use Rattle.qk_alike.specs.Code_stands.{Programs_stand}
use Rattle.qk_session_alike.specs.Trees_stand.{Named_alike}
use Rattle.qk_session_alike.specs.Laws.{Entries_stand, both_played, both_paused, both_faulted, both_ended, Leaves_alike, Other_run, RunsAgree}
use Rattle.qk_session_alike.proofs.Items_alike.{events_agree, first_renders_agree}

record Given_so (t : Ties) (block : Block) (w : Session) (o : Outcome Session Block) : Type 0 where
  left : Session
  is : o ≡ Gives block left
  worlds : Worlds_stand t (world_of w) (world_of left)

record Stopped_so (why : Why) (w : Session) (o : Outcome Session Block) : Type 0 where
  left : Session
  is : o ≡ Stops why left
  lines : w.running.lines ≡ left.running.lines

given_so : {t : Ties} (block : Block) (w : Session) (o : Outcome Session Block) → Items_agree t (Gives block w) o → Given_so t block w o
given_so block w (Gives x v) (both_give h) = record { left = v; is = refl; worlds = h }
given_so block w (Stops why v) h = elim h [ ]

stopped_so : {t : Ties} (why : Why) (w : Session) (o : Outcome Session Block) → Items_agree t (Stops why w) o → Stopped_so why w o
stopped_so why w (Stops why' v) (both_stop e) = record { left = v; is = refl; lines = e }
stopped_so why w (Gives x v) h = elim h [ ]

ended_so : {t : Ties} (o o' : Outcome Session Block) → Items_agree t o o' → has_ended o ≡ has_ended o'
ended_so (Gives x w) (Gives y v) (both_give h) = refl
ended_so (Stops (Faults f) w) (Stops why v) (both_stop e) = refl
ended_so (Stops Ends w) (Stops why v) (both_stop e) = refl
ended_so (Gives x w) (Stops why v) h = elim h [ ]
ended_so (Stops why w) (Gives x v) h = elim h [ ]

fault_shown : {t : Ties} (f : Fault) {l m : List Text} → l ≡ m → Pairwise (Entries_stand t) (Faulted f l ∷ []) (Faulted f m ∷ [])
fault_shown {t} f {l} {m} e = subst (λ z. Pairwise (Entries_stand t) (Faulted f l ∷ []) (Faulted f z ∷ [])) e (one_more both_faulted no_more)

record Other_from (t : Ties) (other : Program) (leaves : World → World) (w : World) (script : List Line) (entries : List Entry) : Type 0 where
  others : List Entry
  run : Run_from other leaves w script others
  alike : Pairwise (Entries_stand t) entries others

module _ (t : Ties) (P Q : Program) (apart : Apart t) (programs : Programs_stand P Q t.sites) (named : Named_alike t.sites) (app : Shown_as t.sites P.app Q.app) (leaves leaves' : World → World) (kept : Leaves_alike t leaves leaves') where
  goes_on : {w : World} {script : List Line} {entries : List Entry} → Run_from P leaves w script entries → (v : World) → Worlds_stand t w v → Other_from t Q leaves' v script entries
  goes_on played_all v h = record { others = []; run = played_all; alike = no_more }
  goes_on (paused {w = w} r) v h = by (goes_on r (leaves' v) (kept w v h))
    where
      by : {script : List Line} {entries : List Entry} → Other_from t Q leaves' (leaves' v) script entries → Other_from t Q leaves' v (Pauses ∷ script) (Paused w ∷ entries)
      by x = record { others = Paused v ∷ x.others; run = paused x.run; alike = one_more (both_paused h) x.alike }
  goes_on (played {w = w} {e = e} {script = script} {entries = entries} limits block next is r) v h =
      by (given_so block next (event_item Q limits v e) (subst (λ o. Items_agree t o (event_item Q limits v e)) is (events_agree t P Q apart programs named app limits w v e h))) (λ u k. goes_on r u k)
    where
      by : Given_so t block next (event_item Q limits v e) → ((u : World) → Worlds_stand t (world_of next) u → Other_from t Q leaves' u script entries) → Other_from t Q leaves' v (Happens e ∷ script) (Played block (world_of next) ∷ entries)
      by g further = with_rest (further (world_of g.left) g.worlds)
        where
          with_rest : Other_from t Q leaves' (world_of g.left) script entries → Other_from t Q leaves' v (Happens e ∷ script) (Played block (world_of next) ∷ entries)
          with_rest x = record { others = Played block (world_of g.left) ∷ x.others; run = played limits block g.left g.is x.run; alike = one_more (both_played g.worlds) x.alike }
  goes_on (faulted {w = w} {e = e} {script = script} limits f next is) v h =
      by (stopped_so (Faults f) next (event_item Q limits v e) (subst (λ o. Items_agree t o (event_item Q limits v e)) is (events_agree t P Q apart programs named app limits w v e h)))
    where
      by : Stopped_so (Faults f) next (event_item Q limits v e) → Other_from t Q leaves' v (Happens e ∷ script) (Faulted f next.running.lines ∷ [])
      by s = record { others = Faulted f s.left.running.lines ∷ []; run = faulted limits f s.left s.is; alike = fault_shown f s.lines }
  goes_on (endless {w = w} {e = e} ends) v h = record {
    others = Ended ∷ [];
    run = endless (λ limits. sym (ended_so (event_item P limits w e) (event_item Q limits v e) (events_agree t P Q apart programs named app limits w v e h)) ∙ ends limits);
    alike = one_more both_ended no_more;
  }

  module _ (heaps : Heaps_stand t [] []) where
    agree : (limits : Limits) → Items_agree t (first_item P limits) (first_item Q limits)
    agree limits = first_renders_agree t P Q apart programs named app heaps limits

    begins : {script : List Line} {entries : List Entry} → Run P leaves script entries → Other_run t Q leaves' script entries
    begins (rendered {script = script} {entries = entries} limits block first is r) = by (given_so block first (first_item Q limits) (subst (λ o. Items_agree t o (first_item Q limits)) is (agree limits)))
      where
        by : Given_so t block first (first_item Q limits) → Other_run t Q leaves' script (Played block (world_of first) ∷ entries)
        by g = with_rest (goes_on r (world_of g.left) g.worlds)
          where
            with_rest : Other_from t Q leaves' (world_of g.left) script entries → Other_run t Q leaves' script (Played block (world_of first) ∷ entries)
            with_rest x = record { others = Played block (world_of g.left) ∷ x.others; run = rendered limits block g.left g.is x.run; alike = one_more (both_played g.worlds) x.alike }
    begins (render_faulted {script = script} limits f first is) = by (stopped_so (Faults f) first (first_item Q limits) (subst (λ o. Items_agree t o (first_item Q limits)) is (agree limits)))
      where
        by : Stopped_so (Faults f) first (first_item Q limits) → Other_run t Q leaves' script (Faulted f first.running.lines ∷ [])
        by s = record { others = Faulted f s.left.running.lines ∷ []; run = render_faulted limits f s.left s.is; alike = fault_shown f s.lines }
    begins (render_endless ends) = record { others = Ended ∷ []; run = render_endless (λ limits. sym (ended_so (first_item P limits) (first_item Q limits) (agree limits)) ∙ ends limits); alike = one_more both_ended no_more }

pub runs_agree : RunsAgree
runs_agree t P Q apart programs named app heaps leaves leaves' kept script entries r = begins t P Q apart programs named app leaves leaves' kept heaps r
