-- Scripts show the same.
use Rattle.std.specs.Prelude.{List, [], ◌∷◌}
use Rattle.std.proofs.Common.{subst}
use Rattle.qk_meaning.specs.World.{World}
use Rattle.qk_meaning.specs.Program.{Program}
use Rattle.qk_meaning.specs.Doing.{Faults, Ends, Outcome, Gives, Stops}
use Rattle.qk_meaning.specs.Session.{Session}
use Rattle.qk_meaning.specs.Item.{Block, Limits, first_item, event_item}
use Rattle.qk_meaning.specs.Run.{Line, Happens, Pauses, Entry, Faulted, plays_on, plays_from}
use Rattle.qk_meaning.specs.Ties.{Ties, Apart, Shown_as, Pairwise, no_more, one_more}
use Rattle.qk_meaning.specs.Worlds_stand.{Worlds_stand}
use Rattle.qk_meaning.specs.Readings_agree.{Items_agree, both_give, both_stop}
use Rattle.qk_alike.specs.Code_stands.{Programs_stand}
use Rattle.qk_session_alike.specs.Trees_stand.{Named_alike}
use Rattle.qk_session_alike.specs.Laws.{Entries_stand, both_played, both_paused, both_faulted, both_ended, Leaves_alike, ScriptsAgree}
use Rattle.qk_session_alike.proofs.Items_alike.{events_agree, first_renders_agree}

goes_on : {t : Ties} (P Q : Program) (leaves leaves' : World → World) (o o' : Outcome Session Block) {further further' : World → List Entry} → Items_agree t o o' → ((w v : World) → Worlds_stand t w v → Pairwise (Entries_stand t) (further w) (further' v)) → Pairwise (Entries_stand t) (plays_on P leaves further o) (plays_on Q leaves' further' o')
goes_on P Q leaves leaves' (Gives x w) (Gives y v) (both_give h) p = one_more (both_played h) (p _ _ h)
goes_on {t} P Q leaves leaves' (Stops (Faults f) w) (Stops why v) (both_stop e) p = subst (λ l. Pairwise (Entries_stand t) (Faulted f w.running.lines ∷ []) (Faulted f l ∷ [])) e (one_more both_faulted no_more)
goes_on P Q leaves leaves' (Stops Ends w) (Stops why v) (both_stop e) p = one_more both_ended no_more
goes_on P Q leaves leaves' (Gives x w) (Stops why v) h p = elim h [ ]
goes_on P Q leaves leaves' (Stops why w) (Gives x v) h p = elim h [ ]

module _ (t : Ties) (P Q : Program) (apart : Apart t) (programs : Programs_stand P Q t.sites) (named : Named_alike t.sites) (app : Shown_as t.sites P.app Q.app) (leaves leaves' : World → World) (kept : Leaves_alike t leaves leaves') (limits : Limits) where
  rests : (script : List Line) (w v : World) → Worlds_stand t w v → Pairwise (Entries_stand t) (plays_from P leaves limits script w) (plays_from Q leaves' limits script v)
  rests [] w v h = no_more
  rests (Pauses ∷ script) w v h = one_more (both_paused h) (rests script (leaves w) (leaves' v) (kept w v h))
  rests (Happens e ∷ script) w v h = goes_on P Q leaves leaves' (event_item P limits w e) (event_item Q limits v e) (events_agree t P Q apart programs named app limits w v e h) (λ x y k. rests script x y k)

pub scripts_agree : ScriptsAgree
scripts_agree t P Q apart programs named app heaps leaves leaves' kept limits script =
    goes_on P Q leaves leaves' (first_item P limits) (first_item Q limits) (first_renders_agree t P Q apart programs named app heaps limits) (λ w v h. rests t P Q apart programs named app leaves leaves' kept limits script w v h)
