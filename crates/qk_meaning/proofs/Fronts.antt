-- The first lines of a script, and what is played of them.
use Rattle.std.specs.Prelude.{◌≡◌, refl, ℕ, zero, suc, List, [], ◌∷◌, take}
use Rattle.std.proofs.Common.{ap}
use Rattle.qk_meaning.specs.World.{World}
use Rattle.qk_meaning.specs.Program.{Program}
use Rattle.qk_meaning.specs.Doing.{Outcome, Gives, Stops, Faults, Ends}
use Rattle.qk_meaning.specs.Session.{Session, world_of}
use Rattle.qk_meaning.specs.Item.{Block, Limits, first_item, event_item}
use Rattle.qk_meaning.specs.Run.{Line, Happens, Pauses, Entry, Played, Paused, Run_from, played_all, paused, played, faulted, endless, Run, rendered, render_faulted, render_endless, plays_on, plays_from}
use Rattle.qk_meaning.specs.Laws as Laws

module _ (program : Program) (leaves : World → World) where
  module _ (limits : Limits) where
    on_front : (k : ℕ) (o : Outcome Session Block) (further front : World → List Entry) → ((w : World) → front w ≡ take k (further w)) → plays_on program leaves front o ≡ take (suc k) (plays_on program leaves further o)
    on_front k (Gives block next) further front e = ap (λ rest. Played block (world_of next) ∷ rest) (e (world_of next))
    on_front zero (Stops (Faults f) last) further front e = refl
    on_front (suc k) (Stops (Faults f) last) further front e = refl
    on_front zero (Stops Ends last) further front e = refl
    on_front (suc k) (Stops Ends last) further front e = refl

    from_front : (script : List Line) (k : ℕ) (w : World) → plays_from program leaves limits (take k script) w ≡ take k (plays_from program leaves limits script w)
    from_front script zero w = refl
    from_front [] (suc k) w = refl
    from_front (Pauses ∷ script) (suc k) w = ap (λ rest. Paused w ∷ rest) (from_front script k (leaves w))
    from_front (Happens e ∷ script) (suc k) w = on_front k (event_item program limits w e) (plays_from program leaves limits script) (plays_from program leaves limits (take k script)) (λ v. from_front script k v)

  run_front : (k : ℕ) (w : World) (script : List Line) (entries : List Entry) → Run_from program leaves w script entries → Run_from program leaves w (take k script) (take k entries)
  run_front zero w script entries r = played_all
  run_front (suc k) w [] [] played_all = played_all
  run_front (suc k) w _ _ (paused r) = paused (run_front k (leaves w) _ _ r)
  run_front (suc k) w _ _ (played limits block next i r) = played limits block next i (run_front k (world_of next) _ _ r)
  run_front (suc zero) w _ _ (faulted limits f next i) = faulted limits f next i
  run_front (suc (suc k)) w _ _ (faulted limits f next i) = faulted limits f next i
  run_front (suc zero) w _ _ (endless h) = endless h
  run_front (suc (suc k)) w _ _ (endless h) = endless h

  whole_front : (k : ℕ) (script : List Line) (entries : List Entry) → Run program leaves script entries → Run program leaves (take k script) (take (suc k) entries)
  whole_front k script _ (rendered limits block first i r) = rendered limits block first i (run_front k (world_of first) script _ r)
  whole_front zero script _ (render_faulted limits f first i) = render_faulted limits f first i
  whole_front (suc k) script _ (render_faulted limits f first i) = render_faulted limits f first i
  whole_front zero script _ (render_endless h) = render_endless h
  whole_front (suc k) script _ (render_endless h) = render_endless h

pub fronts_played : Laws.FrontsPlayed
fronts_played program leaves limits script k =
    on_front program leaves limits k (first_item program limits) (plays_from program leaves limits script) (plays_from program leaves limits (take k script)) (λ w. from_front program leaves limits script k w)

pub fronts_run : Laws.FrontsRun
fronts_run program leaves script entries k r = whole_front program leaves k script entries r
