-- An item at two limits, and a script with two runs.
use Rattle.std.specs.Prelude.{◌≡◌, refl, true, false, max, ⊤, List, [], ◌∷◌}
use Rattle.std.proofs.Common.{sym, ap, subst, ◌∙◌}
use Rattle.std.proofs.lemmas.Bool.{false≢true}
use Rattle.std.proofs.Math.Nat.{le-max_left, le-max_right}
use Rattle.qk_meaning.specs.World.{World}
use Rattle.qk_meaning.specs.Fault.{Fault}
use Rattle.qk_meaning.specs.Program.{Program}
use Rattle.qk_meaning.specs.Doing.{Outcome, Gives, Stops, Why, Faults, Ends, has_ended, state_left}
use Rattle.qk_meaning.specs.Session.{Session, world_of}
use Rattle.qk_meaning.specs.Item.{Event, Block, Limits, first_item, event_item}
use Rattle.qk_meaning.specs.Run.{Line, Happens, Pauses, Entry, Played, Paused, Faulted, Run_from, played_all, paused, played, faulted, endless, Run, rendered, render_faulted, render_endless, plays_on, plays_from, plays}
use Rattle.qk_meaning.specs.Laws as Laws
use Rattle.qk_meaning.specs.Laws.{An_item, The_render, The_event, seen, seen_at, some_ended}
use Rattle.qk_meaning.proofs.Limits.{seen_alike}

pub greater_limits : Laws.GreaterLimits
greater_limits program item small great h k n = seen_alike program small great (record { turns = h; levels = k }) item n

pub two_limits : Laws.TwoLimits
two_limits program item one other n m =
    let both : Limits = record { turns = max one.turns other.turns; levels = max one.levels other.levels } in
    sym (greater_limits program item one both (le-max_left one.turns other.turns) (le-max_left one.levels other.levels) n)
    ∙ greater_limits program item other both (le-max_right one.turns other.turns) (le-max_right one.levels other.levels) m

-- ---- what an outcome is, and that outcomes of two kinds differ

abbrev Gave : Outcome World Block → Type 0
Gave (Gives b w) = ⊤
Gave _ = ⊥

gave_no_stop : (b : Block) (w : World) (why : Why) (v : World) → Gives b w ≡ Stops why v → ⊥
gave_no_stop b w why v e = subst Gave e tt

abbrev block_or : Block → Outcome World Block → Block
block_or other (Gives b w) = b
block_or other _ = other

abbrev fault_or : Fault → Outcome World Block → Fault
fault_or other (Stops (Faults f) w) = f
fault_or other _ = other

-- a fault that is seen of an item
abbrev fault_seen : Fault → World → Outcome World Block
fault_seen f w = Stops (Faults f) w

-- what ends at all limits gives nothing, and has no fault
ended_not : (o : Outcome Session Block) (p : Outcome World Block) → has_ended o ≡ true → seen o ≡ p → has_ended p ≡ false → ⊥
ended_not o p h e n = false≢true (sym n ∙ (ap has_ended (sym e) ∙ (ended_seen o ∙ h)))
  where
    ended_seen : (o : Outcome Session Block) → has_ended (seen o) ≡ has_ended o
    ended_seen (Gives b w) = refl
    ended_seen (Stops (Faults f) w) = refl
    ended_seen (Stops Ends w) = refl

-- ---- one run

module _ (program : Program) (leaves : World → World) where
  abbrev From : World → List Line → List Entry → Type 0
  From = Run_from program leaves

  same_entries : (b c : Block) (w v : World) (rest more : List Entry) → Gives b w ≡ Gives c v → rest ≡ more → Played b w ∷ rest ≡ Played c v ∷ more
  same_entries b c w v rest more e r = ap (λ x. Played x w ∷ rest) (ap (block_or b) e) ∙ (ap (λ x. Played c x ∷ rest) (ap state_left e) ∙ ap (λ x. Played c v ∷ x) r)

  same_fault : (f g : Fault) (w v : World) → fault_seen f w ≡ fault_seen g v → Faulted f w.lines ∷ [] ≡ Faulted g v.lines ∷ []
  same_fault f g w v e = ap (λ x. Faulted x w.lines ∷ []) (ap (fault_or f) e) ∙ ap (λ x. Faulted g x.lines ∷ []) (ap state_left e)

  moved : {script : List Line} {entries : List Entry} (w v : World) → w ≡ v → From v script entries → From w script entries
  moved {script} {entries} w v e r = subst (λ x. From x script entries) (sym e) r

  -- two limits at which an item doesn't end see the same
  both_seen : (item : An_item) (one other : Limits) (o p : Outcome World Block) → seen_at program one item ≡ o → seen_at program other item ≡ p → has_ended o ≡ false → has_ended p ≡ false → o ≡ p
  both_seen item one other o p i j n m = sym i ∙ (two_limits program item one other (ap has_ended i ∙ n) (ap has_ended j ∙ m) ∙ j)

  one_from : (w : World) (script : List Line) (one other : List Entry) → From w script one → From w script other → one ≡ other
  one_from w script one other played_all played_all = refl
  one_from w script one other (paused r) (paused s) = ap (λ x. Paused w ∷ x) (one_from (leaves w) _ _ _ r s)
  one_from w script one other (played {e = e} l b next i r) (played l' b' next' i' r') =
      let same = both_seen (The_event w e) l l' (Gives b (world_of next)) (Gives b' (world_of next')) (ap seen i) (ap seen i') refl refl in
      same_entries b b' (world_of next) (world_of next') _ _ same (one_from (world_of next) _ _ _ r (moved (world_of next) (world_of next') (ap state_left same) r'))
  one_from w script one other (played {e = e} l b next i r) (faulted l' f last i') =
      absurd (gave_no_stop b (world_of next) (Faults f) (world_of last) (both_seen (The_event w e) l l' (Gives b (world_of next)) (Stops (Faults f) (world_of last)) (ap seen i) (ap seen i') refl refl))
  one_from w script one other (played {e = e} l b next i r) (endless h) = absurd (ended_not (event_item program l w e) (Gives b (world_of next)) (h l) (ap seen i) refl)
  one_from w script one other (faulted {e = e} l f last i) (played l' b next i' r') =
      absurd (gave_no_stop b (world_of next) (Faults f) (world_of last) (both_seen (The_event w e) l' l (Gives b (world_of next)) (Stops (Faults f) (world_of last)) (ap seen i') (ap seen i) refl refl))
  one_from w script one other (faulted {e = e} l f last i) (faulted l' f' last' i') =
      same_fault f f' (world_of last) (world_of last') (both_seen (The_event w e) l l' (fault_seen f (world_of last)) (fault_seen f' (world_of last')) (ap seen i) (ap seen i') refl refl)
  one_from w script one other (faulted {e = e} l f last i) (endless h) = absurd (ended_not (event_item program l w e) (fault_seen f (world_of last)) (h l) (ap seen i) refl)
  one_from w script one other (endless {e = e} h) (played l b next i r) = absurd (ended_not (event_item program l w e) (Gives b (world_of next)) (h l) (ap seen i) refl)
  one_from w script one other (endless {e = e} h) (faulted l f last i) = absurd (ended_not (event_item program l w e) (fault_seen f (world_of last)) (h l) (ap seen i) refl)
  one_from w script one other (endless h) (endless k) = refl

  one_run_from : (script : List Line) (one other : List Entry) → Run program leaves script one → Run program leaves script other → one ≡ other
  one_run_from script one other (rendered l b first i r) (rendered l' b' first' i' r') =
      let same = both_seen The_render l l' (Gives b (world_of first)) (Gives b' (world_of first')) (ap seen i) (ap seen i') refl refl in
      same_entries b b' (world_of first) (world_of first') _ _ same (one_from (world_of first) _ _ _ r (moved (world_of first) (world_of first') (ap state_left same) r'))
  one_run_from script one other (rendered l b first i r) (render_faulted l' f last i') =
      absurd (gave_no_stop b (world_of first) (Faults f) (world_of last) (both_seen The_render l l' (Gives b (world_of first)) (Stops (Faults f) (world_of last)) (ap seen i) (ap seen i') refl refl))
  one_run_from script one other (rendered l b first i r) (render_endless h) = absurd (ended_not (first_item program l) (Gives b (world_of first)) (h l) (ap seen i) refl)
  one_run_from script one other (render_faulted l f last i) (rendered l' b first i' r') =
      absurd (gave_no_stop b (world_of first) (Faults f) (world_of last) (both_seen The_render l' l (Gives b (world_of first)) (Stops (Faults f) (world_of last)) (ap seen i') (ap seen i) refl refl))
  one_run_from script one other (render_faulted l f last i) (render_faulted l' f' last' i') =
      same_fault f f' (world_of last) (world_of last') (both_seen The_render l l' (fault_seen f (world_of last)) (fault_seen f' (world_of last')) (ap seen i) (ap seen i') refl refl)
  one_run_from script one other (render_faulted l f last i) (render_endless h) = absurd (ended_not (first_item program l) (fault_seen f (world_of last)) (h l) (ap seen i) refl)
  one_run_from script one other (render_endless h) (rendered l b first i r) = absurd (ended_not (first_item program l) (Gives b (world_of first)) (h l) (ap seen i) refl)
  one_run_from script one other (render_endless h) (render_faulted l f last i) = absurd (ended_not (first_item program l) (fault_seen f (world_of last)) (h l) (ap seen i) refl)
  one_run_from script one other (render_endless h) (render_endless k) = refl

pub one_run : Laws.OneRun
one_run program leaves script one other r s = one_run_from program leaves script one other r s

-- ---- what is played at one budget

module _ (program : Program) (leaves : World → World) (limits : Limits) where
  -- an event that is played, where the rest of its script is
  event_played : (script : List Line) (w : World) (e : Event) (o : Outcome Session Block) → event_item program limits w e ≡ o
      → ((v : World) → some_ended (plays_from program leaves limits script v) ≡ false → Run_from program leaves v script (plays_from program leaves limits script v))
      → some_ended (plays_on program leaves (plays_from program leaves limits script) o) ≡ false
      → Run_from program leaves w (Happens e ∷ script) (plays_on program leaves (plays_from program leaves limits script) o)
  event_played script w e (Gives block next) i further k = played limits block next i (further (world_of next) k)
  event_played script w e (Stops (Faults f) last) i further k = faulted limits f last i
  event_played script w e (Stops Ends last) i further k = absurd (false≢true (sym k))

  from_played : (script : List Line) (w : World) → some_ended (plays_from program leaves limits script w) ≡ false → Run_from program leaves w script (plays_from program leaves limits script w)
  from_played [] w h = played_all
  from_played (Pauses ∷ script) w h = paused (from_played script (leaves w) h)
  from_played (Happens e ∷ script) w h = event_played script w e (event_item program limits w e) refl (λ v k. from_played script v k) h

  run_played : (script : List Line) → some_ended (plays program leaves limits script) ≡ false → Run program leaves script (plays program leaves limits script)
  run_played script h = go (first_item program limits) refl h
    where
      go : (o : Outcome Session Block) → first_item program limits ≡ o → some_ended (plays_on program leaves (plays_from program leaves limits script) o) ≡ false
          → Run program leaves script (plays_on program leaves (plays_from program leaves limits script) o)
      go (Gives block next) i k = rendered limits block next i (from_played script (world_of next) k)
      go (Stops (Faults f) last) i k = render_faulted limits f last i
      go (Stops Ends last) i k = absurd (false≢true (sym k))

pub played_is_run : Laws.PlayedIsRun
played_is_run program leaves limits script h = run_played program leaves limits script h
