-- What was read inside `track`, of traces that stand for one another.
use Rattle.std.specs.Prelude.{refl, Bool, true, false, ◌&&◌, ◌||◌, List}
use Rattle.std.proofs.Common.{sym, subst}
use mathlib.Core.Path.{ap₂}
use Rattle.qk_meaning.specs.World.{Loc, Task}
use Rattle.qk_meaning.specs.Places.{same_key}
use Rattle.qk_meaning.specs.Happening.{Happening, The_task, The_track}
use Rattle.qk_meaning.specs.Trace.{tracked_from, tracked_reads}
use Rattle.qk_meaning.specs.Ties.{Ties, Paired, Apart, Stands, Pairwise, no_more, one_more, Loc_stands, located_alike}
use Rattle.qk_meaning.specs.Worlds_stand.{Start, At, Locs_alike, since_start, Tasks_stand}
use Rattle.qk_meaning.specs.Alike.{Happenings_stand, both_read, both_act, both_log, both_print, both_entered, both_used, both_began, both_left, both_hooked, both_computing, both_computed, both_took}
use Rattle.qk_alike.proofs.Sames.{addresses}
use Rattle.qk_alike.proofs.Lists.{appends}

module _ {t : Ties} {b : Start} where
  tracked_alike : {all all' : List Happening} (inside : Bool) → Pairwise (Happenings_stand t b) all all' → Pairwise (Loc_stands t) (tracked_from inside all) (tracked_from inside all')
  tracked_alike inside no_more = no_more
  tracked_alike true (one_more (both_read h at) rest) = one_more h (tracked_alike true rest)
  tracked_alike false (one_more (both_read h at) rest) = tracked_alike false rest
  tracked_alike true (one_more (both_took h k l) rest) = appends l (tracked_alike true rest)
  tracked_alike false (one_more (both_took h k l) rest) = tracked_alike false rest
  tracked_alike true (one_more (both_act h) rest) = tracked_alike true rest
  tracked_alike false (one_more (both_act h) rest) = tracked_alike false rest
  tracked_alike true (one_more (both_log h) rest) = tracked_alike true rest
  tracked_alike false (one_more (both_log h) rest) = tracked_alike false rest
  tracked_alike true (one_more both_print rest) = tracked_alike true rest
  tracked_alike false (one_more both_print rest) = tracked_alike false rest
  tracked_alike true (one_more (both_entered h) rest) = tracked_alike true rest
  tracked_alike false (one_more (both_entered h) rest) = tracked_alike false rest
  tracked_alike true (one_more both_used rest) = tracked_alike true rest
  tracked_alike false (one_more both_used rest) = tracked_alike false rest
  tracked_alike true (one_more (both_hooked h k) rest) = tracked_alike true rest
  tracked_alike false (one_more (both_hooked h k) rest) = tracked_alike false rest
  tracked_alike true (one_more (both_computing h) rest) = tracked_alike true rest
  tracked_alike false (one_more (both_computing h) rest) = tracked_alike false rest
  tracked_alike true (one_more (both_computed h k) rest) = tracked_alike true rest
  tracked_alike false (one_more (both_computed h k) rest) = tracked_alike false rest
  tracked_alike true (one_more (both_began {part = The_track}) rest) = tracked_alike true rest
  tracked_alike false (one_more (both_began {part = The_track}) rest) = tracked_alike true rest
  tracked_alike true (one_more (both_began {part = The_task}) rest) = tracked_alike true rest
  tracked_alike false (one_more (both_began {part = The_task}) rest) = tracked_alike false rest
  tracked_alike true (one_more (both_left {part = The_track}) rest) = tracked_alike false rest
  tracked_alike false (one_more (both_left {part = The_track}) rest) = tracked_alike false rest
  tracked_alike true (one_more (both_left {part = The_task}) rest) = tracked_alike true rest
  tracked_alike false (one_more (both_left {part = The_task}) rest) = tracked_alike false rest

  pub tracks_alike : {all all' : List Happening} → Pairwise (Happenings_stand t b) all all' → Pairwise (Loc_stands t) (tracked_reads all) (tracked_reads all')
  tracks_alike h = tracked_alike false h

module _ {t : Ties} (apart : Apart t) where
  pub locations_alike : {all all' : List Loc} → Pairwise (Loc_stands t) all all' → Locs_alike t all all'
  locations_alike no_more x y k xy = refl
  locations_alike (one_more (located_alike {a = x'} {b = y'} {k = k'} xy') rest) x y k xy =
      ap₂ (λ c d. (c && same_key k k') || d)
      (addresses x x' y y' (λ e. apart.one_right x y y' xy (subst (λ z. Paired t.pairing z y') (sym e) xy')) (λ e. apart.one_left x x' y xy (subst (λ z. Paired t.pairing x' z) (sym e) xy')))
      (locations_alike rest x y k xy)

  -- tasks whose functions stand for one another, which began at one moment and read alike
  pub tasks_alike : {b : Start} (x y : Task) → Stands t x.run y.run → Pairwise (Loc_stands t) x.tracked y.tracked → At b x.began y.began → Tasks_stand t b x y
  tasks_alike x y h k at = record { run = h; tracked = locations_alike k; began = since_start at }
