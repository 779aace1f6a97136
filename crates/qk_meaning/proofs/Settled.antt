-- What takes a turn, that the bound on rounds decides nothing, and that nothing is due once a session has settled.
use Rattle.std.specs.Prelude.{◌≡◌, refl, ℕ, zero, suc, ◌≤◌, ⊤, Bool, true, false, not, ◌&&◌, ◌==◌, length, Option, Some, None, is_some}
use Rattle.std.proofs.Common.{subst}
use Rattle.std.proofs.lemmas.Bool.{false≢true}
use Rattle.qk_meaning.specs.Doing.{Outcome, Gives, Stops, Doing, after, give, chosen}
use Rattle.qk_meaning.specs.Setting.{called_anew}
use Rattle.qk_meaning.specs.Evaluation.{entering}
use Rattle.qk_meaning.specs.Manner.{Manner, whole}
use Rattle.qk_meaning.specs.Session.{Session, world_of}
use Rattle.qk_meaning.specs.Settling.{Spot, first_due, is_quiet, pass, run_task, round, settled_within}
use Rattle.qk_meaning.specs.Laws as Laws
use Rattle.qk_meaning.proofs.Turns.{Fewer, call_takes, pass_takes, task_takes, settled_alike}

-- what is given where something takes a turn has fewer turns left
fewer_left : {S A : Type 0} (turns_of : S → ℕ) (b : ℕ) (o : Outcome S A) (a : A) (s : S) → Fewer turns_of b o → o ≡ Gives a s → suc (turns_of s) ≤ b
fewer_left {S} {A} turns_of b o a s h e = subst (λ x. Fewer turns_of b x) e h

pub calls_take_turns : Laws.CallsTakeTurns
calls_take_turns program levels mode under_way f arguments s after v e =
    fewer_left (λ x. x.turns) s.turns (entering program called_anew levels mode under_way f arguments s) v after (call_takes program levels mode under_way f arguments s) e

pub passes_take_turns : Laws.PassesTakeTurns
passes_take_turns program levels w after nodes e = fewer_left (λ x. x.running.turns) w.running.turns (pass (whole program levels) w) nodes after (pass_takes program levels w) e

pub tasks_take_turns : Laws.TasksTakeTurns
tasks_take_turns program levels spot w after e = fewer_left (λ x. x.running.turns) w.running.turns (run_task (whole program levels) spot w) tt after (task_takes program levels spot w) e

pub rounds_are_enough : Laws.RoundsAreEnough
rounds_are_enough program levels rounds more w h k = settled_alike program levels rounds more w h k

-- ---- nothing is due

-- whatever is given leaves no task due
abbrev None_due : Outcome Session (Unit {0}) → Type 0
None_due (Gives u w) = first_due (world_of w) ≡ None
None_due _ = ⊤

none_found : (o : Option Spot) → not (is_some o) ≡ true → o ≡ None
none_found None h = refl
none_found (Some spot) h = absurd (false≢true h)

last_of : (a b c : Bool) → (a && (b && c)) ≡ true → c ≡ true
last_of true true c h = h
last_of true false c h = absurd (false≢true h)
last_of false b c h = absurd (false≢true h)

quiet_none_due : (before : ℕ) (w : Session) → is_quiet before w ≡ true → first_due (world_of w) ≡ None
quiet_none_due before w h = none_found (first_due (world_of w)) (last_of (not w.mounted) (length w.running.log == before) (not (is_some (first_due (world_of w)))) h)

module _ (manner : Manner) where
  chosen_none_due : (before : ℕ) (go_on : Doing Session (Unit {0})) → ((w : Session) → None_due (go_on w)) → (w : Session) (b : Bool) → is_quiet before w ≡ b → None_due (chosen b (give tt) go_on w)
  chosen_none_due before go_on p w true e = quiet_none_due before w e
  chosen_none_due before go_on p w false e = p w

  after_none_due : {A : Type 0} (o : Outcome Session A) (next : A → Doing Session (Unit {0})) → ((a : A) (w : Session) → None_due (next a w)) → None_due (after o next)
  after_none_due (Gives a w) next p = p a w
  after_none_due (Stops why w) next p = tt

  round_none_due : (o : Option Spot) (go_on : Doing Session (Unit {0})) → ((w : Session) → None_due (go_on w)) → (w : Session) → None_due (round manner go_on o w)
  round_none_due (Some spot) go_on p w = after_none_due (run_task manner spot w) (λ u. go_on) (λ u. p)
  round_none_due None go_on p w =
      let before = length w.running.log in
      after_none_due (pass manner w) (λ u v. chosen (is_quiet before v) (give tt) go_on v) (λ nodes v. chosen_none_due before go_on p v (is_quiet before v) refl)

  within_none_due : (rounds : ℕ) (w : Session) → None_due (settled_within manner rounds w)
  within_none_due zero w = tt
  within_none_due (suc rounds) w = round_none_due (first_due (world_of w)) (settled_within manner rounds) (within_none_due rounds) w

pub nothing_due : Laws.NothingDue
nothing_due manner w after e = subst None_due e (within_none_due manner (suc w.running.turns) w)
