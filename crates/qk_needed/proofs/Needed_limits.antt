-- Where a needed item doesn't end at some limits, it gives the same at all greater ones.
use Rattle.std.specs.Prelude.{◌≡◌, refl, ℕ, false, ◌∷◌}
use Rattle.std.proofs.Common.{sym, ap}
use Rattle.std.proofs.lemmas.Bool.{false≢true}
use Rattle.qk_meaning.specs.Value.{Value}
use Rattle.qk_meaning.specs.Program.{Program, captures_in}
use Rattle.qk_meaning.specs.Doing.{Outcome, Gives, Stops, Faults, Ends, has_ended}
use Rattle.qk_meaning.specs.Evaluation.{entering}
use Rattle.qk_meaning.specs.Expansion.{Met}
use Rattle.qk_meaning.specs.Session.{Session}
use Rattle.qk_meaning.specs.Item.{Event, Block, Limits}
use Rattle.qk_needed.specs.Needed.{kept_of, called_if_needed, keep_or_mount, isn't_stale}
use Rattle.qk_needed.specs.Needed_item.{Needed_world, at_first, needed_session, needed_first_item, needed_event_item}
use Rattle.qk_needed.specs.Laws.{Within, needed_seen, NeededGreaterLimits}
use Rattle.qk_meaning.proofs.Running_laws.{finds_reads, hook_laws}
use Rattle.qk_meaning.proofs.Meanings.{Enter_alike}
use Rattle.qk_meaning.proofs.Session_laws as S
use Rattle.qk_meaning.proofs.Session_laws.{with_turns}
use Rattle.qk_meaning.proofs.Agreeing as Agreeing
use Rattle.qk_meaning.proofs.Budget as Budget
use Rattle.qk_meaning.proofs.Limits as Limits
use Rattle.qk_needed.proofs.Needed_laws.{Kept_laws, calls_if_needed, visits}

runs_are_kept : Kept_laws Budget.Kept
runs_are_kept =
    record {
      asks_kept = λ a. Agreeing.asking Budget.left_in Budget.at (kept_of a) (λ s t. refl);
      keeps = λ k. Agreeing.changing Budget.left_in Budget.at (λ s. record s { kept = k ∷ s.kept }) (λ s. refl) (λ s t. refl);
      finds = λ {m} {m'} p. finds_reads Budget.Kept Budget.trace_laws {A = Value} {m = m} {m' = m'} p;
    }

same_seen : (turns turns' : ℕ) (o o' : Outcome Session Block) → Agreeing.Agree Limits.left_in with_turns turns turns' o o' → has_ended o ≡ false → needed_seen o' ≡ needed_seen o
same_seen turns turns' (Gives b w) o' r n = ap needed_seen r.is
same_seen turns turns' (Stops (Faults f) w) o' r n = ap needed_seen r.is
same_seen turns turns' (Stops Ends w) o' r n = absurd (false≢true (sym n))

module _ (program : Program) (small great : Limits) (h : Within small great) where
  enter : Enter_alike Budget.Kept (entering program called_if_needed small.levels) (entering program called_if_needed great.levels)
  enter = Budget.more_budget program called_if_needed (calls_if_needed Budget.Kept (Budget.laws (captures_in program)) (hook_laws Budget.Kept (Budget.laws (captures_in program)) Budget.hooking_laws) runs_are_kept) small.levels great.levels h.levels

  visit : (met : Met) → Limits.Kept Value (keep_or_mount isn't_stale program small.levels met) (keep_or_mount isn't_stale program great.levels met)
  visit = visits Budget.Kept (Budget.laws (captures_in program)) Budget.hooking_laws Limits.Kept Limits.laws isn't_stale (λ i s t. refl) program (Budget.named (captures_in program)) small.levels great.levels enter

  event_agrees : (n : Needed_world) (e : Event) → Agreeing.Agree Limits.left_in with_turns small.turns great.turns (needed_event_item program small n e) (needed_event_item program great n e)
  event_agrees n e =
      S.events Budget.Kept (Budget.laws (captures_in program)) Budget.hooking_laws Limits.Kept Limits.laws program called_if_needed small.levels great.levels enter
      (keep_or_mount isn't_stale program small.levels) (keep_or_mount isn't_stale program great.levels) visit e (needed_session n small.turns) great.turns h.turns

  render_agrees : Agreeing.Agree Limits.left_in with_turns small.turns great.turns (needed_first_item program small) (needed_first_item program great)
  render_agrees =
      S.first_renders Budget.Kept (Budget.laws (captures_in program)) Budget.hooking_laws Limits.Kept Limits.laws program called_if_needed small.levels great.levels enter
      (keep_or_mount isn't_stale program small.levels) (keep_or_mount isn't_stale program great.levels) visit (needed_session at_first small.turns) great.turns h.turns

pub needed_greater_limits : NeededGreaterLimits
needed_greater_limits program small great h = (
  λ ends. same_seen small.turns great.turns (needed_first_item program small) (needed_first_item program great) (render_agrees program small great h) ends,
  λ n e ends. same_seen small.turns great.turns (needed_event_item program small n e) (needed_event_item program great n e) (event_agrees program small great h n e) ends,
)
