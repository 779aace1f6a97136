-- What was read decides a value.
use Rattle.std.specs.Prelude.{◌≡◌, refl, ℕ, zero, suc, List}
use Rattle.std.proofs.Common.{sym, subst, ◌∙◌}
use Rattle.std.proofs.lemmas.List.{append_cancel_left}
use Rattle.qk_meaning.specs.Value.{Value}
use Rattle.qk_meaning.specs.World.{Object, Loc}
use Rattle.qk_meaning.specs.Program.{Program}
use Rattle.qk_meaning.specs.Doing.{Outcome, Gives, Stops, Faults, Ends}
use Rattle.qk_meaning.specs.Happening.{Happening}
use Rattle.qk_meaning.specs.Running.{Running}
use Rattle.qk_meaning.specs.Setting.{called_anew}
use Rattle.qk_meaning.specs.Evaluation.{entering}
use Rattle.qk_needed.specs.Deciding.{Kinds_agree, Agree_on, Same_news, Repeats_or_ends, ReadsDecide}
use Rattle.qk_needed.proofs.Repeating_laws.{Own}
use Rattle.qk_needed.proofs.Repeating as Repeating
use Rattle.qk_needed.proofs.Repeating.{Repeated, Gone, Goes, First, Second, Again_or_ends}
use Rattle.qk_needed.proofs.Repeating_code as Code

module _ (outer : List ℕ) (G H : List Object) (kinds : Kinds_agree G H) (log' : List Loc) (program : Program) where
  abbrev Calls_repeated : ℕ → ℕ → Type 0
  Calls_repeated d d' = Code.Entered_alike outer (Repeated outer G H log') (entering program called_anew d) (entering program called_anew d')

  one_level_more : (d d' : ℕ) → Calls_repeated d d' → Calls_repeated (suc d) (suc d')
  one_level_more d d' E =
      Code.enters_with outer G H (Repeated outer G H log') (Repeating.laws outer G H log') kinds program called_anew called_anew (entering program called_anew d) (entering program called_anew d')
      (Code.calls_anew outer G H (Repeated outer G H log') (Repeating.laws outer G H log') (entering program called_anew d) (entering program called_anew d') E) E

  pub calls : (d d' : ℕ) → Calls_repeated d d'
  calls zero d' mode q running running' under f arguments = λ s i. tt
  calls (suc d) zero mode q running running' under f arguments = (Repeating.laws outer G H log').ends (one_level_more d d (calls d d) mode q running running' under f arguments)
  calls (suc d) (suc d') mode q running running' under f arguments = one_level_more d d' (calls d d') mode q running running' under f arguments

pub reads_decide : ReadsDecide
reads_decide program levels levels' mode under_way under_way' f arguments s s' t v news q no_hooks hooking kinds gave told agree =
    go (entering program called_anew levels mode under_way f arguments s) gave
    (calls under_way' s.heap t.heap kinds t.log program levels levels' mode q under_way under_way' (λ a p o. o) f arguments s (record { heap = refl; no_hooks = no_hooks }))
  where
    second : (own : List Happening) → news ≡ own → (o : Outcome Running Value) → Again_or_ends under_way' s.heap t.heap t.log Own s t v s' own o → Repeats_or_ends t v news o
    second own e (Stops (Faults k) u) x = x
    second own e (Stops Ends u) x = tt
    second own e (Gives w u) x =
        record { same_value = x.value; heap_stays = x.second.heap; log_stays = x.second.log; more = x.more; trace_grows = x.told; same_news = subst (λ y. Same_news y x.more) (sym e) x.alike }

    given : Goes under_way' s.heap t.heap t.log Own Value s v s' (entering program called_anew levels' mode under_way' f arguments) → Repeats_or_ends t v news (entering program called_anew levels' mode under_way' f arguments t)
    given g =
        let one : news ≡ g.news = append_cancel_left s.trace news g.news (sym told ∙ g.told) in
        second g.news one (entering program called_anew levels' mode under_way' f arguments t)
        (g.again t (record { heap = refl; log = refl; hooking = hooking }) tt (subst (λ x. Agree_on under_way' s.heap t.heap x) one agree))

    go : (o : Outcome Running Value) → o ≡ Gives v s' → Gone under_way' s.heap t.heap t.log Own s o (entering program called_anew levels' mode under_way' f arguments) → Repeats_or_ends t v news (entering program called_anew levels' mode under_way' f arguments t)
    go o e g = given (subst (λ x. Gone under_way' s.heap t.heap t.log Own s x (entering program called_anew levels' mode under_way' f arguments)) e g)
