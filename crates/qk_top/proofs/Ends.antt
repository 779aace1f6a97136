-- The clauses of the top call, from what comes of the command and how its last line is put.
use Rattle.std.proofs.Common.{◌≡◌, ℕ, List, [], ◌∷◌, ◌++◌, refl, sym, ap, ◌∙◌, subst, arith, take, Option, Some, None, ◌⊎◌, inl, inr}
use Rattle.std.specs.Prelude.{Result, Err, codes}
use Rattle.std.specs.Option.{option_map}
use Rattle.qk_ast.specs.declared.Module.{Module}
use Rattle.qk_store.specs.Files.{Files}
use Rattle.qk_store.specs.Causes.{Rose}
use Rattle.qk_store.specs.Pieces.{with_piece, IsPut, PutsInPart}
use Rattle.qk_meaning.specs.Value.{Text}
use Rattle.qk_meaning.specs.Item.{Event}
use Rattle.qk_meaning.specs.Output.{line}
use Rattle.qk_top.specs.declared.stop.Stop.{Stop}
use Rattle.qk_top.specs.declared.stop.Stop.TheVariants.{Usage, Script, Application, StoreFailed, SinkFailed, Memory}
use Rattle.qk_top.specs.Words.{IsReplay}
use Rattle.qk_top.specs.Script.{SpellsEvents, RefusedText}
use Rattle.qk_top.specs.Saying.{Said, said_line}
use Rattle.qk_top.specs.Answers.{IsUsage, Plays, RefusedScript, gone_script, refused_script, RefusedApplication, IsAccepted, IsOutput, Answers, played, usage, application as refused_application, script, store_failed, IsFront, nothing, begun, memory, memory_alone, IsUnderWay, block, refusal, want}
use Rattle.qk_top.specs.Stops.{status_of, last_line_of, EndsForFaults, PutsLastLine, whole, in_part, in_want, Finishes}
use Rattle.qk_top.specs.Coming.{CommandPlays, CommandComes}
use Rattle.qk_top.specs.Run.{IsOneOf, Comes}
use Rattle.qk_top.proofs.Plays.{pieces_join, put_nothing}
use Rattle.qk_top.proofs.Accepted.{one_played, one_said, accepted_not_said}
use Rattle.qk_top.proofs.Scripts.{one_script, not_refused, one_refusal}

eight_seven : (status : ℕ) → status ≡ 8 → status ≡ 7 → ⊥
eight_seven status e f = omega arith

-- ---- small facts

not_both : (o : Option Text) (t : Text) → o ≡ Some t → o ≡ None → ⊥
not_both o t h k = cc

same_some : (a b : Text) → Some a ≡ Some b → a ≡ b
same_some a b h = cc

same_script : (words : List Text) (a b : Text) → IsReplay words a → IsReplay words b → a ≡ b
same_script words a b h k = let e = h.words_are in let f = k.words_are in cc

apart : ◌≡◌ {A = Result (Unit {0}) Stop} (Err Memory) (Err SinkFailed) → ⊥
apart e = cc

last_line_status : (stop : Stop) (between after : Option Text) (f g status : ℕ) → PutsLastLine stop between after f g status → IsOneOf status (status_of stop ∷ 7 ∷ 8 ∷ [])
last_line_status stop between after f g status (whole e put kept) = inl e
last_line_status stop between after f g status (in_part e front rose later) = inr (inl e)
last_line_status stop between after f g status (in_want e kept faults) = inr (inr (inl e))

with_outside : (own status : ℕ) → IsOneOf status (own ∷ 7 ∷ 8 ∷ []) → IsOneOf status (own ∷ 6 ∷ 7 ∷ 8 ∷ [])
with_outside own status (inl e) = inl e
with_outside own status (inr more) = inr (inr more)

from_memory : (status : ℕ) → IsOneOf status (8 ∷ 7 ∷ 8 ∷ []) → IsOneOf status (6 ∷ 7 ∷ 8 ∷ [])
from_memory status (inl e) = inr (inr (inl e))
from_memory status (inr (inl e)) = inr (inl e)
from_memory status (inr (inr (inl e))) = inr (inr (inl e))
from_memory status (inr (inr (inr e))) = absurd e

outside_comes : {words : List Text} {told : Files} (status : ℕ) → IsOneOf status (6 ∷ 7 ∷ 8 ∷ []) → Comes words told status
outside_comes status h = record { accepted = λ m events a. inr h; application = λ said r. inr h; script = λ kind r. inr h }

memory_complete : (between after : Option Text) (f g h status : ℕ) → PutsLastLine Memory between after g h status → g ≡ f → ¬ Rose f h → (status ≡ 0) ⊎ (status ≡ 8)
memory_complete between after f g h status (whole e put kept) same none = inr e
memory_complete between after f g h status (in_part e front rose later) same none = absurd (none (subst (λ x. Rose x h) same rose))
memory_complete between after f g h status (in_want e kept faults) same none = inr e

-- an answer that stops a command before anything is put
module _ (words : List Text) (told : Files) where
  Whole : Option Text → Option Text → ℕ → Type 0
  Whole before after status = (text : Text) × Answers words told status text × IsPut text before after

  Front : Option Text → Option Text → Type 0
  Front before after = (put : Text) × (piece : Text) × IsUnderWay words told put piece × PutsInPart put piece before after

  -- a last line behind nothing
  quiet_whole : (stop : Stop) (before between after : Option Text) (f g status : ℕ) → Answers words told (status_of stop) (last_line_of stop) → between ≡ before → PutsLastLine stop between after f g status → ¬ (status ≡ 7) → Whole before after status
  unfolding Whole
  quiet_whole stop before between after f g status answer same (whole e put kept) other =
      (last_line_of stop, subst (λ s. Answers words told s (last_line_of stop)) (sym e) answer, put ∙ ap (option_map (with_piece (last_line_of stop))) same)
  quiet_whole stop before between after f g status answer same (in_part e front rose later) other = absurd (other e)
  quiet_whole stop before between after f g status answer same (in_want e kept faults) other =
      ([], subst (λ s. Answers words told s []) (sym e) (memory_alone nothing), kept ∙ same ∙ put_nothing before)

  quiet_front : (stop : Stop) (before between after : Option Text) (f g status : ℕ) → Answers words told (status_of stop) (last_line_of stop) → between ≡ before → PutsLastLine stop between after f g status → status ≡ 7
      → ¬ (status_of stop ≡ 7) → ¬ (status_of stop ≡ 0) → ¬ (status_of stop ≡ 8) → Front before after
  unfolding Front
  quiet_front stop before between after f g status answer same (whole e put kept) seven other some small = absurd (other (sym e ∙ seven))
  quiet_front stop before between after f g status answer same (in_part e front rose later) seven other some small =
      ([], last_line_of stop, refusal answer some small, record { taken = front.taken; appended = front.appended ∙ ap (option_map (with_piece (take front.taken (last_line_of stop)))) same })
  quiet_front stop before between after f g status answer same (in_want e kept faults) seven other some small = absurd (eight_seven status e seven)

  -- the line `memory` behind a front of what was played
  memory_whole : (before between after : Option Text) (f g status : ℕ) (text : Text) → IsFront words told text → between ≡ option_map (with_piece text) before → PutsLastLine Memory between after f g status → ¬ (status ≡ 7) → Whole before after status
  unfolding Whole
  memory_whole before between after f g status text front part (whole e put kept) other = (
    text ++ last_line_of Memory,
    subst (λ s. Answers words told s (text ++ last_line_of Memory)) (sym e) (memory front),
    put ∙ ap (option_map (with_piece (last_line_of Memory))) part ∙ pieces_join text (last_line_of Memory) before,
  )
  memory_whole before between after f g status text front part (in_part e begins rose later) other = absurd (other e)
  memory_whole before between after f g status text front part (in_want e kept faults) other =
      (text, subst (λ s. Answers words told s text) (sym e) (memory_alone front), kept ∙ part)

  memory_front : (before between after : Option Text) (f g status : ℕ) (text : Text) → IsFront words told text → between ≡ option_map (with_piece text) before → PutsLastLine Memory between after f g status → status ≡ 7 → Front before after
  unfolding Front
  memory_front before between after f g status text front part (whole e put kept) seven = absurd (eight_seven status e seven)
  memory_front before between after f g status text front part (in_part e begins rose later) seven =
      (text, last_line_of Memory, want front, record { taken = begins.taken; appended = begins.appended ∙ ap (option_map (with_piece (take begins.taken (last_line_of Memory)))) part ∙ pieces_join text (take begins.taken (last_line_of Memory)) before })
  memory_front before between after f g status text front part (in_want e kept faults) seven = absurd (eight_seven status e seven)

  -- ---- what is printed where the command ended before all was done

  pub printed_whole : (stop : Stop) (before between after : Option Text) (f g status : ℕ) → CommandComes words told before between (Err stop) → Finishes stop between after f g status → ¬ (status ≡ 7)
      → (text : Text) × Answers words told status text × IsPut text before after
  unfolding Whole
  printed_whole Usage before between after f g status comes ends other = quiet_whole Usage before between after f g status (usage comes.0) comes.1 ends other
  printed_whole (Script kind) before between after f g status comes ends other = quiet_whole (Script kind) before between after f g status (script comes.0) comes.1 ends other
  printed_whole (Application kind) before between after f g status comes ends other = quiet_whole (Application kind) before between after f g status (refused_application comes.0) comes.1 ends other
  printed_whole StoreFailed before between after f g status comes ends other = quiet_whole StoreFailed before between after f g status store_failed comes ends other
  printed_whole SinkFailed before between after f g status comes ends other = absurd (other ends.0)
  printed_whole Memory before between after f g status (inl same) ends other =
      memory_whole before between after f g status [] nothing (same ∙ put_nothing before) ends other
  printed_whole Memory before between after f g status (inr part) ends other =
      memory_whole before between after f g status part.3.text (begun part.3.n part.2 part.3.blocks) part.3.put ends other

  pub printed_front : (stop : Stop) (before between after : Option Text) (f g status : ℕ) → CommandComes words told before between (Err stop) → Finishes stop between after f g status → status ≡ 7
      → (put : Text) × (piece : Text) × IsUnderWay words told put piece × PutsInPart put piece before after
  unfolding Front
  printed_front Usage before between after f g status comes ends seven = quiet_front Usage before between after f g status (usage comes.0) comes.1 ends seven (λ e. omega arith) (λ e. omega arith) (λ e. omega arith)
  printed_front (Script kind) before between after f g status comes ends seven = quiet_front (Script kind) before between after f g status (script comes.0) comes.1 ends seven (λ e. omega arith) (λ e. omega arith) (λ e. omega arith)
  printed_front (Application kind) before between after f g status comes ends seven = quiet_front (Application kind) before between after f g status (refused_application comes.0) comes.1 ends seven (λ e. omega arith) (λ e. omega arith) (λ e. omega arith)
  printed_front StoreFailed before between after f g status comes ends seven = quiet_front StoreFailed before between after f g status store_failed comes ends seven (λ e. omega arith) (λ e. omega arith) (λ e. omega arith)
  printed_front SinkFailed before between after f g status comes ends seven = (comes.3.text, comes.3.piece, block comes.2 comes.3.blocks comes.3.next, record { taken = comes.3.put.taken; appended = ends.1 ∙ comes.3.put.appended })
  printed_front Memory before between after f g status (inl same) ends seven = memory_front before between after f g status [] nothing (same ∙ put_nothing before) ends seven
  printed_front Memory before between after f g status (inr part) ends seven = memory_front before between after f g status part.3.text (begun part.3.n part.2 part.3.blocks) part.3.put ends seven

  -- ---- the line of a refused script

  one_cause : (a b : Text) → RefusedScript words told a → RefusedScript words told b → a ≡ b
  one_cause a b (gone_script command gone) (gone_script other missing) = refl
  one_cause a b (gone_script command gone) (refused_script {text = text} other stands refused) = absurd (not_both (told _) text stands (ap told (same_script words _ _ other command) ∙ gone))
  one_cause a b (refused_script {text = text} command stands refused) (gone_script other gone) = absurd (not_both (told _) text stands (ap told (same_script words _ _ command other) ∙ gone))
  one_cause a b (refused_script {text = text} command stands refused) (refused_script {text = same} other found again) =
      one_refusal text a b refused (subst (λ t. RefusedText t b) (same_some same text (sym found ∙ ap told (same_script words _ _ other command) ∙ stands)) again)

  line_answered : (status : ℕ) (text kind : Text) → Answers words told status text → status ≡ 5 → RefusedScript words told kind → text ≡ line (codes "refused " ++ kind)
  line_answered status text kind (played accepted printed) five given = absurd (omega (arith, five))
  line_answered status text kind (usage none) five given = absurd (omega (arith, five))
  line_answered status text kind (refused_application refused) five given = absurd (omega (arith, five))
  line_answered status text kind (script {kind = own} refused) five given = ap (λ k. line (codes "refused " ++ k)) (one_cause own kind refused given)
  line_answered status text kind store_failed five given = absurd (omega (arith, five))
  line_answered status text kind (memory front) five given = absurd (omega (arith, five))
  line_answered status text kind (memory_alone front) five given = absurd (omega (arith, five))

  pub script_line_put : (stop : Stop) (before between after : Option Text) (f g status : ℕ) (kind : Text) → CommandComes words told before between (Err stop) → Finishes stop between after f g status → RefusedScript words told kind → status ≡ 5
      → IsPut (line (codes "refused " ++ kind)) before after
  script_line_put stop before between after f g status kind comes ends refused five =
      let whole = printed_whole stop before between after f g status comes ends (λ seven. omega (arith, five, seven)) in
      subst (λ t. IsPut t before after) (line_answered status whole.0 kind whole.1 five refused) whole.2

  -- ---- the line of a refused application

  said_answered : (status : ℕ) (text : Text) (said : Said) → Answers words told status text → status ≡ 2 → RefusedApplication words told said → text ≡ said_line said
  said_answered status text said (played accepted printed) two given = absurd (omega (arith, two))
  said_answered status text said (usage none) two given = absurd (omega (arith, two))
  said_answered status text said (refused_application {said = own} refused) two given = ap said_line (one_said told own said refused.refuses given.refuses)
  said_answered status text said (script refused) two given = absurd (omega (arith, two))
  said_answered status text said store_failed two given = absurd (omega (arith, two))
  said_answered status text said (memory front) two given = absurd (omega (arith, two))
  said_answered status text said (memory_alone front) two given = absurd (omega (arith, two))

  pub application_line_put : (stop : Stop) (before between after : Option Text) (f g status : ℕ) (said : Said) → CommandComes words told before between (Err stop) → Finishes stop between after f g status → RefusedApplication words told said → status ≡ 2
      → IsPut (said_line said) before after
  application_line_put stop before between after f g status said comes ends refused two =
      let whole = printed_whole stop before between after f g status comes ends (λ seven. omega (arith, two, seven)) in
      subst (λ t. IsPut t before after) (said_answered status whole.0 said whole.1 two refused) whole.2

  -- ---- one cause excludes the others

  plays_not_usage : (events : List Event) → Plays words told events → IsUsage words → ⊥
  plays_not_usage events plays none = none plays.script plays.command

  plays_not_refused : (events : List Event) (kind : Text) → Plays words told events → RefusedScript words told kind → ⊥
  plays_not_refused events kind plays (gone_script command gone) = not_both (told plays.script) plays.text plays.stands (ap told (same_script words _ _ plays.command command) ∙ gone)
  plays_not_refused events kind plays (refused_script {text = text} command stands refused) =
      not_refused text events kind (subst (λ t. SpellsEvents t events) (same_some plays.text text (sym plays.stands ∙ ap told (same_script words _ _ plays.command command) ∙ stands)) plays.spells) refused

  accepted_not_refused : (m : Module) (events : List Event) (said : Said) → IsAccepted words told m events → RefusedApplication words told said → ⊥
  accepted_not_refused m events said accepted r = accepted_not_said told accepted.application m said accepted.accepted accepted.one r.refuses

  refused_not_usage : (kind : Text) → RefusedScript words told kind → IsUsage words → ⊥
  refused_not_usage kind (gone_script command gone) none = none _ command
  refused_not_usage kind (refused_script command stands refused) none = none _ command

  -- ---- which answer comes

  pub comes_played : (text : Text) → CommandPlays words told text → Comes words told 0
  comes_played text plays = record {
    accepted = λ m events accepted. inl refl;
    application = λ said refused. absurd (accepted_not_refused plays.m plays.events said plays.accepted refused);
    script = λ kind refused. absurd (plays_not_refused plays.events kind plays.accepted.plays refused);
  }

  pub comes_ended : (stop : Stop) (before between after : Option Text) (f g status : ℕ) → CommandComes words told before between (Err stop) → Finishes stop between after f g status → Comes words told status
  comes_ended Usage before between after f g status comes ends = record {
    accepted = λ m events accepted. absurd (plays_not_usage events accepted.plays comes.0);
    application = λ said refused. absurd (plays_not_usage _ refused.plays comes.0);
    script = λ kind refused. absurd (refused_not_usage kind refused comes.0);
  }
  comes_ended (Script own) before between after f g status comes ends = record {
    accepted = λ m events accepted. absurd (plays_not_refused events _ accepted.plays comes.0);
    application = λ said refused. absurd (plays_not_refused _ _ refused.plays comes.0);
    script = λ kind refused. with_outside 5 status (last_line_status (Script own) between after f g status ends);
  }
  comes_ended (Application own) before between after f g status comes ends = record {
    accepted = λ m events accepted. absurd (accepted_not_refused m events _ accepted comes.0);
    application = λ said refused. with_outside 2 status (last_line_status (Application own) between after f g status ends);
    script = λ kind refused. absurd (plays_not_refused _ kind comes.0.plays refused);
  }
  comes_ended StoreFailed before between after f g status comes ends = outside_comes status (last_line_status StoreFailed between after f g status ends)
  comes_ended SinkFailed before between after f g status comes ends = outside_comes status (inr (inl ends.0))
  comes_ended Memory before between after f g status comes ends = outside_comes status (from_memory status (last_line_status Memory between after f g status ends))

  -- ---- completeness

  pub complete_ended : (stop : Stop) (before between after : Option Text) (store_before store_now before_faults between_faults now_faults status : ℕ) (m : Module) (events : List Event) → IsAccepted words told m events → CommandComes words told before between (Err stop)
      → Finishes stop between after between_faults now_faults status → EndsForFaults {T = Unit {0}} StoreFailed store_before store_now (Err stop) → EndsForFaults {T = Unit {0}} SinkFailed before_faults between_faults (Err stop)
      → ¬ Rose store_before store_now → ¬ Rose before_faults now_faults → (status ≡ 0) ⊎ (status ≡ 8)
  complete_ended Usage before between after sb sn f g h status m events accepted comes ends store sink no_store no_sink = absurd (plays_not_usage events accepted.plays comes.0)
  complete_ended (Script own) before between after sb sn f g h status m events accepted comes ends store sink no_store no_sink = absurd (plays_not_refused events _ accepted.plays comes.0)
  complete_ended (Application own) before between after sb sn f g h status m events accepted comes ends store sink no_store no_sink = absurd (accepted_not_refused m events _ accepted comes.0)
  complete_ended StoreFailed before between after sb sn f g h status m events accepted comes ends store sink no_store no_sink = absurd (no_store (store.failed refl))
  complete_ended SinkFailed before between after sb sn f g h status m events accepted comes ends store sink no_store no_sink = absurd (no_sink (subst (Rose f) (sym ends.2) (sink.failed refl)))
  complete_ended Memory before between after sb sn f g h status m events accepted comes ends store sink no_store no_sink =
      memory_complete between after f g h status ends (sink.kept (λ e. apart e)) no_sink

  -- ---- the headline

  pub headline_played : (before after : Option Text) (m : Module) (events : List Event) (text : Text) → IsAccepted words told m events → CommandPlays words told text → IsPut text before after → (text : Text) × IsOutput m events text × IsPut text before after
  headline_played before after m events text accepted plays put =
      let same_module = one_played told plays.accepted.application accepted.application plays.m m plays.accepted.accepted accepted.accepted plays.accepted.one accepted.one in
      let same_text = same_some plays.accepted.plays.text accepted.plays.text (sym plays.accepted.plays.stands ∙ ap told (same_script words _ _ plays.accepted.plays.command accepted.plays.command) ∙ accepted.plays.stands) in
      let same_events = one_script accepted.plays.text plays.events events (subst (λ t. SpellsEvents t plays.events) same_text plays.accepted.plays.spells) accepted.plays.spells in
      (text, subst (λ es. IsOutput m es text) same_events (subst (λ n. IsOutput n plays.events text) same_module plays.printed), put)
