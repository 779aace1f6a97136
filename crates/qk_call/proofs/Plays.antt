-- What is told of a call is what it comes to.
use Rattle.std.proofs.Common.{◌≡◌, ◌∙◌, sym, subst, false, List, [], Result, refl}
use Rattle.qk_ast.specs.declared.Form.{Form}
use Rattle.qk_ast.specs.Texts.{Text}
use Rattle.qk_base.specs.Left.{Left}
use Rattle.qk_base.specs.declared.meter.Budget.{Budget}
use Rattle.qk_meaning.specs.Value.{end}
use Rattle.qk_meaning.specs.Program.{captures_in}
use Rattle.qk_meaning.specs.Running.{Running}
use Rattle.qk_meaning.specs.Happening.{Happening}
use Rattle.qk_value.specs.declared.value.Value.{Value, Fun as Function}
use Rattle.qk_value.specs.declared.value.Fun.{Fun}
use Rattle.qk_heap.specs.declared.object.Object.{Object}
use Rattle.qk_heap.specs.Told.{Told}
use Rattle.qk_code.specs.declared.mode.Mode.{Mode}
use Rattle.qk_code.specs.declared.stop.Stop.{Stop}
use Rattle.qk_code.specs.declared.ask.Ask.{Ask}
use Rattle.qk_code.specs.Counts.{Counts}
use Rattle.qk_code.specs.Modes.{mode_seen}
use Rattle.qk_code.specs.Sources.{Sources, reading}
use Rattle.qk_heap.specs.Seen.{heap_seen}
use Rattle.qk_code.specs.World.{Past, world, since, state}
use Rattle.qk_code.proofs.Runs.{extends_self}
use Rattle.qk_eval.specs.declared.machine.Machine.{Machine}
use Rattle.qk_eval.specs.Called.{Calls}
use Rattle.qk_eval.specs.Seeing.{value_seen}
use Rattle.qk_eval.specs.Standing.{with_scope}
use Rattle.qk_call.specs.declared.played.Came.{Came}
use Rattle.qk_call.specs.Lines.{lines_told}
use Rattle.qk_call.specs.Playing.{Plays, answered_by}
use Rattle.qk_call.proofs.Lines.{lines_heard}

-- nothing went before
abbrev no_past : Past
no_past = record { log = []; lines = []; trace = []; kept = []; rest = [] }

-- a host that keeps these lines
abbrev keeps : List Text → List Told → Type 0
keeps lines list = lines_told list ≡ lines

abbrev whole_budget : Budget → Left
whole_budget most = record { turns = most.turns; depth = most.depth; entered = 0 }

module _ (form : Form) (mode : Mode) (f : Fun) (most : Budget) (files files' : Sources) (counts counts' : Counts) (asked asked' : List Ask → Type 0) (lines' : List Text) (machine' : Machine) where
  -- it was answered so, from this budget, these objects and these lines
  abbrev Answered_so : Came → Left → List Object → List Text → Type 0
  Answered_so came left objects lines =
      Calls form false mode f [] (world files counts asked left (λ p. heap_seen (captures_in p) objects) (λ p. end) (keeps lines)) (answered_by came) (with_scope files' counts' asked' machine' (λ p. end) (keeps lines'))

  abbrev Played_so : Came → Type 0
  Played_so came = Plays (reading form files') most (mode_seen mode) (value_seen (reading form files') (Function f)) (record { lines = lines'; came = came; heap = machine'.heap })

  abbrev end_state : List Happening → Running
  end_state happened = state false (reading form files') (since no_past happened) (with_scope files' counts' asked' machine' (λ p. end) (keeps lines'))

  played : (came : Came) → Answered_so came (whole_budget most) [] [] → Played_so came
  played (Came.Value v) ran =
      let happened : List Happening = ran.happened (reading form files') [] in
      record {
        left = end_state happened;
        comes = ran.agrees files' (extends_self files') tt no_past;
        lines = sym (lines_heard happened) ∙ ran.heard (reading form files') [] [] refl;
        objects = refl;
      }
  played (Came.Fault fault) ran =
      let happened : List Happening = ran.happened (reading form files') [] in
      let stops = ran.agrees files' (extends_self files') tt no_past in
      record {
        left = record (end_state happened) { locals = stops.locals; hooking = stops.hooking };
        comes = stops.is;
        lines = sym (lines_heard happened) ∙ ran.heard (reading form files') [] [] refl;
        objects = refl;
      }
  played Came.Ended ran =
      let happened : List Happening = ran.happened (reading form files') [] in
      let stops = ran.agrees files' (extends_self files') tt no_past in
      record {
        left = record (end_state happened) { locals = stops.locals; hooking = stops.hooking };
        comes = stops.is;
        lines = sym (lines_heard happened) ∙ ran.heard (reading form files') [] [] refl;
        objects = refl;
      }

  pub plays : (came : Came) (answer : Result Value Stop) (left : Left) (objects : List Object) (lines : List Text)
      → answer ≡ answered_by came → left ≡ whole_budget most → objects ≡ [] → lines ≡ []
      → Calls form false mode f [] (world files counts asked left (λ p. heap_seen (captures_in p) objects) (λ p. end) (keeps lines)) answer (with_scope files' counts' asked' machine' (λ p. end) (keeps lines'))
      → Played_so came
  plays came answer left objects lines answered budget none silent ran =
      let by_answer : Answered_so came left objects lines = subst (λ (a : Result Value Stop). Calls form false mode f [] (world files counts asked left (λ p. heap_seen (captures_in p) objects) (λ p. end) (keeps lines)) a (with_scope files' counts' asked' machine' (λ p. end) (keeps lines'))) answered ran in
      let by_budget : Answered_so came (whole_budget most) objects lines = subst (λ (l : Left). Answered_so came l objects lines) budget by_answer in
      let by_objects : Answered_so came (whole_budget most) [] lines = subst (λ (o : List Object). Answered_so came (whole_budget most) o lines) none by_budget in
      played came (subst (λ (l : List Text). Answered_so came (whole_budget most) [] l) silent by_objects)
