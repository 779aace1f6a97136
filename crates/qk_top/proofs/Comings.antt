-- What comes of a command, step by step.
use Rattle.std.proofs.Common.{◌≡◌, ◌≤◌, ℕ, zero, suc, List, [], ◌∷◌, refl, sym, ap, ◌∙◌, subst, map, length, take, Option, Some, inl, inr, arith}
use Rattle.std.specs.Prelude.{Result, Ok, Err, min}
use Rattle.std.proofs.lemmas.List.{length-take, take-map}
use Rattle.qk_ast.specs.declared.Module.{Module}
use Rattle.qk_store.specs.Files.{Files}
use Rattle.qk_application.specs.declared.application.Application.{Application as Accepted}
use Rattle.qk_application.specs.Accepting.{AcceptsOver}
use Rattle.qk_meaning.specs.Value.{Text}
use Rattle.qk_meaning.specs.Item.{Event}
use Rattle.qk_meaning.specs.Run.{Line, Happens, Run}
use Rattle.qk_meaning.specs.Output.{output}
use Rattle.qk_meaning.proofs.Items.{one_run}
use Rattle.qk_meaning.proofs.Fronts.{fronts_run}
use Rattle.qk_first.specs.Counter.{counter_of}
use Rattle.qk_first.specs.Laws.{application_of, RunsAsCounter}
use Rattle.qk_first.proofs.Law.{first_runs}
use Rattle.qk_first.specs.declared.shape.Counter.{Counter as Kept}
use Rattle.qk_first.specs.Kept.{counter_in, IsCounterOf}
use Rattle.qk_top.specs.Script.{SpellsItems, SpellsEvents}
use Rattle.qk_top.specs.Blocks as Blocks
use Rattle.qk_top.specs.Blocks.{played_text, blocks_text}
use Rattle.qk_top.proofs.Outputs.{output_is}
use Rattle.qk_top.specs.Words.{IsReplay}
use Rattle.qk_top.specs.Answers.{IsOutput, IsBlocks, IsAccepted, IsPlayed, Plays, gone_script, refused_script, Refuses, refused, not_built}
use Rattle.qk_top.specs.Refusals.{RefusesRoot}
use Rattle.qk_top.specs.Sources.{ApplicationComes, ScriptComes}
use Rattle.qk_top.specs.declared.stop.ScriptRefusal.TheVariants as scripts
use Rattle.qk_top.specs.declared.refusal.Kind.TheVariants as kind
use Rattle.qk_top.specs.declared.stop.Stop.{Stop}
use Rattle.qk_top.specs.declared.stop.Stop.TheVariants.{Usage, Script, Application, StoreFailed, SinkFailed, Memory}
use Rattle.qk_top.specs.Coming.{ApplicationPlays, ApplicationIs, PutsBlocks, PutsPartOfBlock, EventsCome, CommandPlays, CommandComes}

runs_of : (m : Module) (kept : Kept) (events : List Event) (h : IsCounterOf kept m) → length events ≤ 65536 → RunsAsCounter m (counter_of h.shape.text) events
runs_of m kept events h short = subst (λ n. RunsAsCounter n (counter_of h.shape.text) events) h.shape.means (first_runs h.shape.text h.shape.fits events short)

-- what is printed as the counter of a module of the first shape is the output of its run
output_of : (m : Module) (kept : Kept) (events : List Event) → IsCounterOf kept m → length events ≤ 65536 → IsOutput m events (played_text (counter_in kept) events)
output_of m kept events h short =
    let runs = runs_of m kept events h short in
    record { entries = runs.entries; run = runs.run; printed = output_is (counter_in kept) events ∙ (h.plays.printed events ∙ sym runs.prints) }

taken_short : (k : ℕ) (events : List Event) → length events ≤ 65536 → length (take k events) ≤ 65536
taken_short k events short = omega (arith, length-take k events, short)

-- and of its first blocks what the run prints of its first entries
blocks_of : (m : Module) (kept : Kept) (events : List Event) → IsCounterOf kept m → length events ≤ 65536 → (n : ℕ) → IsBlocks m events n (blocks_text (counter_in kept) events n)
blocks_of m kept events h short zero = let runs = runs_of m kept events h short in record { entries = runs.entries; run = runs.run; printed = refl }
blocks_of m kept events h short (suc k) =
    let runs = runs_of m kept events h short in
    let first = runs_of m kept (take k events) h (taken_short k events short) in
    let front = subst (λ script. Run (application_of m) (λ w. w) script (take (suc k) runs.entries)) (take-map Happens k events) (fronts_run (application_of m) (λ w. w) (map Happens events) runs.entries k runs.run) in
    let same : first.entries ≡ take (suc k) runs.entries = one_run (application_of m) (λ w. w) (map Happens (take k events)) first.entries (take (suc k) runs.entries) first.run front in
    record { entries = runs.entries; run = runs.run; printed = output_is (counter_in kept) (take k events) ∙ (h.plays.printed (take k events) ∙ (sym first.prints ∙ ap (output (application_of m)) same)) }

pub application_is : (told : Files) (a : Accepted) (m : Module) (kept : Kept) → AcceptsOver told (Ok a) → map (λ n. n.module) a.modules.list ≡ m ∷ [] → IsCounterOf kept m → ApplicationIs told m
application_is told a m kept accepted alone h = record { application = a; accepted = accepted; one = record { alone = alone; shape = h.shape } }

-- where the sink stopped the player
pub part_put : (m : Module) (kept : Kept) (events : List Event) (before after : Option Text) → IsCounterOf kept m → length events ≤ 65536 → Blocks.PutsPartOfBlock (counter_in kept) events before after → PutsPartOfBlock m events before after
part_put m kept events before after h short part = record {
  n = part.n;
  text = blocks_text (counter_in kept) events part.n;
  piece = part.piece;
  blocks = blocks_of m kept events h short part.n;
  next = subst (IsBlocks m events (suc part.n)) part.next (blocks_of m kept events h short (suc part.n));
  put = record { taken = part.taken; appended = part.put };
}

pub blocks_put : (m : Module) (kept : Kept) (events : List Event) (before after : Option Text) → IsCounterOf kept m → length events ≤ 65536 → Blocks.PutsBlocks (counter_in kept) events before after → PutsBlocks m events before after
blocks_put m kept events before after h short blocks = record { n = blocks.n; text = blocks_text (counter_in kept) events blocks.n; blocks = blocks_of m kept events h short blocks.n; put = blocks.put }

pub application_plays : (told : Files) (a : Accepted) (m : Module) (kept : Kept) (events : List Event) → AcceptsOver told (Ok a) → map (λ n. n.module) a.modules.list ≡ m ∷ [] → IsCounterOf kept m → length events ≤ 65536
    → ApplicationPlays told events (played_text (counter_in kept) events)
application_plays told a m kept events accepted alone h short =
    record { m = m; application = a; accepted = accepted; one = record { alone = alone; shape = h.shape }; printed = output_of m kept events h short }

-- the application isn't accepted
pub fault_ended : (told : Files) (events : List Event) (before : Option Text) (stop : Stop) (r : Result (Unit {0}) Stop) → ApplicationComes told (Err stop) → r ≡ Err stop → EventsCome told events before before r
fault_ended told events before stop r comes e = subst (EventsCome told events before before) (sym e) (by_stop stop comes)
  where
    by_stop : (s : Stop) → ApplicationComes told (Err s) → EventsCome told events before before (Err s)
    by_stop Usage h = h.2
    by_stop (Script kind) h = h.2
    by_stop (Application refusal) h = (refused h.1 h.2, refl)
    by_stop StoreFailed h = refl
    by_stop SinkFailed h = absurd h.2
    by_stop Memory h = inl refl

-- it is accepted, and none that is played yet
pub not_built_ended : (told : Files) (events : List Event) (before : Option Text) (a : Accepted) (stop : Stop) → AcceptsOver told (Ok a) → ((m : Module) → ¬ IsPlayed a m) → RefusesRoot kind.NotBuilt stop → EventsCome told events before before (Err stop)
not_built_ended told events before a Usage accepted none h = h
not_built_ended told events before a (Script kind) accepted none h = h
not_built_ended told events before a (Application refusal) accepted none h = (subst (Refuses told) (sym h) (not_built accepted none), refl)
not_built_ended told events before a StoreFailed accepted none h = absurd h
not_built_ended told events before a SinkFailed accepted none h = absurd h
not_built_ended told events before a Memory accepted none h = inl refl

-- ---- from the application's part to the command

-- the items that were read are these events
pub spells_events : (text : Text) (items : List Line) (events lent : List Event) → SpellsItems text items → items ≡ map Happens events → lent ≡ events → SpellsEvents text lent
spells_events text items events lent spells e same = subst (SpellsItems text) (e ∙ ap (map Happens) (sym same)) spells

pub plays_events : (words : List Text) (told : Files) (script text : Text) (items : List Line) (events lent : List Event) → IsReplay words script → told script ≡ Some text → SpellsItems text items
    → items ≡ map Happens events → lent ≡ events → Plays words told lent
plays_events words told script text items events lent command stands spells e same =
    record { script = script; text = text; command = command; stands = stands; spells = spells_events text items events lent spells e same }

pub script_ended : (words : List Text) (told : Files) (script : Text) (before : Option Text) (stop : Stop) (r : Result (Unit {0}) Stop) → IsReplay words script → ScriptComes told script (Err stop) → r ≡ Err stop → CommandComes words told before before r
script_ended words told script before stop r command ended e = subst (CommandComes words told before before) (sym e) (by_stop stop ended)
  where
    by_stop : (s : Stop) → ScriptComes told script (Err s) → CommandComes words told before before (Err s)
    by_stop Usage h = absurd h.2
    by_stop (Script scripts.Missing) h = (gone_script command h, refl)
    by_stop (Script scripts.TooLong) h = (refused_script command h.1 h.2, refl)
    by_stop (Script scripts.NotUtf8) h = (refused_script command h.1 h.2, refl)
    by_stop (Script (scripts.Line number)) h = (refused_script command h.1 h.2, refl)
    by_stop (Script scripts.TooMany) h = (refused_script command h.1 h.2, refl)
    by_stop (Script scripts.NotBuilt) h = (refused_script command h.1 h.2, refl)
    by_stop (Application kind) h = absurd h.2
    by_stop StoreFailed h = refl
    by_stop SinkFailed h = absurd h.2
    by_stop Memory h = inl refl

-- an application that plays is a command that plays
command_plays : (words : List Text) (told : Files) (events : List Event) (text : Text) → Plays words told events → ApplicationPlays told events text → CommandPlays words told text
command_plays words told events text plays h =
    record { m = h.m; events = events; accepted = record { plays = plays; application = h.application; accepted = h.accepted; one = h.one }; printed = h.printed }

accepted_is : (words : List Text) (told : Files) (events : List Event) (m : Module) → Plays words told events → ApplicationIs told m → IsAccepted words told m events
accepted_is words told events m plays h = record { plays = plays; application = h.application; accepted = h.accepted; one = h.one }

pub events_ended : (words : List Text) (told : Files) (events : List Event) (before after : Option Text) (r : Result (Unit {0}) Stop) → Plays words told events → EventsCome told events before after r → CommandComes words told before after r
events_ended words told events before after (Ok u) plays comes = (comes.0, command_plays words told events comes.0 plays comes.1, comes.2)
events_ended words told events before after (Err Usage) plays comes = absurd comes
events_ended words told events before after (Err (Script kind)) plays comes = absurd comes
events_ended words told events before after (Err (Application refusal)) plays comes = (record { events = events; plays = plays; refuses = comes.0 }, comes.1)
events_ended words told events before after (Err StoreFailed) plays comes = comes
events_ended words told events before after (Err SinkFailed) plays comes = (comes.0, events, accepted_is words told events comes.0 plays comes.1, comes.2)
events_ended words told events before after (Err Memory) plays (inl same) = inl same
events_ended words told events before after (Err Memory) plays (inr comes) = inr (comes.0, events, accepted_is words told events comes.0 plays comes.1, comes.2)
