-- The passes of a session whose one component shows one element, where it is known what the component's function does.
use Rattle.std.specs.Prelude.{◌≡◌, refl, ℕ, suc, ℤ, Bool, true, false, List, [], ◌∷◌, ◌++◌, Option, Some, None, length, ◌&&◌, not, is_some}
use Rattle.std.proofs.Common.{ap, ◌∙◌, append-nil}
use Rattle.std.proofs.lemmas.Bool.{eq-eqb}
use Rattle.std.proofs.Math.Seq.{drop-append_seam}
use Rattle.qk_meaning.specs.Manner.{whole}
use Rattle.qk_meaning.specs.Setting.{called_anew}
use Rattle.qk_meaning.specs.Value.{Text, Site, Shown, Element, Component, Value, Fields, Ref, Elem, Closure, none, end}
use Rattle.qk_meaning.specs.World.{Object, Props, Loc, Read, Hook, Instance, World}
use Rattle.qk_meaning.specs.Parts.{packed}
use Rattle.qk_meaning.specs.Texts.{integer_text}
use Rattle.qk_meaning.specs.Program.{Program}
use Rattle.qk_meaning.specs.Doing.{Outcome, Gives, Doing, after, give, ◌>>◌, becomes, chosen, put_back}
use Rattle.qk_meaning.specs.Happening.{At_site, Happening, Entered}
use Rattle.qk_meaning.specs.Running.{Running, Effect, Pure, Hooking, Outside, Mounting, Again}
use Rattle.qk_meaning.specs.Evaluation.{entering}
use Rattle.qk_meaning.specs.Trace.{own_reads}
use Rattle.qk_meaning.specs.Expansion.{Tagged, Inside, Nodes, no_nodes, node, joined, text_nodes, Visit, expand_app, expand_item, view_with, wrapped, nothing_given, children_of}
use Rattle.qk_meaning.specs.Tree.{heard_by, tree, nodes_given, view_at}
use Rattle.qk_meaning.specs.Session.{Session, session_in, nothing_yet, runs}
use Rattle.qk_meaning.specs.Item.{Block, Event, html_within_limits, block, event, heard, records_of, first_render}
use Rattle.qk_meaning.specs.Execution.{execution, take_or_mount}
use Rattle.qk_meaning.specs.Settling.{Spot, due_hook, first_due, is_quiet, pass, round, settled, settled_within}
use Rattle.qk_first.proofs.Component.{child_values}

abbrev pub child_nodes : Bool → ℤ → Nodes
child_nodes true v = joined (text_nodes (integer_text v)) no_nodes
child_nodes false v = no_nodes

-- the view is expanded to one element
expands_view : {S : Type 0} (visit : Visit S) (n : ℕ) (shows : Bool) (tag : Text) (attributes : Fields) (v : ℤ) (s : S)
    → view_with (expand_item visit (suc (suc n))) [] (children_of none nothing_given) (Elem (Element tag) None [] attributes (packed (child_values shows v))) s
    ≡ Gives (node (Tagged tag attributes (child_nodes shows v)) no_nodes) s
expands_view visit n true tag attributes v s = refl
expands_view visit n false tag attributes v s = refl

-- the page of one component: the element that it shows, the objects and the hooks that it has, and what happens in it besides its entering
pub record Page : Type 0 where
  pub component : Site
  pub tag : Text
  pub attributes : Fields
  -- whether the number is shown
  pub shows : Bool
  -- the objects behind its props, at a number
  pub rest : ℤ → List Object
  pub hooks : List Hook
  -- what happens at its mount, and later where the log has this length
  pub first_told : List Happening
  pub told : ℕ → List Happening

module _ (p : Program) (levels : ℕ) (page : Page) (app : p.app ≡ Component page.component) (idle : (log : List Loc) → due_hook log 0 0 page.hooks ≡ None) where
  open page use {component, tag, attributes, shows, rest, hooks, first_told, told}

  abbrev pub view : ℤ → Value
  view v = Elem (Element tag) None [] attributes (packed (child_values shows v))

  abbrev pub nodes_of : ℤ → Nodes
  nodes_of v = node (Inside [] (node (Tagged tag attributes (child_nodes shows v)) no_nodes)) no_nodes

  abbrev pub run_in : ℤ → List Loc → List Text → ℕ → List Happening → Hooking → Running
  run_in v log lines turns trace hooking = record { heap = Props end ∷ rest v; log = log; lines = lines; turns = turns; trace = trace; locals = end; hooking = hooking; kept = [] }

  abbrev pub stood : Value → List Read → Instance
  stood w reads = record { path = []; component = Component component; props = 0; hooks = hooks; view = w; reads = reads }

  -- a component whose view is this is expanded to its nodes
  expands : {S : Type 0} (visit : Visit S) (v : ℤ) (s t : S)
      → visit (record { path = []; shown = Component component; fields = end }) s ≡ Gives (view v) t
      → expand_app visit (Component component) s ≡ Gives (nodes_of v) t
  expands {S} visit v s t e =
      ap (λ (o : Outcome S Value). after o (λ w. wrapped (λ nodes. Inside [] nodes) (view_with (expand_item visit 128) [] (children_of none nothing_given) w))) e
      ∙ ap (λ (o : Outcome S Nodes). after o (λ nodes. give (node (Inside [] nodes) no_nodes))) (expands_view visit 126 shows tag attributes v t)

  -- the expansion over the settled instance
  shown_nodes : (log : List Loc) (lines : List Text) (v : ℤ) (reads : List Read) → tree (Component component) (record { heap = Props end ∷ rest v; log = log; lines = lines; instances = stood (view v) reads ∷ [] }) ≡ nodes_of v
  shown_nodes log lines v reads = ap nodes_given (expands (view_at (stood (view v) reads ∷ [])) v tt tt refl)

  -- ---- a pass over the instance that stands

  -- what happens in an execution
  abbrev pub happens : ℕ → List Happening
  happens at = Entered (At_site component) ∷ told at

  abbrev pub mounting : List Happening
  mounting = Entered (At_site component) ∷ first_told

  abbrev pub session : ℤ → List Loc → List Text → ℕ → List Happening → List Instance → List Instance → Bool → Session
  session v log lines turns trace instances executed mounted = record { running = run_in v log lines turns trace Outside; instances = instances; executed = executed; mounted = mounted }

  module _ (again : (v : ℤ) (log : List Loc) (lines : List Text) (turns : ℕ) (trace : List Happening)
      → entering p called_anew levels Pure [] (Closure component end false) (Ref 0 ∷ []) (run_in v log lines (suc turns) trace (Again hooks)) ≡ Gives (view v) (run_in v log lines turns (trace ++ happens (length log)) (Again []))) where
    executes : (v : ℤ) (log : List Loc) (lines : List Text) (turns : ℕ) (trace : List Happening)
        → execution p called_anew levels (Again hooks) (Component component) 0 (run_in v log lines (suc turns) trace Outside)
        ≡ Gives (record { view = view v; hooks = []; reads = own_reads (happens (length log)) }) (run_in v log lines turns (trace ++ happens (length log)) Outside)
    executes v log lines turns trace = rw (again v log lines turns trace, drop-append_seam trace (happens (length log)))

    visits : (w : Value) (reads : List Read) (v : ℤ) (log : List Loc) (lines : List Text) (turns : ℕ) (trace : List Happening)
        → take_or_mount p called_anew levels (record { path = []; shown = Component component; fields = end }) (session v log lines (suc turns) trace (stood w reads ∷ []) [] false)
        ≡ Gives (view v) (session v log lines turns (trace ++ happens (length log)) (stood w reads ∷ []) (stood (view v) (own_reads (happens (length log))) ∷ []) false)
    visits w reads v log lines turns trace = rw (append-nil log, append-nil trace, executes v log lines turns trace)

    passes : (w : Value) (reads : List Read) (v : ℤ) (log : List Loc) (lines : List Text) (turns : ℕ) (trace : List Happening) (executed : List Instance) (mounted : Bool)
        → pass (whole p levels) (session v log lines (suc turns) trace (stood w reads ∷ []) executed mounted)
        ≡ Gives (nodes_of v) (session v log lines turns (trace ++ happens (length log)) (stood (view v) (own_reads (happens (length log))) ∷ []) [] false)
    passes w reads v log lines turns trace executed mounted =
        ap (λ (a : Shown). after (expand_app (take_or_mount p called_anew levels) a (session v log lines (suc turns) trace (stood w reads ∷ []) [] false)) (λ nodes. ◌>>◌ (becomes (λ s. record s { instances = s.executed; executed = [] })) (give nodes))) app
        ∙ ap (λ (o : Outcome Session Nodes). after o (λ nodes. ◌>>◌ (becomes (λ s. record s { instances = s.executed; executed = [] })) (give nodes)))
        (expands (take_or_mount p called_anew levels) v (session v log lines (suc turns) trace (stood w reads ∷ []) [] false)
        (session v log lines turns (trace ++ happens (length log)) (stood w reads ∷ []) (stood (view v) (own_reads (happens (length log))) ∷ []) false) (visits w reads v log lines turns trace))

    none_due : (w : Value) (reads : List Read) (v : ℤ) (log : List Loc) (lines : List Text) → first_due (record { heap = Props end ∷ rest v; log = log; lines = lines; instances = stood w reads ∷ [] }) ≡ None
    none_due w reads v log lines = ap (λ (o : Option Spot). elim o [ Some spot ↦ Some spot | None ↦ None ]) (idle log)

    quiet : (w : Value) (reads : List Read) (v : ℤ) (log : List Loc) (lines : List Text) (turns : ℕ) (trace : List Happening)
        → is_quiet (length log) (session v log lines turns trace (stood w reads ∷ []) [] false) ≡ true
    quiet w reads v log lines turns trace =
        ap (λ (b : Bool). b && not (is_some (first_due (record { heap = Props end ∷ rest v; log = log; lines = lines; instances = stood w reads ∷ [] })))) (eq-eqb (length log) (length log) refl)
        ∙ ap (λ (o : Option Spot). not (is_some o)) (none_due w reads v log lines)

    settles : (rounds : ℕ) (w : Value) (reads : List Read) (v : ℤ) (log : List Loc) (lines : List Text) (turns : ℕ) (trace : List Happening) (executed : List Instance) (mounted : Bool)
        → settled_within (whole p levels) (suc rounds) (session v log lines (suc turns) trace (stood w reads ∷ []) executed mounted)
        ≡ Gives tt (session v log lines turns (trace ++ happens (length log)) (stood (view v) (own_reads (happens (length log))) ∷ []) [] false)
    settles rounds w reads v log lines turns trace executed mounted =
        let before = session v log lines (suc turns) trace (stood w reads ∷ []) executed mounted in
        let behind = session v log lines turns (trace ++ happens (length log)) (stood (view v) (own_reads (happens (length log))) ∷ []) [] false in
        ap (λ (o : Option Spot). round (whole p levels) (settled_within (whole p levels) rounds) o before) (none_due w reads v log lines)
        ∙ ap (λ (o : Outcome Session Nodes). after o (λ u s. chosen (is_quiet (length log) s) (give tt) (settled_within (whole p levels) rounds) s)) (passes w reads v log lines turns trace executed mounted)
        ∙ ap (λ (b : Bool). chosen b (give tt) (settled_within (whole p levels) rounds) behind) (quiet (view v) (own_reads (happens (length log))) v log lines turns (trace ++ happens (length log)))

    -- ---- blocks

    module _ (text : ℤ → Text) (fits : (v : ℤ) (s : Running) → html_within_limits (nodes_of v) s ≡ Gives (text v) s) where
      abbrev pub shows_block : Bool → ℤ → Block
      shows_block found_none v = record { none = found_none; lines = []; html = text v }

      shown_in : (v : ℤ) (log : List Loc) (reads : List Read) → tree p.app (record { heap = Props end ∷ rest v; log = log; lines = []; instances = stood (view v) reads ∷ [] }) ≡ nodes_of v
      shown_in v log reads = ap (λ (a : Shown). tree a (record { heap = Props end ∷ rest v; log = log; lines = []; instances = stood (view v) reads ∷ [] })) app ∙ shown_nodes log [] v reads

      gives_block : (found_none : Bool) (v : ℤ) (log : List Loc) (turns : ℕ) (trace : List Happening) (reads : List Read) (executed : List Instance) (mounted : Bool)
          → block (whole p levels) found_none (session v log [] turns trace (stood (view v) reads ∷ []) executed mounted)
          ≡ Gives (shows_block found_none v) (session v log [] turns trace (stood (view v) reads ∷ []) executed mounted)
      gives_block found_none v log turns trace reads executed mounted =
          let w = session v log [] turns trace (stood (view v) reads ∷ []) executed mounted in
          let next : Text → Doing Session Block = λ t. give (record { none = found_none; lines = []; html = t }) in
          ap (λ (n : Nodes). after (runs (html_within_limits n) w) next) (shown_in v log reads)
          ∙ ap (λ (o : Outcome Running Text). after (put_back (λ s. record w { running = s }) o) next) (fits v w.running)

      -- ---- events

      abbrev pub world : ℤ → List Loc → List Read → World
      world v log reads = record { heap = Props end ∷ rest v; log = log; lines = []; instances = stood (view v) reads ∷ [] }

      pub unheard : (e : Event) (v : ℤ) (log : List Loc) (reads : List Read) (turns : ℕ)
          → heard_by e.kind e.id (nodes_of v) ≡ None
          → event (whole p levels) e (session v log [] turns [] (stood (view v) reads ∷ []) [] false)
          ≡ Gives (shows_block true v) (session v log [] turns [] (stood (view v) reads ∷ []) [] false)
      unheard e v log reads turns unfound =
          let w = session v log [] turns [] (stood (view v) reads ∷ []) [] false in
          ap (λ (n : Nodes). heard (whole p levels) e (heard_by e.kind e.id n) w) (shown_in v log reads)
          ∙ ap (λ (o : Option Value). heard (whole p levels) e o w) unfound
          ∙ gives_block true v log turns [] reads [] false

      -- the listener is called, and the session settles
      pub heard_at : (e : Event) (f r : Value) (v u : ℤ) (log more : List Loc) (reads : List Read) (turns : ℕ) (trace : List Happening)
          → heard_by e.kind e.id (nodes_of v) ≡ Some f
          → entering p called_anew levels Effect [] f (records_of e) (run_in v log [] (suc (suc turns)) [] Outside) ≡ Gives r (run_in u more [] (suc turns) trace Outside)
          → event (whole p levels) e (session v log [] (suc (suc turns)) [] (stood (view v) reads ∷ []) [] false)
          ≡ Gives (shows_block false u) (session u more [] turns (trace ++ happens (length more)) (stood (view u) (own_reads (happens (length more))) ∷ []) [] false)
      heard_at e f r v u log more reads turns trace found called =
          let w = session v log [] (suc (suc turns)) [] (stood (view v) reads ∷ []) [] false in
          ap (λ (n : Nodes). heard (whole p levels) e (heard_by e.kind e.id n) w) (shown_in v log reads)
          ∙ ap (λ (o : Option Value). heard (whole p levels) e o w) found
          ∙ ap (λ (o : Outcome Running Value). after (put_back (λ s. record w { running = s }) o) (λ a. ◌>>◌ (settled (whole p levels)) (block (whole p levels) false))) called
          ∙ ap (λ (o : Outcome Session (Unit {0})). after o (λ a. block (whole p levels) false)) (settles (suc turns) (view v) reads u more [] turns trace [] false)
          ∙ gives_block false u more turns (trace ++ happens (length more)) (own_reads (happens (length more))) [] false

      -- ---- the first render

      module _ (k : ℤ) (mounts : (turns : ℕ) → entering p called_anew levels Pure [] (Closure component end false) (Ref 0 ∷ [])
          (record { heap = Props end ∷ []; log = []; lines = []; turns = suc turns; trace = []; locals = end; hooking = Mounting [] [] []; kept = [] }) ≡ Gives (view k) (run_in k [] [] turns mounting (Mounting [] [] hooks))) where
        mounted_so : (turns : ℕ) → take_or_mount p called_anew levels (record { path = []; shown = Component component; fields = end }) (session_in nothing_yet (suc turns))
            ≡ Gives (view k) (session k [] [] turns mounting [] (stood (view k) (own_reads mounting) ∷ []) true)
        mounted_so turns = rw (mounts turns)

        first_pass : (turns : ℕ) → pass (whole p levels) (session_in nothing_yet (suc turns)) ≡ Gives (nodes_of k) (session k [] [] turns mounting (stood (view k) (own_reads mounting) ∷ []) [] true)
        first_pass turns =
            ap (λ (a : Shown). after (expand_app (take_or_mount p called_anew levels) a (session_in nothing_yet (suc turns))) (λ nodes. ◌>>◌ (becomes (λ s. record s { instances = s.executed; executed = [] })) (give nodes))) app
            ∙ ap (λ (o : Outcome Session Nodes). after o (λ nodes. ◌>>◌ (becomes (λ s. record s { instances = s.executed; executed = [] })) (give nodes)))
            (expands (take_or_mount p called_anew levels) k (session_in nothing_yet (suc turns)) (session k [] [] turns mounting [] (stood (view k) (own_reads mounting) ∷ []) true) (mounted_so turns))

        pub renders : (turns : ℕ) → first_render (whole p levels) (session_in nothing_yet (suc (suc turns)))
            ≡ Gives (shows_block false k) (session k [] [] turns (mounting ++ happens 0) (stood (view k) (own_reads (happens 0)) ∷ []) [] false)
        renders turns =
            ap (λ (o : Outcome Session Nodes). after (after o (λ u s. chosen (is_quiet 0 s) (give tt) (settled_within (whole p levels) (suc (suc turns))) s)) (λ a. block (whole p levels) false)) (first_pass (suc turns))
            ∙ ap (λ (o : Outcome Session (Unit {0})). after o (λ a. block (whole p levels) false)) (settles (suc turns) (view k) (own_reads mounting) k [] [] turns mounting [] true)
            ∙ gives_block false k [] turns (mounting ++ happens 0) (own_reads (happens 0)) [] false
