-- The run of a module of the first form prints what its counter prints.
use Rattle.std.specs.Prelude.{◌≡◌, refl, ℕ, suc, ◌+◌, ◌≤◌, ℤ, pos, Bool, true, false, not, List, [], ◌∷◌, ◌++◌, map, length, Option, Some, None, IsTrue, codes}
use Rattle.std.proofs.Common.{ap, ◌∙◌, arith}
use Rattle.std.proofs.lemmas.List.{append_assoc}
use Rattle.std.proofs.lemmas.Bool.{false≢true, leb-true}
use mathlib.Core.Path.{sym, subst}
use Rattle.qk_ast.specs.declared.Module.{Module}
use Rattle.qk_ast.specs.Characters.{Characters, is_one_of, number_after}
use Rattle.qk_ast.specs.Tree.{names_tree}
use Rattle.qk_ast.specs.First.{is_distinct}
use Rattle.qk_ast.specs.First.{First_attribute, Shape, Selfclosing, Empty, Shown, names_of, are_qwik_names, attribute_name, state_fits}
use Rattle.qk_meaning.specs.Value.{Text, Site, Value, Int, Ref, Closure, Fields, end, field}
use Rattle.qk_meaning.specs.World.{Object, Props, Signal, Loc, Hook, Kept}
use Rattle.qk_ast.specs.Names.{is_listed}
use Rattle.qk_meaning.specs.Program.{Program, Code, captures_in}
use Rattle.qk_meaning.specs.Doing.{Gives}
use Rattle.qk_meaning.specs.Happening.{At_site, Entered, Happening}
use Rattle.qk_meaning.specs.Running.{Running, Mode, Pure, Effect, Hooking, Mounting, Again}
use Rattle.qk_meaning.specs.Setting.{setting_of, called_anew}
use Rattle.qk_meaning.specs.Evaluation.{entered, entering, field_values}
use Rattle.qk_meaning.specs.Readings.{program_of}
use Rattle.qk_meaning.specs.Item.{Event}
use Rattle.qk_first.specs.Counter.{Counter, counter_of, initial_of, is_shown}
use Rattle.qk_first.specs.Laws.{RunsAsCounter, FirstRun}
use Rattle.qk_first.proofs.Words.{component_site, listener_site, attribute_pairs, field_row, element, first_module}
use Rattle.qk_first.proofs.Texts.{left, right, IsWord, word}
use Rattle.qk_first.proofs.Imports.{no_app, not_hook, hook_listed}
use Rattle.qk_first.proofs.Listings.{Listing, nothing, id_only, click_only, id_click, click_id, listing, has_listener}
use Rattle.qk_first.proofs.Listings as listings
use Rattle.qk_first.proofs.Listener as listener
use Rattle.qk_first.proofs.Listener.{value_in, listener_code}
use Rattle.qk_first.proofs.Component as component
use Rattle.qk_first.proofs.Component.{Makes, attribute_fields, reads_told, hook_told, component_code, bare_code}
use Rattle.qk_first.proofs.Integers.{differs}
use Rattle.qk_first.proofs.Roots.{up_of, modules, app_is, hook_root, component_coded, listener_sited, listener_coded}
use Rattle.qk_first.proofs.Elements.{IsTag, tag_holds}
use Rattle.qk_first.proofs.Runs as runs
use Rattle.qk_first.proofs.Trees.{module_is, signal_of}

-- a function is entered by its code
enters : (p : Program) (l : ℕ) (mode : Mode) (site : Site) (scope : Fields) (arguments : List Value) (s : Running) (code : Code) → p.code site ≡ code
    → entering p called_anew (suc l) mode [] (Closure site scope false) arguments s ≡ entered (At_site site) code (setting_of p called_anew (entering p called_anew l) mode [] code) scope arguments s
enters p l mode site scope arguments s code e = ap (λ (k : Code). entered (At_site site) k (setting_of p called_anew (entering p called_anew l) mode [] k) scope arguments s) e

-- attributes without a listener are what they are written as
bare_fields : (p : Program) (l : ℕ) (n : Text) {attributes : List First_attribute} → Listing attributes → has_listener attributes ≡ false → (s : Running)
    → field_values (field_row (attribute_pairs n attributes)) (component.here p (entering p called_anew l) n) s ≡ Gives (attribute_fields n attributes) s
bare_fields p l n nothing h s = refl
bare_fields p l n (id_only w) h s = refl
bare_fields p l n click_only h s = absurd (false≢true (sym h))
bare_fields p l n (id_click w) h s = absurd (false≢true (sym h))
bare_fields p l n (click_id w) h s = absurd (false≢true (sym h))

-- the element is made within the limits, where its listener is light and flat
makes : (p : Program) (l : ℕ) (n tag : Text) (shows : Bool) {attributes : List First_attribute} → Listing attributes → listings.Light (captures_in p) n tag attributes
    → Makes p (entering p called_anew l) n tag shows (attribute_fields n attributes)
makes p l n tag shows list light = record {
  no_fault = listings.no_fault (captures_in p) n tag list shows;
  makes_view = listings.makes_view (captures_in p) n tag list shows;
  light = listings.light (captures_in p) n tag list light shows;
  flat = listings.flat (captures_in p) n tag list light shows;
}

-- ---- with a signal

module _ (names : List Text) (n tag : Text) (k : ℕ) (shows : Bool) {attributes : List First_attribute} (list : Listing attributes) (tagged : IsTag tag) (w : IsWord n) (l : ℕ)
    (other : is_listed (codes "App") names ≡ false) (hooked : is_listed (codes "useSignal") names ≡ true) where
  abbrev p : Program
  p = program_of (modules names n tag (Some (pos k)) shows attributes)

  abbrev counter : Counter
  counter = record { tag = tag; attributes = attributes; initial = pos k; shows = shows }

  signal_fields : (v : ℤ) (log : List Loc) (lines : List Text) (turns : ℕ) (trace : List Happening) (hooking : Hooking)
      → field_values (field_row (attribute_pairs n attributes)) (component.here p (entering p called_anew l) n) (component.counting p (entering p called_anew l) n v log lines turns trace hooking)
      ≡ Gives (attribute_fields n attributes) (component.counting p (entering p called_anew l) n v log lines turns trace hooking)
  signal_fields v log lines turns trace hooking = go (has_listener attributes) refl
    where
      go : (b : Bool) → has_listener attributes ≡ b
          → field_values (field_row (attribute_pairs n attributes)) (component.here p (entering p called_anew l) n) (component.counting p (entering p called_anew l) n v log lines turns trace hooking)
          ≡ Gives (attribute_fields n attributes) (component.counting p (entering p called_anew l) n v log lines turns trace hooking)
      go true e = component.gives_fields p (entering p called_anew l) n (λ s scope. refl) (listener_sited names n tag (pos k) shows list e) (up_of attributes) (listener_coded names n tag (pos k) shows list e) attributes v log lines turns trace hooking
      go false e = bare_fields p l n list e (component.counting p (entering p called_anew l) n v log lines turns trace hooking)

  signal_light : listings.Light (captures_in p) n tag attributes
  signal_light = record {
    weighs = λ e. component.listener_weight p (entering p called_anew l) n (λ s scope. refl) (listener_sited names n tag (pos k) shows list e) (up_of attributes) (listener_coded names n tag (pos k) shows list e);
    deep = λ e. component.listener_depth p (entering p called_anew l) n (λ s scope. refl) (listener_sited names n tag (pos k) shows list e) (up_of attributes) (listener_coded names n tag (pos k) shows list e);
  }

  abbrev rest : ℤ → List Object
  rest v = Signal (Int v) ∷ []

  abbrev hooks : List Hook
  hooks = Kept (Ref 1) ∷ []

  abbrev first_told : List Happening
  first_told = hook_told (pos k) (Signal (Int (pos k)) ∷ []) ∷ reads_told shows 0

  abbrev told : ℕ → List Happening
  told at = hook_told (pos k) [] ∷ reads_told shows at

  signal_does : runs.Does p (suc l) counter n list tagged (app_is names n tag (Some (pos k)) shows attributes other) rest hooks (λ log. refl) first_told told
  signal_does = record {
    again = λ v log lines turns before.
        enters p l Pure component_site end (Ref 0 ∷ []) (record { heap = Props end ∷ rest v; log = log; lines = lines; turns = suc turns; trace = before; locals = end; hooking = Again hooks; kept = [] }) (component_code n (pos k) (element shows n tag attributes)) (component_coded names n tag (Some (pos k)) shows attributes)
        ∙ component.again p (entering p called_anew l) n tag shows attributes (makes p l n tag shows list signal_light) signal_fields (pos k) (hook_root names n tag (Some (pos k)) shows attributes hooked) (not_hook n w) component_site (Ref 0 ∷ []) v log lines turns before
        ∙ ap (λ (t : List Happening). Gives (component.view p (entering p called_anew l) n tag shows (attribute_fields n attributes) v) (record { heap = Props end ∷ rest v; log = log; lines = lines; turns = turns; trace = t; locals = end; hooking = Again []; kept = [] }))
        (append_assoc (before ++ Entered (At_site component_site) ∷ []) (hook_told (pos k) [] ∷ []) (reads_told shows (length log)) ∙ append_assoc before (Entered (At_site component_site) ∷ []) (told (length log)));
    counts = λ e v arguments log turns stays.
        enters p l Effect listener_site (field n (Ref 1) end) arguments (listener.counting p (entering p called_anew l) n v log [] (suc turns) []) (listener_code n (up_of attributes)) (listener_coded names n tag (pos k) shows list e)
        ∙ listener.counts p (entering p called_anew l) n (up_of attributes) listener_site arguments v log [] turns stays (differs (up_of attributes) v);
  }

  with_signal : (events : List Event) → k + length events ≤ 2000000
      → runs.RunsWhole p (suc l) counter n list tagged (app_is names n tag (Some (pos k)) shows attributes other) rest hooks (λ log. refl) first_told told signal_does events
  with_signal events room =
      runs.runs_whole p (suc l) counter n list tagged (app_is names n tag (Some (pos k)) shows attributes other) rest hooks (λ log. refl) first_told told signal_does
      (λ turns.
      enters p l Pure component_site end (Ref 0 ∷ []) (record { heap = Props end ∷ []; log = []; lines = []; turns = suc turns; trace = []; locals = end; hooking = Mounting [] [] []; kept = [] }) (component_code n (pos k) (element shows n tag attributes)) (component_coded names n tag (Some (pos k)) shows attributes)
      ∙ component.mounts p (entering p called_anew l) n tag shows attributes (makes p l n tag shows list signal_light) signal_fields (pos k) (hook_root names n tag (Some (pos k)) shows attributes hooked) (not_hook n w) component_site (Ref 0 ∷ []) turns [] [] [])
      events room

-- ---- without one

module _ (names : List Text) (n tag : Text) {attributes : List First_attribute} (list : Listing attributes) (tagged : IsTag tag) (l : ℕ)
    (other : is_listed (codes "App") names ≡ false) (silent : has_listener attributes ≡ false) where
  abbrev bare_p : Program
  bare_p = program_of (modules names n tag None false attributes)

  abbrev bare_counter : Counter
  bare_counter = record { tag = tag; attributes = attributes; initial = pos 0; shows = false }

  bare_light : listings.Light (captures_in bare_p) n tag attributes
  bare_light = record { weighs = λ e. absurd (false≢true (sym silent ∙ e)); deep = λ e. absurd (false≢true (sym silent ∙ e)) }

  enters_bare : (heap : List Object) (log : List Loc) (lines : List Text) (turns : ℕ) (before : List Happening) (hooking : Hooking)
      → entering bare_p called_anew (suc l) Pure [] (Closure component_site end false) (Ref 0 ∷ []) (record { heap = heap; log = log; lines = lines; turns = suc turns; trace = before; locals = end; hooking = hooking; kept = [] })
      ≡ Gives (component.view bare_p (entering bare_p called_anew l) n tag false (attribute_fields n attributes) (pos 0)) (record { heap = heap; log = log; lines = lines; turns = turns; trace = before ++ Entered (At_site component_site) ∷ []; locals = end; hooking = hooking; kept = [] })
  enters_bare heap log lines turns before hooking =
      enters bare_p l Pure component_site end (Ref 0 ∷ []) (record { heap = heap; log = log; lines = lines; turns = suc turns; trace = before; locals = end; hooking = hooking; kept = [] }) (bare_code (element false n tag attributes)) (component_coded names n tag None false attributes)
      ∙ component.stays bare_p (entering bare_p called_anew l) n tag attributes (makes bare_p l n tag false list bare_light) (bare_fields bare_p l n list silent) component_site (Ref 0 ∷ []) heap log lines turns before hooking

  bare_does : runs.Does bare_p (suc l) bare_counter n list tagged (app_is names n tag None false attributes other) (λ v. []) [] (λ log. refl) [] (λ at. [])
  bare_does = record {
    again = λ v log lines turns before. enters_bare (Props end ∷ []) log lines turns before (Again []);
    counts = λ e v arguments log turns stays. absurd (false≢true (sym silent ∙ e));
  }

  without_signal : (events : List Event) → length events ≤ 2000000
      → runs.RunsWhole bare_p (suc l) bare_counter n list tagged (app_is names n tag None false attributes other) (λ v. []) [] (λ log. refl) [] (λ at. []) bare_does events
  without_signal events room =
      runs.runs_whole bare_p (suc l) bare_counter n list tagged (app_is names n tag None false attributes other) (λ v. []) [] (λ log. refl) [] (λ at. []) bare_does
      (λ turns. enters_bare (Props end ∷ []) [] [] turns [] (Mounting [] [] [])) events (omega arith)

-- ---- a text of the first form

-- what varies with the state: its tests, and the run that follows from them
no_listener : {attributes : List First_attribute} → Listing attributes → IsTrue (not (is_one_of (codes "onClick$") (map attribute_name attributes))) → has_listener attributes ≡ false
no_listener nothing h = refl
no_listener (id_only w) h = refl
no_listener click_only h = absurd (false≢true h)
no_listener (id_click w) h = absurd (false≢true h)
no_listener (click_id w) h = absurd (false≢true h)

runs_in : (names : List Text) (n tag : Text) (initial : Option Characters) {attributes : List First_attribute} (shape : Shape) (list : Listing attributes) (tagged : IsTag tag) (w : IsWord n)
    → is_listed (codes "App") names ≡ false → (qwik : List Characters) → IsTrue (state_fits initial qwik attributes shape) → (IsTrue (is_one_of (codes "useSignal") qwik) → is_listed (codes "useSignal") names ≡ true)
    → (events : List Event) → length events ≤ 65536
    → RunsAsCounter (first_module names n (signal_of initial) (element (is_shown shape) n tag attributes)) (record { tag = tag; attributes = attributes; initial = initial_of initial; shows = is_shown shape }) events
runs_in names n tag (Some digits) shape list tagged w other qwik fits hooked events room =
    let small = leb-true (number_after 10 0 digits) 1000000 (left _ _ fits) in
    let r = with_signal names n tag (number_after 10 0 digits) (is_shown shape) list tagged w 47 other (hooked (right _ _ fits)) events (omega arith) in
    record { entries = r.entries; run = r.run; prints = r.prints }
runs_in names n tag None Selfclosing list tagged w other qwik fits hooked events room =
    let r = without_signal names n tag list tagged 47 other (no_listener list fits) events (omega arith) in
    record { entries = r.entries; run = r.run; prints = r.prints }
runs_in names n tag None Empty list tagged w other qwik fits hooked events room =
    let r = without_signal names n tag list tagged 47 other (no_listener list fits) events (omega arith) in
    record { entries = r.entries; run = r.run; prints = r.prints }
runs_in names n tag None Shown list tagged w other qwik fits hooked events room = absurd (false≢true fits)

pub first_runs : FirstRun
first_runs f fits events room =
    let qwik = left (are_qwik_names (names_of f.imported)) (is_distinct (names_of f.imported)) (left _ _ fits.qwik) in
    subst (λ (m : Module). RunsAsCounter m (counter_of f) events) (sym (module_is f fits))
    (runs_in (names_tree f.imported) f.name f.tag f.initial f.shape (listing f.attributes fits.attributed) (tag_holds f.tag fits.tagged) (word f.name (left _ _ (left _ _ fits.named)))
    (no_app f.imported qwik) (names_of f.imported) fits.state (hook_listed f.imported) events room)
