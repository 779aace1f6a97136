-- The run of a script, where it is known what the component and its listener do.
use Rattle.std.specs.Prelude.{◌≡◌, refl, ℕ, suc, ◌+◌, ◌≤◌, ℤ, nat_abs, Bool, true, false, List, [], ◌∷◌, ◌++◌, map, length, Option, Some, None, codes}
use Rattle.std.proofs.Common.{ap, ◌∙◌, arith}
use mathlib.Core.Path.{sym}
use Rattle.qk_ast.specs.First.{First_attribute, Id, On_click}
use Rattle.qk_meaning.specs.Setting.{called_anew}
use Rattle.qk_meaning.specs.Value.{Text, Component, Value, Int, Ref, Closure, end}
use Rattle.qk_meaning.specs.World.{Object, Props, Loc, Read, Hook, World}
use Rattle.qk_meaning.specs.Program.{Program}
use Rattle.qk_meaning.specs.Operators.{safe, Is}
use Rattle.qk_meaning.specs.Doing.{Gives}
use Rattle.qk_meaning.specs.Happening.{At_site, Happening, Entered, Did_read, Did_act, Did_log}
use Rattle.qk_meaning.specs.Running.{Running, Effect, Pure, Hooking, Outside, Mounting, Again}
use Rattle.qk_meaning.specs.Evaluation.{entering}
use Rattle.qk_meaning.specs.Trace.{own_reads}
use Rattle.qk_meaning.specs.Settling.{due_hook}
use Rattle.qk_meaning.specs.Session.{session_in}
use Rattle.qk_meaning.specs.Item.{Event, Limits, records_of}
use Rattle.qk_meaning.specs.Run.{Happens, Entry, Played, Run_from, played_all, played, Run, rendered}
use Rattle.qk_meaning.specs.Html.{written}
use Rattle.qk_meaning.specs.Output.{printed_char, line, block_text, output_from, output}
use Rattle.qk_first.specs.Counter.{Counter, clicks_it, listener, hears, moved, first_html, item_line, html_line, first_blocks, first_output}
use Rattle.qk_first.proofs.Words.{component_site, listener_site}
use Rattle.qk_first.proofs.Listener.{value_in}
use Rattle.qk_first.proofs.Plain.{written_printed}
use Rattle.qk_first.proofs.Listings.{Listing, has_listener}
use Rattle.qk_first.proofs.Roots.{up_of}
use Rattle.qk_first.proofs.Component.{attribute_fields}
use Rattle.qk_first.proofs.Elements.{IsTag, own_listener, if_both, heard_is, html_printed, fits}
use Rattle.qk_first.proofs.Integers.{near, is_safe}
use Rattle.qk_first.proofs.Passes as passes

-- ---- what is printed of an item

abbrev none_text : Bool → Text
none_text true = line (codes "none")
none_text false = []

block_is : (c : Counter) (p : Program) (k : ℕ) (found_none : Bool) (v : ℤ) (w : World) → written printed_char (first_html c v) ≡ first_html c v
    → block_text p k (Played (record { none = found_none; lines = []; html = first_html c v }) w) ≡ item_line k ++ (none_text found_none ++ html_line c v)
block_is c p k true v w h = ap (λ (t : Text). item_line k ++ (line (codes "none") ++ line (codes "html " ++ t))) h
block_is c p k false v w h = ap (λ (t : Text). item_line k ++ line (codes "html " ++ t)) h

-- what is printed of an event and those behind it, by who hears it
abbrev next_blocks : Counter → ℕ → ℤ → List Event → Option Bool → Text
next_blocks c k v more heard =
    elim heard [
      | Some up ↦ (item_line k ++ html_line c (moved up v)) ++ first_blocks c (suc k) (moved up v) more
      | None ↦ (item_line k ++ (line (codes "none") ++ html_line c v)) ++ first_blocks c (suc k) v more
    ]

listener_is : (attributes : List First_attribute) → listener attributes ≡ elim (has_listener attributes) [ true ↦ Some (up_of attributes) | false ↦ None ]
listener_is [] = refl
listener_is (Id w ∷ more) = listener_is more
listener_is (On_click up ∷ more) = refl

module _ (p : Program) (levels : ℕ) (c : Counter) (n : Text) (list : Listing c.attributes) (tagged : IsTag c.tag) (app : p.app ≡ Component component_site)
    (rest : ℤ → List Object) (hooks : List Hook) (idle : (log : List Loc) → due_hook log 0 0 hooks ≡ None) (first_told : List Happening) (told : ℕ → List Happening) where
  abbrev page : passes.Page
  page = record { component = component_site; tag = c.tag; attributes = attribute_fields n c.attributes; shows = c.shows; rest = rest; hooks = hooks; first_told = first_told; told = told }

  abbrev run_in : ℤ → List Loc → ℕ → List Happening → Hooking → Running
  run_in v log turns trace hooking = passes.run_in p levels page app idle v log [] turns trace hooking

  abbrev view : ℤ → Value
  view v = passes.view p levels page app idle v

  abbrev happens : ℕ → List Happening
  happens at = passes.happens p levels page app idle at

  abbrev mounting : List Happening
  mounting = passes.mounting p levels page app idle

  abbrev world : ℤ → List Loc → List Read → World
  world v log reads = record { heap = Props end ∷ rest v; log = log; lines = []; instances = passes.stood p levels page app idle (view v) reads ∷ [] }

  abbrev limits : Limits
  limits = record { turns = 100; levels = levels }

  -- what the listener logs, and what happens in it
  abbrev more : List Loc
  more = value_in 1 ∷ []

  abbrev trace : List Loc → List Happening
  trace log = Entered (At_site listener_site) ∷ Did_read (record { loc = value_in 1; at = length log }) ∷ Did_act 1 ∷ Did_log (value_in 1) ∷ []

  -- what the component's function does where its instance stands, and what the listener does
  pub record Does : Type 0 where
    pub again : (v : ℤ) (log : List Loc) (lines : List Text) (turns : ℕ) (before : List Happening)
        → entering p called_anew levels Pure [] (Closure component_site end false) (Ref 0 ∷ []) (record { heap = Props end ∷ rest v; log = log; lines = lines; turns = suc turns; trace = before; locals = end; hooking = Again hooks; kept = [] })
        ≡ Gives (view v) (record { heap = Props end ∷ rest v; log = log; lines = lines; turns = turns; trace = before ++ happens (length log); locals = end; hooking = Again []; kept = [] })
    pub counts : has_listener c.attributes ≡ true → (v : ℤ) (arguments : List Value) (log : List Loc) (turns : ℕ) → safe (moved (up_of c.attributes) v) ≡ Is (Int (moved (up_of c.attributes) v))
        → entering p called_anew levels Effect [] (own_listener n) arguments (run_in v log (suc turns) [] Outside)
        ≡ Gives (Int v) (run_in (moved (up_of c.attributes) v) (log ++ more) turns (trace log) Outside)

  -- the run from an item on, and what is printed of it
  record RunsFrom (k : ℕ) (v : ℤ) (log : List Loc) (reads : List Read) (events : List Event) : Type 0 where
    entries : List Entry
    run : Run_from p (λ w. w) (world v log reads) (map Happens events) entries
    prints : output_from p k entries ≡ first_blocks c k v events

  module _ (does : Does) where
    printed_is : (v : ℤ) → written printed_char (first_html c v) ≡ first_html c v
    printed_is v = written_printed (first_html c v) (html_printed c n list tagged v)

    -- nothing hears the event
    unheard : (e : Event) (events : List Event) (k : ℕ) (v : ℤ) (log : List Loc) (reads : List Read) → if_both (clicks_it c e) (has_listener c.attributes) (own_listener n) ≡ None → hears c e ≡ None
        → RunsFrom (suc k) v log reads events → RunsFrom k v log reads (e ∷ events)
    unheard e events k v log reads unfound silent r = record {
      entries = Played (record { none = true; lines = []; html = first_html c v }) (world v log reads) ∷ r.entries;
      run = played limits (record { none = true; lines = []; html = first_html c v }) (session_in (world v log reads) 100)
          (passes.unheard p levels page app idle does.again (first_html c) (fits c n list tagged) e v log reads 100 (heard_is c n e list v ∙ unfound))
          r.run;
      prints = ap (λ (t : Text). t ++ output_from p (suc k) r.entries) (block_is c p k true v (world v log reads) (printed_is v))
          ∙ ap (λ (t : Text). (item_line k ++ (line (codes "none") ++ html_line c v)) ++ t) r.prints
          ∙ ap (next_blocks c k v events) (sym silent);
    }

    -- the listener hears the click, and the number moves
    heard : (e : Event) (events : List Event) (k : ℕ) (v : ℤ) (log : List Loc) (reads : List Read) → has_listener c.attributes ≡ true
        → if_both (clicks_it c e) (has_listener c.attributes) (own_listener n) ≡ Some (own_listener n) → hears c e ≡ Some (up_of c.attributes)
        → safe (moved (up_of c.attributes) v) ≡ Is (Int (moved (up_of c.attributes) v))
        → RunsFrom (suc k) (moved (up_of c.attributes) v) (log ++ more) (own_reads (happens (length (log ++ more)))) events → RunsFrom k v log reads (e ∷ events)
    heard e events k v log reads listens found hearing stays r =
        let u = moved (up_of c.attributes) v in
        let behind = log ++ more in
        let next = own_reads (happens (length behind)) in
        record {
          entries = Played (record { none = false; lines = []; html = first_html c u }) (world u behind next) ∷ r.entries;
          run = played limits (record { none = false; lines = []; html = first_html c u })
              (passes.session p levels page app idle u behind [] 98 (trace log ++ happens (length behind)) (passes.stood p levels page app idle (view u) next ∷ []) [] false)
              (passes.heard_at p levels page app idle does.again (first_html c) (fits c n list tagged)
              e (own_listener n) (Int v) v u log behind reads 98 (trace log) (heard_is c n e list v ∙ found) (does.counts listens v (records_of e) log 99 stays))
              r.run;
          prints = ap (λ (t : Text). t ++ output_from p (suc k) r.entries) (block_is c p k false u (world u behind next) (printed_is u))
              ∙ ap (λ (t : Text). (item_line k ++ html_line c u) ++ t) r.prints
              ∙ ap (next_blocks c k v events) (sym hearing);
        }

    runs_from : (events : List Event) (k : ℕ) (v : ℤ) (log : List Loc) (reads : List Read) → nat_abs v + length events ≤ 2000000 → RunsFrom k v log reads events
    runs_from [] k v log reads room = record { entries = []; run = played_all; prints = refl }
    runs_from (event ∷ events) k v log reads room =
        go (clicks_it c event) (has_listener c.attributes) refl refl
        (runs_from events (suc k) (moved (up_of c.attributes) v) (log ++ more) (own_reads (happens (length (log ++ more)))) (omega (arith, near (up_of c.attributes) v)))
        (runs_from events (suc k) v log reads (omega arith))
      where
        hears_if : Bool → Bool → Option Bool
        hears_if a b = elim a [ true ↦ elim b [ true ↦ Some (up_of c.attributes) | false ↦ None ] | false ↦ None ]

        hearing : (a b : Bool) → clicks_it c event ≡ a → has_listener c.attributes ≡ b → hears c event ≡ hears_if a b
        hearing a b e f =
            ap (λ (o : Option Bool). elim (clicks_it c event) [ true ↦ o | false ↦ None ]) (listener_is c.attributes)
            ∙ ap (λ (x : Bool). hears_if x (has_listener c.attributes)) e
            ∙ ap (λ (x : Bool). hears_if a x) f

        finding : (a b : Bool) → clicks_it c event ≡ a → has_listener c.attributes ≡ b → if_both (clicks_it c event) (has_listener c.attributes) (own_listener n) ≡ if_both a b (own_listener n)
        finding a b e f = ap (λ (x : Bool). if_both x (has_listener c.attributes) (own_listener n)) e ∙ ap (λ (x : Bool). if_both a x (own_listener n)) f

        go : (a b : Bool) → clicks_it c event ≡ a → has_listener c.attributes ≡ b
            → RunsFrom (suc k) (moved (up_of c.attributes) v) (log ++ more) (own_reads (happens (length (log ++ more)))) events → RunsFrom (suc k) v log reads events → RunsFrom k v log reads (event ∷ events)
        go true true e f r s = heard event events k v log reads f (finding true true e f) (hearing true true e f) (is_safe (up_of c.attributes) v (length events) (omega arith)) r
        go true false e f r s = unheard event events k v log reads (finding true false e f) (hearing true false e f) s
        go false b e f r s = unheard event events k v log reads (finding false b e f) (hearing false b e f) s

    -- the whole run, from the first render on
    pub record RunsWhole (events : List Event) : Type 0 where
      pub entries : List Entry
      pub run : Run p (λ w. w) (map Happens events) entries
      pub prints : output p entries ≡ first_output c events

    pub runs_whole : (mounts : (turns : ℕ) → entering p called_anew levels Pure [] (Closure component_site end false) (Ref 0 ∷ [])
        (record { heap = Props end ∷ []; log = []; lines = []; turns = suc turns; trace = []; locals = end; hooking = Mounting [] [] []; kept = [] }) ≡ Gives (view c.initial) (run_in c.initial [] turns mounting (Mounting [] [] hooks)))
        → (events : List Event) → nat_abs c.initial + length events ≤ 2000000 → RunsWhole events
    runs_whole mounts events room =
        let r = runs_from events 1 c.initial [] (own_reads (happens 0)) room in
        record {
          entries = Played (record { none = false; lines = []; html = first_html c c.initial }) (world c.initial [] (own_reads (happens 0))) ∷ r.entries;
          run = rendered limits (record { none = false; lines = []; html = first_html c c.initial })
              (passes.session p levels page app idle c.initial [] [] 98 (mounting ++ happens 0) (passes.stood p levels page app idle (view c.initial) (own_reads (happens 0)) ∷ []) [] false)
              (passes.renders p levels page app idle does.again (first_html c) (fits c n list tagged) c.initial mounts 98)
              r.run;
          prints = ap (λ (t : Text). t ++ output_from p 1 r.entries) (block_is c p 0 false c.initial (world c.initial [] (own_reads (happens 0))) (printed_is c.initial))
              ∙ ap (λ (t : Text). (item_line 0 ++ html_line c c.initial) ++ t) r.prints;
        }
