-- What names stand for outside the scope, what tags show, and what a member calls.
use Rattle.std.proofs.Common.{◌≡◌, ℕ, List, [], ◌∷◌, ◌&&◌, Bool, true, false, Option, Some, None, Result, Ok, Err, refl, ap, ◌∙◌, sym, subst}
use Rattle.std.specs.Prelude.{codes, option_map}
use Rattle.qk_ast.specs.declared.Form.{Form}
use Rattle.qk_ast.specs.declared.Expr.TheVariants as e
use Rattle.qk_ast.specs.declared.Tag.{Tag}
use Rattle.qk_ast.specs.declared.Tag.TheVariants as t
use Rattle.qk_ast.specs.Texts.{Text, same_text}
use Rattle.qk_meaning.specs.Value as M
use Rattle.qk_meaning.specs.Parts.{has_field}
use Rattle.qk_meaning.specs.Program as P
use Rattle.qk_meaning.specs.Program.{Program, captures_in}
use Rattle.qk_meaning.specs.Doing.{Gives, after, chosen, give}
use Rattle.qk_meaning.specs.Happening.{Used}
use Rattle.qk_meaning.specs.Running.{Running, noted}
use Rattle.qk_meaning.specs.Setting.{Setting, has_tracker}
use Rattle.qk_meaning.specs.References as Refs
use Rattle.qk_meaning.specs.References.{read, root_reference, use_told, root_used, outer_named}
use Rattle.qk_meaning.specs.Making.{root_shown}
use Rattle.qk_meaning.specs.Methods.{method_of}
use Rattle.qk_meaning.specs.Calls.{A_value, callee, member_callee}
use Rattle.qk_meaning.specs.Evaluation.{refer}
use Rattle.qk_value.specs.declared.value.Value.{Value}
use Rattle.qk_value.specs.declared.value.ElemTag.{ElemTag}
use Rattle.qk_value.specs.declared.value.Addr.{Addr}
use Rattle.qk_value.specs.View.{seen, shown_by}
use Rattle.qk_environment.specs.Scoping.{Captures}
use Rattle.qk_heap.specs.declared.object.Object.{Object}
use Rattle.qk_heap.specs.Seen.{heap_seen}
use Rattle.qk_code.specs.declared.func.Func.{Func}
use Rattle.qk_code.specs.declared.func.Root.{Root}
use Rattle.qk_code.specs.declared.mode.Mode.{Mode}
use Rattle.qk_code.specs.declared.stop.CodeFault.{CodeFault}
use Rattle.qk_code.specs.declared.stop.Stop.{Stop}
use Rattle.qk_code.specs.declared.stop.Stop.TheVariants.{Memory}
use Rattle.qk_code.specs.Stops.{stop_by}
use Rattle.qk_code.specs.Sources.{Sources, Extends}
use Rattle.qk_code.specs.Counts.{Counts, CausedBy}
use Rattle.qk_code.specs.declared.ask.Ask.{Ask}
use Rattle.qk_code.specs.declared.ask.Ask.TheVariants.{Root as For_root}
use Rattle.qk_code.specs.Asked.{Goes_on, asks_answered}
use Rattle.qk_code.specs.Standing.{code_of, framework_in, Knows, Means, MeansIn}
use Rattle.qk_code.specs.World.{World, state}
use Rattle.qk_code.specs.Ran.{Ran}
use Rattle.qk_code.proofs.Runs.{ran_then, ran_err, ran_same, ran_known, ran_gives, ran_memory, ran_asked, ran_refused, root_asked, spent_self}
use Rattle.qk_eval.specs.declared.reference.Reference.{Reference}
use Rattle.qk_eval.specs.declared.callee.Callee.{Callee}
use Rattle.qk_acts.specs.declared.method.Method.{Method}
use Rattle.qk_eval.specs.Placing.{setting_so}
use Rattle.qk_eval.specs.Seeing.{value_seen, reference_seen, callee_seen, shown_seen, nothing}
use Rattle.qk_acts.specs.Naming.{method_seen}
use Rattle.qk_eval.specs.Lists.{tag_shown}
use Rattle.qk_eval.proofs.Growing.{gives}

-- ---- names that are none in scope

tracker_is : (here : Setting) (name : Text) (s : Running) → has_field name s.locals ≡ false → here.tracks ≡ true → same_text name (codes "track") ≡ true → refer (e.Name name) here s ≡ Gives Refs.Tracker s
tracker_is here name s none tracks is =
    ap (λ b. chosen b (give (Refs.Local name)) (outer_named here name) s) none
    ∙ ap (λ b. chosen (b && same_text name (codes "track")) (give Refs.Tracker) (root_used here name) s) tracks
    ∙ ap (λ b. chosen b (give Refs.Tracker) (root_used here name) s) is

outer_is : (here : Setting) (name : Text) (s : Running) → has_field name s.locals ≡ false → (here.tracks && same_text name (codes "track")) ≡ false → root_used here name s ≡ refer (e.Name name) here s
outer_is here name s none not =
    sym (ap (λ b. chosen b (give (Refs.Local name)) (outer_named here name) s) none ∙ ap (λ b. chosen b (give Refs.Tracker) (root_used here name) s) not)

-- the use of what is no name of the framework is told
told_of_means : (p : Program) (here : Setting) (file name : Text) (r : Root) (s : Running) → Means p file name r → use_told here name (p.root file name) s ≡ noted (Used here.file name) s
told_of_means p here file name (Root.Fn f) s m = ap (λ root. use_told here name root s) m.is
told_of_means p here file name (Root.Literal v) s m = ap (λ root. use_told here name root s) m
told_of_means p here file name (Root.Context id) s m = ap (λ root. use_told here name root s) m
told_of_means p here file name (Root.Component symbol) s m = ap (λ root. use_told here name root s) m

told_of_others : (here : Setting) (name : Text) (root : P.Root) (s : Running) → ((other : Text) → root ≡ P.Framework other → ⊥) → use_told here name root s ≡ noted (Used here.file name) s
told_of_others here name (P.Framework other) s not = absurd (not other refl)
told_of_others here name (P.Holds v) s not = refl
told_of_others here name (P.Shows shown) s not = refl
told_of_others here name P.Unknown s not = refl

-- what a name of the file's root gives, where its use is told
used_is : (here : Setting) (name : Text) (s : Running) → use_told here name (here.program.root here.file name) s ≡ noted (Used here.file name) s
    → after (noted (Used here.file name) s) (λ u. give (root_reference (here.program.root here.file name))) ≡ root_used here name s
used_is here name s is = ap (λ o. after o (λ u. give (root_reference (here.program.root here.file name)))) (sym is)

-- what a tag shows that names a component
component_is : (here : Setting) (name : Text) (s : Running) → same_text name (codes "Slot") ≡ false
    → after (noted (Used here.file name) s) (λ u. give (root_shown (here.program.root here.file name))) ≡ tag_shown here (t.Component name) s
component_is here name s not =
    sym (ap (λ b. after (chosen b (give tt) (noted (Used here.file name)) s) (λ u. give (elim b [ true ↦ M.Slot [] | false ↦ root_shown (here.program.root here.file name) ]))) not)

slot_is : (here : Setting) (name : Text) (s : Running) → same_text name (codes "Slot") ≡ true → tag_shown here (t.Component name) s ≡ Gives (M.Slot []) s
slot_is here name s is =
    ap (λ b. after (chosen b (give tt) (noted (Used here.file name)) s) (λ u. give (elim b [ true ↦ M.Slot [] | false ↦ root_shown (here.program.root here.file name) ]))) is

module _ (form : Form) (hooked : Bool) (given : Program → Type 0) where
  module _ (func : Func) (mode : Mode) (running : List Addr) (levels : ℕ) where
    abbrev set : Program → Setting
    set p = setting_so func mode running levels p

    -- `track` in the own body of a task
    pub ran_tracker : (w : World) (name : Text) → ((p : Program) → has_field name (w.scope p) ≡ false) → has_tracker (code_of func) ≡ true → same_text name (codes "track") ≡ true
        → Ran form hooked given reference_seen (λ p. refer (e.Name name) (set p)) w (Ok Reference.Tracker) w
    ran_tracker w name none tracks is = ran_gives form hooked given reference_seen _ w Reference.Tracker (λ p g past. tracker_is (set p) name (state hooked p past w) (none p) tracks is)

    -- what the file's root says
    pub ran_outer : (w v : World) (r : Result Reference Stop) (name : Text) → ((p : Program) → has_field name (w.scope p) ≡ false) → (has_tracker (code_of func) && same_text name (codes "track")) ≡ false
        → Ran form hooked given reference_seen (λ p. root_used (set p) name) w r v → Ran form hooked given reference_seen (λ p. refer (e.Name name) (set p)) w r v
    ran_outer w v r name none not = ran_same form hooked given reference_seen _ _ w v r (λ p g past. outer_is (set p) name (state hooked p past w) (none p) not)

    -- the code gave what the name means
    pub ran_root_used : (w : World) (sources : Sources) (counts : Counts) (asked : List Ask → Type 0) (file name : Text) (root : Root) (v : Value)
        → file ≡ func.file → MeansIn form sources file name root → Extends w.sources sources → counts ≡ w.counts → Goes_on w.asked asked (For_root file name ∷ [])
        → ((p : Program) → Means p file name root → root_reference (p.root file name) ≡ Refs.Of (value_seen p v))
        → Ran form hooked given reference_seen (λ p. root_used (set p) name) w (Ok (Reference.Of v)) (record w { sources = sources; counts = counts; asked = asked })
    ran_root_used w sources counts asked file name root v here means more same goes stands =
        let known : Program → Type 0 = λ p. Means p func.file name root in
        let after_use : World = record w { sources = sources; counts = counts; asked = asked } in
        let gives_it : Ran form hooked known reference_seen (λ p. give (root_reference (p.root func.file name))) after_use (Ok (Reference.Of v)) after_use =
        ran_gives form hooked known reference_seen _ after_use (Reference.Of v) (λ p m past. ap (λ x. Gives x (state hooked p past after_use)) ((rw here at stands) p m)) in
        let told : Ran form hooked known reference_seen (λ p s. after (noted (Used func.file name) s) (λ u. give (root_reference (p.root func.file name)))) w (Ok (Reference.Of v)) after_use =
        ran_then form hooked known nothing reference_seen (λ p. noted (Used func.file name)) (λ p u. give (root_reference (p.root func.file name))) w after_use after_use tt (Ok (Reference.Of v))
        (ran_asked form hooked known (Used func.file name) (For_root func.file name) w sources counts asked (root_asked func.file name) more same (rw here at goes)) gives_it in
        ran_known form hooked given known reference_seen _ w after_use (Ok (Reference.Of v)) (λ files e g. (rw here at means) files e)
        (ran_same form hooked known reference_seen _ _ w after_use (Ok (Reference.Of v)) (λ p m past. used_is (set p) name (state hooked p past w) (told_of_means p (set p) func.file name root (state hooked p past w) m)) told)

    -- memory runs out behind that
    pub ran_root_lost : (w : World) (sources : Sources) (counts : Counts) (asked : List Ask → Type 0) (name : Text) (r : Result Reference Stop)
        → r ≡ Err Memory → Extends w.sources sources → counts ≡ w.counts → Ran form hooked given reference_seen (λ p. root_used (set p) name) w r (record w { sources = sources; counts = counts; asked = asked })
    ran_root_lost w sources counts asked name r is more same = ran_memory form hooked given reference_seen _ w (record w { sources = sources; counts = counts; asked = asked }) r is more same (spent_self _)

  -- ---- tags

  pub ran_element : (set : Program → Setting) (w : World) (name name' : Text) → name' ≡ name → Ran form hooked given shown_seen (λ p. tag_shown (set p) (t.Element name)) w (Ok (ElemTag.Element name')) w
  ran_element set w name name' same = rw same (ran_gives form hooked given shown_seen _ w (ElemTag.Element name) (λ p g past. refl))

  pub ran_fragment : (set : Program → Setting) (w : World) → Ran form hooked given shown_seen (λ p. tag_shown (set p) t.Fragment) w (Ok ElemTag.Fragment) w
  ran_fragment set w = ran_gives form hooked given shown_seen _ w ElemTag.Fragment (λ p g past. refl)

  pub ran_slot : (set : Program → Setting) (w : World) (name none : Text) → none ≡ [] → same_text name (codes "Slot") ≡ true → Ran form hooked given shown_seen (λ p. tag_shown (set p) (t.Component name)) w (Ok (ElemTag.Slot none)) w
  ran_slot set w name none empty is = rw empty (ran_gives form hooked given shown_seen _ w (ElemTag.Slot []) (λ p g past. slot_is (set p) name (state hooked p past w) is))

  module _ (func : Func) (mode : Mode) (running : List Addr) (levels : ℕ) where
    pub ran_tag : (w : World) (sources : Sources) (counts : Counts) (asked : List Ask → Type 0) (file name : Text) (root : Root) (tag : ElemTag)
        → file ≡ func.file → same_text name (codes "Slot") ≡ false → MeansIn form sources file name root → Extends w.sources sources → counts ≡ w.counts → Goes_on w.asked asked (For_root file name ∷ [])
        → ((p : Program) → Means p file name root → root_shown (p.root file name) ≡ shown_by tag)
        → Ran form hooked given shown_seen (λ p. tag_shown (setting_so func mode running levels p) (t.Component name)) w (Ok tag) (record w { sources = sources; counts = counts; asked = asked })
    ran_tag w sources counts asked file name root tag here not means more same goes shows =
        let known : Program → Type 0 = λ p. Means p func.file name root in
        let after_use : World = record w { sources = sources; counts = counts; asked = asked } in
        let gives_it : Ran form hooked known shown_seen (λ p. give (root_shown (p.root func.file name))) after_use (Ok tag) after_use =
        ran_gives form hooked known shown_seen _ after_use tag (λ p m past. ap (λ x. Gives x (state hooked p past after_use)) ((rw here at shows) p m)) in
        let told : Ran form hooked known shown_seen (λ p s. after (noted (Used func.file name) s) (λ u. give (root_shown (p.root func.file name)))) w (Ok tag) after_use =
        ran_then form hooked known nothing shown_seen (λ p. noted (Used func.file name)) (λ p u. give (root_shown (p.root func.file name))) w after_use after_use tt (Ok tag)
        (ran_asked form hooked known (Used func.file name) (For_root func.file name) w sources counts asked (root_asked func.file name) more same (rw here at goes)) gives_it in
        ran_known form hooked given known shown_seen _ w after_use (Ok tag) (λ files e g. (rw here at means) files e)
        (ran_same form hooked known shown_seen _ _ w after_use (Ok tag) (λ p m past. component_is (setting_so func mode running levels p) name (state hooked p past w) not) told)

    pub ran_tag_lost : (w : World) (sources : Sources) (counts : Counts) (asked : List Ask → Type 0) (tag : Tag) (r : Result ElemTag Stop)
        → r ≡ Err Memory → Extends w.sources sources → counts ≡ w.counts
        → Ran form hooked given shown_seen (λ p. tag_shown (setting_so func mode running levels p) tag) w r (record w { sources = sources; counts = counts; asked = asked })
    ran_tag_lost w sources counts asked tag r is more same = ran_memory form hooked given shown_seen _ w (record w { sources = sources; counts = counts; asked = asked }) r is more same (spent_self _)

    -- the code gave nothing; whatever the name means, its use is told
    pub ran_tag_refused : {X : Type 0} (w : World) (sources : Sources) (counts : Counts) (asked : List Ask → Type 0) (file name : Text) (r : Result ElemTag Stop) (why : CodeFault)
        → r ≡ Err (stop_by why) → file ≡ func.file → same_text name (codes "Slot") ≡ false → Extends w.sources sources → CausedBy {A = X} w.counts counts (For_root file name) (Err why) → Goes_on w.asked asked (asks_answered {A = X} (For_root file name) (Err why))
        → Ran form hooked given shown_seen (λ p. tag_shown (setting_so func mode running levels p) (t.Component name)) w r (record w { sources = sources; counts = counts; asked = asked })
    ran_tag_refused {X} w sources counts asked file name r why rs here not more cause goes =
        ran_same form hooked given shown_seen _ _ w (record w { sources = sources; counts = counts; asked = asked }) r (λ p g past. component_is (setting_so func mode running levels p) name (state hooked p past w) not)
        (ran_refused form hooked given {X = X} shown_seen (λ p. give (root_shown (p.root func.file name))) (λ p. Used func.file name) (For_root file name) w sources counts asked r why rs (λ p. (sym here, refl)) more cause goes (λ p. gives (root_shown (p.root func.file name))))

  -- ---- what a member calls

  module _ (set : Program → Setting) where
    member_is : (here : Setting) (object key : M.Value) (s : Running) (found : Option Method) → option_map method_seen found ≡ method_of s.heap object key
        → member_callee here object key (option_map method_seen found) s ≡ callee here (Refs.Member object key) s
    member_is here object key s found is = ap (λ m. member_callee here object key m s) is

    -- what was looked up among the objects is what is found in the heap
    found_in : (objects : List Object) (object key : Value) (w : World) (found : Option Method) → ((p : Program) → w.heap p ≡ heap_seen (captures_in p) objects)
        → ((names : Captures) → option_map method_seen found ≡ method_of (heap_seen names objects) (seen names object) (seen names key)) → (p : Program) → option_map method_seen found ≡ method_of (w.heap p) (value_seen p object) (value_seen p key)
    found_in objects object key w found heap is p = is (captures_in p) ∙ ap (λ h. method_of h (value_seen p object) (value_seen p key)) (sym (heap p))

    -- a method
    pub ran_method : (objects : List Object) (object key : Value) (w : World) (m : Method) → ((p : Program) → w.heap p ≡ heap_seen (captures_in p) objects)
        → ((names : Captures) → option_map method_seen (Some m) ≡ method_of (heap_seen names objects) (seen names object) (seen names key))
        → Ran form hooked given callee_seen (λ p. callee (set p) (Refs.Member (value_seen p object) (value_seen p key))) w (Ok (Callee.Method m object)) w
    ran_method objects object key w m heap is =
        ran_gives form hooked given callee_seen _ w (Callee.Method m object) (λ p g past. sym (member_is (set p) (value_seen p object) (value_seen p key) (state hooked p past w) (Some m) (found_in objects object key w (Some m) heap is p)))

    -- no method: what is read there
    by_reading : (objects : List Object) (object key : Value) (w v : World) (r : Result Callee Stop) → ((p : Program) → w.heap p ≡ heap_seen (captures_in p) objects)
        → ((names : Captures) → option_map method_seen None ≡ method_of (heap_seen names objects) (seen names object) (seen names key))
        → Ran form hooked given callee_seen (λ p s. after (read (set p) (value_seen p object) (value_seen p key) s) (λ f. give (A_value f))) w r v
        → Ran form hooked given callee_seen (λ p. callee (set p) (Refs.Member (value_seen p object) (value_seen p key))) w r v
    by_reading objects object key w v r heap is =
        ran_same form hooked given callee_seen _ _ w v r (λ p g past. member_is (set p) (value_seen p object) (value_seen p key) (state hooked p past w) None (found_in objects object key w None heap is p))

    pub ran_no_method : (objects : List Object) (object key : Value) (w v : World) (f : Value) → ((p : Program) → w.heap p ≡ heap_seen (captures_in p) objects)
        → ((names : Captures) → option_map method_seen None ≡ method_of (heap_seen names objects) (seen names object) (seen names key))
        → Ran form hooked given value_seen (λ p. read (set p) (value_seen p object) (value_seen p key)) w (Ok f) v
        → Ran form hooked given callee_seen (λ p. callee (set p) (Refs.Member (value_seen p object) (value_seen p key))) w (Ok (Callee.Value f)) v
    ran_no_method objects object key w v f heap is h =
        by_reading objects object key w v (Ok (Callee.Value f)) heap is
        (ran_then form hooked given value_seen callee_seen (λ p. read (set p) (value_seen p object) (value_seen p key)) (λ p x. give (A_value x)) w v v f (Ok (Callee.Value f)) h
        (ran_gives form hooked given callee_seen (λ p. give (A_value (value_seen p f))) v (Callee.Value f) (λ p g past. refl)))

    pub ran_no_method_err : (objects : List Object) (object key : Value) (w v : World) (r : Result Callee Stop) (why : Stop) → r ≡ Err why → ((p : Program) → w.heap p ≡ heap_seen (captures_in p) objects)
        → ((names : Captures) → option_map method_seen None ≡ method_of (heap_seen names objects) (seen names object) (seen names key))
        → Ran form hooked given value_seen (λ p. read (set p) (value_seen p object) (value_seen p key)) w (Err why) v
        → Ran form hooked given callee_seen (λ p. callee (set p) (Refs.Member (value_seen p object) (value_seen p key))) w r v
    ran_no_method_err objects object key w v r why stopped heap is h =
        by_reading objects object key w v r heap is
        (ran_err form hooked given value_seen callee_seen (λ p. read (set p) (value_seen p object) (value_seen p key)) (λ p x. give (A_value x)) w v r why stopped (λ p x. gives (A_value x)) h)

-- ---- what is known of the imports of the function's file

module _ (form : Form) (hooked : Bool) (func : Func) (mode : Mode) (running : List Addr) (levels : ℕ) where
  abbrev here_known : Program → Type 0
  here_known p = Knows p func

  framework_is : (p : Program) (name other : Text) (s : Running) → p.root func.file name ≡ P.Framework other → root_used (setting_so func mode running levels p) name s ≡ Gives (Refs.Framework_name other) s
  framework_is p name other s is = ap (λ root. after (use_told (setting_so func mode running levels p) name root s) (λ u. give (root_reference root))) is

  -- a name of the framework
  pub ran_framework : (w : World) (name other : Text) → ((p : Program) → has_field name (w.scope p) ≡ false) → (has_tracker (code_of func) && same_text name (codes "track")) ≡ false → framework_in func.imports.entries name ≡ Some other
      → Ran form hooked here_known reference_seen (λ p. refer (e.Name name) (setting_so func mode running levels p)) w (Ok (Reference.Framework other)) w
  ran_framework w name other none not is =
      ran_gives form hooked here_known reference_seen _ w (Reference.Framework other)
      (λ p k past. sym (outer_is (setting_so func mode running levels p) name (state hooked p past w) (none p) not) ∙ framework_is p name other (state hooked p past w) (k.framework name other is))

  -- the code gave nothing for a name that is none of the framework
  pub ran_root_refused : {X : Type 0} (w : World) (sources : Sources) (counts : Counts) (asked : List Ask → Type 0) (file name : Text) (r : Result Reference Stop) (why : CodeFault)
      → r ≡ Err (stop_by why) → file ≡ func.file → framework_in func.imports.entries name ≡ None → Extends w.sources sources → CausedBy {A = X} w.counts counts (For_root file name) (Err why) → Goes_on w.asked asked (asks_answered {A = X} (For_root file name) (Err why))
      → Ran form hooked here_known reference_seen (λ p. root_used (setting_so func mode running levels p) name) w r (record w { sources = sources; counts = counts; asked = asked })
  ran_root_refused {X} w sources counts asked file name r why rs here none more cause goes =
      ran_same form hooked here_known reference_seen _ _ w (record w { sources = sources; counts = counts; asked = asked }) r
      (λ p k past. used_is (setting_so func mode running levels p) name (state hooked p past w) (told_of_others (setting_so func mode running levels p) name (p.root func.file name) (state hooked p past w) (λ other. k.others name other none)))
      (ran_refused form hooked here_known {X = X} reference_seen (λ p. give (root_reference (p.root func.file name))) (λ p. Used func.file name) (For_root file name) w sources counts asked r why rs (λ p. (sym here, refl)) more cause goes (λ p. gives (root_reference (p.root func.file name))))
