-- How a function is entered.
use Rattle.std.proofs.Common.{◌≡◌, ◌<◌, ◌-◌, ◌&&◌, ℕ, suc, List, [], ◌∷◌, length, Bool, true, false, Result, Err, refl, ap, ◌∙◌, sym, subst, arith}
use Rattle.qk_ast.specs.declared.Form.{Form}
use Rattle.qk_ast.specs.Texts.{Text}
use Rattle.qk_base.specs.Left.{Left}
use Rattle.qk_meaning.specs.Value as M
use Rattle.qk_meaning.specs.Value.{Fields}
use Rattle.qk_meaning.specs.Parts.{listed, zipped}
use Rattle.qk_meaning.specs.Program.{Program, captures_in}
use Rattle.qk_meaning.specs.Program as P
use Rattle.qk_meaning.specs.Doing.{Stops, Ends, Doing, after, ◌>>◌}
use Rattle.qk_meaning.specs.Happening.{Which, Entered, At_site, Of_symbol}
use Rattle.qk_meaning.specs.Running.{Running, take_turn, turn_of, noted}
use Rattle.qk_meaning.specs.Setting.{Setting, setting_of, called_anew}
use Rattle.qk_meaning.specs.Flow.{opened}
use Rattle.qk_meaning.specs.Evaluation.{entering, inside, own_names, scope_of, parameters_bound, body_value}
use Rattle.qk_value.specs.declared.value.Value.{Value, Fun as Function}
use Rattle.qk_value.specs.declared.value.Value.TheBlock.{hidden-the_row-Value-0}
use Rattle.qk_value.specs.declared.value.Fun.{Fun}
use Rattle.qk_value.specs.declared.value.FunCode.{FunCode}
use Rattle.qk_value.specs.declared.value.FunCode.TheVariants.{Symbol, Plain}
use Rattle.qk_value.specs.declared.value.Addr.{Addr}
use Rattle.qk_value.specs.View.{seen_all, seen_row, function, plain_of, plain_function, as_many, is_distinct, fits, plain_site, no_symbol}
use Rattle.qk_value.proofs.Viewing.{seen_listed, seen-Fun}
use Rattle.qk_code.specs.declared.func.Func.{Func}
use Rattle.qk_code.specs.declared.mode.Mode.{Mode}
use Rattle.qk_code.specs.declared.stop.Stop.{Stop}
use Rattle.qk_code.specs.declared.stop.Stop.TheVariants.{Ended, Memory}
use Rattle.qk_code.specs.declared.stop.CodeFault.{CodeFault}
use Rattle.qk_code.specs.Stops.{stop_by}
use Rattle.qk_code.specs.Sources.{Sources, Extends}
use Rattle.qk_code.specs.Counts.{Counts, CausedBy}
use Rattle.qk_code.specs.declared.ask.Ask.{Ask}
use Rattle.qk_code.specs.declared.ask.Ask.TheVariants.{Body as For_body, Plain as For_plain}
use Rattle.qk_code.specs.Asked.{Goes_on, Asks, asks_answered}
use Rattle.qk_code.specs.Modes.{mode_seen}
use Rattle.qk_code.specs.Standing.{code_of, Knows, Stands, StandsFor}
use Rattle.qk_code.specs.World.{World, Spent, state}
use Rattle.qk_code.specs.Ran.{Ran}
use Rattle.qk_code.proofs.Runs.{Is_ask, ran_then, ran_same, ran_known, ran_moved, ran_turn, ran_ends, ran_memory, ran_asked, ran_refused, ran_within, body_asked, plain_asked, extends_all, extends_self}
use Rattle.qk_eval.specs.Placing.{setting_so, addresses}
use Rattle.qk_eval.specs.Seeing.{value_seen, values_seen, nothing}
use Rattle.qk_eval.specs.Lists.{arrow_ran, arrow_entered}
use Rattle.qk_eval.proofs.Forms.{list_seen}
use Rattle.qk_eval.proofs.Growing.{code_adds}
use Rattle.qk_meaning.proofs.Growth.{Adding, calls_add}

pub row_seen : (p : Program) (vs : List Value) → listed (seen_row (captures_in p) (hidden-the_row-Value-0 vs)) ≡ values_seen p vs
row_seen p vs = ap listed (seen_listed (captures_in p) vs) ∙ list_seen (captures_in p) vs

pub spent_turn : (before after : Left) → after ≡ record before { turns = before.turns - 1 } → Spent before after
spent_turn before after is = rw is (record { turns = omega arith; depth = refl; entered = refl })

-- an arrow with these values of its captures and these arguments
abbrev goes_in : Program → ℕ → Mode → List Addr → Func → List M.Value → List M.Value → Doing Running M.Value
goes_in p l mode running func captured arguments = inside (code_of func) (setting_so func mode running l p) (zipped func.captures captured) arguments

-- a turn is taken, and it is told which arrow is entered
abbrev turn_and_in : Program → ℕ → Mode → List Addr → Func → Which → List M.Value → List M.Value → Doing Running M.Value
turn_and_in p l mode running func which captured arguments s = after (take_turn s) (λ u. ◌>>◌ (noted (Entered which)) (goes_in p l mode running func captured arguments))

-- ---- a function of a symbol

entering_symbol : (p : Program) (l : ℕ) (mode : Mode) (running : List Addr) (f : Fun) (symbol : Text) (func : Func) (arguments : List M.Value) (s : Running) → f.code ≡ Symbol symbol → p.lifted symbol ≡ code_of func
    → turn_and_in p l mode running func (Of_symbol symbol) (values_seen p f.captures) arguments s ≡ entering p called_anew (suc l) (mode_seen mode) (addresses running) (value_seen p (Function f)) arguments s
entering_symbol p l mode running f symbol func arguments s is has =
    rw is (rw has (ap (λ vs. turn_and_in p l mode running func (Of_symbol symbol) vs arguments s) (sym (row_seen p f.captures))))

-- ---- a plain function, with a value for each name that its arrow captures

many : (names : _) (ns : List Text) (vs : List Value) → length ns ≡ length vs → as_many ns (seen_all names vs) ≡ true
many names [] [] e = refl
many names [] (v ∷ vs) e = absurd (omega (arith, e))
many names (n ∷ ns) [] e = absurd (omega (arith, e))
many names (n ∷ ns) (v ∷ vs) e = many names ns vs (omega (arith, e))

both_true : (a b : Bool) → a ≡ true → b ≡ true → (a && b) ≡ true
both_true true b p q = q
both_true false b p q = p

plain_seen : (p : Program) (f : Fun) (file : Text) (number : ℕ) (func : Func) → f.code ≡ Plain file number → p.code (plain_site file number) ≡ code_of func → is_distinct func.captures ≡ true → length func.captures ≡ length f.captures
    → value_seen p (Function f) ≡ M.Closure (plain_site file number) (zipped func.captures (values_seen p f.captures)) f.hidden
plain_seen p f file number func is has distinct same =
    let values : M.Values = seen_all (captures_in p) f.captures in
    seen-Fun (captures_in p) f
    ∙ ap (λ c. function (captures_in p) c values f.hidden) is
    ∙ ap {A = P.Code} (λ c. plain_function c.captures file number values f.hidden) has
    ∙ ap (λ b. plain_of b func.captures file number values f.hidden) (both_true (is_distinct func.captures) (as_many func.captures values) distinct (many (captures_in p) func.captures f.captures same))
    ∙ ap (λ vs. M.Closure (plain_site file number) (zipped func.captures vs) f.hidden) (list_seen (captures_in p) f.captures)

entering_plain : (p : Program) (l : ℕ) (mode : Mode) (running : List Addr) (f : Fun) (file : Text) (number : ℕ) (func : Func) (arguments : List M.Value) (s : Running) → f.code ≡ Plain file number → p.code (plain_site file number) ≡ code_of func
    → is_distinct func.captures ≡ true → length func.captures ≡ length f.captures
    → turn_and_in p l mode running func (At_site (plain_site file number)) (values_seen p f.captures) arguments s ≡ entering p called_anew (suc l) (mode_seen mode) (addresses running) (value_seen p (Function f)) arguments s
entering_plain p l mode running f file number func arguments s is has distinct same =
    ap {A = P.Code} (λ c. after (take_turn s) (λ u. ◌>>◌ (noted (Entered (At_site (plain_site file number)))) (inside c (setting_of p called_anew (entering p called_anew l) (mode_seen mode) (addresses running) c) (zipped func.captures (values_seen p f.captures)) arguments))) (sym has)
    ∙ ap (λ x. entering p called_anew (suc l) (mode_seen mode) (addresses running) x arguments s) (sym (plain_seen p f file number func is has distinct same))

-- ---- a plain function, whatever values it has

-- it is entered as the arrow that it is, or by a spelling that no text has where its values don't fit the names
abbrev entered_as : (file : Text) (number : ℕ) (fitting : Bool) → Which
entered_as file number true = At_site (plain_site file number)
entered_as file number false = Of_symbol (no_symbol file number)

asked_as : (file : Text) (number : ℕ) (fitting : Bool) → Asks (Entered (entered_as file number fitting)) (For_plain file number)
asked_as file number true = refl
asked_as file number false = refl

abbrev inside_plain : (p : Program) (l : ℕ) (mode : Mode) (running : List Addr) (file : Text) (number : ℕ) (captured : M.Values) (arguments : List M.Value) (fitting : Bool) → Doing Running M.Value
inside_plain p l mode running file number captured arguments true =
    let code : P.Code = p.code (plain_site file number) in
    inside code (setting_of p called_anew (entering p called_anew l) (mode_seen mode) (addresses running) code) (zipped (captures_in p (plain_site file number)) (listed captured)) arguments
inside_plain p l mode running file number captured arguments false =
    let code : P.Code = p.lifted (no_symbol file number) in
    inside code (setting_of p called_anew (entering p called_anew l) (mode_seen mode) (addresses running) code) (zipped code.captures (listed captured)) arguments

entering_some : (p : Program) (l : ℕ) (mode : Mode) (running : List Addr) (file : Text) (number : ℕ) (captured : M.Values) (hidden : Bool) (arguments : List M.Value) (s : Running) (fitting : Bool)
    → after (take_turn s) (λ u. ◌>>◌ (noted (Entered (entered_as file number fitting))) (inside_plain p l mode running file number captured arguments fitting))
    ≡ entering p called_anew (suc l) (mode_seen mode) (addresses running) (plain_of fitting (captures_in p (plain_site file number)) file number captured hidden) arguments s
entering_some p l mode running file number captured hidden arguments s true = refl
entering_some p l mode running file number captured hidden arguments s false = refl

inside_adds : (p : Program) (l : ℕ) (mode : Mode) (running : List Addr) (file : Text) (number : ℕ) (captured : M.Values) (arguments : List M.Value) (fitting : Bool)
    → Adding M.Value (inside_plain p l mode running file number captured arguments fitting) (inside_plain p l mode running file number captured arguments fitting)
inside_adds p l mode running file number captured arguments true = code_adds p l (mode_seen mode) (addresses running) (p.code (plain_site file number)) (zipped (captures_in p (plain_site file number)) (listed captured)) arguments
inside_adds p l mode running file number captured arguments false = code_adds p l (mode_seen mode) (addresses running) (p.lifted (no_symbol file number)) (zipped (p.lifted (no_symbol file number)).captures (listed captured)) arguments

module _ (form : Form) (hooked : Bool) where
  -- what runs inside an arrow runs with its own names
  pub ran_inside : (l : ℕ) (mode : Mode) (running : List Addr) (func : Func) (captured arguments : List Value) (w v : World) (inner : Program → Fields) (r : Result Value Stop)
      → ((p : Program) → inner p ≡ scope_of (code_of func) (zipped func.captures (values_seen p captured)))
      → Ran form hooked (λ p. Knows p func) value_seen (λ p. arrow_ran (setting_so func mode running l p) func (values_seen p arguments)) (record w { scope = inner }) r v
      → Ran form hooked (λ p. Knows p func) value_seen (λ p. arrow_entered (setting_so func mode running l p) func (values_seen p captured) (values_seen p arguments)) w r (record v { scope = w.scope })
  ran_inside l mode running func captured arguments w v inner r filled h =
      let place : Program → Setting = λ p. setting_so func mode running l p in
      let doing : Program → Doing Running M.Value = λ p. ◌>>◌ (parameters_bound (place p) (code_of func) (values_seen p arguments)) (body_value func.arrow.body (place p)) in
      let names : Program → Fields = λ p. opened (own_names (code_of func)) (scope_of (code_of func) (zipped func.captures (values_seen p captured))) in
      ran_within form hooked (λ p. Knows p func) value_seen names doing w v inner r
      (ran_same form hooked (λ p. Knows p func) value_seen _ _ (record w { scope = inner }) v r (λ p g past. ap {A = Fields} (λ f. doing p (record (state hooked p past w) { locals = opened (own_names (code_of func)) f })) (filled p)) h)

  -- its own names are opened, its parameters are bound, and its body runs
  pub ran_own : (given : Program → Type 0) (l : ℕ) (mode : Mode) (running : List Addr) (func : Func) (arguments : List Value) (w v : World) (inner : Program → Fields) (r : Result Value Stop)
      → ((p : Program) → inner p ≡ opened (own_names (code_of func)) (w.scope p))
      → Ran form hooked given value_seen (λ p. ◌>>◌ (parameters_bound (setting_so func mode running l p) (code_of func) (values_seen p arguments)) (body_value func.arrow.body (setting_so func mode running l p))) (record w { scope = inner }) r v
      → Ran form hooked given value_seen (λ p. arrow_ran (setting_so func mode running l p) func (values_seen p arguments)) w r v
  ran_own given l mode running func arguments w v inner r opens =
      ran_moved form hooked given value_seen _ _ w v inner r
      (λ p g past. ap {A = Fields} (λ names. ◌>>◌ (parameters_bound (setting_so func mode running l p) (code_of func) (values_seen p arguments)) (body_value func.arrow.body (setting_so func mode running l p)) (record (state hooked p past w) { locals = names })) (opens p))

  -- ---- a function that is entered

  module _ (levels l : ℕ) (mode : Mode) (running : List Addr) (f : Fun) (arguments : List Value) (w : World) (left : Left) (is : levels ≡ suc l) (turn : 0 < w.left.turns) (took : left ≡ record w.left { turns = w.left.turns - 1 }) where
    -- the code gives the arrow for which it was asked
    ran_entered : (which : Which) (ask : Ask) (stand : Program → P.Code) (func : Func) (captured : List Value) (v : World) (sources : Sources) (counts : Counts) (asked : List Ask → Type 0) (r : Result Value Stop)
        → Is_ask (Entered which) ask → captured ≡ f.captures → Extends w.sources sources → counts ≡ w.counts → Goes_on w.asked asked (ask ∷ []) → StandsFor form sources stand func
        → ((p : Program) (s : Running) → Stands p (stand p) func → turn_and_in p l mode running func which (values_seen p f.captures) (values_seen p arguments) s ≡ entering p called_anew (suc l) (mode_seen mode) (addresses running) (value_seen p (Function f)) (values_seen p arguments) s)
        → Ran form hooked (λ p. Knows p func) value_seen (λ p. arrow_entered (setting_so func mode running l p) func (values_seen p captured) (values_seen p arguments)) (record w { left = left; sources = sources; counts = counts; asked = asked }) r v
        → Ran form hooked (λ p. Unit {0}) value_seen (λ p. entering p called_anew levels (mode_seen mode) (addresses running) (value_seen p (Function f)) (values_seen p arguments)) w r v
    ran_entered which ask stand func captured v sources counts asked r asks caps more same goes gives means h =
        let known : Program → Type 0 = λ p. Stands p (stand p) func in
        let inner : Program → Doing Running M.Value = λ p. goes_in p l mode running func (values_seen p f.captures) (values_seen p arguments) in
        let turned : World = record w { left = left } in
        let start : World = record turned { sources = sources; counts = counts; asked = asked } in
        let inside' : Ran form hooked known value_seen inner start r v =
        ran_known form hooked known (λ p. Knows p func) value_seen _ _ _ r (λ files e s. s.knows) (subst (λ c. Ran form hooked (λ p. Knows p func) value_seen (λ p. arrow_entered (setting_so func mode running l p) func (values_seen p c) (values_seen p arguments)) start r v) caps h) in
        let entered' : Ran form hooked known value_seen (λ p s. after (noted (Entered which) s) (λ u. inner p)) turned r v =
        ran_then form hooked known nothing value_seen (λ p. noted (Entered which)) (λ p u. inner p) turned start v tt r (ran_asked form hooked known (Entered which) ask turned sources counts asked asks more same goes) inside' in
        let all : Ran form hooked known value_seen (λ p s. after (take_turn s) (λ u s. after (noted (Entered which) s) (λ u. inner p))) w r v =
        ran_then form hooked known nothing value_seen (λ p. take_turn) (λ p u s. after (noted (Entered which) s) (λ u. inner p)) w turned v tt r (ran_turn form hooked known w left turn took) entered' in
        let named : Ran form hooked known value_seen (λ p. entering p called_anew (suc l) (mode_seen mode) (addresses running) (value_seen p (Function f)) (values_seen p arguments)) w r v =
        ran_same form hooked known value_seen _ _ w v r (λ p s past. means p (state hooked p past w) s) all in
        rw is (ran_known form hooked (λ p. Unit {0}) known value_seen _ w v r (λ files e u. gives files (extends_all _ _ _ h.grows e)) named)

    pub ran_enter : (symbol : Text) (func : Func) (captured : List Value) (v : World) (sources : Sources) (counts : Counts) (asked : List Ask → Type 0) (r : Result Value Stop)
        → f.code ≡ Symbol symbol → captured ≡ f.captures → Extends w.sources sources → counts ≡ w.counts → Goes_on w.asked asked (For_body symbol ∷ []) → StandsFor form sources (λ p. p.lifted symbol) func
        → Ran form hooked (λ p. Knows p func) value_seen (λ p. arrow_entered (setting_so func mode running l p) func (values_seen p captured) (values_seen p arguments)) (record w { left = left; sources = sources; counts = counts; asked = asked }) r v
        → Ran form hooked (λ p. Unit {0}) value_seen (λ p. entering p called_anew levels (mode_seen mode) (addresses running) (value_seen p (Function f)) (values_seen p arguments)) w r v
    ran_enter symbol func captured v sources counts asked r code caps more same goes gives =
        ran_entered (Of_symbol symbol) (For_body symbol) (λ p. p.lifted symbol) func captured v sources counts asked r (body_asked symbol) caps more same goes gives
        (λ p s stands. entering_symbol p l mode running f symbol func (values_seen p arguments) s code stands.is)

    pub ran_enter_plain : (file : Text) (number : ℕ) (func : Func) (captured : List Value) (v : World) (sources : Sources) (counts : Counts) (asked : List Ask → Type 0) (r : Result Value Stop)
        → f.code ≡ Plain file number → captured ≡ f.captures → length func.captures ≡ length captured → sources ≡ w.sources → counts ≡ w.counts → Goes_on w.asked asked (For_plain file number ∷ []) → StandsFor form sources (λ p. p.code (plain_site file number)) func
        → Ran form hooked (λ p. Knows p func) value_seen (λ p. arrow_entered (setting_so func mode running l p) func (values_seen p captured) (values_seen p arguments)) (record w { left = left; sources = sources; counts = counts; asked = asked }) r v
        → Ran form hooked (λ p. Unit {0}) value_seen (λ p. entering p called_anew levels (mode_seen mode) (addresses running) (value_seen p (Function f)) (values_seen p arguments)) w r v
    ran_enter_plain file number func captured v sources counts asked r code caps fit kept same goes gives =
        ran_entered (At_site (plain_site file number)) (For_plain file number) (λ p. p.code (plain_site file number)) func captured v sources counts asked r (plain_asked file number) caps (subst (λ s. Extends w.sources s) (sym kept) (extends_self w.sources)) same goes gives
        (λ p s stands. entering_plain p l mode running f file number func (values_seen p arguments) s code stands.is stands.distinct (fit ∙ ap (λ (vs : List Value). length vs) caps))

    -- the code has no arrow of that symbol
    pub ran_not_entered : {X : Type 0} (symbol : Text) (sources : Sources) (counts : Counts) (asked : List Ask → Type 0) (r : Result Value Stop) (why : CodeFault)
        → r ≡ Err (stop_by why) → f.code ≡ Symbol symbol → Extends w.sources sources → CausedBy {A = X} w.counts counts (For_body symbol) (Err why) → Goes_on w.asked asked (asks_answered {A = X} (For_body symbol) (Err why))
        → Ran form hooked (λ p. Unit {0}) value_seen (λ p. entering p called_anew levels (mode_seen mode) (addresses running) (value_seen p (Function f)) (values_seen p arguments)) w r (record w { left = left; sources = sources; counts = counts; asked = asked })
    ran_not_entered {X} symbol sources counts asked r why rs code more cause goes =
        let given : Program → Type 0 = λ p. Unit {0} in
        let turned : World = record w { left = left } in
        let v : World = record turned { sources = sources; counts = counts; asked = asked } in
        let caught : Program → List M.Value = λ p. listed (seen_row (captures_in p) (hidden-the_row-Value-0 f.captures)) in
        let inner : Program → Doing Running M.Value = λ p. inside (p.lifted symbol) (setting_of p called_anew (entering p called_anew l) (mode_seen mode) (addresses running) (p.lifted symbol)) (zipped (p.lifted symbol).captures (caught p)) (values_seen p arguments) in
        let adds : (p : Program) → Adding M.Value (inner p) (inner p) = λ p. code_adds p l (mode_seen mode) (addresses running) (p.lifted symbol) (zipped (p.lifted symbol).captures (caught p)) (values_seen p arguments) in
        rw (is, code)
        (ran_then form hooked given nothing value_seen (λ p. take_turn) (λ p u s. after (noted (Entered (Of_symbol symbol)) s) (λ u. inner p)) w turned v tt r (ran_turn form hooked given w left turn took)
        (ran_refused form hooked given {X = X} value_seen inner (λ p. Entered (Of_symbol symbol)) (For_body symbol) turned sources counts asked r why rs (λ p. refl) more cause goes adds))

    -- the code gives no plain arrow of that number
    pub ran_plain_not_entered : {X : Type 0} (file : Text) (number : ℕ) (sources : Sources) (counts : Counts) (asked : List Ask → Type 0) (r : Result Value Stop) (why : CodeFault)
        → r ≡ Err (stop_by why) → f.code ≡ Plain file number → sources ≡ w.sources → CausedBy {A = X} w.counts counts (For_plain file number) (Err why) → Goes_on w.asked asked (asks_answered {A = X} (For_plain file number) (Err why))
        → Ran form hooked (λ p. Unit {0}) value_seen (λ p. entering p called_anew levels (mode_seen mode) (addresses running) (value_seen p (Function f)) (values_seen p arguments)) w r (record w { left = left; sources = sources; counts = counts; asked = asked })
    ran_plain_not_entered {X} file number sources counts asked r why rs code kept cause goes =
        let given : Program → Type 0 = λ p. Unit {0} in
        let turned : World = record w { left = left } in
        let v : World = record turned { sources = sources; counts = counts; asked = asked } in
        let caught : Program → M.Values = λ p. seen_row (captures_in p) (hidden-the_row-Value-0 f.captures) in
        let fit : Program → Bool = λ p. fits (captures_in p (plain_site file number)) (caught p) in
        let inner : Program → Doing Running M.Value = λ p. inside_plain p l mode running file number (caught p) (values_seen p arguments) (fit p) in
        let more : Extends w.sources sources = subst (λ s. Extends w.sources s) (sym kept) (extends_self w.sources) in
        rw (is, code)
        (ran_same form hooked given value_seen (λ p s. after (take_turn s) (λ u. ◌>>◌ (noted (Entered (entered_as file number (fit p)))) (inner p))) _ w v r
        (λ p g past. entering_some p l mode running file number (caught p) f.hidden (values_seen p arguments) (state hooked p past w) (fit p))
        (ran_then form hooked given nothing value_seen (λ p. take_turn) (λ p u s. after (noted (Entered (entered_as file number (fit p))) s) (λ u. inner p)) w turned v tt r (ran_turn form hooked given w left turn took)
        (ran_refused form hooked given {X = X} value_seen inner (λ p. Entered (entered_as file number (fit p))) (For_plain file number) turned sources counts asked r why rs (λ p. asked_as file number (fit p)) more cause goes
        (λ p. inside_adds p l mode running file number (caught p) (values_seen p arguments) (fit p)))))

    -- memory runs out where it is entered
    pub ran_entering_lost : (sources : Sources) (counts : Counts) (asked : List Ask → Type 0) (r : Result Value Stop) → r ≡ Err Memory → sources ≡ w.sources → counts ≡ w.counts
        → Ran form hooked (λ p. Unit {0}) value_seen (λ p. entering p called_anew levels (mode_seen mode) (addresses running) (value_seen p (Function f)) (values_seen p arguments)) w r (record w { left = left; sources = sources; counts = counts; asked = asked })
    ran_entering_lost sources counts asked r rs kept same = ran_memory form hooked (λ p. Unit {0}) value_seen _ w _ r rs (subst (λ s. Extends w.sources s) (sym kept) (extends_self w.sources)) same (spent_turn w.left left took)

  pub ran_no_level : (given : Program → Type 0) (levels : ℕ) (mode : Mode) (running : List Addr) (f : Program → M.Value) (arguments : Program → List M.Value) (w : World) (r : Result Value Stop)
      → r ≡ Err Ended → levels ≡ 0 → Ran form hooked given value_seen (λ p. entering p called_anew levels (mode_seen mode) (addresses running) (f p) (arguments p)) w r w
  ran_no_level given levels mode running f arguments w r rs is = rw is (ran_ends form hooked given value_seen _ w r rs (λ p g past. refl))

  -- without a turn a function is not entered
  first_stuck : {B : Type 0} (n : ℕ) (s : Running) (next : Unit {0} → Doing Running B) → n ≡ 0 → after (turn_of n s) next ≡ Stops Ends s
  first_stuck n s next is = rw is refl

  stuck : (p : Program) (l : ℕ) (mode : Mode) (running : List Addr) (code : FunCode) (captured : M.Values) (mark : Bool) (arguments : List M.Value) (s : Running) → s.turns ≡ 0
      → entering p called_anew (suc l) (mode_seen mode) (addresses running) (function (captures_in p) code captured mark) arguments s ≡ Stops Ends s
  stuck p l mode running (Symbol symbol) captured mark arguments s is = first_stuck s.turns s _ is
  stuck p l mode running (Plain file number) captured mark arguments s is = by (fits (captures_in p (plain_site file number)) captured)
    where
      by : (b : Bool) → entering p called_anew (suc l) (mode_seen mode) (addresses running) (plain_of b (captures_in p (plain_site file number)) file number captured mark) arguments s ≡ Stops Ends s
      by true = first_stuck s.turns s _ is
      by false = first_stuck s.turns s _ is

  pub ran_stuck : (given : Program → Type 0) (levels l : ℕ) (mode : Mode) (running : List Addr) (f : Fun) (arguments : List Value) (w : World) (left : Left) (r : Result Value Stop)
      → r ≡ Err Ended → levels ≡ suc l → w.left.turns ≡ 0 → left ≡ w.left → Ran form hooked given value_seen (λ p. entering p called_anew levels (mode_seen mode) (addresses running) (value_seen p (Function f)) (values_seen p arguments)) w r (record w { left = left })
  ran_stuck given levels l mode running f arguments w left r rs is none same =
      rw (is, same) (ran_ends form hooked given value_seen _ w r rs (λ p g past. stuck p l mode running f.code (seen_row (captures_in p) (hidden-the_row-Value-0 f.captures)) f.hidden (values_seen p arguments) (state hooked p past w) none))
