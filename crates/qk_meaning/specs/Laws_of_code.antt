-- Laws of running code: it only adds, and a `while` is its first turn and the rest.
use Rattle.std.specs.Prelude.{ℕ, false, ◌≡◌, ◌≤◌, List, ◌++◌, length, ◌<◌}
use Rattle.qk_ast.specs.declared.Expr.{Expr}
use Rattle.qk_ast.specs.declared.Stmt.{Stmt}
use Rattle.qk_ast.specs.Names.{declared_in}
use Rattle.qk_meaning.specs.Value.{Value}
use Rattle.qk_meaning.specs.Heap.{object_at, object_kind}
use Rattle.qk_meaning.specs.Operators.{is_true}
use Rattle.qk_meaning.specs.Program.{Program}
use Rattle.qk_meaning.specs.Doing.{Outcome, Gives, Stops, Doing, ◌>>=◌, give, chosen, state_left}
use Rattle.qk_meaning.specs.Happening.{Answered, Happening}
use Rattle.qk_meaning.specs.Running.{Running, Mode, Hooking, Told, is_outside}
use Rattle.qk_meaning.specs.Trace.{logged_in, printed_in, answers_in}
use Rattle.qk_meaning.specs.Setting.{Setting, called_anew}
use Rattle.qk_meaning.specs.References.{valued}
use Rattle.qk_meaning.specs.Flow.{Onward, scoped, one_turn}
use Rattle.qk_meaning.specs.Evaluation.{refer, ran, all_ran, entering}

-- what running from one state to another adds: what it tells, and of that what is logged and printed; objects are made, none goes, and each stays of its kind
pub record Adds (before after : Running) : Type 0 where
  pub told : List Happening
  pub trace : after.trace ≡ before.trace ++ told
  pub log : after.log ≡ before.log ++ logged_in told
  pub lines : after.lines ≡ before.lines ++ printed_in told
  pub made : length before.heap ≤ length after.heap
  pub kinds : (a : ℕ) → a < length before.heap → object_kind (object_at before.heap a) ≡ object_kind (object_at after.heap a)

-- a call only adds, whether it gives a value or stops
abbrev pub CallsAdd : Type 0
CallsAdd =
    (program : Program) (levels : ℕ) (mode : Mode) (under_way : List ℕ) (f : Value) (arguments : List Value) (s : Running) →
    Adds s (state_left (entering program called_anew levels mode under_way f arguments s))

-- where something gives a result, it leaves no more turns than there were
abbrev pub Spends : {A : Type 0} → Doing Running A → Type 0
Spends {A} doing = (s after : Running) (a : A) → doing s ≡ Gives a after → after.turns ≤ s.turns

-- from code in this setting calls and reads of computeds spend
pub record Spends_in (here : Setting) : Type 0 where
  pub calls : (mode : Mode) (under_way : List ℕ) (f : Value) (arguments : List Value) → Spends (here.enter mode under_way f arguments)
  pub computeds : (a : ℕ) (f : Value) → Spends (here.computed a f)

-- there a `while` is its condition, and where that is true a turn and the same `while` again
abbrev pub WhileUnfolds : Type 0
WhileUnfolds =
    (here : Setting) → Spends_in here → (condition : Expr) (span : _) (body : _) (s : Running) →
    ran (Stmt.While' condition span body) here s
    ≡ ◌>>=◌ (valued here (refer condition here)) (λ v. chosen (is_true v) (one_turn (scoped (declared_in body) (all_ran body here)) (ran (Stmt.While' condition span body) here)) (give Onward)) s

-- ---- hook calls

-- the second outcome is the first, but that whoever calls answers hook calls, and has these answers still to give
abbrev pub Replays : {A : Type 0} → List Answered → Outcome Running A → Outcome Running A → Type 0
Replays rest (Gives a u) other = other ≡ Gives a (record u { hooking = Told rest })
Replays rest (Stops why u) other = (h : Hooking) × (other ≡ Stops why (record u { hooking = h }))

-- a call in which hook calls are answered at a mount or again comes to the same where whoever calls gives the answers that it told
abbrev pub HooksReplay : Type 0
HooksReplay =
    (program : Program) (levels : ℕ) (mode : Mode) (under_way : List ℕ) (f : Value) (arguments : List Value) (s : Running) (told : List Happening) (rest : List Answered) →
    is_outside s.hooking ≡ false → (state_left (entering program called_anew levels mode under_way f arguments s)).trace ≡ s.trace ++ told →
    Replays rest (entering program called_anew levels mode under_way f arguments s)
    (entering program called_anew levels mode under_way f arguments (record s { hooking = Told (answers_in told ++ rest) }))
