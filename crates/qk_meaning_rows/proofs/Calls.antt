-- The words of the rows on single expressions: what a call of an arrow without parameters comes to.
use Rattle.std.specs.Prelude.{false, List, [], ◌∷◌, codes}
use Rattle.qk_ast.specs.declared.Expr.{Expr}
use Rattle.qk_ast.specs.declared.Stmt.{Stmt}
use Rattle.qk_ast.specs.declared.Body.{Body}
use Rattle.qk_meaning.specs.Value.{Text, Value, Closure, end}
use Rattle.qk_meaning.specs.Fault.{Fault}
use Rattle.qk_meaning.specs.Doing.{Outcome, Gives, Stops, Faults}
use Rattle.qk_meaning.specs.Running.{Running, Mode, Effect, Pure}
use Rattle.qk_meaning.specs.Setting.{called_anew}
use Rattle.qk_meaning.specs.Evaluation.{entering}
use Rattle.qk_ast.specs.Sources.{Named_module}
use Rattle.qk_meaning.specs.Readings.{program_of}
use Rattle.qk_meaning.specs.Session.{session_in, nothing_yet}
use Rattle.qk_meaning.specs.Item.{Limits}
use Rattle.qk_meaning_rows.specs.Trees.{gives, block, arrow, item}
use Rattle.qk_meaning_rows.specs.Common.{usual}

-- an application whose root has the one arrow `f`, without parameters
abbrev modules_with : Body → List Named_module
modules_with body = (codes "root", record { imports = []; items = item false "f" (arrow 0 [] body) ∷ [] }) ∷ []

-- what is left of an outcome besides its console lines
abbrev lines_kept : Outcome Running Value → Outcome (List Text) Value
lines_kept (Gives v s) = Gives v s.lines
lines_kept (Stops why s) = Stops why s.lines

-- the call of an arrow with this body, in this mode and at these limits
abbrev pub called : Mode → Limits → Body → Outcome (List Text) Value
called mode limits body =
    lines_kept (entering (program_of (modules_with body)) called_anew limits.levels mode [] (Closure (record { file = codes "root"; number = 1; dollar = false }) end false) []
    (session_in nothing_yet limits.turns).running)

-- an expression as a render or a computed evaluates it
abbrev pub pure_at : Limits → Expr → Outcome (List Text) Value
pure_at limits e = called Pure limits (gives e)

abbrev pub pure : Expr → Outcome (List Text) Value
pure e = pure_at usual e

-- statements as a render or a computed runs them, and as a listener or a task does
abbrev pub pure_block : List Stmt → Outcome (List Text) Value
pure_block statements = called Pure usual (block statements)

abbrev pub effect_block : List Stmt → Outcome (List Text) Value
effect_block statements = called Effect usual (block statements)

-- the call gives this value and logs no line
abbrev pub is : Value → Outcome (List Text) Value
is v = Gives v []

-- it ends by this fault, and has logged no line
abbrev pub fails : Fault → Outcome (List Text) Value
fails f = Stops (Faults f) []
