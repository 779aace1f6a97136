-- The run of a module of the first form under any list of events prints what its counter prints.
use Rattle.std.specs.Prelude.{◌≡◌, ◌≤◌, List, [], ◌∷◌, map, length, codes}
use Rattle.qk_ast.specs.declared.Module.{Module}
use Rattle.qk_ast.specs.Tree.{module_tree}
use Rattle.qk_ast.specs.First.{First_text, Fits, module_of}
use Rattle.qk_meaning.specs.Program.{Program}
use Rattle.qk_meaning.specs.Readings.{program_of}
use Rattle.qk_meaning.specs.Item.{Event}
use Rattle.qk_meaning.specs.Run.{Happens, Entry, Run}
use Rattle.qk_meaning.specs.Output.{output}
use Rattle.qk_first.specs.Counter.{Counter, counter_of, first_output}

-- the application whose one module `root` is this one
abbrev pub application_of : Module → Program
application_of m = program_of ((codes "root", m) ∷ [])

-- the script of these events has a run, and what is printed of it is what the counter prints
pub record RunsAsCounter (m : Module) (c : Counter) (events : List Event) : Type 0 where
  pub entries : List Entry
  pub run : Run (application_of m) (λ w. w) (map Happens events) entries
  pub prints : output (application_of m) entries ≡ first_output c events

abbrev pub FirstRun : Type 0
FirstRun = (f : First_text) → Fits f → (events : List Event) → length events ≤ 65536 → RunsAsCounter (module_tree (module_of f)) (counter_of f) events
