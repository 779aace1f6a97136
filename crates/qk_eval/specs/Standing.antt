-- Where everything stands for the evaluator.
use Rattle.std.specs.Prelude.{List}
use Rattle.qk_meaning.specs.Value.{Fields}
use Rattle.qk_meaning.specs.Program.{Program, captures_in}
use Rattle.qk_heap.specs.Told.{Told}
use Rattle.qk_heap.specs.Seen.{heap_seen}
use Rattle.qk_code.specs.Sources.{Sources}
use Rattle.qk_code.specs.Counts.{Counts}
use Rattle.qk_code.specs.declared.ask.Ask.{Ask}
use Rattle.qk_code.specs.World.{World, world}
use Rattle.qk_eval.specs.declared.machine.Machine.{Machine}
use Rattle.qk_environment.specs.declared.scope.Named.{Named}
use Rattle.qk_environment.specs.Scoping.{scope_seen}

-- a world, from its parts in the program, with these names in scope
abbrev pub with_scope : Sources → Counts → (List Ask → Type 0) → Machine → (Program → Fields) → (List Told → Type 0) → World
with_scope sources counts asked machine scope told = world sources counts asked machine.meter (λ p. heap_seen (captures_in p) machine.heap) scope told

abbrev pub standing : Sources → Counts → (List Ask → Type 0) → Machine → List Named → (List Told → Type 0) → World
standing sources counts asked machine names told = with_scope sources counts asked machine (λ p. scope_seen (captures_in p) names) told
