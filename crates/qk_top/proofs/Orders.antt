-- The reads of a command, step by step.
use Rattle.std.proofs.Common.{◌≡◌, subst, List, Option, inl, inr}
use Rattle.std.specs.Prelude.{Result}
use Rattle.qk_store.specs.Files.{Files}
use Rattle.qk_store.specs.Answers.{bytes, Answer}
use Rattle.qk_modules.specs.declared.modules.Modules.{Modules}
use Rattle.qk_modules.specs.declared.fault.GatherFault.{GatherFault}
use Rattle.qk_modules.specs.Gathering.{Gathers}
use Rattle.qk_meaning.specs.Value.{Text}
use Rattle.qk_meaning.specs.Item.{Event}
use Rattle.qk_top.specs.Words.{IsReplay}
use Rattle.qk_top.specs.Script.{SpellsEvents}
use Rattle.qk_top.specs.Reads.{IsRead, MayRead, ReadsInOrder, nothing, script, modules_behind}

-- the command ended with the read of its script
pub script_alone : (words : List Text) (files : Option Files) (name : Text) (before after : Option (List Answer)) → IsReplay words name → MayRead name before after → ReadsInOrder words files before after
script_alone words files name before after command (inl same) = nothing same
script_alone words files name before after command (inr read) = script read.0 command read.1

-- it went on to the application
pub script_and_modules : (words : List Text) (files lent : Option Files) (name text : Text) (events : List Event) (before between after : Option (List Answer)) → IsReplay words name → SpellsEvents text events → IsRead name (bytes text) before between → lent ≡ files
    → (gathered : Result Modules GatherFault) × Gathers lent between after gathered → ReadsInOrder words files before after
script_and_modules words files lent name text events before between after command spells read same gathers =
    modules_behind events between gathers.0 command spells read (subst (λ f. Gathers f between after gathers.0) same gathers.1)
