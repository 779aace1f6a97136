-- What a command reads of the store, and in which order, as far as the store tells its answers.
use Rattle.std.specs.Prelude.{◌≡◌, ◌⊎◌, List, Option, Result}
use Rattle.std.specs.Option.{option_map}
use Rattle.qk_store.specs.Files.{Files}
use Rattle.qk_store.specs.Answers.{Content, bytes, Answer, with_answer}
use Rattle.qk_meaning.specs.Value.{Text}
use Rattle.qk_meaning.specs.Item.{Event}
use Rattle.qk_top.specs.Words.{IsReplay}
use Rattle.qk_top.specs.Script.{SpellsEvents}
use Rattle.qk_modules.specs.declared.modules.Modules.{Modules}
use Rattle.qk_modules.specs.declared.fault.GatherFault.{GatherFault}
use Rattle.qk_modules.specs.Gathering.{Gathers}

-- this file was read, of at most 1 MiB, and this was answered
abbrev pub IsRead : Text → Content → Option (List Answer) → Option (List Answer) → Type 0
IsRead name found before after = after ≡ option_map (with_answer name 1048576 found) before

-- this file was read, or the read was refused
abbrev pub MayRead : Text → Option (List Answer) → Option (List Answer) → Type 0
MayRead name before after = (after ≡ before) ⊎ ((found : Content) × IsRead name found before after)

-- Nothing; or the script that the words name; or that, which is a script without a pause, and then what gathering the application reads, in its order.
pub data ReadsInOrder (words : List Text) (files : Option Files) (before after : Option (List Answer)) : Type 0 where
  nothing : after ≡ before → ReadsInOrder words files before after
  script : {name : Text} (found : Content) → IsReplay words name → IsRead name found before after → ReadsInOrder words files before after
  modules_behind : {name text : Text} (events : List Event) (between : Option (List Answer)) (gathered : Result Modules GatherFault) → IsReplay words name → SpellsEvents text events → IsRead name (bytes text) before between → Gathers files between after gathered
      → ReadsInOrder words files before after
