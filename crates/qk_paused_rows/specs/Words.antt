-- What the rows on pauses compare.
use Rattle.std.specs.Prelude.{ℕ, List, [], ◌∷◌, Option, Some}
use Rattle.qk_meaning.specs.Value.{Text}
use Rattle.qk_meaning.specs.World.{World}
use Rattle.qk_meaning.specs.Program.{Program, captures_in}
use Rattle.qk_meaning.specs.Index.{Kind}
use Rattle.qk_meaning.specs.Session.{nothing_yet}
use Rattle.qk_meaning.specs.Run.{Line, Entry, Played, plays}
use Rattle.qk_meaning.specs.Walk.{Named}
use Rattle.qk_meaning.specs.Output.{output}
use Rattle.qk_meaning.specs.State_script.{script_text}
use Rattle.qk_meaning.specs.Tree.{tree}
use Rattle.qk_meaning.specs.Page.{nodes_captured}
use Rattle.qk_paused.specs.Entries.{Entry as Index_entry, Hook_letter}
use Rattle.qk_paused.specs.Held.{held_state}
use Rattle.qk_paused.specs.Paused_runs.{resumed_by_pause}
use Rattle.qk_meaning_rows.specs.Common.{usual}

abbrev world_after : World → List Entry → World
world_after w [] = w
world_after w (Played block next ∷ rest) = world_after next rest
world_after w (_ ∷ rest) = world_after w rest

-- the world behind a script
abbrev pub last_world : Program → List Line → World
last_world program script = world_after nothing_yet (plays program (λ w. w) usual script)

-- the state that its page holds
abbrev pub last_state : Program → List Line → World
last_state program script = held_state (captures_in program) (last_world program script)

abbrev pub last_script : Program → List Line → Text
last_script program script =
    let w = last_world program script in
    script_text program w (nodes_captured (captures_in program) w.instances (tree program.app w))

-- what is printed where each accepted pause leaves what the page holds
abbrev pub printed_resuming : Program → List Line → Text
printed_resuming program script = output program (plays program (resumed_by_pause program) usual script)

abbrev pub told : Text → Kind → ℕ → List Hook_letter → Named (Option Index_entry)
told symbol kind captures hooks = record { name = symbol; is = Some (record { kind = kind; captures = captures; hooks = hooks }) }
