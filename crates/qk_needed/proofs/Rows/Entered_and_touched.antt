-- What an item enters and touches: a click on the counter after a resume enters the listener, then the component; a click that changes nothing enters the listener alone.
use Rattle.std.specs.Prelude.{◌≡◌, refl, List, [], ◌∷◌, codes, None}
use Rattle.qk_ast.specs.Sources.{Named_module}
use Rattle.qk_meaning.specs.Value.{Text}
use Rattle.qk_meaning.specs.Readings.{captured_program_of}
use Rattle.qk_meaning.specs.Doing.{state_left}
use Rattle.qk_meaning.specs.Session.{Session, world_of}
use Rattle.qk_meaning.specs.Item.{Event}
use Rattle.qk_meaning_rows.specs.Common.{usual}
use Rattle.qk_needed.specs.Needed_item.{resumed, needed_first_item, needed_event_item, item_loads, item_touched}
use Rattle.qk_needed.proofs.Rows.Counter_budget as Counter
use Rattle.qk_needed.proofs.Rows.There_and_back as Back

abbrev click : Text → Event
click id = record { kind = codes "click"; id = id; value = None }

abbrev first : List Named_module → Session
first modules = state_left (needed_first_item (captured_program_of modules) usual)

-- a click after a pause, where no computed has run
abbrev clicked : List Named_module → Text → Session
clicked modules id = state_left (needed_event_item (captured_program_of modules) usual (resumed (world_of (first modules))) (click id))

counted : item_loads (λ symbol. symbol ∷ []) [] (clicked Counter.modules (codes "b")) ≡ codes "root_s2" ∷ codes "root_s1" ∷ []
counted = refl

touched : item_touched (clicked Counter.modules (codes "b")) ≡ 1 ∷ 1 ∷ 1 ∷ 1 ∷ []
touched = refl

-- the listener reads the computed, which runs, and writes another signal, which the component has read; the component runs and finds the computed kept
read_first : item_loads (λ symbol. symbol ∷ []) [] (clicked Back.modules (codes "r")) ≡ codes "root_s4" ∷ codes "root_s2" ∷ codes "root_s1" ∷ []
read_first = refl
