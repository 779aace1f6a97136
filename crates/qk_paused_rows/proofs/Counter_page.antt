-- The page of the counter after its first render: the state that it holds fits, and has this page again; changed states don't fit.
use Rattle.std.specs.Prelude.{◌≡◌, refl, pos, false, [], ◌∷◌, codes}
use Rattle.qk_meaning.specs.World.{World, Signal, Props}
use Rattle.qk_meaning.specs.Value.{Int, end}
use Rattle.qk_meaning.specs.Index.{For_component}
use Rattle.qk_paused.specs.Entries.{App_index, A_signal}
use Rattle.qk_paused.specs.Fits.{fits}
use Rattle.qk_paused_rows.specs.Paused_counter.{program, index, CounterIsPaused}
use Rattle.qk_paused_rows.specs.Words.{last_state, told}

pub counter_is_paused : CounterIsPaused
counter_is_paused = (refl, record { fitting = refl; paged = refl }, refl)

abbrev state : World
state = last_state program []

-- the heap's two rows swapped
swapped : fits index (record state { heap = Signal (Int (pos 0)) ∷ Props end ∷ [] }) ≡ false
swapped = refl

-- a row too many
further_row : fits index (record state { heap = Props end ∷ Signal (Int (pos 0)) ∷ Props end ∷ [] }) ≡ false
further_row = refl

-- an integer that isn't safe
unsafe : fits index (record state { heap = Props end ∷ Signal (Int (pos 9007199254740992)) ∷ [] }) ≡ false
unsafe = refl

-- a symbol that the index doesn't have
abbrev other_index : App_index
other_index = record { app = codes "root_s1"; entries = told (codes "root_s1") For_component 0 (A_signal ∷ []) ∷ [] }

unknown : fits other_index state ≡ false
unknown = refl
