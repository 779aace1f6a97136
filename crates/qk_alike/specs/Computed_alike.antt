-- When functions are entered alike, and computeds are read alike.
use Rattle.std.specs.Prelude.{ℕ, List}
use Rattle.qk_meaning.specs.Value.{Value}
use Rattle.qk_meaning.specs.Running.{Mode}
use Rattle.qk_meaning.specs.Setting.{Entering, Computed_reading}
use Rattle.qk_meaning.specs.Ties.{Ties, Paired, Stands, Pairwise}
use Rattle.qk_meaning.specs.Worlds_stand.{Start}
use Rattle.qk_meaning.specs.Alike.{Reach, Doings_stand}

-- calls of functions that stand for one another agree
abbrev pub Entered_alike : Ties → Start → Entering → Entering → Type 0
Entered_alike t b enter enter' =
    (r : Reach) (mode : Mode) (running running' : List ℕ) (f g : Value) (all all' : List Value) → Pairwise (Paired t.pairing) running running' → Stands t f g → Pairwise (Stands t) all all' →
    Doings_stand t b r Value Value (Stands t) (enter mode running f all) (enter' mode running' g all')

-- where functions are entered alike, reads of computeds that stand for one another agree
abbrev pub Computed_alike : Ties → Start → Computed_reading → Type 0
Computed_alike t b computed =
    (enter enter' : Entering) → Entered_alike t b enter enter' → (r : Reach) (running running' : List ℕ) (x y : ℕ) (f g : Value) → Pairwise (Paired t.pairing) running running' → Paired t.pairing x y → Stands t f g →
    Doings_stand t b r Value Value (Stands t) (computed enter running x f) (computed enter' running' y g)
