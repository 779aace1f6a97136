-- A computed's last value isn't taken where what its run read was logged since.
use Rattle.std.specs.Prelude.{◌≡◌, refl, [], ◌∷◌, codes, Some, None}
use Rattle.qk_meaning.specs.Value.{Undefined}
use Rattle.qk_meaning.specs.World.{Loc, Prop}
use Rattle.qk_needed.specs.Needed.{unless_stale}

abbrev number_at : Loc
number_at = record { address = 1; key = Prop (codes "value") }

stale_run : unless_stale (number_at ∷ []) (Some (record { of = 2; value = Undefined; reads = record { loc = number_at; at = 0 } ∷ [] })) ≡ None
stale_run = refl
