-- What a sink was given.
use Rattle.std.specs.Prelude.{◌≡◌, ℕ, Option, List, ◌++◌, take}
use Rattle.std.specs.Option.{option_map}

-- these bytes, and this piece behind them
abbrev pub with_piece : List ℕ → List ℕ → List ℕ
with_piece piece put = put ++ piece

-- a front of the piece was appended, and whether bytes are told stays
pub record AppendsFront (piece : List ℕ) (before after : Option (List ℕ)) : Type 0 where
  pub taken : ℕ
  pub appended : after ≡ option_map (with_piece (take taken piece)) before

-- all of the piece was put
abbrev pub IsPut : List ℕ → Option (List ℕ) → Option (List ℕ) → Type 0
IsPut piece before after = after ≡ option_map (with_piece piece) before

-- the first piece was put whole, and behind it a front of the second
pub record PutsInPart (first second : List ℕ) (before after : Option (List ℕ)) : Type 0 where
  pub taken : ℕ
  pub appended : after ≡ option_map (with_piece (first ++ take taken second)) before
