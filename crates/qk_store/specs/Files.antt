-- The files of a store: what stands under each name.
use Rattle.std.specs.Prelude.{◌≡◌, ℕ, Option, List, bytes_eq, if◌then◌else◌}
use Rattle.std.specs.Option.{option_map}

-- the bytes of the file of each name, where there is such a file
abbrev pub Files : Type 0
Files = List ℕ → Option (List ℕ)

-- these files, but for the one of this name, where this stands
abbrev pub with_file : List ℕ → Option (List ℕ) → Files → Files
with_file name file files other = if bytes_eq other name then file else files other

-- the file of this name may be another; all others stay, and whether files are told
pub record OthersStay (name : List ℕ) (before after : Option Files) : Type 0 where
  pub left : Option (List ℕ)
  pub others : after ≡ option_map (with_file name left) before
