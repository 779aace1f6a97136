-- A set of the keys that fields have.
use Rattle.std.specs.Prelude.{◌≡◌, ℕ, List, String}
use Rattle.std.specs.BTreeSet.{BTreeSet, contains_text}
use Rattle.qk_ast.specs.declared.Field.{Field}
use Rattle.qk_ast.specs.Characters.{is_one_of}
use Rattle.qk_reading.specs.Parts.{keys}

-- it has each key that one of the fields has, and no other
abbrev pub HasKeys : {Y : Type 0} → BTreeSet (String Y) → List Field → Type 0
HasKeys set fields = (key : List ℕ) → contains_text set key ≡ is_one_of key (keys fields)
