-- The names of `Object.keys`.
use Rattle.std.specs.Prelude.{List}
use Rattle.qk_meaning.specs.Value.{Value}
use Rattle.qk_meaning.specs.Doing.{Doing, ◌>>=◌, ◌>>◌, asked, give}
use Rattle.qk_meaning.specs.Running.{Running, answered, heap_of, locations_read}
use Rattle.qk_meaning.specs.Methods.{keys_in, as_values}

-- the names as texts, where the key list is read
abbrev pub keys_read : Value → Doing Running (List Value)
keys_read v = do
  heap ← asked heap_of
  keys ← answered (keys_in heap v)
  locations_read keys.1
  give (as_values keys.0)
