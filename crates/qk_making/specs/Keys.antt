-- The keys of a sequence of children, in their order.
use Rattle.std.specs.Prelude.{true, false, List, [], ◌∷◌, ◌++◌, Option, Some, None}
use Rattle.qk_ast.specs.Names.{is_listed}
use Rattle.qk_meaning.specs.Value.{Text}
use Rattle.qk_meaning.specs.Fault.{Fault, DuplicateKey}

-- a key that stands before in the sequence
abbrev pub key_fault : Option Text → List Text → Option Fault
key_fault None keys = None
key_fault (Some k) keys = elim (is_listed k keys) [ true ↦ Some DuplicateKey | false ↦ None ]

-- the keys with that of one child more
abbrev pub keys_with : List Text → Option Text → List Text
keys_with keys None = keys
keys_with keys (Some k) = keys ++ k ∷ []
