-- Where an expression stands and what is called, as the program keeps them.
use Rattle.std.specs.Prelude.{Bool, true, false, List, [], ◌∷◌}
use Rattle.qk_ast.specs.declared.Link.{Link}
use Rattle.qk_ast.specs.Spots as spots
use Rattle.qk_rules.specs.declared.standing.Standing.{Standing}
use Rattle.qk_rules.specs.declared.standing.Called.{Called}

abbrev pub standing_of : Standing → spots.Standing
standing_of Standing.Anywhere = spots.Anywhere
standing_of Standing.RootValue = spots.Root_value
standing_of Standing.HookValue = spots.Hook_value
standing_of Standing.HookStatement = spots.Hook_statement
standing_of (Standing.Argument callee first) = spots.Argument callee.now first

abbrev pub called_of : Called → spots.Called
called_of Called.NotCalled = spots.Not_called
called_of (Called.With arguments whole) = spots.With arguments.now whole

abbrev pub is_none_left : List Link → Bool
is_none_left [] = true
is_none_left (l ∷ rest) = false

-- the same of a list of links as `called` is of a row
abbrev pub called_by : List Link → spots.Called
called_by [] = spots.Not_called
called_by (Link.Prop name ∷ rest) = spots.Not_called
called_by (Link.Index e ∷ rest) = spots.Not_called
called_by (Link.Call' _ all ∷ rest) = spots.With (spots.arguments_of all) (is_none_left rest)
