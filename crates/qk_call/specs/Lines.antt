-- The console lines among what a host was told.
use Rattle.std.specs.Prelude.{List, [], ◌∷◌, flat_map}
use Rattle.qk_ast.specs.Texts.{Text}
use Rattle.qk_meaning.specs.Happening.{Did_print}
use Rattle.qk_heap.specs.Told.{Told, Besides}

abbrev pub line_of : Told → List Text
line_of (Besides (Did_print line)) = line ∷ []
line_of _ = []

abbrev pub lines_told : List Told → List Text
lines_told told = flat_map line_of told
