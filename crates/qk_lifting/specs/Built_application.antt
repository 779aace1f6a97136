-- The built files of an application as files that are read.
use Rattle.std.specs.Prelude.{List, ◌∷◌, map, flat_map, Some, None}
use Rattle.qk_ast.specs.Sources.{Named_module}
use Rattle.qk_lifting.specs.Segments.{Segment, Lifted, lifted_module}
use Rattle.qk_lifting.specs.Built_file.{Read_file}

abbrev pub read_segment : Segment → Read_file
read_segment s = record { name = s.entry.symbol; entry = Some s.entry; code = s.code }

abbrev pub read_lifted : Lifted → List Read_file
read_lifted l = record { name = l.name; entry = None; code = l.remainder' } ∷ map read_segment l.segments

abbrev pub read_modules : List Named_module → List Read_file
read_modules modules = flat_map (λ m. read_lifted (lifted_module m)) modules
