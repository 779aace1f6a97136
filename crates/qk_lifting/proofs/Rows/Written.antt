-- Built files, as the rows write them.
use Rattle.std.specs.Prelude.{codes}
use Prim.Native.String.{String}
use Rattle.qk_lifting.specs.Files.{File}

abbrev pub file : String → String → File
file name text = record { name = codes name; text = codes text }
