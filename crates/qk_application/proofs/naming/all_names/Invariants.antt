use Rattle.std.proofs.Common.{◌≡◌, ◌++◌, map, drop}
use Rattle.std.specs.Prelude.{flat_map}
use Rattle.qk_ast.specs.Application.{naming_of}
use Rattle.qk_application.specs.Accepting.{named_module, names_of}
use Rattle.qk_application.proofs.naming.all_names.Given as goal

abbrev pub invariant-loop-module : goal.invariant-loop-module
invariant-loop-module l =
    (flat_map naming_of (map named_module l.modules) ≡ flat_map naming_of (map named_module (drop l.module-index l.modules)))
    × (l.all ++ map names_of (drop l.module-index l.modules) ≡ map names_of l.modules)
