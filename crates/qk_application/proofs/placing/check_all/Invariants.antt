use Rattle.std.proofs.Common.{◌≡◌, map, drop}
use Rattle.std.specs.Prelude.{flat_map}
use Rattle.qk_ast.specs.Application.{placing_of}
use Rattle.qk_application.specs.Accepting.{named_module}
use Rattle.qk_application.proofs.placing.check_all.Given as goal

abbrev pub invariant-loop-module : goal.invariant-loop-module
invariant-loop-module l = flat_map (placing_of l.kinds) (map named_module l.modules) ≡ flat_map (placing_of l.kinds) (map named_module (drop l.module-index l.modules))
