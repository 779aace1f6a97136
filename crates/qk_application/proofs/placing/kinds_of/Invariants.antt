use Rattle.std.proofs.Common.{◌≡◌, ◌++◌, map, drop}
use Rattle.qk_application.specs.Accepting.{named_module}
use Rattle.qk_application.proofs.placing.kinds_of.Given as goal

abbrev pub invariant-loop-module : goal.invariant-loop-module
invariant-loop-module l = l.kinds ++ map named_module (drop l.module-index l.modules) ≡ map named_module l.modules
