use Rattle.std.proofs.Common.{◌≡◌, drop}
use Rattle.std.specs.List.{find}
use Rattle.qk_modules.specs.Gathering.{imports_from}
use Rattle.qk_modules.proofs.turn.first_importer.Given as goal

abbrev pub invariant-loop-module : goal.invariant-loop-module
invariant-loop-module l = find (imports_from l.source) l.modules ≡ find (imports_from l.source) (drop l.module-index l.modules)
