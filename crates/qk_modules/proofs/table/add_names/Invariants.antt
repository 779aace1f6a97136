use Rattle.std.proofs.Common.{◌≡◌, ◌++◌, drop}
use Rattle.qk_modules.specs.Importing.{imported_by}
use Rattle.qk_modules.proofs.table.add_names.Given as goal

abbrev pub invariant-loop-name : goal.invariant-loop-name
invariant-loop-name l = l.entries ++ imported_by l.source (drop l.name-index l.names) ≡ l.fn.entries ++ imported_by l.source l.names
