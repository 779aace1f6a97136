use Rattle.std.proofs.Common.{◌≡◌, ◌++◌, drop}
use Rattle.qk_modules.specs.Importing.{imported}
use Rattle.qk_modules.proofs.table.add_imports.Given as goal

abbrev pub invariant-loop-import : goal.invariant-loop-import
invariant-loop-import l = l.entries ++ imported (drop l.import-index l.imports) ≡ l.fn.entries ++ imported l.imports
