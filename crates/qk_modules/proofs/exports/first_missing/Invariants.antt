use Rattle.std.proofs.Common.{◌≡◌, drop}
use Rattle.qk_modules.specs.Gathering.{missing_of}
use Rattle.qk_modules.specs.Exporting.{is_in_set}
use Rattle.qk_modules.proofs.exports.first_missing.Given as goal

abbrev pub invariant-loop-importer : goal.invariant-loop-importer
invariant-loop-importer l = missing_of (is_in_set l.exports) l.modules ≡ missing_of (is_in_set l.exports) (drop l.importer-index l.modules)
