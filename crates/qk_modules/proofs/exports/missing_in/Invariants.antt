use Rattle.std.proofs.Common.{◌≡◌, drop}
use Rattle.qk_modules.specs.Gathering.{missing_in}
use Rattle.qk_modules.specs.Exporting.{is_in_set}
use Rattle.qk_modules.proofs.exports.missing_in.Given as goal

abbrev pub invariant-loop-import : goal.invariant-loop-import
invariant-loop-import l = missing_in (is_in_set l.exports) l.imports ≡ missing_in (is_in_set l.exports) (drop l.import-index l.imports)
