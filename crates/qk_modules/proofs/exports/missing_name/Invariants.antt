use Rattle.std.proofs.Common.{◌≡◌, drop, not}
use Rattle.std.specs.List.{find}
use Rattle.qk_modules.specs.Exporting.{is_in_set}
use Rattle.qk_modules.proofs.exports.missing_name.Given as goal

abbrev pub invariant-loop-name : goal.invariant-loop-name
invariant-loop-name l = find (λ name. not (is_in_set l.exports l.source name)) l.names ≡ find (λ name. not (is_in_set l.exports l.source name)) (drop l.name-index l.names)
