use Rattle.std.proofs.Common.{◌≡◌, drop}
use Rattle.qk_code.specs.Standing.{framework_in}
use Rattle.qk_code.proofs.known.framework_among.Given as goal

abbrev pub invariant-loop-entry : goal.invariant-loop-entry
invariant-loop-entry l = framework_in l.entries l.name ≡ framework_in (drop l.entry-index l.entries) l.name
