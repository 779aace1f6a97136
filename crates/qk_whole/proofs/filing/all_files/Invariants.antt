use Rattle.qk_whole.specs.Holding.{Holds_files}
use Rattle.qk_whole.proofs.filing.all_files.Given as goal

abbrev pub invariant-loop-at : goal.invariant-loop-at
invariant-loop-at l = Holds_files l.application.modules.list l.at l.files
