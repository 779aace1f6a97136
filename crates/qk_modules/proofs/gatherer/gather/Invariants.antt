use Rattle.std.proofs.Common.{◌≡◌, ◌-◌, length}
use Rattle.qk_modules.proofs.Gatherings.{Gathering}
use Rattle.qk_modules.proofs.gatherer.gather.Given as goal

abbrev pub invariant-loop-source : goal.invariant-loop-source
invariant-loop-source g l = record {
  gathering : Gathering (g.S.Store.files l.fn.store) (g.S.Store.answers l.fn.store) (g.S.Store.answers l.store) l.modules l.listing;
  files : g.S.Store.files l.store ≡ g.S.Store.files l.fn.store;
  faults : g.S.Store.faults l.store ≡ g.S.Store.faults l.fn.store;
}

abbrev pub decreases-loop-source : goal.decreases-loop-source
decreases-loop-source g l = 256 - length l.modules
