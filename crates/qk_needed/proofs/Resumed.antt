-- After a resume no instance is stale.
use Rattle.std.specs.Prelude.{refl, List, [], ◌∷◌, length, map}
use Rattle.qk_meaning.specs.World.{Loc, Instance}
use Rattle.qk_needed.specs.Needed.{read_now}
use Rattle.qk_needed.specs.Needed_item.{fresh}
use Rattle.qk_needed.specs.Laws.{None_stale, ResumedIsFresh}
use Rattle.qk_needed.proofs.Quiet_calls.{read_now_at}
use Rattle.qk_needed.proofs.Settles.{all_fresh_reads}

none_stale : (log : List Loc) (all : List Instance) → None_stale log (map (fresh (length log)) all)
none_stale log [] = tt
none_stale log (i ∷ rest) = (all_fresh_reads log (read_now (length log) i.reads) (read_now_at (length log) (length log) i.reads refl), none_stale log rest)

pub resumed_is_fresh : ResumedIsFresh
resumed_is_fresh w = (none_stale w.log w.instances, refl)
