use Rattle.std.specs.Prelude.{◌≡◌, drop}
use Rattle.qk_captures.specs.Walking.{behind, items_found}
use Rattle.qk_captures.proofs.walk.Walk.items.Given as goal

abbrev pub invariant-loop-item : goal.invariant-loop-item
invariant-loop-item l = behind (items_found l.form (drop l.item-index l.items)) l.self ≡ behind (items_found l.form l.items) l.initial.self
