use Rattle.std.specs.Prelude.{◌≡◌, drop, flat_map}
use Rattle.qk_rules.specs.Parts.{of_item}
use Rattle.qk_rules.specs.Walking.{place}
use Rattle.qk_rules.proofs.walk.Walk.items.Given as goal

abbrev pub invariant-loop-item : goal.invariant-loop-item
invariant-loop-item l = record {
  past : flat_map (of_item (place l.fn.self)) (drop l.item-index l.items) ≡ flat_map (of_item (place l.fn.self)) l.items;
  kept : l.self ≡ l.fn.self;
}
