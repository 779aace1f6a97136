use Rattle.std.proofs.Common.{◌≡◌, ℕ, List, drop}
use Rattle.qk_rules.specs.Root_table.{kind_at, earlier_of, item_kinds}
use Rattle.qk_rules.proofs.roots.Roots.add_items.Given as goal

abbrev pub invariant-loop-item : goal.invariant-loop-item
invariant-loop-item l = (q : List ℕ) → earlier_of (kind_at l.self q) (item_kinds (drop l.item-index l.items) q) ≡ earlier_of (kind_at l.initial.self q) (item_kinds l.items q)
