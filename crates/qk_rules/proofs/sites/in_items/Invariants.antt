use Rattle.std.proofs.Common.{◌≡◌, ◌-◌, drop}
use Rattle.qk_rules.specs.Site_counts.{item_sites}
use Rattle.qk_rules.proofs.sites.in_items.Given as goal

abbrev pub invariant-loop-item : goal.invariant-loop-item
invariant-loop-item l = l.more - item_sites (drop l.item-index l.items) ≡ l.left - item_sites l.items
