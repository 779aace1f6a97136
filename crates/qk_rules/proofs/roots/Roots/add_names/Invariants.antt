use Rattle.std.proofs.Common.{◌≡◌, ℕ, List, drop}
use Rattle.qk_rules.specs.Root_table.{kind_at, kind_from, earlier_of, name_kinds}
use Rattle.qk_rules.proofs.roots.Roots.add_names.Given as goal

abbrev pub invariant-loop-name : goal.invariant-loop-name
invariant-loop-name l = (q : List ℕ) → earlier_of (kind_at l.self q) (name_kinds (kind_from l.from) (drop l.name-index l.names) q) ≡ earlier_of (kind_at l.initial.self q) (name_kinds (kind_from l.from) l.names q)
