use Rattle.std.proofs.Common.{◌≡◌, ℕ, List, drop}
use Rattle.qk_rules.specs.Root_table.{kind_at, earlier_of, import_kinds}
use Rattle.qk_rules.proofs.kinds.Kinds.add_imports.Given as goal

abbrev pub invariant-loop-import : goal.invariant-loop-import
invariant-loop-import l = (q : List ℕ) → earlier_of (kind_at l.roots q) (import_kinds l.self (drop l.import-index l.imports) q) ≡ earlier_of (kind_at l.initial.roots q) (import_kinds l.self l.imports q)
