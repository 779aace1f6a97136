use Rattle.std.specs.Prelude.{◌≡◌, drop}
use Rattle.std.specs.BTreeMap.{get_by_text}
use Rattle.qk_ast.specs.Texts.{Text}
use Rattle.qk_whole.specs.Firsts.{earlier}
use Rattle.qk_whole.specs.Origins.{origin_in}
use Rattle.qk_whole.proofs.origins.origins.Given as goal

abbrev pub invariant-loop-entry : goal.invariant-loop-entry
invariant-loop-entry l = (q : Text) → earlier (get_by_text l.table q) (origin_in (drop l.entry-index l.entries) q) ≡ origin_in l.entries q
