use Rattle.std.proofs.Common.{◌≡◌, ℕ, List, ◌||◌, ◌&&◌, drop}
use Rattle.qk_ast.specs.Texts.{same_text}
use Rattle.qk_modules.specs.Gathering.{exported_in}
use Rattle.qk_modules.specs.Exporting.{has_pair}
use Rattle.qk_modules.proofs.exports.add_exports.Given as goal

abbrev pub invariant-loop-item : goal.invariant-loop-item
invariant-loop-item l = (m n : List ℕ)
    → (has_pair l.exports m n || (same_text l.name m && exported_in (drop l.item-index l.items) n)) ≡ (has_pair l.fn.exports m n || (same_text l.name m && exported_in l.items n))
