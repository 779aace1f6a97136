-- A listener without an end ends its item with the budget.
use Rattle.std.specs.Prelude.{◌≡◌, refl, [], ◌∷◌, codes}
use Rattle.qk_meaning_rows.specs.Common.{lines_of}
use Rattle.qk_meaning_rows.proofs.Endless_listener as Endless
use Rattle.qk_needed.proofs.Rows.Printed.{printed_needed, printed_needed_captured}

shown : printed_needed Endless.modules (record { turns = 300; levels = 48 }) Endless.script ≡ lines_of (codes "item 0" ∷ codes "html <p id=\"p\"></p>" ∷ codes "ended 1" ∷ [])
shown = refl

shown_captured : printed_needed_captured Endless.modules (record { turns = 300; levels = 48 }) Endless.script ≡ lines_of (codes "item 0" ∷ codes "html <p id=\"p\"></p>" ∷ codes "ended 1" ∷ [])
shown_captured = refl
