-- In a module that keeps the rules each arrow captures, once it is lifted, what it captured.
use Rattle.std.proofs.lemmas.List.Elements.{Contains-get_or}
use Rattle.std.proofs.Math.ListN.{get_or}
use Rattle.qk_ast.specs.declared.Form.TheVariants.{Source}
use Rattle.qk_ast.specs.Arrows.{item_arrows}
use Rattle.qk_names.specs.Laws.{ArrowsAreFound, InsideIsListed, TasksTakeTrack}
use Rattle.qk_lifting.specs.Segments.{reference_at}
use Rattle.qk_lifting.specs.Laws.{ModulesKeepCaptures}
use Rattle.qk_lifting.proofs.Captures_kept.{lifting_keeps_captures}
use Rattle.qk_lifting.proofs.Captures_told.{captures_are_told}
use Rattle.qk_lifting.proofs.Clear_scopes.{scopes_are_clear}

pub modules_keep_captures : ArrowsAreFound → InsideIsListed → TasksTakeTrack → ModulesKeepCaptures
modules_keep_captures found listed track file roots bytes m d keeps = λ k a below.
    lifting_keeps_captures (reference_at file m) (get_or (item_arrows m.items) k a)
    (captures_are_told found listed Source bytes file m d (get_or (item_arrows m.items) k a) (Contains-get_or (item_arrows m.items) k a below))
    (scopes_are_clear Source file m keeps.0 k a below) (track Source file roots m keeps k a below)
