-- What one more line adds to the items before it.
use Rattle.std.specs.Prelude.{◌≡◌, List, [], ◌∷◌, ◌++◌}
use Rattle.qk_meaning.specs.Value.{Text}
use Rattle.qk_meaning.specs.Run.{Line}
use Rattle.qk_script.specs.Script.{AreItems}

abbrev pub Adds : Text → List Line → List Line → Type 0
Adds line before after = (more : List Line) × (after ≡ before ++ more) × AreItems (line ∷ []) more
