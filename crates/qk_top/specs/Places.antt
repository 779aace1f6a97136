-- A place in a text, as it is told.
use Rattle.std.specs.Prelude.{ℕ, ◌++◌, codes}
use Rattle.qk_meaning.specs.Value.{Text}
use Rattle.qk_top.specs.Decimals.{count_text}

-- LINE:COLUMN
abbrev pub place_text : ℕ → ℕ → Text
place_text line column = count_text line ++ (codes ":" ++ count_text column)
