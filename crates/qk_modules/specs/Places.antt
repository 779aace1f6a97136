-- The line of a byte in a text, and its column in that line; both count from 1, columns in bytes. The place of a fault.
use Rattle.std.specs.Prelude.{ℕ, suc, Bool, false, ◌||◌, if◌then◌else◌, ◌==◌, [], ◌∷◌, length, take}
use Rattle.qk_ast.specs.Texts.{Text}
use Rattle.qk_parse.specs.declared.parse.ParseFault.{ParseFault}
use Rattle.qk_parse.specs.declared.parse.ParseFault.TheVariants.{TooLong, Lexical, Syntax, TooDeep, Memory}
use Rattle.qk_modules.specs.declared.place.Place.{Place}

abbrev pub feeds : Text → ℕ
feeds [] = 0
feeds (b ∷ bs) = if b == 10 then suc (feeds bs) else feeds bs

abbrev pub has_feed : Text → Bool
has_feed [] = false
has_feed (b ∷ bs) = (b == 10) || has_feed bs

-- what follows the last line feed, or all where there is none
abbrev pub after_feeds : Text → Text
after_feeds [] = []
after_feeds (b ∷ bs) = if has_feed bs then after_feeds bs else (if b == 10 then bs else b ∷ bs)

-- 1 more than the line feeds before
unfoldable pub line_at : Text → ℕ → ℕ
line_at text at = suc (feeds (take at text))

-- 1 more than the bytes between the last line feed before, or the text's beginning, and there
unfoldable pub column_at : Text → ℕ → ℕ
column_at text at = suc (length (after_feeds (take at text)))

abbrev pub place_in : Text → ℕ → Place
place_in text at = record { line = line_at text at; column = column_at text at }

abbrev pub beginning : Place
beginning = record { line = 1; column = 1 }

-- the place of a fault of the text; where that is too long, its beginning
abbrev pub place_of : Text → ParseFault → Place
place_of text TooLong = beginning
place_of text (Lexical at) = place_in text at
place_of text (Syntax at) = place_in text at
place_of text (TooDeep at) = place_in text at
place_of text Memory = beginning
