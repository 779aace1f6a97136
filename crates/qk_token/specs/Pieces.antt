-- The pieces that a text or a template's part is written with, read off its characters. Every text has some: a backslash that begins no escape is a
-- piece of its own, and an escape by a number that no character has is U+FFFD. Tokens have no such pieces.
use Rattle.std.specs.Prelude.{ℕ, zero, suc, Bool, not, ◌&&◌, if◌then◌else◌, ◌==◌, List, [], ◌∷◌, length, take, drop, Option, Some, None}
use Rattle.std.specs.Str.{all_scalars}
use Rattle.qk_ast.specs.Characters.{Characters, is_hex_digit, run, after_run}
use Rattle.qk_ast.specs.Tokens.{Piece, Plain, Escaped, Four, Braced, Return, Return_feed, piece_value}
use Rattle.qk_lex.specs.Scan.{after_char}

-- the piece, where it stands for a character
abbrev pub standing : Piece → Piece
standing piece = if all_scalars (piece_value piece ∷ []) then piece else Plain 65533

-- a piece, and what follows it
abbrev pub four_digits : Characters → Characters → Piece × Characters
four_digits digits text = (standing (Four digits), drop (length digits) text)

abbrev pub by_digits : Characters → Option Characters → Piece × Characters
by_digits text None = four_digits (take 4 (run is_hex_digit text)) text
by_digits text (Some inside) = (standing (Braced (run is_hex_digit inside)), drop 1 (after_run is_hex_digit inside))

abbrev pub after_u : Characters → Piece × Characters
after_u text = by_digits text (after_char 123 text)

abbrev pub after_backslash : Characters → Piece × Characters
after_backslash [] = (Plain 92, [])
after_backslash (c ∷ cs) = if c == 117 then after_u cs else (Escaped c, cs)

abbrev pub by_feed : Characters → Option Characters → Piece × Characters
by_feed text None = (Return, text)
by_feed text (Some more) = (Return_feed, more)

-- the piece that begins with that character
unfoldable pub first_piece : ℕ → Characters → Piece × Characters
first_piece c text = if c == 92 then after_backslash text else (if c == 13 then by_feed text (after_char 10 text) else (Plain c, text))

unfoldable pub pieces_from : ℕ → Characters → List Piece
pieces_from zero text = []
pieces_from (suc n) [] = []
pieces_from (suc n) (c ∷ cs) = (first_piece c cs).0 ∷ pieces_from n (first_piece c cs).1

-- each piece takes a character at least
unfoldable pub pieces_of : Characters → List Piece
pieces_of text = pieces_from (length text) text

-- a character that is a piece of its own, whatever follows it
abbrev pub stands_alone : ℕ → Bool
stands_alone c = not (c == 92) && not (c == 13)

-- the character that a piece stands for, and what follows it
abbrev pub shown : Piece × Characters → ℕ × Characters
shown found = (piece_value found.0, found.1)
