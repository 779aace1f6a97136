-- Texts in quotes, and templates.
use Rattle.std.specs.Prelude.{◌≡◌, ℕ, zero, suc, ◌+◌, ◌*◌, min, Bool, true, false, ◌&&◌, ◌||◌, if◌then◌else◌, ◌==◌, List, [], ◌∷◌, codes, Option, Some, None, IsTrue}
use lib.Utf8.{scalar}
use Rattle.qk_ast.specs.Characters.{Characters, has, is_hex_digit, digit_value}
use Rattle.qk_ast.specs.Tokens.{Piece, pieces_spelling, are_text_pieces, are_template_pieces, closing, Edge, Backquote, Hole}
use Rattle.qk_lex.specs.declared.quoted.Edge as part
use Rattle.qk_lex.specs.declared.quoted.Edge.TheVariants as edge
use Rattle.qk_lex.specs.Scan.{after_char}

-- the number that goes on with one more hexadecimal digit; past the characters' numbers it stays past them
abbrev pub with_digit : ℕ → ℕ → ℕ
with_digit n value = min n 1114112 * 16 + value

-- what follows the digits of `\u{..}` and the brace after them
abbrev pub after_braced : ℕ → Bool → Characters → Option Characters
after_braced n some [] = None
after_braced n some (c ∷ cs) = if is_hex_digit c then after_braced (with_digit n (digit_value c)) true cs
    else (if (c == 125) && some && scalar n then Some cs else None)

-- what follows so many digits
abbrev pub after_digits : ℕ → ℕ → Characters → Option Characters
after_digits zero n cs = if scalar n then Some cs else None
after_digits (suc k) n [] = None
after_digits (suc k) n (c ∷ cs) = if is_hex_digit c then after_digits k (with_digit n (digit_value c)) cs else None

abbrev pub after_unicode : Characters → Option Characters → Option Characters
after_unicode text None = after_digits 4 0 text
after_unicode text (Some digits) = after_braced 0 false digits

-- what follows an escape, after its backslash
abbrev pub after_escape : Characters → Option Characters
after_escape [] = None
after_escape (c ∷ cs) = if has c (codes "nrt\\'\"`$") then Some cs else (if c == 117 then after_unicode cs (after_char 123 cs) else None)

-- what follows a piece of a text, of which c is the first character
abbrev pub after_text_piece : ℕ → Characters → Option Characters
after_text_piece c text = if c == 92 then after_escape text else (if (c == 10) || (c == 13) then None else Some text)

-- what follows the pieces of a text and the quote after them; None where no pieces and quote begin the text
abbrev pub Closes : ℕ → Characters → Option Characters → Type 0
Closes quote text None = (pieces : List Piece) (next : Characters) → IsTrue (are_text_pieces quote pieces) → pieces_spelling pieces (quote ∷ next) ≡ text → ⊥
Closes quote text (Some rest) = (pieces : List Piece) × IsTrue (are_text_pieces quote pieces) × (pieces_spelling pieces (quote ∷ rest) ≡ text)

abbrev pub this_or : Characters → Option Characters → Characters
this_or text None = text
this_or text (Some rest) = rest

-- what follows a piece of a template, of which c is the first character
abbrev pub after_template_piece : ℕ → Characters → Option Characters
after_template_piece c text = if c == 92 then after_escape text else (if c == 13 then Some (this_or text (after_char 10 text)) else Some text)

-- what follows `${`, of which c is the first character
abbrev pub after_hole : ℕ → Characters → Option Characters
after_hole c text = if c == 36 then after_char 123 text else None

abbrev pub edge_of : part.Edge → Edge
edge_of edge.Backquote = Backquote
edge_of edge.Hole = Hole

-- what follows the pieces of a part of a template and its end
abbrev pub Ends : Characters → Option (Edge × Characters) → Type 0
Ends text None = (pieces : List Piece) (to : Edge) (next : Characters) → IsTrue (are_template_pieces pieces (closing to next)) → pieces_spelling pieces (closing to next) ≡ text → ⊥
Ends text (Some found) = (pieces : List Piece) × IsTrue (are_template_pieces pieces (closing found.0 found.1)) × (pieces_spelling pieces (closing found.0 found.1) ≡ text)
