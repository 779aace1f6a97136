-- The lines of the text between tags, as they are read from its front.
use Rattle.std.specs.Prelude.{ℕ, suc, Bool, not, ◌&&◌, if◌then◌else◌, ◌==◌, [], ◌∷◌, ◌++◌, codes}
use Rattle.qk_ast.specs.Characters.{Characters, is_front}

-- how many characters stand before the first line feed, or in all
abbrev pub line_end : Characters → ℕ
line_end [] = 0
line_end (c ∷ cs) = if c == 10 then 0 else suc (line_end cs)

-- a line without the carriage return at its end
abbrev pub drop_return : Characters → Characters
drop_return [] = []
drop_return (c ∷ []) = if c == 13 then [] else c ∷ []
drop_return (c ∷ d ∷ ds) = c ∷ drop_return (d ∷ ds)

-- a line more, after a space where it isn't the first that has something
abbrev pub appended : Characters → Characters → Characters
appended text [] = text
appended [] (c ∷ cs) = c ∷ cs
appended (t ∷ ts) (c ∷ cs) = t ∷ (ts ++ 32 ∷ c ∷ cs)

-- the character at the front of a text, an entity counting as one, and how many characters spell it
abbrev pub first_decoded : Characters → ℕ × ℕ
first_decoded [] = (0, 1)
first_decoded (c ∷ cs) =
    if is_front (codes "&amp;") (c ∷ cs) then (38, 5)
    else (if is_front (codes "&lt;") (c ∷ cs) then (60, 4)
    else (if is_front (codes "&gt;") (c ∷ cs) then (62, 4)
    else (if is_front (codes "&quot;") (c ∷ cs) then (34, 6)
    else (if is_front (codes "&nbsp;") (c ∷ cs) then (160, 6)
    else (c, 1)))))

-- a character that is read as it is written: none that begins an entity, ends a line or counts as a space
abbrev pub stays : ℕ → Bool
stays c = not (c == 38) && not (c == 10) && not (c == 9)
