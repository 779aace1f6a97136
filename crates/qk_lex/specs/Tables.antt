-- The tables of punctuators.
use Rattle.std.specs.Prelude.{ℕ, List, [], ◌∷◌, ◌++◌, ◌==◌, if◌then◌else◌, map, codes}
use Rattle.qk_ast.specs.Characters.{Characters, begins_with}
use Rattle.qk_ast.specs.Tokens.{code_signs, tag_signs, child_signs, longest_after}
use Rattle.qk_lex.specs.declared.tables.Signs.{Signs}
use Rattle.qk_lex.specs.declared.tables.Signs.TheVariants.{Code, Tag, Child}

abbrev pub signs_of : Signs → List Characters
signs_of Code = code_signs
signs_of Tag = tag_signs
signs_of Child = child_signs

-- those of the list that begin with that character
abbrev pub beginning : ℕ → List Characters → List Characters
beginning c [] = []
beginning c (w ∷ ws) = (if begins_with (λ d. c == d) w then w ∷ [] else []) ++ beginning c ws

-- the punctuators after which a `<` of code begins JSX
abbrev pub signs_before_jsx : List Characters
signs_before_jsx = map codes ("(" ∷ "," ∷ "=" ∷ "=>" ∷ "?" ∷ ":" ∷ "&&" ∷ "||" ∷ "??" ∷ "{" ∷ "[" ∷ [])

-- the longest of those signs that the text begins with
unfoldable pub sign_at : Signs → Characters → Characters
sign_at signs text = longest_after [] (signs_of signs) text
