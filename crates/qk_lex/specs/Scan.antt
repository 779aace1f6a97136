-- Reading a text from its front.
use Rattle.std.specs.Prelude.{ℕ, Bool, not, if◌then◌else◌, ◌==◌, [], ◌∷◌, Option, Some, None, codes}
use Rattle.qk_ast.specs.Characters.{Characters, has, is_digit, continues_name}
use Rattle.qk_ast.specs.Tokens.{continues_attribute}
use Rattle.qk_lex.specs.declared.scan.Class.{Class}
use Rattle.qk_lex.specs.declared.scan.Class.TheVariants.{Name, Digit, Attribute, Line, Child, Is, IsNot}

abbrev pub is_in : Class → ℕ → Bool
is_in Name c = continues_name c
is_in Digit c = is_digit c
is_in Attribute c = continues_attribute c
is_in Line c = not (c == 10)
is_in Child c = not (has c (codes "{<>}"))
is_in (Is d) c = c == d
is_in (IsNot d) c = not (c == d)

-- what follows the character, where the text begins with it
abbrev pub after_char : ℕ → Characters → Option Characters
after_char c [] = None
after_char c (d ∷ ds) = if d == c then Some ds else None
