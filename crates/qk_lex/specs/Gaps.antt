-- Blanks and comments at the front of a text.
use Rattle.std.specs.Prelude.{◌≡◌, Bool, false, ◌&&◌, if◌then◌else◌, ◌==◌, List, [], ◌∷◌, Option, Some, None, IsTrue}
use Rattle.qk_ast.specs.Characters.{Characters, is_blank, after_run}
use Rattle.qk_ast.specs.Tokens.{Blank, blank_spelling, gap_spelling, is_blank_of, are_blanks}
use Rattle.qk_lex.specs.declared.scan.Class.TheVariants.{Line}
use Rattle.qk_lex.specs.Scan.{is_in}

-- what follows the first `*/`; a `*` may stand before the text
abbrev pub after_block : Bool → Characters → Option Characters
after_block star [] = None
after_block star (c ∷ cs) = if star && (c == 47) then Some cs else after_block (c == 42) cs

-- what follows the comment that the text begins with, after its `/`
abbrev pub after_comment : Characters → Option Characters
after_comment [] = None
after_comment (c ∷ cs) = if c == 47 then Some (after_run (is_in Line) cs) else (if c == 42 then after_block false cs else None)

-- what follows the blank or comment that the text begins with
abbrev pub after_blank : Characters → Option Characters
after_blank [] = None
after_blank (c ∷ cs) = if is_blank c then Some cs else (if c == 47 then after_comment cs else None)

-- no blank and no comment begins the text
abbrev pub NoBlank : Characters → Type 0
NoBlank text = (b : Blank) (next : Characters) → blank_spelling b next ≡ text → IsTrue (is_blank_of b next) → ⊥

-- blanks and comments, and what follows all of them
pub record Gap (text rest : Characters) : Type 0 where
  pub gap : List Blank
  pub spells : gap_spelling gap rest ≡ text
  pub blanks : IsTrue (are_blanks gap rest)
  pub ends : NoBlank rest
