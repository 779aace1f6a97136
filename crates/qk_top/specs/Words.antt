-- Which lists of words are commands.
use Rattle.std.specs.Prelude.{◌≡◌, ◌==◌, Bool, false, not, List, [], ◌∷◌, codes, IsTrue}
use Rattle.qk_meaning.specs.Value.{Text}

-- a word that may name a script: it isn't empty, and doesn't begin with `-`
abbrev pub is_script_word : Text → Bool
is_script_word [] = false
is_script_word (c ∷ rest) = not (c == 45)

-- `replay SCRIPT`
pub record IsReplay (words : List Text) (script : Text) : Type 0 where
  pub words_are : words ≡ codes "replay" ∷ script ∷ []
  pub named : IsTrue (is_script_word script)
