-- The two parts of a scope's statement: its names, and what follows them.
use Rattle.std.specs.Prelude.{ℕ, List, ◌∷◌, codes}
use Rattle.qk_ast.specs.Tree.{bytes}
use Rattle.qk_reading.specs.Input.{Reader, ◌>>=◌, ◌>>◌, pure, Sign, Given, take_token, expect, name, enter, many}
use Rattle.qk_reading.specs.Parts.{comma_name}

-- [a, b
unfoldable pub scope_names : ℕ → Reader (List (List ℕ))
scope_names room = do
  take_token
  enter room
  a ← name
  more ← many comma_name
  pure (bytes a ∷ more)

unfoldable pub scope_word : Reader (Unit {0})
scope_word = expect (Given (codes "useLexicalScope"))

-- ] = useLexicalScope();
unfoldable pub scope_end : Reader (Unit {0})
scope_end = do
  expect (Sign (codes "]"))
  expect (Sign (codes "="))
  scope_word
  expect (Sign (codes "("))
  expect (Sign (codes ")"))
  expect (Sign (codes ";"))
