-- The reader of modules: each rule decides by the tokens ahead. Rules for what nests less deep call those for what nests deeper by one parameter.
use Rattle.std.specs.Prelude.{ℕ, zero, suc, Bool, true, false, List, Option, Some, None, Result, Ok, Err, codes}
use Rattle.qk_ast.specs.declared.Form.{Form}
use Rattle.qk_ast.specs.declared.Module.{Module}
use Rattle.qk_ast.specs.declared.Import.{Import}
use Rattle.qk_ast.specs.declared.Item.{Item}
use Rattle.qk_ast.specs.Tokens.{Token}
use Rattle.qk_ast.specs.Tree.{bytes, value}
use Rattle.qk_reading.specs.Input.{at, Fault, Outcome, Reader, ◌>>=◌, ◌>>◌, ◌<$>◌, pure, Nested, Sign, Word, Given, refuse, peek, take_token, look, eat, expect, name, too_deep, enter, is_end, many}
use Rattle.qk_reading.specs.Parts.{names}
use Rattle.qk_reading.specs.Forms.{whole, level}
use Rattle.qk_reading.specs.Statements.{body, group}

-- what reads what needs so many levels more
unfoldable pub nesting : Form → ℕ → Nested
nesting form zero = record { value = λ _. too_deep; body = too_deep; group = λ _. too_deep }
nesting form (suc room) = record { value = level form room (nesting form room); body = body form room (nesting form room); group = group form room (nesting form room) }

-- ---- the module

abbrev pub text_by : Option Token → Reader (List ℕ)
text_by (Some (Token.Text quote pieces)) = take_token >> pure (value pieces)
text_by _ = refuse

unfoldable pub import_line : ℕ → Reader Import
import_line room = do
  expect (Word (codes "import"))
  expect (Sign (codes "{"))
  enter room
  xs ← names
  expect (Sign (codes "}"))
  expect (Given (codes "from"))
  source ← peek >>= text_by
  expect (Sign (codes ";"))
  pure (record { names = xs; from = source })

abbrev pub import_by : ℕ → Bool → Reader (Option Import)
import_by room true = Some <$> import_line room
import_by room false = pure None

unfoldable pub next_import : ℕ → Reader (Option Import)
next_import room = look (Word (codes "import")) >>= import_by room

unfoldable pub item : Form → ℕ → Reader Item
item form room = do
  exported ← eat (Word (codes "export"))
  expect (Word (codes "const"))
  a ← name
  expect (Sign (codes "="))
  x ← whole form room (nesting form room)
  expect (Sign (codes ";"))
  pure (record { exported = exported; name = bytes a; init = x.tree })

abbrev pub item_by : Form → ℕ → Bool → Reader (Option Item)
item_by form room true = pure None
item_by form room false = Some <$> item form room

unfoldable pub next_item : Form → ℕ → Reader (Option Item)
next_item form room i = item_by form room (is_end i.tokens) i

-- the module of all tokens, with so much room
unfoldable pub module_of : Form → ℕ → Reader Module
module_of form room = do
  imports ← many (next_import room)
  items ← many (next_item form room)
  pure (record { imports = imports; items = items })

-- The answer for a whole text: a module, or a fault with the number of the tokens from its place on.
abbrev pub outcome : Outcome Module → Result Module Fault
outcome (Ok p) = Ok (p.0)
outcome (Err f) = Err f

abbrev pub read_module : Form → ℕ → List Token → Result Module Fault
read_module form room tokens = outcome (module_of form room (at tokens 0))
