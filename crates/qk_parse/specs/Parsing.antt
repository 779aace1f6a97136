-- What parsing a text answers in a form: the module that it derives, or why it derives none.
use Rattle.std.specs.Prelude.{◌≡◌, ◌≤◌, ◌<◌, ℕ, List, length, chars, Err}
use Rattle.qk_ast.specs.declared.Form.{Form}
use Rattle.qk_ast.specs.declared.Module.{Module}
use Rattle.qk_ast.specs.Tokens.{Token, Tokens}
use Rattle.qk_ast.specs.Faults.{LexicalAt}
use Rattle.qk_ast.specs.Derives.{Derives, Parses, longest, deepest}
use Rattle.qk_reading.specs.Input as input
use Rattle.qk_reading.specs.Reader.{read_module}
use Rattle.qk_reading.specs.Laws.{ParsesWithin, RaisedPast}
use Rattle.qk_token.specs.Lexed.{Listed, Lexes, place_of}
use Rattle.qk_lex.specs.declared.LexFault.{LexFault}
use Rattle.qk_lex.specs.declared.LexFault.TheVariants as lex
use Rattle.qk_token.specs.declared.fault.Fault.{Fault}
use Rattle.qk_token.specs.declared.fault.Fault.TheVariants as read
use Rattle.qk_parse.specs.declared.parse.ParseFault.{ParseFault}
use Rattle.qk_parse.specs.declared.parse.ParseFault.TheVariants.{TooLong, Lexical, Syntax, TooDeep, Memory}

-- The text has tokens, and the reader answers such a fault to them at the one from which so many are left: it begins at that byte. Where none is
-- left, the text ends there.
pub record FoundAt (form : Form) (fault : ℕ → input.Fault) (text : List ℕ) (at : ℕ) : Type 0 where
  pub found : Listed
  pub lexes : Lexes (chars text) found
  pub left : ℕ
  pub within : left ≤ length found.tokens
  pub answers : read_module form (deepest form) found.tokens ≡ Err (fault left)
  pub place : at ≡ place_of left found

-- a token is out of place there: the tokens derive no module of any nesting
pub record SyntaxAt (form : Form) (text : List ℕ) (at : ℕ) : Type 0 where
  pub there : FoundAt form input.Syntax text at
  pub none : (m : Module) → ¬ Parses form there.found.tokens m

-- A token is too deep there: the tokens derive no module that nests no deeper than the form may, and of the tokens up to
-- and with that one more than this can raise the nesting.
pub record TooDeepAt (form : Form) (text : List ℕ) (at : ℕ) : Type 0 where
  pub there : FoundAt form input.TooDeep text at
  pub none : (m : Module) → ¬ ParsesWithin form (deepest form) there.found.tokens m
  pub raised : RaisedPast (deepest form) there.left there.found.tokens

-- why a text is refused
abbrev pub Refused : Form → List ℕ → ParseFault → Type 0
Refused form text TooLong = longest form < length text
Refused form text (Lexical at) = (length text ≤ longest form) × LexicalAt (chars text) at × ((ts : List Token) → ¬ Tokens (chars text) ts)
Refused form text (Syntax at) = (length text ≤ longest form) × SyntaxAt form text at
Refused form text (TooDeep at) = (length text ≤ longest form) × TooDeepAt form text at
Refused form text Memory = Unit {0}

-- a refused text derives no module, unless memory ran out
abbrev pub NoneDerived : Form → List ℕ → ParseFault → Type 0
NoneDerived form text Memory = Unit {0}
NoneDerived form text fault = (m : Module) → ¬ Derives form text m

-- ---- the steps

abbrev pub of_lex : LexFault → ParseFault
of_lex (lex.Lexical at) = Lexical at
of_lex lex.Memory = Memory

abbrev pub placed : Listed → Fault → ParseFault
placed found read.Memory = Memory
placed found (read.Syntax left) = Syntax (place_of left found)
placed found (read.TooDeep left) = TooDeep (place_of left found)
