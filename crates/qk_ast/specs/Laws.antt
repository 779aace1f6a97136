-- The laws of the grammar.
use Rattle.std.specs.Prelude.{◌≡◌, ℕ, List}
use Rattle.qk_ast.specs.declared.Form.TheVariants.{Source}
use Rattle.qk_ast.specs.declared.Module.{Module}
use Rattle.qk_ast.specs.Characters.{Characters}
use Rattle.qk_ast.specs.Tokens.{Token, Tokens}
use Rattle.qk_ast.specs.Derives.{Derives}
use Rattle.qk_ast.specs.First.{HasFirstForm}

-- a text has one token list
abbrev pub OneTokenList : Type 0
OneTokenList = (text : Characters) (ts us : List Token) → Tokens text ts → Tokens text us → ts ≡ us

-- a text of the first form derives the module that it means
abbrev pub FirstFormDerives : Type 0
FirstFormDerives = (bytes : List ℕ) (m : Module) → HasFirstForm bytes m → Derives Source bytes m
