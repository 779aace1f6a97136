-- The laws of reading: a text has one module, and the reader answers it exactly.
use Rattle.std.specs.Prelude.{◌≡◌, ◌≤◌, ◌<◌, ℕ, ◌+◌, Bool, true, false, if◌then◌else◌, List, [], ◌∷◌, ◌++◌, map, length, Ok, Err, IsTrue, codes}
use Rattle.std.specs.Str.{encode_utf8_all, all_scalars}
use Rattle.qk_ast.specs.declared.Form.{Form}
use Rattle.qk_ast.specs.declared.Module.{Module}
use Rattle.qk_ast.specs.Characters.{Characters, is_one_of}
use Rattle.qk_ast.specs.Tokens.{Token, Tokens, Edge}
use Rattle.qk_ast.specs.Depth.{module_depth}
use Rattle.qk_ast.specs.Derives.{Parses, Derives, longest, deepest}
use Rattle.qk_reading.specs.Input.{Fault, Syntax, TooDeep}
use Rattle.qk_reading.specs.Reader.{read_module}

-- a text derives one module at most in a form
abbrev pub OneModule : Type 0
OneModule = (form : Form) (bytes : List ℕ) (m n : Module) → Derives form bytes m → Derives form bytes n → m ≡ n

-- tokens derive one module at most in a form, whatever its nesting
abbrev pub OneParse : Type 0
OneParse = (form : Form) (ts : List Token) (m n : Module) → Parses form ts m → Parses form ts n → m ≡ n

-- The tokens derive the module, written so that it nests no deeper.
pub record ParsesWithin (form : Form) (deepest : ℕ) (ts : List Token) (m : Module) : Type 0 where
  pub parse : Parses form ts m
  pub flat : module_depth parse.text ≤ deepest

-- the reader answers the module exactly where the tokens derive it within the nesting
abbrev pub ReadsExactly : Type 0
ReadsExactly = (form : Form) (deepest : ℕ) (ts : List Token) (m : Module) → (ParsesWithin form deepest ts m → read_module form deepest ts ≡ Ok m) × (read_module form deepest ts ≡ Ok m → ParsesWithin form deepest ts m)

-- a fault comes exactly where the tokens derive no module within the nesting
abbrev pub FaultsExactly : Type 0
FaultsExactly = (form : Form) (deepest : ℕ) (ts : List Token)
    → ((fault : Fault) → read_module form deepest ts ≡ Err fault → (m : Module) → ParsesWithin form deepest ts m → ⊥)
    × (((m : Module) → ParsesWithin form deepest ts m → ⊥) → (fault : Fault) × (read_module form deepest ts ≡ Err fault))

-- a token is found out of place only where no module of any nesting has the tokens
abbrev pub SyntaxOnlyWhereNone : Type 0
SyntaxOnlyWhereNone = (form : Form) (deepest left : ℕ) (ts : List Token) (m : Module) → read_module form deepest ts ≡ Err (Syntax left) → Parses form ts m → ⊥

-- A token that can raise the nesting: an opening bracket, a template's part that opens a hole, a `<` that begins JSX, and these signs and words.
abbrev pub can_raise : Token → Bool
can_raise (Token.Punct sign) = is_one_of sign (map codes ("(" ∷ "[" ∷ "{" ∷ "=>" ∷ "!" ∷ "-" ∷ "?" ∷ ":" ∷ []))
can_raise (Token.Reserved word) = is_one_of word (map codes ("if" ∷ "else" ∷ "while" ∷ "for" ∷ []))
can_raise (Token.Template from pieces Edge.Hole) = true
can_raise (Token.Begin sign) = true
can_raise _ = false

abbrev pub raisers : List Token → ℕ
raisers [] = 0
raisers (token ∷ more) = if can_raise token then 1 + raisers more else raisers more

-- Of the tokens up to and with the one from which so many are left, more than that number can raise the nesting.
pub record RaisedPast (deepest left : ℕ) (ts : List Token) : Type 0 where
  pub front : List Token
  pub place : Token
  pub behind : List Token
  pub spells : front ++ place ∷ behind ≡ ts
  pub number : length (place ∷ behind) ≡ left
  pub raised : deepest < raisers (front ++ place ∷ [])

-- a token is found too deep only where so many tokens can raise the nesting
abbrev pub TooDeepOnlyWhereRaised : Type 0
TooDeepOnlyWhereRaised = (form : Form) (deepest left : ℕ) (ts : List Token) → read_module form deepest ts ≡ Err (TooDeep left) → RaisedPast deepest left ts

-- a fault stands at one of the tokens, or behind all of them where the text ends too early
abbrev pub FaultsInside : Type 0
FaultsInside = (form : Form) (deepest left : ℕ) (ts : List Token)
    → (read_module form deepest ts ≡ Err (Syntax left) → left ≤ length ts)
    × (read_module form deepest ts ≡ Err (TooDeep left) → (1 ≤ left) × (left ≤ length ts))

-- a text that is short enough derives a module exactly where the reader answers it to the text's tokens
abbrev pub ReadsTexts : Type 0
ReadsTexts = (form : Form) (text : Characters) (ts : List Token) (m : Module) → IsTrue (all_scalars text) → length (encode_utf8_all text) ≤ longest form → Tokens text ts
    → (Derives form (encode_utf8_all text) m → read_module form (deepest form) ts ≡ Ok m) × (read_module form (deepest form) ts ≡ Ok m → Derives form (encode_utf8_all text) m)
