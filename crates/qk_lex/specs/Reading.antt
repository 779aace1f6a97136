-- The tokens of a whole text, with the place of each; and where a text has none.
use Rattle.std.specs.Prelude.{◌≡◌, ℕ, ◌+◌, ◌-◌, List, [], ◌∷◌, length, Bool, Option, IsTrue}
use Rattle.std.specs.Str.{encode_utf8_all}
use Rattle.qk_ast.specs.Characters.{Characters}
use Rattle.qk_ast.specs.Tokens as tokens
use Rattle.qk_ast.specs.Tokens.{Blank, Written, End, Then, Around, Children, spelling, gap_spelling, is_gap, written, stands, Tokens, allows_jsx}
use Rattle.qk_ast.specs.Faults.{LexicalAt, NothingBegins, around_after, last_of}
use Rattle.qk_lex.specs.declared.Token.{Token}
use Rattle.qk_lex.specs.declared.LexFault.{LexFault}
use Rattle.qk_lex.specs.declared.LexFault.TheVariants.{Lexical, Memory}
use Rattle.qk_lex.specs.Gaps.{NoBlank}
use Rattle.qk_lex.specs.Steps.{kind_of, is_jsx}

-- how many bytes the characters take
abbrev pub size : Characters → ℕ
size text = length (encode_utf8_all text)

-- The tokens of a written text that begins at a byte, with their places. Each stands after the gap before it, for as many bytes as it is spelled with.
abbrev pub placed : ℕ → Written → List Token
placed at (End gap) = []
placed at (Then gap token more) =
    record { kind = kind_of token; jsx = is_jsx token; start = at + size (gap_spelling gap []); end = at + size (gap_spelling gap []) + size (spelling token []) }
    ∷ placed (at + size (gap_spelling gap []) + size (spelling token [])) more

-- The text has a token list, and these are its tokens, each with its kind, its first byte and the byte after its last.
abbrev pub TokensAt : Characters → List Token → Type 0
TokensAt text found = (list : List tokens.Token) × (tokens : Tokens text list) × (placed 0 tokens.written_as ≡ found)

-- At that byte of the text no token begins, and the text has no token list.
abbrev pub Refused : Characters → LexFault → Type 0
Refused text (Lexical at) = LexicalAt text at × ((list : List tokens.Token) → Tokens text list → ⊥)
Refused text Memory = Unit {0}

-- ---- the same on the way: what is left of a text of so many bytes, in its regions

pub record GapIn (around : Around) (text rest : Characters) : Type 0 where
  pub gap : List Blank
  pub spells : gap_spelling gap rest ≡ text
  pub is : IsTrue (is_gap around gap rest)

-- no blank begins the text, where blanks may stand
abbrev pub NoBlankIn : Around → Characters → Type 0
NoBlankIn (Children ∷ around) text = Unit {0}
NoBlankIn around text = NoBlank text

pub record Reads (total : ℕ) (around : Around) (opens : Bool) (text : Characters) (found : List Token) : Type 0 where
  pub reads : (before : Option tokens.Token) → allows_jsx before ≡ opens → (w : Written) × (written w [] ≡ text) × stands around before w [] × (placed (total - size text) w ≡ found)

pub record StopsIn (total : ℕ) (around : Around) (opens : Bool) (text : Characters) (at : ℕ) : Type 0 where
  pub stops : (before : Option tokens.Token) → allows_jsx before ≡ opens → (front : Written) × (rest : Characters) × (written front rest ≡ text) × stands around before front rest × (length rest ≡ 0 → ⊥)
      × NothingBegins (around_after around front) (last_of before front) rest × (at + size rest ≡ total)
