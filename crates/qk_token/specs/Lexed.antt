-- From a text to its tokens.
use Rattle.std.specs.Prelude.{◌≡◌, ℕ, Bool, true, false, if◌then◌else◌, ◌==◌, ◌-◌, List, [], ◌∷◌, ◌++◌, length, map, drop, slice_index}
use Rattle.qk_ast.specs.Characters.{Characters}
use Rattle.qk_ast.specs.Tokens.{Token, Name, Reserved, Int, Text, Attribute, Template, Punct, Begin, JsxText, Edge, Backquote, Hole, Tokens}
use Rattle.qk_lex.specs.declared.Kind.{Kind}
use Rattle.qk_lex.specs.declared.Kind.TheVariants as kind
use Rattle.qk_lex.specs.declared.Token as lexed
use Rattle.qk_lex.specs.Reading.{size, placed}
use Rattle.qk_token.specs.Pieces.{pieces_of}

-- ---- a token, from its kind and the characters that it is spelled with

abbrev pub first_of : Characters → ℕ
first_of [] = 0
first_of (c ∷ cs) = c

abbrev pub last_of : Characters → ℕ
last_of [] = 0
last_of (c ∷ []) = c
last_of (c ∷ d ∷ cs) = last_of (d ∷ cs)

abbrev pub without_last : Characters → Characters
without_last [] = []
without_last (c ∷ []) = []
without_last (c ∷ d ∷ cs) = c ∷ without_last (d ∷ cs)

-- what stands between two quotes
abbrev pub inside : Characters → Characters
inside text = without_last (drop 1 text)

abbrev pub edge_at : ℕ → Edge
edge_at c = if c == 96 then Backquote else Hole

-- a part of a template, by what follows the edge that it begins at
abbrev pub part : Edge → Characters → Token
part from text = if last_of text == 96 then Template from (pieces_of (without_last text)) Backquote else Template from (pieces_of (without_last (without_last text))) Hole

abbrev pub token_written : Kind → Bool → Characters → Token
token_written kind.Name jsx text = Name text
token_written kind.Reserved jsx text = Reserved text
token_written kind.Int jsx text = Int text
token_written kind.Text false text = Text (first_of text) (pieces_of (inside text))
token_written kind.Text true text = Attribute (first_of text) (inside text)
token_written kind.TemplatePart jsx text = part (edge_at (first_of text)) (drop 1 text)
token_written kind.Punct false text = Punct text
token_written kind.Punct true text = Begin text
token_written kind.JsxText jsx text = JsxText text

-- ---- all the tokens of a text

-- Tokens, with the byte where each begins and, after those, the byte where the text ends.
pub record Listed : Type 0 where
  pub tokens : List Token
  pub places : List ℕ

abbrev pub starts_of : List lexed.Token → List ℕ
starts_of found = map (λ (t : lexed.Token). t.start) found

-- they are the tokens of the text, each at the byte where it begins
pub record Lexes (text : Characters) (found : Listed) : Type 0 where
  pub reads : Tokens text found.tokens
  pub places : found.places ≡ starts_of (placed 0 reads.written_as) ++ size text ∷ []

-- the byte where the tokens begin of which so many are left; where none is left, the text ends there
abbrev pub place_of : ℕ → Listed → ℕ
place_of left found = slice_index found.places (length found.tokens - left)
