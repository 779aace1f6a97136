-- The grammar's token that a token is, and what is left of the tokens.
use Rattle.std.specs.Prelude.{◌≡◌, Bool, true, ◌&&◌, nat_lt, List, [], ◌∷◌, map, chars}
use Rattle.qk_ast.specs.Characters.{Characters}
use Rattle.qk_ast.specs.Tokens as tokens
use Rattle.qk_ast.specs.Tokens.{is_int}
use Rattle.qk_token.specs.declared.token.Token.{Token}
use Rattle.qk_token.specs.declared.token.Token.TheVariants.{Name, Reserved, Int, Text, Attribute, Template, Punct, Begin, JsxText}
use Rattle.qk_token.specs.declared.token.Edge.{Edge}
use Rattle.qk_token.specs.declared.token.Edge.TheVariants as edge
use Rattle.qk_token.specs.Pieces.{pieces_of}

abbrev pub is_ascii : Characters → Bool
is_ascii [] = true
is_ascii (c ∷ cs) = nat_lt c 128 && is_ascii cs

abbrev pub edge_of : Edge → tokens.Edge
edge_of edge.Backquote = tokens.Backquote
edge_of edge.Hole = tokens.Hole

abbrev pub token_of : Token → tokens.Token
token_of (Name text) = tokens.Name (chars text.now)
token_of (Reserved text) = tokens.Reserved (chars text.now)
token_of (Int text) = tokens.Int (chars text.now)
token_of (Text quote text) = tokens.Text quote (pieces_of (chars text.now))
token_of (Attribute quote text) = tokens.Attribute quote (chars text.now)
token_of (Template from text to) = tokens.Template (edge_of from) (pieces_of (chars text.now)) (edge_of to)
token_of (Punct text) = tokens.Punct (chars text.now)
token_of (Begin text) = tokens.Begin (chars text.now)
token_of (JsxText text) = tokens.JsxText (chars text.now)

abbrev pub tokens_of : List Token → List tokens.Token
tokens_of found = map token_of found

-- an integer is one that a module may write
abbrev pub Fits : Token → Type 0
Fits (Int text) = is_int (chars text.now) ≡ true
Fits _ = Unit {0}

abbrev pub AllFit : List Token → Type 0
AllFit [] = Unit {0}
AllFit (t ∷ ts) = Fits t × AllFit ts
