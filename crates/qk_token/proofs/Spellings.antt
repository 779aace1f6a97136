-- What is spelled before a text is the spelling alone, and then the text.
use Rattle.std.specs.Prelude.{◌≡◌, refl, [], ◌∷◌, ◌++◌, List}
use mathlib.Core.Path.{sym, ◌∙◌, ap}
use Rattle.std.proofs.Common.{append_assoc}
use Rattle.qk_ast.specs.Characters.{Characters}
use Rattle.qk_ast.specs.Tokens.{Spelling, Piece, Plain, Escaped, Four, Braced, Return, Return_feed, piece_spelling, pieces_spelling, Edge, Backquote, Hole, opening, closing, Token, Name, Reserved, Int, Text, Attribute, Template, Punct, Begin, JsxText, spelling, Blank, Space, Line, Block, blank_spelling, gap_spelling}

pub record Before (f : Spelling) : Type 0 where
  pub is : (next : Characters) → f next ≡ f [] ++ next

nothing : Before (λ next. next)
nothing = record { is = λ next. refl }

word : (w : Characters) → Before (λ next. w ++ next)
word [] = nothing
word (c ∷ cs) = record { is = λ next. ap (λ t. c ∷ t) ((word cs).is next) }

then : {f g : Spelling} → Before f → Before g → Before (λ next. f (g next))
then {f} {g} a b = record { is = λ next. a.is (g next) ∙ (ap (λ t. f [] ++ t) (b.is next) ∙ (sym (append_assoc (f []) (g []) next) ∙ ap (λ t. t ++ next) (sym (a.is (g []))))) }

blank : (b : Blank) → Before (blank_spelling b)
blank (Space c) = word (c ∷ [])
blank (Line text) = then (word (47 ∷ 47 ∷ [])) (word text)
blank (Block text) = then (word (47 ∷ 42 ∷ [])) (then (word text) (word (42 ∷ 47 ∷ [])))

pub gap : (bs : List Blank) → Before (gap_spelling bs)
gap [] = nothing
gap (b ∷ bs) = then (blank b) (gap bs)

piece : (p : Piece) → Before (piece_spelling p)
piece (Plain c) = word (c ∷ [])
piece (Escaped c) = word (92 ∷ c ∷ [])
piece (Four digits) = then (word (92 ∷ 117 ∷ [])) (word digits)
piece (Braced digits) = then (word (92 ∷ 117 ∷ 123 ∷ [])) (then (word digits) (word (125 ∷ [])))
piece Return = word (13 ∷ [])
piece Return_feed = word (13 ∷ 10 ∷ [])

pub pieces : (ps : List Piece) → Before (pieces_spelling ps)
pieces [] = nothing
pieces (p ∷ ps) = then (piece p) (pieces ps)

from : (e : Edge) → Before (opening e)
from Backquote = word (96 ∷ [])
from Hole = word (125 ∷ [])

to : (e : Edge) → Before (closing e)
to Backquote = word (96 ∷ [])
to Hole = word (36 ∷ 123 ∷ [])

pub token : (t : Token) → Before (spelling t)
token (Name w) = word w
token (Reserved w) = word w
token (Int digits) = word digits
token (Text quote ps) = then (word (quote ∷ [])) (then (pieces ps) (word (quote ∷ [])))
token (Attribute quote inside) = then (word (quote ∷ [])) (then (word inside) (word (quote ∷ [])))
token (Template a ps b) = then (from a) (then (pieces ps) (to b))
token (Punct sign) = word sign
token (Begin sign) = word sign
token (JsxText text) = word text
