-- A text has no more tokens than characters, and no more characters than bytes.
use Rattle.std.specs.Prelude.{◌≡◌, refl, ◌≤◌, ◌<◌, Bool, true, false, not, ◌&&◌, ◌==◌, List, [], ◌∷◌, ◌++◌, length, Option, Some, None, codes}
use Rattle.std.specs.Str.{encode_utf8_all}
use Rattle.std.specs.Char.{encode_utf8}
use mathlib.Core.Path.{sym, ◌∙◌, ap, subst}
use native.Mathlib.Omega.{arith}
use Rattle.std.proofs.Common.{length-append}
use Rattle.std.proofs.lemmas.Bool.{false≢true}
use Rattle.std.proofs.lemmas.Str.{length-encode, len_utf8_bounds}
use Rattle.qk_ast.specs.Characters.{Characters, same, is_one_of}
use Rattle.qk_ast.specs.Tokens.{is_word, is_int, is_attribute_name, Edge, Token, Name, Reserved, Int, Text, Attribute, Template, Punct, Begin, JsxText, Backquote, Hole, Piece, Blank, Around, Braces, In_hole, In_tag, In_end, Children, after, piece_spelling, pieces_spelling, closing, spelling, blank_spelling, gap_spelling, Written, End, Then, written, tokens_of, stands, Tokens, reserved_words, code_signs, tag_signs, child_signs, begin_signs, is_sign, is_code_token, is_tag_token, is_end_token, is_child_token, is_token}
use Rattle.qk_ast.proofs.FrontToken.{left}

-- ---- what is spelled before a text is longer than it

at_least : (xs next : Characters) → length next ≤ length (xs ++ next)
at_least xs next = omega (arith, length-append xs next)

longer : (xs next : Characters) → (xs ≡ [] → ⊥) → length next < length (xs ++ next)
longer [] next h = absurd (h refl)
longer (x ∷ xs) next h = omega (arith, length-append xs next)

-- no word of a list that lacks the empty one is empty
listed : (words : List Characters) → is_one_of [] words ≡ false → (word : Characters) → is_one_of word words ≡ true → word ≡ [] → ⊥
listed words e word h k = false≢true (sym e ∙ (ap (λ w. is_one_of w words) (sym k) ∙ h))

no_words : (test : Characters → Bool) → test [] ≡ false → (word : Characters) → test word ≡ true → word ≡ [] → ⊥
no_words test e word h k = false≢true (sym e ∙ (ap test (sym k) ∙ h))

piece_least : (p : Piece) (next : Characters) → length next ≤ length (piece_spelling p next)
piece_least (Piece.Plain c) next = omega arith
piece_least (Piece.Escaped c) next = omega arith
piece_least (Piece.Four digits) next = omega (arith, length-append digits next)
piece_least (Piece.Braced digits) next = omega (arith, length-append digits (125 ∷ next))
piece_least Piece.Return next = omega arith
piece_least Piece.Return_feed next = omega arith

pieces_least : (ps : List Piece) (next : Characters) → length next ≤ length (pieces_spelling ps next)
pieces_least [] next = omega arith
pieces_least (p ∷ ps) next = omega (arith, piece_least p (pieces_spelling ps next), pieces_least ps next)

-- ---- each token is spelled with something

signed : (signs : List Characters) (sign next : Characters) → is_one_of [] signs ≡ false → is_sign signs sign next ≡ true → length next < length (sign ++ next)
signed signs sign next e h = longer sign next (listed signs e sign (left (is_one_of sign signs) _ h))

template_longer : (t : Token) (next : Characters) (from : Edge) (ps : List Piece) (to : Edge) → length next < length (spelling (Template from ps to) next)
template_longer t next Backquote ps to = omega (arith, pieces_least ps (closing to next), closing_least to)
  where
    closing_least : (to : Edge) → length next ≤ length (closing to next)
    closing_least Backquote = omega arith
    closing_least Hole = omega arith
template_longer t next Hole ps to = omega (arith, pieces_least ps (closing to next), closing_least to)
  where
    closing_least : (to : Edge) → length next ≤ length (closing to next)
    closing_least Backquote = omega arith
    closing_least Hole = omega arith

code_longer : (around : Around) (before : Option Token) (t : Token) (next : Characters) → is_code_token around before t next → length next < length (spelling t next)
code_longer around before (Name word) next h = longer word next (no_words is_word refl word h.0)
code_longer around before (Reserved word) next h = longer word next (listed reserved_words refl word h.0)
code_longer around before (Int digits) next h = longer digits next (no_words is_int refl digits h.0)
code_longer around before (Text quote ps) next h = omega (arith, pieces_least ps (quote ∷ next))
code_longer around before (Template from ps to) next h = template_longer (Template from ps to) next from ps to
code_longer around before (Punct sign) next h = signed code_signs sign next refl (left (is_sign code_signs sign next) _ (left (is_sign code_signs sign next && _) _ h.1))
code_longer around before (Begin sign) next h = signed begin_signs sign next refl h.1
code_longer around before (Attribute quote text) next h = absurd h
code_longer around before (JsxText text) next h = absurd h

tag_longer : (t : Token) (next : Characters) → is_tag_token t next → length next < length (spelling t next)
tag_longer (Name name) next h = longer name next (no_words (λ w. is_attribute_name w next) refl name h)
tag_longer (Attribute quote text) next h = omega (arith, at_least text (quote ∷ next))
tag_longer (Punct sign) next h = signed tag_signs sign next refl h
tag_longer (Reserved word) next h = absurd h
tag_longer (Int digits) next h = absurd h
tag_longer (Text quote ps) next h = absurd h
tag_longer (Template from ps to) next h = absurd h
tag_longer (Begin sign) next h = absurd h
tag_longer (JsxText text) next h = absurd h

end_longer : (t : Token) (next : Characters) → is_end_token t next → length next < length (spelling t next)
end_longer (Name name) next h = longer name next (no_words (λ w. is_attribute_name w next) refl name h)
end_longer (Punct sign) next h = longer sign next (no_words (λ w. same w (codes ">")) refl sign h)
end_longer (Attribute quote text) next h = absurd h
end_longer (Reserved word) next h = absurd h
end_longer (Int digits) next h = absurd h
end_longer (Text quote ps) next h = absurd h
end_longer (Template from ps to) next h = absurd h
end_longer (Begin sign) next h = absurd h
end_longer (JsxText text) next h = absurd h

child_longer : (t : Token) (next : Characters) → is_child_token t next → length next < length (spelling t next)
child_longer (JsxText text) next h = longer text next (no_words (λ w. not (length w == 0)) refl text (left (not (length text == 0)) _ (left (not (length text == 0) && _) _ h)))
child_longer (Punct sign) next h = signed child_signs sign next refl h
child_longer (Begin sign) next h = signed begin_signs sign next refl h.0
child_longer (Name name) next h = absurd h
child_longer (Attribute quote text) next h = absurd h
child_longer (Reserved word) next h = absurd h
child_longer (Int digits) next h = absurd h
child_longer (Text quote ps) next h = absurd h
child_longer (Template from ps to) next h = absurd h

token_longer : (around : Around) (before : Option Token) (t : Token) (next : Characters) → is_token around before t next → length next < length (spelling t next)
token_longer [] before t next h = code_longer [] before t next h
token_longer (Braces ∷ around) before t next h = code_longer (Braces ∷ around) before t next h
token_longer (In_hole ∷ around) before t next h = code_longer (In_hole ∷ around) before t next h
token_longer (In_tag ∷ around) before t next h = tag_longer t next h
token_longer (In_end ∷ around) before t next h = end_longer t next h
token_longer (Children ∷ around) before t next h = child_longer t next h

-- ---- all the tokens

blank_least : (b : Blank) (next : Characters) → length next ≤ length (blank_spelling b next)
blank_least (Blank.Space c) next = omega arith
blank_least (Blank.Line text) next = omega (arith, at_least text next)
blank_least (Blank.Block text) next = omega (arith, at_least text (codes "*/" ++ next))

gap_least : (gap : List Blank) (next : Characters) → length next ≤ length (gap_spelling gap next)
gap_least [] next = omega arith
gap_least (b ∷ bs) next = omega (arith, blank_least b (gap_spelling bs next), gap_least bs next)

written_least : (w : Written) (around : Around) (before : Option Token) → stands around before w [] → length (tokens_of w) ≤ length (written w [])
written_least (End gap) around before h = omega arith
written_least (Then gap t more) around before h =
    let a = gap_least gap (spelling t (written more [])) in
    let b = token_longer around before t (written more []) h.1 in
    let c = written_least more (after around t) (Some t) h.2 in
    omega (arith, a, b, c)

pub fewer_tokens : (text : Characters) (ts : List Token) → Tokens text ts → length ts ≤ length text
fewer_tokens text ts h =
    let e : length (tokens_of h.written_as) ≡ length ts = ap length h.read in
    let k : length (written h.written_as []) ≡ length text = ap length h.spells in
    let l = written_least h.written_as [] None h.stand in
    omega (arith, e, k, l)

pub fewer_characters : (text : Characters) → length text ≤ length (encode_utf8_all text)
fewer_characters [] = omega arith
fewer_characters (c ∷ cs) =
    let l : 1 ≤ length (encode_utf8 c) = subst (λ n. 1 ≤ n) (sym (length-encode c)) (len_utf8_bounds c).0 in
    omega (arith, l, fewer_characters cs, length-append (encode_utf8 c) (encode_utf8_all cs))
