-- The printed text of what a text derives is at most sixteen times as long.
use Rattle.std.specs.Prelude.{◌≡◌, refl, ℕ, zero, suc, ◌+◌, ◌*◌, ◌≤◌, ◌<◌, max, min, Bool, true, false, not, ◌&&◌, if◌then◌else◌, ◌==◌, Option, None, List, [], ◌∷◌, ◌++◌, length, map, codes, IsTrue}
use Rattle.std.proofs.Common.{ap, sym, ◌∙◌, subst, arith}
use Rattle.std.proofs.lemmas.Bool.{false≢true}
use Rattle.std.proofs.lemmas.List.{length-append}
use Rattle.std.proofs.lemmas.Str.{encodes-append, length-encode, len_utf8_bounds, len_utf8_ascii, length-le-encodes}
use Rattle.std.specs.Char.{encode_utf8}
use Rattle.std.specs.Str.{all_scalars}
use Rattle.qk_ast.specs.Characters.{Characters, same, is_one_of, has, every, is_front, is_hex_digit, number_after}
use Rattle.qk_ast.specs.JsxText.{onto_first, lines, untabbed, without_spaces_before, unless_blank, without_spaces_after, later_lines, trimmed, after_space, joined, decoded_after, decoded, jsx_text}
use Rattle.qk_ast.specs.Tree.{bytes, value, module_tree}
use Rattle.qk_ast.specs.Tokens.{Token, Piece, Edge, Blank, Written, Tokens, Around, Braces, In_hole, In_tag, In_end, Children, piece_spelling, pieces_spelling, piece_value, is_escape, is_text_piece, are_text_pieces, is_template_piece, are_template_pieces, opening, closing, spelling, is_int, is_word, is_attribute_name, code_signs, tag_signs, child_signs, begin_signs, reserved_words, is_code_token, is_tag_token, is_end_token, is_child_token, is_token, blank_spelling, gap_spelling, written, tokens_of, stands}
use Rattle.qk_ast.specs.declared.Form.TheVariants.{Source, Built}
use Rattle.qk_ast.specs.declared.Module.{Module}
use Rattle.qk_ast.specs.Derives.{Derives, longest}
use Rattle.qk_ast.specs.Grammar.{Module_text}
use Rattle.qk_ast.specs.Spelling.{module_tokens}
use Rattle.qk_ast.proofs.FrontToken.{left, right}
use Rattle.qk_ast.proofs.OneToken.{sign_is_sign}
use Rattle.qk_ast.proofs.Pieces.{nat_is, four}
use Rattle.qk_print.specs.Printing.{print_text}
use Rattle.qk_print.proofs.Integers.{written_number}
use Rattle.qk_print.proofs.Weighing.{weight, weights}
use Rattle.qk_print.proofs.Weighed.{module_fits}

-- ---- characters

pub width : ℕ → ℕ
width c = length (encode_utf8 c)

-- a text's length in bytes
abbrev pub wide : Characters → ℕ
wide cs = length (bytes cs)

wide_cons : (c : ℕ) (cs : Characters) → wide (c ∷ cs) ≡ width c + wide cs
unfolding width
wide_cons c cs = length-append (encode_utf8 c) (bytes cs)

wide_append : (cs ds : Characters) → wide (cs ++ ds) ≡ wide cs + wide ds
wide_append cs ds = ap length (encodes-append cs ds) ∙ length-append (bytes cs) (bytes ds)

least : (c : ℕ) → 1 ≤ width c
unfolding width
least c = let a = length-encode c in let b = (len_utf8_bounds c).0 in omega (arith, a, b)

most : (c : ℕ) → width c ≤ 4
unfolding width
most c = let a = length-encode c in let b = (len_utf8_bounds c).1 in omega (arith, a, b)

narrow : (c : ℕ) → c < 128 → width c ≡ 1
unfolding width
narrow c h = length-encode c ∙ len_utf8_ascii c h

longer : (cs : Characters) → length cs ≤ wide cs
longer cs = length-le-encodes cs

-- the hard space of an entity
spaced : width 160 ≡ 2
unfolding width encode_utf8
spaced = refl

-- ---- entities

no_end : (c : ℕ) (cs : Characters) → is_front (codes "&nbsp;") (c ∷ cs) ≡ true → 1 ≤ length cs
no_end c [] h = absurd (false≢true (right (38 == c) false h))
no_end c (d ∷ ds) h = omega arith

decoded_short : (n : ℕ) (cs : Characters) → wide (decoded_after n cs) + min n (length cs) ≤ wide cs
decoded_short n [] = omega arith
decoded_short (suc n) (c ∷ cs) = let a = decoded_short n cs in let b = wide_cons c cs in let d = least c in omega (arith, a, b, d)
decoded_short zero (c ∷ cs) = choose (is_front (codes "&amp;") (c ∷ cs)) (is_front (codes "&lt;") (c ∷ cs)) (is_front (codes "&gt;") (c ∷ cs)) (is_front (codes "&quot;") (c ∷ cs)) (is_front (codes "&nbsp;") (c ∷ cs)) (no_end c cs) (λ n. decoded_short n cs)
  where
    single : (d n : ℕ) → d < 128 → wide (decoded_after n cs) + min n (length cs) ≤ wide cs → wide (d ∷ decoded_after n cs) + min 0 (length (c ∷ cs)) ≤ wide (c ∷ cs)
    single d n h a = let b = wide_cons c cs in let e = wide_cons d (decoded_after n cs) in let f = narrow d h in let g = least c in omega (arith, a, b, e, f, g)

    choose : (p q r s t : Bool) → (t ≡ true → 1 ≤ length cs) → ((n : ℕ) → wide (decoded_after n cs) + min n (length cs) ≤ wide cs)
        → wide (if p then 38 ∷ decoded_after 4 cs else (if q then 60 ∷ decoded_after 3 cs else (if r then 62 ∷ decoded_after 3 cs else (if s then 34 ∷ decoded_after 5 cs
        else (if t then 160 ∷ decoded_after 5 cs else c ∷ decoded_after 0 cs))))) + min 0 (length (c ∷ cs)) ≤ wide (c ∷ cs)
    choose true q r s t h k = single 38 4 (omega arith) (k 4)
    choose false true r s t h k = single 60 3 (omega arith) (k 3)
    choose false false true s t h k = single 62 3 (omega arith) (k 3)
    choose false false false true t h k = single 34 5 (omega arith) (k 5)
    choose false false false false true h k = let a = k 5 in let b = wide_cons c cs in let e = wide_cons 160 (decoded_after 5 cs) in let f = spaced in let g = least c in let i = h refl in omega (arith, a, b, e, f, g, i)
    choose false false false false false h k = let a = k 0 in let b = wide_cons c cs in let e = wide_cons c (decoded_after 0 cs) in omega (arith, a, b, e)

decoded_wide : (cs : Characters) → wide (decoded cs) ≤ wide cs
decoded_wide cs = let a = decoded_short 0 cs in omega (arith, a)

-- ---- lines

-- each line with one byte between
abbrev spread : List Characters → ℕ
spread [] = 0
spread (l ∷ ls) = 1 + wide l + spread ls

onto_spread : (c : ℕ) (ls : List Characters) → spread (onto_first c ls) ≤ width c + max 1 (spread ls)
onto_spread c [] = let a = wide_cons c [] in omega (arith, a)
onto_spread c (l ∷ ls) = let a = wide_cons c l in omega (arith, a)

lines_spread : (cs : Characters) → spread (lines cs) ≤ 1 + wide cs
lines_spread [] = omega arith
lines_spread (c ∷ cs) = choose (c == 10) ((c == 13) && is_front (10 ∷ []) cs) (lines_spread cs)
  where
    choose : (p q : Bool) → spread (lines cs) ≤ 1 + wide cs → spread (if p then [] ∷ lines cs else (if q then lines cs else onto_first c (lines cs))) ≤ 1 + wide (c ∷ cs)
    choose true q a = let b = wide_cons c cs in let d = least c in omega (arith, a, b, d)
    choose false true a = let b = wide_cons c cs in omega (arith, a, b)
    choose false false a = let b = wide_cons c cs in let d = onto_spread c (lines cs) in omega (arith, a, b, d)

before_wide : (cs : Characters) → wide (without_spaces_before cs) ≤ wide cs
before_wide [] = omega arith
before_wide (c ∷ cs) = choose (c == 32) (before_wide cs)
  where
    choose : (p : Bool) → wide (without_spaces_before cs) ≤ wide cs → wide (if p then without_spaces_before cs else c ∷ cs) ≤ wide (c ∷ cs)
    choose true a = let b = wide_cons c cs in omega (arith, a, b)
    choose false a = omega arith

unless_wide : (c : ℕ) (cs : Characters) → wide (unless_blank c cs) ≤ width c + wide cs
unless_wide c [] = choose (c == 32)
  where
    choose : (p : Bool) → wide (if p then [] else c ∷ []) ≤ width c + wide []
    choose true = omega arith
    choose false = let a = wide_cons c [] in omega (arith, a)
unless_wide c (d ∷ ds) = let a = wide_cons c (d ∷ ds) in omega (arith, a)

after_wide : (cs : Characters) → wide (without_spaces_after cs) ≤ wide cs
after_wide [] = omega arith
after_wide (c ∷ cs) = let a = after_wide cs in let b = wide_cons c cs in let d = unless_wide c (without_spaces_after cs) in omega (arith, a, b, d)

later_spread : (ls : List Characters) → spread (later_lines ls) ≤ spread ls
later_spread [] = omega arith
later_spread (l ∷ []) = let a = before_wide l in omega (arith, a)
later_spread (l ∷ next ∷ more) = let a = before_wide l in let b = after_wide (without_spaces_before l) in let d = later_spread (next ∷ more) in omega (arith, a, b, d)

trimmed_spread : (ls : List Characters) → spread (trimmed ls) ≤ spread ls
trimmed_spread [] = omega arith
trimmed_spread (l ∷ []) = omega arith
trimmed_spread (l ∷ next ∷ more) = let a = after_wide l in let d = later_spread (next ∷ more) in omega (arith, a, d)

joined_spread : (ls : List Characters) → wide (after_space (joined ls)) ≤ spread ls
joined_spread [] = omega arith
joined_spread ([] ∷ ls) = let a = joined_spread ls in omega (arith, a)
joined_spread ((c ∷ cs) ∷ ls) = let a = joined_spread ls in let b = wide_cons 32 ((c ∷ cs) ++ after_space (joined ls)) in let d = wide_append (c ∷ cs) (after_space (joined ls)) in let e = narrow 32 (omega arith) in omega (arith, a, b, d, e)

space_wide : (cs : Characters) → wide cs + 1 ≤ max 1 (wide (after_space cs))
space_wide [] = omega arith
space_wide (c ∷ cs) = let a = wide_cons 32 (c ∷ cs) in let b = narrow 32 (omega arith) in omega (arith, a, b)

untabbed_width : (c : ℕ) → width (untabbed c) ≤ width c
untabbed_width c = choose (c == 9)
  where
    choose : (p : Bool) → width (if p then 32 else c) ≤ width c
    choose true = let a = narrow 32 (omega arith) in let b = least c in omega (arith, a, b)
    choose false = omega arith

untabbed_wide : (cs : Characters) → wide (map untabbed cs) ≤ wide cs
untabbed_wide [] = omega arith
untabbed_wide (c ∷ cs) = let a = untabbed_wide cs in let b = wide_cons c cs in let d = wide_cons (untabbed c) (map untabbed cs) in let e = untabbed_width c in omega (arith, a, b, d, e)

jsx_wide : (raw : Characters) → wide (jsx_text raw) ≤ wide raw
jsx_wide raw = let ls = lines (map untabbed raw) in let a = untabbed_wide raw in let b = lines_spread (map untabbed raw) in let c = trimmed_spread ls in let d = joined_spread (trimmed ls) in
    let e = space_wide (joined (trimmed ls)) in let f = decoded_wide (joined (trimmed ls)) in omega (arith, a, b, c, d, e, f)

-- ---- what is known of tokens that stand

-- an escape is long enough for a character, which no surrogate is
abbrev pub Full : Piece → Type 0
Full (Piece.Four digits) = (length digits ≡ 4) × IsTrue (all_scalars (number_after 16 0 digits ∷ []))
Full (Piece.Braced digits) = IsTrue (all_scalars (number_after 16 0 digits ∷ []))
Full _ = Unit {0}

abbrev pub AllFull : List Piece → Type 0
AllFull [] = Unit {0}
AllFull (p ∷ ps) = Full p × AllFull ps

abbrev pub Well : Token → Type 0
Well (Token.Name a) = 1 ≤ length a
Well (Token.Reserved a) = 1 ≤ length a
Well (Token.Int digits) = IsTrue (is_int digits)
Well (Token.Text quote pieces) = AllFull pieces
Well (Token.Attribute quote text) = Unit {0}
Well (Token.Template from pieces to) = AllFull pieces
Well (Token.Punct sign) = 1 ≤ length sign
Well (Token.Begin sign) = 1 ≤ length sign
Well (Token.JsxText text) = 1 ≤ length text

escape_full : (p : Piece) → is_escape p ≡ true → Full p
escape_full (Piece.Plain c) h = tt
escape_full (Piece.Escaped c) h = tt
escape_full (Piece.Four digits) h = (nat_is _ _ (four digits h), right (length digits == 4 && every is_hex_digit digits) _ h)
escape_full (Piece.Braced digits) h = right (not (length digits == 0) && every is_hex_digit digits) _ h
escape_full Piece.Return h = tt
escape_full Piece.Return_feed h = tt

text_full : (quote : ℕ) (ps : List Piece) → are_text_pieces quote ps ≡ true → AllFull ps
text_full quote [] h = tt
text_full quote (p ∷ ps) h = (one p (left (is_text_piece quote p) _ h), text_full quote ps (right (is_text_piece quote p) _ h))
  where
    one : (q : Piece) → is_text_piece quote q ≡ true → Full q
    one (Piece.Plain c) k = tt
    one q k = escape_full q k

template_full : (ps : List Piece) (next : Characters) → are_template_pieces ps next ≡ true → AllFull ps
template_full [] next h = tt
template_full (p ∷ ps) next h = (one p (left (is_template_piece p (pieces_spelling ps next)) _ h), template_full ps next (right (is_template_piece p (pieces_spelling ps next)) _ h))
  where
    one : (q : Piece) → is_template_piece q (pieces_spelling ps next) ≡ true → Full q
    one (Piece.Plain c) k = tt
    one Piece.Return k = tt
    one Piece.Return_feed k = tt
    one q k = escape_full q k

-- what no empty text passes
some : (passes : Characters → Bool) (a : Characters) → passes [] ≡ false → passes a ≡ true → 1 ≤ length a
some passes [] e h = absurd (false≢true (sym e ∙ h))
some passes (c ∷ cs) e h = omega arith

code_well : (around : Around) (before : Option Token) (t : Token) (next : Characters) → is_code_token around before t next → Well t
code_well around before (Token.Name a) next h = some is_word a refl h.0
code_well around before (Token.Reserved a) next h = some (λ b. is_one_of b reserved_words) a refl h.0
code_well around before (Token.Int digits) next h = h.0
code_well around before (Token.Text quote pieces) next h = text_full quote pieces h.1
code_well around before (Token.Template Edge.Backquote pieces to) next h = template_full pieces (closing to next) h
code_well around before (Token.Template Edge.Hole pieces to) next h = template_full pieces (closing to next) h.1
code_well around before (Token.Punct sign) next h = some (λ b. is_one_of b code_signs) sign refl (left (is_one_of sign code_signs) _ (sign_is_sign before sign next h.1))
code_well around before (Token.Begin sign) next h = some (λ b. is_one_of b begin_signs) sign refl (left (is_one_of sign begin_signs) _ h.1)
code_well around before (Token.Attribute quote text) next h = tt
code_well around before (Token.JsxText text) next h = absurd h

tag_well : (t : Token) (next : Characters) → is_tag_token t next → Well t
tag_well (Token.Name a) next h = some (λ b. is_attribute_name b next) a refl h
tag_well (Token.Attribute quote text) next h = tt
tag_well (Token.Punct sign) next h = some (λ b. is_one_of b tag_signs) sign refl (left (is_one_of sign tag_signs) _ h)
tag_well t next h = absurd h

end_well : (t : Token) (next : Characters) → is_end_token t next → Well t
end_well (Token.Name a) next h = some (λ b. is_attribute_name b next) a refl h
end_well (Token.Punct sign) next h = some (λ b. same b (codes ">")) sign refl h
end_well t next h = absurd h

child_well : (t : Token) (next : Characters) → is_child_token t next → Well t
child_well (Token.JsxText text) next h = some (λ b. not (length b == 0)) text refl (left (not (length text == 0)) _ (left (not (length text == 0) && every (λ c. not (has c (codes "{<>}"))) text) _ h))
child_well (Token.Punct sign) next h = some (λ b. is_one_of b child_signs) sign refl (left (is_one_of sign child_signs) _ h)
child_well (Token.Begin sign) next h = some (λ b. is_one_of b begin_signs) sign refl (left (is_one_of sign begin_signs) _ h.0)
child_well t next h = absurd h

pub token_well : (around : Around) (before : Option Token) (t : Token) (next : Characters) → is_token around before t next → Well t
token_well [] before t next h = code_well [] before t next h
token_well (Braces ∷ around) before t next h = code_well (Braces ∷ around) before t next h
token_well (In_hole ∷ around) before t next h = code_well (In_hole ∷ around) before t next h
token_well (In_tag ∷ around) before t next h = tag_well t next h
token_well (In_end ∷ around) before t next h = end_well t next h
token_well (Children ∷ around) before t next h = child_well t next h

-- ---- what tokens weigh

piece_wide : (p : Piece) (next : Characters) → Full p → width (piece_value p) + wide next ≤ wide (piece_spelling p next)
piece_wide (Piece.Plain c) next f = let a = wide_cons c next in omega (arith, a)
piece_wide (Piece.Escaped c) next f = let a = wide_cons 92 (c ∷ next) in let b = wide_cons c next in let d = least 92 in let e = choose (c == 110) (c == 114) (c == 116) in omega (arith, a, b, d, e)
  where
    choose : (p q r : Bool) → width (if p then 10 else (if q then 13 else (if r then 9 else c))) ≤ width c
    choose true q r = let a = narrow 10 (omega arith) in let b = least c in omega (arith, a, b)
    choose false true r = let a = narrow 13 (omega arith) in let b = least c in omega (arith, a, b)
    choose false false true = let a = narrow 9 (omega arith) in let b = least c in omega (arith, a, b)
    choose false false false = omega arith
piece_wide (Piece.Four digits) next f = let a = wide_append (codes "\\u") (digits ++ next) in let b = wide_append digits next in let d = longer digits in let e = most (number_after 16 0 digits) in let g = f.0 in omega (arith, a, b, d, e, g)
piece_wide (Piece.Braced digits) next f = let a = wide_append (codes "\\u{") (digits ++ 125 ∷ next) in let b = wide_append digits (125 ∷ next) in let d = longer (codes "\\u{") in let e = most (number_after 16 0 digits) in let g = wide_cons 125 next in let h = least 125 in
    omega (arith, a, b, d, e, g, h)
piece_wide Piece.Return next f = let a = wide_cons 13 next in let b = narrow 10 (omega arith) in let d = least 13 in omega (arith, a, b, d)
piece_wide Piece.Return_feed next f = let a = wide_cons 13 (10 ∷ next) in let b = narrow 10 (omega arith) in let d = least 13 in let e = wide_cons 10 next in omega (arith, a, b, d, e)

pieces_wide : (ps : List Piece) (next : Characters) → AllFull ps → length (value ps) + wide next ≤ wide (pieces_spelling ps next)
pieces_wide [] next f = omega arith
pieces_wide (p ∷ ps) next f = let a = piece_wide p (pieces_spelling ps next) f.0 in let b = pieces_wide ps next f.1 in let c = wide_cons (piece_value p) (map piece_value ps) in omega (arith, a, b, c)

closing_wide : (to : Edge) (next : Characters) → 1 + wide next ≤ wide (closing to next)
closing_wide Edge.Backquote next = let a = wide_cons 96 next in let b = least 96 in omega (arith, a, b)
closing_wide Edge.Hole next = let a = wide_cons 36 (123 ∷ next) in let b = wide_cons 123 next in let c = least 36 in omega (arith, a, b, c)

opening_wide : (from : Edge) (next : Characters) → 1 + wide next ≤ wide (opening from next)
opening_wide Edge.Backquote next = let a = wide_cons 96 next in let b = least 96 in omega (arith, a, b)
opening_wide Edge.Hole next = let a = wide_cons 125 next in let b = least 125 in omega (arith, a, b)

token_wide : (t : Token) (next : Characters) → Well t → weight t + wide next ≤ wide (spelling t next)
token_wide (Token.Name a) next h = let b = wide_append a next in let c = longer a in omega (arith, b, c, h)
token_wide (Token.Reserved a) next h = let b = wide_append a next in let c = longer a in omega (arith, b, c, h)
token_wide (Token.Int digits) next h = let b = wide_append digits next in let c = ap length (written_number digits h) in let d = longer digits in let e = some is_int digits refl h in omega (arith, b, c, d, e)
token_wide (Token.Text quote pieces) next h = let a = pieces_wide pieces (quote ∷ next) h in let b = wide_cons quote (pieces_spelling pieces (quote ∷ next)) in let c = wide_cons quote next in let d = least quote in omega (arith, a, b, c, d)
token_wide (Token.Attribute quote text) next h = let a = wide_append text (quote ∷ next) in let b = wide_cons quote (text ++ quote ∷ next) in let c = wide_cons quote next in let d = least quote in let e = decoded_wide text in omega (arith, a, b, c, d, e)
token_wide (Token.Template from pieces to) next h = let a = pieces_wide pieces (closing to next) h in let b = opening_wide from (pieces_spelling pieces (closing to next)) in let c = closing_wide to next in omega (arith, a, b, c)
token_wide (Token.Punct sign) next h = let b = wide_append sign next in let c = longer sign in omega (arith, b, c, h)
token_wide (Token.Begin sign) next h = let b = wide_append sign next in let c = longer sign in omega (arith, b, c, h)
token_wide (Token.JsxText text) next h = let b = wide_append text next in let c = longer text in let d = jsx_wide text in omega (arith, b, c, d, h)

blank_wide : (b : Blank) (next : Characters) → wide next ≤ wide (blank_spelling b next)
blank_wide (Blank.Space c) next = let a = wide_cons c next in omega (arith, a)
blank_wide (Blank.Line text) next = let a = wide_append (codes "//") (text ++ next) in let b = wide_append text next in omega (arith, a, b)
blank_wide (Blank.Block text) next = let a = wide_append (codes "/*") (text ++ (codes "*/" ++ next)) in let b = wide_append text (codes "*/" ++ next) in let c = wide_append (codes "*/") next in omega (arith, a, b, c)

gap_wide : (gap : List Blank) (next : Characters) → wide next ≤ wide (gap_spelling gap next)
gap_wide [] next = omega arith
gap_wide (b ∷ bs) next = let a = gap_wide bs next in let c = blank_wide b (gap_spelling bs next) in omega (arith, a, c)

weights_wide : (w : Written) (around : Around) (before : Option Token) (next : Characters) → stands around before w next → weights (tokens_of w) ≤ wide (written w next)
weights_wide (Written.End gap) around before next h = omega arith
weights_wide (Written.Then gap t more) around before next h = let a = weights_wide more _ _ next h.2 in let b = token_wide t (written more next) (token_well around before t _ h.1) in let c = gap_wide gap (spelling t (written more next)) in omega (arith, a, b, c)

-- ---- the whole

pub printed_short : (text : Characters) (m : Module_text) → Tokens text (module_tokens m) → length (print_text (module_tree m)) ≤ 16 * length (bytes text)
printed_short text m read = let a = (module_fits m).weighs [] in let b = weights_wide read.written_as [] None [] read.stand in let c = ap weights read.read in let d = ap wide read.spells in bound _ _ _ _ _ a b c d
  where
    bound : (l v w x y : ℕ) → l + 0 + 16 * 0 ≤ 16 * v → w ≤ x → w ≡ v → x ≡ y → l ≤ 16 * y
    bound l v w x y a b c d = omega (arith, a, b, c, d)

-- so that it is no longer than built files may be
pub built_short : (source : List ℕ) (m : Module) → Derives Source source m → length (print_text m) ≤ longest Built
built_short source m d = let a = printed_short d.characters d.parse.text (subst (Tokens d.characters) (sym d.parse.spells) d.read) in let b = ap (λ n. length (print_text n)) d.parse.means in let c = ap length d.encoded in let e = d.short in
    bound _ _ _ _ a b c e
  where
    bound : (l k x y : ℕ) → l ≤ 16 * x → l ≡ k → x ≡ y → y ≤ 1048576 → k ≤ 16777216
    bound l k x y a b c e = omega (arith, a, b, c, e)
