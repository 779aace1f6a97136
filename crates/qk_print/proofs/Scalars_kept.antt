-- The printed text of what a text derives is UTF-8 of scalar values, as that text is.
use Rattle.std.specs.Prelude.{◌≡◌, refl, ℕ, zero, suc, Bool, true, false, ◌&&◌, if◌then◌else◌, ◌==◌, Option, None, List, [], ◌∷◌, ◌++◌, map, codes, IsTrue}
use Rattle.std.proofs.Common.{ap, sym, ◌∙◌, subst}
use Rattle.std.proofs.lemmas.Str.{encodes_same}
use Rattle.std.proofs.Math.Utf8.{scalar}
use Rattle.std.specs.Str.{IsUtf8, all_scalars, encode_utf8_all}
use Rattle.qk_ast.specs.Characters.{Characters, is_front, number_after}
use Rattle.qk_ast.specs.JsxText.{onto_first, lines, untabbed, without_spaces_before, unless_blank, without_spaces_after, later_lines, trimmed, after_space, joined, decoded_after, jsx_text}
use Rattle.qk_ast.specs.Tree.{module_tree}
use Rattle.qk_ast.specs.Tokens.{Token, Piece, Edge, Blank, Written, Tokens, Around, piece_spelling, pieces_spelling, piece_value, opening, closing, spelling, blank_spelling, gap_spelling, written, tokens_of, stands}
use Rattle.qk_ast.specs.declared.Form.TheVariants.{Source}
use Rattle.qk_ast.specs.declared.Module.{Module}
use Rattle.qk_ast.specs.Derives.{Derives}
use Rattle.qk_ast.specs.Grammar.{Module_text}
use Rattle.qk_ast.specs.Spelling.{module_tokens}
use Rattle.qk_ast.proofs.FrontToken.{left, right}
use Rattle.qk_print.specs.Printing.{print_text}
use Rattle.qk_print.proofs.Integers.{written_number}
use Rattle.qk_print.proofs.Weighing.{IsSound, Sound}
use Rattle.qk_print.proofs.Weighed.{module_fits}
use Rattle.qk_print.proofs.Lengths_kept.{Full, AllFull, Well, token_well}

abbrev Scalars : Characters → Type 0
Scalars cs = IsTrue (all_scalars cs)

first : (c : ℕ) (cs : Characters) → Scalars (c ∷ cs) → scalar c ≡ true
first c cs h = left (scalar c) (all_scalars cs) h

rest : (c : ℕ) (cs : Characters) → Scalars (c ∷ cs) → Scalars cs
rest c cs h = right (scalar c) (all_scalars cs) h

both : (c : ℕ) (cs : Characters) → scalar c ≡ true → Scalars cs → Scalars (c ∷ cs)
both c cs h k = subst (λ b. (b && all_scalars cs) ≡ true) (sym h) k

in_front : (cs ds : Characters) → Scalars (cs ++ ds) → Scalars cs
in_front [] ds h = refl
in_front (c ∷ cs) ds h = both c cs (first c (cs ++ ds) h) (in_front cs ds (rest c (cs ++ ds) h))

behind : (cs ds : Characters) → Scalars (cs ++ ds) → Scalars ds
behind [] ds h = h
behind (c ∷ cs) ds h = behind cs ds (rest c (cs ++ ds) h)

append : (cs ds : Characters) → Scalars cs → Scalars ds → Scalars (cs ++ ds)
append [] ds h k = k
append (c ∷ cs) ds h k = both c (cs ++ ds) (first c cs h) (append cs ds (rest c cs h) k)

-- ---- entities

decoded_kept : (n : ℕ) (cs : Characters) → Scalars cs → Scalars (decoded_after n cs)
decoded_kept n [] h = refl
decoded_kept (suc n) (c ∷ cs) h = decoded_kept n cs (rest c cs h)
decoded_kept zero (c ∷ cs) h = choose (is_front (codes "&amp;") (c ∷ cs)) (is_front (codes "&lt;") (c ∷ cs)) (is_front (codes "&gt;") (c ∷ cs)) (is_front (codes "&quot;") (c ∷ cs)) (is_front (codes "&nbsp;") (c ∷ cs)) (λ n. decoded_kept n cs (rest c cs h))
  where
    choose : (p q r s t : Bool) → ((n : ℕ) → Scalars (decoded_after n cs)) → Scalars (if p then 38 ∷ decoded_after 4 cs else (if q then 60 ∷ decoded_after 3 cs else (if r then 62 ∷ decoded_after 3 cs else (if s then 34 ∷ decoded_after 5 cs
        else (if t then 160 ∷ decoded_after 5 cs else c ∷ decoded_after 0 cs)))))
    choose true q r s t k = k 4
    choose false true r s t k = k 3
    choose false false true s t k = k 3
    choose false false false true t k = k 5
    choose false false false false true k = k 5
    choose false false false false false k = both c (decoded_after 0 cs) (first c cs h) (k 0)

-- ---- lines

abbrev Lines : List Characters → Type 0
Lines [] = Unit {0}
Lines (l ∷ ls) = Scalars l × Lines ls

onto_kept : (c : ℕ) (ls : List Characters) → scalar c ≡ true → Lines ls → Lines (onto_first c ls)
onto_kept c [] h k = (both c [] h refl, tt)
onto_kept c (l ∷ ls) h k = (both c l h k.0, k.1)

lines_kept : (cs : Characters) → Scalars cs → Lines (lines cs)
lines_kept [] h = (refl, tt)
lines_kept (c ∷ cs) h = choose (c == 10) ((c == 13) && is_front (10 ∷ []) cs) (lines_kept cs (rest c cs h))
  where
    choose : (p q : Bool) → Lines (lines cs) → Lines (if p then [] ∷ lines cs else (if q then lines cs else onto_first c (lines cs)))
    choose true q k = (refl, k)
    choose false true k = k
    choose false false k = onto_kept c (lines cs) (first c cs h) k

before_kept : (cs : Characters) → Scalars cs → Scalars (without_spaces_before cs)
before_kept [] h = refl
before_kept (c ∷ cs) h = choose (c == 32) (before_kept cs (rest c cs h))
  where
    choose : (p : Bool) → Scalars (without_spaces_before cs) → Scalars (if p then without_spaces_before cs else c ∷ cs)
    choose true k = k
    choose false k = h

unless_kept : (c : ℕ) (cs : Characters) → scalar c ≡ true → Scalars cs → Scalars (unless_blank c cs)
unless_kept c [] h k = choose (c == 32)
  where
    choose : (p : Bool) → Scalars (if p then [] else c ∷ [])
    choose true = refl
    choose false = both c [] h refl
unless_kept c (d ∷ ds) h k = both c (d ∷ ds) h k

after_kept : (cs : Characters) → Scalars cs → Scalars (without_spaces_after cs)
after_kept [] h = refl
after_kept (c ∷ cs) h = unless_kept c (without_spaces_after cs) (first c cs h) (after_kept cs (rest c cs h))

later_kept : (ls : List Characters) → Lines ls → Lines (later_lines ls)
later_kept [] h = tt
later_kept (l ∷ []) h = (before_kept l h.0, tt)
later_kept (l ∷ next ∷ more) h = (after_kept (without_spaces_before l) (before_kept l h.0), later_kept (next ∷ more) h.1)

trimmed_kept : (ls : List Characters) → Lines ls → Lines (trimmed ls)
trimmed_kept [] h = tt
trimmed_kept (l ∷ []) h = h
trimmed_kept (l ∷ next ∷ more) h = (after_kept l h.0, later_kept (next ∷ more) h.1)

space_kept : (cs : Characters) → Scalars cs → Scalars (after_space cs)
space_kept [] h = refl
space_kept (c ∷ cs) h = h

joined_kept : (ls : List Characters) → Lines ls → Scalars (joined ls)
joined_kept [] h = refl
joined_kept ([] ∷ ls) h = joined_kept ls h.1
joined_kept ((c ∷ cs) ∷ ls) h = append (c ∷ cs) (after_space (joined ls)) h.0 (space_kept (joined ls) (joined_kept ls h.1))

untabbed_kept : (cs : Characters) → Scalars cs → Scalars (map untabbed cs)
untabbed_kept [] h = refl
untabbed_kept (c ∷ cs) h = choose (c == 9) (untabbed_kept cs (rest c cs h))
  where
    choose : (p : Bool) → Scalars (map untabbed cs) → Scalars ((if p then 32 else c) ∷ map untabbed cs)
    choose true k = k
    choose false k = both c (map untabbed cs) (first c cs h) k

jsx_kept : (raw : Characters) → Scalars raw → Scalars (jsx_text raw)
jsx_kept raw h = let cs = map untabbed raw in let ls = trimmed (lines cs) in decoded_kept 0 (joined ls) (joined_kept ls (trimmed_kept (lines cs) (lines_kept cs (untabbed_kept raw h))))

-- ---- tokens

piece_sound : (p : Piece) (next : Characters) → Full p → Scalars (piece_spelling p next) → scalar (piece_value p) ≡ true
piece_sound (Piece.Plain c) next f h = first c next h
piece_sound (Piece.Escaped c) next f h = choose (c == 110) (c == 114) (c == 116)
  where
    choose : (p q r : Bool) → scalar (if p then 10 else (if q then 13 else (if r then 9 else c))) ≡ true
    choose true q r = refl
    choose false true r = refl
    choose false false true = refl
    choose false false false = first c next h
piece_sound (Piece.Four digits) next f h = left (scalar (number_after 16 0 digits)) true f.1
piece_sound (Piece.Braced digits) next f h = left (scalar (number_after 16 0 digits)) true f
piece_sound Piece.Return next f h = refl
piece_sound Piece.Return_feed next f h = refl

after_piece : (p : Piece) (next : Characters) → Scalars (piece_spelling p next) → Scalars next
after_piece (Piece.Plain c) next h = rest c next h
after_piece (Piece.Escaped c) next h = rest c next h
after_piece (Piece.Four digits) next h = behind digits next h
after_piece (Piece.Braced digits) next h = behind digits (125 ∷ next) h
after_piece Piece.Return next h = h
after_piece Piece.Return_feed next h = h

pieces_sound : (ps : List Piece) (next : Characters) → AllFull ps → Scalars (pieces_spelling ps next) → Scalars (map piece_value ps)
pieces_sound [] next f h = refl
pieces_sound (p ∷ ps) next f h = both (piece_value p) (map piece_value ps) (piece_sound p (pieces_spelling ps next) f.0 h) (pieces_sound ps next f.1 (after_piece p (pieces_spelling ps next) h))

after_pieces : (ps : List Piece) (next : Characters) → Scalars (pieces_spelling ps next) → Scalars next
after_pieces [] next h = h
after_pieces (p ∷ ps) next h = after_pieces ps next (after_piece p (pieces_spelling ps next) h)

after_opening : (from : Edge) (next : Characters) → Scalars (opening from next) → Scalars next
after_opening Edge.Backquote next h = h
after_opening Edge.Hole next h = h

after_closing : (to : Edge) (next : Characters) → Scalars (closing to next) → Scalars next
after_closing Edge.Backquote next h = h
after_closing Edge.Hole next h = h

token_sound : (t : Token) (next : Characters) → Well t → Scalars (spelling t next) → IsSound t
token_sound (Token.Name a) next w h = in_front a next h
token_sound (Token.Reserved a) next w h = in_front a next h
token_sound (Token.Int digits) next w h = (digits, (in_front digits next h, sym (written_number digits w)))
token_sound (Token.Text quote pieces) next w h = pieces_sound pieces (quote ∷ next) w (rest quote (pieces_spelling pieces (quote ∷ next)) h)
token_sound (Token.Attribute quote text) next w h = decoded_kept 0 text (in_front text (quote ∷ next) (rest quote (text ++ quote ∷ next) h))
token_sound (Token.Template from pieces to) next w h = pieces_sound pieces (closing to next) w (after_opening from (pieces_spelling pieces (closing to next)) h)
token_sound (Token.Punct sign) next w h = tt
token_sound (Token.Begin sign) next w h = tt
token_sound (Token.JsxText text) next w h = jsx_kept text (in_front text next h)

after_token : (t : Token) (next : Characters) → Scalars (spelling t next) → Scalars next
after_token (Token.Name a) next h = behind a next h
after_token (Token.Reserved a) next h = behind a next h
after_token (Token.Int digits) next h = behind digits next h
after_token (Token.Text quote pieces) next h = rest quote next (after_pieces pieces (quote ∷ next) (rest quote (pieces_spelling pieces (quote ∷ next)) h))
after_token (Token.Attribute quote text) next h = rest quote next (behind text (quote ∷ next) (rest quote (text ++ quote ∷ next) h))
after_token (Token.Template from pieces to) next h = after_closing to next (after_pieces pieces (closing to next) (after_opening from (pieces_spelling pieces (closing to next)) h))
after_token (Token.Punct sign) next h = behind sign next h
after_token (Token.Begin sign) next h = behind sign next h
after_token (Token.JsxText text) next h = behind text next h

after_blank : (b : Blank) (next : Characters) → Scalars (blank_spelling b next) → Scalars next
after_blank (Blank.Space c) next h = rest c next h
after_blank (Blank.Line text) next h = behind text next h
after_blank (Blank.Block text) next h = behind text (codes "*/" ++ next) h

after_gap : (gap : List Blank) (next : Characters) → Scalars (gap_spelling gap next) → Scalars next
after_gap [] next h = h
after_gap (b ∷ bs) next h = after_gap bs next (after_blank b (gap_spelling bs next) h)

tokens_sound : (w : Written) (around : Around) (before : Option Token) (next : Characters) → stands around before w next → Scalars (written w next) → Sound (tokens_of w)
tokens_sound (Written.End gap) around before next s h = tt
tokens_sound (Written.Then gap t more) around before next s h = let k = after_gap gap (spelling t (written more next)) h in record {
  here = token_sound t (written more next) (token_well around before t (written more next) s.1) k;
  later = tokens_sound more _ _ next s.2 (after_token t (written more next) k);
}

-- ---- the whole

pub printed_utf8 : (text : Characters) (m : Module_text) → IsTrue (all_scalars text) → Tokens text (module_tokens m) → IsUtf8 (print_text (module_tree m))
printed_utf8 text m h read = (module_fits m).utf8 [] (subst Sound read.read (tokens_sound read.written_as [] None [] read.stand (subst Scalars (sym read.spells) h)))

-- whatever characters spell the printed text are scalar values
pub printed_scalars : (text : Characters) (m : Module_text) → IsTrue (all_scalars text) → Tokens text (module_tokens m) → (cs : Characters) → encode_utf8_all cs ≡ print_text (module_tree m) → IsTrue (all_scalars cs)
printed_scalars text m h read cs e = let u = printed_utf8 text m h read in subst Scalars (sym (encodes_same cs u.0 (e ∙ sym u.1.1))) u.1.0

pub built_scalars : (source : List ℕ) (m : Module) → Derives Source source m → (cs : Characters) → encode_utf8_all cs ≡ print_text m → IsTrue (all_scalars cs)
built_scalars source m d cs e = printed_scalars d.characters d.parse.text d.scalars (subst (Tokens d.characters) (sym d.parse.spells) d.read) cs (e ∙ ap print_text (sym d.parse.means))
