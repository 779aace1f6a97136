-- From single tokens to the tokens of a text.
use Rattle.std.specs.Prelude.{◌≡◌, refl, ℕ, ◌+◌, ◌-◌, ◌≤◌, Bool, true, false, ◌||◌, ◌==◌, List, [], ◌∷◌, ◌++◌, length, chars, Option, Some, None, IsTrue}
use Rattle.std.specs.Str.{encode_utf8_all, IsUtf8}
use mathlib.Core.Path.{sym, ◌∙◌, ap, subst}
use mathlib.Core.Logic.{inl, inr}
use native.Mathlib.Omega.{arith}
use Rattle.std.proofs.Common.{length-append, append_assoc}
use Rattle.std.proofs.lemmas.Bool.{false≢true}
use Rattle.std.proofs.lemmas.Str.{chars-nil, encodes-append, encodes-chars}
use Rattle.qk_ast.specs.Characters.{Characters, is_blank, after_run}
use Rattle.qk_ast.specs.Tokens.{Token, Name, Reserved, Int, Text, Attribute, Template, Punct, Begin, JsxText, Backquote, Hole, Piece, Plain, Escaped, Four, Braced, Return, Return_feed, piece_spelling, pieces_spelling, opening, closing, Edge, spelling, Blank, Space, Line, Block, blank_spelling, gap_spelling, is_blank_of, are_blanks, is_gap, Around, Braces, In_hole, In_tag, In_end, Children, after, is_token, is_child_token, Written, End, Then, written, tokens_of, stands, Tokens, allows_jsx}
use Rattle.qk_ast.specs.Faults.{LexicalAt, NothingBegins, around_after, last_of}
use Rattle.qk_ast.proofs.FrontToken.{left, right, either}
use Rattle.qk_ast.proofs.OneTagToken.{begins_gap, blank_begins, blank_one}
use Rattle.qk_ast.proofs.OneTokenList.{is_text, Starts, starts, starts_end, something, token_one, gap_before, no_length}
use Rattle.qk_lex.specs.declared.Token.{Token as Placed_token}
use Rattle.qk_lex.specs.declared.Kind.{Kind}
use Rattle.qk_lex.specs.declared.Kind.TheVariants as kind
use Rattle.qk_lex.specs.Gaps.{NoBlank, Gap}
use Rattle.qk_lex.specs.Regions.{changed, innermost, gaps_in}
use Rattle.qk_lex.specs.Steps.{Next, plain, kind_of, is_jsx, Begins, Steps}
use Rattle.qk_lex.specs.Reading.{size, placed, TokensAt, GapIn, NoBlankIn, Reads, StopsIn}
use Rattle.qk_lex.proofs.Choices.{same_number}
use Rattle.qk_lex.proofs.TagSteps.{text_steps}

-- ---- what is spelled before a rest

abbrev Before : (Characters → Characters) → Type 0
Before f = (next : Characters) → f next ≡ f [] ++ next

word_before : (w next : Characters) → w ++ next ≡ (w ++ []) ++ next
word_before [] next = refl
word_before (c ∷ cs) next = ap (λ t. c ∷ t) (word_before cs next)

then_before : (f g : Characters → Characters) → Before f → Before g → Before (λ n. f (g n))
then_before f g a b next = a (g next) ∙ (ap (λ t. f [] ++ t) (b next) ∙ (sym (append_assoc (f []) (g []) next) ∙ ap (λ t. t ++ next) (sym (a (g [])))))

cons_before : (c : ℕ) (f : Characters → Characters) → Before f → Before (λ n. c ∷ f n)
cons_before c f a next = ap (λ t. c ∷ t) (a next)

same_before : Before (λ n. n)
same_before next = refl

words_before : (w : Characters) (f : Characters → Characters) → Before f → Before (λ n. w ++ f n)
words_before w f a = then_before (λ n. w ++ n) f (word_before w) a

blank_before : (b : Blank) → Before (blank_spelling b)
blank_before (Space c) next = refl
blank_before (Line text) next = ap (λ t. 47 ∷ 47 ∷ t) (word_before text next)
blank_before (Block text) next = ap (λ t. 47 ∷ 42 ∷ t) (words_before text (λ n. 42 ∷ 47 ∷ n) (λ n. refl) next)

gap_is_before : (gap : List Blank) → Before (gap_spelling gap)
gap_is_before [] next = refl
gap_is_before (b ∷ bs) next = then_before (blank_spelling b) (gap_spelling bs) (blank_before b) (gap_is_before bs) next

piece_before : (p : Piece) → Before (piece_spelling p)
piece_before (Plain c) next = refl
piece_before (Escaped c) next = refl
piece_before (Four digits) next = ap (λ t. 92 ∷ 117 ∷ t) (word_before digits next)
piece_before (Braced digits) next = ap (λ t. 92 ∷ 117 ∷ 123 ∷ t) (words_before digits (λ n. 125 ∷ n) (λ n. refl) next)
piece_before Return next = refl
piece_before Return_feed next = refl

pieces_before : (ps : List Piece) → Before (pieces_spelling ps)
pieces_before [] next = refl
pieces_before (p ∷ ps) next = then_before (piece_spelling p) (pieces_spelling ps) (piece_before p) (pieces_before ps) next

closing_before : (to : Edge) → Before (closing to)
closing_before Backquote next = refl
closing_before Hole next = refl

opening_before : (from : Edge) → Before (opening from)
opening_before Backquote next = refl
opening_before Hole next = refl

spelling_before : (t : Token) → Before (spelling t)
spelling_before (Name word) = word_before word
spelling_before (Reserved word) = word_before word
spelling_before (Int digits) = word_before digits
spelling_before (Text quote pieces) = cons_before quote (λ n. pieces_spelling pieces (quote ∷ n)) (then_before (pieces_spelling pieces) (λ n. quote ∷ n) (pieces_before pieces) (λ n. refl))
spelling_before (Attribute quote inside) = cons_before quote (λ n. inside ++ quote ∷ n) (words_before inside (λ n. quote ∷ n) (λ n. refl))
spelling_before (Template from pieces to) = then_before (opening from) (λ n. pieces_spelling pieces (closing to n)) (opening_before from) (then_before (pieces_spelling pieces) (closing to) (pieces_before pieces) (closing_before to))
spelling_before (Punct sign) = word_before sign
spelling_before (Begin sign) = word_before sign
spelling_before (JsxText text) = word_before text

-- ---- bytes

size_append : (a b : Characters) → size (a ++ b) ≡ size a + size b
size_append a b = ap length (encodes-append a b) ∙ length-append (encode_utf8_all a) (encode_utf8_all b)

size_before : (f : Characters → Characters) (rest text : Characters) → Before f → f rest ≡ text → size text ≡ size (f []) + size rest
size_before f rest text a e = ap (λ t. size t) (sym e ∙ a rest) ∙ size_append (f []) rest

pub size_chars : (bytes : List ℕ) → IsUtf8 bytes → size (chars bytes) ≡ length bytes
size_chars bytes u = ap length (encodes-chars bytes u)

-- ---- gaps

pub gap_in : (around : Around) (text rest : Characters) → gaps_in (innermost around) ≡ true → Gap text rest → GapIn around text rest × NoBlankIn around rest
gap_in [] text rest h g = (record { gap = g.gap; spells = g.spells; is = g.blanks }, g.ends)
gap_in (Braces ∷ around) text rest h g = (record { gap = g.gap; spells = g.spells; is = g.blanks }, g.ends)
gap_in (In_hole ∷ around) text rest h g = (record { gap = g.gap; spells = g.spells; is = g.blanks }, g.ends)
gap_in (In_tag ∷ around) text rest h g = (record { gap = g.gap; spells = g.spells; is = g.blanks }, g.ends)
gap_in (In_end ∷ around) text rest h g = (record { gap = g.gap; spells = g.spells; is = g.blanks }, g.ends)
gap_in (Children ∷ around) text rest h g = absurd (false≢true h)

pub no_gap_in : (around : Around) (text : Characters) → gaps_in (innermost around) ≡ false → GapIn around text text × NoBlankIn around text
no_gap_in [] text h = absurd (false≢true (sym h))
no_gap_in (Braces ∷ around) text h = absurd (false≢true (sym h))
no_gap_in (In_hole ∷ around) text h = absurd (false≢true (sym h))
no_gap_in (In_tag ∷ around) text h = absurd (false≢true (sym h))
no_gap_in (In_end ∷ around) text h = absurd (false≢true (sym h))
no_gap_in (Children ∷ around) text h = (record { gap = []; spells = refl; is = refl }, tt)

-- ---- one token more

token_placed : (k k' : Kind) (j j' : Bool) (s s' e e' : ℕ) (more more' : List Placed_token) → k ≡ k' → j ≡ j' → s ≡ s' → e ≡ e' → more ≡ more'
    → record { kind = k; jsx = j; start = s; end = e } ∷ more ≡ record { kind = k'; jsx = j'; start = s'; end = e' } ∷ more'
token_placed k k' j j' s s' e e' more more' a x b c d =
    ap (λ (y : Kind). record { kind = y; jsx = j; start = s; end = e } ∷ more) a ∙ (ap (λ (y : Bool). record { kind = k'; jsx = y; start = s; end = e } ∷ more) x
    ∙ (ap (λ (y : ℕ). record { kind = k'; jsx = j'; start = y; end = e } ∷ more) b ∙ (ap (λ (y : ℕ). record { kind = k'; jsx = j'; start = s'; end = y } ∷ more) c
    ∙ ap (λ (y : List Placed_token). record { kind = k'; jsx = j'; start = s'; end = e' } ∷ y) d)))

pub reads_more : (total : ℕ) (around : Around) (opens : Bool) (text front : Characters) (next : Next) (found : List Placed_token) (start end : ℕ) → GapIn around text front
    → Begins (is_token around) around opens front next → size text ≤ total → start ≡ total - size front → end ≡ total - size next.rest
    → Reads total (changed next.change around) next.opens next.rest found → Reads total around opens text (record { kind = next.kind; jsx = next.jsx; start = start; end = end } ∷ found)
reads_more total around opens text front next found start end g b l s e r = record {
  reads = λ before ob.
      let x = r.reads (Some b.token) b.opens_next in
      let rest_is : written x.0 [] ≡ next.rest = x.1 in
      let front_is : spelling b.token (written x.0 []) ≡ front = ap (spelling b.token) rest_is ∙ b.spells in
      let text_size : size text ≡ size (gap_spelling g.gap []) + size front = size_before (gap_spelling g.gap) front text (gap_is_before g.gap) g.spells in
      let front_size : size front ≡ size (spelling b.token []) + size next.rest = size_before (spelling b.token) next.rest front (spelling_before b.token) b.spells in
      let at_start : total - size text + size (gap_spelling g.gap []) ≡ start = starts_at total (size text) (size (gap_spelling g.gap [])) (size front) start text_size l s in
      let at_end : total - size text + size (gap_spelling g.gap []) + size (spelling b.token []) ≡ end =
      ends_at total (size text) (size (gap_spelling g.gap [])) (size front) (size (spelling b.token [])) (size next.rest) end text_size front_size l e in (
        Then g.gap b.token x.0,
        ap (gap_spelling g.gap) front_is ∙ g.spells,
        (
          subst (λ t. IsTrue (is_gap around g.gap t)) (sym front_is) g.is,
          subst (λ t. is_token around before b.token t) (sym rest_is) (b.stands before ob),
          subst (λ a. stands a (Some b.token) x.0 []) (sym b.leads) x.2,
        ),
        token_placed (kind_of b.token) next.kind (is_jsx b.token) next.jsx _ start _ end _ found b.has_kind b.has_jsx at_start at_end (ap (λ n. placed n x.0) (at_end ∙ e) ∙ x.3),
      );
}
  where
    starts_at : (total text gap front start : ℕ) → text ≡ gap + front → text ≤ total → start ≡ total - front → total - text + gap ≡ start
    starts_at total text gap front start a b c = omega (arith, a, b, c)

    ends_at : (total text gap front token rest end : ℕ) → text ≡ gap + front → front ≡ token + rest → text ≤ total → end ≡ total - rest → total - text + gap + token ≡ end
    ends_at total text gap front token rest end a b c d = omega (arith, a, b, c, d)

pub stops_more : (total : ℕ) (around : Around) (opens : Bool) (text front : Characters) (next : Next) (at : ℕ) → GapIn around text front → Begins (is_token around) around opens front next
    → StopsIn total (changed next.change around) next.opens next.rest at → StopsIn total around opens text at
stops_more total around opens text front next at g b r = record {
  stops = λ before ob.
      let x = r.stops (Some b.token) b.opens_next in
      let rest_is : written x.0 x.1 ≡ next.rest = x.2 in
      let front_is : spelling b.token (written x.0 x.1) ≡ front = ap (spelling b.token) rest_is ∙ b.spells in (
        Then g.gap b.token x.0,
        x.1,
        ap (gap_spelling g.gap) front_is ∙ g.spells,
        (
          subst (λ t. IsTrue (is_gap around g.gap t)) (sym front_is) g.is,
          subst (λ t. is_token around before b.token t) (sym rest_is) (b.stands before ob),
          subst (λ a. stands a (Some b.token) x.0 x.1) (sym b.leads) x.3,
        ),
        x.4,
        subst (λ a. NothingBegins (around_after a x.0) (last_of (Some b.token) x.0) x.1) (sym b.leads) x.5,
        x.6,
      );
}

-- ---- the end, and where it stops

pub reads_end : (total : ℕ) (around : Around) (opens : Bool) (text front : Characters) → GapIn around text front → front ≡ [] → Reads total around opens text []
reads_end total around opens text front g e = record {
  reads = λ before ob. (
    End g.gap,
    ap (gap_spelling g.gap) (sym e) ∙ g.spells,
    subst (λ t. IsTrue (is_gap around g.gap t)) e g.is,
    refl,
  );
}

text_begins : (around : Around) (opens : Bool) (text : Characters) (c : ℕ) (more : Characters) → Steps (is_token (Children ∷ around)) (Children ∷ around) opens text None → (before : Option Token) → allows_jsx before ≡ opens
    → c ∷ more ≡ text → is_text c ≡ true → ⊥
text_begins around opens text c more none before ob e k =
    let b : Begins (λ _ t rest. is_child_token t rest) (Children ∷ around) opens text (plain kind.JsxText (after_run is_text more)) = text_steps around opens text c more (after_run is_text more) (plain kind.JsxText (after_run is_text more)) (sym e) k refl refl in
    none before ob b.token (after_run is_text more) (b.stands before ob) b.spells

blank_text : (c : ℕ) → is_blank c ≡ true → is_text c ≡ true
blank_text c h = elim (either ((c == 32) || (c == 9) || (c == 10)) (c == 13) h) [
  | inl s ↦ elim (either ((c == 32) || (c == 9)) (c == 10) s) [
    | inl t ↦ elim (either (c == 32) (c == 9) t) [ inl u ↦ at 32 u refl | inr u ↦ at 9 u refl ]
    | inr t ↦ at 10 t refl
  ]
  | inr s ↦ at 13 s refl
]
  where
    at : (d : ℕ) → (c == d) ≡ true → is_text d ≡ true → is_text c ≡ true
    at d e k = ap is_text (same_number c d e) ∙ k

-- between tags a blank is text
blank_is_text : (around : Around) (opens : Bool) (text : Characters) → Steps (is_token (Children ∷ around)) (Children ∷ around) opens text None → (before : Option Token) → allows_jsx before ≡ opens → NoBlank text
blank_is_text around opens text none before ob (Space c) next e h = text_begins around opens text c next none before ob e (blank_text c h)
blank_is_text around opens text none before ob (Line t) next e h = text_begins around opens text 47 (47 ∷ (t ++ next)) none before ob e refl
blank_is_text around opens text none before ob (Block t) next e h = text_begins around opens text 47 (42 ∷ (t ++ (42 ∷ 47 ∷ next))) none before ob e refl

no_blank : (around : Around) (opens : Bool) (front : Characters) → NoBlankIn around front → Steps (is_token around) around opens front None → (before : Option Token) → allows_jsx before ≡ opens → NoBlank front
no_blank [] opens front h none before ob = h
no_blank (Braces ∷ around) opens front h none before ob = h
no_blank (In_hole ∷ around) opens front h none before ob = h
no_blank (In_tag ∷ around) opens front h none before ob = h
no_blank (In_end ∷ around) opens front h none before ob = h
no_blank (Children ∷ around) opens front h none before ob = blank_is_text around opens front none before ob

pub stops_here : (total : ℕ) (around : Around) (opens : Bool) (text front : Characters) (at : ℕ) → GapIn around text front → NoBlankIn around front → (length front ≡ 0 → ⊥)
    → Steps (is_token around) around opens front None → at + size front ≡ total → StopsIn total around opens text at
stops_here total around opens text front at g h some none place = record {
  stops = λ before ob. (
    End g.gap,
    front,
    g.spells,
    g.is,
    some,
    record { token = λ t next e k. none before ob t next k e; blank = no_blank around opens front h none before ob },
    place,
  );
}

-- ---- the whole text

nothing_less : (n : ℕ) → n - n ≡ 0
nothing_less n = omega arith

pub reads_all : (text : Characters) (found : List Placed_token) (total : ℕ) → total ≡ size text → Reads total [] false text found → TokensAt text found
reads_all text found total e r =
    let x = r.reads None refl in
    (tokens_of x.0, record { written_as = x.0; spells = x.1; stand = x.2; read = refl }, ap (λ n. placed n x.0) (sym (ap (λ t. t - size text) e ∙ nothing_less (size text))) ∙ x.3)

pub lexical_at : (text : Characters) (at total : ℕ) → total ≡ size text → StopsIn total [] false text at → LexicalAt text at
lexical_at text at total e r =
    let x = r.stops None refl in
    record { front = x.0; rest = x.1; spells = x.2; stand = x.3; left = x.4; stuck = x.5; place = x.6 ∙ e }

-- a gap before a place where nothing begins is all that stands before it
gap_stuck : (xs bs : List Blank) (rest next : Characters) → are_blanks xs rest ≡ true → are_blanks bs next ≡ true → NoBlank rest → begins_gap next ≡ false → gap_spelling xs rest ≡ gap_spelling bs next → rest ≡ next
gap_stuck [] [] rest next h k n m e = e
gap_stuck [] (b ∷ bs) rest next h k n m e = absurd (n b (gap_spelling bs next) (sym e) (left (is_blank_of b (gap_spelling bs next)) _ k))
gap_stuck (a ∷ xs) [] rest next h k n m e = absurd (false≢true (sym m ∙ (ap begins_gap (sym e) ∙ blank_begins a (gap_spelling xs rest) (left (is_blank_of a (gap_spelling xs rest)) _ h))))
gap_stuck (a ∷ xs) (b ∷ bs) rest next h k n m e =
    let here = blank_one a b (gap_spelling xs rest) (gap_spelling bs next) (left (is_blank_of a (gap_spelling xs rest)) _ h) (left (is_blank_of b (gap_spelling bs next)) _ k) e in
    gap_stuck xs bs rest next (right (is_blank_of a (gap_spelling xs rest)) _ h) (right (is_blank_of b (gap_spelling bs next)) _ k) n m here.1

stuck_before : (around : Around) (gap gap' : List Blank) (rest text : Characters) → IsTrue (is_gap around gap rest) → IsTrue (is_gap around gap' text) → NoBlank rest → Starts around text
    → gap_spelling gap rest ≡ gap_spelling gap' text → rest ≡ text
stuck_before [] gap gap' rest text h k n m e = gap_stuck gap gap' rest text h k n m e
stuck_before (Braces ∷ around) gap gap' rest text h k n m e = gap_stuck gap gap' rest text h k n m e
stuck_before (In_hole ∷ around) gap gap' rest text h k n m e = gap_stuck gap gap' rest text h k n m e
stuck_before (In_tag ∷ around) gap gap' rest text h k n m e = gap_stuck gap gap' rest text h k n m e
stuck_before (In_end ∷ around) gap gap' rest text h k n m e = gap_stuck gap gap' rest text h k n m e
stuck_before (Children ∷ around) [] [] rest text h k n m e = e
stuck_before (Children ∷ around) (x ∷ gap) gap' rest text h k n m e = absurd (no_length x gap h)
stuck_before (Children ∷ around) [] (x ∷ gap') rest text h k n m e = absurd (no_length x gap' k)

-- a text that stops somewhere has no token list
no_list : (front w : Written) (around : Around) (before : Option Token) (rest : Characters) → stands around before front rest → stands around before w [] → (length rest ≡ 0 → ⊥)
    → NothingBegins (around_after around front) (last_of before front) rest → written front rest ≡ written w [] → ⊥
no_list (End gap) (End gap') around before rest h k some stuck e = some (ap length (stuck_before around gap gap' rest [] h k stuck.blank (starts_end around) e))
no_list (End gap) (Then gap' t more) around before rest h k some stuck e =
    stuck.token t (written more []) (sym (stuck_before around gap gap' rest (spelling t (written more [])) h k.0 stuck.blank (starts around before t (written more []) k.1) e)) k.1
no_list (Then gap t front) (End gap') around before rest h k some stuck e =
    something around before t (written front rest) h.1 (gap_before around gap' gap [] (spelling t (written front rest)) k h.0 (starts_end around) (starts around before t (written front rest) h.1) (sym e))
no_list (Then gap t front) (Then gap' u more) around before rest h k some stuck e =
    let after_gap = gap_before around gap gap' (spelling t (written front rest)) (spelling u (written more [])) h.0 k.0
    (starts around before t (written front rest) h.1) (starts around before u (written more []) k.1) e in
    let both = token_one around before t u (written front rest) (written more []) h.1 k.1 after_gap in
    no_list front more (after around t) (Some t) rest h.2 (subst (λ x. stands (after around x) (Some x) more []) (sym both.0) k.2) some stuck both.1

pub lexical_has_none : (text : Characters) (at : ℕ) → LexicalAt text at → (list : List Token) → Tokens text list → ⊥
lexical_has_none text at l list t = no_list l.front t.written_as [] None l.rest l.stand t.stand l.left l.stuck (l.spells ∙ sym t.spells)

-- ---- what the loop over the tokens keeps

-- what is found, after what was found, is what the whole text has
abbrev pub ReadsOn : ℕ → Around → Bool → Characters → Characters → List Placed_token → Type 0
ReadsOn total around opens rest text found = (more : List Placed_token) → Reads total around opens rest more → Reads total [] false text (found ++ more)

abbrev pub StopsOn : ℕ → Around → Bool → Characters → Characters → Type 0
StopsOn total around opens rest text = (at : ℕ) → StopsIn total around opens rest at → StopsIn total [] false text at

append_none : (xs : List Placed_token) → xs ++ [] ≡ xs
append_none [] = refl
append_none (x ∷ xs) = ap (λ ys. x ∷ ys) (append_none xs)

pub no_characters : (bytes : List ℕ) → (length bytes == 0) ≡ true → chars bytes ≡ []
no_characters [] h = chars-nil
no_characters (b ∷ bs) h = absurd (no_bytes (same_number (length (b ∷ bs)) 0 h))
  where
    no_bytes : length (b ∷ bs) ≡ 0 → ⊥
    no_bytes k = omega (arith, k)

pub some_characters : (bytes : List ℕ) → IsUtf8 bytes → (length bytes == 0) ≡ false → length (chars bytes) ≡ 0 → ⊥
some_characters bytes u h k = go (chars bytes) refl k
  where
    no_length_of : (c : ℕ) (cs : Characters) → length (c ∷ cs) ≡ 0 → ⊥
    no_length_of c cs k = omega (arith, k)

    go : (cs : Characters) → chars bytes ≡ cs → length cs ≡ 0 → ⊥
    go [] e k = false≢true (sym h ∙ ap (λ n. n == 0) (sym (size_chars bytes u) ∙ ap (λ t. size t) e))
    go (c ∷ cs) e k = no_length_of c cs k

pub finished : (total : ℕ) (around : Around) (opens : Bool) (rest text front : Characters) (found : List Placed_token) → total ≡ size text → ReadsOn total around opens rest text found → GapIn around rest front → front ≡ [] → TokensAt text found
finished total around opens rest text front found t on g e =
    reads_all text found total t (subst (λ xs. Reads total [] false text xs) (append_none found) (on [] (reads_end total around opens rest front g e)))

pub refused_there : (total : ℕ) (around : Around) (opens : Bool) (rest text front : Characters) (at : ℕ) → total ≡ size text → StopsOn total around opens rest text → GapIn around rest front × NoBlankIn around front
    → (length front ≡ 0 → ⊥) → Steps (is_token around) around opens front None → at + size front ≡ total → LexicalAt text at × ((list : List Token) → Tokens text list → ⊥)
refused_there total around opens rest text front at t on g some none place =
    let l = lexical_at text at total t (on at (stops_here total around opens rest front at g.0 g.1 some none place)) in
    (l, lexical_has_none text at l)

pub reads_on : (total : ℕ) (around : Around) (opens : Bool) (rest text front : Characters) (next : Next) (around' : Around) (found found' : List Placed_token) (start end : ℕ) → ReadsOn total around opens rest text found
    → GapIn around rest front → Begins (is_token around) around opens front next → size rest ≤ total → start ≡ total - size front → end ≡ total - size next.rest → around' ≡ changed next.change around
    → found' ≡ found ++ record { kind = next.kind; jsx = next.jsx; start = start; end = end } ∷ [] → ReadsOn total around' next.opens next.rest text found'
reads_on total around opens rest text front next around' found found' start end on g b l s e a f = λ more r.
    subst (λ xs. Reads total [] false text xs) (sym (ap (λ xs. xs ++ more) f ∙ append_assoc found (record { kind = next.kind; jsx = next.jsx; start = start; end = end } ∷ []) more))
    (on (record { kind = next.kind; jsx = next.jsx; start = start; end = end } ∷ more)
    (reads_more total around opens rest front next more start end g b l s e (subst (λ x. Reads total x next.opens next.rest more) a r)))

pub stops_on : (total : ℕ) (around : Around) (opens : Bool) (rest text front : Characters) (next : Next) (around' : Around) → StopsOn total around opens rest text
    → GapIn around rest front → Begins (is_token around) around opens front next → around' ≡ changed next.change around → StopsOn total around' next.opens next.rest text
stops_on total around opens rest text front next around' on g b a = λ at r. on at (stops_more total around opens rest front next at g b (subst (λ x. StopsIn total x next.opens next.rest at) a r))
