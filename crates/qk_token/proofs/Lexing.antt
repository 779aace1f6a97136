-- From the tokens of the definition and their places to the tokens that the parser meets.
use Rattle.std.specs.Prelude.{◌≡◌, refl, ℕ, suc, ◌+◌, ◌-◌, ◌≤◌, ◌<◌, true, false, ◌==◌, List, [], ◌∷◌, ◌++◌, length, take, drop, chars, slice_range, IsTrue, Option, Some}
use Rattle.std.specs.Str.{encode_utf8_all, all_scalars, IsUtf8, IsCharBoundary}
use mathlib.Core.Path.{sym, ◌∙◌, ap, subst}
use native.Mathlib.Omega.{arith}
use Rattle.std.proofs.Common.{append_assoc, append-nil, length-append, add-one, drop-cons, get_or}
use Rattle.std.proofs.lemmas.List.{map-append, take_at, drop_at, drop_all}
use Rattle.std.proofs.lemmas.Str.{chars-encodes, encodes-append, encodes-chars, scalars-chars, IsCharBoundary-at_seam}
use Rattle.qk_ast.specs.Characters.{Characters}
use Rattle.qk_ast.specs.Tokens as grammar
use Rattle.qk_ast.specs.Tokens.{Token, Name, Reserved, Int, Text, Attribute, Template, Punct, Begin, JsxText, Edge, Backquote, Hole, Piece, pieces_spelling, closing, spelling, is_int, are_text_pieces, are_template_pieces, is_code_token, is_tag_token, is_end_token, is_child_token, is_token, Around, Region, Braces, In_hole, In_tag, In_end, Children, Written, End, Then, written, gap_spelling, stands, after, Tokens}
use Rattle.qk_ast.proofs.FrontToken.{left, right, if_true, if_false}
use Rattle.qk_lex.specs.declared.Token.{Token as Placed_token}
use Rattle.qk_lex.specs.declared.Kind.TheVariants as kind
use Rattle.qk_lex.specs.Steps.{kind_of, is_jsx}
use Rattle.qk_lex.specs.Reading.{size, placed, TokensAt}
use Rattle.qk_lex.proofs.Choices.{both}
use Rattle.qk_lex.proofs.ReadingLemmas.{size_chars}
use Rattle.qk_token.specs.declared.token.Token.{Token as Held_token}
use Rattle.qk_token.specs.declared.token.Token.TheVariants as held
use Rattle.qk_token.specs.View.{token_of, tokens_of, Fits, AllFit}
use Rattle.qk_token.specs.Pieces.{pieces_of}
use Rattle.qk_token.specs.Lexed.{without_last, part, token_written, Lexes, starts_of}
use Rattle.qk_token.proofs.Ends.{last_there, before_last}
use Rattle.qk_token.proofs.PieceReads.{text_read, template_read}
use Rattle.qk_token.proofs.Spellings as before

-- ---- a token that stands in a text is the one that its spelling says

-- what the definition asks of the digits and pieces of a token before that text
abbrev pub Sound : Token → Characters → Type 0
Sound (Int digits) next = IsTrue (is_int digits)
Sound (Text quote ps) next = IsTrue (are_text_pieces quote ps)
Sound (Template from ps to) next = IsTrue (are_template_pieces ps (closing to next))
Sound _ next = Unit {0}

sound_code : (around : Around) (b : Option Token) (t : Token) (next : Characters) → is_code_token around b t next → Sound t next
sound_code around b (Int digits) next h = h.0
sound_code around b (Text quote ps) next h = h.1
sound_code around b (Template Backquote ps to) next h = h
sound_code around b (Template Hole ps to) next h = h.1
sound_code around b _ next h = tt

-- in tags and between them stand no integers, texts and templates
sound_tag : (t : Token) (next : Characters) → is_tag_token t next → Sound t next
sound_tag (Int digits) next h = absurd h
sound_tag (Text quote ps) next h = absurd h
sound_tag (Template from ps to) next h = absurd h
sound_tag _ next h = tt

sound_end : (t : Token) (next : Characters) → is_end_token t next → Sound t next
sound_end (Int digits) next h = absurd h
sound_end (Text quote ps) next h = absurd h
sound_end (Template from ps to) next h = absurd h
sound_end _ next h = tt

sound_child : (t : Token) (next : Characters) → is_child_token t next → Sound t next
sound_child (Int digits) next h = absurd h
sound_child (Text quote ps) next h = absurd h
sound_child (Template from ps to) next h = absurd h
sound_child _ next h = tt

sound : (around : Around) (b : Option Token) (t : Token) (next : Characters) → is_token around b t next → Sound t next
sound (In_tag ∷ around) b t next h = sound_tag t next h
sound (In_end ∷ around) b t next h = sound_end t next h
sound (Children ∷ around) b t next h = sound_child t next h
sound [] b t next h = sound_code [] b t next h
sound (Braces ∷ around) b t next h = sound_code (Braces ∷ around) b t next h
sound (In_hole ∷ around) b t next h = sound_code (In_hole ∷ around) b t next h

part_is : (from to : Edge) (ps : List Piece) (next : Characters) → IsTrue (are_template_pieces ps (closing to next)) → part from (pieces_spelling ps (closing to [])) ≡ Template from ps to
part_is from Backquote ps next h =
    let whole = (before.pieces ps).is (96 ∷ []) in
    ap (part from) whole
    ∙ (if_true _ _ (ap (λ c. c == 96) (last_there (pieces_spelling ps []) 96))
    ∙ (ap (λ t. Template from (pieces_of t) Backquote) (before_last (pieces_spelling ps []) 96) ∙ ap (λ qs. Template from qs Backquote) (template_read ps _ h)))
part_is from Hole ps next h =
    let front = pieces_spelling ps [] ++ 36 ∷ [] in
    let whole : pieces_spelling ps (36 ∷ 123 ∷ []) ≡ front ++ 123 ∷ [] = (before.pieces ps).is (36 ∷ 123 ∷ []) ∙ sym (append_assoc (pieces_spelling ps []) (36 ∷ []) (123 ∷ [])) in
    ap (part from) whole
    ∙ (if_false _ _ (ap (λ c. c == 96) (last_there front 123))
    ∙ (ap (λ t. Template from (pieces_of (without_last t)) Hole) (before_last front 123)
    ∙ (ap (λ t. Template from (pieces_of t) Hole) (before_last (pieces_spelling ps []) 36) ∙ ap (λ qs. Template from qs Hole) (template_read ps _ h))))

token_is : (t : Token) (next : Characters) → Sound t next → token_written (kind_of t) (is_jsx t) (spelling t []) ≡ t
token_is (Name w) next h = ap Name (append-nil w)
token_is (Reserved w) next h = ap Reserved (append-nil w)
token_is (Int digits) next h = ap Int (append-nil digits)
token_is (Text quote ps) next h =
    ap (λ t. Text quote (pieces_of (without_last t))) ((before.pieces ps).is (quote ∷ []))
    ∙ (ap (λ t. Text quote (pieces_of t)) (before_last (pieces_spelling ps []) quote) ∙ ap (Text quote) (text_read quote ps h))
token_is (Attribute quote a) next h = ap (Attribute quote) (before_last a quote)
token_is (Template Backquote ps to) next h = part_is Backquote to ps next h
token_is (Template Hole ps to) next h = part_is Hole to ps next h
token_is (Punct sign) next h = ap Punct (append-nil sign)
token_is (Begin sign) next h = ap Begin (append-nil sign)
token_is (JsxText text) next h = ap JsxText (append-nil text)

abbrev FitsAs : Token → Type 0
FitsAs (Int digits) = is_int digits ≡ true
FitsAs _ = Unit {0}

sound_fits : (t : Token) (next : Characters) → Sound t next → FitsAs t
sound_fits (Int digits) next h = h
sound_fits _ next h = tt

held_fits : (r : Held_token) → FitsAs (token_of r) → Fits r
held_fits (held.Int digits) h = h
held_fits _ h = tt

-- ---- where a token stands

-- the token stands in the text from its first byte to its end
pub record Shown (text : Characters) (found : Placed_token) (t : Token) : Type 0 where
  pub front : Characters
  pub rest : Characters
  pub spells : front ++ (spelling t [] ++ rest) ≡ text
  pub start : size front ≡ found.start
  pub end : size front + size (spelling t []) ≡ found.end
  pub kind : kind_of t ≡ found.kind
  pub jsx : is_jsx t ≡ found.jsx
  pub next : Characters
  pub sound : Sound t next

abbrev pub AllShown : Characters → List Placed_token → List Token → Type 0
AllShown text [] [] = Unit {0}
AllShown text [] (t ∷ ts) = ⊥
AllShown text (f ∷ fs) [] = ⊥
AllShown text (f ∷ fs) (t ∷ ts) = Shown text f t × AllShown text fs ts

size_append : (a b : Characters) → size (a ++ b) ≡ size a + size b
size_append a b = ap length (encodes-append a b) ∙ length-append (encode_utf8_all a) (encode_utf8_all b)

all_shown : (w : Written) (around : Around) (b : Option Token) (text front : Characters) (at : ℕ) → front ++ written w [] ≡ text → size front ≡ at → stands around b w [] → AllShown text (placed at w) (grammar.tokens_of w)
all_shown (End gap) around b text front at e s h = tt
all_shown (Then gap t more) around b text front at e s h =
    let rest = written more [] in
    let spelled = spelling t [] in
    let gapped = front ++ gap_spelling gap [] in
    let here : gapped ++ (spelled ++ rest) ≡ text =
    append_assoc front (gap_spelling gap []) (spelled ++ rest) ∙ (ap (λ x. front ++ x) (sym ((before.gap gap).is (spelled ++ rest)) ∙ ap (gap_spelling gap) (sym ((before.token t).is rest))) ∙ e) in
    let begins : size gapped ≡ at + size (gap_spelling gap []) = size_append front (gap_spelling gap []) ∙ ap (λ n. n + size (gap_spelling gap [])) s in
    let ends : size (gapped ++ spelled) ≡ at + size (gap_spelling gap []) + size spelled = size_append gapped spelled ∙ ap (λ n. n + size spelled) begins in (
      record {
        front = gapped;
        rest = rest;
        spells = here;
        start = begins;
        end = ap (λ n. n + size spelled) begins;
        kind = refl;
        jsx = refl;
        next = rest;
        sound = sound around b t rest h.1;
      },
      all_shown more (after around t) (Some t) text (gapped ++ spelled) _ (append_assoc gapped spelled rest ∙ here) ends h.2,
    )

-- ---- its bytes

front_scalars : (a b : Characters) → all_scalars (a ++ b) ≡ true → all_scalars a ≡ true
front_scalars [] b h = refl
front_scalars (c ∷ a) b h = both _ _ (left _ (all_scalars (a ++ b)) h) (front_scalars a b (right _ (all_scalars (a ++ b)) h))

back_scalars : (a b : Characters) → all_scalars (a ++ b) ≡ true → all_scalars b ≡ true
back_scalars [] b h = h
back_scalars (c ∷ a) b h = back_scalars a b (right _ (all_scalars (a ++ b)) h)

-- A text of three parts: its bytes are theirs, and each is text.
record Parts (bytes : List ℕ) (a b c : Characters) : Type 0 where
  is : bytes ≡ encode_utf8_all a ++ (encode_utf8_all b ++ encode_utf8_all c)
  scalars : all_scalars (a ++ (b ++ c)) ≡ true

parts : (bytes : List ℕ) (a b c : Characters) → IsUtf8 bytes → a ++ (b ++ c) ≡ chars bytes → Parts bytes a b c
parts bytes a b c u e = record {
  is = sym (encodes-chars bytes u) ∙ (ap encode_utf8_all (sym e) ∙ (encodes-append a (b ++ c) ∙ ap (λ x. encode_utf8_all a ++ x) (encodes-append b c)));
  scalars = ap all_scalars e ∙ scalars-chars bytes u;
}

from_boundary : (bytes : List ℕ) (a b c : Characters) → Parts bytes a b c → IsCharBoundary bytes (size a)
from_boundary bytes a b c p =
    IsCharBoundary-at_seam bytes (encode_utf8_all a) (encode_utf8_all b ++ encode_utf8_all c) p.is (b ++ c, (back_scalars a (b ++ c) p.scalars, encodes-append b c))

to_boundary : (bytes : List ℕ) (a b c : Characters) → Parts bytes a b c → IsCharBoundary bytes (size a + size b)
to_boundary bytes a b c p =
    let two = encode_utf8_all a ++ encode_utf8_all b in
    subst (λ n. IsCharBoundary bytes n) (length-append (encode_utf8_all a) (encode_utf8_all b))
    (IsCharBoundary-at_seam bytes two (encode_utf8_all c) (p.is ∙ sym (append_assoc (encode_utf8_all a) (encode_utf8_all b) (encode_utf8_all c))) (c, (back_scalars b c (back_scalars a (b ++ c) p.scalars), refl)))

middle : (bytes : List ℕ) (a b c : Characters) → Parts bytes a b c → chars (slice_range bytes (size a) (size a + size b)) ≡ b
middle bytes a b c p =
    ap (λ x. chars (take (size a + size b - size a) (drop (size a) x))) p.is
    ∙ (ap (λ x. chars (take (size a + size b - size a) x)) (drop_at (encode_utf8_all a) (encode_utf8_all b ++ encode_utf8_all c) (size a) refl)
    ∙ (ap chars (take_at (encode_utf8_all b) (encode_utf8_all c) (size a + size b - size a) (between (size a) (size b)))
    ∙ chars-encodes b (front_scalars b c (back_scalars a (b ++ c) p.scalars))))
  where
    between : (m n : ℕ) → n ≡ m + n - m
    between m n = omega arith

shown_parts : (bytes : List ℕ) (f : Placed_token) (t : Token) → IsUtf8 bytes → (s : Shown (chars bytes) f t) → Parts bytes s.front (spelling t []) s.rest
shown_parts bytes f t u s = parts bytes s.front (spelling t []) s.rest u s.spells

starts_at : (bytes : List ℕ) (f : Placed_token) (t : Token) → IsUtf8 bytes → Shown (chars bytes) f t → IsCharBoundary bytes f.start
starts_at bytes f t u s = subst (λ n. IsCharBoundary bytes n) s.start (from_boundary bytes s.front (spelling t []) s.rest (shown_parts bytes f t u s))

ends_at : (bytes : List ℕ) (f : Placed_token) (t : Token) → IsUtf8 bytes → Shown (chars bytes) f t → IsCharBoundary bytes f.end
ends_at bytes f t u s = subst (λ n. IsCharBoundary bytes n) s.end (to_boundary bytes s.front (spelling t []) s.rest (shown_parts bytes f t u s))

in_order : (bytes : List ℕ) (f : Placed_token) (t : Token) → Shown (chars bytes) f t → f.start ≤ f.end
in_order bytes f t s = omega (arith, s.start, s.end)

-- the token that stands there is the one that is held
held_is : (bytes : List ℕ) (f : Placed_token) (t : Token) → IsUtf8 bytes → Shown (chars bytes) f t → token_written f.kind f.jsx (chars (slice_range bytes f.start f.end)) ≡ t
held_is bytes f t u s =
    let spelled : chars (slice_range bytes f.start f.end) ≡ spelling t [] =
    ap (λ n. chars (slice_range bytes n f.end)) (sym s.start)
    ∙ (ap (λ n. chars (slice_range bytes (size s.front) n)) (sym s.end) ∙ middle bytes s.front (spelling t []) s.rest (shown_parts bytes f t u s)) in
    ap (λ k. token_written k f.jsx (chars (slice_range bytes f.start f.end))) (sym s.kind)
    ∙ (ap (λ j. token_written (kind_of t) j (chars (slice_range bytes f.start f.end))) (sym s.jsx)
    ∙ (ap (token_written (kind_of t) (is_jsx t)) spelled ∙ token_is t s.next s.sound))

-- ---- all the tokens

-- the tokens so far, and what is left of all that were found
pub record Going (bytes : List ℕ) (all left : List Placed_token) (done : List Held_token) : Type 0 where
  pub list : List Token
  pub shown : AllShown (chars bytes) left list
  pub reads : Tokens (chars bytes) (tokens_of done ++ list)
  pub places : placed 0 reads.written_as ≡ all
  pub fit : AllFit done
  pub count : length done + length left ≡ length all

pub begins : (bytes : List ℕ) (found : List Placed_token) (done : List Held_token) → done ≡ [] → TokensAt (chars bytes) found → Going bytes found found done
begins bytes found done e at = subst (λ d. Going bytes found found d) (sym e) (record {
  list = at.0;
  shown = subst (λ f. AllShown (chars bytes) f at.0) at.2 (subst (λ ts. AllShown (chars bytes) (placed 0 at.1.written_as) ts) at.1.read (all_shown at.1.written_as [] Option.None (chars bytes) [] 0 at.1.spells refl at.1.stand));
  reads = at.1;
  places = at.2;
  fit = tt;
  count = omega arith;
})

-- the next of the tokens that were found, with what the code asks of it
pub record Ready (bytes : List ℕ) (f : Placed_token) : Type 0 where
  pub start : IsCharBoundary bytes f.start
  pub end : IsCharBoundary bytes f.end
  pub order : f.start ≤ f.end

pub ready : (bytes : List ℕ) (all more : List Placed_token) (done : List Held_token) (f : Placed_token) → IsUtf8 bytes → Going bytes all (f ∷ more) done → Ready bytes f
ready bytes all more done f u g = by g.list g.shown
  where
    by : (ts : List Token) → AllShown (chars bytes) (f ∷ more) ts → Ready bytes f
    by [] s = absurd s
    by (t ∷ ts) s = record { start = starts_at bytes f t u s.0; end = ends_at bytes f t u s.0; order = in_order bytes f t s.0 }

all_fit : (done : List Held_token) (r : Held_token) → AllFit done → Fits r → AllFit (done ++ r ∷ [])
all_fit [] r h k = (k, tt)
all_fit (d ∷ done) r h k = (h.0, all_fit done r h.1 k)

pub goes_on : (bytes : List ℕ) (all more : List Placed_token) (done done' : List Held_token) (f : Placed_token) (r : Held_token) → IsUtf8 bytes
    → token_of r ≡ token_written f.kind f.jsx (chars (slice_range bytes f.start f.end)) → done' ≡ done ++ r ∷ [] → Going bytes all (f ∷ more) done → Going bytes all more done'
goes_on bytes all more done done' f r u e d g = subst (λ x. Going bytes all more x) (sym d) (by g.list g.shown g.reads g.places)
  where
    longer : (m n k : ℕ) → m + suc n ≡ k → m + 1 + n ≡ k
    longer m n k h = omega (arith, h)

    by : (ts : List Token) → AllShown (chars bytes) (f ∷ more) ts → (reads : Tokens (chars bytes) (tokens_of done ++ ts)) → placed 0 reads.written_as ≡ all → Going bytes all more (done ++ r ∷ [])
    by [] s reads p = absurd s
    by (t ∷ ts) s reads p =
        let is : token_of r ≡ t = e ∙ held_is bytes f t u s.0 in
        let listed : tokens_of (done ++ r ∷ []) ++ ts ≡ tokens_of done ++ (t ∷ ts) =
        ap (λ x. x ++ ts) (map-append token_of done (r ∷ [])) ∙ (append_assoc (tokens_of done) (token_of r ∷ []) ts ∙ ap (λ x. tokens_of done ++ (x ∷ ts)) is) in
        record {
          list = ts;
          shown = s.1;
          reads = record { written_as = reads.written_as; spells = reads.spells; stand = reads.stand; read = reads.read ∙ sym listed };
          places = p;
          fit = all_fit done r g.fit (held_fits r (subst FitsAs (sym is) (sound_fits t s.0.next s.0.sound)));
          count = ap (λ n. n + length more) (length-append done (r ∷ [])) ∙ longer (length done) (length more) (length all) g.count;
        }

pub ends : (bytes : List ℕ) (all left : List Placed_token) (done : List Held_token) (end : ℕ) → IsUtf8 bytes → left ≡ [] → end ≡ length bytes → Going bytes all left done
    → Lexes (chars bytes) (record { tokens = tokens_of done; places = starts_of all ++ end ∷ [] })
ends bytes all left done end u e at g = by g.list (subst (λ l. AllShown (chars bytes) l g.list) e g.shown) g.reads g.places
  where
    by : (ts : List Token) → AllShown (chars bytes) [] ts → (reads : Tokens (chars bytes) (tokens_of done ++ ts)) → placed 0 reads.written_as ≡ all → Lexes (chars bytes) (record { tokens = tokens_of done; places = starts_of all ++ end ∷ [] })
    by [] s reads p = record {
      reads = record { written_as = reads.written_as; spells = reads.spells; stand = reads.stand; read = reads.read ∙ append-nil (tokens_of done) };
      places = ap (λ x. starts_of x ++ end ∷ []) (sym p) ∙ ap (λ n. starts_of (placed 0 reads.written_as) ++ n ∷ []) (at ∙ sym (size_chars bytes u));
    }
    by (t ∷ ts) s reads p = absurd s

pub as_many : (bytes : List ℕ) (all left : List Placed_token) (done : List Held_token) → left ≡ [] → Going bytes all left done → length all ≡ length done
as_many bytes all left done e g = sym g.count ∙ (ap (λ l. length done + length l) e ∙ nothing (length done))
  where
    nothing : (n : ℕ) → n + 0 ≡ n
    nothing n = omega arith

-- ---- the same by numbers

abbrev pub at : List Placed_token → ℕ → Placed_token
at all i = get_or all i (record { kind = kind.Name; jsx = false; start = 0; end = 0 })

here : (all : List Placed_token) (i : ℕ) → i < length all → drop i all ≡ at all i ∷ drop (i + 1) all
here all i h = rw (add-one, drop-cons all i (record { kind = kind.Name; jsx = false; start = 0; end = 0 })) refl

pub ready_at : (bytes : List ℕ) (all : List Placed_token) (i : ℕ) (done : List Held_token) → IsUtf8 bytes → i < length all → Going bytes all (drop i all) done → Ready bytes (at all i)
ready_at bytes all i done u h g = ready bytes all (drop (i + 1) all) done (at all i) u (subst (λ l. Going bytes all l done) (here all i h) g)

pub goes_on_at : (bytes : List ℕ) (all : List Placed_token) (i : ℕ) (done done' : List Held_token) (r : Held_token) → IsUtf8 bytes → i < length all
    → token_of r ≡ token_written (at all i).kind (at all i).jsx (chars (slice_range bytes (at all i).start (at all i).end)) → done' ≡ done ++ r ∷ []
    → Going bytes all (drop i all) done → Going bytes all (drop (i + 1) all) done'
goes_on_at bytes all i done done' r u h e d g = goes_on bytes all (drop (i + 1) all) done done' (at all i) r u e d (subst (λ l. Going bytes all l done) (here all i h) g)

pub none_left : (all : List Placed_token) (i : ℕ) → length all ≤ i → drop i all ≡ []
none_left all i h = drop_all i all h
