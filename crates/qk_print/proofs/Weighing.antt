-- How much a piece of writing weighs, and that a text fits it: the text is no longer than sixteen times the weight, with so much to spare, and is UTF-8 where
-- what the writing says is made of scalar values.
use Rattle.std.specs.Prelude.{◌≡◌, refl, ℕ, ◌+◌, ◌-◌, ◌*◌, ◌≤◌, ◌<◌, max, pos, Bool, true, false, ◌&&◌, if◌then◌else◌, ◌==◌, nat_lt, nat_le, List, [], ◌∷◌, ◌++◌, length, map, codes, flat_map, IsTrue}
use Rattle.std.proofs.Common.{ap, ◌∙◌, subst, arith}
use Rattle.std.proofs.lemmas.List.{append-nil, length-append}
use Rattle.std.proofs.lemmas.Str.{IsUtf8-nil, IsUtf8-append, encode_ascii}
use Rattle.std.proofs.Math.Utf8.{scalar, low_scalar}
use Rattle.std.specs.Char.{encode_utf8}
use Rattle.std.specs.Fmt.{signed_decimal}
use Rattle.std.specs.List.{list_any}
use Rattle.std.specs.Str.{IsUtf8, all_scalars}
use Rattle.qk_ast.specs.Characters.{Characters, every, number_after}
use Rattle.qk_ast.specs.JsxText.{jsx_text, decoded}
use Rattle.qk_ast.specs.Tokens.{Token, Edge, Piece, piece_value, piece_spelling, pieces_spelling}
use Rattle.qk_ast.specs.Tree.{bytes, value}
use Rattle.qk_ast.specs.Spelling.{Writing, ◌⨾◌, nothing, one, sign, word, name}
use Rattle.qk_ast.proofs.FrontToken.{left, right}
use Rattle.qk_ast.proofs.OneToken.{at_least}
use Rattle.qk_print.specs.Letters.{Text, quoted, template_part, escaped, control, unless_bare}
use Rattle.qk_print.proofs.Rewriting.{piece, control_piece}
use Rattle.qk_print.proofs.Quoting.{text_spelled, template_spelled}
use Rattle.qk_print.proofs.Values_kept.{below}

-- ---- weights

-- what a token says, in bytes; no token is lighter than 1
abbrev pub weight : Token → ℕ
weight (Token.Name a) = max 1 (length (bytes a))
weight (Token.Reserved a) = max 1 (length (bytes a))
weight (Token.Int digits) = max 1 (length (signed_decimal (pos (number_after 10 0 digits))))
weight (Token.Text quote pieces) = 2 + length (value pieces)
weight (Token.Attribute quote text) = 2 + length (bytes (decoded text))
weight (Token.Template from pieces to) = 2 + length (value pieces)
weight (Token.Punct sign) = 1
weight (Token.Begin sign) = 1
weight (Token.JsxText text) = max 1 (length (bytes (jsx_text text)))

abbrev pub weights : List Token → ℕ
weights [] = 0
weights (t ∷ ts) = weight t + weights ts

pub weighty : (t : Token) → 1 ≤ weight t
weighty (Token.Name a) = omega arith
weighty (Token.Reserved a) = omega arith
weighty (Token.Int digits) = omega arith
weighty (Token.Text quote pieces) = omega arith
weighty (Token.Attribute quote text) = omega arith
weighty (Token.Template from pieces to) = omega arith
weighty (Token.Punct sign) = omega arith
weighty (Token.Begin sign) = omega arith
weighty (Token.JsxText text) = omega arith

-- what a token says is made of scalar values
abbrev pub IsSound : Token → Type 0
IsSound (Token.Name a) = IsTrue (all_scalars a)
IsSound (Token.Reserved a) = IsTrue (all_scalars a)
IsSound (Token.Int digits) = IsUtf8 (signed_decimal (pos (number_after 10 0 digits)))
IsSound (Token.Text quote pieces) = IsTrue (all_scalars (map piece_value pieces))
IsSound (Token.Attribute quote text) = IsTrue (all_scalars (decoded text))
IsSound (Token.Template from pieces to) = IsTrue (all_scalars (map piece_value pieces))
IsSound (Token.Punct sign) = Unit {0}
IsSound (Token.Begin sign) = Unit {0}
IsSound (Token.JsxText text) = IsTrue (all_scalars (jsx_text text))

pub record Heard (A B : Type 0) : Type 0 where
  pub here : A
  pub later : B

abbrev pub Sound : List Token → Type 0
Sound [] = Unit {0}
Sound (t ∷ ts) = Heard (IsSound t) (Sound ts)

-- ---- texts that fit

pub record Fits (w : Writing) (t : Text) (spare : ℕ) : Type 0 where
  pub weighs : (R : List Token) → length t + spare + 16 * weights R ≤ 16 * weights (w R)
  pub utf8 : (R : List Token) → Sound (w R) → IsUtf8 t
  pub onward : (R : List Token) → Sound (w R) → Sound R

pub fits_nothing : Fits nothing [] 0
fits_nothing = record { weighs = λ R. omega arith; utf8 = λ R s. IsUtf8-nil; onward = λ R s. s }

pub fits_then : (u v : Writing) (s t : Text) (g h : ℕ) → Fits u s g → Fits v t h → Fits (u ⨾ v) (s ++ t) (g + h)
fits_then u v s t g h x y = record {
  weighs = λ R. let a = x.weighs (v R) in let b = y.weighs R in let c = length-append s t in omega (arith, a, b, c);
  utf8 = λ R k. IsUtf8-append s t (x.utf8 (v R) k) (y.utf8 R (x.onward (v R) k));
  onward = λ R k. y.onward R (x.onward (v R) k);
}

infixr 55 ◌⊹◌
abbrev pub ◌⊹◌ : {u v : Writing} {s t : Text} {g h : ℕ} → Fits u s g → Fits v t h → Fits (u ⨾ v) (s ++ t) (g + h)
(x ⊹ y) = fits_then _ _ _ _ _ _ x y

pub fits_so : {w : Writing} {s t : Text} {g : ℕ} → s ≡ t → Fits w s g → Fits w t g
fits_so {w} {s} {t} {g} e x = subst (λ r. Fits w r g) e x

-- less to spare
pub enough : (h : ℕ) {w : Writing} {t : Text} {g : ℕ} → Fits w t g → nat_le h g ≡ true → Fits w t h
enough h {w} {t} {g} x e = record { weighs = λ R. let a = x.weighs R in let b = at_least h g e in omega (arith, a, b); utf8 = x.utf8; onward = x.onward }

-- ---- signs and words

abbrev pub is_ascii : Text → Bool
is_ascii = every (λ c. nat_lt c 128)

less : (m n : ℕ) → nat_lt m n ≡ true → m < n
less m n h = search arith

pub ascii_utf8 : (l : Text) → is_ascii l ≡ true → IsUtf8 l
ascii_utf8 [] h = IsUtf8-nil
ascii_utf8 (c ∷ cs) h = IsUtf8-append (c ∷ []) cs (one_utf8 (left (nat_lt c 128) _ h)) (ascii_utf8 cs (right (nat_lt c 128) _ h))
  where
    one_utf8 : nat_lt c 128 ≡ true → IsUtf8 (c ∷ [])
    one_utf8 k = (c ∷ [], (ap (λ b. b && true) (low_scalar c (let l = less c 128 k in omega (arith, l))), append-nil (encode_utf8 c) ∙ encode_ascii c (less c 128 k)))

-- signs, words and spaces of the printed text, at most sixteen bytes
abbrev pub is_mark : Text → Bool
is_mark l = nat_le (length l) 16 && is_ascii l

pub mark : (token : Token) (l : Text) → is_mark l ≡ true → Fits (one token) l (16 - length l)
mark token l h = record {
  weighs = λ R. let a = at_least (length l) 16 (left (nat_le (length l) 16) _ h) in let b = weighty token in omega (arith, a, b);
  utf8 = λ R k. ascii_utf8 l (right (nat_le (length l) 16) _ h);
  onward = λ R k. k.later;
}

-- ---- what stands around

-- marks before and behind, out of what is spare
pub around : (l r : Text) {w : Writing} {t : Text} {g : ℕ} → Fits w t g → (nat_le (length l + length r) g && (is_ascii l && is_ascii r)) ≡ true → Fits w (l ++ (t ++ r)) (g - (length l + length r))
around l r {w} {t} {g} x h = record {
  weighs = λ R. let a = x.weighs R in let b = at_least (length l + length r) g (left (nat_le (length l + length r) g) _ h) in let c = length-append l (t ++ r) in let d = length-append t r in omega (arith, a, b, c, d);
  utf8 = λ R k. let e = right (nat_le (length l + length r) g) _ h in
      IsUtf8-append l (t ++ r) (ascii_utf8 l (left (is_ascii l) _ e)) (IsUtf8-append t r (x.utf8 R k) (ascii_utf8 r (right (is_ascii l) _ e)));
  onward = x.onward;
}

pub front : (l : Text) {w : Writing} {t : Text} {g : ℕ} → Fits w t g → (nat_le (length l) g && is_ascii l) ≡ true → Fits w (l ++ t) (g - length l)
front l {w} {t} {g} x h = record {
  weighs = λ R. let a = x.weighs R in let b = at_least (length l) g (left (nat_le (length l) g) _ h) in let c = length-append l t in omega (arith, a, b, c);
  utf8 = λ R k. IsUtf8-append l t (ascii_utf8 l (right (nat_le (length l) g) _ h)) (x.utf8 R k);
  onward = x.onward;
}

pub back : (r : Text) {w : Writing} {t : Text} {g : ℕ} → Fits w t g → (nat_le (length r) g && is_ascii r) ≡ true → Fits w (t ++ r) (g - length r)
back r {w} {t} {g} x h = record {
  weighs = λ R. let a = x.weighs R in let b = at_least (length r) g (left (nat_le (length r) g) _ h) in let c = length-append t r in omega (arith, a, b, c);
  utf8 = λ R k. IsUtf8-append t r (x.utf8 R k) (ascii_utf8 r (right (nat_le (length r) g) _ h));
  onward = x.onward;
}

-- in parentheses or not
pub bare : (c : Bool) {w : Writing} {t : Text} → Fits w t 2 → Fits w (unless_bare c t) 0
bare true x = enough 0 x refl
bare false x = around (codes "(") (codes ")") x refl

-- no text at all
pub silent : {w : Writing} {t : Text} {g : ℕ} → Fits w t g → Fits w [] 0
silent {w} {t} {g} x = record { weighs = λ R. let a = x.weighs R in omega (arith, a); utf8 = λ R k. IsUtf8-nil; onward = x.onward }

-- ---- escapes

control_length : (c : ℕ) → length (control c) ≤ 6
control_length c = choose (c == 10) (c == 13) (c == 9) _ _
  where
    choose : (x y z : Bool) (u v : ℕ) → length (if x then codes "\\n" else (if y then codes "\\r" else (if z then codes "\\t" else codes "\\u00" ++ u ∷ v ∷ []))) ≤ 6
    choose true y z u v = omega arith
    choose false true z u v = omega arith
    choose false false true u v = omega arith
    choose false false false u v = omega arith

escaped_length : (marked : Text) (c : ℕ) → length (escaped marked c) ≤ 6
escaped_length marked c = choose (nat_lt c 32) (list_any (λ m. m == c) marked)
  where
    choose : (x y : Bool) → length (if x then control c else (if y then 92 ∷ c ∷ [] else c ∷ [])) ≤ 6
    choose true y = control_length c
    choose false true = omega arith
    choose false false = omega arith

pub escapes_length : (marked t : Text) → length (flat_map (escaped marked) t) ≤ 6 * length t
escapes_length marked [] = omega arith
escapes_length marked (c ∷ t) = let a = escaped_length marked c in let b = escapes_length marked t in let d = length-append (escaped marked c) (flat_map (escaped marked) t) in omega (arith, a, b, d)

both : (a b : Bool) → a ≡ true → b ≡ true → (a && b) ≡ true
both true b h k = k
both false b h k = h

abbrev IsKept : Piece → Type 0
IsKept p = (next : Characters) → all_scalars next ≡ true → all_scalars (piece_spelling p next) ≡ true

control_kept : (c : ℕ) → c < 32 → IsKept (control_piece c)
control_kept = below 32 (λ c. IsKept (control_piece c)) ((λ next h. h), ((λ next h. h), ((λ next h. h), ((λ next h. h), ((λ next h. h), ((λ next h. h), ((λ next h. h), ((λ next h. h), ((λ next h. h), ((λ next h. h), ((λ next h. h), ((λ next h. h), ((λ next h. h), ((λ next h. h), ((λ next h. h), ((λ next h. h), ((λ next h. h), ((λ next h. h), ((λ next h. h), ((λ next h. h), ((λ next h. h), ((λ next h. h), ((λ next h. h), ((λ next h. h), ((λ next h. h), ((λ next h. h), ((λ next h. h), ((λ next h. h), ((λ next h. h), ((λ next h. h), ((λ next h. h), ((λ next h. h), tt))))))))))))))))))))))))))))))))

piece_kept : (marks : List ℕ) (c : ℕ) → scalar c ≡ true → IsKept (piece marks c)
piece_kept marks c s = choose (nat_lt c 32) (list_any (λ m. m == c) marks) refl
  where
    choose : (b d : Bool) → nat_lt c 32 ≡ b → IsKept (if b then control_piece c else (if d then Piece.Escaped c else Piece.Plain c))
    choose true d e = control_kept c (less c 32 e)
    choose false true e = λ next h. both (scalar c) _ s h
    choose false false e = λ next h. both (scalar c) _ s h

pieces_kept : (marks : List ℕ) (cs : Characters) → all_scalars cs ≡ true → all_scalars (pieces_spelling (map (piece marks) cs) []) ≡ true
pieces_kept marks [] h = refl
pieces_kept marks (c ∷ cs) h = piece_kept marks c (left (scalar c) _ h) _ (pieces_kept marks cs (right (scalar c) _ h))

pub quoted_utf8 : (cs : Characters) → all_scalars cs ≡ true → IsUtf8 (quoted (bytes cs))
quoted_utf8 cs h = IsUtf8-append (codes "\"") _ (ascii_utf8 (codes "\"") refl) (IsUtf8-append _ (codes "\"") (_, (pieces_kept (codes "\"\\") cs h, text_spelled cs [] ∙ append-nil _)) (ascii_utf8 (codes "\"") refl))

pub part_utf8 : (cs : Characters) → all_scalars cs ≡ true → IsUtf8 (template_part (bytes cs))
part_utf8 cs h = (_, (pieces_kept (codes "`\\$") cs h, template_spelled cs [] ∙ append-nil _))

pub quoted_length : (t : Text) → length (quoted t) ≤ 2 + 6 * length t
quoted_length t = let a = escapes_length (codes "\"\\") t in let b = length-append (flat_map (escaped (codes "\"\\")) t) (codes "\"") in omega (arith, a, b)

-- ---- tokens that are printed

pub fits_name : (a : Characters) → Fits (name a) (bytes a) 15
fits_name a = record { weighs = λ R. omega arith; utf8 = λ R k. (a, (k.here, refl)); onward = λ R k. k.later }

pub fits_word : (a : Characters) → Fits (word a) (bytes a) 15
fits_word a = record { weighs = λ R. omega arith; utf8 = λ R k. (a, (k.here, refl)); onward = λ R k. k.later }

pub fits_key : (a : Characters) → Fits (name a) (quoted (bytes a)) 8
fits_key a = record { weighs = λ R. let b = quoted_length (bytes a) in omega (arith, b); utf8 = λ R k. quoted_utf8 a k.here; onward = λ R k. k.later }

pub fits_word_key : (a : Characters) → Fits (word a) (quoted (bytes a)) 8
fits_word_key a = record { weighs = λ R. let b = quoted_length (bytes a) in omega (arith, b); utf8 = λ R k. quoted_utf8 a k.here; onward = λ R k. k.later }

-- a key that is its own value
pub fits_short : (a : Characters) → Fits (name a) (quoted (bytes a) ++ (codes ": " ++ bytes a)) 5
fits_short a = record {
  weighs = λ R. let b = quoted_length (bytes a) in let c = length-append (quoted (bytes a)) (codes ": " ++ bytes a) in omega (arith, b, c);
  utf8 = λ R k. IsUtf8-append (quoted (bytes a)) _ (quoted_utf8 a k.here) (IsUtf8-append (codes ": ") (bytes a) (ascii_utf8 (codes ": ") refl) (a, (k.here, refl)));
  onward = λ R k. k.later;
}

pub fits_int : (digits : Characters) → Fits (one (Token.Int digits)) (signed_decimal (pos (number_after 10 0 digits))) 15
fits_int digits = record { weighs = λ R. omega arith; utf8 = λ R k. k.here; onward = λ R k. k.later }

pub fits_quoted : (quote : ℕ) (pieces : List Piece) → Fits (one (Token.Text quote pieces)) (quoted (value pieces)) 16
fits_quoted quote pieces = record { weighs = λ R. let b = quoted_length (value pieces) in omega (arith, b); utf8 = λ R k. quoted_utf8 (map piece_value pieces) k.here; onward = λ R k. k.later }

pub fits_attribute : (quote : ℕ) (text : Characters) → Fits (one (Token.Attribute quote text)) (quoted (bytes (decoded text))) 16
fits_attribute quote text = record { weighs = λ R. let b = quoted_length (bytes (decoded text)) in omega (arith, b); utf8 = λ R k. quoted_utf8 (decoded text) k.here; onward = λ R k. k.later }

-- a part of a template, between its edges
pub fits_part : (from : Edge) (pieces : List Piece) (to : Edge) (l r : Text) → (nat_le (length l + length r) 4 && (is_ascii l && is_ascii r)) ≡ true
    → Fits (one (Token.Template from pieces to)) (l ++ (template_part (value pieces) ++ r)) 16
fits_part from pieces to l r h = record {
  weighs = λ R. let a = at_least (length l + length r) 4 (left (nat_le (length l + length r) 4) _ h) in let b = escapes_length (codes "`\\$") (value pieces) in
      let c = length-append l (template_part (value pieces) ++ r) in let d = length-append (template_part (value pieces)) r in omega (arith, a, b, c, d);
  utf8 = λ R k. let e = right (nat_le (length l + length r) 4) _ h in IsUtf8-append l _ (ascii_utf8 l (left (is_ascii l) _ e))
      (IsUtf8-append (template_part (value pieces)) r (part_utf8 (map piece_value pieces) k.here) (ascii_utf8 r (right (is_ascii l) _ e)));
  onward = λ R k. k.later;
}
