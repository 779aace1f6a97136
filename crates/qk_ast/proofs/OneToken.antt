-- In code one text begins with one token.
use Rattle.std.specs.Prelude.{◌≡◌, refl, ℕ, zero, suc, ◌+◌, ◌-◌, ◌≤◌, Bool, true, false, not, ◌&&◌, ◌||◌, if◌then◌else◌, ◌==◌, nat_le, List, [], ◌∷◌, ◌++◌, length, Option, codes, IsTrue}
use mathlib.Core.Path.{sym, ◌∙◌, ap, subst}
use mathlib.Core.Logic.{inl, inr}
use native.Mathlib.Omega.{arith}
use lib.Dec.{eqb→eq, leb→le, T}
use Rattle.std.proofs.lemmas.Bool.{false≢true, eq-eqb}
use Rattle.qk_ast.specs.Characters.{Characters, same, is_one_of, has, every, begins_with, is_front, is_digit, begins_name, continues_name, run, after_run}
use Rattle.qk_ast.specs.Tokens.{Token, Name, Reserved, Int, Text, Attribute, Template, Punct, Begin, JsxText, Backquote, Hole, Piece, Around, in_hole, spelling, reserved_words, code_signs, begin_signs, is_sign, is_code_sign, is_word, is_int, ends_word, allows_jsx, is_code_token, are_text_pieces}
use Rattle.qk_ast.proofs.FrontToken.{left, right, either, is_not, if_true, if_false, run_found, after_found, one_word, one_sign, among}
use Rattle.qk_ast.proofs.Pieces.{heads, tails, text_pieces_one, template_one}

pub data Front : Type 0 where
  word_front number_front text_front template_front hole_front begin_front sign_front : Front

abbrev pub front_of : Around → Option Token → Characters → Front
front_of around before [] = sign_front
front_of around before (c ∷ cs) =
    if begins_name c then word_front else (if is_digit c then number_front else (if has c (codes "'\"") then text_front else (if c == 96 then template_front
    else (if (c == 125) && in_hole around then hole_front else (if (c == 60) && allows_jsx before then begin_front else sign_front)))))

abbrev pub front : Token → Front
front (Name word) = word_front
front (Reserved word) = word_front
front (Int digits) = number_front
front (Text quote pieces) = text_front
front (Template Backquote pieces to) = template_front
front (Template Hole pieces to) = hole_front
front (Begin sign) = begin_front
front _ = sign_front

abbrev pub rank : Front → ℕ
rank word_front = 0
rank number_front = 1
rank text_front = 2
rank template_front = 3
rank hole_front = 4
rank begin_front = 5
rank sign_front = 6

-- ---- digits

pub digit_by : (P : ℕ → Type 0) (k : ℕ) → k ≤ 9 → P 48 → P 49 → P 50 → P 51 → P 52 → P 53 → P 54 → P 55 → P 56 → P 57 → P (48 + k)
digit_by P zero h a b c d e f g i j k = a
digit_by P (suc zero) h a b c d e f g i j k = b
digit_by P (suc (suc zero)) h a b c d e f g i j k = c
digit_by P (suc (suc (suc zero))) h a b c d e f g i j k = d
digit_by P (suc (suc (suc (suc zero)))) h a b c d e f g i j k = e
digit_by P (suc (suc (suc (suc (suc zero))))) h a b c d e f g i j k = f
digit_by P (suc (suc (suc (suc (suc (suc zero)))))) h a b c d e f g i j k = g
digit_by P (suc (suc (suc (suc (suc (suc (suc zero))))))) h a b c d e f g i j k = i
digit_by P (suc (suc (suc (suc (suc (suc (suc (suc zero)))))))) h a b c d e f g i j k = j
digit_by P (suc (suc (suc (suc (suc (suc (suc (suc (suc zero))))))))) h a b c d e f g i j k = k
digit_by P (suc (suc (suc (suc (suc (suc (suc (suc (suc (suc n)))))))))) h a b c d e f g i j k = absurd (omega (arith, h))

pub at_least : (m n : ℕ) → nat_le m n ≡ true → m ≤ n
at_least m n h = leb→le m n (subst T (sym h) tt)

pub a_digit : (P : ℕ → Type 0) (c : ℕ) → is_digit c ≡ true → P 48 → P 49 → P 50 → P 51 → P 52 → P 53 → P 54 → P 55 → P 56 → P 57 → P c
a_digit P c h a b d e f g i j k l =
    let low : 48 ≤ c = at_least 48 c (left (nat_le 48 c) _ h) in
    let high : c ≤ 57 = at_least c 57 (right (nat_le 48 c) _ h) in
    subst P (omega (arith, low)) (digit_by P (c - 48) (omega (arith, low, high)) a b d e f g i j k l)

pub digit_no_name : (c : ℕ) → is_digit c ≡ true → begins_name c ≡ false
digit_no_name c h = a_digit (λ d. begins_name d ≡ false) c h refl refl refl refl refl refl refl refl refl refl

pub digit_continues : (c : ℕ) → is_digit c ≡ true → continues_name c ≡ true
digit_continues c h = a_digit (λ d. continues_name d ≡ true) c h refl refl refl refl refl refl refl refl refl refl

pub no_digit : (c : ℕ) → continues_name c ≡ false → is_digit c ≡ false
no_digit c h = go (is_digit c) refl
  where
    go : (b : Bool) → is_digit c ≡ b → is_digit c ≡ false
    go true e = absurd (false≢true (sym h ∙ digit_continues c e))
    go false e = e

pub no_digits : (next : Characters) → IsTrue (ends_word next) → begins_with is_digit next ≡ false
no_digits [] h = refl
no_digits (c ∷ next) h = no_digit c (is_not _ h)

-- ---- the front of each token

pub a_quote : (P : ℕ → Type 0) (c : ℕ) → has c (codes "'\"") ≡ true → P 39 → P 34 → P c
a_quote P c h a b = elim (either (c == 39) _ h) [
  | inl e ↦ subst P (sym (eqb→eq c 39 (subst T (sym e) tt))) a
  | inr e ↦ elim (either (c == 34) false e) [ inl k ↦ subst P (sym (eqb→eq c 34 (subst T (sym k) tt))) b | inr k ↦ absurd (false≢true k) ]
]

pub first_digit : (d : ℕ) (ds : Characters) → IsTrue (is_int (d ∷ ds)) → is_digit d ≡ true
first_digit d ds h = left (is_digit d) _ (left (is_digit d && every is_digit ds) _ (left (is_digit d && every is_digit ds && (not (d == 48) || (length ds == 0))) _ h))

pub rest_digits : (d : ℕ) (ds : Characters) → IsTrue (is_int (d ∷ ds)) → every is_digit (d ∷ ds) ≡ true
rest_digits d ds h = left (is_digit d && every is_digit ds) _ (left (is_digit d && every is_digit ds && (not (d == 48) || (length ds == 0))) _ h)

pub sign_is_sign : (before : Option Token) (sign next : Characters) → is_code_sign before sign next ≡ true → is_sign code_signs sign next ≡ true
sign_is_sign before sign next h = left (is_sign code_signs sign next) _ (left (is_sign code_signs sign next && not (same sign (codes "/") && (is_front (codes "/") next || is_front (codes "*") next))) _ h)

pub sign_no_jsx : (before : Option Token) (sign next : Characters) → is_code_sign before sign next ≡ true → (is_front (codes "<") sign && allows_jsx before) ≡ false
sign_no_jsx before sign next h = is_not _ (right (is_sign code_signs sign next && not (same sign (codes "/") && (is_front (codes "/") next || is_front (codes "*") next))) _ h)

pub sign_is : (around : Around) (before : Option Token) (sign next : Characters) → IsTrue (is_one_of sign code_signs) → (same sign (codes "}") && in_hole around) ≡ false
    → (is_front (codes "<") sign && allows_jsx before) ≡ false → front_of around before (sign ++ next) ≡ sign_front
sign_is around before sign next h = among (λ s. (same s (codes "}") && in_hole around) ≡ false → (is_front (codes "<") s && allows_jsx before) ≡ false
    → front_of around before (s ++ next) ≡ sign_front) sign code_signs h ((λ e h. refl), ((λ e h. refl), ((λ e h. refl), ((λ e h. refl), ((λ e h. refl), ((λ e h. if_false _ _ e), ((λ e h. refl), ((λ e h. refl), ((λ e h. refl), ((λ e h. refl), ((λ e h. refl), ((λ e h. refl), ((λ e h. refl), ((λ e h. refl), ((λ e h. refl), ((λ e h. refl), ((λ e h. refl), ((λ e h. refl), ((λ e h. refl), ((λ e h. refl), ((λ e h. refl), ((λ e h. refl), ((λ e h. refl), ((λ e h. refl), ((λ e h. refl), ((λ e h. refl), ((λ e h. refl), ((λ e h. if_false _ _ h), ((λ e h. if_false _ _ h), ((λ e h. refl), ((λ e h. refl), ((λ e h. refl), ((λ e h. refl), tt)))))))))))))))))))))))))))))))))

pub begin_is : (around : Around) (before : Option Token) (sign next : Characters) → IsTrue (is_one_of sign begin_signs) → allows_jsx before ≡ true → front_of around before (sign ++ next) ≡ begin_front
begin_is around before sign next h a = among (λ s. front_of around before (s ++ next) ≡ begin_front) sign begin_signs h (if_true _ _ a, (if_true _ _ a, tt))

abbrev pub tail_of : Characters → Characters
tail_of [] = []
tail_of (c ∷ cs) = cs

pub code_front : (around : Around) (before : Option Token) (t : Token) (next : Characters) → is_code_token around before t next → front_of around before (spelling t next) ≡ front t
code_front around before (Name []) next h = absurd (false≢true h.0)
code_front around before (Name (c ∷ cs)) next h = if_true _ _ (left (begins_name c) _ h.0)
code_front around before (Reserved word) next h = among (λ w. front_of around before (w ++ next) ≡ word_front) word reserved_words h.0 (refl, (refl, (refl, (refl, (refl, (refl, (refl, (refl, (refl, (refl, (refl, (refl, (refl, (refl, (refl, (refl, (refl, (refl, (refl, (refl, (refl, (refl, (refl, (refl, (refl, (refl, (refl, (refl, (refl, (refl, (refl, (refl, (refl, (refl, (refl, (refl, (refl, (refl, (refl, (refl, (refl, (refl, (refl, (refl, (refl, (refl, (refl, (refl, (refl, tt)))))))))))))))))))))))))))))))))))))))))))))))))
code_front around before (Int []) next h = absurd (false≢true h.0)
code_front around before (Int (d ∷ ds)) next h = let digit : is_digit d ≡ true = first_digit d ds h.0 in if_false _ _ (digit_no_name d digit) ∙ if_true _ _ digit
code_front around before (Text quote pieces) next h = a_quote (λ q. (rest : Characters) → front_of around before (q ∷ rest) ≡ text_front) quote h.0 (λ rest. refl) (λ rest. refl) (tail_of (spelling (Text quote pieces) next))
code_front around before (Attribute quote inside) next h = absurd h
code_front around before (Template Backquote pieces to) next h = refl
code_front around before (Template Hole pieces to) next h = if_true _ _ h.0
code_front around before (Punct sign) next h =
    let code : is_code_sign before sign next ≡ true = h.1 in
    sign_is around before sign next (left (is_one_of sign code_signs) _ (sign_is_sign before sign next code)) (is_not _ h.0) (sign_no_jsx before sign next code)
code_front around before (Begin sign) next h = begin_is around before sign next (left (is_one_of sign begin_signs) _ h.1) h.0
code_front around before (JsxText text) next h = absurd h

-- ---- words

-- a word is a character, and then characters that go on with it
pub word_rest : (cs ds next next' : Characters) (c d : ℕ) → every continues_name cs ≡ true → every continues_name ds ≡ true → IsTrue (ends_word next) → IsTrue (ends_word next')
    → c ∷ cs ++ next ≡ d ∷ ds ++ next' → (c ∷ cs ≡ d ∷ ds) × (next ≡ next')
word_rest cs ds next next' c d hc hd e e' h =
    let rest = one_word cs ds next next' hc hd e e' (tails h) in (ap (λ x. x ∷ cs) (heads h) ∙ ap (λ xs. d ∷ xs) rest.0, rest.1)

abbrev pub IsWordLike : Characters → Type 0
IsWordLike [] = ⊥
IsWordLike (c ∷ cs) = every continues_name cs ≡ true

pub words_one : (a b next next' : Characters) → IsWordLike a → IsWordLike b → IsTrue (ends_word next) → IsTrue (ends_word next') → a ++ next ≡ b ++ next' → (a ≡ b) × (next ≡ next')
words_one [] b next next' ha hb e e' h = absurd ha
words_one (c ∷ cs) [] next next' ha hb e e' h = absurd hb
words_one (c ∷ cs) (d ∷ ds) next next' ha hb e e' h = word_rest cs ds next next' c d ha hb e e' h

pub name_like : (a : Characters) → IsTrue (is_word a) → IsWordLike a
name_like [] h = false≢true h
name_like (c ∷ cs) h = right (begins_name c) _ h

pub reserved_like : (a : Characters) → IsTrue (is_one_of a reserved_words) → IsWordLike a
reserved_like a h = among IsWordLike a reserved_words h (refl, (refl, (refl, (refl, (refl, (refl, (refl, (refl, (refl, (refl, (refl, (refl, (refl, (refl, (refl, (refl, (refl, (refl, (refl, (refl, (refl, (refl, (refl, (refl, (refl, (refl, (refl, (refl, (refl, (refl, (refl, (refl, (refl, (refl, (refl, (refl, (refl, (refl, (refl, (refl, (refl, (refl, (refl, (refl, (refl, (refl, (refl, (refl, (refl, tt)))))))))))))))))))))))))))))))))))))))))))))))))

pub digits_one : (a b next next' : Characters) → IsTrue (is_int a) → IsTrue (is_int b) → IsTrue (ends_word next) → IsTrue (ends_word next') → a ++ next ≡ b ++ next' → (a ≡ b) × (next ≡ next')
digits_one [] b next next' ha hb e e' h = absurd (false≢true ha)
digits_one (c ∷ cs) [] next next' ha hb e e' h = absurd (false≢true hb)
digits_one (c ∷ cs) (d ∷ ds) next next' ha hb e e' h = (
  sym (run_found is_digit (c ∷ cs) next (rest_digits c cs ha) (no_digits next e)) ∙ (ap (λ t. run is_digit t) h ∙ run_found is_digit (d ∷ ds) next' (rest_digits d ds hb) (no_digits next' e')),
  sym (after_found is_digit (c ∷ cs) next (rest_digits c cs ha) (no_digits next e)) ∙ (ap (λ t. after_run is_digit t) h ∙ after_found is_digit (d ∷ ds) next' (rest_digits d ds hb) (no_digits next' e')),
)

pub quote_no_backslash : (q : ℕ) → has q (codes "'\"") ≡ true → (q == 92) ≡ false
quote_no_backslash q h = a_quote (λ c. (c == 92) ≡ false) q h refl refl

pub name_parts : (a next : Characters) → IsTrue (is_word a) × IsTrue (not (is_one_of a reserved_words)) × IsTrue (ends_word next) → IsTrue (is_word a) × (is_one_of a reserved_words ≡ false) × IsTrue (ends_word next)
name_parts a next h = (h.0, is_not _ h.1, h.2)

-- two kinds of token don't begin alike
pub apart : (f g : Front) → (rank f == rank g) ≡ false → f ≡ g → ⊥
apart f g h e = false≢true (sym h ∙ (ap (λ x. rank x == rank g) e ∙ same_rank (rank g)))
  where
    same_rank : (n : ℕ) → (n == n) ≡ true
    same_rank n = eq-eqb n n refl

pub text_case : (q r : ℕ) (ps qs : List Piece) (next next' : Characters) → has q (codes "'\"") ≡ true → are_text_pieces q ps ≡ true → are_text_pieces r qs ≡ true
    → spelling (Text q ps) next ≡ spelling (Text r qs) next' → (Text q ps ≡ Text r qs) × (next ≡ next')
text_case q r ps qs next next' hq hp hr e =
    let same_quote : r ≡ q = sym (heads e) in
    let both = text_pieces_one q (quote_no_backslash q hq) ps qs next next' hp (subst (λ c. are_text_pieces c qs ≡ true) same_quote hr)
    (tails (subst (λ c. spelling (Text q ps) next ≡ spelling (Text c qs) next') same_quote e)) in
    (ap (λ xs. Text q xs) both.0 ∙ ap (λ c. Text c qs) (heads e), both.1)

pub differ : (around : Around) (before : Option Token) (t u : Token) (next next' : Characters) → (rank (front t) == rank (front u)) ≡ false → is_code_token around before t next
    → is_code_token around before u next' → spelling t next ≡ spelling u next' → ⊥
differ around before t u next next' r ht hu e =
    apart (front t) (front u) r (sym (code_front around before t next ht) ∙ (ap (λ x. front_of around before x) e ∙ code_front around before u next' hu))

pub code_token_one : (around : Around) (before : Option Token) (t u : Token) (next next' : Characters) → is_code_token around before t next → is_code_token around before u next'
    → spelling t next ≡ spelling u next' → (t ≡ u) × (next ≡ next')
code_token_one around before (Attribute quote inside) u next next' ht hu e = absurd ht
code_token_one around before (JsxText text) u next next' ht hu e = absurd ht
code_token_one around before t (Attribute quote inside) next next' ht hu e = absurd hu
code_token_one around before t (JsxText text) next next' ht hu e = absurd hu
code_token_one around before (Name a) (Name b) next next' ht hu e =
    let x = name_parts a next ht in let y = name_parts b next' hu in
    let both = words_one a b next next' (name_like a x.0) (name_like b y.0) x.2 y.2 e in (ap Name both.0, both.1)
code_token_one around before (Name a) (Reserved b) next next' ht hu e =
    let x = name_parts a next ht in let r : is_one_of b reserved_words ≡ true = hu.0 in
    let both = words_one a b next next' (name_like a x.0) (reserved_like b r) x.2 hu.1 e in
    absurd (false≢true (sym x.1 ∙ (ap (λ w. is_one_of w reserved_words) both.0 ∙ r)))
code_token_one around before (Reserved a) (Name b) next next' ht hu e =
    let x = name_parts b next' hu in let r : is_one_of a reserved_words ≡ true = ht.0 in
    let both = words_one a b next next' (reserved_like a r) (name_like b x.0) ht.1 x.2 e in
    absurd (false≢true (sym x.1 ∙ (ap (λ w. is_one_of w reserved_words) (sym both.0) ∙ r)))
code_token_one around before (Reserved a) (Reserved b) next next' ht hu e =
    let both = words_one a b next next' (reserved_like a ht.0) (reserved_like b hu.0) ht.1 hu.1 e in
    (ap Reserved both.0, both.1)
code_token_one around before (Int a) (Int b) next next' ht hu e =
    let both = digits_one a b next next' ht.0 hu.0 ht.1 hu.1 e in (ap Int both.0, both.1)
code_token_one around before (Text q ps) (Text r qs) next next' ht hu e = text_case q r ps qs next next' ht.0 ht.1 hu.1 e
code_token_one around before (Template Backquote ps to) (Template Backquote qs to') next next' ht hu e =
    let all = template_one ps qs to to' next next' ht hu (tails e) in (ap (λ xs. Template Backquote xs to) all.0 ∙ ap (λ x. Template Backquote qs x) all.1, all.2)
code_token_one around before (Template Hole ps to) (Template Hole qs to') next next' ht hu e =
    let all = template_one ps qs to to' next next' ht.1 hu.1 (tails e) in (ap (λ xs. Template Hole xs to) all.0 ∙ ap (λ x. Template Hole qs x) all.1, all.2)
code_token_one around before (Punct a) (Punct b) next next' ht hu e =
    let both = one_sign code_signs a b next next' (sign_is_sign before a next ht.1) (sign_is_sign before b next' hu.1) e in (ap Punct both.0, both.1)
code_token_one around before (Begin a) (Begin b) next next' ht hu e =
    let both = one_sign begin_signs a b next next' ht.1 hu.1 e in (ap Begin both.0, both.1)
code_token_one around before (Template Backquote ps to) u next next' ht hu e = absurd (differ around before (Template Backquote ps to) u next next' refl ht hu e)
code_token_one around before (Template Hole ps to) u next next' ht hu e = absurd (differ around before (Template Hole ps to) u next next' refl ht hu e)
code_token_one around before t (Template Backquote qs to) next next' ht hu e = absurd (differ around before t (Template Backquote qs to) next next' refl ht hu e)
code_token_one around before t (Template Hole qs to) next next' ht hu e = absurd (differ around before t (Template Hole qs to) next next' refl ht hu e)
code_token_one around before t u next next' ht hu e = absurd (differ around before t u next next' refl ht hu e)
