-- A word of ASCII stands at the front of the bytes of a text where it stands at the front of its characters.
use Rattle.std.specs.Prelude.{◌≡◌, refl, ℕ, ◌-◌, ◌≤◌, ◌<◌, Bool, true, false, ◌&&◌, ◌||◌, if◌then◌else◌, ◌==◌, nat_lt, List, [], ◌∷◌, ◌++◌, length, take}
use Rattle.std.specs.Str.{encode_utf8_all}
use Rattle.std.specs.Char.{encode_utf8}
use mathlib.Core.Path.{sym, ◌∙◌, ap, subst}
use mathlib.Core.Logic.{inl, inr}
use native.Mathlib.Omega.{arith}
use lib.Dec.{T, ltb→lt, lt→ltb}
use Rattle.std.proofs.Common.{length-append, get_or}
use Rattle.std.proofs.lemmas.Bool.{false≢true, cases_lt}
use Rattle.std.proofs.lemmas.Str.{byte_from_char, char_from_byte, encode_ascii, encodes-append, length-encode, len_utf8_bounds}
use Rattle.qk_ast.specs.Characters.{Characters, same, is_one_of, is_front}
use Rattle.qk_ast.specs.Tokens.{longest_after, reserved_words, code_signs, tag_signs, child_signs}
use Rattle.qk_ast.proofs.FrontToken.{left, right, if_true, if_false}
use Rattle.qk_lex.specs.declared.tables.Signs.{Signs}
use Rattle.qk_lex.specs.declared.tables.Signs.TheVariants as signs
use Rattle.qk_lex.specs.Tables.{beginning, signs_of}
use Rattle.qk_lex.proofs.Choices.{told, either_way, both, same_number, number_same, number_differs}

abbrev pub AllAscii : List ℕ → Type 0
AllAscii [] = Unit {0}
AllAscii (c ∷ cs) = (c < 128) × AllAscii cs

-- a character against the first byte
first_byte : (a c : ℕ) (b : ℕ) (bs rest : List ℕ) → a < 128 → b ∷ bs ≡ encode_utf8 c ++ rest → ((a == b) ≡ (a == c)) × ((a == b) ≡ true → bs ≡ rest)
first_byte a c b bs rest h e = elim (cases_lt b 128) [
  | inl k ↦
      let same_is : c ≡ b = char_from_byte (b ∷ bs) rest c e k (omega arith) in
      let whole : b ∷ bs ≡ c ∷ rest = e ∙ ap (λ x. x ++ rest) (encode_ascii c (subst (λ x. x < 128) (sym same_is) k)) in
      (ap (λ x. a == x) (sym same_is), λ _. ap tail_of whole)
  | inr k ↦
      let no_b : (a == b) ≡ false = number_differs a b (λ q. absurd (omega (arith, h, k, q))) in
      let no_c : (a == c) ≡ false = number_differs a c (λ q. not_c (subst (λ x. x < 128) q h) k) in
      (no_b ∙ sym no_c, λ q. absurd (false≢true (sym no_b ∙ q)))
]
  where
    tail_of : List ℕ → List ℕ
    tail_of [] = []
    tail_of (x ∷ xs) = xs

    not_c : c < 128 → 128 ≤ b → ⊥
    not_c q k = let is : b ≡ c = byte_from_char (b ∷ bs) rest c e q in absurd (omega (arith, q, k, is))

no_bytes : (c : ℕ) (rest : List ℕ) → [] ≡ encode_utf8 c ++ rest → ⊥
no_bytes c rest e = let l : 1 ≤ length (encode_utf8 c) = subst (λ n. 1 ≤ n) (sym (length-encode c)) (len_utf8_bounds c).0 in go (encode_utf8 c) l e
  where
    go : (bs : List ℕ) → 1 ≤ length bs → [] ≡ bs ++ rest → ⊥
    go [] l e = absurd (omega (arith, l))
    go (b ∷ bs) l e = cc

front_step : (a : ℕ) (word : List ℕ) (c : ℕ) (cs : Characters) → a < 128 → is_front word (encode_utf8_all cs) ≡ is_front word cs
    → (bytes : List ℕ) → bytes ≡ encode_utf8 c ++ encode_utf8_all cs → is_front (a ∷ word) bytes ≡ is_front (a ∷ word) (c ∷ cs)
front_step a word c cs h ih [] e = absurd (no_bytes c (encode_utf8_all cs) e)
front_step a word c cs h ih (b ∷ bs) e =
    let x = first_byte a c b bs (encode_utf8_all cs) h e in
    elim (either_way (a == b)) [
      | inl k ↦ ap (λ t. t && is_front word bs) x.0 ∙ ap (λ t. (a == c) && t) (ap (λ y. is_front word y) (x.1 k) ∙ ih)
      | inr k ↦ ap (λ t. t && is_front word bs) k ∙ ap (λ t. t && is_front word cs) (sym k ∙ x.0)
    ]

pub front_bytes : (word : List ℕ) → AllAscii word → (cs : Characters) → is_front word (encode_utf8_all cs) ≡ is_front word cs
front_bytes [] h cs = refl
front_bytes (a ∷ word) h [] = refl
front_bytes (a ∷ word) h (c ∷ cs) = front_step a word c cs h.0 (front_bytes word h.1 cs) (encode_utf8 c ++ encode_utf8_all cs) refl

-- the longest sign of a table of ASCII
abbrev pub AllSigns : List Characters → Type 0
AllSigns [] = Unit {0}
AllSigns (s ∷ ss) = AllAscii s × AllSigns ss

pub longest_bytes : (signs : List Characters) → AllSigns signs → (best : Characters) (cs : Characters) → longest_after best signs (encode_utf8_all cs) ≡ longest_after best signs cs
longest_bytes [] h best cs = refl
longest_bytes (s ∷ ss) h best cs =
    ap (λ b. longest_after (if b && nat_lt (length best) (length s) then s else best) ss (encode_utf8_all cs)) (front_bytes s h.0 cs)
    ∙ longest_bytes ss h.1 (if is_front s cs && nat_lt (length best) (length s) then s else best) cs

-- the same word
turned : (m n : ℕ) → (m == n) ≡ (n == m)
turned m n = elim (either_way (m == n)) [
  | inl k ↦ k ∙ sym (ap (λ y. n == y) (same_number m n k) ∙ number_same n)
  | inr k ↦ k ∙ sym (number_differs n m (λ q. absurd (false≢true (sym k ∙ (ap (λ y. m == y) q ∙ number_same m)))))
]

same_step : (a : ℕ) (word : List ℕ) (c : ℕ) (cs : Characters) → a < 128 → same (encode_utf8_all cs) word ≡ same cs word
    → (bytes : List ℕ) → bytes ≡ encode_utf8 c ++ encode_utf8_all cs → same bytes (a ∷ word) ≡ same (c ∷ cs) (a ∷ word)
same_step a word c cs h ih [] e = absurd (no_bytes c (encode_utf8_all cs) e)
same_step a word c cs h ih (b ∷ bs) e =
    let x = first_byte a c b bs (encode_utf8_all cs) h e in
    elim (either_way (a == b)) [
      | inl k ↦ ap (λ t. t && same bs word) (turned b a ∙ (x.0 ∙ turned a c)) ∙ ap (λ t. (c == a) && t) (ap (λ y. same y word) (x.1 k) ∙ ih)
      | inr k ↦ ap (λ t. t && same bs word) (turned b a ∙ k) ∙ ap (λ t. t && same cs word) (sym k ∙ (x.0 ∙ turned a c))
    ]

pub same_bytes : (word : List ℕ) → AllAscii word → (cs : Characters) → same (encode_utf8_all cs) word ≡ same cs word
same_bytes [] h [] = refl
same_bytes [] h (c ∷ cs) = go (encode_utf8 c ++ encode_utf8_all cs) refl
  where
    go : (bytes : List ℕ) → bytes ≡ encode_utf8 c ++ encode_utf8_all cs → same bytes [] ≡ false
    go [] e = absurd (no_bytes c (encode_utf8_all cs) e)
    go (b ∷ bs) e = refl
same_bytes (a ∷ word) h [] = refl
same_bytes (a ∷ word) h (c ∷ cs) = same_step a word c cs h.0 (same_bytes word h.1 cs) (encode_utf8 c ++ encode_utf8_all cs) refl

pub one_of_bytes : (words : List Characters) → AllSigns words → (cs : Characters) → is_one_of (encode_utf8_all cs) words ≡ is_one_of cs words
one_of_bytes [] h cs = refl
one_of_bytes (w ∷ ws) h cs = ap (λ b. b || is_one_of (encode_utf8_all cs) ws) (same_bytes w h.0 cs) ∙ ap (λ b. same cs w || b) (one_of_bytes ws h.1 cs)

-- ---- the tables of the definition are of ASCII

abbrev pub is_ascii_word : Characters → Bool
is_ascii_word [] = true
is_ascii_word (c ∷ cs) = nat_lt c 128 && is_ascii_word cs

abbrev are_ascii : List Characters → Bool
are_ascii [] = true
are_ascii (w ∷ ws) = is_ascii_word w && are_ascii ws

pub ascii_word : (w : Characters) → is_ascii_word w ≡ true → AllAscii w
ascii_word [] h = tt
ascii_word (c ∷ cs) h = (ltb→lt c 128 (subst T (sym (left (nat_lt c 128) _ h)) tt), ascii_word cs (right (nat_lt c 128) _ h))

ascii_words : (ws : List Characters) → are_ascii ws ≡ true → AllSigns ws
ascii_words [] h = tt
ascii_words (w ∷ ws) h = (ascii_word w (left (is_ascii_word w) _ h), ascii_words ws (right (is_ascii_word w) _ h))

pub reserved_ascii : AllSigns reserved_words
reserved_ascii = ascii_words reserved_words refl

pub code_ascii : AllSigns code_signs
code_ascii = ascii_words code_signs refl

pub tag_ascii : AllSigns tag_signs
tag_ascii = ascii_words tag_signs refl

pub child_ascii : AllSigns child_signs
child_ascii = ascii_words child_signs refl

-- ---- what the functions of the tables answer

abbrev pub best_of : List ℕ → List ℕ → List ℕ → List ℕ
best_of best sign text = if is_front sign text && nat_lt (length best) (length sign) then sign else best

pub no_front : (best sign text : List ℕ) → is_front sign text ≡ false → best ≡ best_of best sign text
no_front best sign text h = sym (if_false _ _ (ap (λ b. b && nat_lt (length best) (length sign)) h))

pub not_longer : (best sign text : List ℕ) → length sign ≤ length best → best ≡ best_of best sign text
not_longer best sign text h = sym (if_false _ _ (and_false (is_front sign text) _ (not_less (length best) (length sign) h)))
  where
    and_false : (a b : Bool) → b ≡ false → (a && b) ≡ false
    and_false true b e = e
    and_false false b e = refl

    not_less : (m n : ℕ) → n ≤ m → nat_lt m n ≡ false
    not_less m n k = elim (either_way (nat_lt m n)) [
      | inl e ↦ let l : m < n = ltb→lt m n (subst T (sym e) tt) in absurd (omega (arith, k, l))
      | inr e ↦ e
    ]

pub longer : (best sign text : List ℕ) → is_front sign text ≡ true → length best < length sign → sign ≡ best_of best sign text
longer best sign text h l = sym (if_true _ _ (both _ _ h (told _ (lt→ltb (length best) (length sign) l))))

pub signs_ascii : (signs : Signs) → AllSigns (signs_of signs)
signs_ascii signs.Code = code_ascii
signs_ascii signs.Tag = tag_ascii
signs_ascii signs.Child = child_ascii

-- of the signs, only those that begin as the text does may stand at its front
pub longest_beginning : (c : ℕ) (text : List ℕ) (signs : List Characters) (best : Characters) → longest_after best (beginning c signs) (c ∷ text) ≡ longest_after best signs (c ∷ text)
longest_beginning c text [] best = refl
longest_beginning c text ([] ∷ ss) best = longest_beginning c text ss best ∙ ap (λ b. longest_after b ss (c ∷ text)) (not_longer best [] (c ∷ text) (omega arith))
longest_beginning c text ((d ∷ ds) ∷ ss) best = elim (either_way (c == d)) [
  | inl h ↦ kept h ∙ longest_beginning c text ss (best_of best (d ∷ ds) (c ∷ text))
  | inr h ↦
      kept h
      ∙ (longest_beginning c text ss best
      ∙ ap (λ b. longest_after b ss (c ∷ text)) (no_front best (d ∷ ds) (c ∷ text) (ap (λ b. b && is_front ds text) (turned d c ∙ h))))
]
  where
    kept : {found : Bool} → (c == d) ≡ found → longest_after best (beginning c ((d ∷ ds) ∷ ss)) (c ∷ text) ≡ longest_after best ((if found then (d ∷ ds) ∷ [] else []) ++ beginning c ss) (c ∷ text)
    kept h = ap (λ b. longest_after best ((if b then (d ∷ ds) ∷ [] else []) ++ beginning c ss) (c ∷ text)) h

pub longest_by_first : (text : List ℕ) (signs : List Characters) → 1 ≤ length text → longest_after [] (beginning (get_or text 0 0) signs) text ≡ longest_after [] signs text
longest_by_first [] signs h = absurd (omega (arith, h))
longest_by_first (c ∷ text) signs h = longest_beginning c text signs []

-- the longest of these signs in the bytes of a text
pub longest_in : (signs : List Characters) → AllSigns signs → (bytes text found : List ℕ) → found ≡ longest_after [] signs bytes → bytes ≡ encode_utf8_all text → found ≡ longest_after [] signs text
longest_in signs h bytes text found e k = e ∙ (ap (λ t. longest_after [] signs t) k ∙ longest_bytes signs h [] text)

taken_all : (xs ys : List ℕ) → take (length xs) (xs ++ ys) ≡ xs
taken_all [] ys = refl
taken_all (x ∷ xs) ys = ap (λ zs. x ∷ zs) (taken_all xs ys)

-- the bytes before what is left
pub front_is : (bytes rest : List ℕ) (w r : Characters) → encode_utf8_all (w ++ r) ≡ bytes → encode_utf8_all r ≡ rest → take (length bytes - length rest) bytes ≡ encode_utf8_all w
front_is bytes rest w r e k =
    ap (λ b. take (length b - length rest) b) (sym e ∙ (encodes-append w r ∙ ap (λ t. encode_utf8_all w ++ t) k)) ∙ taken (encode_utf8_all w) rest
  where
    taken : (xs ys : List ℕ) → take (length (xs ++ ys) - length ys) (xs ++ ys) ≡ xs
    taken xs ys = ap (λ n. take n (xs ++ ys)) (omega (arith, length-append xs ys)) ∙ taken_all xs ys
