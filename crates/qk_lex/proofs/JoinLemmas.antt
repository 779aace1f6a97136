-- The lines of the text between tags.
use Rattle.std.specs.Prelude.{◌≡◌, refl, ℕ, zero, suc, ◌+◌, ◌-◌, ◌≤◌, ◌<◌, Bool, true, false, not, ◌&&◌, if◌then◌else◌, ◌==◌, List, [], ◌∷◌, ◌++◌, length, map, take, drop, chars, codes}
use Rattle.std.specs.Str.{encode_utf8_all, IsUtf8}
use Rattle.std.specs.Char.{encode_utf8}
use mathlib.Core.Path.{sym, ◌∙◌, ap, subst}
use mathlib.Core.Logic.{inl, inr}
use native.Mathlib.Omega.{arith}
use lib.ListN.{get_or}
use Rattle.std.proofs.Common.{append_assoc, append-nil}
use Rattle.std.proofs.Math.Seq.{take-suc}
use Rattle.std.proofs.lemmas.Bool.{false≢true}
use Rattle.std.proofs.lemmas.Str.{encodes-chars}
use Rattle.qk_ast.specs.Characters.{Characters, every, is_front}
use Rattle.qk_ast.specs.JsxText.{onto_first, lines, without_spaces_before, unless_blank, without_spaces_after, later_lines, trimmed, after_space, joined, decoded_after, decoded, untabbed, jsx_text}
use Rattle.qk_ast.proofs.FrontToken.{left, right, is_not, if_true, if_false}
use Rattle.qk_lex.specs.Joining.{line_end, drop_return, appended, first_decoded, stays}
use Rattle.qk_lex.proofs.Choices.{either_way, both, not_true, same_number, number_same, number_differs}

-- ---- the last character of a line

all_taken : (xs : Characters) → take (length xs) xs ≡ xs
all_taken [] = refl
all_taken (x ∷ xs) = ap (λ t. x ∷ t) (all_taken xs)

spaces_go : (xs : Characters) → without_spaces_after (xs ++ 32 ∷ []) ≡ without_spaces_after xs
spaces_go [] = refl
spaces_go (x ∷ xs) = ap (unless_blank x) (spaces_go xs)

before_last : (x : ℕ) (xs : Characters) (c : ℕ) → unless_blank x (xs ++ c ∷ []) ≡ x ∷ (xs ++ c ∷ [])
before_last x [] c = refl
before_last x (y ∷ ys) c = refl

others_stay : (xs : Characters) (c : ℕ) → (c == 32) ≡ false → without_spaces_after (xs ++ c ∷ []) ≡ xs ++ c ∷ []
others_stay [] c h = if_false _ _ h
others_stay (x ∷ xs) c h = ap (unless_blank x) (others_stay xs c h) ∙ before_last x xs c

-- the last of so many characters
split_at : (xs : Characters) (n x : ℕ) → 0 < n → n ≤ length xs → x ≡ get_or xs (n - 1) x → take n xs ≡ take (n - 1) xs ++ x ∷ []
split_at xs n x h k e =
    let one : n ≡ suc (n - 1) = omega (arith, h) in
    ap (λ i. take i xs) one ∙ (take-suc xs (n - 1) x (omega (arith, h, k)) ∙ ap (λ c. take (n - 1) xs ++ c ∷ []) (sym e))

pub space_last : (xs : Characters) (n x : ℕ) → 0 < n → n ≤ length xs → x ≡ get_or xs (n - 1) x → x ≡ 32 → without_spaces_after (take (n - 1) xs) ≡ without_spaces_after (take n xs)
space_last xs n x h k e s = sym (ap without_spaces_after (split_at xs n x h k e ∙ ap (λ c. take (n - 1) xs ++ c ∷ []) s) ∙ spaces_go (take (n - 1) xs))

pub other_last : (xs : Characters) (n x : ℕ) → 0 < n → n ≤ length xs → x ≡ get_or xs (n - 1) x → (x ≡ 32 → ⊥) → take n xs ≡ without_spaces_after (take n xs)
other_last xs n x h k e s =
    let split = split_at xs n x h k e in
    split ∙ (sym (others_stay (take (n - 1) xs) x (number_differs x 32 s)) ∙ ap without_spaces_after (sym split))

return_goes : (xs : Characters) → drop_return (xs ++ 13 ∷ []) ≡ xs
return_goes [] = refl
return_goes (x ∷ []) = refl
return_goes (x ∷ y ∷ ys) = ap (λ t. x ∷ t) (return_goes (y ∷ ys))

no_return_stays : (xs : Characters) (c : ℕ) → (c == 13) ≡ false → drop_return (xs ++ c ∷ []) ≡ xs ++ c ∷ []
no_return_stays [] c h = if_false _ _ h
no_return_stays (x ∷ []) c h = ap (λ t. x ∷ t) (if_false _ _ h)
no_return_stays (x ∷ y ∷ ys) c h = ap (λ t. x ∷ t) (no_return_stays (y ∷ ys) c h)

pub return_last : (xs : Characters) (x : ℕ) → 0 < length xs → x ≡ get_or xs (length xs - 1) x → x ≡ 13 → take (length xs - 1) xs ≡ drop_return xs
return_last xs x h e k =
    let whole : xs ≡ take (length xs - 1) xs ++ 13 ∷ [] =
    sym (all_taken xs) ∙ (split_at xs (length xs) x h (omega arith) e ∙ ap (λ c. take (length xs - 1) xs ++ c ∷ []) k) in
    sym (ap drop_return whole ∙ return_goes (take (length xs - 1) xs))

pub no_return_last : (xs : Characters) (x : ℕ) → 0 < length xs → x ≡ get_or xs (length xs - 1) x → (x ≡ 13 → ⊥) → xs ≡ drop_return xs
no_return_last xs x h e k =
    let whole : xs ≡ take (length xs - 1) xs ++ x ∷ [] = sym (all_taken xs) ∙ split_at xs (length xs) x h (omega arith) e in
    whole ∙ (sym (no_return_stays (take (length xs - 1) xs) x (number_differs x 13 k)) ∙ ap drop_return (sym whole))

-- ---- lines

no_feed_front : (cs : Characters) → line_end cs ≡ length cs → is_front (10 ∷ []) cs ≡ false
no_feed_front [] h = refl
no_feed_front (c ∷ cs) h = elim (either_way (10 == c)) [
  | inl e ↦ absurd (not_zero (sym (if_true 0 (suc (line_end cs)) (ap (λ d. d == 10) (sym (same_number 10 c e)) ∙ number_same 10)) ∙ h))
  | inr e ↦ ap (λ b. b && true) e
]
  where
    not_zero : 0 ≡ length (c ∷ cs) → ⊥
    not_zero k = omega (arith, k)

feed_or_more : (c : ℕ) (cs : Characters) → line_end (c ∷ cs) ≡ length (c ∷ cs) → ((c == 10) ≡ false) × (line_end cs ≡ length cs)
feed_or_more c cs h = elim (either_way (c == 10)) [
  | inl e ↦ absurd (not_zero (sym (if_true 0 (suc (line_end cs)) e) ∙ h))
  | inr e ↦ (e, one_less (sym (if_false 0 (suc (line_end cs)) e) ∙ h))
]
  where
    not_zero : 0 ≡ length (c ∷ cs) → ⊥
    not_zero k = omega (arith, k)

    one_less : suc (line_end cs) ≡ length (c ∷ cs) → line_end cs ≡ length cs
    one_less k = omega (arith, k)

-- a text without a line feed is one line
pub one_line : (cs : Characters) → line_end cs ≡ length cs → lines cs ≡ cs ∷ []
one_line [] h = refl
one_line (c ∷ cs) h =
    let both = feed_or_more c cs h in
    if_false _ _ both.0 ∙ (if_false _ _ (not_before_feed (c == 13) (no_feed_front cs both.1)) ∙ ap (onto_first c) (one_line cs both.1))
  where
    not_before_feed : (b : Bool) → is_front (10 ∷ []) cs ≡ false → (b && is_front (10 ∷ []) cs) ≡ false
    not_before_feed true k = k
    not_before_feed false k = refl

abbrev pub not_feed : ℕ → Bool
not_feed c = not (c == 10)

plus_one : (n : ℕ) → suc n + 1 ≡ suc (n + 1)
plus_one n = omega arith

split_line : (cs : Characters) → line_end cs < length cs → cs ≡ take (line_end cs) cs ++ 10 ∷ drop (line_end cs + 1) cs
split_line [] h = absurd (omega (arith, h))
split_line (c ∷ cs) h = elim (either_way (c == 10)) [
  | inl e ↦ ap (λ d. d ∷ cs) (same_number c 10 e) ∙ ap (λ n. take n (c ∷ cs) ++ 10 ∷ drop (n + 1) (c ∷ cs)) (sym (if_true 0 (suc (line_end cs)) e))
  | inr e ↦
      let n_is : line_end (c ∷ cs) ≡ suc (line_end cs) = if_false 0 (suc (line_end cs)) e in
      let l : line_end cs < length cs = omega (arith, h, n_is) in
      ap (λ t. c ∷ t) (split_line cs l) ∙ (ap (λ m. c ∷ (take (line_end cs) cs ++ 10 ∷ drop m (c ∷ cs))) (sym (plus_one (line_end cs))) ∙ ap (λ n. take n (c ∷ cs) ++ 10 ∷ drop (n + 1) (c ∷ cs)) (sym n_is))
]

no_feed_taken : (cs : Characters) → every not_feed (take (line_end cs) cs) ≡ true
no_feed_taken [] = refl
no_feed_taken (c ∷ cs) = elim (either_way (c == 10)) [
  | inl e ↦ ap (λ n. every not_feed (take n (c ∷ cs))) (if_true 0 (suc (line_end cs)) e)
  | inr e ↦ ap (λ n. every not_feed (take n (c ∷ cs))) (if_false 0 (suc (line_end cs)) e) ∙ both _ _ (not_true _ e) (no_feed_taken cs)
]

lines_of : (front rest : Characters) → every not_feed front ≡ true → lines (front ++ 10 ∷ rest) ≡ drop_return front ∷ lines rest
lines_of [] rest h = refl
lines_of (c ∷ []) rest h =
    if_false _ _ (is_not _ (left (not_feed c) _ h)) ∙ elim (either_way (c == 13)) [
      | inl e ↦ if_true _ _ (both (c == 13) true e refl) ∙ ap (λ t. t ∷ lines rest) (sym (if_true _ _ e))
      | inr e ↦ if_false _ _ (ap (λ b. b && true) e) ∙ ap (λ t. t ∷ lines rest) (sym (if_false _ _ e))
    ]
lines_of (c ∷ d ∷ ds) rest h =
    let d_is : (10 == d) ≡ false = number_differs 10 d (λ q. false≢true (sym (is_not _ (left (not_feed d) _ (right (not_feed c) _ h))) ∙ (ap (λ x. x == 10) (sym q) ∙ number_same 10))) in
    if_false _ _ (is_not _ (left (not_feed c) _ h)) ∙ (if_false _ _ (no_both (c == 13) ((10 == d) && true) (ap (λ b. b && true) d_is)) ∙ ap (onto_first c) (lines_of (d ∷ ds) rest (right (not_feed c) _ h)))
  where
    no_both : (a b : Bool) → b ≡ false → (a && b) ≡ false
    no_both true b k = k
    no_both false b k = refl

-- the first line of a text with a line feed, and the rest
pub first_line : (cs : Characters) → line_end cs < length cs → lines cs ≡ drop_return (take (line_end cs) cs) ∷ lines (drop (line_end cs + 1) cs)
first_line cs h = ap lines (split_line cs h) ∙ lines_of (take (line_end cs) cs) (drop (line_end cs + 1) cs) (no_feed_taken cs)

-- ---- joining from the front

-- the lines that are left, after what was joined
abbrev pub joined_on : Characters → List Characters → Characters
joined_on [] left = joined left
joined_on (c ∷ cs) left = (c ∷ cs) ++ after_space (joined left)

-- the lines that are left, without their spaces; the first may be the first of all
abbrev pub trimmed_on : Bool → List Characters → List Characters
trimmed_on true left = trimmed left
trimmed_on false left = later_lines left

on_line : (out line : Characters) (left : List Characters) → joined_on out (line ∷ left) ≡ joined_on (appended out line) left
on_line [] [] left = refl
on_line (t ∷ ts) [] left = refl
on_line [] (c ∷ cs) left = refl
on_line (t ∷ ts) (c ∷ cs) left = ap (λ x. t ∷ x) (sym (append_assoc ts (32 ∷ c ∷ cs) (after_space (joined left))))

append_nil : (xs : Characters) → xs ++ [] ≡ xs
append_nil [] = refl
append_nil (x ∷ xs) = ap (λ t. x ∷ t) (append_nil xs)

on_end : (out : Characters) → joined_on out [] ≡ out
on_end [] = refl
on_end (c ∷ cs) = append_nil (c ∷ cs)

some_line : (cs : Characters) → (l : Characters) × (ls : List Characters) × (lines cs ≡ l ∷ ls)
some_line [] = ([], [], refl)
some_line (c ∷ cs) = let w = some_line cs in elim (either_way (c == 10)) [
  | inl e ↦ ([], lines cs, if_true _ _ e)
  | inr e ↦ elim (either_way ((c == 13) && is_front (10 ∷ []) cs)) [
    | inl k ↦ (w.0, w.1, if_false _ _ e ∙ (if_true _ _ k ∙ w.2))
    | inr k ↦ (c ∷ w.0, w.1, if_false _ _ e ∙ (if_false _ _ k ∙ ap (onto_first c) w.2))
  ]
]

trimmed_line : (first : Bool) (line : Characters) (rest : Characters) → trimmed_on first (line ∷ lines rest) ≡ without_spaces_after (if first then line else without_spaces_before line) ∷ trimmed_on false (lines rest)
trimmed_line true line rest = let w = some_line rest in ap (λ ls. trimmed (line ∷ ls)) w.2 ∙ ap (λ ls. without_spaces_after line ∷ later_lines ls) (sym w.2)
trimmed_line false line rest = let w = some_line rest in ap (λ ls. later_lines (line ∷ ls)) w.2 ∙ ap (λ ls. without_spaces_after (without_spaces_before line) ∷ later_lines ls) (sym w.2)

trimmed_last : (first : Bool) (line : Characters) → trimmed_on first (line ∷ []) ≡ (if first then line else without_spaces_before line) ∷ []
trimmed_last true line = refl
trimmed_last false line = refl

pub joined_last : (out rest line : Characters) (first : Bool) (all out' : Characters) → line_end rest ≡ length rest → line ≡ (if first then rest else without_spaces_before rest) → out' ≡ appended out line
    → joined_on out (trimmed_on first (lines rest)) ≡ all → out' ≡ all
joined_last out rest line first all out' e l o k =
    sym (ap (λ ls. joined_on out (trimmed_on first ls)) (one_line rest e) ∙ (ap (joined_on out) (trimmed_last first rest)
    ∙ (on_line out (if first then rest else without_spaces_before rest) [] ∙ (on_end (appended out (if first then rest else without_spaces_before rest)) ∙ (ap (appended out) (sym l) ∙ sym o))))) ∙ k

drop_one : (n : ℕ) (xs : Characters) → drop 1 (drop n xs) ≡ drop (n + 1) xs
drop_one zero xs = refl
drop_one (suc n) [] = ap (λ m. drop m []) (sym (plus_one n))
drop_one (suc n) (x ∷ xs) = drop_one n xs ∙ ap (λ m. drop m (x ∷ xs)) (sym (plus_one n))

pub joined_more : (out rest start line more : Characters) (n : ℕ) (first : Bool) (all out' : Characters) → n ≡ line_end rest → n < length rest → start ≡ (if first then drop_return (take n rest) else without_spaces_before (drop_return (take n rest)))
    → line ≡ without_spaces_after start → out' ≡ appended out line → more ≡ drop 1 (drop n rest) → joined_on out (trimmed_on first (lines rest)) ≡ all → joined_on out' (trimmed_on false (lines more)) ≡ all
joined_more out rest start line more n first all out' e h s l o m k =
    let split : lines rest ≡ drop_return (take n rest) ∷ lines (drop (n + 1) rest) =
    first_line rest (subst (λ m. m < length rest) e h) ∙ ap (λ m. drop_return (take m rest) ∷ lines (drop (m + 1) rest)) (sym e) in
    let line_is : line ≡ without_spaces_after (if first then drop_return (take n rest) else without_spaces_before (drop_return (take n rest))) = l ∙ ap without_spaces_after s in
    ap (λ x. joined_on x (trimmed_on false (lines more))) (o ∙ ap (appended out) line_is)
    ∙ (ap (λ t. joined_on (appended out (without_spaces_after (if first then drop_return (take n rest) else without_spaces_before (drop_return (take n rest))))) (trimmed_on false (lines t))) (m ∙ drop_one n rest)
    ∙ (sym (ap (λ ls. joined_on out (trimmed_on first ls)) split ∙ (ap (joined_on out) (trimmed_line first (drop_return (take n rest)) (drop (n + 1) rest))
    ∙ on_line out (without_spaces_after (if first then drop_return (take n rest) else without_spaces_before (drop_return (take n rest)))) (trimmed_on false (lines (drop (n + 1) rest))))) ∙ k))

-- ---- entities

passed_over : (n : ℕ) (cs : Characters) → decoded_after n cs ≡ decoded_after 0 (drop n cs)
passed_over zero cs = refl
passed_over (suc n) [] = refl
passed_over (suc n) (c ∷ cs) = passed_over n cs

first_is : (c : ℕ) (cs : Characters) → decoded (c ∷ cs) ≡ (first_decoded (c ∷ cs)).0 ∷ decoded (drop (first_decoded (c ∷ cs)).1 (c ∷ cs))
first_is c cs = by (is_front (codes "&amp;") (c ∷ cs)) (38 ∷ decoded_after 4 cs) _ (38, 5) _ (ap (λ t. 38 ∷ t) (passed_over 4 cs))
    (by (is_front (codes "&lt;") (c ∷ cs)) (60 ∷ decoded_after 3 cs) _ (60, 4) _ (ap (λ t. 60 ∷ t) (passed_over 3 cs))
    (by (is_front (codes "&gt;") (c ∷ cs)) (62 ∷ decoded_after 3 cs) _ (62, 4) _ (ap (λ t. 62 ∷ t) (passed_over 3 cs))
    (by (is_front (codes "&quot;") (c ∷ cs)) (34 ∷ decoded_after 5 cs) _ (34, 6) _ (ap (λ t. 34 ∷ t) (passed_over 5 cs))
    (by (is_front (codes "&nbsp;") (c ∷ cs)) (160 ∷ decoded_after 5 cs) _ (160, 6) _ (ap (λ t. 160 ∷ t) (passed_over 5 cs)) refl))))
  where
    by : (b : Bool) (x y : Characters) (p q : ℕ × ℕ) → x ≡ p.0 ∷ decoded (drop p.1 (c ∷ cs)) → y ≡ q.0 ∷ decoded (drop q.1 (c ∷ cs))
        → (if b then x else y) ≡ (if b then p else q).0 ∷ decoded (drop (if b then p else q).1 (c ∷ cs))
    by true x y p q h k = h
    by false x y p q h k = k

pub decoded_first : (text : Characters) → 0 < length text → decoded text ≡ (first_decoded text).0 ∷ decoded (drop (first_decoded text).1 text)
decoded_first [] h = absurd (omega (arith, h))
decoded_first (c ∷ cs) h = first_is c cs

pub decoded_on : (out out' : List ℕ) (rest more : Characters) (c count : ℕ) (all : List ℕ) → 0 < length rest → (c, count) ≡ first_decoded rest → out' ≡ out ++ encode_utf8 c → more ≡ drop count rest
    → out ++ encode_utf8_all (decoded rest) ≡ all → out' ++ encode_utf8_all (decoded more) ≡ all
decoded_on out out' rest more c count all h p o m k =
    ap (λ x. x ++ encode_utf8_all (decoded more)) o ∙ (append_assoc out (encode_utf8 c) (encode_utf8_all (decoded more))
    ∙ (ap (λ t. out ++ encode_utf8_all t) (ap (λ t. c ∷ decoded t) m ∙ (ap (λ (x : ℕ × ℕ). x.0 ∷ decoded (drop x.1 rest)) p ∙ sym (decoded_first rest h))) ∙ k))

pub some_length : (xs : Characters) → (length xs == 0) ≡ false → 0 < length xs
some_length [] h = absurd (false≢true (sym h))
some_length (x ∷ xs) h = omega arith

-- ---- a text that is read as it is written

record Stays (c : ℕ) (cs : Characters) : Type 0 where
  no_entity : (38 == c) ≡ false
  no_feed : (c == 10) ≡ false
  no_tab : (c == 9) ≡ false
  others : every stays cs ≡ true

stays_here : (c : ℕ) (cs : Characters) → every stays (c ∷ cs) ≡ true → Stays c cs
stays_here c cs h =
    let here : stays c ≡ true = left (stays c) (every stays cs) h in
    let first : (not (c == 38) && not (c == 10)) ≡ true = left _ (not (c == 9)) here in
    let no_entity : (c == 38) ≡ false = is_not _ (left (not (c == 38)) (not (c == 10)) first) in
    record {
      no_entity = number_differs 38 c (λ q. false≢true (sym no_entity ∙ ap (λ x. x == 38) (sym q)));
      no_feed = is_not _ (right (not (c == 38)) (not (c == 10)) first);
      no_tab = is_not _ (right (not (c == 38) && not (c == 10)) (not (c == 9)) here);
      others = right (stays c) (every stays cs) h;
    }

plain_decoded : (cs : Characters) → every stays cs ≡ true → decoded cs ≡ cs
plain_decoded [] h = refl
plain_decoded (c ∷ cs) h =
    let k = stays_here c cs h in
    if_false _ _ (begins_none k (codes "amp;"))
    ∙ (if_false _ _ (begins_none k (codes "lt;"))
    ∙ (if_false _ _ (begins_none k (codes "gt;"))
    ∙ (if_false _ _ (begins_none k (codes "quot;"))
    ∙ (if_false _ _ (begins_none k (codes "nbsp;"))
    ∙ ap (λ t. c ∷ t) (plain_decoded cs k.others)))))
  where
    begins_none : Stays c cs → (w : Characters) → is_front (38 ∷ w) (c ∷ cs) ≡ false
    begins_none k w = ap (λ b. b && is_front w cs) k.no_entity

plain_lines : (cs : Characters) → every stays cs ≡ true → lines cs ≡ cs ∷ []
plain_lines [] h = refl
plain_lines (c ∷ cs) h =
    let k = stays_here c cs h in
    if_false _ _ k.no_feed ∙ (if_false _ _ (and_false (c == 13) _ (no_feed_next cs k.others)) ∙ ap (onto_first c) (plain_lines cs k.others))
  where
    and_false : (a b : Bool) → b ≡ false → (a && b) ≡ false
    and_false true b e = e
    and_false false b e = refl

    no_feed_next : (ds : Characters) → every stays ds ≡ true → is_front (10 ∷ []) ds ≡ false
    no_feed_next [] h = refl
    no_feed_next (d ∷ ds) h =
        let k = stays_here d ds h in
        ap (λ b. b && true) (number_differs 10 d (λ q. false≢true (sym k.no_feed ∙ ap (λ x. x == 10) (sym q))))

plain_untabbed : (cs : Characters) → every stays cs ≡ true → map untabbed cs ≡ cs
plain_untabbed [] h = refl
plain_untabbed (c ∷ cs) h =
    let k = stays_here c cs h in
    ap (λ x. x ∷ map untabbed cs) (if_false 32 c k.no_tab) ∙ ap (λ t. c ∷ t) (plain_untabbed cs k.others)

alone : (line : Characters) → joined (line ∷ []) ≡ line
alone [] = refl
alone (c ∷ cs) = append-nil (c ∷ cs)

plain_jsx_text : (cs : Characters) → every stays cs ≡ true → jsx_text cs ≡ cs
plain_jsx_text cs h =
    ap (λ t. decoded (joined (trimmed (lines t)))) (plain_untabbed cs h)
    ∙ (ap (λ t. decoded (joined (trimmed t))) (plain_lines cs h) ∙ (ap decoded (alone cs) ∙ plain_decoded cs h))

-- such a text's bytes are those that it stands for
pub plain_attribute : (raw : List ℕ) → IsUtf8 raw → every stays (chars raw) ≡ true → raw ≡ encode_utf8_all (decoded (chars raw))
plain_attribute raw u h = sym (ap encode_utf8_all (plain_decoded (chars raw) h) ∙ encodes-chars raw u)

pub plain_jsx : (raw : List ℕ) → IsUtf8 raw → every stays (chars raw) ≡ true → raw ≡ encode_utf8_all (jsx_text (chars raw))
plain_jsx raw u h = sym (ap encode_utf8_all (plain_jsx_text (chars raw) h) ∙ encodes-chars raw u)
