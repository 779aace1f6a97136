-- The lines of a text, and a line without its final carriage return.
use Rattle.std.proofs.Common.{◌≡◌, ◌≢◌, ℕ, ◌-◌, ◌<◌, Bool, true, false, not, [], ◌∷◌, ◌++◌, refl, ap, sym, ◌∙◌, length, take, drop, arith}
use Rattle.std.proofs.lemmas.List.{take-append-drop}
use Rattle.std.specs.Prelude.{◌==◌}
use Rattle.std.proofs.lemmas.Bool.{false≢true, eqb-true}
use Rattle.qk_meaning.specs.Value.{Text}
use Rattle.qk_script.specs.Script.{in_front, lines_of, content}
use Rattle.qk_script.proofs.Cuts.{lacks, left, right}

no_feed : (x : ℕ) (xs : Text) → lacks 10 (x ∷ xs) ≡ true → (x == 10) ≡ false
no_feed x xs h = go (x == 10) refl
  where
    go : (b : Bool) → (x == 10) ≡ b → (x == 10) ≡ false
    go true e = absurd (false≢true (ap not (sym e) ∙ left _ _ h))
    go false e = e

feed_not : (x : ℕ) (xs : Text) → (x == 10) ≡ false → lines_of (x ∷ xs) ≡ in_front x (lines_of xs)
feed_not x xs h = ap (λ b. elim b [ true ↦ [] ∷ lines_of xs | false ↦ in_front x (lines_of xs) ]) h

pub lines_cut : (line after : Text) → lacks 10 line ≡ true → lines_of (line ++ (10 ∷ after)) ≡ line ∷ lines_of after
lines_cut [] after h = refl
lines_cut (x ∷ line) after h = feed_not x (line ++ (10 ∷ after)) (no_feed x line h) ∙ (ap (in_front x) (lines_cut line after (right _ _ h)))

pub line_whole : (x : ℕ) (xs : Text) → lacks 10 (x ∷ xs) ≡ true → lines_of (x ∷ xs) ≡ (x ∷ xs) ∷ []
line_whole x [] h = feed_not x [] (no_feed x [] h)
line_whole x (y ∷ ys) h = feed_not x (y ∷ ys) (no_feed x (y ∷ ys) h) ∙ (ap (in_front x) (line_whole y ys (right _ _ h)))

pub text_whole : (text : Text) → 0 < length text → lacks 10 text ≡ true → lines_of text ≡ text ∷ []
text_whole [] some h = absurd (omega (arith, some))
text_whole (x ∷ xs) some h = line_whole x xs h

-- ---- the content of a line

pub content_return : (front : Text) → content (front ++ (13 ∷ [])) ≡ front
content_return [] = refl
content_return (x ∷ []) = refl
content_return (x ∷ y ∷ front) = ap (λ l. x ∷ l) (content_return (y ∷ front))

pub content_plain : (line : Text) → ((front : Text) → line ≢ front ++ (13 ∷ [])) → line ≡ content line
content_plain [] none = refl
content_plain (x ∷ []) none = go (x == 13) refl
  where
    go : (b : Bool) → (x == 13) ≡ b → x ∷ [] ≡ content (x ∷ [])
    go true h = absurd (none [] (ap (λ y. y ∷ []) (eqb-true x 13 h)))
    go false h = sym (ap (λ b. elim b [ true ↦ [] | false ↦ x ∷ [] ]) h)
content_plain (x ∷ y ∷ line) none = ap (λ l. x ∷ l) (content_plain (y ∷ line) (λ front e. none (x ∷ front) (ap (λ l. x ∷ l) e)))

drop_all : (xs : Text) → drop (length xs) xs ≡ []
drop_all [] = refl
drop_all (x ∷ xs) = drop_all xs

pub content_stripped : (line front : Text) (n : ℕ) → front ≡ take (length line - n) line → drop (length line - n) line ≡ 13 ∷ drop (length line) line → front ≡ content line
content_stripped line front n is behind =
    let whole : line ≡ front ++ (13 ∷ []) =
    sym (take-append-drop (length line - n) line) ∙ (ap (λ l. l ++ drop (length line - n) line) (sym is) ∙ ap (λ l. front ++ l) (behind ∙ ap (λ l. 13 ∷ l) (drop_all line))) in
    sym (ap content whole ∙ content_return front)
