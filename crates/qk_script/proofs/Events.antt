-- A line tells of one event.
use Rattle.std.proofs.Common.{◌≡◌, ◌≢◌, ℕ, true, not, ◌&&◌, [], ◌∷◌, ◌++◌, refl, ap, sym, ◌∙◌, arith, Option, Some, None}
use Rattle.std.specs.Prelude.{◌==◌}
use Rattle.std.specs.List.{list_all}
use Rattle.std.proofs.lemmas.Bool.{false≢true, eq-eqb}
use Rattle.qk_ast.specs.Characters.{is_small_letter}
use Rattle.qk_meaning.specs.Value.{Text}
use Rattle.qk_meaning.specs.Item.{Event}
use Rattle.qk_meaning.specs.Run.{Happens}
use Rattle.qk_script.specs.Script.{is_kind, is_id, has_no_space, value_spelling, spelling, IsItem}
use Rattle.qk_script.proofs.Cuts.{left, right}

first_same : (x y : ℕ) (xs ys : Text) → x ∷ xs ≡ y ∷ ys → x ≡ y
first_same x y xs ys e = cc

rest_same : (x y : ℕ) (xs ys : Text) → x ∷ xs ≡ y ∷ ys → xs ≡ ys
rest_same x y xs ys e = cc

nil_not : (x : ℕ) (xs : Text) → [] ≡ x ∷ xs → ⊥
nil_not x xs e = cc

no_space : (x : ℕ) (xs : Text) → has_no_space (x ∷ xs) ≡ true → x ≡ 32 → ⊥
no_space x xs h e = false≢true (ap not (sym (eq-eqb x 32 e)) ∙ left _ _ h)

-- a word without a space, and what stands behind the space after it
pub one_word : (a b : Text) (o q : Option Text) → has_no_space a ≡ true → has_no_space b ≡ true → a ++ value_spelling o ≡ b ++ value_spelling q → (a ≡ b) × (o ≡ q)
one_word [] [] None None ha hb e = (refl, refl)
one_word [] [] None (Some v) ha hb e = absurd (nil_not _ _ e)
one_word [] [] (Some v) None ha hb e = absurd (nil_not _ _ (sym e))
one_word [] [] (Some v) (Some w) ha hb e = (refl, ap Some (rest_same _ _ _ _ e))
one_word [] (y ∷ b) None q ha hb e = absurd (nil_not _ _ e)
one_word [] (y ∷ b) (Some v) q ha hb e = absurd (no_space y b hb (sym (first_same _ _ _ _ e)))
one_word (x ∷ a) [] o None ha hb e = absurd (nil_not _ _ (sym e))
one_word (x ∷ a) [] o (Some w) ha hb e = absurd (no_space x a ha (first_same _ _ _ _ e))
one_word (x ∷ a) (y ∷ b) o q ha hb e =
    let rest = one_word a b o q (right _ _ ha) (right _ _ hb) (rest_same _ _ _ _ e) in
    (ap (λ z. z ∷ a) (first_same _ _ _ _ e) ∙ ap (λ l. y ∷ l) rest.0, rest.1)

letter_no_space : (x : ℕ) → is_small_letter x ≡ true → not (x == 32) ≡ true
letter_no_space x h = grind (arith, h)

letters_no_space : (xs : Text) → list_all is_small_letter xs ≡ true → has_no_space xs ≡ true
letters_no_space [] h = refl
letters_no_space (x ∷ xs) h = ap (λ b. b && has_no_space xs) (letter_no_space x (left _ _ h)) ∙ letters_no_space xs (right _ _ h)

pub kind_no_space : (kind : Text) → is_kind kind ≡ true → has_no_space kind ≡ true
kind_no_space kind h = letters_no_space kind (left _ _ h)

-- the words of a line that tells of an event are its words
pub same_words : (line kind : Text) (behind : Option Text) (e : Event) → has_no_space kind ≡ true → line ≡ kind ++ value_spelling behind → IsItem (Happens e) → line ≡ spelling (Happens e)
    → (kind ≡ e.kind) × (behind ≡ Some (e.id ++ value_spelling e.value))
same_words line kind behind e plain is item spelled = one_word kind e.kind behind (Some (e.id ++ value_spelling e.value)) plain (kind_no_space e.kind item.0) (sym is ∙ spelled)

some_same : (a b : Text) → Some a ≡ Some b → a ≡ b
some_same a b e = cc

pub no_second : (line kind : Text) (e : Event) → has_no_space kind ≡ true → line ≡ kind ++ value_spelling None → IsItem (Happens e) → line ≢ spelling (Happens e)
no_second line kind e plain is item spelled = go (same_words line kind None e plain is item spelled).1
  where
    go : None ≡ Some (e.id ++ value_spelling e.value) → ⊥
    go h = cc

-- so it tells of none where they aren't those of an event
pub not_event : (line kind rest id : Text) (value : Option Text) (e : Event) → has_no_space kind ≡ true → line ≡ kind ++ value_spelling (Some rest) → has_no_space id ≡ true → rest ≡ id ++ value_spelling value
    → IsItem (Happens e) → line ≡ spelling (Happens e) → (is_kind kind ≡ true) × (is_id id ≡ true)
not_event line kind rest id value e plain is clear parts item spelled =
    let same = same_words line kind (Some rest) e plain is item spelled in
    let behind = one_word id e.id value e.value clear (left _ _ item.1) (sym parts ∙ some_same _ _ same.1) in
    (ap is_kind same.0 ∙ item.0, ap is_id behind.0 ∙ item.1)
