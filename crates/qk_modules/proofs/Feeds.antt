-- Counting lines and columns from the front of a text.
use Rattle.std.proofs.Common.{◌≡◌, ◌≤◌, ◌<◌, ◌+◌, ℕ, suc, Bool, true, false, List, [], ◌∷◌, refl, sym, ap, ◌∙◌, length, arith, ◌⊎◌, inl, inr}
use Rattle.std.specs.Prelude.{if◌then◌else◌, ◌==◌, ◌||◌}
use Rattle.qk_ast.specs.Texts.{Text}
use Rattle.qk_modules.specs.Places.{feeds, has_feed, after_feeds}

-- the line of what follows, where a line has begun before
abbrev pub line_with : ℕ → Text → ℕ
line_with line text = line + feeds text

-- the column of what follows, where this was the column before
abbrev pub column_with : ℕ → Text → ℕ
column_with column text = if has_feed text then suc (length (after_feeds text)) else column + length text

either : (b : Bool) → (b ≡ true) ⊎ (b ≡ false)
either true = inl refl
either false = inr refl

pub line_feed : (line b : ℕ) (bs : Text) → (b == 10) ≡ true → line_with line (b ∷ bs) ≡ line_with (line + 1) bs
line_feed line b bs h = rw h (omega arith)

pub line_same : (line b : ℕ) (bs : Text) → (b == 10) ≡ false → line_with line (b ∷ bs) ≡ line_with line bs
line_same line b bs h = rw h refl

pub column_feed : (column b : ℕ) (bs : Text) → (b == 10) ≡ true → column_with column (b ∷ bs) ≡ column_with 1 bs
column_feed column b bs h = elim (either (has_feed bs)) [
  | inl k ↦ rw (h, k) refl
  | inr k ↦ rw (h, k) (omega arith)
]

pub column_same : (column b : ℕ) (bs : Text) → (b == 10) ≡ false → column_with column (b ∷ bs) ≡ column_with (column + 1) bs
column_same column b bs h = elim (either (has_feed bs)) [
  | inl k ↦ rw (h, k) refl
  | inr k ↦ rw (h, k) (omega arith)
]

or_left : (a b : Bool) → (a || b) ≡ false → a ≡ false
or_left false b h = refl
or_left true b h = cc

or_right : (a b : Bool) → (a || b) ≡ false → b ≡ false
or_right false b h = h
or_right true b h = cc

whole_column : (text : Text) → has_feed text ≡ false → after_feeds text ≡ text
whole_column [] h = refl
whole_column (b ∷ bs) h = rw (or_right (b == 10) (has_feed bs) h, or_left (b == 10) (has_feed bs) h) refl

-- at the text's beginning
pub column_start : (text : Text) → column_with 1 text ≡ suc (length (after_feeds text))
column_start text = elim (either (has_feed text)) [
  | inl k ↦ rw k refl
  | inr k ↦ rw (k, whole_column text k) (omega arith)
]
