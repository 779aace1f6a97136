-- The files that entries stand for, once one entry is written or a new one stands behind them.
use Rattle.std.proofs.Common.{◌≡◌, ℕ, zero, suc, ◌<◌, inl, inr, Option, Some, None, Bool, true, false, cond, List, [], ◌∷◌, ◌++◌, length, get_or, set, bytes_eq, nat_lt, position, refl, sym, ◌∙◌, ap, arith}
use Rattle.std.proofs.lemmas.Bool.{cases_Bool, ltb-false}
use Rattle.std.proofs.lemmas.List.Quantifiers.{position-Some}
use Rattle.std.proofs.lemmas.List.Sums.{fails_before_first}
use Rattle.std.specs.List.{find, position_or_len}
use Rattle.std.specs.Option.{option_map}
use Rattle.qk_store.proofs.Names.{same_name, either_way}

module _ {E : Type 0} (key bytes : E → List ℕ) where
  abbrev pub is_of : List ℕ → E → Bool
  is_of name entry = bytes_eq (key entry) name

  abbrev pub file : List E → List ℕ → Option (List ℕ)
  file entries name = option_map bytes (find (is_of name) entries)

  -- an entry in the place of one whose name is the same
  replaced : (b : Bool) (old new : E) (rest : Option E) → option_map bytes (cond b (Some new) rest) ≡ cond b (Some (bytes new)) (option_map bytes (cond b (Some old) rest))
  replaced true old new rest = refl
  replaced false old new rest = refl

  named : (entry : E) (name other : List ℕ) → key entry ≡ name → is_of other entry ≡ bytes_eq other name
  named entry name other is = ap (λ k. bytes_eq k other) is ∙ either_way name other

  -- an entry of another name comes first, before and after
  behind : (entry : E) (after : Option E) (name other : List ℕ) (new : List ℕ) (before : Option E)
      → is_of name entry ≡ false
      → option_map bytes after ≡ cond (bytes_eq other name) (Some new) (option_map bytes before)
      → option_map bytes (cond (is_of other entry) (Some entry) after) ≡ cond (bytes_eq other name) (Some new) (option_map bytes (cond (is_of other entry) (Some entry) before))
  behind entry after name other new before apart rest = elim (cases_Bool (is_of other entry)) [
    | inl first ↦
        let elsewhere : bytes_eq other name ≡ false = ap (λ k. bytes_eq k name) (sym (same_name (key entry) other first)) ∙ apart in
        rw first (rw elsewhere refl)
    | inr later ↦ rw later rest
  ]

  written_at : (entries : List E) (at : ℕ) (d new : E) (name other : List ℕ)
      → at < length entries → is_of name (get_or entries at d) ≡ true → ((k : ℕ) → k < at → is_of name (get_or entries k d) ≡ false)
      → key new ≡ name
      → file (set entries at new) other ≡ cond (bytes_eq other name) (Some (bytes new)) (file entries other)
  written_at [] at d new name other within here before is = absurd (omega arith)
  written_at (entry ∷ entries) zero d new name other within here before is =
      let rest = find (is_of other) entries in
      ap (λ b. option_map bytes (cond b (Some new) rest)) (named new name other is)
      ∙ replaced (bytes_eq other name) entry new rest
      ∙ ap (λ b. cond (bytes_eq other name) (Some (bytes new)) (option_map bytes (cond b (Some entry) rest))) (sym (named entry name other (same_name (key entry) name here)))
  written_at (entry ∷ entries) (suc at) d new name other within here before is =
      behind entry (find (is_of other) (set entries at new)) name other (bytes new) (find (is_of other) entries) (before zero (omega arith))
      (written_at entries at d new name other (omega arith) here (λ k lt. before (suc k) (omega arith)) is)

  added : (entries : List E) (new : E) (name other : List ℕ)
      → ((k : ℕ) → k < length entries → is_of name (get_or entries k new) ≡ false)
      → key new ≡ name
      → file (entries ++ new ∷ []) other ≡ cond (bytes_eq other name) (Some (bytes new)) (file entries other)
  added [] new name other none is =
      ap (λ b. option_map bytes (cond b (Some new) None)) (named new name other is)
      ∙ elim (bytes_eq other name) as (λ b. option_map bytes (cond b (Some new) None) ≡ cond b (Some (bytes new)) None) [ true ↦ refl | false ↦ refl ]
  added (entry ∷ entries) new name other none is =
      behind entry (find (is_of other) (entries ++ new ∷ [])) name other (bytes new) (find (is_of other) entries) (none zero (omega arith))
      (added entries new name other (λ k lt. none (suc k) (omega arith)) is)

  absent : (p : E → Bool) (entries : List E) (d : E) → position p entries ≡ None → (k : ℕ) → k < length entries → p (get_or entries k d) ≡ false
  absent p entries d none k lt = elim (cases_Bool (nat_lt (position_or_len p entries) (length entries))) [
    | inl some_there ↦ let is : position p entries ≡ Some (position_or_len p entries) = rw some_there refl in absurd (cc (is, none))
    | inr none_there ↦ fails_before_first p entries k d (omega (arith, ltb-false _ _ none_there))
  ]

  -- the bytes of the entry in that place are written over
  pub file-set : (entries : List E) (at : ℕ) (old new : E) (name text : List ℕ)
      → position (is_of name) entries ≡ Some at → old ≡ get_or entries at old → key new ≡ key old → bytes new ≡ text
      → file (set entries at new) ≡ (λ other. cond (bytes_eq other name) (Some text) (file entries other))
  file-set entries at old new name text found there same_key same_text =
      let here = position-Some (is_of name) entries at old found in
      let is : key new ≡ name = same_key ∙ ap key there ∙ same_name _ _ here.1 in
      λ i other. (written_at entries at old new name other here.0 here.1 here.2 is ∙ ap (λ t. cond (bytes_eq other name) (Some t) (file entries other)) same_text) i

  -- an entry of a name that none had comes behind them
  pub file-push : (entries : List E) (new : E) (name text : List ℕ)
      → position (is_of name) entries ≡ None → key new ≡ name → bytes new ≡ text
      → file (entries ++ new ∷ []) ≡ (λ other. cond (bytes_eq other name) (Some text) (file entries other))
  file-push entries new name text none is same_text =
      λ i other. (added entries new name other (absent (is_of name) entries new none) is ∙ ap (λ t. cond (bytes_eq other name) (Some t) (file entries other)) same_text) i
