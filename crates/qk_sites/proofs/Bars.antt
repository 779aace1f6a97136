-- What stands before the first `_` of a text, and what stands behind it.
use Rattle.std.proofs.Common.{◌≡◌, ◌≢◌, ◌<◌, ℕ, suc, [], ◌∷◌, ◌++◌, refl, ap, subst, ◌∙◌, arith, true, false, Bool, ◌&&◌, ◌||◌, ◌==◌, length, get_or}
use Rattle.std.proofs.lemmas.Bool.{false≢true}
use Rattle.qk_ast.specs.Characters.{every, is_small_letter, is_digit}
use Rattle.qk_ast.specs.Texts.{Text}
use Rattle.qk_ast.specs.Framework.{is_module_name, before_bar, behind_bar}
use Rattle.qk_ast.proofs.FrontToken.{left, right}
use Rattle.qk_ast.proofs.Pieces.{nat_is}
use Rattle.qk_sites.proofs.Decimals.{differs}

-- the text has no `_`
abbrev pub Barless : Text → Type 0
Barless [] = Unit {0}
Barless (c ∷ cs) = ((c == 95) ≡ false) × Barless cs

pub barless : (cs : Text) → ((i : ℕ) → i < length cs → get_or cs i 0 ≢ 95) → Barless cs
barless [] h = tt
barless (c ∷ cs) h = (differs c 95 (h 0 (omega arith)), barless cs (λ i below. h (suc i) (omega (arith, below))))

pub before_first_bar : (m rest : Text) → Barless m → before_bar (m ++ 95 ∷ rest) ≡ m
before_first_bar [] rest h = refl
before_first_bar (c ∷ m) rest h = ap (λ b. elim b [ true ↦ [] | false ↦ c ∷ before_bar (m ++ 95 ∷ rest) ]) h.0 ∙ ap (λ t. c ∷ t) (before_first_bar m rest h.1)

pub behind_first_bar : (m rest : Text) → Barless m → behind_bar (m ++ 95 ∷ rest) ≡ rest
behind_first_bar [] rest h = refl
behind_first_bar (c ∷ m) rest h = ap (λ b. elim b [ true ↦ m ++ 95 ∷ rest | false ↦ behind_bar (m ++ 95 ∷ rest) ]) h.0 ∙ behind_first_bar m rest h.1

pub behind_no_bar : (t : Text) → Barless t → behind_bar t ≡ []
behind_no_bar [] h = refl
behind_no_bar (c ∷ t) h = ap (λ b. elim b [ true ↦ t | false ↦ behind_bar t ]) h.0 ∙ behind_no_bar t h.1

-- something stands behind the bar, so the text is what stands on both sides
pub joined : (t : Text) (c : ℕ) (cs : Text) → behind_bar t ≡ c ∷ cs → t ≡ before_bar t ++ 95 ∷ behind_bar t
joined [] c cs h = absurd (nothing h)
  where
    nothing : [] ≡ c ∷ cs → ⊥
    nothing e = cc
joined (x ∷ t) c cs h = by (x == 95) refl h (joined t c cs)
  where
    by : (b : Bool) → (x == 95) ≡ b → elim b [ true ↦ t | false ↦ behind_bar t ] ≡ c ∷ cs → (behind_bar t ≡ c ∷ cs → t ≡ before_bar t ++ 95 ∷ behind_bar t)
        → ◌≡◌ {A = Text} (x ∷ t) (elim b [ true ↦ [] | false ↦ x ∷ before_bar t ] ++ 95 ∷ elim b [ true ↦ t | false ↦ behind_bar t ])
    by true e h rest = ap (λ y. y ∷ t) (nat_is x 95 e)
    by false e h rest = ap (λ u. x ∷ u) (rest h)

-- ---- a module's name has no bar

plain : (c : ℕ) → (is_small_letter c || is_digit c) ≡ true → (c == 95) ≡ false
plain c h = differs c 95 (λ e. absurd (false≢true (subst (λ x. (is_small_letter x || is_digit x) ≡ true) e h)))

letter : (c : ℕ) → is_small_letter c ≡ true → (is_small_letter c || is_digit c) ≡ true
letter c h = ap (λ b. b || is_digit c) h

plain_all : (cs : Text) → every (λ d. is_small_letter d || is_digit d) cs ≡ true → Barless cs
plain_all [] h = tt
plain_all (c ∷ cs) h = (plain c (left (is_small_letter c || is_digit c) _ h), plain_all cs (right (is_small_letter c || is_digit c) _ h))

pub name_barless : (m : Text) → is_module_name m ≡ true → Barless m
name_barless [] h = absurd (false≢true h)
name_barless (c ∷ cs) h = let front = left (is_small_letter c && every (λ d. is_small_letter d || is_digit d) cs) _ h in
    (plain c (letter c (left (is_small_letter c) _ front)), plain_all cs (right (is_small_letter c) _ front))
