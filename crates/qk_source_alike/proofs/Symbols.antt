-- A symbol names one site.
use Rattle.std.specs.Prelude.{◌≡◌, refl, ℕ, zero, suc, ◌+◌, ◌/◌, ◌%◌, ◌^◌, ◌<◌, ◌≤◌, ltb, Bool, true, false, not, ◌&&◌, nat_le, [], ◌∷◌, ◌==◌}
use Rattle.std.proofs.Common.{sym, ◌∙◌, ap, subst, arith}
use Rattle.std.proofs.Math.Nat.{pow-suc}
use Rattle.std.proofs.lemmas.Bool.{le-leb, leb-true, ltb-true, eqb-true}
use Rattle.std.proofs.lemmas.Slice.Eq.{bytes_eq-Decides}
use Rattle.qk_ast.specs.Characters.{Characters, is_digit, digit_value, number_after}
use Rattle.qk_ast.specs.Texts.{same_text, digits_before, decimal}
use Rattle.qk_ast.specs.Framework.{is_module_name, before_bar, behind_bar, behind_s}
use Rattle.qk_ast.specs.Placing.{most_sites}
use Rattle.qk_ast.proofs.FrontToken.{left, right}
use Rattle.qk_meaning.specs.Value.{Site}
use Rattle.qk_meaning.specs.Same.{same_truth, same_site}
use Rattle.qk_meaning.specs.Program.{symbol_of}
use Rattle.qk_meaning.specs.Readings.{site_spelled}
use Rattle.qk_sites.proofs.Bars.{before_first_bar, behind_first_bar, name_barless}
use Rattle.qk_alike.proofs.Sames.{not_both}
use Rattle.qk_source_alike.specs.Accepted.{lifts_in_source, stays_in_source}

both : (b c : Bool) → b ≡ true → c ≡ true → (b && c) ≡ true
both true c e f = f
both false c e f = e

-- ---- digits are read as the number

digit_is : (d : ℕ) → d < 10 → digit_value (48 + d) ≡ d
digit_is d h =
    let e : is_digit (48 + d) ≡ true = both (nat_le 48 (48 + d)) (nat_le (48 + d) 57) (le-leb 48 (48 + d) (omega arith)) (le-leb (48 + d) 57 (omega arith)) in
    rw e (omega arith)

digits_read : (most n : ℕ) (after : Characters) → n < 10 ^ most → number_after 10 0 (digits_before most n after) ≡ number_after 10 n after
digits_read zero n after h = ap (λ k. number_after 10 k after) (omega (arith, h))
digits_read (suc most) n after h = go (ltb n 10) refl (digits_read most (n / 10) ((48 + n % 10) ∷ after) (omega (arith, h, pow-suc 10 most)))
  where
    go : (b : Bool) → ltb n 10 ≡ b → number_after 10 0 (digits_before most (n / 10) ((48 + n % 10) ∷ after)) ≡ number_after 10 (n / 10) ((48 + n % 10) ∷ after)
        → number_after 10 0 (digits_before (suc most) n after) ≡ number_after 10 n after
    go true e k = rw (e, digits_before) (ap (λ k. number_after 10 k after) (let d = digit_is n (ltb-true n 10 e) in omega (arith, d)))
    go false e k = rw (e, digits_before) (k ∙ ap (λ k. number_after 10 k after) (let d = digit_is (n % 10) (omega arith) in omega (arith, d)))

number_read : (n : ℕ) → n ≤ 4096 → number_after 10 0 (decimal n) ≡ n
number_read n h = digits_read 64 n [] (omega (arith, h))

-- ---- the site that a symbol spells

pub spelled_back : (s : Site) → lifts_in_source s ≡ true → site_spelled (symbol_of s) ≡ s
spelled_back s h = λ i. record { file = file i; number = number i; dollar = dollar i }
  where
    named : is_module_name s.file ≡ true
    named = left (is_module_name s.file) (nat_le s.number most_sites) (right s.dollar (is_module_name s.file && nat_le s.number most_sites) h)

    few : s.number ≤ 4096
    few = leb-true s.number 4096 (right (is_module_name s.file) (nat_le s.number most_sites) (right s.dollar (is_module_name s.file && nat_le s.number most_sites) h))

    file : before_bar (symbol_of s) ≡ s.file
    file = before_first_bar s.file (115 ∷ decimal s.number) (name_barless s.file named)

    number : number_after 10 0 (behind_s (behind_bar (symbol_of s))) ≡ s.number
    number = ap (λ t. number_after 10 0 (behind_s t)) (behind_first_bar s.file (115 ∷ decimal s.number) (name_barless s.file named)) ∙ number_read s.number few

    dollar : true ≡ s.dollar
    dollar = sym (left s.dollar (is_module_name s.file && nat_le s.number most_sites) h)

-- ---- same sites

truth_is : (a b : Bool) → same_truth a b ≡ true → a ≡ b
truth_is true true e = refl
truth_is false false e = refl
truth_is true false e = absurd (not_both (sym e))
truth_is false true e = absurd (not_both (sym e))

pub site_is_same : (s u : Site) → same_site s u ≡ true → s ≡ u
site_is_same s u h = λ i. record { file = file i; number = number i; dollar = dollar i }
  where
    front : (same_text s.file u.file && (s.number == u.number)) ≡ true
    front = left (same_text s.file u.file && (s.number == u.number)) (same_truth s.dollar u.dollar) h

    file : s.file ≡ u.file
    file = (bytes_eq-Decides s.file u.file).0 (left (same_text s.file u.file) (s.number == u.number) front)

    number : s.number ≡ u.number
    number = eqb-true s.number u.number (right (same_text s.file u.file) (s.number == u.number) front)

    dollar : s.dollar ≡ u.dollar
    dollar = truth_is s.dollar u.dollar (right (same_text s.file u.file && (s.number == u.number)) (same_truth s.dollar u.dollar) h)

truth_itself : (b : Bool) → same_truth b b ≡ true
truth_itself true = refl
truth_itself false = refl

same_number : (n : ℕ) → (n == n) ≡ true
same_number n = grind arith

pub site_itself : (s : Site) → same_site s s ≡ true
site_itself s = both (same_text s.file s.file && (s.number == s.number)) _ (both (same_text s.file s.file) _ ((bytes_eq-Decides s.file s.file).1 refl) (same_number s.number)) (truth_itself s.dollar)

pub symbols_one : (s u : Site) → lifts_in_source s ≡ true → lifts_in_source u ≡ true → same_site s u ≡ same_text (symbol_of s) (symbol_of u)
symbols_one s u h k = go (same_site s u) (same_text (symbol_of s) (symbol_of u)) refl refl
  where
    go : (b c : Bool) → same_site s u ≡ b → same_text (symbol_of s) (symbol_of u) ≡ c → b ≡ c
    go true true e f = refl
    go false false e f = refl
    go true false e f = absurd (not_both (sym ((bytes_eq-Decides (symbol_of s) (symbol_of u)).1 (ap symbol_of (site_is_same s u e))) ∙ f))
    go false true e f =
        absurd (not_both (sym (subst (λ z. same_site s z ≡ true) (sym (spelled_back s h) ∙ (ap site_spelled ((bytes_eq-Decides (symbol_of s) (symbol_of u)).0 f) ∙ spelled_back u k)) (site_itself s)) ∙ e))

pub kinds_apart : (s u : Site) → lifts_in_source s ≡ true → stays_in_source u ≡ true → (same_site s u ≡ false) × (same_site u s ≡ false)
kinds_apart s u h k = (by (same_site s u) (λ e. ap (λ z. z.dollar) (site_is_same s u e)), by (same_site u s) (λ e. sym (ap (λ z. z.dollar) (site_is_same u s e))))
  where
    opposite : (b c : Bool) → b ≡ true → not c ≡ true → b ≡ c → ⊥
    opposite b true p q e = not_both (sym q)
    opposite b false p q e = not_both (sym p ∙ e)

    by : (b : Bool) → (b ≡ true → s.dollar ≡ u.dollar) → b ≡ false
    by false e = refl
    by true e = absurd (opposite s.dollar u.dollar (left s.dollar (is_module_name s.file && nat_le s.number most_sites) h) k (e refl))
