-- A step up or down from an integer.
use Rattle.std.specs.Prelude.{◌≡◌, refl, ℕ, zero, suc, ◌+◌, ◌-◌, ◌≤◌, ℤ, pos, negsuc, ◌+ℤ◌, ◌-ℤ◌, nat_abs, Bool, true, false}
use Rattle.std.proofs.Common.{ap, ◌∙◌, arith}
use mathlib.Core.Bool.{cond}
use Rattle.std.proofs.lemmas.Bool.{le-leb, ne_eqb, lt-ltb, le-ltb}
use Rattle.qk_meaning.specs.Value.{Int}
use Rattle.qk_meaning.specs.Operators.{safe, Is}
use Rattle.qk_meaning.specs.Same.{same_integer}
use Rattle.qk_first.specs.Counter.{moved}

up_below : (m : ℕ) → negsuc (suc m) +ℤ pos 1 ≡ negsuc m
up_below m = ap (λ (b : Bool). cond b (negsuc (suc (suc m) - 2)) (pos (1 - suc (suc m)))) (lt-ltb 1 (suc (suc m)) (omega arith)) ∙ ap negsuc (omega arith)

down_above : (m : ℕ) → pos (suc m) -ℤ pos 1 ≡ pos m
down_above m = ap (λ (b : Bool). cond b (negsuc (1 - suc (suc m))) (pos (suc m - 1))) (le-ltb (suc m) 1 (omega arith)) ∙ ap pos (omega arith)

pub differs : (up : Bool) (v : ℤ) → same_integer v (moved up v) ≡ false
differs true (pos n) = ne_eqb n (n + 1) (λ h. omega arith)
differs true (negsuc zero) = refl
differs true (negsuc (suc m)) = ap (λ (u : ℤ). same_integer (negsuc (suc m)) u) (up_below m) ∙ ne_eqb (suc m) m (λ h. omega arith)
differs false (pos zero) = refl
differs false (pos (suc m)) = ap (λ (u : ℤ). same_integer (pos (suc m)) u) (down_above m) ∙ ne_eqb (suc m) m (λ h. omega arith)
differs false (negsuc n) = ne_eqb n (suc (n + 0)) (λ h. omega arith)

pub near : (up : Bool) (v : ℤ) → nat_abs (moved up v) ≤ suc (nat_abs v)
near true (pos n) = omega arith
near true (negsuc zero) = omega arith
near true (negsuc (suc m)) = omega (arith, ap nat_abs (up_below m))
near false (pos zero) = omega arith
near false (pos (suc m)) = omega (arith, ap nat_abs (down_above m))
near false (negsuc n) = omega arith

pub is_safe : (up : Bool) (v : ℤ) (room : ℕ) → nat_abs v + suc room ≤ 2000000 → safe (moved up v) ≡ Is (Int (moved up v))
is_safe up v room h = rw (le-leb (nat_abs (moved up v)) 9007199254740991 (omega (arith, near up v)), safe)
