-- Writing a text piece by piece: what is written so far, with what is left to write, is the whole.
use Rattle.std.specs.Prelude.{◌≡◌, refl, ℕ, ◌+◌, ◌<◌, [], ◌∷◌, ◌++◌, length, take, Result, Ok, Err}
use Rattle.std.proofs.Common.{sym, ◌∙◌, ap, subst, arith, append_assoc, length-append}
use Rattle.std.proofs.Math.Seq.{take-append_seam}
use Rattle.qk_meaning.specs.Value.{Text}
use Rattle.qk_html.specs.declared.writing.HtmlFault.{HtmlFault}
use Rattle.qk_html.specs.Appends.{Begins, Appends}

abbrev pub Wrote : Type 0
Wrote = Result (Unit {0}) HtmlFault

pub nothing_behind : (a : Text) → a ++ [] ≡ a
nothing_behind [] = refl
nothing_behind (b ∷ a) = ap (λ rest. b ∷ rest) (nothing_behind a)

-- ---- fronts

itself : (a : Text) → Begins a a
unfolding Begins
itself a = ([], sym (nothing_behind a))

longer : (a b t : Text) → Begins a b → Begins a (b ++ t)
unfolding Begins
longer a b t h = (h.0 ++ t, ap (λ x. x ++ t) h.1 ∙ append_assoc a h.0 t)

chained : (a b c : Text) → Begins a b → Begins b c → Begins a c
unfolding Begins
chained a b c h k = (h.0 ++ k.0, k.1 ∙ ap (λ t. t ++ k.0) h.1 ∙ append_assoc a h.0 k.0)

-- what is cut to the length of its front is its front
pub front_left : (a b : Text) → Begins a b → take (length a) b ≡ a
unfolding Begins
front_left a b h = ap (take (length a)) h.1 ∙ take-append_seam a h.0

-- ---- one piece

pub nothing : {most : ℕ} (old : Text) → Appends [] most old old (Ok tt)
nothing old = record { all = sym (nothing_behind old); within = λ h. h; over = tt; front = tt }

pub refused : {text : Text} {most : ℕ} (old new : Text) (f : HtmlFault) → (f ≡ HtmlFault.TooLong → most < length old + length text) → new ≡ old → Appends text most old new (Err f)
refused old new f h e = record { all = tt; within = tt; over = h; front = subst (Begins old) (sym e) (itself old) }

pub of_same : {a b : Text} {most : ℕ} {old new : Text} {r : Wrote} → a ≡ b → Appends a most old new r → Appends b most old new r
of_same {most = most} {old = old} {new = new} {r = r} e h = subst (λ t. Appends t most old new r) e h

-- ---- two pieces

lengths : (old a b mid : Text) → mid ≡ old ++ a → length mid + length b ≡ length old + length (a ++ b)
lengths old a b mid e = omega (arith, ap length e, length-append old a, length-append a b)

-- a piece that was written, and what came of the rest
pub both : {a b : Text} {most : ℕ} {old mid new : Text} {r : Wrote} → Appends a most old mid (Ok tt) → Appends b most mid new r → Appends (a ++ b) most old new r
both {a = a} {b = b} {most = most} {old = old} {mid = mid} {new = new} {r = r} h k = by r k
  where
    by : (r : Wrote) → Appends b most mid new r → Appends (a ++ b) most old new r
    by (Ok _) k = record { all = k.all ∙ ap (λ t. t ++ b) h.all ∙ append_assoc old a b; within = λ fits. k.within (h.within fits); over = tt; front = tt }
    by (Err f) k = record {
      all = tt;
      within = tt;
      over = λ is. omega (arith, k.over is, lengths old a b mid h.all);
      front = chained old mid new (subst (Begins old) (sym h.all) (longer old old a (itself old))) k.front;
    }

-- a piece that wasn't written, in front of a rest
pub stops : {a : Text} (b : Text) {most : ℕ} {old new : Text} {r : Wrote} {f : HtmlFault} → r ≡ Err f → Appends a most old new (Err f) → Appends (a ++ b) most old new r
stops {a = a} b {most = most} {old = old} {new = new} e h =
    subst (λ q. Appends (a ++ b) most old new q) (sym e) (record { all = tt; within = tt; over = λ is. omega (arith, h.over is, length-append a b); front = h.front })
