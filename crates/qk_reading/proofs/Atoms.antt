-- What is written is read: atoms, and what reads them.
use Rattle.std.proofs.Common.{◌≡◌, refl, sym, subst, arith, inl, inr, eq-or-lt_of_le}
use Rattle.std.specs.Prelude.{ℕ, zero, suc, ◌+◌, ◌≤◌, ◌<◌, Bool, true, false, List, [], ◌∷◌, ◌++◌, length, Option, Some, None, ⊤, codes}
use borrow.Author.Tests.{le-leb}
use lib.Dec.{leb→le, T}
use Rattle.qk_ast.specs.declared.Form.{Form}
use Rattle.qk_ast.specs.Characters.{Characters}
use Rattle.qk_ast.specs.Tokens.{Token, Piece}
use Rattle.qk_ast.specs.Grammar.{Expression, Undefined, Null, Truth, Number, Quoted, Named, Whole, Bracketed}
use Rattle.qk_ast.specs.Spelling.{tokens}
use Rattle.qk_ast.specs.Depth.{inside, depth}
use Rattle.qk_ast.specs.Tree.{arrows, tree}
use Rattle.qk_ast.specs.Rules.{tightness, binds, keeps}
use Rattle.qk_reading.specs.Input.{Input, at, Outcome, Reader, reading, headed, Sign, first_is, sees, after, expect, many_from, separated_from, collected_from}
use Rattle.qk_reading.specs.Ahead.{known_ahead}
use Rattle.qk_reading.specs.Forms.{head, atom, bracketed, nested, postfix, unary}
use Rattle.qk_reading.specs.Reader.{nesting}
use Rattle.qk_reading.proofs.Framed.{framed}
use Rattle.qk_reading.proofs.Follow.{Ends, NoArrowSign, ends_weaker, first_not, binds_plain, arrowless, tight_opens}
use Rattle.qk_reading.proofs.Counted.{counted, kind}
use Rattle.qk_reading.proofs.Reached.{Reaches, reached, deep, reach_then, reader_at, climb, unary_plain, postfix_alone}

pub moved : {A : Type 0} {D : Type 0} {x : A} {ts : List Token} {o : Outcome A} (n m : ℕ) → m ≡ n → Reaches D x (at ts n) o → Reaches D x (at ts m) o
moved {D = D} {x = x} {ts = ts} {o = o} n m e r = subst (λ n. Reaches D x (at ts n) o) (sym e) r

pub binds_le : (k : ℕ) (x : Expression) → binds k x ≡ true → k ≤ tightness x
binds_le k x h = leb→le k (tightness x) (subst T (sym h) tt)

pub le_binds : (k : ℕ) (x : Expression) → k ≤ tightness x → binds k x ≡ true
le_binds k x h = le-leb k (tightness x) h

pub no_arrow_sign : (ts : List Token) → Ends 9 ts → NoArrowSign ts
no_arrow_sign ts e = first_not (codes "=>") 9 ts (omega arith) e

-- one more turn of a loop
pub many_step : {A : Type 0} {D : Type 0} {r : List A} {k : Input} (step : Reader (Option A)) (fuel : ℕ) (so_far : List A) (x : A) (i j : Input)
    → length i.tokens ≤ fuel → length j.tokens < length i.tokens → Reaches D (Some x) j (step i)
    → ((fuel' : ℕ) → length j.tokens ≤ fuel' → Reaches D r k (many_from step fuel' (so_far ++ x ∷ []) j)) → Reaches D r k (many_from step fuel so_far i)
unfolding many_from
many_step step zero so_far x i j f l r k = absurd (omega (arith, f, l))
many_step step (suc fuel) so_far x i j f l r k = reach_then _ r (k fuel (omega (arith, f, l)))

pub separated_step : {A : Type 0} {D : Type 0} {r : List A × Bool} {k : Input} (closing : Characters) (element : Reader A) (fuel : ℕ) (so_far : List A) (x : A) (i j : Input)
    → first_is (Sign closing) i.tokens ≡ false
    → length i.tokens ≤ fuel → 1 + length j.tokens < length i.tokens → Reaches D x (at (Token.Punct (codes ",") ∷ j.tokens) j.arrows) (element i)
    → ((fuel' : ℕ) → length j.tokens ≤ fuel' → Reaches D r k (separated_from (Sign closing) element fuel' (so_far ++ x ∷ []) j)) → Reaches D r k (separated_from (Sign closing) element fuel so_far i)
unfolding separated_from sees after
separated_step closing element zero so_far x i j s f l r k = absurd (omega (arith, f, l))
separated_step closing element (suc fuel) so_far x i j s f l r k = rw s (reach_then _ r (k fuel (omega (arith, f, l))))

pub separated_last : {A : Type 0} {D : Type 0} (closing : Characters) (element : Reader A) (fuel : ℕ) (so_far : List A) (x : A) (i j : Input)
    → first_is (Sign closing) i.tokens ≡ false → first_is (Sign (codes ",")) j.tokens ≡ false
    → length i.tokens ≤ fuel → length j.tokens < length i.tokens → Reaches D x j (element i)
    → Reaches D (so_far ++ x ∷ [], false) j (separated_from (Sign closing) element fuel so_far i)
unfolding separated_from sees after
separated_last closing element zero so_far x i j s c f l r = absurd (omega (arith, f, l))
separated_last closing element (suc fuel) so_far x i j s c f l r = rw s (reach_then _ r (rw c reached))

pub separated_end : {A : Type 0} {D : Type 0} (closing : Characters) (element : Reader A) (fuel : ℕ) (so_far : List A) (i : Input)
    → first_is (Sign closing) i.tokens ≡ true → length i.tokens ≤ fuel → 1 ≤ length i.tokens → Reaches D (so_far, true) i (separated_from (Sign closing) element fuel so_far i)
unfolding separated_from sees
separated_end closing element zero so_far i s f l = absurd (omega (arith, f, l))
separated_end closing element (suc fuel) so_far i s f l = rw s reached

pub collected_step : {A : Type 0} {D : Type 0} {r : List A × Bool} {k : Input} (closing : Characters) (element : List A → Reader A) (fuel : ℕ) (so_far : List A) (x : A) (i j : Input)
    → first_is (Sign closing) i.tokens ≡ false
    → length i.tokens ≤ fuel → 1 + length j.tokens < length i.tokens → Reaches D x (at (Token.Punct (codes ",") ∷ j.tokens) j.arrows) (element so_far i)
    → ((fuel' : ℕ) → length j.tokens ≤ fuel' → Reaches D r k (collected_from (Sign closing) element fuel' (so_far ++ x ∷ []) j)) → Reaches D r k (collected_from (Sign closing) element fuel so_far i)
unfolding collected_from sees after
collected_step closing element zero so_far x i j s f l r k = absurd (omega (arith, f, l))
collected_step closing element (suc fuel) so_far x i j s f l r k = rw s (reach_then _ r (k fuel (omega (arith, f, l))))

pub collected_last : {A : Type 0} {D : Type 0} (closing : Characters) (element : List A → Reader A) (fuel : ℕ) (so_far : List A) (x : A) (i j : Input)
    → first_is (Sign closing) i.tokens ≡ false → first_is (Sign (codes ",")) j.tokens ≡ false
    → length i.tokens ≤ fuel → length j.tokens < length i.tokens → Reaches D x j (element so_far i)
    → Reaches D (so_far ++ x ∷ [], false) j (collected_from (Sign closing) element fuel so_far i)
unfolding collected_from sees after
collected_last closing element zero so_far x i j s c f l r = absurd (omega (arith, f, l))
collected_last closing element (suc fuel) so_far x i j s c f l r = rw s (reach_then _ r (rw c reached))

pub collected_end : {A : Type 0} {D : Type 0} (closing : Characters) (element : List A → Reader A) (fuel : ℕ) (so_far : List A) (i : Input)
    → first_is (Sign closing) i.tokens ≡ true → length i.tokens ≤ fuel → 1 ≤ length i.tokens → Reaches D (so_far, true) i (collected_from (Sign closing) element fuel so_far i)
unfolding collected_from sees
collected_end closing element zero so_far i s f l = absurd (omega (arith, f, l))
collected_end closing element (suc fuel) so_far i s f l = rw s reached

-- a name that is read as one: no known call begins with it
abbrev pub Unknown : Expression → List Token → Type 0
Unknown (Named a) rest = known_ahead (Token.Name a ∷ rest) ≡ None
Unknown _ rest = ⊤

name_unknown : (a : Characters) (ts : List Token) → Ends 8 ts → known_ahead (Token.Name a ∷ ts) ≡ None
unfolding known_ahead
name_unknown a [] e = refl
name_unknown a (Token.Punct c ∷ ts) e =
    let p = first_not (codes "(") 8 (Token.Punct c ∷ ts) (omega arith) e in
    let d = first_not (codes ".") 8 (Token.Punct c ∷ ts) (omega arith) e in
    rw (p, d) refl
name_unknown a (Token.Name c ∷ ts) e = refl
name_unknown a (Token.Reserved c ∷ ts) e = refl
name_unknown a (Token.Int c ∷ ts) e = refl
name_unknown a (Token.Text q c ∷ ts) e = refl
name_unknown a (Token.Attribute q c ∷ ts) e = refl
name_unknown a (Token.Template f c t ∷ ts) e = refl
name_unknown a (Token.Begin c ∷ ts) e = refl
name_unknown a (Token.JsxText c ∷ ts) e = refl

unknown : (x : Expression) (ts : List Token) → Ends 8 ts → Unknown x ts
unknown (Named a) ts e = name_unknown a ts e
unknown x ts e = tt

module _ (D : Type 0) (form : Form) where
  -- what binds so tightly at least is read so
  abbrev pub Reads : Expression → Type 0
  Reads x = (room least n m : ℕ) (rest : List Token) → (room < depth x → D) → least ≤ 8 → binds least x ≡ true → m ≡ n + arrows (tokens x) → Ends least rest
      → Reaches D (reading (tree n x) (kind x)) (at rest m) (reader_at form room least (at (tokens x rest) n))

  -- the same, one level further in
  abbrev pub Nests : Expression → Type 0
  Nests x = (room n m : ℕ) (rest : List Token) → (room < inside (depth x) → D) → m ≡ n + arrows (tokens x) → Ends 0 rest
      → Reaches D (tree n x) (at rest m) (nested form room (nesting form room) (at (tokens x rest) n))

  abbrev pub Heads : Expression → Type 0
  Heads x = (room n m : ℕ) (rest : List Token) → (room < depth x → D) → m ≡ n + arrows (tokens x) → Unknown x rest
      → Reaches D (headed (tree n x) (kind x) []) (at rest m) (head form room (nesting form room) (at (tokens x rest) n))

  pub nests : (x : Expression) → Reads x → Nests x
  unfolding nesting
  nests x h zero n m rest d e f = deep (d (omega arith))
  nests x h (suc room) n m rest d e f = reach_then _ (h room 0 n m rest (λ l. d (omega (arith, l))) (omega arith) (le_binds 0 x (omega arith)) e f) reached

  -- from a postfix form to what binds less
  pub from_postfix : (x : Expression) → keeps form x → binds 8 x ≡ true → (room least n m : ℕ) (rest : List Token) → least ≤ 8 → Ends least rest
      → Reaches D (reading (tree n x) (kind x)) (at rest m) (postfix form room (nesting form room) (at (tokens x rest) n))
      → Reaches D (reading (tree n x) (kind x)) (at rest m) (reader_at form room least (at (tokens x rest) n))
  from_postfix x ke b room least n m rest l f p = elim (eq-or-lt_of_le l) [
    | inl e ↦ subst (λ k. Reaches D (reading (tree n x) (kind x)) (at rest m) (reader_at form room k (at (tokens x rest) n))) (sym e) p
    | inr h ↦ climb D form room 7 (omega arith) (at (tokens x rest) n) (at rest m) (reading (tree n x) (kind x))
        (unary_plain D form room (at (tokens x rest) n) (at rest m) (reading (tree n x) (kind x)) p (tight_opens form x ke b rest))
        least (omega (arith, h)) f (arrowless form x ke (binds_plain 7 x b) rest (no_arrow_sign rest (ends_weaker least 9 rest (omega (arith, l)) f)))
  ]

  -- from a unary operator to what binds less
  pub from_unary : (x : Expression) → keeps form x → binds 7 x ≡ true
      → ((room n m : ℕ) (rest : List Token) → (room < depth x → D) → m ≡ n + arrows (tokens x) → Ends 7 rest → Reaches D (reading (tree n x) (kind x)) (at rest m) (unary form room (nesting form room) (at (tokens x rest) n)))
      → tightness x ≡ 7 → Reads x
  from_unary x ke b p t room least n m rest d l bl e f =
      let le : least ≤ 7 = let k = binds_le least x bl in omega (arith, k, t) in
      climb D form room 7 (omega arith) (at (tokens x rest) n) (at rest m) (reading (tree n x) (kind x)) (p room n m rest d e (ends_weaker least 7 rest le f)) least le f
      (arrowless form x ke (binds_plain 6 x b) rest (no_arrow_sign rest (ends_weaker least 9 rest (omega (arith, l)) f)))

  pub from_head : (x : Expression) → keeps form x → binds 9 x ≡ true → Heads x → Reads x
  from_head x ke b h room least n m rest d l bl e f =
      from_postfix x ke (le_binds 8 x (let k = binds_le 9 x b in omega (arith, k))) room least n m rest l f
      (postfix_alone D form room (at (tokens x rest) n) (at rest m) (tree n x) (kind x) (h room n m rest d e (unknown x rest (ends_weaker least 8 rest l f))) (ends_weaker least 8 rest l f))

  -- ---- atoms of one token

  pub undefined_heads : Heads Undefined
  unfolding head known_ahead atom
  undefined_heads room n m rest d e u = moved n m (omega (arith, e)) reached

  pub null_heads : Heads Null
  unfolding head known_ahead atom
  null_heads room n m rest d e u = moved n m (omega (arith, e)) reached

  pub truth_heads : (b : Bool) → Heads (Truth b)
  unfolding head known_ahead atom
  truth_heads true room n m rest d e u = moved n m (omega (arith, e)) reached
  truth_heads false room n m rest d e u = moved n m (omega (arith, e)) reached

  pub number_heads : (a : Characters) → Heads (Number a)
  unfolding head known_ahead atom
  number_heads a room n m rest d e u = moved n m (omega (arith, e)) reached

  pub quoted_heads : (q : ℕ) (ps : List Piece) → Heads (Quoted q ps)
  unfolding head known_ahead atom
  quoted_heads q ps room n m rest d e u = moved n m (omega (arith, e)) reached

  pub whole_heads : (ps : List Piece) → Heads (Whole ps)
  unfolding head known_ahead atom
  whole_heads ps room n m rest d e u = moved n m (omega (arith, e)) reached

  pub named_heads : (a : Characters) → Heads (Named a)
  unfolding head atom
  named_heads a room n m rest d e u = rw u (moved n m (omega (arith, e)) reached)

  -- ---- brackets

  pub bracketed_heads : (x : Expression) → Nests x → Heads (Bracketed x)
  unfolding head known_ahead atom bracketed expect sees
  bracketed_heads x h room n m rest d e u =
      let c = counted (framed x) (Token.Punct (codes ")") ∷ []) in
      reach_then _ (reach_then _ (reach_then _ (h room n m (Token.Punct (codes ")") ∷ rest) d (omega (arith, e, c)) (omega arith)) reached) reached) reached
