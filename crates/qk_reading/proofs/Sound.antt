-- What is read is written by the rules: the steps, the loops, and the lists that hold expressions.
use Rattle.std.proofs.Common.{◌≡◌, refl, sym, ◌∙◌, ap, subst, arith, append_assoc, append-nil}
use Rattle.std.specs.Prelude.{ℕ, zero, suc, ◌+◌, ◌-◌, ◌≤◌, ◌<◌, max, Bool, true, false, List, [], ◌∷◌, ◌++◌, length, Option, Some, None, Ok, Err, codes}
use Rattle.qk_ast.specs.declared.Form.{Form}
use Rattle.qk_ast.specs.declared.Expr.{Expr}
use Rattle.qk_ast.specs.Characters.{Characters, same}
use Rattle.qk_ast.specs.Tokens.{Token}
use Rattle.qk_ast.specs.Grammar.{Expression, Arguments, No_argument, Only, Comma}
use Rattle.qk_ast.specs.Spelling.{Writing, ◌⨾◌, one, name as name_of, sign, word, tokens, arguments_tokens}
use Rattle.qk_ast.specs.Depth.{inside, depth, arguments_depth}
use Rattle.qk_ast.specs.Tree.{arrows, tree, arguments_tree}
use Rattle.qk_ast.specs.Rules.{keeps, arguments_keep, binds}
use Rattle.qk_reading.specs.Input.{Input, at, Outcome, Reader, and_then, Nested, Read, Mark, Sign, Word, Given, Start, token_of, first_is, rest, advance, sees, after, expect, name_that, enter, separated_from, separated, collected_from, collected, many_from, many, pure, maybe}
use Rattle.qk_reading.specs.Forms.{nested, args, bracketed}
use Rattle.qk_ast.proofs.FrontToken.{same_is}
use Rattle.qk_reading.proofs.Framed.{Framed, framed, comma_framed}
use Rattle.qk_reading.proofs.Follow.{by_bool, clash}
use Rattle.qk_reading.proofs.Counted.{counted, kind}
use Rattle.qk_reading.proofs.Lists.{ends_comma}

-- what is answered is so
pub data Sound {A : Type 0} (R : A → Input → Type 0) : Outcome A → Type 0 where
  read : {x : A} {j : Input} → R x j → Sound R (Ok (x, j))
  refused : {f : _} → Sound R (Err f)

pub sound_then : {A B : Type 0} {R : A → Input → Type 0} {S : B → Input → Type 0} {o : Outcome A} {f : A → Reader B}
    → Sound R o → ((x : A) (j : Input) → R x j → Sound S (f x j)) → Sound S (and_then o f)
sound_then (read {x = x} {j = j} r) k = k x j r
sound_then refused k = refused

pub implied : {A : Type 0} {R S : A → Input → Type 0} {o : Outcome A} → Sound R o → ((x : A) (j : Input) → R x j → S x j) → Sound S o
implied (read {x = x} {j = j} r) k = read (k x j r)
implied refused k = refused

-- between the two stands just what is written
pub record Spans (w : Writing) (i j : Input) : Type 0 where
  pub spelt : w j.tokens ≡ i.tokens
  pub count : j.arrows ≡ i.arrows + arrows w

pub spans_then : {a b : Writing} {i j k : Input} → Framed a → Spans a i j → Spans b j k → Spans (a ⨾ b) i k
spans_then {a} {b} f s t = record {
  spelt = ap a t.spelt ∙ s.spelt;
  count = let c = counted f (b []) in let p = s.count in let q = t.count in omega (arith, c, p, q);
}

pub mark_seen : (m : Mark) (ts : List Token) → first_is m ts ≡ true → token_of m ∷ rest ts ≡ ts
mark_seen m [] h = clash h refl
mark_seen (Sign s) (Token.Punct c ∷ ts) h = ap (λ c. Token.Punct c ∷ ts) (sym (same_is c s h))
mark_seen (Word s) (Token.Reserved c ∷ ts) h = ap (λ c. Token.Reserved c ∷ ts) (sym (same_is c s h))
mark_seen (Given s) (Token.Name c ∷ ts) h = ap (λ c. Token.Name c ∷ ts) (sym (same_is c s h))
mark_seen (Start s) (Token.Begin c ∷ ts) h = ap (λ c. Token.Begin c ∷ ts) (sym (same_is c s h))
mark_seen m (t ∷ ts) h = clash h refl

-- either the token comes next, or it doesn't
pub by_sees : {P : Type 0} (m : Mark) (i : Input) → arrows (one (token_of m)) ≡ 0
    → (sees m i ≡ true → after m i ≡ advance i → Spans (one (token_of m)) i (advance i) → P) → (sees m i ≡ false → after m i ≡ i → P) → P
unfolding sees after
by_sees m i u seen unseen = by_bool (first_is m i.tokens)
    (λ h. seen h (rw h refl) (record { spelt = mark_seen m i.tokens h; count = omega (arith, u) }))
    (λ h. unseen h (rw h refl))

pub expect_sound : (m : Mark) (i : Input) → arrows (one (token_of m)) ≡ 0 → Sound (λ _ j. Spans (one (token_of m)) i j) (expect m i)
unfolding expect
expect_sound m i u = by_sees m i u (λ s a p. rw s (read p)) (λ s a. rw s refused)

-- one token that stands here, given by its text
pub sign_here : (s a : Characters) (ts : List Token) (n : ℕ) → same a s ≡ true → arrows (sign s) ≡ 0 → Spans (sign s) (at (Token.Punct a ∷ ts) n) (at ts n)
sign_here s a ts n h u = record { spelt = ap (λ c. Token.Punct c ∷ ts) (sym (same_is a s h)); count = omega (arith, u) }

pub word_here : (w a : Characters) (ts : List Token) (n : ℕ) → same a w ≡ true → Spans (word w) (at (Token.Reserved a ∷ ts) n) (at ts n)
word_here w a ts n h = record { spelt = ap (λ c. Token.Reserved c ∷ ts) (sym (same_is a w h)); count = omega arith }

name_at : (passes : Characters → Bool) (ts : List Token) (n : ℕ) → Sound (λ a j. Spans (name_of a) (at ts n) j × (passes a ≡ true)) (name_that passes (at ts n))
unfolding name_that
name_at passes [] n = refused
name_at passes (Token.Name a ∷ ts) n = by_bool (passes a) (λ h. let sp : Spans (name_of a) (at (Token.Name a ∷ ts) n) (at ts n) = record { spelt = refl; count = omega arith } in rw h (read {j = at ts n} (sp, h))) (λ h. rw h refused)
name_at passes (t ∷ ts) n = refused

pub name_sound : (passes : Characters → Bool) (i : Input) → Sound (λ a j. Spans (name_of a) i j × (passes a ≡ true)) (name_that passes i)
name_sound passes i = name_at passes i.tokens i.arrows

pub enter_sound : (room : ℕ) (i : Input) → Sound (λ _ j. (i ≡ j) × (1 ≤ room)) (enter room i)
unfolding enter
enter_sound zero i = refused
enter_sound (suc room) i = read (refl, omega arith)

-- ---- loops

-- what stands between commas, up to a sign
pub data Run {A : Type 0} (closing : Mark) (E : List A → Input → A → Input → Type 0) : List A → Input → List A → Bool → Input → Type 0 where
  none : {so_far : List A} {i : Input} → sees closing i ≡ true → Run closing E so_far i [] true i
  last : {so_far : List A} {i j : Input} {x : A} → E so_far i x j → Run closing E so_far i (x ∷ []) false j
  more : {so_far : List A} {i j k l : Input} {x : A} {xs : List A} {c : Bool}
      → E so_far i x j → Spans (sign (codes ",")) j k → Run closing E (so_far ++ x ∷ []) k xs c l → Run closing E so_far i (x ∷ xs) c l

pub record Ran {A : Type 0} (closing : Mark) (E : List A → Input → A → Input → Type 0) (so_far : List A) (i : Input) (r : List A × Bool) (j : Input) : Type 0 where
  pub others : List A
  pub parts : so_far ++ others ≡ r.0
  pub run : Run closing E so_far i others r.1 j

pub separated_from_sound : {A : Type 0} (E : List A → Input → A → Input → Type 0) (closing : Mark) (element : Reader A)
    → ((so_far : List A) (i : Input) → Sound (E so_far i) (element i)) → (n : ℕ) (so_far : List A) (i : Input) → Sound (Ran closing E so_far i) (separated_from closing element n so_far i)
unfolding separated_from
separated_from_sound E closing element h zero so_far i = refused
separated_from_sound E closing element h (suc n) so_far i = by_bool (sees closing i)
    (λ s. rw s (read (record { others = []; parts = append-nil so_far; run = none s })))
    (λ s. rw s (sound_then (h so_far i) (λ x j r. by_sees (Sign (codes ",")) j refl
    (λ s a p. rw (s, a) (implied (separated_from_sound E closing element h n (so_far ++ x ∷ []) (advance j))
    (λ q k t. record { others = x ∷ t.others; parts = sym (append_assoc so_far (x ∷ []) t.others) ∙ t.parts; run = more r p t.run })))
    (λ s a. rw (s, a) (read (record { others = x ∷ []; parts = refl; run = last r }))))))

pub separated_sound : {A : Type 0} (E : List A → Input → A → Input → Type 0) (closing : Mark) (element : Reader A)
    → ((so_far : List A) (i : Input) → Sound (E so_far i) (element i)) → (i : Input) → Sound (Ran closing E [] i) (separated closing element i)
unfolding separated
separated_sound E closing element h i = separated_from_sound E closing element h (length i.tokens) [] i

pub collected_from_sound : {A : Type 0} (E : List A → Input → A → Input → Type 0) (closing : Mark) (element : List A → Reader A)
    → ((so_far : List A) (i : Input) → Sound (E so_far i) (element so_far i)) → (n : ℕ) (so_far : List A) (i : Input) → Sound (Ran closing E so_far i) (collected_from closing element n so_far i)
unfolding collected_from
collected_from_sound E closing element h zero so_far i = refused
collected_from_sound E closing element h (suc n) so_far i = by_bool (sees closing i)
    (λ s. rw s (read (record { others = []; parts = append-nil so_far; run = none s })))
    (λ s. rw s (sound_then (h so_far i) (λ x j r. by_sees (Sign (codes ",")) j refl
    (λ s a p. rw (s, a) (implied (collected_from_sound E closing element h n (so_far ++ x ∷ []) (advance j))
    (λ q k t. record { others = x ∷ t.others; parts = sym (append_assoc so_far (x ∷ []) t.others) ∙ t.parts; run = more r p t.run })))
    (λ s a. rw (s, a) (read (record { others = x ∷ []; parts = refl; run = last r }))))))

pub collected_sound : {A : Type 0} (E : List A → Input → A → Input → Type 0) (closing : Mark) (element : List A → Reader A)
    → ((so_far : List A) (i : Input) → Sound (E so_far i) (element so_far i)) → (i : Input) → Sound (Ran closing E [] i) (collected closing element i)
unfolding collected
collected_sound E closing element h i = collected_from_sound E closing element h (length i.tokens) [] i

-- ---- as long as there is one more

abbrev pub Maybe_read : {A : Type 0} → (Input → A → Input → Type 0) → Input → Option A → Input → Type 0
Maybe_read E i None j = i ≡ j
Maybe_read E i (Some x) j = E i x j

pub data Many {A : Type 0} (E : Input → A → Input → Type 0) : Input → List A → Input → Type 0 where
  no_more : {i : Input} → Many E i [] i
  one_more : {i j k : Input} {x : A} {xs : List A} → E i x j → Many E j xs k → Many E i (x ∷ xs) k

pub record Many_read {A : Type 0} (E : Input → A → Input → Type 0) (so_far : List A) (i : Input) (ys : List A) (j : Input) : Type 0 where
  pub others : List A
  pub parts : so_far ++ others ≡ ys
  pub run : Many E i others j

pub many_from_sound : {A : Type 0} (E : Input → A → Input → Type 0) (step : Reader (Option A)) → ((i : Input) → Sound (Maybe_read E i) (step i)) → (n : ℕ) (so_far : List A) (i : Input)
    → Sound (Many_read E so_far i) (many_from step n so_far i)
unfolding many_from
many_from_sound E step h zero so_far i = read (record { others = []; parts = append-nil so_far; run = no_more })
many_from_sound E step h (suc n) so_far i = sound_then (h i) (λ o j r. elim o as (λ o. Maybe_read E i o j → Sound (Many_read E so_far i) (maybe o (pure so_far) (λ x. many_from step n (so_far ++ x ∷ [])) j)) [
  | None ↦ λ r. read (record { others = []; parts = append-nil so_far; run = subst (λ j. Many E i [] j) r no_more })
  | Some x ↦ λ r. implied (many_from_sound E step h n (so_far ++ x ∷ []) j) (λ ys k t. record { others = x ∷ t.others; parts = sym (append_assoc so_far (x ∷ []) t.others) ∙ t.parts; run = one_more r t.run })
] r)

pub many_sound : {A : Type 0} (E : Input → A → Input → Type 0) (step : Reader (Option A)) → ((i : Input) → Sound (Maybe_read E i) (step i)) → (i : Input) → Sound (Many_read E [] i) (many step i)
unfolding many
many_sound E step h i = many_from_sound E step h (length i.tokens) [] i

-- ---- expressions between commas

-- an expression of so many levels at most that binds so tightly at least
pub record Reading (form : Form) (levels least : ℕ) (i : Input) (x : Read) (j : Input) : Type 0 where
  pub text : Expression
  pub keeping : keeps form text
  pub binding : binds least text ≡ true
  pub flat : depth text < levels
  pub means : (n : ℕ) → n ≡ i.arrows → tree n text ≡ x.tree
  pub kinds : kind text ≡ x.kind
  pub spans : Spans (tokens text) i j

-- an expression that is read one level further in
pub record Valued (form : Form) (room : ℕ) (i : Input) (x : Expr) (j : Input) : Type 0 where
  pub text : Expression
  pub keeping : keeps form text
  pub flat : inside (depth text) ≤ room
  pub means : (n : ℕ) → n ≡ i.arrows → tree n text ≡ x
  pub spans : Spans (tokens text) i j

pub record Arguments_read (form : Form) (room : ℕ) (i : Input) (r : List Expr × Bool) (j : Input) : Type 0 where
  pub text : Arguments
  pub keeping : arguments_keep form text
  pub flat : arguments_depth text ≤ room - 1
  pub means : (n : ℕ) → n ≡ i.arrows → arguments_tree n text ≡ r.0
  pub comma_last : ends_comma text ≡ r.1
  pub spans : Spans (arguments_tokens text) i j

pub max_le : (a b n : ℕ) → a ≤ n → b ≤ n → max a b ≤ n
max_le a b n h k = omega (arith, h, k)

module _ (form : Form) (room : ℕ) (inner : Nested) (nested_sound : (i : Input) → Sound (Valued form room i) (nested form room inner i)) where
  pub args_of : {closing : Characters} {so_far : List Expr} {i j : Input} {xs : List Expr} {c : Bool} → 1 ≤ room → Run (Sign closing) (λ _. Valued form room) so_far i xs c j → Arguments_read form room i (xs, c) j
  args_of room_left (none s) = record { text = No_argument; keeping = tt; flat = omega arith; means = λ n e. refl; comma_last = refl; spans = record { spelt = refl; count = omega arith } }
  args_of room_left (last v) = let f = v.flat in record { text = Only v.text; keeping = v.keeping; flat = omega (arith, f); means = λ n e. ap (λ x. x ∷ []) (v.means n e); comma_last = refl; spans = v.spans }
  args_of room_left (more {x = x} v s r) =
      let a = args_of room_left r in
      let f = v.flat in
      let g = a.flat in
      let c1 = v.spans.count in
      let c2 = s.count in
      record {
        text = Comma v.text a.text;
        keeping = (v.keeping, a.keeping);
        flat = max_le (depth v.text) (arguments_depth a.text) (room - 1) (omega (arith, f)) g;
        means = λ n e. rw (v.means n e, a.means (n + arrows (tokens v.text)) (omega (arith, e, c1, c2))) refl;
        comma_last = a.comma_last;
        spans = spans_then (framed v.text) v.spans (spans_then comma_framed s a.spans);
      }

  -- in brackets that are open
  pub args_sound : (closing : Characters) (i : Input) → arrows (sign closing) ≡ 0
      → Sound (λ r j. (end : Input) × Arguments_read form room i r end × Spans (sign closing) end j × (1 ≤ room)) (args form room inner (Sign closing) i)
  unfolding args
  args_sound closing i u =
      sound_then (enter_sound room i) (λ _ j e.
      sound_then (separated_sound (λ _. Valued form room) (Sign closing) (nested form room inner) (λ so_far k. nested_sound k) j) (λ r k t.
      sound_then (expect_sound (Sign closing) k u) (λ _ l s.
      read (k, subst (λ i. Arguments_read form room i r k) (sym e.0) (subst (λ xs. Arguments_read form room j (xs, r.1) k) t.parts (args_of e.1 t.run)), s, e.1))))

  pub bracketed_sound : (i : Input) → Sound (λ x j. (end : Input) × Valued form room i x end × Spans (sign (codes ")")) end j) (bracketed form room inner i)
  unfolding bracketed
  bracketed_sound i = sound_then (nested_sound i) (λ x end v. sound_then (expect_sound (Sign (codes ")")) end refl) (λ _ j s. read (end, v, s)))
