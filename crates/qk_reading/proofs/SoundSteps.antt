-- What is read is written by the rules: steps and bodies.
use Rattle.std.proofs.Common.{◌≡◌, refl, sym, ◌∙◌, ap, ap₂, subst, arith}
use Rattle.std.specs.Prelude.{ℕ, suc, ◌+◌, ◌≤◌, Bool, true, false, List, [], ◌∷◌, ◌++◌, Option, Some, None, codes}
use Rattle.qk_ast.specs.declared.Form.{Form}
use Rattle.qk_ast.specs.declared.Expr.{Expr}
use Rattle.qk_ast.specs.declared.Expr.TheVariants as e
use Rattle.qk_ast.specs.declared.Stmt.{Stmt}
use Rattle.qk_ast.specs.declared.Body.TheVariants as b
use Rattle.qk_ast.specs.declared.AssignOp.{AssignOp}
use Rattle.qk_ast.specs.declared.AssignOp.TheVariants as assign
use Rattle.qk_ast.specs.Characters.{same}
use Rattle.qk_ast.specs.Tokens.{Token}
use Rattle.qk_ast.specs.Grammar.{Step, Plain_step, Assign, Bump, Statements, Block_body, Step_body}
use Rattle.qk_ast.specs.Spelling.{Writing, ◌⨾◌, sign, tokens, assign_sign as assign_spelt, bump_sign as bump_spelt, step_tokens, statements_tokens}
use Rattle.qk_ast.specs.Depth.{inside, step_depth, statements_depth}
use Rattle.qk_ast.specs.Tree.{arrows, step_tree, statements_tree}
use Rattle.qk_ast.specs.Rules.{is_target, begins_with_brace, step_keeps, statements_keep}
use Rattle.qk_reading.specs.Input.{Input, Nested, Read, Sign, Braced, first_is, rest, advance, sees}
use Rattle.qk_reading.specs.Ahead.{is_target_kind, assign_at, bump_at, assign_sign, bump_sign}
use Rattle.qk_reading.specs.Forms.{whole}
use Rattle.qk_reading.specs.Statements.{assign_by, step, step_by, body}
use Rattle.qk_ast.proofs.FrontToken.{same_is}
use Rattle.qk_reading.proofs.Framed.{Framed, framed, assign_framed, step_framed, sign_framed}
use Rattle.qk_reading.proofs.Follow.{by_bool}
use Rattle.qk_reading.proofs.Counted.{target_kind}
use Rattle.qk_reading.proofs.Sound.{Sound, read, sound_then, Spans, spans_then, by_sees, Reading}
use Rattle.qk_reading.proofs.SoundLevels.{Body_read}

-- ---- signs

abbrev Spelt_by : {A : Type 0} → (A → Writing) → List Token → Option A → Type 0
Spelt_by w ts None = Unit {0}
Spelt_by w ts (Some a) = w a (rest ts) ≡ ts

assign_seen : (ts : List Token) → Spelt_by assign_spelt ts (assign_at ts)
assign_seen (Token.Punct a ∷ ts) =
    by_bool (same a (codes "=")) (λ h. rw h (ap (λ c. Token.Punct c ∷ ts) (sym (same_is a (codes "=") h)))) (λ h1.
    by_bool (same a (codes "+=")) (λ h. rw (h1, h) (ap (λ c. Token.Punct c ∷ ts) (sym (same_is a (codes "+=") h)))) (λ h2.
    by_bool (same a (codes "-=")) (λ h. rw (h1, h2, h) (ap (λ c. Token.Punct c ∷ ts) (sym (same_is a (codes "-=") h)))) (λ h3.
    by_bool (same a (codes "*=")) (λ h. rw (h1, h2, h3, h) (ap (λ c. Token.Punct c ∷ ts) (sym (same_is a (codes "*=") h)))) (λ h4.
    rw (h1, h2, h3, h4) tt))))
assign_seen ts = tt

bump_seen : (ts : List Token) → Spelt_by bump_spelt ts (bump_at ts)
bump_seen (Token.Punct a ∷ ts) =
    by_bool (same a (codes "++")) (λ h. rw h (ap (λ c. Token.Punct c ∷ ts) (sym (same_is a (codes "++") h)))) (λ h1.
    by_bool (same a (codes "--")) (λ h. rw (h1, h) (ap (λ c. Token.Punct c ∷ ts) (sym (same_is a (codes "--") h)))) (λ h2.
    rw (h1, h2) tt))
bump_seen ts = tt

assign_uncounted : (op : AssignOp) → arrows (assign_spelt op) ≡ 0
assign_uncounted assign.Set = refl
assign_uncounted assign.Add = refl
assign_uncounted assign.Sub = refl
assign_uncounted assign.Mul = refl

bump_uncounted : (up : Bool) → arrows (bump_spelt up) ≡ 0
bump_uncounted true = refl
bump_uncounted false = refl

-- ---- braces

-- what is written where no brace stands begins with none
pub no_brace : (w : Writing) (i j : Input) → Framed w → Spans w i j → sees (Sign (codes "{")) i ≡ false → begins_with_brace (w []) ≡ false
unfolding sees
no_brace w i j f s h = front (w []) j.tokens (subst (λ ts. first_is (Sign (codes "{")) ts ≡ false) (sym (sym (f.frames j.tokens) ∙ s.spelt)) h)
  where
    front : (ts us : List Token) → first_is (Sign (codes "{")) (ts ++ us) ≡ false → begins_with_brace ts ≡ false
    front [] us h = refl
    front (Token.Punct a ∷ ts) us h = h
    front (t ∷ ts) us h = refl

-- ---- steps

pub record Step_read (form : Form) (room : ℕ) (i : Input) (x : Expr) (j : Input) : Type 0 where
  pub text : Step
  pub keeping : step_keeps form text
  pub flat : step_depth text ≤ room
  pub means : (n : ℕ) → n ≡ i.arrows → step_tree n text ≡ x
  pub spans : Spans (step_tokens text) i j

-- the statements of a block behind its brace, and the brace after them
pub record Block_read (form : Form) (room : ℕ) (looped : Bool) (i : Input) (xs : List Stmt) (j : Input) : Type 0 where
  pub text : Statements
  pub keeping : statements_keep form looped true text
  pub flat : inside (statements_depth text) ≤ room
  pub means : (n : ℕ) → n ≡ i.arrows → statements_tree n text ≡ xs
  pub spans : Spans (statements_tokens text ⨾ sign (codes "}")) i j

module _ (form : Form) (room : ℕ) (inner : Nested) (whole_sound : (i : Input) → Sound (Reading form (suc room) 0 i) (whole form room inner i)) where
  plain_step : (i j : Input) (x : Read) → Reading form (suc room) 0 i x j → Step_read form room i x.tree j
  plain_step i j x v = let f = v.flat in record { text = Plain_step v.text; keeping = v.keeping; flat = omega (arith, f); means = v.means; spans = v.spans }

  is_written_target : (i j : Input) (x : Read) (v : Reading form (suc room) 0 i x j) → is_target_kind x.kind ≡ true → is_target v.text ≡ true
  is_written_target i j x v h = sym (target_kind v.text) ∙ ap is_target_kind v.kinds ∙ h

  assigned : (i a b j : Input) (x y : Read) (op : AssignOp) → is_target_kind x.kind ≡ true → Reading form (suc room) 0 i x a → Spans (assign_spelt op) a b → Reading form (suc room) 0 b y j
      → Step_read form room i (e.Assign op x.tree y.tree) j
  assigned i a b j x y op h v s w =
      let f = v.flat in
      let g = w.flat in
      let c1 = v.spans.count in
      let c2 = s.count in
      let c3 = assign_uncounted op in
      record {
        text = Assign v.text op w.text;
        keeping = (is_written_target i a x v h, v.keeping, w.keeping);
        flat = omega (arith, f, g);
        means = λ n q. ap₂ (λ x y. e.Assign op x y) (v.means n q) (w.means (n + arrows (tokens v.text)) (omega (arith, q, c1, c2, c3)));
        spans = spans_then (framed v.text) v.spans (spans_then (assign_framed op) s w.spans);
      }

  bumped : (i a b : Input) (x : Read) (up : Bool) → is_target_kind x.kind ≡ true → Reading form (suc room) 0 i x a → Spans (bump_spelt up) a b → Step_read form room i (e.Step up x.tree) b
  bumped i a b x up h v s =
      let f = v.flat in
      record {
        text = Bump v.text up;
        keeping = (is_written_target i a x v h, v.keeping);
        flat = omega (arith, f);
        means = λ n q. ap (λ x. e.Step up x) (v.means n q);
        spans = spans_then (framed v.text) v.spans s;
      }

  bump_sound : (i a : Input) (x : Read) → is_target_kind x.kind ≡ true → Reading form (suc room) 0 i x a → (o : Option Bool) → Spelt_by bump_spelt a.tokens o → bump_at a.tokens ≡ o
      → Sound (Step_read form room i) (assign_by form room inner x.tree None a)
  unfolding bump_sign
  bump_sound i a x h v None s q = rw q (read (plain_step i a x v))
  bump_sound i a x h v (Some up) s q = let c = bump_uncounted up in rw q (read (bumped i a (advance a) x up h v (record { spelt = s; count = omega (arith, c) })))

  assign_sound : (i a : Input) (x : Read) → is_target_kind x.kind ≡ true → Reading form (suc room) 0 i x a → (o : Option AssignOp) → Spelt_by assign_spelt a.tokens o → assign_at a.tokens ≡ o
      → Sound (Step_read form room i) (step_by form room inner x true a)
  unfolding assign_sign
  assign_sound i a x h v None s q = rw q (bump_sound i a x h v (bump_at a.tokens) (bump_seen a.tokens) refl)
  assign_sound i a x h v (Some op) s q =
      let c = assign_uncounted op in
      rw q (sound_then (whole_sound (advance a)) (λ y j w. read (assigned i a (advance a) j x y op h v (record { spelt = s; count = omega (arith, c) }) w)))

  pub step_sound : (i : Input) → Sound (Step_read form room i) (step form room inner i)
  unfolding step
  step_sound i = sound_then (whole_sound i) (λ x a v. by_bool (is_target_kind x.kind)
      (λ h. rw h (assign_sound i a x h v (assign_at a.tokens) (assign_seen a.tokens) refl))
      (λ h. rw h (read (plain_step i a x v))))

  -- behind an arrow's sign
  pub body_sound : ((i : Input) → Sound (Block_read form room false i) (inner.group (Braced false) i)) → (i : Input) → Sound (Body_read form (suc room) i) (body form room inner i)
  unfolding body
  body_sound braced i = by_sees (Sign (codes "{")) i refl
      (λ s q p. rw (s, q) (sound_then (braced (advance i)) (λ xs j v.
      let f = v.flat in
      let c = p.count in
      read (record {
        text = Block_body v.text;
        keeping = v.keeping;
        flat = omega (arith, f);
        means = λ n q. ap b.Block (v.means n (omega (arith, q, c)));
        spans = spans_then (sign_framed (codes "{")) p v.spans;
      }))))
      (λ s q. rw (s, q) (sound_then (step_sound i) (λ x j v.
      let f = v.flat in
      read (record {
        text = Step_body v.text;
        keeping = (no_brace (step_tokens v.text) i j (step_framed v.text) v.spans s, v.keeping);
        flat = omega (arith, f);
        means = λ n q. ap b.Value (v.means n q);
        spans = v.spans;
      }))))
