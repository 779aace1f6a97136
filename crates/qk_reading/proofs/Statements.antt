-- What is written is read: steps, bodies and statements.
use Rattle.std.proofs.Common.{◌≡◌, refl, ◌∙◌, ap, arith}
use Rattle.std.specs.Prelude.{ℕ, zero, suc, ◌+◌, ◌<◌, Bool, true, false, List, [], ◌∷◌, ◌++◌, None, codes}
use Rattle.std.proofs.Math.Nat.{le-max_left, le-max_right}
use Rattle.qk_ast.specs.declared.Form.{Form}
use Rattle.qk_ast.specs.declared.AssignOp.{AssignOp}
use Rattle.qk_ast.specs.declared.AssignOp.TheVariants as assign
use Rattle.qk_ast.specs.Tokens.{Token}
use Rattle.qk_ast.specs.Grammar.{Parameters, Expression, Named, Postfix, Function, Body, Block_body, Step_body, Step, Plain_step, Assign, Bump, Statements}
use Rattle.qk_ast.specs.Spelling.{tokens, body_tokens, step_tokens, statements_tokens}
use Rattle.qk_ast.specs.Depth.{inside, depth, parameters_depth, body_depth, step_depth, statements_depth}
use Rattle.qk_ast.specs.Tree.{arrows, tree, body_tree, step_tree, statements_tree}
use Rattle.qk_ast.specs.Rules.{binds, keeps, statements_keep, is_target, begins_with_brace}
use Rattle.qk_reading.specs.Input.{at, reading, Sign, first_is, sees, after, number, Braced}
use Rattle.qk_reading.specs.Ahead.{is_target_kind, assign_at, bump_at, assign_sign as read_assign, bump_sign as read_bump, arrow_ahead}
use Rattle.qk_reading.specs.Parts.{arrow_head}
use Rattle.qk_reading.specs.Forms.{whole, choice, arrow}
use Rattle.qk_reading.specs.Statements.{step, body}
use Rattle.qk_reading.specs.Reader.{nesting}
use Rattle.qk_reading.proofs.Framed.{framed, step_framed, statements_framed}
use Rattle.qk_reading.proofs.Follow.{Ends, Opens, Arrowless, ends_weaker, first_not, opens, binds_plain, arrowless, by_bool, clash}
use Rattle.qk_reading.proofs.Counted.{counted, kind, target_kind}
use Rattle.qk_reading.proofs.Reached.{Reaches, reached, deep, reach_then, reach_later, unseen, after_unseen}
use Rattle.qk_reading.proofs.Atoms.{binds_le, le_binds, no_arrow_sign, Reads}
use Rattle.qk_reading.proofs.Patterns.{parameters_uncounted, arrow_seen, params_reach}

-- ---- what follows a step

no_assign : (ts : List Token) → Ends 0 ts → assign_at ts ≡ None
no_assign [] f = refl
no_assign (Token.Punct c ∷ ts) f =
    let a = first_not (codes "=") 0 (Token.Punct c ∷ ts) (omega arith) f in
    let b = first_not (codes "+=") 0 (Token.Punct c ∷ ts) (omega arith) f in
    let d = first_not (codes "-=") 0 (Token.Punct c ∷ ts) (omega arith) f in
    let g = first_not (codes "*=") 0 (Token.Punct c ∷ ts) (omega arith) f in
    rw (a, b, d, g) refl
no_assign (Token.Name c ∷ ts) f = refl
no_assign (Token.Reserved c ∷ ts) f = refl
no_assign (Token.Int c ∷ ts) f = refl
no_assign (Token.Text q c ∷ ts) f = refl
no_assign (Token.Attribute q c ∷ ts) f = refl
no_assign (Token.Template g c t ∷ ts) f = refl
no_assign (Token.Begin c ∷ ts) f = refl
no_assign (Token.JsxText c ∷ ts) f = refl

no_bump : (ts : List Token) → Ends 0 ts → bump_at ts ≡ None
no_bump [] f = refl
no_bump (Token.Punct c ∷ ts) f =
    let a = first_not (codes "++") 0 (Token.Punct c ∷ ts) (omega arith) f in
    let b = first_not (codes "--") 0 (Token.Punct c ∷ ts) (omega arith) f in
    rw (a, b) refl
no_bump (Token.Name c ∷ ts) f = refl
no_bump (Token.Reserved c ∷ ts) f = refl
no_bump (Token.Int c ∷ ts) f = refl
no_bump (Token.Text q c ∷ ts) f = refl
no_bump (Token.Attribute q c ∷ ts) f = refl
no_bump (Token.Template g c t ∷ ts) f = refl
no_bump (Token.Begin c ∷ ts) f = refl
no_bump (Token.JsxText c ∷ ts) f = refl

target_binds : (x : Expression) → is_target x ≡ true → binds 1 x ≡ true
target_binds (Named a) h = refl
target_binds (Postfix head link more) h = refl
target_binds x h = clash h refl

target_plain : (form : Form) (x : Expression) → keeps form x → is_target x ≡ true → (ts : List Token) → Ends 9 ts → Arrowless (tokens x ts)
target_plain form x ke h ts f = arrowless form x ke (binds_plain 0 x (target_binds x h)) ts (no_arrow_sign ts f)

module _ (D : Type 0) (form : Form) where
  -- a target, before the sign of an assignment or a step
  target_read : (x : Expression) → keeps form x → is_target x ≡ true → Reads D form x → (room n m : ℕ) (ts : List Token) → (room < depth x → D) → m ≡ n + arrows (tokens x) → Ends 1 ts
      → first_is (Sign (codes "?")) ts ≡ false → Reaches D (reading (tree n x) (kind x)) (at ts m) (whole form room (nesting form room) (at (tokens x ts) n))
  unfolding whole choice arrow_ahead
  target_read x ke t h room n m ts d q f s =
      let u = unseen (codes "?") (at ts m) s in
      rw (target_plain form x ke t ts (ends_weaker 1 9 ts (omega arith) f)) (reach_later _
      (reach_then _ (h room 1 n m ts d (omega arith) (target_binds x t) q f) (rw (u, after_unseen (Sign (codes "?")) (at ts m) u) reached)))

  abbrev pub Step_reads : Step → Type 0
  Step_reads x = (room n m : ℕ) (ts : List Token) → (room < step_depth x → D) → m ≡ n + arrows (step_tokens x) → Ends 0 ts
      → Reaches D (step_tree n x) (at ts m) (step form room (nesting form room) (at (step_tokens x ts) n))

  pub plain_step_reads : (x : Expression) → Reads D form x → Step_reads (Plain_step x)
  unfolding step read_assign read_bump
  plain_step_reads x h room n m ts d q f =
      reach_then _ (h room 0 n m ts d (omega arith) (le_binds 0 x (omega arith)) q f)
      (by_bool (is_target_kind (kind x)) (λ t. rw (t, no_assign ts f, no_bump ts f) reached) (λ t. rw t reached))

  pub assign_reads : (x : Expression) (op : AssignOp) (y : Expression) → is_target x ≡ true → keeps form x → Reads D form x → Reads D form y → Step_reads (Assign x op y)
  unfolding step read_assign
  assign_reads x assign.Set y t ke h k room n m ts d q f =
      let us = tokens y ts in
      let m1 = n + arrows (tokens x) in
      let c1 = counted (framed x) (Token.Punct (codes "=") ∷ tokens y []) in
      let tk = target_kind x ∙ t in
      reach_then _ (target_read x ke t h room n m1 (Token.Punct (codes "=") ∷ us) (λ l. d (omega (arith, l, le-max_left (depth x) (depth y)))) refl (omega arith) refl)
      (rw tk (reach_then _ (k room 0 m1 m ts (λ l. d (omega (arith, l, le-max_right (depth x) (depth y)))) (omega arith) (le_binds 0 y (omega arith)) (omega (arith, q, c1)) f) reached))
  assign_reads x assign.Add y t ke h k room n m ts d q f =
      let us = tokens y ts in
      let m1 = n + arrows (tokens x) in
      let c1 = counted (framed x) (Token.Punct (codes "+=") ∷ tokens y []) in
      let tk = target_kind x ∙ t in
      reach_then _ (target_read x ke t h room n m1 (Token.Punct (codes "+=") ∷ us) (λ l. d (omega (arith, l, le-max_left (depth x) (depth y)))) refl (omega arith) refl)
      (rw tk (reach_then _ (k room 0 m1 m ts (λ l. d (omega (arith, l, le-max_right (depth x) (depth y)))) (omega arith) (le_binds 0 y (omega arith)) (omega (arith, q, c1)) f) reached))
  assign_reads x assign.Sub y t ke h k room n m ts d q f =
      let us = tokens y ts in
      let m1 = n + arrows (tokens x) in
      let c1 = counted (framed x) (Token.Punct (codes "-=") ∷ tokens y []) in
      let tk = target_kind x ∙ t in
      reach_then _ (target_read x ke t h room n m1 (Token.Punct (codes "-=") ∷ us) (λ l. d (omega (arith, l, le-max_left (depth x) (depth y)))) refl (omega arith) refl)
      (rw tk (reach_then _ (k room 0 m1 m ts (λ l. d (omega (arith, l, le-max_right (depth x) (depth y)))) (omega arith) (le_binds 0 y (omega arith)) (omega (arith, q, c1)) f) reached))
  assign_reads x assign.Mul y t ke h k room n m ts d q f =
      let us = tokens y ts in
      let m1 = n + arrows (tokens x) in
      let c1 = counted (framed x) (Token.Punct (codes "*=") ∷ tokens y []) in
      let tk = target_kind x ∙ t in
      reach_then _ (target_read x ke t h room n m1 (Token.Punct (codes "*=") ∷ us) (λ l. d (omega (arith, l, le-max_left (depth x) (depth y)))) refl (omega arith) refl)
      (rw tk (reach_then _ (k room 0 m1 m ts (λ l. d (omega (arith, l, le-max_right (depth x) (depth y)))) (omega arith) (le_binds 0 y (omega arith)) (omega (arith, q, c1)) f) reached))

  pub bump_reads : (x : Expression) (up : Bool) → is_target x ≡ true → keeps form x → Reads D form x → Step_reads (Bump x up)
  unfolding step read_assign read_bump
  bump_reads x true t ke h room n m ts d q f =
      let c1 = counted (framed x) (Token.Punct (codes "++") ∷ []) in
      let tk = target_kind x ∙ t in
      reach_then _ (target_read x ke t h room n m (Token.Punct (codes "++") ∷ ts) d (omega (arith, q, c1)) (omega arith) refl) (rw tk reached)
  bump_reads x false t ke h room n m ts d q f =
      let c1 = counted (framed x) (Token.Punct (codes "--") ∷ []) in
      let tk = target_kind x ∙ t in
      reach_then _ (target_read x ke t h room n m (Token.Punct (codes "--") ∷ ts) d (omega (arith, q, c1)) (omega arith) refl) (rw tk reached)

  -- ---- bodies and arrows

  abbrev pub Body_reads : Body → Type 0
  Body_reads x = (room n m : ℕ) (ts : List Token) → (room < body_depth x → D) → m ≡ n + arrows (body_tokens x) → Ends 0 ts
      → Reaches D (body_tree n x) (at ts m) (body form room (nesting form room) (at (body_tokens x ts) n))

  abbrev pub Block_reads : Statements → Type 0
  Block_reads x = (looped : Bool) → statements_keep form looped true x → (room n m : ℕ) (ts : List Token) → (room < inside (statements_depth x) → D) → m ≡ n + arrows (statements_tokens x)
      → Reaches D (statements_tree n x) (at ts m) ((nesting form room).group (Braced looped) (at (statements_tokens x (Token.Punct (codes "}") ∷ ts)) n))

  pub block_body_reads : (x : Statements) → statements_keep form false true x → Block_reads x → Body_reads (Block_body x)
  unfolding body sees after
  block_body_reads x ke h room n m ts d q f =
      let c1 = counted (statements_framed x) (Token.Punct (codes "}") ∷ []) in
      reach_then _ (h false ke room n m ts d (omega (arith, q, c1))) reached

  -- the first token of a step is that of its own tokens
  pub braceless : (x : Step) (ts : List Token) → begins_with_brace (step_tokens x []) ≡ false → first_is (Sign (codes "{")) (step_tokens x ts) ≡ false
  braceless x ts h = ap (λ us. first_is (Sign (codes "{")) us) ((step_framed x).frames ts) ∙ joined (step_tokens x []) (step_some x) h
    where
      joined : (us : List Token) → Opens 1 us → begins_with_brace us ≡ false → first_is (Sign (codes "{")) (us ++ ts) ≡ false
      joined [] o h = absurd o
      joined (Token.Punct c ∷ us) o h = h
      joined (Token.Name c ∷ us) o h = refl
      joined (Token.Reserved c ∷ us) o h = refl
      joined (Token.Int c ∷ us) o h = refl
      joined (Token.Text q c ∷ us) o h = refl
      joined (Token.Attribute q c ∷ us) o h = refl
      joined (Token.Template g c t ∷ us) o h = refl
      joined (Token.Begin c ∷ us) o h = refl
      joined (Token.JsxText c ∷ us) o h = refl

      step_some : (x : Step) → Opens 1 (step_tokens x [])
      step_some (Plain_step x) = opens x []
      step_some (Assign x assign.Set y) = opens x (Token.Punct (codes "=") ∷ tokens y [])
      step_some (Assign x assign.Add y) = opens x (Token.Punct (codes "+=") ∷ tokens y [])
      step_some (Assign x assign.Sub y) = opens x (Token.Punct (codes "-=") ∷ tokens y [])
      step_some (Assign x assign.Mul y) = opens x (Token.Punct (codes "*=") ∷ tokens y [])
      step_some (Bump x true) = opens x (Token.Punct (codes "++") ∷ [])
      step_some (Bump x false) = opens x (Token.Punct (codes "--") ∷ [])

  pub step_body_reads : (x : Step) → begins_with_brace (step_tokens x []) ≡ false → Step_reads x → Body_reads (Step_body x)
  unfolding body
  step_body_reads x b h room n m ts d q f =
      let s = unseen (codes "{") (at (step_tokens x ts) n) (braceless x ts b) in
      rw (s, after_unseen (Sign (codes "{")) (at (step_tokens x ts) n) s) (reach_then _ (h room n m ts d q f) reached)

  inner_body : (x : Body) → Body_reads x → (room n m : ℕ) (ts : List Token) → (room < inside (body_depth x) → D) → m ≡ n + arrows (body_tokens x) → Ends 0 ts
      → Reaches D (body_tree n x) (at ts m) ((nesting form room).body (at (body_tokens x ts) n))
  unfolding nesting
  inner_body x h zero n m ts d q f = deep (d (omega arith))
  inner_body x h (suc room) n m ts d q f = h room n m ts (λ l. d (omega (arith, l))) q f

  pub function_reads : (x : Parameters) (y : Body) → Body_reads y → Reads D form (Function x y)
  unfolding whole arrow arrow_ahead arrow_head number sees
  function_reads x y h room (suc least) n m ts d le b q f = let t = binds_le (suc least) (Function x y) b in absurd (omega (arith, t))
  function_reads x y h room zero n m ts d le b q f =
      let us = body_tokens y ts in
      let c1 = parameters_uncounted x (Token.Punct (codes "=>") ∷ body_tokens y []) in
      rw (arrow_seen x us) (reach_then _ (reach_then _ (params_reach D x room n (Token.Punct (codes "=>") ∷ us) (λ l. d (omega (arith, l, le-max_left (parameters_depth x) (inside (body_depth y)))))) reached)
      (reach_then _ (inner_body y h room (n + 1) m ts (λ l. d (omega (arith, l, le-max_right (parameters_depth x) (inside (body_depth y))))) (omega (arith, q, c1)) f) reached))
