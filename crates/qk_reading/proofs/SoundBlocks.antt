-- What is read is written by the rules: conditions, parts, statements that hold others, and blocks.
use Rattle.std.proofs.Common.{◌≡◌, refl, sym, ◌∙◌, ap, ap₂, subst, arith, append_assoc, append-nil}
use Rattle.std.specs.Prelude.{ℕ, zero, suc, ◌+◌, ◌≤◌, Bool, true, false, ◌&&◌, ◌||◌, List, [], ◌∷◌, ◌++◌, length, codes}
use Rattle.qk_ast.specs.declared.Form.{Form}
use Rattle.qk_ast.specs.declared.Expr.{Expr}
use Rattle.qk_ast.specs.declared.Stmt.{Stmt}
use Rattle.qk_ast.specs.declared.Stmt.TheVariants as s
use Rattle.qk_ast.specs.Characters.{Characters, same}
use Rattle.qk_ast.specs.Tokens.{Token}
use Rattle.qk_ast.specs.Grammar.{Expression, If, If_else, While, For_of, Block, Statements, No_statement, Then, Part, Block_part, Statement_part}
use Rattle.qk_ast.specs.Spelling.{◌⨾◌, name as name_of, word, sign, round, tokens, statement_tokens, statements_tokens, part_tokens}
use Rattle.qk_ast.specs.Depth.{inside, depth, statements_depth, part_depth}
use Rattle.qk_ast.specs.Tree.{arrows, bytes, tree, statements_tree, part_tree}
use Rattle.qk_ast.specs.Rules.{keeps, is_built, statements_keep, part_keeps, part_ends_with_if}
use Rattle.qk_reading.specs.Input.{Input, at, Nested, Sign, Word, Given, Braced, Single, Otherwise, first_is, advance, sees}
use Rattle.qk_reading.specs.Forms.{nested, whole, postfix}
use Rattle.qk_reading.specs.Statements.{held, condition, constant, conditional, looping, each, word_statement, statement, statements_from, block, single, single_by, group, step}
use Rattle.qk_reading.proofs.Framed.{framed, name_framed, reserved_framed, sign_framed, statement_framed, statements_framed, part_framed, ◌▹◌}
use Rattle.qk_reading.proofs.Follow.{by_bool, clash, both}
use Rattle.qk_reading.proofs.Counted.{counted}
use Rattle.qk_reading.proofs.Sound.{Sound, read, refused, sound_then, implied, Spans, spans_then, by_sees, expect_sound, name_sound, enter_sound, sign_here, word_here, Reading, Valued}
use Rattle.qk_reading.proofs.SoundSteps.{Step_read, Block_read}
use Rattle.qk_reading.proofs.SoundStatements.{NoElse, declares, Statement_read, declared_sound, variable_sound, scope_sound, break_sound, continue_sound, returned_sound, done_sound, deleted_sound}

no_brace_word : (a : Characters) (ts : List Token) (n : ℕ) → sees (Sign (codes "{")) (at (Token.Reserved a ∷ ts) n) ≡ false
unfolding sees
no_brace_word a ts n = refl

no_declaration : (i : Input) → sees (Sign (codes "{")) i ≡ false → (first_is (Word (codes "const")) i.tokens || first_is (Word (codes "let")) i.tokens) ≡ false → declares i.tokens ≡ false
unfolding sees
no_declaration i h k = rw (h, k) refl

-- an expression in brackets
pub record Condition_read (form : Form) (room : ℕ) (i : Input) (x : Expr) (j : Input) : Type 0 where
  pub text : Expression
  pub keeping : keeps form text
  pub flat : inside (depth text) ≤ room
  pub means : (n : ℕ) → n ≡ i.arrows → tree n text ≡ x
  pub spans : Spans (round (tokens text)) i j

-- what `if`, `else`, `while` and `for` hold
pub record Part_read (form : Form) (room : ℕ) (looped : Bool) (i : Input) (xs : List Stmt) (j : Input) : Type 0 where
  pub text : Part
  pub keeping : part_keeps form looped text
  pub flat : part_depth text ≤ room
  pub means : (n : ℕ) → n ≡ i.arrows → part_tree n text ≡ xs
  pub spans : Spans (part_tokens text) i j
  pub ends : part_ends_with_if text ≡ true → NoElse j

-- what follows `else`
abbrev pub Else_read : Form → ℕ → Bool → Input → List Stmt → Input → Type 0
Else_read form room looped i xs j = (p : Part_read form room looped i xs j) × (inside (part_depth p.text) ≤ room)

-- statements after those that were found so far
pub record Statements_run (form : Form) (room : ℕ) (looped start : Bool) (so_far : List Stmt) (i : Input) (ys : List Stmt) (j : Input) : Type 0 where
  pub text : Statements
  pub keeping : statements_keep form looped start text
  pub flat : statements_depth text ≤ room
  pub means : (n : ℕ) → n ≡ i.arrows → so_far ++ statements_tree n text ≡ ys
  pub spans : Spans (statements_tokens text) i j

module _ (form : Form) (room : ℕ) (inner : Nested) (nested_sound : (i : Input) → Sound (Valued form room i) (nested form room inner i))
    (braced : (looped : Bool) (i : Input) → Sound (Block_read form room looped i) (inner.group (Braced looped) i))
    (alone : (looped : Bool) (i : Input) → sees (Sign (codes "{")) i ≡ false → Sound (Part_read form room looped i) (inner.group (Single looped) i))
    (otherwise : (looped : Bool) (i : Input) → Sound (Else_read form room looped i) (inner.group (Otherwise looped) i)) where
  condition_sound : (i : Input) → Sound (Condition_read form room i) (condition form room inner i)
  unfolding condition
  condition_sound i = sound_then (expect_sound (Sign (codes "(")) i refl) (λ _ a p. sound_then (nested_sound a) (λ x b v. sound_then (expect_sound (Sign (codes ")")) b refl) (λ _ j q.
      let c = p.count in
      read (record { text = v.text; keeping = v.keeping; flat = v.flat; means = λ n t. v.means n (omega (arith, t, c)); spans = spans_then (sign_framed (codes "(")) p (spans_then (framed v.text) v.spans q) }))))

  -- a block, or one statement
  pub held_sound : (looped : Bool) (i : Input) → Sound (Part_read form room looped i) (held form room inner looped i)
  unfolding held
  held_sound looped i = by_sees (Sign (codes "{")) i refl
      (λ s q p. rw (s, q) (implied (braced looped (advance i)) (λ xs j v.
      let c = p.count in
      record { text = Block_part v.text; keeping = v.keeping; flat = v.flat; means = λ n t. v.means n (omega (arith, t, c)); spans = spans_then (sign_framed (codes "{")) p v.spans; ends = λ h. clash {b = false} h refl })))
      (λ s q. rw (s, q) (alone looped i s))

  else_read : (looped : Bool) (i j : Input) (xs : List Stmt) → Part_read form room looped i xs j → Else_read form (suc room) looped i xs j
  else_read looped i j xs p =
      let f = p.flat in
      (record { text = p.text; keeping = p.keeping; flat = omega (arith, f); means = p.means; spans = p.spans; ends = p.ends }, omega (arith, f))

  -- ---- statements that hold parts, each behind its word

  if_read : (looped start : Bool) (i a b c : Input) (x : Expr) (ys : List Stmt) → Spans (word (codes "if")) i a → Condition_read form room a x b → Part_read form room looped b ys c → NoElse c → Statement_read form room looped start i (s.If x ys []) c
  if_read looped start i a b c x ys w v y unseen =
      let c1 = w.count in
      let c2 = v.spans.count in
      let c3 = counted (framed v.text) (sign (codes ")") []) in
      let f = v.flat in
      let g = y.flat in
      record {
        text = If v.text y.text;
        keeping = (v.keeping, y.keeping);
        flat = omega (arith, f, g);
        means = λ n t. ap₂ (λ x ys. s.If x ys []) (v.means n (omega (arith, t, c1))) (y.means (n + arrows (tokens v.text)) (omega (arith, t, c1, c2, c3)));
        spans = spans_then (reserved_framed (codes "if")) w (spans_then (sign_framed (codes "(") ▹ (framed v.text ▹ sign_framed (codes ")"))) v.spans y.spans);
        ends = λ h. unseen;
        alone = λ h. refl;
      }

  if_else_read : (looped start : Bool) (i a b c d f : Input) (x : Expr) (ys zs : List Stmt) → Spans (word (codes "if")) i a → Condition_read form room a x b → Part_read form room looped b ys c → sees (Word (codes "else")) c ≡ true → Spans (word (codes "else")) c d
      → Else_read form room looped d zs f → Statement_read form room looped start i (s.If x ys zs) f
  if_else_read looped start i a b c d f x ys zs w v y h e z =
      let c1 = w.count in
      let c2 = v.spans.count in
      let c3 = counted (framed v.text) (sign (codes ")") []) in
      let c4 = y.spans.count in
      let c5 = e.count in
      let c6 = counted (framed v.text) (part_tokens y.text []) in
      let f1 = v.flat in
      let f2 = y.flat in
      let f3 = z.1 in
      record {
        text = If_else v.text y.text z.0.text;
        keeping = (v.keeping, by_bool (part_ends_with_if y.text) (λ k. clash h (y.ends k)) (λ k. k), y.keeping, z.0.keeping);
        flat = omega (arith, f1, f2, f3);
        means = λ n t.
            ap₂ (λ (x : Expr) (p : List Stmt × List Stmt). s.If x (p.0) (p.1)) (v.means n (omega (arith, t, c1))) (ap₂ (λ ys zs. (ys, zs)) (y.means (n + arrows (tokens v.text)) (omega (arith, t, c1, c2, c3)))
            (z.0.means (n + arrows (tokens v.text ⨾ part_tokens y.text)) (omega (arith, t, c1, c2, c3, c4, c5, c6))));
        spans = spans_then (reserved_framed (codes "if")) w (spans_then (sign_framed (codes "(") ▹ (framed v.text ▹ sign_framed (codes ")"))) v.spans (spans_then (part_framed y.text) y.spans (spans_then (reserved_framed (codes "else")) e z.0.spans)));
        ends = λ h. z.0.ends h;
        alone = λ h. refl;
      }

  conditional_sound : (looped start : Bool) (i a : Input) → Spans (word (codes "if")) i a → Sound (Statement_read form room looped start i) (conditional form room inner looped a)
  unfolding conditional
  conditional_sound looped start i a w = sound_then (enter_sound room a) (λ _ a' g. sound_then (condition_sound a') (λ x b v. sound_then (held_sound looped b) (λ ys c y. by_sees (Word (codes "else")) c refl
      (λ h q e. rw (h, q) (sound_then (otherwise looped (advance c)) (λ zs f z. read (if_else_read looped start i a' b c (advance c) f x ys zs (subst (λ a. Spans (word (codes "if")) i a) g.0 w) v y h e z))))
      (λ h q. rw (h, q) (read (if_read looped start i a' b c x ys (subst (λ a. Spans (word (codes "if")) i a) g.0 w) v y h))))))

  while_read : (looped start : Bool) (i a b c : Input) (x : Expr) (ys : List Stmt) → Spans (word (codes "while")) i a → Condition_read form room a x b → Part_read form room true b ys c → Statement_read form room looped start i (s.While x ys) c
  while_read looped start i a b c x ys w v y =
      let c1 = w.count in
      let c2 = v.spans.count in
      let c3 = counted (framed v.text) (sign (codes ")") []) in
      let f = v.flat in
      let g = y.flat in
      record {
        text = While v.text y.text;
        keeping = (v.keeping, y.keeping);
        flat = omega (arith, f, g);
        means = λ n t. ap₂ (λ x ys. s.While x ys) (v.means n (omega (arith, t, c1))) (y.means (n + arrows (tokens v.text)) (omega (arith, t, c1, c2, c3)));
        spans = spans_then (reserved_framed (codes "while")) w (spans_then (sign_framed (codes "(") ▹ (framed v.text ▹ sign_framed (codes ")"))) v.spans y.spans);
        ends = λ h. y.ends h;
        alone = λ h. refl;
      }

  looping_sound : (looped start : Bool) (i a : Input) → Spans (word (codes "while")) i a → Sound (Statement_read form room looped start i) (looping form room inner a)
  unfolding looping
  looping_sound looped start i a w = sound_then (enter_sound room a) (λ _ a' g. sound_then (condition_sound a') (λ x b v. sound_then (held_sound true b) (λ ys c y.
      read (while_read looped start i a' b c x ys (subst (λ a. Spans (word (codes "while")) i a) g.0 w) v y))))

  each_read : (looped start : Bool) (i a b c d f g k m : Input) (name : Characters) (x : Expr) (ys : List Stmt) → Spans (word (codes "for")) i a → Spans (sign (codes "(")) a b → Spans (word (codes "const")) b c → Spans (name_of name) c d
      → Spans (name_of (codes "of")) d f → Valued form room f x g → Spans (sign (codes ")")) g k → Part_read form room true k ys m → Statement_read form room looped start i (s.ForOf (bytes name) x ys) m
  each_read looped start i a b c d f g k m name x ys w op co na of v cl y =
      let c1 = w.count in
      let c2 = op.count in
      let c3 = co.count in
      let c4 = na.count in
      let c5 = of.count in
      let c6 = v.spans.count in
      let c7 = cl.count in
      let f1 = v.flat in
      let f2 = y.flat in
      record {
        text = For_of name v.text y.text;
        keeping = (v.keeping, y.keeping);
        flat = omega (arith, f1, f2);
        means = λ n t. ap₂ (λ x ys. s.ForOf (bytes name) x ys) (v.means n (omega (arith, t, c1, c2, c3, c4, c5))) (y.means (n + arrows (tokens v.text)) (omega (arith, t, c1, c2, c3, c4, c5, c6, c7)));
        spans = spans_then (reserved_framed (codes "for")) w (spans_then (sign_framed (codes "(") ▹ (reserved_framed (codes "const") ▹ (name_framed name ▹ (name_framed (codes "of") ▹ (framed v.text ▹ sign_framed (codes ")"))))))
            (spans_then (sign_framed (codes "(")) op (spans_then (reserved_framed (codes "const")) co (spans_then (name_framed name) na (spans_then (name_framed (codes "of")) of (spans_then (framed v.text) v.spans cl))))) y.spans);
        ends = λ h. y.ends h;
        alone = λ h. refl;
      }

  each_sound : (looped start : Bool) (i a : Input) → Spans (word (codes "for")) i a → Sound (Statement_read form room looped start i) (each form room inner a)
  unfolding each
  each_sound looped start i a w = sound_then (enter_sound room a) (λ _ a' r. sound_then (expect_sound (Sign (codes "(")) a' refl) (λ _ b op. sound_then (expect_sound (Word (codes "const")) b refl) (λ _ c co. sound_then (name_sound (λ _. true) c) (λ name d na.
      sound_then (expect_sound (Given (codes "of")) d refl) (λ _ f of. sound_then (nested_sound f) (λ x g v. sound_then (expect_sound (Sign (codes ")")) g refl) (λ _ k cl. sound_then (held_sound true k) (λ ys m y.
      read (each_read looped start i a' b c d f g k m name x ys (subst (λ a. Spans (word (codes "for")) i a) r.0 w) op co na.0 of v cl y)))))))))

  -- ---- any statement

  module _ (whole_sound : (i : Input) → Sound (Reading form (suc room) 0 i) (whole form room inner i)) (postfix_sound : (i : Input) → Sound (Reading form (suc room) 8 i) (postfix form room inner i))
      (step_sound : (i : Input) → Sound (Step_read form room i) (step form room inner i)) where
    const_sound : (looped start : Bool) (i a : Input) → declares i.tokens ≡ true → Spans (word (codes "const")) i a → Sound (Statement_read form room looped start i) (constant form room inner start a)
    unfolding constant
    const_sound looped true i a al w = by_bool (sees (Sign (codes "[")) a)
        (λ h. by_bool (is_built form)
        (λ b. rw (h, b) (scope_sound form room inner whole_sound looped i a b al w h))
        (λ b. rw (h, b) (declared_sound form room inner whole_sound looped true i a al w)))
        (λ h. rw h (declared_sound form room inner whole_sound looped true i a al w))
    const_sound looped false i a al w = by_bool (sees (Sign (codes "[")) a)
        (λ h. rw h (declared_sound form room inner whole_sound looped false i a al w))
        (λ h. rw h (declared_sound form room inner whole_sound looped false i a al w))

    block_read : (looped start : Bool) (i a j : Input) (xs : List Stmt) → declares i.tokens ≡ true → Spans (sign (codes "{")) i a → Block_read form room looped a xs j → Statement_read form room looped start i (s.Block xs) j
    block_read looped start i a j xs al p v =
        let c = p.count in
        record {
          text = Block v.text;
          keeping = v.keeping;
          flat = v.flat;
          means = λ n t. ap s.Block (v.means n (omega (arith, t, c)));
          spans = spans_then (sign_framed (codes "{")) p v.spans;
          ends = λ h. clash {b = false} h refl;
          alone = λ h. clash al h;
        }

    or_true : (b : Bool) → (b || true) ≡ true
    or_true true = refl
    or_true false = refl

    word_sound : (looped start : Bool) (a : Characters) (ts : List Token) (n : ℕ) → Sound (Statement_read form room looped start (at (Token.Reserved a ∷ ts) n)) (word_statement form room inner looped start a (at (Token.Reserved a ∷ ts) n))
    word_sound looped start a ts n =
        by_bool (same a (codes "const")) (λ h. rw h (const_sound looped start (at (Token.Reserved a ∷ ts) n) (at ts n) (rw h refl) (word_here (codes "const") a ts n h))) (λ h1.
        by_bool (same a (codes "let")) (λ h. rw (h1, h) (variable_sound form room inner whole_sound looped start (at (Token.Reserved a ∷ ts) n) (at ts n) (rw h (or_true (same a (codes "const")))) (word_here (codes "let") a ts n h))) (λ h2.
        by_bool (same a (codes "return")) (λ h. rw (h1, h2, h) (returned_sound form room inner whole_sound step_sound looped start (at (Token.Reserved a ∷ ts) n) (at ts n) (word_here (codes "return") a ts n h))) (λ h3.
        by_bool (same a (codes "if")) (λ h. rw (h1, h2, h3, h) (conditional_sound looped start (at (Token.Reserved a ∷ ts) n) (at ts n) (word_here (codes "if") a ts n h))) (λ h4.
        by_bool (same a (codes "while")) (λ h. rw (h1, h2, h3, h4, h) (looping_sound looped start (at (Token.Reserved a ∷ ts) n) (at ts n) (word_here (codes "while") a ts n h))) (λ h5.
        by_bool (same a (codes "for")) (λ h. rw (h1, h2, h3, h4, h5, h) (each_sound looped start (at (Token.Reserved a ∷ ts) n) (at ts n) (word_here (codes "for") a ts n h))) (λ h6.
        by_bool (same a (codes "break") && looped) (λ h. let p = both (same a (codes "break")) looped h in rw (h1, h2, h3, h4, h5, h6, h) (break_sound form room inner whole_sound looped start (at (Token.Reserved a ∷ ts) n) (at ts n) p.1 (word_here (codes "break") a ts n p.0))) (λ h7.
        by_bool (same a (codes "continue") && looped) (λ h. let p = both (same a (codes "continue")) looped h in rw (h1, h2, h3, h4, h5, h6, h7, h) (continue_sound form room inner whole_sound looped start (at (Token.Reserved a ∷ ts) n) (at ts n) p.1 (word_here (codes "continue") a ts n p.0))) (λ h8.
        by_bool (same a (codes "delete")) (λ h. rw (h1, h2, h3, h4, h5, h6, h7, h8, h) (deleted_sound form room inner whole_sound postfix_sound looped start (at (Token.Reserved a ∷ ts) n) (at ts n) (word_here (codes "delete") a ts n h))) (λ h9.
        rw (h1, h2, h3, h4, h5, h6, h7, h8, h9) (done_sound form room inner whole_sound step_sound looped start (at (Token.Reserved a ∷ ts) n) (no_brace_word a ts n)))))))))))

    statement_at : (looped start : Bool) (ts : List Token) (n : ℕ) → Sound (Statement_read form room looped start (at ts n)) (statement form room inner looped start (at ts n))
    unfolding statement sees
    statement_at looped start (Token.Reserved a ∷ ts) n = word_sound looped start a ts n
    statement_at looped start (Token.Punct a ∷ ts) n = by_bool (same a (codes "{"))
        (λ h. rw h (sound_then (braced looped (at ts n)) (λ xs j v. read (block_read looped start (at (Token.Punct a ∷ ts) n) (at ts n) j xs (rw h refl) (sign_here (codes "{") a ts n h refl) v))))
        (λ h. rw h (done_sound form room inner whole_sound step_sound looped start (at (Token.Punct a ∷ ts) n) h))
    statement_at looped start [] n = done_sound form room inner whole_sound step_sound looped start (at [] n) refl
    statement_at looped start (t ∷ ts) n = done_sound form room inner whole_sound step_sound looped start (at (t ∷ ts) n) refl

    statement_sound : (looped start : Bool) (i : Input) → Sound (Statement_read form room looped start i) (statement form room inner looped start i)
    statement_sound looped start i = statement_at looped start i.tokens i.arrows

    -- ---- blocks

    next_statement : (looped start : Bool) (so_far : List Stmt) (i a j : Input) (x : Stmt) (ys : List Stmt) → Statement_read form room looped start i x a → Statements_run form room looped false (so_far ++ x ∷ []) a ys j
        → Statements_run form room looped start so_far i ys j
    next_statement looped start so_far i a j x ys v t =
        let c = v.spans.count in
        let f = v.flat in
        let g = t.flat in
        record {
          text = Then v.text t.text;
          keeping = (v.keeping, t.keeping);
          flat = omega (arith, f, g);
          means = λ n q.
              let here : n + arrows (statement_tokens v.text) ≡ a.arrows = omega (arith, q, c) in
              ap (λ x. so_far ++ x ∷ statements_tree (n + arrows (statement_tokens v.text)) t.text) (v.means n q)
              ∙ sym (append_assoc so_far (x ∷ []) (statements_tree (n + arrows (statement_tokens v.text)) t.text)) ∙ t.means (n + arrows (statement_tokens v.text)) here;
          spans = spans_then (statement_framed v.text) v.spans t.spans;
        }

    statements_from_sound : (n : ℕ) (looped start : Bool) (so_far : List Stmt) (i : Input) → Sound (Statements_run form room looped start so_far i) (statements_from form room inner looped start n so_far i)
    unfolding statements_from
    statements_from_sound zero looped start so_far i = refused
    statements_from_sound (suc n) looped start so_far i = by_bool (sees (Sign (codes "}")) i)
        (λ h. rw h (read {j = i} (record { text = No_statement; keeping = tt; flat = omega arith; means = λ n q. append-nil so_far; spans = record { spelt = refl; count = omega arith } })))
        (λ h. rw h (sound_then (statement_sound looped start i) (λ x a v. implied (statements_from_sound n looped false (so_far ++ x ∷ []) a) (λ ys j t. next_statement looped start so_far i a j x ys v t))))

    pub block_sound : (looped : Bool) (i : Input) → Sound (Block_read form (suc room) looped i) (block form room inner looped i)
    unfolding block
    block_sound looped i = sound_then (statements_from_sound (length i.tokens) looped true [] i) (λ xs a v. sound_then (expect_sound (Sign (codes "}")) a refl) (λ _ j p.
        let f = v.flat in
        read (record { text = v.text; keeping = v.keeping; flat = omega (arith, f); means = v.means; spans = spans_then (statements_framed v.text) v.spans p })))

    -- one statement that is no block and no declaration
    single_by_sound : (looped : Bool) (i : Input) → sees (Sign (codes "{")) i ≡ false → (b : Bool) → (first_is (Word (codes "const")) i.tokens || first_is (Word (codes "let")) i.tokens) ≡ b → Sound (Part_read form (suc room) looped i) (single_by form room inner looped b i)
    single_by_sound looped i h true k = refused
    single_by_sound looped i h false k = sound_then (statement_sound looped false i) (λ x j v.
        let f = v.flat in
        read (record {
          text = Statement_part v.text;
          keeping = (v.alone (no_declaration i h k), v.keeping);
          flat = omega (arith, f);
          means = λ n q. ap (λ x. x ∷ []) (v.means n q);
          spans = v.spans;
          ends = v.ends;
        }))

    pub single_sound : (looped : Bool) (i : Input) → sees (Sign (codes "{")) i ≡ false → Sound (Part_read form (suc room) looped i) (single form room inner looped i)
    unfolding single
    single_sound looped i h = single_by_sound looped i h (first_is (Word (codes "const")) i.tokens || first_is (Word (codes "let")) i.tokens) refl

    -- what follows `else` needs one level for itself
    pub else_sound : (looped : Bool) (i : Input) → Sound (Else_read form (suc room) looped i) (group form room inner (Otherwise looped) i)
    unfolding group
    else_sound looped i = sound_then (enter_sound room i) (λ _ a r. subst (λ a. Sound (Else_read form (suc room) looped i) (held form room inner looped a)) r.0 (implied (held_sound looped i) (λ xs j p. else_read looped i j xs p)))
