-- What is written is read: statements and blocks.
use Rattle.std.proofs.Common.{◌≡◌, refl, sym, ◌∙◌, subst, arith, append_assoc, append-nil}
use Rattle.std.specs.Prelude.{ℕ, zero, suc, ◌+◌, ◌≤◌, ◌<◌, max, Bool, true, false, ◌||◌, List, [], ◌∷◌, ◌++◌, map, length, codes}
use Rattle.std.proofs.Math.Nat.{le-max_left, le-max_right}
use Rattle.qk_ast.specs.declared.Form.{Form}
use Rattle.qk_ast.specs.declared.Stmt.{Stmt}
use Rattle.qk_ast.specs.declared.Un.TheVariants as un
use Rattle.qk_ast.specs.Characters.{Characters, same, is_one_of}
use Rattle.qk_ast.specs.Tokens.{Token}
use Rattle.qk_ast.specs.Grammar.{Binding, Plain, Fields_of, Bare, In_brackets, Expression, Undefined, Null, Truth, Number, Quoted, Named, Whole, Holed, Bracketed, Listed, Recorded, Markup, Log, Keys, Str, Trunc, Postfix, Prefix, Chain, Choice, Function, Closed, Open, Fragment, Step, Plain_step, Assign, Bump, Statement, Const, Scope, Let, Return, Return_step, If, If_else, While, For_of, Break, Continue, Delete, Block, Do, Statements, No_statement, Then, Part, Block_part, Statement_part}
use Rattle.qk_ast.specs.Spelling.{◌⨾◌, tokens, bin_sign, assign_sign, bump_sign, operands_tokens, link_tokens, links_tokens, binding_tokens, step_tokens, scope_tokens, statement_tokens, statements_tokens, part_tokens}
use Rattle.qk_ast.specs.Depth.{inside, depth, binding_depth, statement_depth, statements_depth, part_depth}
use Rattle.qk_ast.specs.Tree.{arrows, arrow_signs, bytes, tree, statement_tree, statements_tree, part_tree}
use Rattle.qk_ast.specs.Rules.{binds, statement_keeps, statements_keep, part_keeps, is_member, ends_with_if, part_ends_with_if, may_be_part}
use Rattle.qk_reading.specs.Input.{at, Sign, Word, first_is, sees, after, expect, name_that, many_from, many, Single, Otherwise}
use Rattle.qk_reading.specs.Parts.{comma_name, scope}
use Rattle.qk_reading.specs.Statements.{held, condition, declared, constant, variable, returned, conditional, looping, each, deleted, done, statement, statements_from, block, single, group}
use Rattle.qk_reading.specs.Reader.{nesting}
use Rattle.qk_reading.proofs.Framed.{framed, step_framed, statement_framed, statements_framed, part_framed}
use Rattle.qk_ast.proofs.FrontToken.{same_is}
use Rattle.qk_reading.proofs.Follow.{Opens, opens_not, opens, by_bool, clash}
use Rattle.qk_reading.proofs.Counted.{counted, measured, some_length, member_kind}
use Rattle.qk_reading.proofs.Reached.{Reaches, reached, deep, reach_then, enter_reach, many_stop, unseen, after_unseen}
use Rattle.qk_reading.proofs.Atoms.{moved, le_binds, many_step, Reads, Nests}
use Rattle.qk_reading.proofs.Lists.{expect_reach}
use Rattle.qk_reading.proofs.Statements.{Step_reads, Block_reads, braceless}
use Rattle.qk_reading.proofs.Patterns.{binding_uncounted, pattern_reach}

-- ---- the first token of a step

abbrev literals : List Characters
literals = codes "undefined" ∷ codes "null" ∷ codes "true" ∷ codes "false" ∷ []

-- a token that may begin an expression, among others
abbrev Firsts : List Token → Bool
Firsts [] = false
Firsts (Token.Reserved a ∷ ts) = is_one_of a literals
Firsts (t ∷ ts) = true

literal_of : (P : Characters → Type 0) (a : Characters) → is_one_of a literals ≡ true → P (codes "undefined") → P (codes "null") → P (codes "true") → P (codes "false") → P a
literal_of P a h u n t f = by_bool (same a (codes "undefined")) (λ e. subst P (sym (same_is a (codes "undefined") e)) u)
    (λ e. by_bool (same a (codes "null")) (λ e2. subst P (sym (same_is a (codes "null") e2)) n)
    (λ e2. by_bool (same a (codes "true")) (λ e3. subst P (sym (same_is a (codes "true") e3)) t)
    (λ e3. by_bool (same a (codes "false")) (λ e4. subst P (sym (same_is a (codes "false") e4)) f)
    (λ e4. let g : is_one_of a literals ≡ false = rw (e, e2, e3, e4) refl in clash h g))))

expression_first : (x : Expression) (ts : List Token) → Firsts (tokens x ts) ≡ true
expression_first (Undefined) ts = refl
expression_first (Null) ts = refl
expression_first (Truth true) ts = refl
expression_first (Truth false) ts = refl
expression_first (Number a) ts = refl
expression_first (Quoted q ps) ts = refl
expression_first (Named a) ts = refl
expression_first (Whole ps) ts = refl
expression_first (Holed ps x more) ts = refl
expression_first (Bracketed x) ts = refl
expression_first (Listed arguments) ts = refl
expression_first (Recorded fs) ts = refl
expression_first (Markup (Closed tag attributes)) ts = refl
expression_first (Markup (Open tag attributes inner end)) ts = refl
expression_first (Markup (Fragment inner)) ts = refl
expression_first (Log x) ts = refl
expression_first (Keys x) ts = refl
expression_first (Str x) ts = refl
expression_first (Trunc x y) ts = refl
expression_first (Prefix un.Not x) ts = refl
expression_first (Prefix un.Neg x) ts = refl
expression_first (Function (Bare a) inner) ts = refl
expression_first (Function (In_brackets bindings) inner) ts = refl
expression_first (Postfix head link more) ts = expression_first head (link_tokens link (links_tokens more ts))
expression_first (Chain x op y more) ts = expression_first x (bin_sign op (tokens y (operands_tokens more ts)))
expression_first (Choice x y z) ts = expression_first x (Token.Punct (codes "?") ∷ tokens y (Token.Punct (codes ":") ∷ tokens z ts))

step_first : (x : Step) (ts : List Token) → Firsts (step_tokens x ts) ≡ true
step_first (Plain_step x) ts = expression_first x ts
step_first (Assign x op y) ts = expression_first x (assign_sign op (tokens y ts))
step_first (Bump x up) ts = expression_first x (bump_sign up ts)

step_opens : (x : Step) (ts : List Token) → Opens 1 (step_tokens x ts)
step_opens (Plain_step x) ts = opens x ts
step_opens (Assign x op y) ts = opens x (assign_sign op (tokens y ts))
step_opens (Bump x up) ts = opens x (bump_sign up ts)

abbrev pub NoElse : List Token → Type 0
NoElse ts = first_is (Word (codes "else")) ts ≡ false

first_word : (w : Characters) → is_one_of w literals ≡ false → (ts : List Token) → Firsts ts ≡ true → first_is (Word w) ts ≡ false
first_word w o [] h = refl
first_word w o (Token.Punct c ∷ ts) h = refl
first_word w o (Token.Name c ∷ ts) h = refl
first_word w o (Token.Reserved c ∷ ts) h = by_bool (same c w) (λ e. clash (subst (λ c. is_one_of c literals ≡ true) (same_is c w e) h) o) (λ e. e)
first_word w o (Token.Int c ∷ ts) h = refl
first_word w o (Token.Text q c ∷ ts) h = refl
first_word w o (Token.Attribute q c ∷ ts) h = refl
first_word w o (Token.Template g c t ∷ ts) h = refl
first_word w o (Token.Begin c ∷ ts) h = refl
first_word w o (Token.JsxText c ∷ ts) h = refl

module _ (form : Form) (room : ℕ) (looped start : Bool) where
  is_step : (ts : List Token) (n : ℕ) → Firsts ts ≡ true → first_is (Sign (codes "{")) ts ≡ false → statement form room (nesting form room) looped start (at ts n) ≡ done form room (nesting form room) (at ts n)
  unfolding statement
  is_step [] n h b = refl
  is_step (Token.Punct c ∷ ts) n h b = rw b refl
  is_step (Token.Name c ∷ ts) n h b = refl
  is_step (Token.Reserved c ∷ ts) n h b = literal_of (λ c. statement form room (nesting form room) looped start (at (Token.Reserved c ∷ ts) n) ≡ done form room (nesting form room) (at (Token.Reserved c ∷ ts) n)) c h refl refl refl refl
  is_step (Token.Int c ∷ ts) n h b = refl
  is_step (Token.Text q c ∷ ts) n h b = refl
  is_step (Token.Attribute q c ∷ ts) n h b = refl
  is_step (Token.Template g c t ∷ ts) n h b = refl
  is_step (Token.Begin c ∷ ts) n h b = refl
  is_step (Token.JsxText c ∷ ts) n h b = refl

-- ---- first tokens of statements

statement_open : (x : Statement) (ts : List Token) → first_is (Sign (codes "}")) (statement_tokens x ts) ≡ false
statement_open (Do x) ts = opens_not (codes "}") (step_tokens x (Token.Punct (codes ";") ∷ ts)) (step_opens x (Token.Punct (codes ";") ∷ ts))
statement_open x ts = refl

statement_no_else : (x : Statement) (ts : List Token) → NoElse (statement_tokens x ts)
statement_no_else (Do x) ts = first_word (codes "else") refl (step_tokens x (Token.Punct (codes ";") ∷ ts)) (step_first x (Token.Punct (codes ";") ∷ ts))
statement_no_else x ts = refl

statements_no_else : (x : Statements) (ts : List Token) → NoElse (statements_tokens x (Token.Punct (codes "}") ∷ ts))
statements_no_else No_statement ts = refl
statements_no_else (Then x more) ts = statement_no_else x (statements_tokens more (Token.Punct (codes "}") ∷ ts))

statement_some : (x : Statement) → 1 ≤ length (statement_tokens x [])
statement_some (Do x) = some_length (step_tokens x (Token.Punct (codes ";") ∷ [])) (step_opens x (Token.Punct (codes ";") ∷ []))
statement_some x = omega arith

statement_longer : (x : Statement) (ts : List Token) → length ts < length (statement_tokens x ts)
statement_longer x ts = let a = measured (statement_framed x) ts in let b = statement_some x in omega (arith, a, b)

binding_no_list : (x : Binding) (ts : List Token) → first_is (Sign (codes "[")) (binding_tokens x ts) ≡ false
binding_no_list (Plain a) ts = refl
binding_no_list (Fields_of x) ts = refl

scope_uncounted : (more : List Characters) (ts : List Token) → arrow_signs (scope_tokens more ts) ≡ arrow_signs ts
scope_uncounted [] ts = refl
scope_uncounted (a ∷ more) ts = scope_uncounted more ts

member_binds : (x : Expression) → is_member x ≡ true → binds 8 x ≡ true
member_binds (Postfix head link more) h = refl
member_binds x h = clash h refl

module _ (D : Type 0) (form : Form) where
  abbrev pub Statement_reads : Statement → Type 0
  Statement_reads x = (looped start : Bool) → statement_keeps form looped start x → (room n m : ℕ) (ts : List Token) → (room < statement_depth x → D) → m ≡ n + arrows (statement_tokens x)
      → (ends_with_if x ≡ true → NoElse ts) → Reaches D (statement_tree n x) (at ts m) (statement form room (nesting form room) looped start (at (statement_tokens x ts) n))

  abbrev pub Part_reads : Part → Type 0
  Part_reads x = (looped : Bool) → part_keeps form looped x → (room n m : ℕ) (ts : List Token) → (room < part_depth x → D) → m ≡ n + arrows (part_tokens x)
      → (part_ends_with_if x ≡ true → NoElse ts) → Reaches D (part_tree n x) (at ts m) (held form room (nesting form room) looped (at (part_tokens x ts) n))

  pub const_reads : (b : Binding) (x : Expression) → Reads D form x → Statement_reads (Const b x)
  unfolding statement constant declared sees expect
  const_reads b x h looped start ke room n m ts d q u =
      let us = tokens x (Token.Punct (codes ";") ∷ ts) in
      let c0 = binding_uncounted b (Token.Punct (codes "=") ∷ tokens x (Token.Punct (codes ";") ∷ [])) in
      let c1 = counted (framed x) (Token.Punct (codes ";") ∷ []) in
      rw (binding_no_list b (Token.Punct (codes "=") ∷ us)) (reach_then _ (pattern_reach D b room n (Token.Punct (codes "=") ∷ us) (λ l. d (omega (arith, l, le-max_left (binding_depth b) (depth x)))))
      (reach_then _ (h room 0 n m (Token.Punct (codes ";") ∷ ts) (λ l. d (omega (arith, l, le-max_right (binding_depth b) (depth x)))) (omega arith) (le_binds 0 x (omega arith)) (omega (arith, q, c0, c1)) (omega arith)) reached))

  scope_names : (room n : ℕ) (more : List Characters) (fuel : ℕ) (so_far : List (List ℕ)) (ts : List Token) → length (scope_tokens more (Token.Punct (codes "]") ∷ ts)) ≤ fuel
      → Reaches D (so_far ++ map bytes more) (at (Token.Punct (codes "]") ∷ ts) n) (many_from comma_name fuel so_far (at (scope_tokens more (Token.Punct (codes "]") ∷ ts)) n))
  unfolding comma_name sees after name_that
  scope_names room n [] fuel so_far ts f = rw (many_stop comma_name fuel so_far (at (Token.Punct (codes "]") ∷ ts) n) refl, append-nil) reached
  scope_names room n (a ∷ more) fuel so_far ts f =
      let us = scope_tokens more (Token.Punct (codes "]") ∷ ts) in
      many_step comma_name fuel so_far (bytes a) (at (Token.Punct (codes ",") ∷ Token.Name a ∷ us) n) (at us n) f (omega arith) reached
      (λ fuel' f'. subst (λ ys. Reaches D ys (at (Token.Punct (codes "]") ∷ ts) n) (many_from comma_name fuel' (so_far ++ bytes a ∷ []) (at us n))) (append_assoc so_far (bytes a ∷ []) (map bytes more))
      (scope_names room n more fuel' (so_far ++ bytes a ∷ []) ts f'))

  pub scope_reads : (a : Characters) (more : List Characters) → Statement_reads (Scope a more)
  unfolding statement constant scope sees expect name_that many
  scope_reads a more looped start ke room n m ts d q u =
      let vs = Token.Punct (codes "=") ∷ Token.Name (codes "useLexicalScope") ∷ Token.Punct (codes "(") ∷ Token.Punct (codes ")") ∷ Token.Punct (codes ";") ∷ ts in
      let us = scope_tokens more (Token.Punct (codes "]") ∷ vs) in
      let c0 = scope_uncounted more (Token.Punct (codes "]") ∷ Token.Punct (codes "=") ∷ Token.Name (codes "useLexicalScope") ∷ Token.Punct (codes "(") ∷ Token.Punct (codes ")") ∷ Token.Punct (codes ";") ∷ []) in
      rw (ke.0, ke.1) (moved n m (omega (arith, q, c0)) (reach_then _ (enter_reach room (at (Token.Name a ∷ us) n) d) (reach_then _ (scope_names room n more (length us) [] vs (omega arith)) reached)))

  pub let_reads : (a : Characters) (x : Expression) → Reads D form x → Statement_reads (Let a x)
  unfolding statement variable sees expect name_that
  let_reads a x h looped start ke room n m ts d q u =
      let c1 = counted (framed x) (Token.Punct (codes ";") ∷ []) in
      reach_then _ (h room 0 n m (Token.Punct (codes ";") ∷ ts) d (omega arith) (le_binds 0 x (omega arith)) (omega (arith, q, c1)) (omega arith)) reached

  pub return_reads : Statement_reads Return
  unfolding statement returned sees
  return_reads looped start ke room n m ts d q u = moved n m (omega (arith, q)) reached

  pub return_step_reads : (x : Step) → Step_reads D form x → Statement_reads (Return_step x)
  unfolding statement returned sees expect
  return_step_reads x h looped start ke room n m ts d q u =
      let c1 = counted (step_framed x) (Token.Punct (codes ";") ∷ []) in
      rw (opens_not (codes ";") (step_tokens x (Token.Punct (codes ";") ∷ ts)) (step_opens x (Token.Punct (codes ";") ∷ ts)))
      (reach_then _ (h room n m (Token.Punct (codes ";") ∷ ts) d (omega (arith, q, c1)) (omega arith)) reached)

  condition_reach : (x : Expression) → Nests D form x → (room n m : ℕ) (ts : List Token) → (room < inside (depth x) → D) → m ≡ n + arrows (tokens x)
      → Reaches D (tree n x) (at ts m) (condition form room (nesting form room) (at (Token.Punct (codes "(") ∷ tokens x (Token.Punct (codes ")") ∷ ts)) n))
  unfolding condition expect sees
  condition_reach x h room n m ts d q = reach_then _ (h room n m (Token.Punct (codes ")") ∷ ts) d q (omega arith)) reached

  pub if_reads : (x : Expression) (y : Part) → Nests D form x → Part_reads y → Statement_reads (If x y)
  unfolding statement conditional sees after
  if_reads x y h k looped start ke room n m ts d q u =
      let vs = part_tokens y ts in
      let m1 = n + arrows (tokens x) in
      let c1 = counted (framed x) (Token.Punct (codes ")") ∷ part_tokens y []) in
      let b1 = le-max_left (inside (depth x)) (part_depth y) in
      let b2 = le-max_right (inside (depth x)) (part_depth y) in
      reach_then _ (enter_reach room _ (λ l. d (omega (arith, l, b1)))) (reach_then _ (condition_reach x h room n m1 vs (λ l. d (omega (arith, l, b1))) refl)
      (reach_then _ (k looped ke.1 room m1 m ts (λ l. d (omega (arith, l, b2))) (omega (arith, q, c1)) (λ e. u refl)) (rw (u refl) reached)))

  other_reach : (x : Part) → Part_reads x → (looped : Bool) → part_keeps form looped x → (room n m : ℕ) (ts : List Token) → (room < inside (part_depth x) → D) → 1 ≤ part_depth x → m ≡ n + arrows (part_tokens x)
      → (part_ends_with_if x ≡ true → NoElse ts) → Reaches D (part_tree n x) (at ts m) ((nesting form room).group (Otherwise looped) (at (part_tokens x ts) n))
  unfolding nesting group
  other_reach x h looped ke zero n m ts d p q u = deep (d (omega arith))
  other_reach x h looped ke (suc room) n m ts d p q u = reach_then _ (enter_reach room (at (part_tokens x ts) n) (λ l. d (omega (arith, l, p)))) (h looped ke room n m ts (λ l. d (omega (arith, l))) q u)

  part_deep : (x : Part) → 1 ≤ part_depth x
  part_deep (Block_part x) = omega arith
  part_deep (Statement_part x) = omega arith

  pub if_else_reads : (x : Expression) (y z : Part) → Nests D form x → Part_reads y → Part_reads z → Statement_reads (If_else x y z)
  unfolding statement conditional sees after
  if_else_reads x y z h k r looped start ke room n m ts d q u =
      let ws = part_tokens z ts in
      let vs = part_tokens y (Token.Reserved (codes "else") ∷ ws) in
      let m1 = n + arrows (tokens x) in
      let m2 = n + arrows (tokens x ⨾ part_tokens y) in
      let c1 = counted (framed x) (part_tokens y []) in
      let c2 = counted (framed x) (Token.Punct (codes ")") ∷ part_tokens y (Token.Reserved (codes "else") ∷ part_tokens z [])) in
      let c3 = counted (part_framed y) (Token.Reserved (codes "else") ∷ part_tokens z []) in
      let b1 = le-max_left (inside (depth x)) (max (part_depth y) (inside (part_depth z))) in
      let b2 = le-max_right (inside (depth x)) (max (part_depth y) (inside (part_depth z))) in
      let b3 = le-max_left (part_depth y) (inside (part_depth z)) in
      let b4 = le-max_right (part_depth y) (inside (part_depth z)) in
      reach_then _ (enter_reach room _ (λ l. d (omega (arith, l, b1)))) (reach_then _ (condition_reach x h room n m1 vs (λ l. d (omega (arith, l, b1))) refl)
      (reach_then _ (k looped ke.2 room m1 m2 (Token.Reserved (codes "else") ∷ ws) (λ l. d (omega (arith, l, b2, b3))) (omega (arith, c1)) (λ e. clash e ke.1))
      (reach_then _ (other_reach z r looped ke.3 room m2 m ts (λ l. d (omega (arith, l, b2, b4))) (part_deep z) (omega (arith, q, c1, c2, c3)) u) reached)))

  pub while_reads : (x : Expression) (y : Part) → Nests D form x → Part_reads y → Statement_reads (While x y)
  unfolding statement looping
  while_reads x y h k looped start ke room n m ts d q u =
      let vs = part_tokens y ts in
      let m1 = n + arrows (tokens x) in
      let c1 = counted (framed x) (Token.Punct (codes ")") ∷ part_tokens y []) in
      let b1 = le-max_left (inside (depth x)) (part_depth y) in
      let b2 = le-max_right (inside (depth x)) (part_depth y) in
      reach_then _ (enter_reach room _ (λ l. d (omega (arith, l, b1)))) (reach_then _ (condition_reach x h room n m1 vs (λ l. d (omega (arith, l, b1))) refl)
      (reach_then _ (k true ke.1 room m1 m ts (λ l. d (omega (arith, l, b2))) (omega (arith, q, c1)) u) reached))

  pub for_of_reads : (a : Characters) (x : Expression) (y : Part) → Nests D form x → Part_reads y → Statement_reads (For_of a x y)
  unfolding statement each sees expect name_that
  for_of_reads a x y h k looped start ke room n m ts d q u =
      let vs = part_tokens y ts in
      let m1 = n + arrows (tokens x) in
      let c1 = counted (framed x) (Token.Punct (codes ")") ∷ part_tokens y []) in
      let b1 = le-max_left (inside (depth x)) (part_depth y) in
      let b2 = le-max_right (inside (depth x)) (part_depth y) in
      reach_then _ (enter_reach room _ (λ l. d (omega (arith, l, b1)))) (reach_then _ (h room n m1 (Token.Punct (codes ")") ∷ vs) (λ l. d (omega (arith, l, b1))) refl (omega arith))
      (reach_then _ (k true ke.1 room m1 m ts (λ l. d (omega (arith, l, b2))) (omega (arith, q, c1)) u) reached))

  pub break_reads : Statement_reads Break
  unfolding statement sees expect
  break_reads looped start ke room n m ts d q u = rw ke (moved n m (omega (arith, q)) reached)

  pub continue_reads : Statement_reads Continue
  unfolding statement sees expect
  continue_reads looped start ke room n m ts d q u = rw ke (moved n m (omega (arith, q)) reached)

  pub delete_reads : (x : Expression) → Reads D form x → Statement_reads (Delete x)
  unfolding statement deleted sees expect
  delete_reads x h looped start ke room n m ts d q u =
      let c1 = counted (framed x) (Token.Punct (codes ";") ∷ []) in
      reach_then _ (h room 8 n m (Token.Punct (codes ";") ∷ ts) d (omega arith) (member_binds x ke.0) (omega (arith, q, c1)) (omega arith)) (rw (member_kind x ∙ ke.0) reached)

  pub block_reads : (x : Statements) → Block_reads D form x → Statement_reads (Block x)
  unfolding statement
  block_reads x h looped start ke room n m ts d q u =
      let c1 = counted (statements_framed x) (Token.Punct (codes "}") ∷ []) in
      reach_then _ (h looped ke room n m ts d (omega (arith, q, c1))) reached

  pub do_reads : (x : Step) → Step_reads D form x → Statement_reads (Do x)
  unfolding done sees expect
  do_reads x h looped start ke room n m ts d q u =
      let us = Token.Punct (codes ";") ∷ ts in
      let c1 = counted (step_framed x) (Token.Punct (codes ";") ∷ []) in
      rw (is_step form room looped start (step_tokens x us) n (step_first x us) (braceless D form x us ke.0))
      (reach_then _ (h room n m us d (omega (arith, q, c1)) (omega arith)) reached)

  -- ---- lists of statements

  abbrev pub Statements_read : Statements → Type 0
  Statements_read x = (looped start : Bool) → statements_keep form looped start x → (room n m fuel : ℕ) (so_far : List Stmt) (ts : List Token) → (room < statements_depth x → D)
      → m ≡ n + arrows (statements_tokens x) → length (statements_tokens x (Token.Punct (codes "}") ∷ ts)) ≤ fuel
      → Reaches D (so_far ++ statements_tree n x) (at (Token.Punct (codes "}") ∷ ts) m) (statements_from form room (nesting form room) looped start fuel so_far (at (statements_tokens x (Token.Punct (codes "}") ∷ ts)) n))

  pub no_statement_read : Statements_read No_statement
  unfolding statements_from sees
  no_statement_read looped start ke room n m zero so_far ts d q f = absurd (omega (arith, f))
  no_statement_read looped start ke room n m (suc fuel) so_far ts d q f = rw append-nil (moved n m (omega (arith, q)) reached)

  pub then_read : (x : Statement) (more : Statements) → Statement_reads x → Statements_read more → Statements_read (Then x more)
  unfolding statements_from sees
  then_read x more h k looped start ke room n m zero so_far ts d q f = let a = statement_longer x (statements_tokens more (Token.Punct (codes "}") ∷ ts)) in absurd (omega (arith, f, a))
  then_read x more h k looped start ke room n m (suc fuel) so_far ts d q f =
      let us = statements_tokens more (Token.Punct (codes "}") ∷ ts) in
      let a = statement_longer x us in
      let m1 = n + arrows (statement_tokens x) in
      let c1 = counted (statement_framed x) (statements_tokens more []) in
      rw (statement_open x us) (reach_then _ (h looped start ke.0 room n m1 us (λ l. d (omega (arith, l, le-max_left (statement_depth x) (statements_depth more)))) refl (λ e. statements_no_else more ts))
      (subst (λ ys. Reaches D ys (at (Token.Punct (codes "}") ∷ ts) m) (statements_from form room (nesting form room) looped false fuel (so_far ++ statement_tree n x ∷ []) (at us m1))) (append_assoc so_far (statement_tree n x ∷ []) (statements_tree m1 more))
      (k looped false ke.1 room m1 m fuel (so_far ++ statement_tree n x ∷ []) ts (λ l. d (omega (arith, l, le-max_right (statement_depth x) (statements_depth more)))) (omega (arith, q, c1)) (omega (arith, f, a)))))

  pub blocks : (x : Statements) → Statements_read x → Block_reads D form x
  unfolding nesting group block
  blocks x h looped ke zero n m ts d q = deep (d (omega arith))
  blocks x h looped ke (suc room) n m ts d q =
      let us = statements_tokens x (Token.Punct (codes "}") ∷ ts) in
      reach_then _ (h looped true ke room n m (length us) [] ts (λ l. d (omega (arith, l))) q (omega arith)) (reach_then _ (expect_reach (codes "}") ts m refl) reached)

  -- ---- parts

  pub block_part_reads : (x : Statements) → Block_reads D form x → Part_reads (Block_part x)
  unfolding held sees after
  block_part_reads x h looped ke room n m ts d q u =
      let c1 = counted (statements_framed x) (Token.Punct (codes "}") ∷ []) in
      h looped ke room n m ts d (omega (arith, q, c1))

  part_unbraced : (x : Statement) (looped : Bool) → may_be_part x ≡ true → statement_keeps form looped false x → (ts : List Token) → first_is (Sign (codes "{")) (statement_tokens x ts) ≡ false
  part_unbraced (Do x) looped p ke ts = braceless D form x (Token.Punct (codes ";") ∷ ts) ke.0
  part_unbraced (Block x) looped p ke ts = clash p refl
  part_unbraced x looped p ke ts = refl

  part_undeclared : (x : Statement) → may_be_part x ≡ true → (ts : List Token) → (first_is (Word (codes "const")) (statement_tokens x ts) || first_is (Word (codes "let")) (statement_tokens x ts)) ≡ false
  part_undeclared (Do x) p ts =
      let us = Token.Punct (codes ";") ∷ ts in
      rw (first_word (codes "const") refl (step_tokens x us) (step_first x us), first_word (codes "let") refl (step_tokens x us) (step_first x us)) refl
  part_undeclared (Const b x) p ts = clash p refl
  part_undeclared (Scope a more) p ts = clash p refl
  part_undeclared (Let a x) p ts = clash p refl
  part_undeclared x p ts = refl

  single_reach : (x : Statement) → Statement_reads x → may_be_part x ≡ true → (looped : Bool) → statement_keeps form looped false x → (room n m : ℕ) (ts : List Token) → (room < inside (statement_depth x) → D)
      → m ≡ n + arrows (statement_tokens x) → (ends_with_if x ≡ true → NoElse ts) → Reaches D (statement_tree n x ∷ []) (at ts m) ((nesting form room).group (Single looped) (at (statement_tokens x ts) n))
  unfolding nesting group single
  single_reach x h p looped ke zero n m ts d q u = deep (d (omega arith))
  single_reach x h p looped ke (suc room) n m ts d q u = rw (part_undeclared x p ts) (reach_then _ (h looped false ke room n m ts (λ l. d (omega (arith, l))) q u) reached)

  pub statement_part_reads : (x : Statement) → Statement_reads x → Part_reads (Statement_part x)
  unfolding held
  statement_part_reads x h looped ke room n m ts d q u =
      let s = unseen (codes "{") (at (statement_tokens x ts) n) (part_unbraced x looped ke.0 ke.1 ts) in
      rw (s, after_unseen (Sign (codes "{")) (at (statement_tokens x ts) n) s) (single_reach x h ke.0 looped ke.1 room n m ts d q u)
