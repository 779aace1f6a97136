-- A fault of nesting comes only behind so many tokens that can raise it: elements, steps and statements.
use Rattle.std.proofs.Common.{◌≡◌, refl, sym, ◌∙◌, ap, subst, arith, append_assoc, length-append, true≢false}
use Rattle.std.specs.Prelude.{ℕ, zero, suc, ◌-◌, ◌≤◌, Bool, true, false, ◌&&◌, ◌||◌, List, [], ◌∷◌, ◌++◌, length, ◌<◌, Option, Some, None, Result, Ok, Err, codes}
use Rattle.qk_ast.specs.declared.Form.{Form}
use Rattle.qk_ast.specs.declared.Module.{Module}
use Rattle.qk_ast.specs.declared.Expr.{Expr}
use Rattle.qk_ast.specs.declared.Stmt.{Stmt}
use Rattle.qk_ast.specs.declared.Stmt.TheVariants as s
use Rattle.qk_ast.specs.declared.AssignOp.{AssignOp}
use Rattle.qk_ast.specs.Characters.{Characters, same}
use Rattle.qk_ast.specs.Tokens.{Token, is_tag_name}
use Rattle.qk_ast.specs.Rules.{is_built}
use Rattle.qk_reading.specs.Input.{Input, at, Fault, Syntax, TooDeep, Outcome, Inner, Whole, Tight, Tagged, Untagged, Nested, too_deep, is_end, Read, Braced, Single, Otherwise, Sign, Word, Given, peek, ◌>>=◌, first_is, advance, sees}
use Rattle.qk_reading.specs.Ahead.{assign_at, assign_sign, bump_at, bump_sign, is_target_kind, is_member_kind}
use Rattle.qk_reading.specs.Parts.{comma_name, scope, ended}
use Rattle.qk_reading.specs.Forms.{set_by, attribute, braced_by, child, children, tagged, untagged, level}
use Rattle.qk_reading.specs.Statements.{assign_by, step, step_by, body, held, condition, declared, constant, variable, returned, conditional, looping, each, deleted, done, word_statement, statement, statements_from, block, single, single_by, group}
use Rattle.qk_reading.specs.Reader.{nesting, text_by, import_line, next_import, item, next_item, module_of, outcome, read_module}
use Rattle.qk_reading.specs.Laws.{raisers, RaisedPast}
use Rattle.qk_reading.proofs.Follow.{by_bool, clash}
use Rattle.qk_reading.proofs.SoundModules.{is_ok}
use Rattle.qk_reading.proofs.Raised.{Deep, Good, out_of_place, fine, wrong, deep, here, pass, weaker, raise, skip, good_then, by_seen, good_expect, expect_raises, good_name, good_enter, good_many, good_sparse}
use Rattle.qk_reading.proofs.RaisedForms.{IsGood, one_behind, raise_sign, raise_word, good_names, good_pattern, good_nested, good_start, good_postfix, good_unary, good_whole}

abbrev is_syntax : Result Module Fault → Bool
is_syntax (Err (Syntax k)) = true
is_syntax _ = false

abbrev place_of : Result Module Fault → ℕ
place_of (Err (TooDeep k)) = k
place_of (Err (Syntax k)) = k
place_of (Ok m) = 0

good_comma_name : {n : ℕ} (i : Input) → Good n i (comma_name i)
unfolding comma_name
good_comma_name i = by_seen (Sign (codes ",")) i
    (λ s a e. rw (s, a) (skip {j = advance i} (Token.Punct (codes ",")) e (good_then (good_name (λ _. true) (advance i)) (λ x j. fine here))))
    (λ s a. rw (s, a) (fine here))

module _ (form : Form) (room : ℕ) (inner : Nested) (g : IsGood room inner) where
  -- ---- elements

  set_at : (a : Characters) (us : List Token) (m : ℕ) → Good (suc room) (at us m) ((peek >>= set_by form room inner a) (at us m))
  set_at a [] m = wrong
  set_at a (Token.Attribute quote text ∷ us) m = skip {j = at us m} (Token.Attribute quote text) refl (fine here)
  set_at a (Token.Punct s ∷ us) m = expect_raises _ (Sign (codes "{")) (at (Token.Punct s ∷ us) m) refl (λ c. good_then (good_nested form room inner g c) (λ x d. good_then (good_expect (Sign (codes "}")) d) (λ _ f. fine here)))
  set_at a (u ∷ us) m = wrong

  attribute_at : (ts : List Token) (m : ℕ) → Good (suc room) (at ts m) (attribute form room inner (at ts m))
  unfolding attribute
  attribute_at [] m = fine here
  attribute_at (Token.Name a ∷ ts) m = skip {j = at ts m} (Token.Name a) refl (by_seen (Sign (codes "=")) (at ts m)
      (λ s q e. rw (s, q) (skip {j = advance (at ts m)} (Token.Punct (codes "=")) e (good_then (set_at a (advance (at ts m)).tokens m) (λ f j. fine here))))
      (λ s q. rw (s, q) (fine here)))
  attribute_at (t ∷ ts) m = fine here

  good_braced : (b : Bool) (i : Input) → Good room i (braced_by form room inner b i)
  good_braced true i = pass (one_behind i) (fine here)
  good_braced false i = good_then (good_nested form room inner g i) (λ x j. good_then (good_expect (Sign (codes "}")) j) (λ _ k. fine here))

  child_at : (ts : List Token) (m : ℕ) → Good (suc room) (at ts m) (child form room inner (at ts m))
  unfolding child
  child_at [] m = fine here
  child_at (Token.JsxText text ∷ ts) m = skip {j = at ts m} (Token.JsxText text) refl (fine here)
  child_at (Token.Punct a ∷ ts) m = by_bool (same a (codes "{"))
      (λ h. rw h (raise_sign (codes "{") a ts m h refl (good_then (good_then (good_enter room (at ts m)) (λ _ j. fine here)) (λ b j. good_braced b j))))
      (λ h. rw h (fine here))
  child_at (Token.Begin a ∷ ts) m = good_then (good_start form room inner g a ts m) (λ x j. fine here)
  child_at (t ∷ ts) m = fine here

  good_children : (i : Input) → Good (suc room) i (children form room inner i)
  unfolding children
  good_children i = good_sparse (child form room inner) (λ k. child_at k.tokens k.arrows) i

  pub good_tagged : (i : Input) → Good (suc room) i (tagged form room inner i)
  unfolding tagged
  good_tagged i = good_then (good_name is_tag_name i) (λ tag a. good_then (good_many (attribute form room inner) (λ k. attribute_at k.tokens k.arrows) a) (λ fs b. by_seen (Sign (codes "/>")) b
      (λ z q e. rw (z, q) (skip {j = advance b} (Token.Punct (codes "/>")) e (fine here)))
      (λ z q. rw (z, q) (good_then (good_expect (Sign (codes ">")) b) (λ _ c. good_then (good_children c) (λ xs d. good_then (good_expect (Sign (codes "</")) d) (λ _ f. good_then (good_name (same tag) f) (λ end k. good_then (good_expect (Sign (codes ">")) k) (λ _ l. fine here)))))))))

  pub good_untagged : (i : Input) → Good (suc room) i (untagged form room inner i)
  unfolding untagged
  good_untagged i = good_then (good_children i) (λ xs j. good_then (good_expect (Sign (codes "</>")) j) (λ _ k. fine here))

  -- ---- steps

  good_bump : (x : Expr) (i : Input) → Good (suc room) i (assign_by form room inner x None i)
  unfolding bump_sign
  good_bump x i = go (bump_at i.tokens) refl
    where
      go : (o : Option Bool) → bump_at i.tokens ≡ o → Good (suc room) i (assign_by form room inner x None i)
      go None q = rw q (fine here)
      go (Some up) q = rw q (fine (one_behind i))

  good_assign : (x : Read) (i : Input) → Good (suc room) i (step_by form room inner x true i)
  unfolding assign_sign
  good_assign x i = go (assign_at i.tokens) refl
    where
      go : (o : Option AssignOp) → assign_at i.tokens ≡ o → Good (suc room) i (step_by form room inner x true i)
      go None q = rw q (good_bump x.tree i)
      go (Some op) q = rw q (pass (one_behind i) (good_then (good_whole form room inner g (advance i)) (λ y j. fine here)))

  pub good_step : (i : Input) → Good (suc room) i (step form room inner i)
  unfolding step
  good_step i = good_then (good_whole form room inner g i) (λ x a. by_bool (is_target_kind x.kind) (λ h. rw h (good_assign x a)) (λ h. rw h (fine here)))

  pub good_body : (i : Input) → Good (suc room) i (body form room inner i)
  unfolding body
  good_body i = by_seen (Sign (codes "{")) i
      (λ s q e. rw (s, q) (raise {j = advance i} (Token.Punct (codes "{")) refl e (good_then (g.braced false (advance i)) (λ xs j. fine here))))
      (λ s q. rw (s, q) (good_then (good_step i) (λ x j. fine here)))

  -- ---- statements behind their words

  good_held : (looped : Bool) (i : Input) → Good room i (held form room inner looped i)
  unfolding held
  good_held looped i = by_seen (Sign (codes "{")) i
      (λ s q e. rw (s, q) (skip {j = advance i} (Token.Punct (codes "{")) e (g.braced looped (advance i))))
      (λ s q. rw (s, q) (g.alone looped i))

  good_condition : (i : Input) → Good room i (condition form room inner i)
  unfolding condition
  good_condition i = good_then (good_expect (Sign (codes "(")) i) (λ _ a. good_then (good_nested form room inner g a) (λ x b. good_then (good_expect (Sign (codes ")")) b) (λ _ c. fine here)))

  good_declared : (i : Input) → Good (suc room) i (declared form room inner i)
  unfolding declared
  good_declared i = good_then (good_pattern room i) (λ x a. good_then (good_expect (Sign (codes "=")) a) (λ _ b. good_then (good_whole form room inner g b) (λ v c. good_then (good_expect (Sign (codes ";")) c) (λ _ d. fine here))))

  good_scope : (i : Input) → sees (Sign (codes "[")) i ≡ true → Good (suc room) i (scope room i)
  unfolding scope
  good_scope i h = by_seen (Sign (codes "[")) i
      (λ s q e. raise {j = advance i} (Token.Punct (codes "[")) refl e (good_then (good_enter room (advance i)) (λ _ a. good_then (good_name (λ _. true) a) (λ x b. good_then (good_many comma_name good_comma_name b) (λ xs c.
      good_then (good_expect (Sign (codes "]")) c) (λ _ d. good_then (good_expect (Sign (codes "=")) d) (λ _ f. good_then (good_expect (Given (codes "useLexicalScope")) f) (λ _ k. good_then (good_expect (Sign (codes "(")) k) (λ _ l.
      good_then (good_expect (Sign (codes ")")) l) (λ _ m. good_then (good_expect (Sign (codes ";")) m) (λ _ n. fine here)))))))))))
      (λ s q. clash h s)

  good_const : (start : Bool) (i : Input) → Good (suc room) i (constant form room inner start i)
  unfolding constant
  good_const start i = by_bool (sees (Sign (codes "[")) i)
      (λ h. rw h (by_bool (start && is_built form) (λ b. rw b (good_scope i h)) (λ b. rw b (good_declared i))))
      (λ h. rw h (good_declared i))

  good_variable : (i : Input) → Good (suc room) i (variable form room inner i)
  unfolding variable
  good_variable i = good_then (good_name (λ _. true) i) (λ x a. good_then (good_expect (Sign (codes "=")) a) (λ _ b. good_then (good_whole form room inner g b) (λ v c. good_then (good_expect (Sign (codes ";")) c) (λ _ d. fine here))))

  good_ended : (x : Stmt) (i : Input) → Good (suc room) i (ended x i)
  good_ended x i = good_then (good_expect (Sign (codes ";")) i) (λ _ j. fine here)

  good_returned : (i : Input) → Good (suc room) i (returned form room inner i)
  unfolding returned
  good_returned i = by_bool (sees (Sign (codes ";")) i) (λ h. rw h (pass (one_behind i) (fine here))) (λ h. rw h (good_then (good_step i) (λ x a. good_ended (s.Return (Some x)) a)))

  good_conditional : (looped : Bool) (i : Input) → Good room i (conditional form room inner looped i)
  unfolding conditional
  good_conditional looped i = good_then (good_enter room i) (λ _ a. good_then (good_condition a) (λ x b. good_then (good_held looped b) (λ ys c. by_seen (Word (codes "else")) c
      (λ h q e. rw (h, q) (weaker {n = suc (room - 1)} (omega arith) (raise {j = advance c} (Token.Reserved (codes "else")) refl e (good_then (g.otherwise looped (advance c)) (λ zs d. fine here)))))
      (λ h q. rw (h, q) (fine here)))))

  good_looping : (i : Input) → Good room i (looping form room inner i)
  unfolding looping
  good_looping i = good_then (good_enter room i) (λ _ a. good_then (good_condition a) (λ x b. good_then (good_held true b) (λ ys c. fine here)))

  good_each : (i : Input) → Good room i (each form room inner i)
  unfolding each
  good_each i = good_then (good_enter room i) (λ _ a. good_then (good_expect (Sign (codes "(")) a) (λ _ b. good_then (good_expect (Word (codes "const")) b) (λ _ c. good_then (good_name (λ _. true) c) (λ x d. good_then (good_expect (Given (codes "of")) d) (λ _ f.
      good_then (good_nested form room inner g f) (λ v k. good_then (good_expect (Sign (codes ")")) k) (λ _ l. good_then (good_held true l) (λ ys m. fine here))))))))

  good_deleted : (i : Input) → Good (suc room) i (deleted form room inner i)
  unfolding deleted
  good_deleted i = good_then (good_postfix form room inner g i) (λ x a. by_bool (is_member_kind x.kind) (λ h. rw h (good_ended (s.Delete x.tree) a)) (λ h. rw h wrong))

  good_done : (i : Input) → Good (suc room) i (done form room inner i)
  unfolding done
  good_done i = good_then (good_step i) (λ x a. good_ended (s.Do x) a)

  -- ---- any statement, and blocks

  word_at : (looped start : Bool) (a : Characters) (ts : List Token) (m : ℕ) → Good (suc room) (at (Token.Reserved a ∷ ts) m) (word_statement form room inner looped start a (at (Token.Reserved a ∷ ts) m))
  word_at looped start a ts m =
      by_bool (same a (codes "const")) (λ h. rw h (skip {j = at ts m} (Token.Reserved a) refl (good_const start (at ts m)))) (λ h1.
      by_bool (same a (codes "let")) (λ h. rw (h1, h) (skip {j = at ts m} (Token.Reserved a) refl (good_variable (at ts m)))) (λ h2.
      by_bool (same a (codes "return")) (λ h. rw (h1, h2, h) (skip {j = at ts m} (Token.Reserved a) refl (good_returned (at ts m)))) (λ h3.
      by_bool (same a (codes "if")) (λ h. rw (h1, h2, h3, h) (raise_word (codes "if") a ts m h refl (good_conditional looped (at ts m)))) (λ h4.
      by_bool (same a (codes "while")) (λ h. rw (h1, h2, h3, h4, h) (raise_word (codes "while") a ts m h refl (good_looping (at ts m)))) (λ h5.
      by_bool (same a (codes "for")) (λ h. rw (h1, h2, h3, h4, h5, h) (raise_word (codes "for") a ts m h refl (good_each (at ts m)))) (λ h6.
      by_bool (same a (codes "break") && looped) (λ h. rw (h1, h2, h3, h4, h5, h6, h) (skip {j = at ts m} (Token.Reserved a) refl (good_ended s.Break (at ts m)))) (λ h7.
      by_bool (same a (codes "continue") && looped) (λ h. rw (h1, h2, h3, h4, h5, h6, h7, h) (skip {j = at ts m} (Token.Reserved a) refl (good_ended s.Continue (at ts m)))) (λ h8.
      by_bool (same a (codes "delete")) (λ h. rw (h1, h2, h3, h4, h5, h6, h7, h8, h) (skip {j = at ts m} (Token.Reserved a) refl (good_deleted (at ts m)))) (λ h9.
      rw (h1, h2, h3, h4, h5, h6, h7, h8, h9) (good_done (at (Token.Reserved a ∷ ts) m)))))))))))

  statement_at : (looped start : Bool) (ts : List Token) (m : ℕ) → Good (suc room) (at ts m) (statement form room inner looped start (at ts m))
  unfolding statement
  statement_at looped start (Token.Reserved a ∷ ts) m = word_at looped start a ts m
  statement_at looped start (Token.Punct a ∷ ts) m = by_bool (same a (codes "{"))
      (λ h. rw h (raise_sign (codes "{") a ts m h refl (good_then (g.braced looped (at ts m)) (λ xs j. fine here))))
      (λ h. rw h (good_done (at (Token.Punct a ∷ ts) m)))
  statement_at looped start [] m = good_done (at [] m)
  statement_at looped start (t ∷ ts) m = good_done (at (t ∷ ts) m)

  good_statements_from : (k : ℕ) (looped start : Bool) (so_far : List Stmt) (i : Input) → Good (suc room) i (statements_from form room inner looped start k so_far i)
  unfolding statements_from
  good_statements_from zero looped start so_far i = wrong
  good_statements_from (suc k) looped start so_far i = by_bool (sees (Sign (codes "}")) i) (λ h. rw h (fine here))
      (λ h. rw h (good_then (statement_at looped start i.tokens i.arrows) (λ x j. good_statements_from k looped false (so_far ++ x ∷ []) j)))

  good_block : (looped : Bool) (i : Input) → Good (suc room) i (block form room inner looped i)
  unfolding block
  good_block looped i = good_then (good_statements_from (length i.tokens) looped true [] i) (λ xs j. good_then (good_expect (Sign (codes "}")) j) (λ _ k. fine here))

  good_single_by : (looped b : Bool) (i : Input) → Good (suc room) i (single_by form room inner looped b i)
  good_single_by looped true i = wrong
  good_single_by looped false i = good_then (statement_at looped false i.tokens i.arrows) (λ x j. fine here)

  good_single : (looped : Bool) (i : Input) → Good (suc room) i (single form room inner looped i)
  unfolding single
  good_single looped i = good_single_by looped (first_is (Word (codes "const")) i.tokens || first_is (Word (codes "let")) i.tokens) i

  good_otherwise : (looped : Bool) (i : Input) → Good room i (group form room inner (Otherwise looped) i)
  unfolding group
  good_otherwise looped i = good_then (good_enter room i) (λ _ a. good_held looped a)

  good_value : (which : Inner) (i : Input) → Good (suc room) i (level form room inner which i)
  good_value Whole i = good_whole form room inner g i
  good_value Tight i = good_unary form room inner g i
  good_value Tagged i = good_then (good_tagged i) (λ x j. fine here)
  good_value Untagged i = good_then (good_untagged i) (λ x j. fine here)

  braced_good : (looped : Bool) (i : Input) → Good (suc room) i (group form room inner (Braced looped) i)
  unfolding group
  braced_good looped i = good_block looped i

  alone_good : (looped : Bool) (i : Input) → Good (suc room) i (group form room inner (Single looped) i)
  unfolding group
  alone_good looped i = good_single looped i

-- ---- however deep it nests

nothing_deeper : {A : Type 0} (i : Input) → Good {A = A} 0 i (too_deep i)
nothing_deeper i = deep (record { front = []; behind = i.tokens; spells = refl; place = omega arith; raised = omega arith })

nothing_good : (form : Form) → IsGood 0 (nesting form 0)
unfolding nesting
nothing_good form = record {
  value = λ which i. nothing_deeper i;
  body = λ i. nothing_deeper i;
  braced = λ looped i. nothing_deeper i;
  alone = λ looped i. nothing_deeper i;
  otherwise = λ looped i. weaker (omega arith) (nothing_deeper i);
}

one_more_good : (form : Form) (room : ℕ) → IsGood room (nesting form room) → IsGood (suc room) (nesting form (suc room))
unfolding nesting
one_more_good form room h = record {
  value = λ which i. good_value form room (nesting form room) h which i;
  body = λ i. good_body form room (nesting form room) h i;
  braced = λ looped i. braced_good form room (nesting form room) h looped i;
  alone = λ looped i. alone_good form room (nesting form room) h looped i;
  otherwise = λ looped i. weaker (omega arith) (good_otherwise form room (nesting form room) h looped i);
}

nesting_good : (form : Form) (room : ℕ) → IsGood room (nesting form room)
nesting_good form zero = nothing_good form
nesting_good form (suc room) = one_more_good form room (nesting_good form room)

-- ---- the module

text_at : (room : ℕ) (ts : List Token) (m : ℕ) → Good (suc room) (at ts m) ((peek >>= text_by) (at ts m))
text_at room [] m = wrong
text_at room (Token.Text quote pieces ∷ ts) m = skip {j = at ts m} (Token.Text quote pieces) refl (fine here)
text_at room (t ∷ ts) m = wrong

good_import : (room : ℕ) (i : Input) → Good (suc room) i (import_line room i)
unfolding import_line
good_import room i = good_then (good_expect (Word (codes "import")) i) (λ _ a. expect_raises _ (Sign (codes "{")) a refl (λ b. good_then (good_enter room b) (λ _ c. good_then (good_names c) (λ xs d. good_then (good_expect (Sign (codes "}")) d) (λ _ f.
    good_then (good_expect (Given (codes "from")) f) (λ _ k. weaker (omega arith) (good_then (text_at room k.tokens k.arrows) (λ x l. good_then (good_expect (Sign (codes ";")) l) (λ _ n. fine here)))))))))

good_next_import : (room : ℕ) (i : Input) → Good (suc room) i (next_import room i)
unfolding next_import
good_next_import room i = by_bool (sees (Word (codes "import")) i) (λ h. rw h (good_then (good_import room i) (λ x j. fine here))) (λ h. rw h (fine here))

good_item : (form : Form) (room : ℕ) (i : Input) → Good (suc room) i (item form room i)
unfolding item
good_item form room i = by_seen (Word (codes "export")) i
    (λ h q e. rw (h, q) (skip {j = advance i} (Token.Reserved (codes "export")) e (good_then (good_expect (Word (codes "const")) (advance i)) (λ _ b. good_then (good_name (λ _. true) b) (λ y c. good_then (good_expect (Sign (codes "=")) c) (λ _ d.
    good_then (good_whole form room (nesting form room) (nesting_good form room) d) (λ v f. good_then (good_expect (Sign (codes ";")) f) (λ _ k. fine here))))))))
    (λ h q. rw (h, q) (good_then (good_expect (Word (codes "const")) i) (λ _ b. good_then (good_name (λ _. true) b) (λ y c. good_then (good_expect (Sign (codes "=")) c) (λ _ d.
    good_then (good_whole form room (nesting form room) (nesting_good form room) d) (λ v f. good_then (good_expect (Sign (codes ";")) f) (λ _ k. fine here)))))))

good_next_item : (form : Form) (room : ℕ) (i : Input) → Good (suc room) i (next_item form room i)
unfolding next_item
good_next_item form room i = by_bool (is_end i.tokens) (λ h. rw h (fine here)) (λ h. rw h (good_then (good_item form room i) (λ x j. fine here)))

good_module : (form : Form) (room : ℕ) (i : Input) → Good (suc room) i (module_of form room i)
unfolding module_of
good_module form room i = good_then (good_many (next_import room) (good_next_import room) i) (λ xs a. good_then (good_many (next_item form room) (good_next_item form room) a) (λ ys b. fine here))

-- a front that is not empty ends with a place
split_last : (t : Token) (ts : List Token) → (front : List Token) × (place : Token) × (front ++ place ∷ [] ≡ t ∷ ts)
split_last t [] = ([], t, refl)
split_last t (u ∷ us) = let r = split_last u us in (t ∷ r.0, r.1, ap (λ ts. t ∷ ts) r.2)

raised_past : (deepest left : ℕ) (ts : List Token) → Deep (suc deepest) ts left → RaisedPast deepest left ts
raised_past deepest left ts d = go d.front d.spells d.raised
  where
    go : (front : List Token) → front ++ d.behind ≡ ts → suc deepest ≤ raisers front → RaisedPast deepest left ts
    go [] e r = absurd (omega (arith, r))
    go (t ∷ us) e r =
        let q = split_last t us in
        record {
          front = q.0;
          place = q.1;
          behind = d.behind;
          spells = sym (append_assoc q.0 (q.1 ∷ []) d.behind) ∙ ap (λ vs. vs ++ d.behind) q.2 ∙ e;
          number = d.place;
          raised = subst (λ vs. deepest < raisers vs) (sym q.2) r;
        }

-- a token is out of place among the tokens, or behind them
pub out_of_place_inside : (form : Form) (deepest left : ℕ) (ts : List Token) → read_module form deepest ts ≡ Err (Syntax left) → left ≤ length ts
out_of_place_inside form deepest left ts e = go (module_of form deepest (at ts 0)) (good_module form deepest (at ts 0)) e
  where
    go : (o : Outcome Module) → Good (suc deepest) (at ts 0) o → outcome o ≡ Err (Syntax left) → left ≤ length ts
    go (Ok p) g e = absurd (true≢false (ap is_ok e))
    go (Err (TooDeep k)) g e = absurd (true≢false (sym (ap is_syntax e)))
    go (Err (Syntax k)) (out_of_place h) e = subst (λ k. k ≤ length ts) (ap (λ r. place_of r) e) h

-- a fault of nesting comes only where more tokens than the nesting can raise it
pub too_deep_raised : (form : Form) (deepest left : ℕ) (ts : List Token) → read_module form deepest ts ≡ Err (TooDeep left) → RaisedPast deepest left ts
too_deep_raised form deepest left ts e = go (module_of form deepest (at ts 0)) (good_module form deepest (at ts 0)) e
  where
    go : (o : Outcome Module) → Good (suc deepest) (at ts 0) o → outcome o ≡ Err (TooDeep left) → RaisedPast deepest left ts
    go (Ok p) g e = absurd (true≢false (ap is_ok e))
    go (Err (Syntax k)) g e = absurd (true≢false (ap is_syntax e))
    go (Err (TooDeep k)) (deep d) e = raised_past deepest left ts (subst (λ k. Deep (suc deepest) ts k) (ap (λ r. place_of r) e) d)

pub too_deep_inside : (deepest left : ℕ) (ts : List Token) → RaisedPast deepest left ts → (1 ≤ left) × (left ≤ length ts)
too_deep_inside deepest left ts r =
    let a = r.number in
    let b = ap (λ us. length us) r.spells in
    let c = length-append r.front (r.place ∷ r.behind) in
    (omega (arith, a), omega (arith, a, b, c))
