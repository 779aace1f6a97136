-- What is read is written by the rules: statements that hold no other.
use Rattle.std.proofs.Common.{◌≡◌, refl, sym, ◌∙◌, ap, ap₂, subst, arith}
use Rattle.std.specs.Prelude.{ℕ, suc, ◌≤◌, Bool, true, false, ◌||◌, List, [], ◌∷◌, map, Some, codes}
use Rattle.qk_ast.specs.declared.Form.{Form}
use Rattle.qk_ast.specs.declared.Pattern.{Pattern}
use Rattle.qk_ast.specs.declared.Pattern.TheVariants as p
use Rattle.qk_ast.specs.declared.Stmt.{Stmt}
use Rattle.qk_ast.specs.declared.Stmt.TheVariants as s
use Rattle.qk_ast.specs.Characters.{Characters}
use Rattle.qk_ast.specs.Tokens.{Token}
use Rattle.qk_ast.specs.Grammar.{Statement, Const, Scope, Let, Return, Return_step, Break, Continue, Delete, Do}
use Rattle.qk_ast.specs.Spelling.{◌⨾◌, name as name_of, word, sign, comma, scope_tokens, step_tokens, statement_tokens}
use Rattle.qk_ast.specs.Depth.{statement_depth}
use Rattle.qk_ast.specs.Tree.{bytes, statement_tree}
use Rattle.qk_ast.specs.Rules.{statement_keeps, is_built, ends_with_if, may_be_part}
use Rattle.qk_reading.specs.Input.{Input, Nested, Read, Sign, Word, Given, first_is, advance, sees, many}
use Rattle.qk_reading.specs.Ahead.{is_member_kind}
use Rattle.qk_reading.specs.Parts.{comma_name, scope, scope_call, ended}
use Rattle.qk_reading.specs.Forms.{whole, postfix}
use Rattle.qk_reading.specs.Statements.{declared, variable, returned, deleted, done, step}
use Rattle.qk_reading.proofs.Framed.{framed, name_framed, reserved_framed, sign_framed, comma_framed, binding_framed, scope_framed, step_framed, ◌▹◌}
use Rattle.qk_reading.proofs.Follow.{by_bool, clash}
use Rattle.qk_reading.proofs.Counted.{member_kind}
use Rattle.qk_reading.proofs.Patterns.{binding_uncounted}
use Rattle.qk_reading.proofs.Sound.{Sound, read, refused, sound_then, implied, Spans, spans_then, by_sees, expect_sound, name_sound, enter_sound, Maybe_read, Many, no_more, one_more, many_sound, Reading}
use Rattle.qk_reading.proofs.SoundLists.{Binding_read, pattern_sound}
use Rattle.qk_reading.proofs.SoundSteps.{Step_read, no_brace}

-- no `else` comes next
abbrev pub NoElse : Input → Type 0
NoElse i = sees (Word (codes "else")) i ≡ false

-- a block or a declaration begins there
abbrev pub declares : List Token → Bool
declares ts = first_is (Sign (codes "{")) ts || (first_is (Word (codes "const")) ts || first_is (Word (codes "let")) ts)

pub record Statement_read (form : Form) (room : ℕ) (looped start : Bool) (i : Input) (x : Stmt) (j : Input) : Type 0 where
  pub text : Statement
  pub keeping : statement_keeps form looped start text
  pub flat : statement_depth text ≤ room
  pub means : (n : ℕ) → n ≡ i.arrows → statement_tree n text ≡ x
  pub spans : Spans (statement_tokens text) i j
  pub ends : ends_with_if text ≡ true → NoElse j
  pub alone : declares i.tokens ≡ false → may_be_part text ≡ true

-- the names of a lexical scope after the first
pub record Scope_read (i : Input) (xs : List (List ℕ)) (j : Input) : Type 0 where
  pub text : List Characters
  pub means : map bytes text ≡ xs
  pub spans : Spans (scope_tokens text) i j

abbrev Comma_name_read : Input → List ℕ → Input → Type 0
Comma_name_read i x j = (a : Characters) × Spans (comma ⨾ name_of a) i j × (bytes a ≡ x)

comma_name_sound : (i : Input) → Sound (Maybe_read Comma_name_read i) (comma_name i)
unfolding comma_name
comma_name_sound i = by_sees (Sign (codes ",")) i refl
    (λ s q p. rw (s, q) (sound_then (name_sound (λ _. true) (advance i)) (λ a j t. read (a, spans_then comma_framed p t.0, refl))))
    (λ s q. rw (s, q) (read refl))

scope_of : {i j : Input} {xs : List (List ℕ)} → Many Comma_name_read i xs j → Scope_read i xs j
scope_of no_more = record { text = []; means = refl; spans = record { spelt = refl; count = omega arith } }
scope_of (one_more v r) = let t = scope_of r in record {
  text = v.0 ∷ t.text;
  means = ap₂ (λ x xs. x ∷ xs) v.2 t.means;
  spans = spans_then (comma_framed ▹ name_framed (v.0)) v.1 t.spans;
}

scope_names_sound : (i : Input) → Sound (Scope_read i) (many comma_name i)
scope_names_sound i = implied (many_sound Comma_name_read comma_name comma_name_sound i) (λ xs j t. subst (λ xs. Scope_read i xs j) t.parts (scope_of t.run))

module _ (form : Form) (room : ℕ) (inner : Nested) (whole_sound : (i : Input) → Sound (Reading form (suc room) 0 i) (whole form room inner i)) where
  -- ---- declarations, each behind its word

  const_read : (looped start : Bool) (i a b c d f : Input) (x : Pattern) (v : Read) → declares i.tokens ≡ true → Spans (word (codes "const")) i a → Binding_read room a x b → Spans (sign (codes "=")) b c → Reading form (suc room) 0 c v d
      → Spans (sign (codes ";")) d f → Statement_read form room looped start i (s.Const x v.tree) f
  const_read looped start i a b c d f x v al w bi q r e =
      let c1 = w.count in
      let c2 = bi.spans.count in
      let c3 = q.count in
      let c4 = binding_uncounted bi.text [] in
      let f1 = bi.flat in
      let f2 = r.flat in
      record {
        text = Const bi.text r.text;
        keeping = r.keeping;
        flat = omega (arith, f1, f2);
        means = λ n t. ap₂ (λ b v. s.Const b v) bi.means (r.means n (omega (arith, t, c1, c2, c3, c4)));
        spans = spans_then (reserved_framed (codes "const")) w (spans_then (binding_framed bi.text) bi.spans (spans_then (sign_framed (codes "=")) q (spans_then (framed r.text) r.spans e)));
        ends = λ h. clash {b = false} h refl;
        alone = λ h. clash al h;
      }

  pub declared_sound : (looped start : Bool) (i a : Input) → declares i.tokens ≡ true → Spans (word (codes "const")) i a → Sound (Statement_read form room looped start i) (declared form room inner a)
  unfolding declared
  declared_sound looped start i a al w = sound_then (pattern_sound room a) (λ x b bi. sound_then (expect_sound (Sign (codes "=")) b refl) (λ _ c q. sound_then (whole_sound c) (λ v d r. sound_then (expect_sound (Sign (codes ";")) d refl) (λ _ f e.
      read (const_read looped start i a b c d f x v al w bi q r e)))))

  pub variable_sound : (looped start : Bool) (i a : Input) → declares i.tokens ≡ true → Spans (word (codes "let")) i a → Sound (Statement_read form room looped start i) (variable form room inner a)
  unfolding variable
  variable_sound looped start i a al w = sound_then (name_sound (λ _. true) a) (λ x b na. sound_then (expect_sound (Sign (codes "=")) b refl) (λ _ c q. sound_then (whole_sound c) (λ v d r. sound_then (expect_sound (Sign (codes ";")) d refl) (λ _ f e.
      let c1 = w.count in
      let c2 = na.0.count in
      let c3 = q.count in
      let f2 = r.flat in
      read (record {
        text = Let x r.text;
        keeping = r.keeping;
        flat = omega (arith, f2);
        means = λ n t. ap (λ v. s.Let (bytes x) v) (r.means n (omega (arith, t, c1, c2, c3)));
        spans = spans_then (reserved_framed (codes "let")) w (spans_then (name_framed x) na.0 (spans_then (sign_framed (codes "=")) q (spans_then (framed r.text) r.spans e)));
        ends = λ h. clash {b = false} h refl;
        alone = λ h. clash al h;
      })))))

  scope_read : (looped : Bool) (i a b c d f g k l m o : Input) (x : Characters) (xs : List (List ℕ)) → is_built form ≡ true → 1 ≤ room → declares i.tokens ≡ true → Spans (word (codes "const")) i a → Spans (sign (codes "[")) a b → Spans (name_of x) b c
      → Scope_read c xs d → Spans (sign (codes "]")) d f → Spans (sign (codes "=")) f g → Spans (name_of (codes "useLexicalScope")) g k → Spans (sign (codes "(")) k l → Spans (sign (codes ")")) l m → Spans (sign (codes ";")) m o
      → Statement_read form room looped true i (s.Const (p.Scope (bytes x ∷ xs)) scope_call) o
  scope_read looped i a b c d f g k l m o x xs built r al w br na sc cl q us op ed e = record {
    text = Scope x sc.text;
    keeping = (refl, built);
    flat = r;
    means = λ n t. ap (λ xs. s.Const (p.Scope (bytes x ∷ xs)) scope_call) sc.means;
    spans = spans_then (reserved_framed (codes "const")) w (spans_then (sign_framed (codes "[") ▹ (name_framed x ▹ (scope_framed sc.text ▹ sign_framed (codes "]"))))
        (spans_then (sign_framed (codes "[")) br (spans_then (name_framed x) na (spans_then (scope_framed sc.text) sc.spans cl)))
        (spans_then (sign_framed (codes "=")) q (spans_then (name_framed (codes "useLexicalScope")) us (spans_then (sign_framed (codes "(")) op (spans_then (sign_framed (codes ")")) ed e)))));
    ends = λ h. clash {b = false} h refl;
    alone = λ h. clash al h;
  }

  pub scope_sound : (looped : Bool) (i a : Input) → is_built form ≡ true → declares i.tokens ≡ true → Spans (word (codes "const")) i a → sees (Sign (codes "[")) a ≡ true → Sound (Statement_read form room looped true i) (scope room a)
  unfolding scope
  scope_sound looped i a built al w h = by_sees (Sign (codes "[")) a refl
      (λ _ _ br. sound_then (enter_sound room (advance a)) (λ _ b g. sound_then (name_sound (λ _. true) b) (λ x c na. sound_then (scope_names_sound c) (λ xs d sc. sound_then (expect_sound (Sign (codes "]")) d refl) (λ _ f cl.
      sound_then (expect_sound (Sign (codes "=")) f refl) (λ _ g' q. sound_then (expect_sound (Given (codes "useLexicalScope")) g' refl) (λ _ k us. sound_then (expect_sound (Sign (codes "(")) k refl) (λ _ l op.
      sound_then (expect_sound (Sign (codes ")")) l refl) (λ _ m ed. sound_then (expect_sound (Sign (codes ";")) m refl) (λ _ o e.
      read (scope_read looped i a b c d f g' k l m o x xs built g.1 al w (subst (λ b. Spans (sign (codes "[")) a b) g.0 br) na.0 sc cl q us op ed e)))))))))))
      (λ s _. clash h s)

  -- ---- words and a semicolon, each behind its word

  pub break_sound : (looped start : Bool) (i a : Input) → looped ≡ true → Spans (word (codes "break")) i a → Sound (Statement_read form room looped start i) (ended s.Break a)
  break_sound looped start i a h w = sound_then (expect_sound (Sign (codes ";")) a refl) (λ _ j e. read (record {
    text = Break;
    keeping = h;
    flat = omega arith;
    means = λ n t. refl;
    spans = spans_then (reserved_framed (codes "break")) w e;
    ends = λ h. clash {b = false} h refl;
    alone = λ h. refl;
  }))

  pub continue_sound : (looped start : Bool) (i a : Input) → looped ≡ true → Spans (word (codes "continue")) i a → Sound (Statement_read form room looped start i) (ended s.Continue a)
  continue_sound looped start i a h w = sound_then (expect_sound (Sign (codes ";")) a refl) (λ _ j e. read (record {
    text = Continue;
    keeping = h;
    flat = omega arith;
    means = λ n t. refl;
    spans = spans_then (reserved_framed (codes "continue")) w e;
    ends = λ h. clash {b = false} h refl;
    alone = λ h. refl;
  }))

  -- ---- steps

  module _ (step_sound : (i : Input) → Sound (Step_read form room i) (step form room inner i)) where
    pub returned_sound : (looped start : Bool) (i a : Input) → Spans (word (codes "return")) i a → Sound (Statement_read form room looped start i) (returned form room inner a)
    unfolding returned
    returned_sound looped start i a w = by_sees (Sign (codes ";")) a refl
        (λ h _ p. rw h (read (record {
          text = Return;
          keeping = tt;
          flat = omega arith;
          means = λ n t. refl;
          spans = spans_then (reserved_framed (codes "return")) w p;
          ends = λ h. clash {b = false} h refl;
          alone = λ h. refl;
        })))
        (λ h _. rw h (sound_then (step_sound a) (λ x b v. sound_then (expect_sound (Sign (codes ";")) b refl) (λ _ j e.
        let c = w.count in
        read (record {
          text = Return_step v.text;
          keeping = v.keeping;
          flat = v.flat;
          means = λ n t. ap (λ x. s.Return (Some x)) (v.means n (omega (arith, t, c)));
          spans = spans_then (reserved_framed (codes "return")) w (spans_then (step_framed v.text) v.spans e);
          ends = λ h. clash {b = false} h refl;
          alone = λ h. refl;
        })))))

    pub done_sound : (looped start : Bool) (i : Input) → sees (Sign (codes "{")) i ≡ false → Sound (Statement_read form room looped start i) (done form room inner i)
    unfolding done
    done_sound looped start i h = sound_then (step_sound i) (λ x b v. sound_then (expect_sound (Sign (codes ";")) b refl) (λ _ j e.
        read (record {
          text = Do v.text;
          keeping = (no_brace (step_tokens v.text) i b (step_framed v.text) v.spans h, v.keeping);
          flat = v.flat;
          means = λ n t. ap s.Do (v.means n t);
          spans = spans_then (step_framed v.text) v.spans e;
          ends = λ h. clash {b = false} h refl;
          alone = λ h. refl;
        })))

  module _ (postfix_sound : (i : Input) → Sound (Reading form (suc room) 8 i) (postfix form room inner i)) where
    deleted_read : (looped start : Bool) (i a b j : Input) (x : Read) → is_member_kind x.kind ≡ true → Spans (word (codes "delete")) i a → Reading form (suc room) 8 a x b → Spans (sign (codes ";")) b j
        → Statement_read form room looped start i (s.Delete x.tree) j
    deleted_read looped start i a b j x h w v e =
        let c = w.count in
        let f = v.flat in
        record {
          text = Delete v.text;
          keeping = (sym (member_kind v.text) ∙ ap is_member_kind v.kinds ∙ h, v.keeping);
          flat = omega (arith, f);
          means = λ n t. ap s.Delete (v.means n (omega (arith, t, c)));
          spans = spans_then (reserved_framed (codes "delete")) w (spans_then (framed v.text) v.spans e);
          ends = λ h. clash {b = false} h refl;
          alone = λ h. refl;
        }

    pub deleted_sound : (looped start : Bool) (i a : Input) → Spans (word (codes "delete")) i a → Sound (Statement_read form room looped start i) (deleted form room inner a)
    unfolding deleted
    deleted_sound looped start i a w = sound_then (postfix_sound a) (λ x b v. by_bool (is_member_kind x.kind)
        (λ h. rw h (sound_then (expect_sound (Sign (codes ";")) b refl) (λ _ j e. read (deleted_read looped start i a b j x h w v e))))
        (λ h. rw h refused))
