-- What is read is written by the rules: the levels of binary operators, choices, arrows and steps, above postfix forms.
use Rattle.std.proofs.Common.{true≢false, ◌≡◌, refl, sym, ◌∙◌, ap, ap₂, subst, arith}
use Rattle.std.specs.Prelude.{ℕ, suc, ◌+◌, ◌≤◌, Bool, true, false, ◌&&◌, if◌then◌else◌, nat_le, List, [], ◌∷◌, Option, Some, None, Ok, Err, codes}
use Rattle.qk_ast.specs.declared.Form.{Form}
use Rattle.qk_ast.specs.declared.Expr.{Expr}
use Rattle.qk_ast.specs.declared.Expr.TheVariants as e
use Rattle.qk_ast.specs.declared.Body.{Body as Tree_body}
use Rattle.qk_ast.specs.declared.Pattern.{Pattern}
use Rattle.qk_ast.specs.declared.Un.{Un}
use Rattle.qk_ast.specs.declared.Un.TheVariants as un
use Rattle.qk_ast.specs.declared.Bin.{Bin}
use Rattle.qk_ast.specs.declared.Bin.TheVariants as bin
use Rattle.qk_ast.specs.declared.Operand.{Operand as Tree_operand}
use Rattle.qk_ast.specs.Characters.{Characters, same}
use Rattle.qk_ast.specs.Tokens.{Token}
use Rattle.qk_ast.specs.Grammar.{Level, Or_level, Coalesce_level, And_level, Same_level, Order_level, Sum_level, Product_level, Expression, Prefix, Chain, Choice, Function, Body, Operands, No_operand, Operand}
use lib.Dec.{leb→le, T}
use Rattle.qk_ast.specs.Spelling.{un_sign, body_tokens, Writing, ◌⨾◌, sign, tokens, bin_sign, operands_tokens}
use Rattle.qk_ast.specs.Depth.{inside, depth, operands_depth, body_depth}
use Rattle.qk_ast.specs.Tree.{arrows, tree, operands_tree, body_tree}
use Rattle.qk_ast.specs.Rules.{level_of, tightness_of, operand_tightness, binds, is_of_level, keeps, operands_keep, body_keeps}
use Rattle.qk_reading.specs.Input.{maybe, Input, Outcome, Reader, Nested, Read, reading, Chained, Prefixed, Loose, Sign, first_is, rest, advance, sees, number, Syntax, TooDeep, many, Tight}
use Rattle.qk_reading.specs.Ahead.{bin_of, of_level, operator_at, operator, arrow_ahead, kind_tightness}
use Rattle.qk_reading.specs.Parts.{operand, chain, chained, arrow_head, later}
use Rattle.qk_reading.specs.Forms.{product, sum, order, equality, conjunction, logic, logic_by, choice, arrow, whole, unary, postfix, nested}
use Rattle.qk_ast.proofs.FrontToken.{same_is}
use Rattle.qk_reading.proofs.Framed.{Framed, framed, bin_framed, un_framed, parameters_framed, sign_framed, ◌▹◌}
use Rattle.qk_reading.proofs.Follow.{by_bool, both, operand_above}
use Rattle.qk_reading.proofs.Counted.{counted, sign_uncounted, tight_kind}
use Rattle.qk_reading.proofs.Atoms.{binds_le, le_binds}
use Rattle.qk_reading.proofs.Sound.{Maybe_read, Many, no_more, one_more, many_sound, Sound, read, refused, sound_then, implied, Spans, spans_then, by_sees, expect_sound, Reading, Valued, max_le, mark_seen}
use Rattle.qk_reading.proofs.SoundLists.{Parameters_read, params_sound}
use Rattle.qk_reading.proofs.Patterns.{parameters_uncounted}

-- ---- operators

some_is : {A : Type 0} {a b : A} → Some a ≡ Some b → a ≡ b
some_is {a = a} e = ap (λ o. maybe o a (λ x. x)) e

none_some : {A : Type 0} {P : Type 0} {a : A} → None ≡ Some a → P
none_some e = absurd (true≢false (sym (ap (λ o. maybe o false (λ _. true)) e)))

-- the operator that a sign is
abbrev Spelt : Characters → List Token → Option Bin → Type 0
Spelt a ts None = Unit {0}
Spelt a ts (Some op) = bin_sign op ts ≡ Token.Punct a ∷ ts

same_sign : (s a : Characters) (ts : List Token) → same a s ≡ true → Token.Punct s ∷ ts ≡ Token.Punct a ∷ ts
same_sign s a ts h = ap (λ c. Token.Punct c ∷ ts) (sym (same_is a s h))

bin_spelt : (a : Characters) (ts : List Token) → Spelt a ts (bin_of a)
bin_spelt a ts =
    by_bool (same a (codes "||")) (λ h. rw h (same_sign (codes "||") a ts h)) (λ h1.
    by_bool (same a (codes "&&")) (λ h. rw (h1, h) (same_sign (codes "&&") a ts h)) (λ h2.
    by_bool (same a (codes "??")) (λ h. rw (h1, h2, h) (same_sign (codes "??") a ts h)) (λ h3.
    by_bool (same a (codes "===")) (λ h. rw (h1, h2, h3, h) (same_sign (codes "===") a ts h)) (λ h4.
    by_bool (same a (codes "!==")) (λ h. rw (h1, h2, h3, h4, h) (same_sign (codes "!==") a ts h)) (λ h5.
    by_bool (same a (codes "<")) (λ h. rw (h1, h2, h3, h4, h5, h) (same_sign (codes "<") a ts h)) (λ h6.
    by_bool (same a (codes "<=")) (λ h. rw (h1, h2, h3, h4, h5, h6, h) (same_sign (codes "<=") a ts h)) (λ h7.
    by_bool (same a (codes ">")) (λ h. rw (h1, h2, h3, h4, h5, h6, h7, h) (same_sign (codes ">") a ts h)) (λ h8.
    by_bool (same a (codes ">=")) (λ h. rw (h1, h2, h3, h4, h5, h6, h7, h8, h) (same_sign (codes ">=") a ts h)) (λ h9.
    by_bool (same a (codes "+")) (λ h. rw (h1, h2, h3, h4, h5, h6, h7, h8, h9, h) (same_sign (codes "+") a ts h)) (λ h10.
    by_bool (same a (codes "-")) (λ h. rw (h1, h2, h3, h4, h5, h6, h7, h8, h9, h10, h) (same_sign (codes "-") a ts h)) (λ h11.
    by_bool (same a (codes "*")) (λ h. rw (h1, h2, h3, h4, h5, h6, h7, h8, h9, h10, h11, h) (same_sign (codes "*") a ts h)) (λ h12.
    by_bool (same a (codes "%")) (λ h. rw (h1, h2, h3, h4, h5, h6, h7, h8, h9, h10, h11, h12, h) (same_sign (codes "%") a ts h)) (λ h13.
    rw (h1, h2, h3, h4, h5, h6, h7, h8, h9, h10, h11, h12, h13) tt)))))))))))))

level_is : (level : Level) (op : Bin) → is_of_level level op ≡ true → level ≡ level_of op
level_is Or_level bin.Or h = refl
level_is And_level bin.And h = refl
level_is Coalesce_level bin.Coalesce h = refl
level_is Same_level bin.Same h = refl
level_is Same_level bin.NotSame h = refl
level_is Order_level bin.Less h = refl
level_is Order_level bin.LessEq h = refl
level_is Order_level bin.More h = refl
level_is Order_level bin.MoreEq h = refl
level_is Sum_level bin.Add h = refl
level_is Sum_level bin.Sub h = refl
level_is Product_level bin.Mul h = refl
level_is Product_level bin.Rem h = refl
level_is level op h = absurd (true≢false (sym h))

-- the operator of the level, and its sign
operator_seen : (level : Level) (ts : List Token) (op : Bin) → operator_at level ts ≡ Some op → (is_of_level level op ≡ true) × (bin_sign op (rest ts) ≡ ts)
unfolding operator_at
operator_seen level [] op h = none_some h
operator_seen level (Token.Punct a ∷ ts) op h = go (bin_of a) refl h
  where
    go : (o : Option Bin) → bin_of a ≡ o → of_level level o ≡ Some op → (is_of_level level op ≡ true) × (bin_sign op ts ≡ Token.Punct a ∷ ts)
    go None e h = none_some h
    go (Some p) e h = by_bool (is_of_level level p)
        (λ s. let q : p ≡ op = some_is (sym (ap (λ b. if b then Some p else None) s) ∙ h) in
        (subst (λ op. is_of_level level op ≡ true) q s, subst (λ op. bin_sign op ts ≡ Token.Punct a ∷ ts) q (subst (λ o. Spelt a ts o) e (bin_spelt a ts))))
        (λ s. none_some (sym (ap (λ b. if b then Some p else None) s) ∙ h))
operator_seen level (t ∷ ts) op h = none_some h

-- ---- chains

-- what an arrow's body is read as
pub record Body_read (form : Form) (room : ℕ) (i : Input) (x : Tree_body) (j : Input) : Type 0 where
  pub text : Body
  pub keeping : body_keeps form text
  pub flat : inside (body_depth text) ≤ room
  pub means : (n : ℕ) → n ≡ i.arrows → body_tree n text ≡ x
  pub spans : Spans (body_tokens text) i j

module _ (form : Form) (room : ℕ) (inner : Nested) where
  pub record Operand_read (level : Level) (i : Input) (y : Tree_operand) (j : Input) : Type 0 where
    pub text : Expression
    pub own : is_of_level level y.op ≡ true
    pub keeping : keeps form text
    pub binding : binds (operand_tightness level) text ≡ true
    pub flat : depth text ≤ room
    pub means : (n : ℕ) → n ≡ i.arrows → tree n text ≡ y.value
    pub spans : Spans (bin_sign y.op ⨾ tokens text) i j

  pub record Operands_read (level : Level) (i : Input) (ys : List Tree_operand) (j : Input) : Type 0 where
    pub text : Operands
    pub keeping : operands_keep form level text
    pub flat : operands_depth text ≤ room
    pub means : (n : ℕ) → n ≡ i.arrows → operands_tree n text ≡ ys
    pub spans : Spans (operands_tokens text) i j

  bin_uncounted : (op : Bin) → arrows (bin_sign op) ≡ 0
  bin_uncounted op = sign_uncounted op []

  operands_of : (level : Level) {i j : Input} {ys : List Tree_operand} → Many (Operand_read level) i ys j → Operands_read level i ys j
  operands_of level no_more = record { text = No_operand; keeping = tt; flat = omega arith; means = λ n e. refl; spans = record { spelt = refl; count = omega arith } }
  operands_of level (one_more {x = x} v r) =
      let t = operands_of level r in
      let c1 = v.spans.count in
      let c2 = counted (bin_framed x.op) (tokens v.text []) in
      let c3 = bin_uncounted x.op in
      let f = v.flat in
      let g = t.flat in
      record {
        text = Operand (x.op) v.text t.text;
        keeping = (v.own, v.binding, v.keeping, t.keeping);
        flat = max_le (depth v.text) (operands_depth t.text) room f g;
        means = λ n e. ap₂ (λ z zs. record { op = x.op; value = z } ∷ zs) (v.means n e) (t.means (n + arrows (tokens v.text)) (omega (arith, e, c1, c2, c3)));
        spans = spans_again (bin_sign (x.op)) (tokens v.text) (operands_tokens t.text) (bin_framed (x.op) ▹ framed v.text) v.spans t.spans;
      }
    where
      spans_again : (a b c : Writing) {i j k : Input} → Framed (a ⨾ b) → Spans (a ⨾ b) i j → Spans c j k → Spans (a ⨾ (b ⨾ c)) i k
      spans_again a b c f s t = spans_then f s t

  advance_op : (level : Level) (i : Input) (op : Bin) → operator_at level i.tokens ≡ Some op → (is_of_level level op ≡ true) × Spans (bin_sign op) i (advance i)
  advance_op level i op h = let q = operator_seen level i.tokens op h in let c = bin_uncounted op in (q.0, record { spelt = q.1; count = omega (arith, c) })

  operand_sound : (level : Level) (tighter : Reader Read) → ((i : Input) → Sound (Reading form (suc room) (operand_tightness level) i) (tighter i)) → (i : Input)
      → Sound (Maybe_read (Operand_read level) i) (operand level tighter i)
  unfolding operand operator
  operand_sound level tighter h i = go (operator_at level i.tokens) refl
    where
      go : (o : Option Bin) → operator_at level i.tokens ≡ o → Sound (Maybe_read (Operand_read level) i) (operand level tighter i)
      go None q = rw q (read refl)
      go (Some op) q =
          let a = advance_op level i op q in
          let c = a.1.count in
          let u = bin_uncounted op in
          rw q (sound_then (h (advance i)) (λ x j v. let f = v.flat in read (record {
            text = v.text;
            own = a.0;
            keeping = v.keeping;
            binding = v.binding;
            flat = omega (arith, f);
            means = λ n e. v.means n (omega (arith, e, c, u));
            spans = spans_then (bin_framed op) a.1 v.spans;
          })))

  -- a chain of one level, or what binds tighter
  chained_read : (level : Level) (i j k : Input) (x : Read) (ys : List Tree_operand) → Reading form (suc room) (operand_tightness level) i x j → Operands_read level j ys k
      → Reading form (suc room) (tightness_of level) i (chained level x ys) k
  chained_read level i j k x ys v t = subst (λ ys. Reading form (suc room) (tightness_of level) i (chained level x ys) k) (t.means (j.arrows) refl) (go (t.text) (t.keeping) (t.flat) (t.spans))
    where
      go : (o : Operands) → operands_keep form level o → operands_depth o ≤ room → Spans (operands_tokens o) j k → Reading form (suc room) (tightness_of level) i (chained level x (operands_tree (j.arrows) o)) k
      go No_operand ke d sp =
          let c1 = v.spans.count in
          let c2 = sp.count in
          let b = binds_le (operand_tightness level) v.text v.binding in
          let a = operand_above level in
          record {
            text = v.text;
            keeping = v.keeping;
            binding = le_binds (tightness_of level) v.text (omega (arith, a, b));
            flat = v.flat;
            means = v.means;
            kinds = v.kinds;
            spans = record { spelt = ap (tokens v.text) sp.spelt ∙ v.spans.spelt; count = omega (arith, c1, c2) };
          }
      go (Operand op y others) ke d sp =
          let same' = level_is level op ke.0 in
          let c1 = v.spans.count in
          let c2 = counted (framed v.text) (tokens y []) in
          let f = v.flat in
          record {
            text = Chain v.text op y others;
            keeping = subst (λ l. (binds (operand_tightness l) v.text ≡ true) × keeps form v.text × (binds (operand_tightness l) y ≡ true) × keeps form y × operands_keep form l others) same' (v.binding, v.keeping, ke.1, ke.2, ke.3);
            binding = le_binds (tightness_of level) (Chain v.text op y others) (let q = ap tightness_of same' in omega (arith, q));
            flat = omega (arith, f, d);
            means = λ n q.
                let first : n + arrows (tokens v.text) ≡ j.arrows = omega (arith, q, c1) in
                let second : n + arrows (tokens v.text ⨾ tokens y) ≡ j.arrows + arrows (tokens y) = omega (arith, q, c1, c2) in
                ap₂ (λ z zs. e.Chain z zs) (v.means n q) (ap₂ (λ p q. record { op = op; value = tree p y } ∷ operands_tree q others) first second);
            kinds = ap Chained (sym same');
            spans = spans_then (framed v.text) v.spans sp;
          }

  operands_sound : (level : Level) (tighter : Reader Read) → ((i : Input) → Sound (Reading form (suc room) (operand_tightness level) i) (tighter i)) → (i : Input)
      → Sound (Operands_read level i) (many (operand level tighter) i)
  operands_sound level tighter h i = implied (many_sound (Operand_read level) (operand level tighter) (operand_sound level tighter h) i)
      (λ ys k t. subst (λ ys. Operands_read level i ys k) t.parts (operands_of level t.run))

  chain_sound : (level : Level) (tighter : Reader Read) → ((i : Input) → Sound (Reading form (suc room) (operand_tightness level) i) (tighter i)) → (i : Input)
      → Sound (Reading form (suc room) (tightness_of level) i) (chain level tighter i)
  unfolding chain
  chain_sound level tighter h i = sound_then (h i) (λ x j v. sound_then (operands_sound level tighter h j) (λ ys k t. read (chained_read level i j k x ys v t)))

  -- a reading that binds tighter, as one that binds less
  looser : (j k : ℕ) {i : Input} {x : Read} {l : Input} → j ≤ k → Reading form (suc room) k i x l → Reading form (suc room) j i x l
  looser j k le v = let b = binds_le k v.text v.binding in record { text = v.text; keeping = v.keeping; binding = le_binds j v.text (omega (arith, le, b)); flat = v.flat; means = v.means; kinds = v.kinds; spans = v.spans }

  module _ (nested_sound : (i : Input) → Sound (Valued form room i) (nested form room inner i)) (tight_sound : (i : Input) → Sound (Reading form room 7 i) (inner.value Tight i))
      (postfix_sound : (i : Input) → Sound (Reading form (suc room) 8 i) (postfix form room inner i)) where
    prefixed_read : (op : Un) (i j k : Input) (x : Read) → Spans (un_sign op) i j → arrows (un_sign op) ≡ 0 → Reading form room 7 j x k → Reading form (suc room) 7 i (reading (e.Unary op x.tree) Prefixed) k
    prefixed_read op i j k x s u v =
        let c = s.count in
        let f = v.flat in
        record { text = Prefix op v.text; keeping = (v.binding, v.keeping); binding = refl; flat = omega (arith, f); means = λ n q. ap (λ z. e.Unary op z) (v.means n (omega (arith, q, c, u))); kinds = refl; spans = spans_then (un_framed op) s v.spans }

    pub unary_sound : (i : Input) → Sound (Reading form (suc room) 7 i) (unary form room inner i)
    unfolding unary
    unary_sound i = by_sees (Sign (codes "!")) i refl
        (λ s a p. rw (s, a) (sound_then (tight_sound (advance i)) (λ x j v. read (prefixed_read un.Not i (advance i) j x p refl v))))
        (λ s a. rw (s, a) (by_sees (Sign (codes "-")) i refl
        (λ s a p. rw (s, a) (sound_then (tight_sound (advance i)) (λ x j v. read (prefixed_read un.Neg i (advance i) j x p refl v))))
        (λ s a. rw (s, a) (implied (postfix_sound i) (λ x j v. looser 7 8 (omega arith) v)))))

    pub product_sound : (i : Input) → Sound (Reading form (suc room) 6 i) (product form room inner i)
    unfolding product
    product_sound i = chain_sound Product_level (unary form room inner) unary_sound i

    pub sum_sound : (i : Input) → Sound (Reading form (suc room) 5 i) (sum form room inner i)
    unfolding sum
    sum_sound i = chain_sound Sum_level (product form room inner) product_sound i

    pub order_sound : (i : Input) → Sound (Reading form (suc room) 4 i) (order form room inner i)
    unfolding order
    order_sound i = chain_sound Order_level (sum form room inner) sum_sound i

    pub equality_sound : (i : Input) → Sound (Reading form (suc room) 3 i) (equality form room inner i)
    unfolding equality
    equality_sound i = chain_sound Same_level (order form room inner) order_sound i

    pub conjunction_sound : (i : Input) → Sound (Reading form (suc room) 2 i) (conjunction form room inner i)
    unfolding conjunction
    conjunction_sound i = chain_sound And_level (equality form room inner) equality_sound i

    logic_by_sound : (i j : Input) (x : Read) (b : Bool) → (b ≡ true → 3 ≤ kind_tightness x.kind) → Reading form (suc room) 2 i x j → Sound (Reading form (suc room) 1 i) (logic_by form room inner x b j)
    logic_by_sound i j x true h v =
        let t = h refl in
        let q = tight_kind v.text in
        let r = ap kind_tightness v.kinds in
        let w : Reading form (suc room) 3 i x j = record { text = v.text; keeping = v.keeping; binding = le_binds 3 v.text (omega (arith, t, q, r)); flat = v.flat; means = v.means; kinds = v.kinds; spans = v.spans } in
        sound_then (operands_sound Coalesce_level (equality form room inner) equality_sound j) (λ ys k t. read (chained_read Coalesce_level i j k x ys w t))
    logic_by_sound i j x false h v = sound_then (operands_sound Or_level (conjunction form room inner) conjunction_sound j) (λ ys k t. read (chained_read Or_level i j k x ys v t))

    pub logic_sound : (i : Input) → Sound (Reading form (suc room) 1 i) (logic form room inner i)
    unfolding logic
    logic_sound i = sound_then (conjunction_sound i) (λ x j v. logic_by_sound i j x (sees (Sign (codes "??")) j && nat_le 3 (kind_tightness x.kind)) (λ h. leb→le 3 (kind_tightness x.kind) (subst T (sym (both (sees (Sign (codes "??")) j) (nat_le 3 (kind_tightness x.kind)) h).1) tt)) v)

    chosen : (i a b c d k : Input) (x : Read) (y z : Expr) → Reading form (suc room) 1 i x a → Spans (sign (codes "?")) a b → Valued form room b y c → Spans (sign (codes ":")) c d → Valued form room d z k
        → Reading form (suc room) 0 i (reading (e.Cond x.tree y z) Loose) k
    chosen i a b c d k x y z v s w t u =
        let c1 = v.spans.count in
        let c2 = s.count in
        let c3 = w.spans.count in
        let c4 = t.count in
        let c5 = counted (framed v.text) (tokens w.text []) in
        let f = v.flat in
        let g = w.flat in
        let h = u.flat in
        record {
          text = Choice v.text w.text u.text;
          keeping = (v.binding, v.keeping, w.keeping, u.keeping);
          binding = refl;
          flat = omega (arith, f, g, h);
          means = λ n q.
              let first : n + arrows (tokens v.text) ≡ b.arrows = omega (arith, q, c1, c2) in
              let second : n + arrows (tokens v.text ⨾ tokens w.text) ≡ d.arrows = omega (arith, q, c1, c2, c3, c4, c5) in
              ap₂ (λ (x : Expr) (p : Expr × Expr). e.Cond x p.0 p.1) (v.means n q) (ap₂ (λ y z. (y, z)) (w.means (n + arrows (tokens v.text)) first) (u.means (n + arrows (tokens v.text ⨾ tokens w.text)) second));
          kinds = refl;
          spans = spans_then (framed v.text) v.spans (spans_then (sign_framed (codes "?")) s (spans_then (framed w.text) w.spans (spans_then (sign_framed (codes ":")) t u.spans)));
        }

    pub choice_sound : (i : Input) → Sound (Reading form (suc room) 0 i) (choice form room inner i)
    unfolding choice
    choice_sound i = sound_then (logic_sound i) (λ x a v. by_sees (Sign (codes "?")) a refl
        (λ s q p. rw (s, q) (sound_then (nested_sound (advance a)) (λ y c w. sound_then (expect_sound (Sign (codes ":")) c refl) (λ _ d t. sound_then (nested_sound d) (λ z k u.
        read (chosen i a (advance a) c d k x y z v p w t u))))))
        (λ s q. rw (s, q) (read (looser 0 1 (omega arith) v))))

    -- ---- arrows

    number_sound : (i : Input) → Sound (λ n j. Spans (sign (codes "=>")) i j × (n ≡ i.arrows) × (j.arrows ≡ n + 1)) (number i)
    unfolding number sees
    number_sound i = by_bool (first_is (Sign (codes "=>")) i.tokens) (λ h. rw h (read (record { spelt = mark_seen (Sign (codes "=>")) i.tokens h; count = refl }, refl, refl))) (λ h. rw h refused)

    module _ (body_sound : (i : Input) → Sound (Body_read form room i) (inner.body i)) where
      arrow_read : (i a b k : Input) (ps : List Pattern) (n : ℕ) (x : Tree_body) → Parameters_read room i ps a → Spans (sign (codes "=>")) a b → n ≡ a.arrows → b.arrows ≡ n + 1 → Body_read form room b x k
          → Reading form (suc room) 0 i (reading (e.Arrow (record { place = n; params = ps; body = x })) Loose) k
      arrow_read i a b k ps n x v s p q w =
          let c1 = v.spans.count in
          let c2 = parameters_uncounted v.text [] in
          let f = v.flat in
          let g = w.flat in
          record {
            text = Function v.text w.text;
            keeping = w.keeping;
            binding = refl;
            flat = omega (arith, f, g);
            means = λ m r.
                let here : m ≡ n = omega (arith, r, p, c1, c2) in
                let behind : m + 1 ≡ b.arrows = omega (arith, r, p, q, c1, c2) in
                ap₂ (λ (m : ℕ) (z : List Pattern × Tree_body). e.Arrow (record { place = m; params = z.0; body = z.1 })) here (ap₂ (λ y z. (y, z)) v.means (w.means (m + 1) behind));
            kinds = refl;
            spans = spans_then (parameters_framed v.text) v.spans (spans_then (sign_framed (codes "=>")) s w.spans);
          }

      abbrev Arrow_head_read : Input → List Pattern × ℕ → Input → Type 0
      Arrow_head_read i r b = (a : Input) × Parameters_read room i (r.0) a × Spans (sign (codes "=>")) a b × (r.1 ≡ a.arrows) × (b.arrows ≡ r.1 + 1)

      arrow_head_sound : (i : Input) → Sound (Arrow_head_read i) (arrow_head room i)
      unfolding arrow_head
      arrow_head_sound i = sound_then (params_sound room i) (λ ps a v. sound_then (number_sound a) (λ n b s. read (a, v, s.0, s.1, s.2)))

      arrow_sound : (i : Input) → Sound (Reading form (suc room) 0 i) (arrow form room inner i)
      unfolding arrow
      arrow_sound i = sound_then (arrow_head_sound i) (λ r b h. sound_then (body_sound b) (λ x k w. read (arrow_read i (h.0) b k (r.0) (r.1) x h.1 h.2 h.3 h.4 w)))

      later_sound : {A B : Type 0} {R : B → Input → Type 0} (other : Outcome A) (o : Outcome B) → Sound R o → Sound R (later other o)
      later_sound other (Ok p) h = h
      later_sound (Ok x) (Err (Syntax k)) h = refused
      later_sound (Err (Syntax m)) (Err (Syntax k)) h = by_bool (nat_le k m) (λ s. rw s refused) (λ s. rw s refused)
      later_sound (Err (TooDeep m)) (Err (Syntax k)) h = by_bool (nat_le k m) (λ s. rw s refused) (λ s. rw s refused)
      later_sound other (Err (TooDeep k)) h = refused

      -- an expression
      pub whole_sound : (i : Input) → Sound (Reading form (suc room) 0 i) (whole form room inner i)
      unfolding whole
      whole_sound i = by_bool (arrow_ahead i) (λ s. rw s (arrow_sound i)) (λ s. rw s (later_sound (arrow_head room i) (choice form room inner i) (choice_sound i)))
