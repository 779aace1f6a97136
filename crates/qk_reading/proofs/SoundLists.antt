-- What is read is written by the rules: names, patterns, records and templates.
use Rattle.std.proofs.Common.{◌≡◌, refl, sym, ◌∙◌, ap, ap₂, subst, arith, ◌⊎◌, inl, inr}
use Rattle.std.specs.Prelude.{ℕ, ◌+◌, ◌-◌, ◌≤◌, Bool, true, false, List, [], ◌∷◌, ◌++◌, codes}
use Rattle.qk_ast.specs.declared.Form.{Form}
use Rattle.qk_ast.specs.declared.Expr.{Expr}
use Rattle.qk_ast.specs.declared.Pattern.{Pattern}
use Rattle.qk_ast.specs.declared.Pattern.TheVariants as p
use Rattle.qk_ast.specs.declared.Field.{Field as Tree_field}
use Rattle.qk_ast.specs.Characters.{Characters, is_one_of}
use Rattle.qk_ast.specs.Tokens.{Token, Piece}
use Rattle.qk_ast.specs.Grammar.{Names, Last_name, Last_comma, Next_name, Binding, Plain, Fields_of, Bindings, No_binding, Only_binding, Binding_comma, Parameters, Bare, In_brackets, Free, Taken, Field, Key, Quoted_key, Short, Fields, No_field, Only_field, Field_comma}
use Rattle.qk_ast.specs.Spelling.{one, name as name_of, sign, names_tokens, binding_tokens, bindings_tokens, parameters_tokens, field_tokens, fields_tokens}
use Rattle.qk_ast.specs.Depth.{inside, binding_depth, bindings_depth, parameters_depth, field_depth, fields_depth}
use Rattle.qk_ast.specs.Tree.{arrows, bytes, value, names_tree, binding_tree, bindings_tree, parameters_tree, field_tree, fields_tree}
use Rattle.qk_ast.specs.Rules.{field_keeps, fields_keep, key_of}
use Rattle.qk_reading.specs.Input.{Input, at, ◌<$>◌, Nested, Mark, Sign, sees, name}
use Rattle.qk_reading.specs.Parts.{names, pattern, params, keys, fresh}
use Rattle.qk_reading.specs.Forms.{nested, field, field_value, fields}
use Rattle.qk_reading.proofs.Framed.{one_framed, names_framed, binding_framed, bindings_framed, field_framed, sign_framed, comma_framed, name_framed}
use Rattle.qk_reading.proofs.Follow.{by_bool, clash}
use Rattle.qk_reading.proofs.Sound.{Sound, read, refused, sound_then, Spans, spans_then, by_sees, expect_sound, name_sound, enter_sound, Run, none, last, more, Ran, separated_sound, collected_sound, Valued, max_le}

-- ---- names

abbrev Name_read : Input → List ℕ → Input → Type 0
Name_read i x j = (a : Characters) × Spans (name_of a) i j × (bytes a ≡ x)

pub record Names_read (i : Input) (xs : List (List ℕ)) (j : Input) : Type 0 where
  pub text : Names
  pub means : names_tree text ≡ xs
  pub spans : Spans (names_tokens text) i j

names_run : {closing : Mark} {so_far xs : List (List ℕ)} {i j : Input} {c : Bool} → Run closing (λ _. Name_read) so_far i xs c j
    → ((sees closing i ≡ true) × ([] ≡ xs) × (i ≡ j)) ⊎ Names_read i xs j
names_run (none s) = inl (s, refl, refl)
names_run (last v) = inr (record { text = Last_name v.0; means = ap (λ x. x ∷ []) v.2; spans = v.1 })
names_run {i = i} (more v s r) = elim (names_run r) [
  | inl h ↦ inr (record {
    text = Last_comma v.0;
    means = ap₂ (λ x xs. x ∷ xs) v.2 h.1;
    spans = subst (λ l. Spans (names_tokens (Last_comma v.0)) i l) h.2 (spans_then (name_framed v.0) v.1 s);
  })
  | inr t ↦ inr (record {
    text = Next_name v.0 t.text;
    means = ap₂ (λ x xs. x ∷ xs) v.2 t.means;
    spans = spans_then (name_framed v.0) v.1 (spans_then comma_framed s t.spans);
  })
]

name_value : (i : Input) → Sound (Name_read i) ((bytes <$> name) i)
name_value i = sound_then (name_sound (λ _. true) i) (λ a j s. read (a, s.0, refl))

names_ran : (i j : Input) (r : List (List ℕ) × Bool) → sees (Sign (codes "}")) i ≡ false → Ran (Sign (codes "}")) (λ _. Name_read) [] i r j → Names_read i (r.0) j
names_ran i j r s t = elim (names_run t.run) as (λ _. Names_read i (r.0) j) [
  | inl h ↦ clash h.0 s
  | inr q ↦ record { text = q.text; means = q.means ∙ t.parts; spans = q.spans }
]

pub names_sound : (i : Input) → Sound (Names_read i) (names i)
unfolding names
names_sound i = by_bool (sees (Sign (codes "}")) i) (λ s. rw s refused) (λ s. rw s
    (sound_then (separated_sound (λ _. Name_read) (Sign (codes "}")) (bytes <$> name) (λ so_far k. name_value k) i) (λ r j t.
    read (names_ran i j r s t))))

-- ---- patterns

pub record Binding_read (room : ℕ) (i : Input) (x : Pattern) (j : Input) : Type 0 where
  pub text : Binding
  pub flat : binding_depth text ≤ room
  pub means : binding_tree text ≡ x
  pub spans : Spans (binding_tokens text) i j

pub pattern_sound : (room : ℕ) (i : Input) → Sound (Binding_read room i) (pattern room i)
unfolding pattern
pattern_sound room i = by_sees (Sign (codes "{")) i refl
    (λ s a o. rw (s, a) (sound_then (enter_sound room _) (λ _ j r.
    sound_then (names_sound j) (λ xs k t.
    sound_then (expect_sound (Sign (codes "}")) k refl) (λ _ l c.
    read (record { text = Fields_of t.text; flat = r.1; means = ap p.Fields t.means; spans = spans_then (sign_framed (codes "{")) (subst (λ k. Spans (sign (codes "{")) i k) r.0 o) (spans_then (names_framed t.text) t.spans c) }))))))
    (λ s a. rw (s, a) (sound_then (name_sound (λ _. true) i) (λ x j t. read (record { text = Plain x; flat = omega arith; means = refl; spans = t.0 }))))

pub record Bindings_read (room : ℕ) (i : Input) (xs : List Pattern) (j : Input) : Type 0 where
  pub text : Bindings
  pub flat : bindings_depth text ≤ room
  pub means : bindings_tree text ≡ xs
  pub spans : Spans (bindings_tokens text) i j

bindings_run : {closing : Mark} {room : ℕ} {so_far xs : List Pattern} {i j : Input} {c : Bool} → Run closing (λ _. Binding_read room) so_far i xs c j → Bindings_read room i xs j
bindings_run (none s) = record { text = No_binding; flat = omega arith; means = refl; spans = record { spelt = refl; count = omega arith } }
bindings_run (last v) = record { text = Only_binding v.text; flat = v.flat; means = ap (λ x. x ∷ []) v.means; spans = v.spans }
bindings_run {room = room} (more v s r) = let t = bindings_run r in record {
  text = Binding_comma v.text t.text;
  flat = max_le (binding_depth v.text) (bindings_depth t.text) room v.flat t.flat;
  means = ap₂ (λ x xs. x ∷ xs) v.means t.means;
  spans = spans_then (binding_framed v.text) v.spans (spans_then comma_framed s t.spans);
}

pub record Parameters_read (room : ℕ) (i : Input) (xs : List Pattern) (j : Input) : Type 0 where
  pub text : Parameters
  pub flat : parameters_depth text ≤ room
  pub means : parameters_tree text ≡ xs
  pub spans : Spans (parameters_tokens text) i j

pub params_sound : (room : ℕ) (i : Input) → Sound (Parameters_read room i) (params room i)
unfolding params
params_sound room i = by_sees (Sign (codes "(")) i refl
    (λ s a o. rw (s, a) (sound_then (enter_sound room _) (λ _ j r.
    sound_then (separated_sound (λ _. Binding_read (room - 1)) (Sign (codes ")")) (pattern (room - 1)) (λ so_far k. pattern_sound (room - 1) k) j) (λ xs k t.
    sound_then (expect_sound (Sign (codes ")")) k refl) (λ _ l c.
    let q = bindings_run t.run in
    let f = q.flat in
    let g = r.1 in
    read (record { text = In_brackets q.text; flat = omega (arith, f, g); means = q.means ∙ t.parts; spans = spans_then (sign_framed (codes "(")) (subst (λ k. Spans (sign (codes "(")) i k) r.0 o) (spans_then (bindings_framed q.text) q.spans c) }))))))
    (λ s a. rw (s, a) (sound_then (name_sound (λ _. true) i) (λ x j t. read (record { text = Bare x; flat = omega arith; means = refl; spans = t.0 }))))

-- ---- records and templates

module _ (form : Form) (room : ℕ) (inner : Nested) (nested_sound : (i : Input) → Sound (Valued form room i) (nested form room inner i)) where
  pub record Field_read (so_far : List Tree_field) (i : Input) (x : Tree_field) (j : Input) : Type 0 where
    pub text : Field
    pub keeping : field_keeps form text
    pub new : is_one_of (key_of text) (keys so_far) ≡ false
    pub flat : inside (field_depth text) ≤ room
    pub means : (n : ℕ) → n ≡ i.arrows → field_tree n text ≡ x
    pub key : key_of text ≡ x.key
    pub spans : Spans (field_tokens text) i j

  field_free : (so_far : List Tree_field) (a : Characters) (ts : List Token) (n : ℕ) (mid j : Input) (x : Expr) → is_one_of (bytes a) (keys so_far) ≡ false
      → Spans (sign (codes ":")) (at ts n) mid → Valued form room mid x j → Field_read so_far (at (Token.Name a ∷ ts) n) (record { key = bytes a; value = x }) j
  field_free so_far a ts n mid j x s c v =
      let c1 = c.count in
      let sp : Spans (name_of a) (at (Token.Name a ∷ ts) n) (at ts n) = record { spelt = refl; count = omega arith } in
      record {
        text = Key (Free a) v.text;
        keeping = v.keeping;
        new = s;
        flat = v.flat;
        means = λ k e. ap (λ x. record { key = bytes a; value = x }) (v.means k (omega (arith, e, c1)));
        key = refl;
        spans = spans_then (name_framed a) sp (spans_then (sign_framed (codes ":")) c v.spans);
      }

  field_taken : (so_far : List Tree_field) (a : Characters) (ts : List Token) (n : ℕ) (mid j : Input) (x : Expr) → is_one_of (bytes a) (keys so_far) ≡ false
      → Spans (sign (codes ":")) (at ts n) mid → Valued form room mid x j → Field_read so_far (at (Token.Reserved a ∷ ts) n) (record { key = bytes a; value = x }) j
  field_taken so_far a ts n mid j x s c v =
      let c1 = c.count in
      let sp : Spans (one (Token.Reserved a)) (at (Token.Reserved a ∷ ts) n) (at ts n) = record { spelt = refl; count = omega arith } in
      record {
        text = Key (Taken a) v.text;
        keeping = v.keeping;
        new = s;
        flat = v.flat;
        means = λ k e. ap (λ x. record { key = bytes a; value = x }) (v.means k (omega (arith, e, c1)));
        key = refl;
        spans = spans_then (one_framed (Token.Reserved a)) sp (spans_then (sign_framed (codes ":")) c v.spans);
      }

  field_quoted : (so_far : List Tree_field) (q : ℕ) (ps : List Piece) (ts : List Token) (n : ℕ) (mid j : Input) (x : Expr) → is_one_of (value ps) (keys so_far) ≡ false
      → Spans (sign (codes ":")) (at ts n) mid → Valued form room mid x j → Field_read so_far (at (Token.Text q ps ∷ ts) n) (record { key = value ps; value = x }) j
  field_quoted so_far q ps ts n mid j x s c v =
      let c1 = c.count in
      let sp : Spans (one (Token.Text q ps)) (at (Token.Text q ps ∷ ts) n) (at ts n) = record { spelt = refl; count = omega arith } in
      record {
        text = Quoted_key q ps v.text;
        keeping = v.keeping;
        new = s;
        flat = v.flat;
        means = λ k e. ap (λ x. record { key = value ps; value = x }) (v.means k (omega (arith, e, c1)));
        key = refl;
        spans = spans_then (one_framed (Token.Text q ps)) sp (spans_then (sign_framed (codes ":")) c v.spans);
      }

  field_at : (so_far : List Tree_field) (ts : List Token) (n : ℕ) → 1 ≤ room → Sound (Field_read so_far (at ts n)) (field form room inner so_far (at ts n))
  unfolding field fresh field_value
  field_at so_far [] n r = refused
  field_at so_far (Token.Name a ∷ ts) n r = by_bool (is_one_of (bytes a) (keys so_far)) (λ s. rw s refused) (λ s. rw s
      (by_sees (Sign (codes ":")) (at ts n) refl
      (λ z b c. rw (z, b) (sound_then (nested_sound _) (λ x j v. read (field_free so_far a ts n _ j x s c v))))
      (λ z b. rw (z, b) (read {j = at ts n} (record { text = Short a; keeping = tt; new = s; flat = omega (arith, r); means = λ k e. refl; key = refl; spans = record { spelt = refl; count = omega arith } })))))
  field_at so_far (Token.Reserved a ∷ ts) n r = by_bool (is_one_of (bytes a) (keys so_far)) (λ s. rw s refused) (λ s. rw s
      (sound_then (expect_sound (Sign (codes ":")) (at ts n) refl) (λ _ mid c. sound_then (nested_sound mid) (λ x j v. read (field_taken so_far a ts n mid j x s c v)))))
  field_at so_far (Token.Text q ps ∷ ts) n r = by_bool (is_one_of (value ps) (keys so_far)) (λ s. rw s refused) (λ s. rw s
      (sound_then (expect_sound (Sign (codes ":")) (at ts n) refl) (λ _ mid c. sound_then (nested_sound mid) (λ x j v. read (field_quoted so_far q ps ts n mid j x s c v)))))
  field_at so_far (t ∷ ts) n r = refused

  pub record Fields_read (so_far : List Tree_field) (i : Input) (xs : List Tree_field) (j : Input) : Type 0 where
    pub text : Fields
    pub keeping : fields_keep form (keys so_far) text
    pub flat : inside (fields_depth text) ≤ room
    pub means : (n : ℕ) → n ≡ i.arrows → fields_tree n text ≡ xs
    pub spans : Spans (fields_tokens text) i j

  keys_append : (fs : List Tree_field) (f : Tree_field) → keys (fs ++ f ∷ []) ≡ keys fs ++ f.key ∷ []
  keys_append [] f = refl
  keys_append (g ∷ fs) f = ap (λ ks. g.key ∷ ks) (keys_append fs f)

  fields_run : {closing : Mark} {so_far xs : List Tree_field} {i j : Input} {c : Bool} → 1 ≤ room → Run closing Field_read so_far i xs c j → Fields_read so_far i xs j
  fields_run r (none s) = record { text = No_field; keeping = tt; flat = omega (arith, r); means = λ n e. refl; spans = record { spelt = refl; count = omega arith } }
  fields_run r (last v) = record { text = Only_field v.text; keeping = (v.new, v.keeping); flat = v.flat; means = λ n e. ap (λ x. x ∷ []) (v.means n e); spans = v.spans }
  fields_run {so_far = so_far} r (more {x = x} v s t) =
      let q = fields_run r t in
      let c1 = v.spans.count in
      let c2 = s.count in
      let f = v.flat in
      let g = q.flat in
      record {
        text = Field_comma v.text q.text;
        keeping = (v.new, v.keeping, subst (λ ks. fields_keep form ks q.text) (keys_append so_far x ∙ ap (λ k. keys so_far ++ k ∷ []) (sym v.key)) q.keeping);
        flat = omega (arith, f, g);
        means = λ n e. ap₂ (λ x xs. x ∷ xs) (v.means n e) (q.means (n + arrows (field_tokens v.text)) (omega (arith, e, c1, c2)));
        spans = spans_then (field_framed v.text) v.spans (spans_then comma_framed s q.spans);
      }

  -- behind `{`
  pub fields_sound : (i : Input) → Sound (λ xs j. (end : Input) × Fields_read [] i xs end × Spans (sign (codes "}")) end j) (fields form room inner i)
  unfolding fields
  fields_sound i =
      sound_then (enter_sound room i) (λ _ j e.
      sound_then (collected_sound Field_read (Sign (codes "}")) (field form room inner) (λ so_far k. field_at so_far k.tokens k.arrows e.1) j) (λ r k t.
      sound_then (expect_sound (Sign (codes "}")) k refl) (λ _ l s.
      read (k, subst (λ i. Fields_read [] i (r.0) k) (sym e.0) (subst (λ xs. Fields_read [] j xs k) t.parts (fields_run e.1 t.run)), s))))
