-- What is written is read: JSX.
use Rattle.std.proofs.Common.{◌≡◌, refl, subst, arith, append_assoc, append-nil}
use Rattle.std.specs.Prelude.{ℕ, zero, suc, ◌+◌, ◌≤◌, ◌<◌, true, false, List, [], ◌∷◌, ◌++◌, length, Option, Some, None, Ok, codes}
use Rattle.std.proofs.Math.Nat.{le-max_left, le-max_right}
use Rattle.qk_ast.specs.declared.Form.{Form}
use Rattle.qk_ast.specs.declared.Expr.{Expr}
use Rattle.qk_ast.specs.declared.Expr.TheVariants as e
use Rattle.qk_ast.specs.declared.Field.{Field as Tree_field}
use Rattle.qk_ast.specs.Characters.{Characters, same}
use Rattle.qk_ast.specs.Tokens.{Token, is_tag_name}
use Rattle.qk_ast.specs.JsxText.{jsx_text}
use Rattle.qk_ast.specs.Grammar.{Expression, Markup, Element, Closed, Open, Fragment, Attributes, No_attribute, Set, Set_text, Set_value, Children, No_child, Text_child, Empty_child, Value_child, Element_child}
use Rattle.qk_ast.specs.Spelling.{tokens, element_tokens, attributes_tokens, children_tokens}
use Rattle.qk_ast.specs.Depth.{inside, depth, element_depth, attributes_depth, children_depth}
use Rattle.qk_ast.specs.Tree.{arrows, bytes, before_children, tree, element_tree, attributes_tree, children_tree}
use Rattle.qk_reading.specs.Input.{Input, at, Reader, Sign, first_is, sees, after, expect, name_that, many_from, many, sparse_from, sparse}
use Rattle.qk_reading.specs.Ahead.{known_ahead}
use Rattle.qk_reading.specs.Parts.{child_text}
use Rattle.qk_reading.specs.Forms.{start_by, attribute, child, children, tagged, untagged, head, atom}
use Rattle.qk_reading.specs.Reader.{nesting}
use Rattle.qk_reading.proofs.Framed.{framed, attributes_framed, children_framed, element_framed}
use Rattle.qk_reading.proofs.Follow.{opens_not, opens}
use Rattle.qk_reading.proofs.Counted.{counted, measured, longer}
use Rattle.qk_reading.proofs.Reached.{Reaches, reached, deep, reach_then, enter_reach, many_stop}
use Rattle.qk_reading.proofs.Atoms.{moved, many_step, Nests, Heads}

-- what is read is added, where it is something
abbrev added : {A : Type 0} → List A → Option A → List A
added so_far None = so_far
added so_far (Some y) = so_far ++ y ∷ []

sparse_step : {A : Type 0} {D : Type 0} {r : List A} {k : Input} (step : Reader (Option (Option A))) (fuel : ℕ) (so_far : List A) (x : Option A) (i j : Input)
    → length i.tokens ≤ fuel → length j.tokens < length i.tokens → Reaches D (Some x) j (step i)
    → ((fuel' : ℕ) → length j.tokens ≤ fuel' → Reaches D r k (sparse_from step fuel' (added so_far x) j)) → Reaches D r k (sparse_from step fuel so_far i)
unfolding sparse_from
sparse_step step zero so_far x i j f l r k = absurd (omega (arith, f, l))
sparse_step step (suc fuel) so_far None i j f l r k = reach_then _ r (k fuel (omega (arith, f, l)))
sparse_step step (suc fuel) so_far (Some y) i j f l r k = reach_then _ r (k fuel (omega (arith, f, l)))

sparse_stop : {A : Type 0} (step : Reader (Option (Option A))) (n : ℕ) (so_far : List A) (j : Input) → step j ≡ Ok (None, j) → sparse_from step n so_far j ≡ Ok (so_far, j)
unfolding sparse_from
sparse_stop step zero so_far j q = refl
sparse_stop step (suc n) so_far j q = rw q refl

added_text : (so_far : List Expr) (text : Characters) (ys : List Expr) → added so_far (child_text text) ++ ys ≡ so_far ++ before_children text ys
added_text so_far [] ys = refl
added_text so_far (c ∷ cs) ys = append_assoc so_far (e.Text (bytes (c ∷ cs)) ∷ []) ys

-- the sign that begins it
abbrev pub begun : Element → Characters
begun (Closed tag attributes) = codes "<"
begun (Open tag attributes inner end) = codes "<"
begun (Fragment inner) = codes "<>"

element_longer : (x : Element) (ts : List Token) → length ts < length (element_tokens x ts)
element_longer (Closed tag attributes) ts = let a = measured (element_framed (Closed tag attributes)) ts in omega (arith, a)
element_longer (Open tag attributes inner end) ts = let a = measured (element_framed (Open tag attributes inner end)) ts in omega (arith, a)
element_longer (Fragment inner) ts = let a = measured (element_framed (Fragment inner)) ts in omega (arith, a)

attributes_unset : (x : Attributes) (c : Characters) (ts : List Token) → same c (codes "=") ≡ false → first_is (Sign (codes "=")) (attributes_tokens x (Token.Punct c ∷ ts)) ≡ false
attributes_unset No_attribute c ts h = h
attributes_unset (Set a more) c ts h = refl
attributes_unset (Set_text a q t more) c ts h = refl
attributes_unset (Set_value a x more) c ts h = refl

module _ (D : Type 0) (form : Form) where
  abbrev pub Attributes_read : Attributes → Type 0
  Attributes_read x = (room n m fuel : ℕ) (so_far : List Tree_field) (c : Characters) (ts : List Token) → same c (codes "=") ≡ false → (room < attributes_depth x → D)
      → m ≡ n + arrows (attributes_tokens x) → length (attributes_tokens x (Token.Punct c ∷ ts)) ≤ fuel
      → Reaches D (so_far ++ attributes_tree n x) (at (Token.Punct c ∷ ts) m) (many_from (attribute form room (nesting form room)) fuel so_far (at (attributes_tokens x (Token.Punct c ∷ ts)) n))

  attribute_none : (room n : ℕ) (c : Characters) (ts : List Token) → attribute form room (nesting form room) (at (Token.Punct c ∷ ts) n) ≡ Ok (None, at (Token.Punct c ∷ ts) n)
  unfolding attribute
  attribute_none room n c ts = refl

  pub no_attribute_read : Attributes_read No_attribute
  no_attribute_read room n m fuel so_far c ts h d q f = rw (many_stop (attribute form room (nesting form room)) fuel so_far (at (Token.Punct c ∷ ts) n) (attribute_none room n c ts), append-nil) (moved n m (omega (arith, q)) reached)

  -- one attribute, and others
  attribute_turn : (x : Attributes) (more : Attributes) (y : Tree_field) (i : Input) → Attributes_read more → (room n m fuel : ℕ) (so_far : List Tree_field) (c : Characters) (ts : List Token) → same c (codes "=") ≡ false
      → (room < attributes_depth more → D) → m ≡ n + arrows (attributes_tokens more) → length i.tokens ≤ fuel → length (attributes_tokens more (Token.Punct c ∷ ts)) < length i.tokens
      → Reaches D (Some y) (at (attributes_tokens more (Token.Punct c ∷ ts)) n) (attribute form room (nesting form room) i)
      → Reaches D (so_far ++ y ∷ attributes_tree n more) (at (Token.Punct c ∷ ts) m) (many_from (attribute form room (nesting form room)) fuel so_far i)
  attribute_turn x more y i r room n m fuel so_far c ts h d q f l s =
      let us = attributes_tokens more (Token.Punct c ∷ ts) in
      many_step (attribute form room (nesting form room)) fuel so_far y i (at us n) f l s
      (λ fuel' f'. subst (λ ys. Reaches D ys (at (Token.Punct c ∷ ts) m) (many_from (attribute form room (nesting form room)) fuel' (so_far ++ y ∷ []) (at us n))) (append_assoc so_far (y ∷ []) (attributes_tree n more))
      (r room n m fuel' (so_far ++ y ∷ []) c ts h d q f'))

  pub set_read : (a : Characters) (more : Attributes) → Attributes_read more → Attributes_read (Set a more)
  unfolding attribute sees after
  set_read a more r room n m fuel so_far c ts h d q f =
      attribute_turn (Set a more) more (record { key = bytes a; value = e.Bool true }) (at (attributes_tokens (Set a more) (Token.Punct c ∷ ts)) n) r room n m fuel so_far c ts h d q f (omega arith)
      (rw (attributes_unset more c ts h) reached)

  pub set_text_read : (a : Characters) (k : ℕ) (t : Characters) (more : Attributes) → Attributes_read more → Attributes_read (Set_text a k t more)
  unfolding attribute sees after
  set_text_read a k t more r room n m fuel so_far c ts h d q f =
      attribute_turn (Set_text a k t more) more _ (at (attributes_tokens (Set_text a k t more) (Token.Punct c ∷ ts)) n) r room n m fuel so_far c ts h d q f (omega arith) reached

  pub set_value_read : (a : Characters) (x : Expression) (more : Attributes) → Nests D form x → Attributes_read more → Attributes_read (Set_value a x more)
  unfolding attribute sees after expect
  set_value_read a x more k r room n m fuel so_far c ts h d q f =
      let us = attributes_tokens more (Token.Punct c ∷ ts) in
      let m1 = n + arrows (tokens x) in
      let c1 = counted (framed x) (Token.Punct (codes "}") ∷ attributes_tokens more []) in
      let l = longer x (Token.Punct (codes "}") ∷ us) in
      attribute_turn (Set_value a x more) more (record { key = bytes a; value = tree n x }) (at (attributes_tokens (Set_value a x more) (Token.Punct c ∷ ts)) n) r room m1 m fuel so_far c ts h
      (λ l. d (omega (arith, l, le-max_right (inside (depth x)) (attributes_depth more)))) (omega (arith, q, c1)) f (omega (arith, l))
      (reach_then _ (reach_then _ (k room n m1 (Token.Punct (codes "}") ∷ us) (λ l. d (omega (arith, l, le-max_left (inside (depth x)) (attributes_depth more)))) refl (omega arith)) reached) reached)

  -- ---- children

  abbrev pub Children_read : Children → Type 0
  Children_read x = (room n m fuel : ℕ) (so_far : List Expr) (c : Characters) (ts : List Token) → same c (codes "{") ≡ false → (room < children_depth x → D)
      → m ≡ n + arrows (children_tokens x) → length (children_tokens x (Token.Punct c ∷ ts)) ≤ fuel
      → Reaches D (so_far ++ children_tree n x) (at (Token.Punct c ∷ ts) m) (sparse_from (child form room (nesting form room)) fuel so_far (at (children_tokens x (Token.Punct c ∷ ts)) n))

  child_none : (room n : ℕ) (c : Characters) (ts : List Token) → same c (codes "{") ≡ false → child form room (nesting form room) (at (Token.Punct c ∷ ts) n) ≡ Ok (None, at (Token.Punct c ∷ ts) n)
  unfolding child
  child_none room n c ts h = rw h refl

  pub no_child_read : Children_read No_child
  no_child_read room n m fuel so_far c ts h d q f = rw (sparse_stop (child form room (nesting form room)) fuel so_far (at (Token.Punct c ∷ ts) n) (child_none room n c ts h), append-nil) (moved n m (omega (arith, q)) reached)

  pub text_child_read : (t : Characters) (more : Children) → Children_read more → Children_read (Text_child t more)
  unfolding child
  text_child_read t more r room n m fuel so_far c ts h d q f =
      let us = children_tokens more (Token.Punct c ∷ ts) in
      sparse_step (child form room (nesting form room)) fuel so_far (child_text (jsx_text t)) (at (Token.JsxText t ∷ us) n) (at us n) f (omega arith) reached
      (λ fuel' f'. subst (λ ys. Reaches D ys (at (Token.Punct c ∷ ts) m) (sparse_from (child form room (nesting form room)) fuel' (added so_far (child_text (jsx_text t))) (at us n)))
      (added_text so_far (jsx_text t) (children_tree n more))
      (r room n m fuel' (added so_far (child_text (jsx_text t))) c ts h d q f'))

  pub empty_child_read : (more : Children) → Children_read more → Children_read (Empty_child more)
  unfolding child sees
  empty_child_read more r room n m fuel so_far c ts h d q f =
      let us = children_tokens more (Token.Punct c ∷ ts) in
      sparse_step (child form room (nesting form room)) fuel so_far None (at (Token.Punct (codes "{") ∷ Token.Punct (codes "}") ∷ us) n) (at us n) f (omega arith)
      (reach_then _ (reach_then _ (enter_reach room (at (Token.Punct (codes "}") ∷ us) n) (λ l. d (omega (arith, l, le-max_left 1 (children_depth more))))) reached) reached)
      (λ fuel' f'. r room n m fuel' so_far c ts h (λ l. d (omega (arith, l, le-max_right 1 (children_depth more)))) q f')

  pub value_child_read : (x : Expression) (more : Children) → Nests D form x → Children_read more → Children_read (Value_child x more)
  unfolding child sees expect
  value_child_read x more k r room n m fuel so_far c ts h d q f =
      let us = children_tokens more (Token.Punct c ∷ ts) in
      let vs = tokens x (Token.Punct (codes "}") ∷ us) in
      let m1 = n + arrows (tokens x) in
      let c1 = counted (framed x) (Token.Punct (codes "}") ∷ children_tokens more []) in
      let l = longer x (Token.Punct (codes "}") ∷ us) in
      let s : first_is (Sign (codes "}")) vs ≡ false = opens_not (codes "}") vs (opens x (Token.Punct (codes "}") ∷ us)) in
      let b = le-max_left (inside (depth x)) (children_depth more) in
      sparse_step (child form room (nesting form room)) fuel so_far (Some (tree n x)) (at (Token.Punct (codes "{") ∷ vs) n) (at us m1) f (omega (arith, l))
      (reach_then _ (reach_then _ (enter_reach room (at vs n) (λ l. d (omega (arith, l, b)))) reached)
      (rw s (reach_then _ (k room n m1 (Token.Punct (codes "}") ∷ us) (λ l. d (omega (arith, l, b))) refl (omega arith)) reached)))
      (λ fuel' f'. subst (λ ys. Reaches D ys (at (Token.Punct c ∷ ts) m) (sparse_from (child form room (nesting form room)) fuel' (so_far ++ tree n x ∷ []) (at us m1))) (append_assoc so_far (tree n x ∷ []) (children_tree m1 more))
      (r room m1 m fuel' (so_far ++ tree n x ∷ []) c ts h (λ l. d (omega (arith, l, le-max_right (inside (depth x)) (children_depth more)))) (omega (arith, q, c1)) f'))

  -- ---- elements

  abbrev pub Element_reads : Element → Type 0
  Element_reads x = (room n m : ℕ) (ts : List Token) → (room < element_depth x → D) → m ≡ n + arrows (element_tokens x)
      → Reaches D (e.Jsx (element_tree n x)) (at ts m) (start_by form room (nesting form room) (begun x) (at (element_tokens x ts) n))

  as_child : (room : ℕ) (x : Element) (us : List Token) (n m1 : ℕ) → Reaches D (e.Jsx (element_tree n x)) (at us m1) (start_by form room (nesting form room) (begun x) (at (element_tokens x us) n))
      → Reaches D (Some (Some (e.Jsx (element_tree n x)))) (at us m1) (child form room (nesting form room) (at (element_tokens x us) n))
  unfolding child
  as_child room (Closed tag attributes) us n m1 s = reach_then _ s reached
  as_child room (Open tag attributes inner end) us n m1 s = reach_then _ s reached
  as_child room (Fragment inner) us n m1 s = reach_then _ s reached

  pub element_child_read : (x : Element) (more : Children) → Element_reads x → Children_read more → Children_read (Element_child x more)
  element_child_read x more k r room n m fuel so_far c ts h d q f =
      let us = children_tokens more (Token.Punct c ∷ ts) in
      let m1 = n + arrows (element_tokens x) in
      let c1 = counted (element_framed x) (children_tokens more []) in
      sparse_step (child form room (nesting form room)) fuel so_far (Some (e.Jsx (element_tree n x))) (at (element_tokens x us) n) (at us m1) f (element_longer x us)
      (as_child room x us n m1 (k room n m1 us (λ l. d (omega (arith, l, le-max_left (element_depth x) (children_depth more)))) refl))
      (λ fuel' f'. subst (λ ys. Reaches D ys (at (Token.Punct c ∷ ts) m) (sparse_from (child form room (nesting form room)) fuel' (so_far ++ e.Jsx (element_tree n x) ∷ []) (at us m1))) (append_assoc so_far (e.Jsx (element_tree n x) ∷ []) (children_tree m1 more))
      (r room m1 m fuel' (so_far ++ e.Jsx (element_tree n x) ∷ []) c ts h (λ l. d (omega (arith, l, le-max_right (element_depth x) (children_depth more)))) (omega (arith, q, c1)) f'))

  pub markup_heads : (x : Element) → Element_reads x → Heads D form (Markup x)
  unfolding head known_ahead atom
  markup_heads (Closed tag attributes) k room n m ts d q u = reach_then _ (reach_then _ (k room n m ts d q) reached) reached
  markup_heads (Open tag attributes inner end) k room n m ts d q u = reach_then _ (reach_then _ (k room n m ts d q) reached) reached
  markup_heads (Fragment inner) k room n m ts d q u = reach_then _ (reach_then _ (k room n m ts d q) reached) reached

  pub closed_reads : (tag : Characters) (x : Attributes) → is_tag_name tag ≡ true → Attributes_read x → Element_reads (Closed tag x)
  unfolding nesting tagged name_that many sees after
  closed_reads tag x t h zero n m ts d q = deep (d (omega arith))
  closed_reads tag x t h (suc room) n m ts d q =
      let us = attributes_tokens x (Token.Punct (codes "/>") ∷ ts) in
      let c1 = counted (attributes_framed x) (Token.Punct (codes "/>") ∷ []) in
      rw t (reach_then _ (reach_then _ (reach_then _ (h room n m (length us) [] (codes "/>") ts refl (λ l. d (omega (arith, l))) (omega (arith, q, c1)) (omega arith)) reached) reached) reached)

  pub open_reads : (tag : Characters) (x : Attributes) (y : Children) (end : Characters) → is_tag_name tag ≡ true → same tag end ≡ true → Attributes_read x → Children_read y → Element_reads (Open tag x y end)
  unfolding nesting tagged name_that many sees after expect children sparse
  open_reads tag x y end t s h k zero n m ts d q = deep (d (omega arith))
  open_reads tag x y end t s h k (suc room) n m ts d q =
      let vs = children_tokens y (Token.Punct (codes "</") ∷ Token.Name end ∷ Token.Punct (codes ">") ∷ ts) in
      let us = attributes_tokens x (Token.Punct (codes ">") ∷ vs) in
      let m1 = n + arrows (attributes_tokens x) in
      let c1 = counted (attributes_framed x) (Token.Punct (codes ">") ∷ children_tokens y (Token.Punct (codes "</") ∷ Token.Name end ∷ Token.Punct (codes ">") ∷ [])) in
      let c2 = counted (children_framed y) (Token.Punct (codes "</") ∷ Token.Name end ∷ Token.Punct (codes ">") ∷ []) in
      let b1 = le-max_left (attributes_depth x) (children_depth y) in
      let b2 = le-max_right (attributes_depth x) (children_depth y) in
      rw t (reach_then _ (reach_then _ (reach_then _ (h room n m1 (length us) [] (codes ">") vs refl (λ l. d (omega (arith, l, b1))) refl (omega arith))
      (reach_then _ (k room m1 m (length vs) [] (codes "</") (Token.Name end ∷ Token.Punct (codes ">") ∷ ts) refl (λ l. d (omega (arith, l, b2))) (omega (arith, q, c1, c2)) (omega arith))
      (rw s reached))) reached) reached)

  pub fragment_reads : (y : Children) → Children_read y → Element_reads (Fragment y)
  unfolding nesting untagged children sparse expect sees
  fragment_reads y k zero n m ts d q = deep (d (omega arith))
  fragment_reads y k (suc room) n m ts d q =
      let vs = children_tokens y (Token.Punct (codes "</>") ∷ ts) in
      let c2 = counted (children_framed y) (Token.Punct (codes "</>") ∷ []) in
      reach_then _ (reach_then _ (reach_then _ (k room n m (length vs) [] (codes "</>") ts refl (λ l. d (omega (arith, l))) (omega (arith, q, c2)) (omega arith)) reached) reached) reached
