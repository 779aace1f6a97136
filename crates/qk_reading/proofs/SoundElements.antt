-- What is read is written by the rules: attributes, children and elements.
use Rattle.std.proofs.Common.{◌≡◌, refl, sym, ◌∙◌, ap, ap₂, subst, arith, append_assoc, append-nil, true≢false}
use Rattle.std.specs.Prelude.{ℕ, zero, suc, ◌+◌, ◌≤◌, Bool, true, false, List, [], ◌∷◌, ◌++◌, length, Option, Some, None, codes}
use Rattle.qk_ast.specs.declared.Form.{Form}
use Rattle.qk_ast.specs.declared.Expr.{Expr}
use Rattle.qk_ast.specs.declared.Expr.TheVariants as e
use Rattle.qk_ast.specs.declared.Tag.TheVariants as t
use Rattle.qk_ast.specs.declared.Jsx.{roll-Jsx}
use Rattle.qk_ast.specs.declared.Field.{Field as Tree_field}
use Rattle.qk_ast.specs.Characters.{Characters, same}
use Rattle.qk_ast.specs.Tokens.{Token, is_tag_name}
use Rattle.qk_ast.specs.JsxText.{jsx_text, decoded}
use Rattle.qk_ast.specs.Grammar.{Element, Closed, Open, Fragment, Attributes, No_attribute, Set, Set_text, Set_value, Children, No_child, Text_child, Empty_child, Value_child, Element_child}
use Rattle.qk_ast.specs.Spelling.{one, name as name_of, sign, begin, tokens, element_tokens, attributes_tokens, children_tokens}
use Rattle.qk_ast.specs.Depth.{element_depth, attributes_depth, children_depth}
use Rattle.qk_ast.specs.Tree.{arrows, bytes, tag_tree, before_children, element_tree, attributes_tree, children_tree}
use Rattle.qk_ast.specs.Rules.{element_keeps, attributes_keep, children_keep}
use Rattle.qk_reading.specs.Input.{Input, at, Nested, Tagged, Untagged, Sign, ◌>>=◌, ◌>>◌, pure, peek, maybe, enter, look, advance, sees, sparse_from, sparse, many}
use Rattle.qk_reading.specs.Parts.{child_text}
use Rattle.qk_reading.specs.Forms.{nested, element, start_by, set_by, attribute, braced_by, child, children, tagged, untagged}
use Rattle.qk_ast.proofs.FrontToken.{same_is}
use Rattle.qk_reading.proofs.Framed.{framed, one_framed, name_framed, sign_framed, begin_framed, element_framed, attributes_framed, children_framed, ◌▹◌}
use Rattle.qk_reading.proofs.Follow.{by_bool}
use Rattle.qk_reading.proofs.Sound.{Sound, read, refused, sound_then, implied, Spans, spans_then, by_sees, expect_sound, enter_sound, name_sound, Maybe_read, Many, no_more, one_more, many_sound, Valued}

-- an element behind the sign that it starts with
pub record Element_read (form : Form) (levels : ℕ) (start : Characters) (i : Input) (x : Expr) (j : Input) : Type 0 where
  pub text : Element
  pub keeping : element_keeps form text
  pub flat : element_depth text ≤ levels
  pub means : (n : ℕ) → n ≡ i.arrows → e.Jsx (element_tree n text) ≡ x
  pub spans : Spans (element_tokens text) (at (Token.Begin start ∷ i.tokens) i.arrows) j

pub record Attributes_read (form : Form) (room : ℕ) (i : Input) (fs : List Tree_field) (j : Input) : Type 0 where
  pub text : Attributes
  pub keeping : attributes_keep form text
  pub flat : attributes_depth text ≤ room
  pub means : (n : ℕ) → n ≡ i.arrows → attributes_tree n text ≡ fs
  pub spans : Spans (attributes_tokens text) i j

pub record Children_read (form : Form) (room : ℕ) (i : Input) (xs : List Expr) (j : Input) : Type 0 where
  pub text : Children
  pub keeping : children_keep form text
  pub flat : children_depth text ≤ room
  pub means : (n : ℕ) → n ≡ i.arrows → children_tree n text ≡ xs
  pub spans : Spans (children_tokens text) i j

-- an attribute, and a child or nothing: before those that follow it, it makes one more
abbrev Attribute_read : Form → ℕ → Input → Tree_field → Input → Type 0
Attribute_read form room i f j = (fs : List Tree_field) (k : Input) → Attributes_read form room j fs k → Attributes_read form room i (f ∷ fs) k

abbrev Child_read : Form → ℕ → Input → Option Expr → Input → Type 0
Child_read form room i o j = (xs : List Expr) (k : Input) → Children_read form room j xs k → Children_read form room i (maybe o xs (λ x. x ∷ xs)) k

abbrev Maybe_child : Form → ℕ → Input → Option (Option Expr) → Input → Type 0
Maybe_child form room i None j = i ≡ j
Maybe_child form room i (Some o) j = Child_read form room i o j

pub record Children_run (form : Form) (room : ℕ) (so_far : List Expr) (i : Input) (ys : List Expr) (j : Input) : Type 0 where
  pub others : List Expr
  pub parts : so_far ++ others ≡ ys
  pub run : Children_read form room i others j

name_here : (a : Characters) (ts : List Token) (n : ℕ) → Spans (name_of a) (at (Token.Name a ∷ ts) n) (at ts n)
name_here a ts n = record { spelt = refl; count = omega arith }

child_text_is : (a : Characters) (xs : List Expr) → before_children a xs ≡ maybe (child_text a) xs (λ x. x ∷ xs)
child_text_is [] xs = refl
child_text_is (c ∷ cs) xs = refl

module _ (form : Form) (room : ℕ) (inner : Nested) (nested_sound : (i : Input) → Sound (Valued form room i) (nested form room inner i)) where
  -- ---- attributes

  plain_attribute : (a : Characters) (ts : List Token) (n : ℕ) → Attribute_read form room (at (Token.Name a ∷ ts) n) (record { key = bytes a; value = e.Bool true }) (at ts n)
  plain_attribute a ts n = λ fs k t. record {
    text = Set a t.text;
    keeping = t.keeping;
    flat = t.flat;
    means = λ m q. ap (λ fs. record { key = bytes a; value = e.Bool true } ∷ fs) (t.means m q);
    spans = spans_then (name_framed a) (name_here a ts n) t.spans;
  }

  text_attribute : (a : Characters) (ts : List Token) (n : ℕ) (quote : ℕ) (text : Characters) (us : List Token) → Spans (sign (codes "=")) (at ts n) (at (Token.Attribute quote text ∷ us) n)
      → Attribute_read form room (at (Token.Name a ∷ ts) n) (record { key = bytes a; value = e.Text (bytes (decoded text)) }) (at us n)
  text_attribute a ts n quote text us p = λ fs k t.
      let here : Spans (one (Token.Attribute quote text)) (at (Token.Attribute quote text ∷ us) n) (at us n) = record { spelt = refl; count = omega arith } in
      record {
        text = Set_text a quote text t.text;
        keeping = t.keeping;
        flat = t.flat;
        means = λ m q. ap (λ fs. record { key = bytes a; value = e.Text (bytes (decoded text)) } ∷ fs) (t.means m q);
        spans = spans_then (name_framed a) (name_here a ts n) (spans_then (sign_framed (codes "=")) p (spans_then (one_framed (Token.Attribute quote text)) here t.spans));
      }

  value_attribute : (a : Characters) (ts : List Token) (n : ℕ) (b c d f : Input) (x : Expr) → Spans (sign (codes "=")) (at ts n) b → Spans (sign (codes "{")) b c → Valued form room c x d → Spans (sign (codes "}")) d f
      → Attribute_read form room (at (Token.Name a ∷ ts) n) (record { key = bytes a; value = x }) f
  value_attribute a ts n b c d f x p s v q = λ fs k t.
      let c1 = p.count in
      let c2 = s.count in
      let c3 = v.spans.count in
      let c4 = q.count in
      let g = v.flat in
      let h = t.flat in
      record {
        text = Set_value a v.text t.text;
        keeping = (v.keeping, t.keeping);
        flat = omega (arith, g, h);
        means = λ m r. ap₂ (λ x fs. record { key = bytes a; value = x } ∷ fs) (v.means m (omega (arith, r, c1, c2))) (t.means (m + arrows (tokens v.text)) (omega (arith, r, c1, c2, c3, c4)));
        spans = spans_then (name_framed a) (name_here a ts n) (spans_then (sign_framed (codes "=")) p (spans_then (sign_framed (codes "{") ▹ (framed v.text ▹ sign_framed (codes "}"))) (spans_then (sign_framed (codes "{")) s (spans_then (framed v.text) v.spans q)) t.spans));
      }

  set_at : (a : Characters) (ts : List Token) (n : ℕ) (us : List Token) → Spans (sign (codes "=")) (at ts n) (at us n) → Sound (Attribute_read form room (at (Token.Name a ∷ ts) n)) ((peek >>= set_by form room inner a) (at us n))
  set_at a ts n [] p = refused
  set_at a ts n (Token.Attribute quote text ∷ us) p = read (text_attribute a ts n quote text us p)
  set_at a ts n (Token.Punct s ∷ us) p = sound_then (expect_sound (Sign (codes "{")) (at (Token.Punct s ∷ us) n) refl) (λ _ c o. sound_then (nested_sound c) (λ x d v. sound_then (expect_sound (Sign (codes "}")) d refl) (λ _ f q.
      read (value_attribute a ts n (at (Token.Punct s ∷ us) n) c d f x p o v q))))
  set_at a ts n (u ∷ us) p = refused

  attribute_at : (ts : List Token) (n : ℕ) → Sound (Maybe_read (Attribute_read form room) (at ts n)) (attribute form room inner (at ts n))
  unfolding attribute
  attribute_at [] n = read refl
  attribute_at (Token.Name a ∷ ts) n = by_sees (Sign (codes "=")) (at ts n) refl
      (λ s q p. rw (s, q) (sound_then (set_at a ts n (advance (at ts n)).tokens p) (λ f j r. read r)))
      (λ s q. rw (s, q) (read (plain_attribute a ts n)))
  attribute_at (t ∷ ts) n = read refl

  attributes_of : {i j : Input} {fs : List Tree_field} → Many (Attribute_read form room) i fs j → Attributes_read form room i fs j
  attributes_of no_more = record { text = No_attribute; keeping = tt; flat = omega arith; means = λ n q. refl; spans = record { spelt = refl; count = omega arith } }
  attributes_of (one_more v r) = v _ _ (attributes_of r)

  -- ---- children

  module _ (tagged_inside : (i : Input) → Sound (Element_read form room (codes "<") i) (element form room inner Tagged i)) (untagged_inside : (i : Input) → Sound (Element_read form room (codes "<>") i) (element form room inner Untagged i)) where
    pub start_sound : (a : Characters) (ts : List Token) (n : ℕ) → Sound (Element_read form room a (at ts n)) (start_by form room inner a (at (Token.Begin a ∷ ts) n))
    start_sound a ts n =
        by_bool (same a (codes "<")) (λ h. rw h (subst (λ a. Sound (Element_read form room a (at ts n)) (element form room inner Tagged (at ts n))) (sym (same_is a (codes "<") h)) (tagged_inside (at ts n)))) (λ h1.
        by_bool (same a (codes "<>")) (λ h. rw (h1, h) (subst (λ a. Sound (Element_read form room a (at ts n)) (element form room inner Untagged (at ts n))) (sym (same_is a (codes "<>") h)) (untagged_inside (at ts n)))) (λ h2.
        rw (h1, h2) refused))

    text_child : (text : Characters) (ts : List Token) (n : ℕ) → Child_read form room (at (Token.JsxText text ∷ ts) n) (child_text (jsx_text text)) (at ts n)
    text_child text ts n = λ xs k t.
        let here : Spans (one (Token.JsxText text)) (at (Token.JsxText text ∷ ts) n) (at ts n) = record { spelt = refl; count = omega arith } in
        record {
          text = Text_child text t.text;
          keeping = t.keeping;
          flat = t.flat;
          means = λ m q. ap (λ xs. before_children (jsx_text text) xs) (t.means m q) ∙ child_text_is (jsx_text text) xs;
          spans = spans_then (one_framed (Token.JsxText text)) here t.spans;
        }

    empty_child : (i b c : Input) → Spans (sign (codes "{")) i b → Spans (sign (codes "}")) b c → 1 ≤ room → Child_read form room i None c
    empty_child i b c s p g = λ xs k t.
        let c1 = s.count in
        let c2 = p.count in
        let f = t.flat in
        record {
          text = Empty_child t.text;
          keeping = t.keeping;
          flat = omega (arith, f, g);
          means = λ m q. t.means m (omega (arith, q, c1, c2));
          spans = spans_then (sign_framed (codes "{") ▹ sign_framed (codes "}")) (spans_then (sign_framed (codes "{")) s p) t.spans;
        }

    value_child : (i b c d : Input) (x : Expr) → Spans (sign (codes "{")) i b → Valued form room b x c → Spans (sign (codes "}")) c d → Child_read form room i (Some x) d
    value_child i b c d x s v p = λ xs k t.
        let c1 = s.count in
        let c2 = v.spans.count in
        let c3 = p.count in
        let f = v.flat in
        let g = t.flat in
        record {
          text = Value_child v.text t.text;
          keeping = (v.keeping, t.keeping);
          flat = omega (arith, f, g);
          means = λ m q. ap₂ (λ x xs. x ∷ xs) (v.means m (omega (arith, q, c1))) (t.means (m + arrows (tokens v.text)) (omega (arith, q, c1, c2, c3)));
          spans = spans_then (sign_framed (codes "{") ▹ (framed v.text ▹ sign_framed (codes "}"))) (spans_then (sign_framed (codes "{")) s (spans_then (framed v.text) v.spans p)) t.spans;
        }

    element_child : (a : Characters) (ts : List Token) (n : ℕ) (x : Expr) (d : Input) → Element_read form room a (at ts n) x d → Child_read form room (at (Token.Begin a ∷ ts) n) (Some x) d
    element_child a ts n x d v = λ xs k t.
        let c1 = v.spans.count in
        let f = v.flat in
        let g = t.flat in
        record {
          text = Element_child v.text t.text;
          keeping = (v.keeping, t.keeping);
          flat = omega (arith, f, g);
          means = λ m q. ap₂ (λ x xs. x ∷ xs) (v.means m q) (t.means (m + arrows (element_tokens v.text)) (omega (arith, q, c1)));
          spans = spans_then (element_framed v.text) v.spans t.spans;
        }

    -- behind a child's `{`
    entered : (i : Input) → Sound (λ b j. (i ≡ j) × (sees (Sign (codes "}")) i ≡ b) × (1 ≤ room)) ((enter room >> look (Sign (codes "}"))) i)
    entered i = sound_then (enter_sound room i) (λ _ j e. read (e.0, ap (λ j. sees (Sign (codes "}")) j) e.0, e.1))

    braced_sound : (i b : Input) → Spans (sign (codes "{")) i b → 1 ≤ room → (ended : Bool) → sees (Sign (codes "}")) b ≡ ended → Sound (Maybe_child form room i) (braced_by form room inner ended b)
    braced_sound i b s g true h = by_sees (Sign (codes "}")) b refl (λ _ q p. read (empty_child i b (advance b) s p g)) (λ k q. absurd (true≢false (sym h ∙ k)))
    braced_sound i b s g false h = sound_then (nested_sound b) (λ x c v. sound_then (expect_sound (Sign (codes "}")) c refl) (λ _ d p. read (value_child i b c d x s v p)))

    child_at : (ts : List Token) (n : ℕ) → Sound (Maybe_child form room (at ts n)) (child form room inner (at ts n))
    unfolding child
    child_at [] n = read refl
    child_at (Token.JsxText text ∷ ts) n = read (text_child text ts n)
    child_at (Token.Punct a ∷ ts) n = by_bool (same a (codes "{"))
        (λ h. let s : Spans (sign (codes "{")) (at (Token.Punct a ∷ ts) n) (at ts n) = record { spelt = ap (λ c. Token.Punct c ∷ ts) (sym (same_is a (codes "{") h)); count = omega arith } in
        rw h (sound_then (entered (at ts n)) (λ b j r. subst (λ j. Sound (Maybe_child form room (at (Token.Punct a ∷ ts) n)) (braced_by form room inner b j)) r.0 (braced_sound (at (Token.Punct a ∷ ts) n) (at ts n) s r.2 b r.1))))
        (λ h. rw h (read refl))
    child_at (Token.Begin a ∷ ts) n = sound_then (start_sound a ts n) (λ x d v. read (element_child a ts n x d v))
    child_at (t ∷ ts) n = read refl

    no_children : (so_far : List Expr) (i j : Input) → i ≡ j → Children_run form room so_far i so_far j
    no_children so_far i j q = subst (λ j. Children_run form room so_far i so_far j) q
        (record { others = []; parts = append-nil so_far; run = record { text = No_child; keeping = tt; flat = omega arith; means = λ n q. refl; spans = record { spelt = refl; count = omega arith } } })

    next_child : (so_far : List Expr) (i a j : Input) (x : Expr) (ys : List Expr) → Child_read form room i (Some x) a → Children_run form room (so_far ++ x ∷ []) a ys j → Children_run form room so_far i ys j
    next_child so_far i a j x ys c t = record { others = x ∷ t.others; parts = sym (append_assoc so_far (x ∷ []) t.others) ∙ t.parts; run = c t.others j t.run }

    children_from_sound : (n : ℕ) (so_far : List Expr) (i : Input) → Sound (Children_run form room so_far i) (sparse_from (child form room inner) n so_far i)
    unfolding sparse_from
    children_from_sound zero so_far i = read (no_children so_far i i refl)
    children_from_sound (suc n) so_far i = sound_then (child_at i.tokens i.arrows) (λ o a r.
        elim o as (λ o. Maybe_child form room i o a → Sound (Children_run form room so_far i) (maybe o (pure so_far)
        (λ x. maybe x (sparse_from (child form room inner) n so_far) (λ y. sparse_from (child form room inner) n (so_far ++ y ∷ []))) a)) [
          | None ↦ λ q. read (no_children so_far i a q)
          | Some x ↦ elim x as (λ x. Child_read form room i x a → Sound (Children_run form room so_far i) (maybe x (sparse_from (child form room inner) n so_far) (λ y. sparse_from (child form room inner) n (so_far ++ y ∷ [])) a)) [
            | None ↦ λ c. implied (children_from_sound n so_far a) (λ ys j t. record { others = t.others; parts = t.parts; run = c t.others j t.run })
            | Some y ↦ λ c. implied (children_from_sound n (so_far ++ y ∷ []) a) (λ ys j t. next_child so_far i a j y ys c t)
          ]
        ] r)

    children_sound : (i : Input) → Sound (Children_read form room i) (children form room inner i)
    unfolding children sparse
    children_sound i = implied (children_from_sound (length i.tokens) [] i) (λ ys j t. subst (λ ys. Children_read form room i ys j) t.parts t.run)

    -- ---- elements

    begin_here : (s : Characters) (i : Input) → Spans (begin s) (at (Token.Begin s ∷ i.tokens) i.arrows) i
    begin_here s i = record { spelt = refl; count = omega arith }

    closed_read : (i a b c : Input) (tag : Characters) (fs : List Tree_field) → is_tag_name tag ≡ true → Spans (name_of tag) i a → Attributes_read form room a fs b → Spans (sign (codes "/>")) b c
        → Element_read form (suc room) (codes "<") i (e.Jsx (roll-Jsx (record { tag = tag_tree tag; attrs = fs; children = [] }))) c
    closed_read i a b c tag fs h s v p =
        let c1 = s.count in
        let f = v.flat in
        record {
          text = Closed tag v.text;
          keeping = (h, v.keeping);
          flat = omega (arith, f);
          means = λ n q. ap (λ fs. e.Jsx (roll-Jsx (record { tag = tag_tree tag; attrs = fs; children = [] }))) (v.means n (omega (arith, q, c1)));
          spans = spans_then (begin_framed (codes "<")) (begin_here (codes "<") i) (spans_then (name_framed tag) s (spans_then (attributes_framed v.text) v.spans p));
        }

    open_read : (i a b c d f g k : Input) (tag end : Characters) (fs : List Tree_field) (xs : List Expr) → is_tag_name tag ≡ true → same tag end ≡ true → Spans (name_of tag) i a → Attributes_read form room a fs b
        → Spans (sign (codes ">")) b c → Children_read form room c xs d → Spans (sign (codes "</")) d f → Spans (name_of end) f g → Spans (sign (codes ">")) g k
        → Element_read form (suc room) (codes "<") i (e.Jsx (roll-Jsx (record { tag = tag_tree tag; attrs = fs; children = xs }))) k
    open_read i a b c d f g k tag end fs xs h h2 s v p w q r o =
        let c1 = s.count in
        let c2 = v.spans.count in
        let c3 = p.count in
        let f1 = v.flat in
        let f2 = w.flat in
        record {
          text = Open tag v.text w.text end;
          keeping = (h, h2, v.keeping, w.keeping);
          flat = omega (arith, f1, f2);
          means = λ n q. ap₂ (λ fs xs. e.Jsx (roll-Jsx (record { tag = tag_tree tag; attrs = fs; children = xs }))) (v.means n (omega (arith, q, c1))) (w.means (n + arrows (attributes_tokens v.text)) (omega (arith, q, c1, c2, c3)));
          spans = spans_then (begin_framed (codes "<")) (begin_here (codes "<") i) (spans_then (name_framed tag) s (spans_then (attributes_framed v.text) v.spans (spans_then (sign_framed (codes ">")) p
              (spans_then (children_framed w.text) w.spans (spans_then (sign_framed (codes "</")) q (spans_then (name_framed end) r o))))));
        }

    attributes_sound : (i : Input) → Sound (Attributes_read form room i) (many (attribute form room inner) i)
    attributes_sound i = implied (many_sound (Attribute_read form room) (attribute form room inner) (λ k. attribute_at k.tokens k.arrows) i) (λ fs j t. subst (λ fs. Attributes_read form room i fs j) t.parts (attributes_of t.run))

    -- behind `<`
    pub tagged_sound : (i : Input) → Sound (Element_read form (suc room) (codes "<") i) (tagged form room inner i)
    unfolding tagged
    tagged_sound i = sound_then (name_sound is_tag_name i) (λ tag a s. sound_then (attributes_sound a) (λ fs b v. by_sees (Sign (codes "/>")) b refl
        (λ z q p. rw (z, q) (read (closed_read i a b (advance b) tag fs s.1 s.0 v p)))
        (λ z q. rw (z, q) (sound_then (expect_sound (Sign (codes ">")) b refl) (λ _ c p. sound_then (children_sound c) (λ xs d w. sound_then (expect_sound (Sign (codes "</")) d refl) (λ _ f o.
        sound_then (name_sound (same tag) f) (λ end g r. sound_then (expect_sound (Sign (codes ">")) g refl) (λ _ k u. read (open_read i a b c d f g k tag end fs xs s.1 r.1 s.0 v p w o r.0 u))))))))))

    -- behind `<>`
    pub untagged_sound : (i : Input) → Sound (Element_read form (suc room) (codes "<>") i) (untagged form room inner i)
    unfolding untagged
    untagged_sound i = sound_then (children_sound i) (λ xs a v. sound_then (expect_sound (Sign (codes "</>")) a refl) (λ _ b p.
        let f = v.flat in
        read (record {
          text = Fragment v.text;
          keeping = v.keeping;
          flat = omega (arith, f);
          means = λ n q. ap (λ xs. e.Jsx (roll-Jsx (record { tag = t.Fragment; attrs = []; children = xs }))) (v.means n q);
          spans = spans_then (begin_framed (codes "<>")) (begin_here (codes "<>") i) (spans_then (children_framed v.text) v.spans p);
        })))
