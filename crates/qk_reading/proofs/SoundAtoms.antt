-- What is read is written by the rules: templates and atoms.
use Rattle.std.proofs.Common.{◌≡◌, refl, sym, ◌∙◌, ap, ap₂, arith, append_assoc}
use Rattle.std.specs.Prelude.{ℕ, zero, suc, ◌+◌, ◌≤◌, ◌<◌, max, Bool, true, false, if◌then◌else◌, List, [], ◌∷◌, ◌++◌, length, codes}
use Rattle.qk_ast.specs.declared.Form.{Form}
use Rattle.qk_ast.specs.declared.Expr.{Expr}
use Rattle.qk_ast.specs.declared.Expr.TheVariants as e
use Rattle.qk_ast.specs.Characters.{Characters, same}
use Rattle.qk_ast.specs.Tokens.{Token, Edge, Piece}
use Rattle.qk_ast.specs.Grammar.{Expression, Undefined, Null, Truth, Number, Quoted, Named, Whole, Holed, Bracketed, Listed, Recorded, Markup, Holes, Last_part, Part_hole}
use Rattle.qk_ast.specs.Spelling.{◌⨾◌, one, tokens, holes_tokens}
use Rattle.qk_ast.specs.Depth.{inside, depth, holes_depth}
use Rattle.qk_ast.specs.Tree.{arrows, value, tree, holes_tree, parts_tree}
use Rattle.qk_ast.specs.Rules.{keeps, holes_keep}
use Rattle.qk_reading.specs.Input.{Input, at, Nested, Read, pure}
use Rattle.qk_reading.specs.Parts.{part, atomic}
use Rattle.qk_reading.specs.Forms.{nested, holes_from, holes, atom, bracket_by, start_by}
use Rattle.qk_reading.proofs.Framed.{one_framed, framed, arguments_framed, fields_framed, sign_framed}
use Rattle.qk_reading.proofs.Follow.{by_bool}
use Rattle.qk_reading.proofs.Sound.{sign_here, word_here, Sound, read, refused, sound_then, implied, Spans, spans_then, Reading, Valued, max_le, args_sound, bracketed_sound}
use Rattle.qk_reading.proofs.SoundLists.{fields_sound}
use Rattle.qk_reading.proofs.SoundElements.{Element_read}

module _ (form : Form) (room : ℕ) (inner : Nested) (nested_sound : (i : Input) → Sound (Valued form room i) (nested form room inner i)) where
  -- ---- templates

  -- a part after a hole, and whether another hole follows it
  abbrev Part_read : Input → List ℕ × Bool → Input → Type 0
  Part_read i r j = (ps : List Piece) × (value ps ≡ r.0) × Spans (one (Token.Template Edge.Hole ps (if r.1 then Edge.Hole else Edge.Backquote))) i j

  part_at : (ts : List Token) (n : ℕ) → Sound (Part_read (at ts n)) (part (at ts n))
  unfolding part
  part_at [] n = refused
  part_at (Token.Template Edge.Hole ps Edge.Hole ∷ ts) n = let sp : Spans (one (Token.Template Edge.Hole ps Edge.Hole)) (at (Token.Template Edge.Hole ps Edge.Hole ∷ ts) n) (at ts n) = record { spelt = refl; count = omega arith } in read {j = at ts n} (ps, refl, sp)
  part_at (Token.Template Edge.Hole ps Edge.Backquote ∷ ts) n = let sp : Spans (one (Token.Template Edge.Hole ps Edge.Backquote)) (at (Token.Template Edge.Hole ps Edge.Backquote ∷ ts) n) (at ts n) = record { spelt = refl; count = omega arith } in read {j = at ts n} (ps, refl, sp)
  part_at (t ∷ ts) n = refused

  pub record Holes_run (parts : List (List ℕ)) (values : List Expr) (i : Input) (r : List (List ℕ) × List Expr) (j : Input) : Type 0 where
    pub text : Expression
    pub others : Holes
    pub keeping : keeps form text × holes_keep form others
    pub flat : (inside (depth text) ≤ room) × (holes_depth others ≤ room)
    pub parted : parts ++ parts_tree others ≡ r.0
    pub means : (n : ℕ) → n ≡ i.arrows → values ++ tree n text ∷ holes_tree (n + arrows (tokens text)) others ≡ r.1
    pub spans : Spans (tokens text ⨾ holes_tokens others) i j

  holes_last : (parts : List (List ℕ)) (values : List Expr) (i a j : Input) (x : Expr) (ps : List Piece) (v : List ℕ) → value ps ≡ v → Valued form room i x a → Spans (one (Token.Template Edge.Hole ps Edge.Backquote)) a j
      → Holes_run parts values i (parts ++ v ∷ [], values ++ x ∷ []) j
  holes_last parts values i a j x ps v q w s = record {
    text = w.text;
    others = Last_part ps;
    keeping = (w.keeping, tt);
    flat = (w.flat, omega arith);
    parted = ap (λ v. parts ++ v ∷ []) q;
    means = λ n q. ap (λ x. values ++ x ∷ []) (w.means n q);
    spans = spans_then (framed w.text) w.spans s;
  }

  holes_more : (parts : List (List ℕ)) (values : List Expr) (i a b j : Input) (x : Expr) (ps : List Piece) (v : List ℕ) (r : List (List ℕ) × List Expr) → value ps ≡ v → Valued form room i x a
      → Spans (one (Token.Template Edge.Hole ps Edge.Hole)) a b → Holes_run (parts ++ v ∷ []) (values ++ x ∷ []) b r j → Holes_run parts values i r j
  holes_more parts values i a b j x ps v r q w s t =
      let c1 = w.spans.count in
      let c2 = s.count in
      record {
        text = w.text;
        others = Part_hole ps t.text t.others;
        keeping = (w.keeping, (t.keeping.0, t.keeping.1));
        flat = (w.flat, max_le (inside (depth t.text)) (holes_depth t.others) room t.flat.0 t.flat.1);
        parted = ap (λ v. parts ++ v ∷ parts_tree t.others) q ∙ sym (append_assoc parts (v ∷ []) (parts_tree t.others)) ∙ t.parted;
        means = λ n q.
            let here : n + arrows (tokens w.text) ≡ b.arrows = omega (arith, q, c1, c2) in
            ap (λ x. values ++ x ∷ tree (n + arrows (tokens w.text)) t.text ∷ holes_tree (n + arrows (tokens w.text) + arrows (tokens t.text)) t.others) (w.means n q)
            ∙ sym (append_assoc values (x ∷ []) (tree (n + arrows (tokens w.text)) t.text ∷ holes_tree (n + arrows (tokens w.text) + arrows (tokens t.text)) t.others)) ∙ t.means (n + arrows (tokens w.text)) here;
        spans = spans_then (framed w.text) w.spans (spans_then (one_framed (Token.Template Edge.Hole ps Edge.Hole)) s t.spans);
      }

  holes_from_sound : (n : ℕ) (parts : List (List ℕ)) (values : List Expr) (i : Input) → Sound (Holes_run parts values i) (holes_from form room inner n parts values i)
  unfolding holes_from
  holes_from_sound zero parts values i = refused
  holes_from_sound (suc n) parts values i = sound_then (nested_sound i) (λ x a w. sound_then (part_at a.tokens a.arrows) (λ r b h.
      elim r.1 as (λ more. Spans (one (Token.Template Edge.Hole (h.0) (if more then Edge.Hole else Edge.Backquote))) a b
      → Sound (Holes_run parts values i) ((if more then holes_from form room inner n (parts ++ r.0 ∷ []) (values ++ x ∷ []) else pure (parts ++ r.0 ∷ [], values ++ x ∷ [])) b)) [
        | true ↦ λ s. implied (holes_from_sound n (parts ++ r.0 ∷ []) (values ++ x ∷ []) b) (λ q j t. holes_more parts values i a b j x (h.0) (r.0) q h.1 w s t)
        | false ↦ λ s. read (holes_last parts values i a b x (h.0) (r.0) h.1 w s)
      ] h.2))

  -- ---- atoms

  module _ (start_sound : (a : Characters) (ts : List Token) (n : ℕ) → Sound (Element_read form room a (at ts n)) (start_by form room inner a (at (Token.Begin a ∷ ts) n))) where
    abbrev Atom_read : Input → Read → Input → Type 0
    Atom_read i x j = Reading form (suc room) 9 i x j

    word_read : (a : Characters) (ts : List Token) (n : ℕ) → Sound (Atom_read (at (Token.Reserved a ∷ ts) n)) (atom form room inner (at (Token.Reserved a ∷ ts) n))
    unfolding atom
    word_read a ts n =
        by_bool (same a (codes "undefined")) (λ h. let sp = word_here (codes "undefined") a ts n h in rw h (read {j = at ts n} (record { text = Undefined; keeping = tt; binding = refl; flat = omega arith; means = λ k q. refl; kinds = refl; spans = sp }))) (λ h1.
        by_bool (same a (codes "null")) (λ h. let sp = word_here (codes "null") a ts n h in rw (h1, h) (read {j = at ts n} (record { text = Null; keeping = tt; binding = refl; flat = omega arith; means = λ k q. refl; kinds = refl; spans = sp }))) (λ h2.
        by_bool (same a (codes "true")) (λ h. let sp = word_here (codes "true") a ts n h in rw (h1, h2, h) (read {j = at ts n} (record { text = Truth true; keeping = tt; binding = refl; flat = omega arith; means = λ k q. refl; kinds = refl; spans = sp }))) (λ h3.
        by_bool (same a (codes "false")) (λ h. let sp = word_here (codes "false") a ts n h in rw (h1, h2, h3, h) (read {j = at ts n} (record { text = Truth false; keeping = tt; binding = refl; flat = omega arith; means = λ k q. refl; kinds = refl; spans = sp }))) (λ h4.
        rw (h1, h2, h3, h4) refused))))

    holes_read : (ps : List Piece) (ts : List Token) (n : ℕ) → Sound (λ x j. Atom_read (at (Token.Template Edge.Backquote ps Edge.Hole ∷ ts) n) (atomic x) j) (holes form room inner (value ps) (at ts n))
    unfolding holes
    holes_read ps ts n = sound_then (holes_from_sound (suc (length ts)) (value ps ∷ []) [] (at ts n)) (λ r j t.
        let sp : Spans (one (Token.Template Edge.Backquote ps Edge.Hole)) (at (Token.Template Edge.Backquote ps Edge.Hole ∷ ts) n) (at ts n) = record { spelt = refl; count = omega arith } in
        let f = t.flat.0 in
        let g = t.flat.1 in
        read (record {
          text = Holed ps t.text t.others;
          keeping = t.keeping;
          binding = refl;
          flat = deep_enough (inside (depth t.text)) (holes_depth t.others) f g;
          means = λ k q. ap₂ (λ xs ys. e.Template xs ys) t.parted (t.means k q);
          kinds = refl;
          spans = spans_then (one_framed (Token.Template Edge.Backquote ps Edge.Hole)) sp t.spans;
        }))
      where
        deep_enough : (a b : ℕ) → a ≤ room → b ≤ room → max a b < suc room
        deep_enough a b f g = let h = max_le a b room f g in omega (arith, h)

    bracket_read : (a : Characters) (ts : List Token) (n : ℕ) → Sound (λ x j. Atom_read (at (Token.Punct a ∷ ts) n) (atomic x) j) (bracket_by form room inner a (at (Token.Punct a ∷ ts) n))
    bracket_read a ts n =
        by_bool (same a (codes "(")) (λ h. let sp = sign_here (codes "(") a ts n h refl in rw h (implied (bracketed_sound form room inner nested_sound (at ts n)) (λ x j r.
        let v = r.1 in
        let f = v.flat in
        record { text = Bracketed v.text; keeping = v.keeping; binding = refl; flat = omega (arith, f); means = v.means; kinds = refl; spans = spans_then (sign_framed (codes "(")) sp (spans_then (framed v.text) v.spans r.2) }))) (λ h1.
        by_bool (same a (codes "[")) (λ h. let sp = sign_here (codes "[") a ts n h refl in rw (h1, h) (sound_then (args_sound form room inner nested_sound (codes "]") (at ts n) refl) (λ xs j r.
        let v = r.1 in
        let f = v.flat in
        let g = r.3 in
        read (record {
          text = Listed v.text;
          keeping = v.keeping;
          binding = refl;
          flat = omega (arith, f, g);
          means = λ k q. ap e.List (v.means k q);
          kinds = refl;
          spans = spans_then (sign_framed (codes "[")) sp (spans_then (arguments_framed v.text) v.spans r.2);
        })))) (λ h2.
        by_bool (same a (codes "{")) (λ h. let sp = sign_here (codes "{") a ts n h refl in rw (h1, h2, h) (sound_then (fields_sound form room inner nested_sound (at ts n)) (λ xs j r.
        let v = r.1 in
        let f = v.flat in
        read (record {
          text = Recorded v.text;
          keeping = v.keeping;
          binding = refl;
          flat = omega (arith, f);
          means = λ k q. ap e.Record (v.means k q);
          kinds = refl;
          spans = spans_then (sign_framed (codes "{")) sp (spans_then (fields_framed v.text) v.spans r.2);
        })))) (λ h3. rw (h1, h2, h3) refused)))

    atom_at : (ts : List Token) (n : ℕ) → Sound (Atom_read (at ts n)) (atom form room inner (at ts n))
    unfolding atom
    atom_at [] n = refused
    atom_at (Token.Name a ∷ ts) n = read {j = at ts n} (record { text = Named a; keeping = tt; binding = refl; flat = omega arith; means = λ k q. refl; kinds = refl; spans = record { spelt = refl; count = omega arith } })
    atom_at (Token.Reserved a ∷ ts) n = word_read a ts n
    atom_at (Token.Int a ∷ ts) n = read {j = at ts n} (record { text = Number a; keeping = tt; binding = refl; flat = omega arith; means = λ k q. refl; kinds = refl; spans = record { spelt = refl; count = omega arith } })
    atom_at (Token.Text q ps ∷ ts) n = read {j = at ts n} (record { text = Quoted q ps; keeping = tt; binding = refl; flat = omega arith; means = λ k q. refl; kinds = refl; spans = record { spelt = refl; count = omega arith } })
    atom_at (Token.Template Edge.Backquote ps Edge.Backquote ∷ ts) n = read {j = at ts n} (record { text = Whole ps; keeping = tt; binding = refl; flat = omega arith; means = λ k q. refl; kinds = refl; spans = record { spelt = refl; count = omega arith } })
    atom_at (Token.Template Edge.Backquote ps Edge.Hole ∷ ts) n = sound_then (holes_read ps ts n) (λ x j r. read r)
    atom_at (Token.Punct a ∷ ts) n = sound_then (bracket_read a ts n) (λ x j r. read r)
    atom_at (Token.Begin a ∷ ts) n = sound_then (start_sound a ts n) (λ x j r.
        let f = r.flat in
        read (record { text = Markup r.text; keeping = r.keeping; binding = refl; flat = omega (arith, f); means = r.means; kinds = refl; spans = r.spans }))
    atom_at (t ∷ ts) n = refused

    pub atom_sound : (i : Input) → Sound (Atom_read i) (atom form room inner i)
    atom_sound i = atom_at i.tokens i.arrows
