-- What is read is written by the rules: links, and postfix forms that begin with no known call.
use Rattle.std.proofs.Common.{◌≡◌, refl, sym, ◌∙◌, ap, ap₂, subst, arith, append_assoc, append-nil}
use Rattle.std.specs.Prelude.{ℕ, zero, suc, ◌+◌, ◌≤◌, ◌<◌, max, true, false, ◌&&◌, if◌then◌else◌, List, [], ◌∷◌, ◌++◌, length, Option, Some, None, codes}
use Rattle.qk_ast.specs.declared.Form.{Form}
use Rattle.qk_ast.specs.declared.Expr.TheVariants as e
use Rattle.qk_ast.specs.declared.Known.{Known}
use Rattle.qk_ast.specs.declared.Known.TheVariants as known
use Rattle.qk_ast.specs.declared.Link.{Link as Tree_link}
use Rattle.qk_ast.specs.declared.Link.TheVariants as l
use Rattle.qk_ast.specs.Characters.{same}
use Rattle.qk_ast.specs.Tokens.{Token}
use Rattle.qk_ast.specs.Grammar.{Word, Free, Taken, Expression, Named, Postfix, Link, Dot, Index, Call, Links, No_link, Next_link}
use Rattle.qk_ast.specs.Spelling.{◌⨾◌, tokens, word_tokens, link_tokens, links_tokens}
use Rattle.qk_ast.specs.Depth.{depth, link_depth, links_depth}
use Rattle.qk_ast.specs.Tree.{arrows, word_text, link_tree, links_tree}
use Rattle.qk_ast.specs.Rules.{link_keeps, links_keep, reads_as_known}
use Rattle.qk_reading.specs.Input.{Input, at, ◌>>=◌, Nested, Read, Head, Kind, pure, peek, maybe, Sign}
use Rattle.qk_reading.specs.Ahead.{known_ahead}
use Rattle.qk_reading.specs.Parts.{dot_by, linked, plain_head}
use Rattle.qk_reading.specs.Forms.{nested, link, links_from, links, head, postfix}
use Rattle.qk_reading.proofs.Framed.{framed, link_framed, arguments_framed, sign_framed}
use Rattle.qk_reading.proofs.Follow.{by_bool, clash}
use Rattle.qk_reading.proofs.Counted.{counted, link_kind, last_kind}
use Rattle.qk_reading.proofs.Atoms.{binds_le, le_binds}
use Rattle.qk_reading.proofs.Sound.{sign_here, Sound, read, refused, sound_then, implied, Spans, spans_then, expect_sound, Reading, Valued, max_le, args_sound}

-- no known call begins there, so what is written there is none
not_known : (x : Expression) (y : Link) (more : Links) (ts : List Token) → known_ahead (tokens x (link_tokens y (links_tokens more ts))) ≡ None → reads_as_known x y more ≡ false
unfolding known_ahead
not_known (Named a) (Dot (Free w)) (Next_link (Call arguments) more) ts h =
    by_bool (same a (codes "console") && same w (codes "log")) (λ s. clash {b = false} (some_none (ap (λ b. if b then Some known.Log else (if same a (codes "Object") && same w (codes "keys") then Some known.Keys
    else (if same a (codes "Math") && same w (codes "trunc") then Some known.Trunc else None))) (sym s) ∙ h)) refl) (λ s.
    by_bool (same a (codes "Object") && same w (codes "keys")) (λ t. clash {b = false} (some_none (ap (λ b. if b then Some known.Keys else (if same a (codes "Math") && same w (codes "trunc") then Some known.Trunc else None)) (sym t)
    ∙ ap (λ b. if b then Some known.Log else (if same a (codes "Object") && same w (codes "keys") then Some known.Keys else (if same a (codes "Math") && same w (codes "trunc") then Some known.Trunc else None))) (sym s) ∙ h)) refl) (λ t.
    rw (s, t) refl))
  where
    some_none : {k : Known} → Some k ≡ None → false ≡ true
    some_none e = sym (ap (λ o. maybe o false (λ _. true)) e)
not_known (Named a) (Call arguments) more ts h = by_bool (same a (codes "String")) (λ s. clash {b = false} (some_none (ap (λ b. if b then Some known.Str else None) (sym s) ∙ h)) refl) (λ s. rw s refl)
  where
    some_none : {k : Known} → Some k ≡ None → false ≡ true
    some_none e = sym (ap (λ o. maybe o false (λ _. true)) e)
not_known x y more ts h = refl

pub record Link_read (form : Form) (room : ℕ) (i : Input) (x : Tree_link) (k : Kind) (j : Input) : Type 0 where
  pub text : Link
  pub keeping : link_keeps form text
  pub flat : link_depth text ≤ room
  pub means : (n : ℕ) → n ≡ i.arrows → link_tree n text ≡ x
  pub kinds : link_kind text ≡ k
  pub spans : Spans (link_tokens text) i j

pub record Links_run (form : Form) (room : ℕ) (k : Kind) (so_far : List Tree_link) (i : Input) (r : List Tree_link × Kind) (j : Input) : Type 0 where
  pub text : Links
  pub keeping : links_keep form text
  pub flat : links_depth text ≤ room
  pub means : (n : ℕ) → n ≡ i.arrows → so_far ++ links_tree n text ≡ r.0
  pub kinds : last_kind k text ≡ r.1
  pub spans : Spans (links_tokens text) i j

module _ (form : Form) (room : ℕ) (inner : Nested) (nested_sound : (i : Input) → Sound (Valued form room i) (nested form room inner i)) where
  abbrev Maybe_link : Input → Option (Tree_link × Kind) → Input → Type 0
  Maybe_link i None j = i ≡ j
  Maybe_link i (Some x) j = Link_read form room i (x.0) (x.1) j

  abbrev Word_read : Input → List ℕ → Input → Type 0
  Word_read i x j = (w : Word) × (word_text w ≡ x) × Spans (word_tokens w) i j

  word_at : (ts : List Token) (n : ℕ) → Sound (Word_read (at ts n)) ((peek >>= dot_by) (at ts n))
  word_at [] n = refused
  word_at (Token.Name a ∷ ts) n = let sp : Spans (word_tokens (Free a)) (at (Token.Name a ∷ ts) n) (at ts n) = record { spelt = refl; count = omega arith } in read {j = at ts n} (Free a, refl, sp)
  word_at (Token.Reserved a ∷ ts) n = let sp : Spans (word_tokens (Taken a)) (at (Token.Reserved a ∷ ts) n) (at ts n) = record { spelt = refl; count = omega arith } in read {j = at ts n} (Taken a, refl, sp)
  word_at (t ∷ ts) n = refused

  link_at : (ts : List Token) (n : ℕ) → Sound (Maybe_link (at ts n)) (link form room inner (at ts n))
  unfolding link
  link_at [] n = read refl
  link_at (Token.Punct a ∷ ts) n =
      by_bool (same a (codes ".")) (λ h. let sp = sign_here (codes ".") a ts n h refl in rw h (sound_then (word_at ts n) (λ w j r.
      read (record { text = Dot (r.0); keeping = tt; flat = omega arith; means = λ k q. ap l.Prop r.1; kinds = refl; spans = spans_then (sign_framed (codes ".")) sp r.2 })))) (λ h1.
      by_bool (same a (codes "[")) (λ h. let sp = sign_here (codes "[") a ts n h refl in rw (h1, h) (sound_then (nested_sound (at ts n)) (λ x j v. sound_then (expect_sound (Sign (codes "]")) j refl) (λ _ k s.
      read (record { text = Index v.text; keeping = v.keeping; flat = v.flat; means = λ k q. ap l.Index (v.means k q); kinds = refl; spans = spans_then (sign_framed (codes "[")) sp (spans_then (framed v.text) v.spans s) }))))) (λ h2.
      by_bool (same a (codes "(")) (λ h. let sp = sign_here (codes "(") a ts n h refl in rw (h1, h2, h) (sound_then (args_sound form room inner nested_sound (codes ")") (at ts n) refl) (λ xs j r.
      let v = r.1 in
      let f = v.flat in
      let g = r.3 in
      read (record { text = Call v.text; keeping = v.keeping; flat = omega (arith, f, g); means = λ k q. ap l.Call (v.means k q); kinds = refl; spans = spans_then (sign_framed (codes "(")) sp (spans_then (arguments_framed v.text) v.spans r.2) }))))
      (λ h3. rw (h1, h2, h3) (read refl))))
  link_at (t ∷ ts) n = read refl

  no_links : (k : Kind) (so_far : List Tree_link) (i j : Input) → i ≡ j → Links_run form room k so_far i (so_far, k) j
  no_links k so_far i j q = subst (λ j. Links_run form room k so_far i (so_far, k) j) q
      (record { text = No_link; keeping = tt; flat = omega arith; means = λ n q. append-nil so_far; kinds = refl; spans = record { spelt = refl; count = omega arith } })

  next_links : (k : Kind) (so_far : List Tree_link) (i a j : Input) (x : Tree_link) (k2 : Kind) (r : List Tree_link × Kind) → Link_read form room i x k2 a → Links_run form room k2 (so_far ++ x ∷ []) a r j → Links_run form room k so_far i r j
  next_links k so_far i a j x k2 r v t =
      let c = v.spans.count in
      record {
        text = Next_link v.text t.text;
        keeping = (v.keeping, t.keeping);
        flat = max_le (link_depth v.text) (links_depth t.text) room v.flat t.flat;
        means = λ n q.
            let here : n + arrows (link_tokens v.text) ≡ a.arrows = omega (arith, q, c) in
            ap (λ x. so_far ++ x ∷ links_tree (n + arrows (link_tokens v.text)) t.text) (v.means n q) ∙ sym (append_assoc so_far (x ∷ []) (links_tree (n + arrows (link_tokens v.text)) t.text)) ∙ t.means (n + arrows (link_tokens v.text)) here;
        kinds = ap (λ k. last_kind k t.text) v.kinds ∙ t.kinds;
        spans = spans_then (link_framed v.text) v.spans t.spans;
      }

  links_from_sound : (n : ℕ) (k : Kind) (so_far : List Tree_link) (i : Input) → Sound (Links_run form room k so_far i) (links_from form room inner n k so_far i)
  unfolding links_from
  links_from_sound zero k so_far i = read (no_links k so_far i i refl)
  links_from_sound (suc n) k so_far i = sound_then (link_at i.tokens i.arrows) (λ o a r.
      elim o as (λ o. Maybe_link i o a → Sound (Links_run form room k so_far i) (maybe o (pure (so_far, k)) (λ (x : Tree_link × Kind). links_from form room inner n (x.1) (so_far ++ x.0 ∷ [])) a)) [
        | None ↦ λ q. read (no_links k so_far i a q)
        | Some x ↦ λ v. implied (links_from_sound n (x.1) (so_far ++ x.0 ∷ []) a) (λ q j t. next_links k so_far i a j (x.0) (x.1) q v t)
      ] r)

  -- a head of its own, and links after it that make no known call of it
  pub alone_or_linked : (i a j : Input) (x : Read) (r : List Tree_link × Kind) (v : Reading form (suc room) 9 i x a) → ((y : Link) (more : Links) → tokens v.text (link_tokens y (links_tokens more j.tokens)) ≡ i.tokens → reads_as_known v.text y more ≡ false)
      → Links_run form room x.kind [] a r j → Reading form (suc room) 8 i (linked (plain_head x) r) j
  alone_or_linked i a j x r v u t = subst (λ ls. Reading form (suc room) 8 i (linked (plain_head x) (ls, r.1)) j) (t.means (a.arrows) refl) (go (t.text) (t.keeping) (t.flat) (t.kinds) (t.spans))
    where
      go : (m : Links) → links_keep form m → links_depth m ≤ room → last_kind (x.kind) m ≡ r.1 → Spans (links_tokens m) a j → Reading form (suc room) 8 i (linked (plain_head x) (links_tree (a.arrows) m, r.1)) j
      go No_link ke d k sp =
          let c1 = v.spans.count in
          let c2 = sp.count in
          let b = binds_le 9 v.text v.binding in
          record {
            text = v.text;
            keeping = v.keeping;
            binding = le_binds 8 v.text (omega (arith, b));
            flat = v.flat;
            means = v.means;
            kinds = v.kinds ∙ k;
            spans = record { spelt = ap (tokens v.text) sp.spelt ∙ v.spans.spelt; count = omega (arith, c1, c2) };
          }
      go (Next_link y others) ke d k sp =
          let c1 = v.spans.count in
          let c2 = counted (framed v.text) (link_tokens y []) in
          let f = v.flat in
          record {
            text = Postfix v.text y others;
            keeping = (v.binding, u y others (ap (tokens v.text) sp.spelt ∙ v.spans.spelt), v.keeping, ke.0, ke.1);
            binding = refl;
            flat = deep_enough (depth v.text) (link_depth y) (links_depth others) f d;
            means = λ n q.
                let first : n + arrows (tokens v.text) ≡ a.arrows = omega (arith, q, c1) in
                let behind : n + arrows (tokens v.text ⨾ link_tokens y) ≡ a.arrows + arrows (link_tokens y) = omega (arith, q, c1, c2) in
                ap₂ (λ z zs. e.Post z zs) (v.means n q) (ap₂ (λ p q. link_tree p y ∷ links_tree q others) first behind);
            kinds = k;
            spans = spans_then (framed v.text) v.spans sp;
          }
        where
          deep_enough : (p q r : ℕ) → p < suc room → max q r ≤ room → max p (max q r) < suc room
          deep_enough p q r f d = omega (arith, f, d)

  -- a head: with whatever links that are read after it, it is a postfix form
  abbrev pub Head_read : Input → Head → Input → Type 0
  Head_read i h a = (r : List Tree_link × Kind) (j : Input) → Links_run form room h.kind h.links a r j → Reading form (suc room) 8 i (linked h r) j

  pub atom_head : (i a : Input) (x : Read) → known_ahead i.tokens ≡ None → Reading form (suc room) 9 i x a → Head_read i (plain_head x) a
  atom_head i a x u v = λ r j t. alone_or_linked i a j x r v (λ y more q. not_known v.text y more j.tokens (ap known_ahead q ∙ u)) t

  pub postfix_sound : ((i : Input) → Sound (Head_read i) (head form room inner i)) → (i : Input) → Sound (Reading form (suc room) 8 i) (postfix form room inner i)
  unfolding postfix links
  postfix_sound head_sound i = sound_then (head_sound i) (λ h a c. sound_then (links_from_sound (length a.tokens) h.kind h.links a) (λ r j t. read (c r j t)))
