-- What is read is written by the rules: heads that begin as a known call.
use Rattle.std.proofs.Common.{◌≡◌, refl, sym, ◌∙◌, ap, ap₂, subst, arith}
use Rattle.std.specs.Prelude.{ℕ, suc, ◌+◌, ◌-◌, ◌≤◌, Bool, true, false, ◌&&◌, nat_le, List, [], ◌∷◌, ◌++◌, length, Option, Some, None, codes}
use lib.Dec.{leb→le, T}
use Rattle.qk_ast.specs.declared.Form.{Form}
use Rattle.qk_ast.specs.declared.Expr.{Expr}
use Rattle.qk_ast.specs.declared.Expr.TheVariants as e
use Rattle.qk_ast.specs.declared.Known.{Known}
use Rattle.qk_ast.specs.declared.Known.TheVariants as known
use Rattle.qk_ast.specs.declared.Link.TheVariants as l
use Rattle.qk_ast.specs.Characters.{Characters, same}
use Rattle.qk_ast.specs.Tokens.{Token}
use Rattle.qk_ast.specs.Grammar.{Free, Expression, Named, Log, Keys, Str, Trunc, Postfix, Link, Dot, Call, Links, Next_link, Arguments, No_argument, Only, Comma}
use Rattle.qk_ast.specs.Spelling.{Writing, ◌⨾◌, name as name_of, sign, round, tokens, arguments_tokens, link_tokens}
use Rattle.qk_ast.specs.Depth.{depth, arguments_depth}
use Rattle.qk_ast.specs.Tree.{arrows, bytes, tree, arguments_tree, links_tree}
use Rattle.qk_ast.specs.Rules.{keeps, arguments_keep, binds, is_one_argument, is_called_on, reads_as_known}
use Rattle.qk_reading.specs.Input.{Input, at, ◌>>◌, enter, look, Nested, Read, Head, headed, Atomic, Called, Sign, Whole, Tight, first_is, advance, sees, after}
use Rattle.qk_reading.specs.Ahead.{known_ahead, kind_tightness}
use Rattle.qk_reading.specs.Parts.{called_with, divides, is_dividend, math, math_links, linked}
use Rattle.qk_reading.specs.Forms.{nested, called, trunc, trunc_by, trunc_from, more_by, head, atom}
use Rattle.qk_ast.proofs.FrontToken.{same_is}
use Rattle.qk_reading.proofs.Framed.{Framed, framed, arguments_framed, sign_framed, name_framed, comma_framed, ◌▹◌}
use Rattle.qk_reading.proofs.Follow.{by_bool, both}
use Rattle.qk_reading.proofs.Counted.{kind, tight_kind}
use Rattle.qk_reading.proofs.Atoms.{le_binds}
use Rattle.qk_reading.proofs.Lists.{ends_comma}
use Rattle.qk_reading.proofs.Sound.{Sound, read, sound_then, implied, Spans, spans_then, by_sees, expect_sound, enter_sound, mark_seen, separated_from_sound, Reading, Valued, Arguments_read, args_of, args_sound}
use Rattle.qk_reading.proofs.SoundLinks.{Head_read, alone_or_linked, atom_head}

-- the tokens that a known call begins with
abbrev pub known_tokens : Known → List Token → List Token
known_tokens known.Str ts = Token.Name (codes "String") ∷ Token.Punct (codes "(") ∷ ts
known_tokens known.Log ts = Token.Name (codes "console") ∷ Token.Punct (codes ".") ∷ Token.Name (codes "log") ∷ Token.Punct (codes "(") ∷ ts
known_tokens known.Keys ts = Token.Name (codes "Object") ∷ Token.Punct (codes ".") ∷ Token.Name (codes "keys") ∷ Token.Punct (codes "(") ∷ ts
known_tokens known.Trunc ts = Token.Name (codes "Math") ∷ Token.Punct (codes ".") ∷ Token.Name (codes "trunc") ∷ Token.Punct (codes "(") ∷ ts

abbrev pub Begins_known : List Token → Option Known → Type 0
Begins_known ts None = Unit {0}
Begins_known ts (Some k) = (us : List Token) × (ts ≡ known_tokens k us)

named_call : (a b : Characters) (us : List Token) → same a (codes "String") ≡ true → same b (codes "(") ≡ true → Token.Name a ∷ Token.Punct b ∷ us ≡ known_tokens known.Str us
named_call a b us h k = ap₂ (λ a b. Token.Name a ∷ Token.Punct b ∷ us) (same_is a (codes "String") h) (same_is b (codes "(") k)

dotted_call : (object method a b c d : Characters) (us : List Token) → same a object ≡ true → same b (codes ".") ≡ true → same c method ≡ true → same d (codes "(") ≡ true
    → Token.Name a ∷ Token.Punct b ∷ Token.Name c ∷ Token.Punct d ∷ us ≡ Token.Name object ∷ Token.Punct (codes ".") ∷ Token.Name method ∷ Token.Punct (codes "(") ∷ us
dotted_call object method a b c d us h k m n = ap₂ (λ (x : Characters × Characters) (y : Characters × Characters). Token.Name (x.0) ∷ Token.Punct (x.1) ∷ Token.Name (y.0) ∷ Token.Punct (y.1) ∷ us)
    (ap₂ (λ a b. (a, b)) (same_is a object h) (same_is b (codes ".") k)) (ap₂ (λ a b. (a, b)) (same_is c method m) (same_is d (codes "(") n))

dotted_known : (a b c d : Characters) (us : List Token) → same b (codes ".") ≡ true → same b (codes "(") ≡ false → same d (codes "(") ≡ true
    → Begins_known (Token.Name a ∷ Token.Punct b ∷ Token.Name c ∷ Token.Punct d ∷ us) (known_ahead (Token.Name a ∷ Token.Punct b ∷ Token.Name c ∷ Token.Punct d ∷ us))
unfolding known_ahead
dotted_known a b c d us s n o =
    by_bool (same a (codes "console") && same c (codes "log")) (λ h. rw (n, s, o, h) (let p = both (same a (codes "console")) (same c (codes "log")) h in (us, dotted_call (codes "console") (codes "log") a b c d us p.0 s p.1 o))) (λ h1.
    by_bool (same a (codes "Object") && same c (codes "keys")) (λ h. rw (n, s, o, h1, h) (let p = both (same a (codes "Object")) (same c (codes "keys")) h in (us, dotted_call (codes "Object") (codes "keys") a b c d us p.0 s p.1 o))) (λ h2.
    by_bool (same a (codes "Math") && same c (codes "trunc")) (λ h. rw (n, s, o, h1, h2, h) (let p = both (same a (codes "Math")) (same c (codes "trunc")) h in (us, dotted_call (codes "Math") (codes "trunc") a b c d us p.0 s p.1 o))) (λ h3.
    rw (n, s, o, h1, h2, h3) tt)))

pub begins_known : (ts : List Token) → Begins_known ts (known_ahead ts)
unfolding known_ahead
begins_known (Token.Name a ∷ Token.Punct b ∷ us) = by_bool (same b (codes "("))
    (λ k. by_bool (same a (codes "String")) (λ h. rw (k, h) (us, named_call a b us h k)) (λ h. rw (k, h) tt))
    (λ k. by_bool (same b (codes ".")) (λ s. behind_dot us k s) (λ s. rw (k, s) tt))
  where
    behind_dot : (us : List Token) → same b (codes "(") ≡ false → same b (codes ".") ≡ true → Begins_known (Token.Name a ∷ Token.Punct b ∷ us) (known_ahead (Token.Name a ∷ Token.Punct b ∷ us))
    behind_dot (Token.Name c ∷ Token.Punct d ∷ us) k s = by_bool (same d (codes "(")) (λ o. dotted_known a b c d us s k o) (λ o. rw (k, s, o) tt)
    behind_dot us k s = rw (k, s) tt
begins_known ts = tt

module _ (form : Form) (room : ℕ) (inner : Nested) (nested_sound : (i : Input) → Sound (Valued form room i) (nested form room inner i)) where
  abbrev Headed : Input → Head → Input → Type 0
  Headed = Head_read form room inner nested_sound

  -- NAME ( ARGUMENTS ) as a head with a link
  named_head : (us : List Token) (n : ℕ) (end b : Input) (text : Arguments) → arguments_keep form text → arguments_depth text ≤ room - 1 → 1 ≤ room → is_one_argument text ≡ false
      → Spans (arguments_tokens text) (at us n) end → Spans (sign (codes ")")) end b
      → Headed (at (known_tokens known.Str us) n) (headed (e.Name (bytes (codes "String"))) Called (l.Call (arguments_tree n text) ∷ [])) b
  named_head us n end b text ke f g o s c = λ r j t. subst (λ ls. Reading form (suc room) 8 (at (known_tokens known.Str us) n) (linked (headed (e.Name (bytes (codes "String"))) Called (l.Call (arguments_tree n text) ∷ [])) (ls, r.1)) j) (t.means b.arrows refl)
      (let c1 = s.count in let c2 = c.count in let h = t.flat in
      let here : Spans (sign (codes "(")) (at (Token.Punct (codes "(") ∷ us) n) (at us n) = record { spelt = refl; count = omega arith } in
      let before : Spans (name_of (codes "String")) (at (known_tokens known.Str us) n) (at (Token.Punct (codes "(") ∷ us) n) = record { spelt = refl; count = omega arith } in
      let call : Spans (link_tokens (Call text)) (at (Token.Punct (codes "(") ∷ us) n) b = spans_then (sign_framed (codes "(")) here (spans_then (arguments_framed text) s c) in
      let c3 = call.count in
      record {
        text = Postfix (Named (codes "String")) (Call text) t.text;
        keeping = (refl, o, tt, ke, t.keeping);
        binding = refl;
        flat = omega (arith, f, g, h);
        means = λ m q.
            let first : m + 0 ≡ n = omega (arith, q) in
            let behind : m + arrows (name_of (codes "String") ⨾ link_tokens (Call text)) ≡ b.arrows = omega (arith, q, c3) in
            ap₂ (λ p q. e.Post (e.Name (bytes (codes "String"))) (l.Call (arguments_tree p text) ∷ links_tree q t.text)) first behind;
        kinds = t.kinds;
        spans = spans_then (name_framed (codes "String")) before (spans_then (sign_framed (codes "(") ▹ (arguments_framed text ▹ sign_framed (codes ")"))) call t.spans);
      })

  -- OBJECT . METHOD ( ARGUMENTS ) as a head with two links
  dotted_head : (object method : Characters) (us : List Token) (n : ℕ) (end b : Input) (text : Arguments) → arguments_keep form text → arguments_depth text ≤ room - 1 → 1 ≤ room
      → (is_called_on object method && is_one_argument text) ≡ false → Spans (arguments_tokens text) (at us n) end → Spans (sign (codes ")")) end b
      → Headed (at (Token.Name object ∷ Token.Punct (codes ".") ∷ Token.Name method ∷ Token.Punct (codes "(") ∷ us) n)
      (headed (e.Name (bytes object)) Called (l.Prop (bytes method) ∷ l.Call (arguments_tree n text) ∷ [])) b
  dotted_head object method us n end b text ke f g o s c = λ r j t.
      let i : Input = at (Token.Name object ∷ Token.Punct (codes ".") ∷ Token.Name method ∷ Token.Punct (codes "(") ∷ us) n in
      subst (λ ls. Reading form (suc room) 8 i (linked (headed (e.Name (bytes object)) Called (l.Prop (bytes method) ∷ l.Call (arguments_tree n text) ∷ [])) (ls, r.1)) j) (t.means b.arrows refl)
      (let c1 = s.count in let c2 = c.count in let h = t.flat in
      let open' : Input = at (Token.Punct (codes "(") ∷ us) n in
      let dot : Input = at (Token.Punct (codes ".") ∷ Token.Name method ∷ Token.Punct (codes "(") ∷ us) n in
      let here : Spans (sign (codes "(")) open' (at us n) = record { spelt = refl; count = omega arith } in
      let word : Spans (link_tokens (Dot (Free method))) dot open' = record { spelt = refl; count = omega arith } in
      let before : Spans (name_of object) i dot = record { spelt = refl; count = omega arith } in
      let call : Spans (link_tokens (Call text)) open' b = spans_then (sign_framed (codes "(")) here (spans_then (arguments_framed text) s c) in
      let c3 = call.count in
      record {
        text = Postfix (Named object) (Dot (Free method)) (Next_link (Call text) t.text);
        keeping = (refl, o, tt, tt, (ke, t.keeping));
        binding = refl;
        flat = omega (arith, f, g, h);
        means = λ m q.
            let first : m + 0 ≡ n = omega (arith, q) in
            let behind : m + 0 + arrows (link_tokens (Call text)) ≡ b.arrows = omega (arith, q, c3) in
            ap₂ (λ p q. e.Post (e.Name (bytes object)) (l.Prop (bytes method) ∷ l.Call (arguments_tree p text) ∷ links_tree q t.text)) first behind;
        kinds = t.kinds;
        spans = spans_then (name_framed object) before (spans_then (sign_framed (codes ".") ▹ name_framed method) word (spans_then (sign_framed (codes "(") ▹ (arguments_framed text ▹ sign_framed (codes ")"))) call t.spans));
      })

  -- a known call is a head of its own, which no link makes a known call
  known_head : (i a : Input) (k : Known) (x : Expr) (text : Expression) → keeps form text → binds 9 text ≡ true → depth text ≤ room → ((m : ℕ) → m ≡ i.arrows → tree m text ≡ e.Known k (x ∷ []))
      → kind text ≡ Atomic → ((y : Link) (more : Links) → reads_as_known text y more ≡ false) → Spans (tokens text) i a → Headed i (headed (e.Known k (x ∷ [])) Atomic []) a
  known_head i a k x text ke b f m q u s = λ r j t.
      alone_or_linked form room inner nested_sound i a j (record { tree = e.Known k (x ∷ []); kind = Atomic }) r (record { text = text; keeping = ke; binding = b; flat = omega (arith, f); means = m; kinds = q; spans = s }) (λ y more p. u y more) t

  -- OBJECT . METHOD ( and what is written ) between two places
  dotted_spans : (object method : Characters) (us : List Token) (n : ℕ) (w : Writing) (end b : Input) → Framed w → Spans w (at us n) end → Spans (sign (codes ")")) end b
      → Spans (name_of object ⨾ sign (codes ".") ⨾ name_of method ⨾ round w) (at (Token.Name object ∷ Token.Punct (codes ".") ∷ Token.Name method ∷ Token.Punct (codes "(") ∷ us) n) b
  dotted_spans object method us n w end b fr s c =
      let here : Spans (name_of object ⨾ sign (codes ".") ⨾ name_of method ⨾ sign (codes "(")) (at (Token.Name object ∷ Token.Punct (codes ".") ∷ Token.Name method ∷ Token.Punct (codes "(") ∷ us) n) (at us n) = record { spelt = refl; count = omega arith } in
      spans_then (name_framed object ▹ (sign_framed (codes ".") ▹ (name_framed method ▹ sign_framed (codes "(")))) here (spans_then fr s c)

  -- what is read as arguments behind the bracket, with the comma: the known call, or a call by that name
  str_head : (us : List Token) (n : ℕ) (xs : List Expr × Bool) (end b : Input) → Arguments_read form room (at us n) xs end → Spans (sign (codes ")")) end b → 1 ≤ room
      → Headed (at (known_tokens known.Str us) n) (called_with known.Str (e.Name (bytes (codes "String"))) [] xs) b
  str_head us n xs end b v c g = subst (λ xs. Headed (at (known_tokens known.Str us) n) (called_with known.Str (e.Name (bytes (codes "String"))) [] xs) b) (ap₂ (λ xs b. (xs, b)) (v.means n refl) v.comma_last)
      (go v.text v.keeping v.flat v.spans)
    where
      go : (text : Arguments) → arguments_keep form text → arguments_depth text ≤ room - 1 → Spans (arguments_tokens text) (at us n) end
          → Headed (at (known_tokens known.Str us) n) (called_with known.Str (e.Name (bytes (codes "String"))) [] (arguments_tree n text, ends_comma text)) b
      go (Only x) ke f s =
          let here : Spans (name_of (codes "String") ⨾ sign (codes "(")) (at (known_tokens known.Str us) n) (at us n) = record { spelt = refl; count = omega arith } in
          known_head (at (known_tokens known.Str us) n) b known.Str (tree n x) (Str x) ke refl (omega (arith, f, g)) (λ m q. ap (λ m. e.Known known.Str (tree m x ∷ [])) q) refl (λ y more. refl)
          (spans_then (name_framed (codes "String") ▹ sign_framed (codes "(")) here (spans_then (framed x) s c))
      go No_argument ke f s = named_head us n end b No_argument ke f g refl s c
      go (Comma x No_argument) ke f s = named_head us n end b (Comma x No_argument) ke f g refl s c
      go (Comma x (Only y)) ke f s = named_head us n end b (Comma x (Only y)) ke f g refl s c
      go (Comma x (Comma y more)) ke f s = named_head us n end b (Comma x (Comma y more)) ke f g refl s c

  log_head : (us : List Token) (n : ℕ) (xs : List Expr × Bool) (end b : Input) → Arguments_read form room (at us n) xs end → Spans (sign (codes ")")) end b → 1 ≤ room
      → Headed (at (known_tokens known.Log us) n) (called_with known.Log (e.Name (bytes (codes "console"))) (l.Prop (bytes (codes "log")) ∷ []) xs) b
  log_head us n xs end b v c g = subst (λ xs. Headed (at (known_tokens known.Log us) n) (called_with known.Log (e.Name (bytes (codes "console"))) (l.Prop (bytes (codes "log")) ∷ []) xs) b) (ap₂ (λ xs b. (xs, b)) (v.means n refl) v.comma_last)
      (go v.text v.keeping v.flat v.spans)
    where
      go : (text : Arguments) → arguments_keep form text → arguments_depth text ≤ room - 1 → Spans (arguments_tokens text) (at us n) end
          → Headed (at (known_tokens known.Log us) n) (called_with known.Log (e.Name (bytes (codes "console"))) (l.Prop (bytes (codes "log")) ∷ []) (arguments_tree n text, ends_comma text)) b
      go (Only x) ke f s = known_head (at (known_tokens known.Log us) n) b known.Log (tree n x) (Log x) ke refl (omega (arith, f, g)) (λ m q. ap (λ m. e.Known known.Log (tree m x ∷ [])) q) refl (λ y more. refl)
          (dotted_spans (codes "console") (codes "log") us n (tokens x) end b (framed x) s c)
      go No_argument ke f s = dotted_head (codes "console") (codes "log") us n end b No_argument ke f g refl s c
      go (Comma x No_argument) ke f s = dotted_head (codes "console") (codes "log") us n end b (Comma x No_argument) ke f g refl s c
      go (Comma x (Only y)) ke f s = dotted_head (codes "console") (codes "log") us n end b (Comma x (Only y)) ke f g refl s c
      go (Comma x (Comma y more)) ke f s = dotted_head (codes "console") (codes "log") us n end b (Comma x (Comma y more)) ke f g refl s c

  keys_head : (us : List Token) (n : ℕ) (xs : List Expr × Bool) (end b : Input) → Arguments_read form room (at us n) xs end → Spans (sign (codes ")")) end b → 1 ≤ room
      → Headed (at (known_tokens known.Keys us) n) (called_with known.Keys (e.Name (bytes (codes "Object"))) (l.Prop (bytes (codes "keys")) ∷ []) xs) b
  keys_head us n xs end b v c g = subst (λ xs. Headed (at (known_tokens known.Keys us) n) (called_with known.Keys (e.Name (bytes (codes "Object"))) (l.Prop (bytes (codes "keys")) ∷ []) xs) b) (ap₂ (λ xs b. (xs, b)) (v.means n refl) v.comma_last)
      (go v.text v.keeping v.flat v.spans)
    where
      go : (text : Arguments) → arguments_keep form text → arguments_depth text ≤ room - 1 → Spans (arguments_tokens text) (at us n) end
          → Headed (at (known_tokens known.Keys us) n) (called_with known.Keys (e.Name (bytes (codes "Object"))) (l.Prop (bytes (codes "keys")) ∷ []) (arguments_tree n text, ends_comma text)) b
      go (Only x) ke f s = known_head (at (known_tokens known.Keys us) n) b known.Keys (tree n x) (Keys x) ke refl (omega (arith, f, g)) (λ m q. ap (λ m. e.Known known.Keys (tree m x ∷ [])) q) refl (λ y more. refl)
          (dotted_spans (codes "Object") (codes "keys") us n (tokens x) end b (framed x) s c)
      go No_argument ke f s = dotted_head (codes "Object") (codes "keys") us n end b No_argument ke f g refl s c
      go (Comma x No_argument) ke f s = dotted_head (codes "Object") (codes "keys") us n end b (Comma x No_argument) ke f g refl s c
      go (Comma x (Only y)) ke f s = dotted_head (codes "Object") (codes "keys") us n end b (Comma x (Only y)) ke f g refl s c
      go (Comma x (Comma y more)) ke f s = dotted_head (codes "Object") (codes "keys") us n end b (Comma x (Comma y more)) ke f g refl s c

  -- ---- Math.trunc

  module _ (whole_inside : (i : Input) → Sound (Reading form room 0 i) (inner.value Whole i)) (tight_inside : (i : Input) → Sound (Reading form room 7 i) (inner.value Tight i)) where
    -- a division in the brackets
    divided_head : (us : List Token) (n : ℕ) (a b c d : Input) (x y : Read) → Reading form room 0 (at us n) x a → 6 ≤ kind_tightness x.kind → Spans (sign (codes "/")) a b → Reading form room 7 b y c → Spans (sign (codes ")")) c d → 1 ≤ room
        → Headed (at (known_tokens known.Trunc us) n) (headed (e.Known known.Trunc (x.tree ∷ y.tree ∷ [])) Atomic []) d
    divided_head us n a b c d x y v k s w p g = λ r j t.
        let i : Input = at (known_tokens known.Trunc us) n in
        let q = tight_kind v.text in
        let q2 = ap kind_tightness v.kinds in
        let c1 = v.spans.count in
        let c2 = s.count in
        let f1 = v.flat in
        let f2 = w.flat in
        alone_or_linked form room inner nested_sound i d j (record { tree = e.Known known.Trunc (x.tree ∷ y.tree ∷ []); kind = Atomic }) r (record {
          text = Trunc v.text w.text;
          keeping = (le_binds 6 v.text (omega (arith, k, q, q2)), w.binding, v.keeping, w.keeping);
          binding = refl;
          flat = omega (arith, f1, f2, g);
          means = λ m q.
              let behind : m + arrows (tokens v.text) ≡ b.arrows = omega (arith, q, c1, c2) in
              ap₂ (λ x y. e.Known known.Trunc (x ∷ y ∷ [])) (v.means m q) (w.means (m + arrows (tokens v.text)) behind);
          kinds = refl;
          spans = dotted_spans (codes "Math") (codes "trunc") us n (tokens v.text ⨾ sign (codes "/") ⨾ tokens w.text) c d (framed v.text ▹ (sign_framed (codes "/") ▹ framed w.text))
              (spans_then (framed v.text) v.spans (spans_then (sign_framed (codes "/")) s w.spans)) p;
        }) (λ y more p. refl) t

    -- arguments that are no division
    listed_head : (us : List Token) (n : ℕ) (xs : List Expr) (end b : Input) (c : Bool) → Arguments_read form room (at us n) (xs, c) end → Spans (sign (codes ")")) end b → 1 ≤ room
        → Headed (at (known_tokens known.Trunc us) n) (headed math Called (math_links ++ l.Call xs ∷ [])) b
    listed_head us n xs end b c v s g = subst (λ xs. Headed (at (known_tokens known.Trunc us) n) (headed math Called (math_links ++ l.Call xs ∷ [])) b) (v.means n refl)
        (dotted_head (codes "Math") (codes "trunc") us n end b v.text v.keeping v.flat g refl v.spans s)

    -- the first expression, and what follows it
    more_sound : (i a : Input) (x : Read) → Reading form room 0 i x a → 1 ≤ room → (b : Bool) → sees (Sign (codes ",")) a ≡ b → Sound (Arguments_read form room i) (more_by form room inner x.tree b (after (Sign (codes ",")) a))
    more_sound i a x v g b s = by_sees (Sign (codes ",")) a refl
        (λ h q p. subst (λ b. Sound (Arguments_read form room i) (more_by form room inner x.tree b (after (Sign (codes ",")) a))) (sym h ∙ s) (rw q
        (implied (separated_from_sound (λ _. Valued form room) (Sign (codes ")")) (nested form room inner) (λ so_far k. nested_sound k) (length (advance a).tokens) (x.tree ∷ []) (advance a)) (λ r k t.
        let m = args_of form room inner nested_sound g t.run in
        let c1 = v.spans.count in
        let c2 = p.count in
        let f = v.flat in
        let f2 = m.flat in
        record {
          text = Comma v.text m.text;
          keeping = (v.keeping, m.keeping);
          flat = omega (arith, f, f2, g);
          means = λ n q. ap₂ (λ x xs. x ∷ xs) (v.means n q) (m.means (n + arrows (tokens v.text)) (omega (arith, q, c1, c2))) ∙ t.parts;
          comma_last = m.comma_last;
          spans = spans_then (framed v.text) v.spans (spans_then comma_framed p m.spans);
        }))))
        (λ h q. subst (λ b. Sound (Arguments_read form room i) (more_by form room inner x.tree b (after (Sign (codes ",")) a))) (sym h ∙ s) (rw q
        (let f = v.flat in read (record { text = Only v.text; keeping = v.keeping; flat = omega (arith, f, g); means = λ n q. ap (λ x. x ∷ []) (v.means n q); comma_last = refl; spans = v.spans }))))

    trunc_by_sound : (us : List Token) (n : ℕ) (a : Input) (x : Read) → Reading form room 0 (at us n) x a → 1 ≤ room → (b : Bool) → is_dividend x.kind a ≡ b → Sound (Headed (at (known_tokens known.Trunc us) n)) (trunc_by form room inner x.tree b a)
    trunc_by_sound us n a x v g true h =
        let p = both (nat_le 6 (kind_tightness x.kind)) (first_is (Sign (codes "/")) a.tokens) h in
        let s : Spans (sign (codes "/")) a (advance a) = record { spelt = mark_seen (Sign (codes "/")) a.tokens p.1; count = omega arith } in
        sound_then (tight_inside (advance a)) (λ y c w. sound_then (expect_sound (Sign (codes ")")) c refl) (λ _ d t.
        read (divided_head us n a (advance a) c d x y v (leb→le 6 (kind_tightness x.kind) (subst T (sym p.0) tt)) s w t g)))
    trunc_by_sound us n a x v g false h =
        sound_then (more_sound (at us n) a x v g (sees (Sign (codes ",")) a) refl) (λ xs c w. sound_then (expect_sound (Sign (codes ")")) c refl) (λ _ d t.
        read (listed_head us n (xs.0) c d (xs.1) w t g)))

    trunc_from_sound : (us : List Token) (n : ℕ) → 1 ≤ room → (b : Bool) → sees (Sign (codes ")")) (at us n) ≡ b → Sound (Headed (at (known_tokens known.Trunc us) n)) (trunc_from form room inner b (at us n))
    unfolding divides sees
    trunc_from_sound us n g true h =
        let s : Spans (sign (codes ")")) (at us n) (advance (at us n)) = record { spelt = mark_seen (Sign (codes ")")) us h; count = omega arith } in
        read (dotted_head (codes "Math") (codes "trunc") us n (at us n) (advance (at us n)) No_argument tt (omega arith) g refl (record { spelt = refl; count = omega arith }) s)
    trunc_from_sound us n g false h = sound_then (whole_inside (at us n)) (λ x a v. trunc_by_sound us n a x v g (is_dividend x.kind a) refl)

    entered : (us : List Token) (n : ℕ) → Sound (λ b j. (at us n ≡ j) × (sees (Sign (codes ")")) (at us n) ≡ b) × (1 ≤ room)) ((enter room >> look (Sign (codes ")"))) (at us n))
    entered us n = sound_then (enter_sound room (at us n)) (λ _ j e. read (e.0, ap (λ j. sees (Sign (codes ")")) j) e.0, e.1))

    call_sound : (k : Known) (us : List Token) (n : ℕ) → Sound (Headed (at (known_tokens k us) n)) (head form room inner (at (known_tokens k us) n))
    unfolding head known_ahead called trunc
    call_sound known.Str us n = sound_then (args_sound form room inner nested_sound (codes ")") (at us n) refl) (λ xs b r. read (str_head us n xs (r.0) b r.1 r.2 r.3))
    call_sound known.Log us n = sound_then (args_sound form room inner nested_sound (codes ")") (at us n) refl) (λ xs b r. read (log_head us n xs (r.0) b r.1 r.2 r.3))
    call_sound known.Keys us n = sound_then (args_sound form room inner nested_sound (codes ")") (at us n) refl) (λ xs b r. read (keys_head us n xs (r.0) b r.1 r.2 r.3))
    call_sound known.Trunc us n = sound_then (entered us n) (λ b j e. subst (λ j. Sound (Headed (at (known_tokens known.Trunc us) n)) (trunc_from form room inner b j)) e.0 (trunc_from_sound us n e.2 b e.1))

    head_at : ((i : Input) → Sound (Reading form (suc room) 9 i) (atom form room inner i)) → (ts : List Token) (n : ℕ) (o : Option Known) → known_ahead ts ≡ o → Begins_known ts o → Sound (Headed (at ts n)) (head form room inner (at ts n))
    unfolding head
    head_at atom_sound ts n None u b = rw u (sound_then (atom_sound (at ts n)) (λ x a v. read (atom_head form room inner nested_sound (at ts n) a x u v)))
    head_at atom_sound ts n (Some k) u b = subst (λ ts. Sound (Headed (at ts n)) (head form room inner (at ts n))) (sym b.1) (call_sound k b.0 n)

    pub head_sound : ((i : Input) → Sound (Reading form (suc room) 9 i) (atom form room inner i)) → (i : Input) → Sound (Headed i) (head form room inner i)
    head_sound atom_sound i = head_at atom_sound i.tokens i.arrows (known_ahead i.tokens) refl (begins_known i.tokens)
