-- What is read is written by the rules: imports, items and the module.
use Rattle.std.proofs.Common.{◌≡◌, refl, sym, ◌∙◌, ap, ap₂, subst, arith, append_assoc, append-nil, true≢false}
use Rattle.std.specs.Prelude.{ℕ, zero, suc, ◌+◌, ◌≤◌, Bool, true, false, List, [], ◌∷◌, ◌++◌, map, length, Option, Some, None, Result, Ok, Err, codes}
use Rattle.qk_ast.specs.declared.Form.{Form}
use Rattle.qk_ast.specs.declared.Module.{Module}
use Rattle.qk_ast.specs.declared.Import.{Import}
use Rattle.qk_ast.specs.declared.Item.{Item}
use Rattle.qk_ast.specs.Characters.{Characters}
use Rattle.qk_ast.specs.Tokens.{Token, Piece}
use Rattle.qk_ast.specs.Grammar.{Expression, Import_line, Item_line}
use Rattle.qk_ast.specs.Spelling.{◌⨾◌, one, sign, tokens, import_tokens, imports_tokens, item_tokens, items_tokens}
use Rattle.qk_ast.specs.Depth.{depth, imports_depth, items_depth}
use Rattle.qk_ast.specs.Tree.{arrows, arrow_signs, bytes, value, tree, import_tree, items_tree}
use Rattle.qk_ast.specs.Rules.{keeps, items_keep}
use Rattle.qk_reading.specs.Input.{Input, at, Fault, Outcome, pure, maybe, ◌>>=◌, peek, Sign, Word, Given, is_end, many_from, many, advance, sees}
use Rattle.qk_reading.specs.Reader.{text_by, import_line, next_import, item, next_item, nesting, module_of, outcome, read_module}
use Rattle.qk_reading.specs.Laws.{ParsesWithin}
use Rattle.qk_reading.proofs.Framed.{Framed, framed, one_framed, name_framed, reserved_framed, sign_framed, semicolon_framed, nothing_framed, names_framed, ◌▹◌}
use Rattle.qk_reading.proofs.Follow.{by_bool, clash}
use Rattle.qk_reading.proofs.Counted.{counted}
use Rattle.qk_reading.proofs.Patterns.{names_uncounted}
use Rattle.qk_reading.proofs.Modules.{item_longer}
use Rattle.qk_reading.proofs.Sound.{Sound, read, refused, sound_then, implied, Spans, spans_then, by_sees, expect_sound, name_sound, enter_sound, Maybe_read, Many, no_more, one_more, many_sound, max_le}
use Rattle.qk_reading.proofs.SoundLists.{names_sound}
use Rattle.qk_reading.proofs.SoundNesting.{wholes, nesting_sound}

abbrev module_or : Module → Result Module Fault → Module
module_or n (Ok m) = m
module_or n (Err f) = n

abbrev pub is_ok : Result Module Fault → Bool
is_ok (Ok m) = true
is_ok (Err f) = false

-- ---- imports

abbrev Source_read : Input → List ℕ → Input → Type 0
Source_read i x j = (quote : ℕ) × (pieces : List Piece) × Spans (one (Token.Text quote pieces)) i j × (value pieces ≡ x)

source_at : (ts : List Token) (n : ℕ) → Sound (Source_read (at ts n)) ((peek >>= text_by) (at ts n))
source_at [] n = refused
source_at (Token.Text quote pieces ∷ ts) n = let here : Spans (one (Token.Text quote pieces)) (at (Token.Text quote pieces ∷ ts) n) (at ts n) = record { spelt = refl; count = omega arith } in read (quote, pieces, here, refl)
source_at (t ∷ ts) n = refused

pub record Import_read (room : ℕ) (i : Input) (x : Import) (j : Input) : Type 0 where
  pub text : Import_line
  pub flat : 1 ≤ room
  pub means : import_tree text ≡ x
  pub spans : Spans (import_tokens text) i j

import_framed : (x : Import_line) → Framed (import_tokens x)
import_framed x = reserved_framed (codes "import") ▹ ((sign_framed (codes "{") ▹ (names_framed x.names ▹ sign_framed (codes "}"))) ▹ (name_framed (codes "from") ▹ (one_framed (Token.Text x.quote x.source) ▹ semicolon_framed)))

import_sound : (room : ℕ) (i : Input) → Sound (Import_read room i) (import_line room i)
unfolding import_line
import_sound room i = sound_then (expect_sound (Word (codes "import")) i refl) (λ _ a w. sound_then (expect_sound (Sign (codes "{")) a refl) (λ _ b o. sound_then (enter_sound room b) (λ _ b' g.
    sound_then (names_sound b') (λ xs c v. sound_then (expect_sound (Sign (codes "}")) c refl) (λ _ d p. sound_then (expect_sound (Given (codes "from")) d refl) (λ _ f q. sound_then (source_at f.tokens f.arrows) (λ x g' s.
    sound_then (expect_sound (Sign (codes ";")) g' refl) (λ _ j e.
    read (record {
      text = record { names = v.text; quote = s.0; source = s.1 };
      flat = g.1;
      means = ap₂ (λ xs x. record { names = xs; from = x }) v.means s.3;
      spans = spans_then (reserved_framed (codes "import")) w (spans_then (sign_framed (codes "{") ▹ (names_framed v.text ▹ sign_framed (codes "}"))) (spans_then (sign_framed (codes "{")) (subst (λ b. Spans (sign (codes "{")) a b) g.0 o) (spans_then (names_framed v.text) v.spans p))
          (spans_then (name_framed (codes "from")) q (spans_then (one_framed (Token.Text (s.0) (s.1))) s.2 e)));
    })))))))))

next_import_sound : (room : ℕ) (i : Input) → Sound (Maybe_read (Import_read room) i) (next_import room i)
unfolding next_import
next_import_sound room i = by_bool (sees (Word (codes "import")) i) (λ h. rw h (sound_then (import_sound room i) (λ x j v. read v))) (λ h. rw h (read {j = i} refl))

pub record Imports_read (room : ℕ) (i : Input) (xs : List Import) (j : Input) : Type 0 where
  pub text : List Import_line
  pub flat : imports_depth text ≤ room
  pub means : map import_tree text ≡ xs
  pub spans : Spans (imports_tokens text) i j

imports_of : {room : ℕ} {i j : Input} {xs : List Import} → Many (Import_read room) i xs j → Imports_read room i xs j
imports_of no_more = record { text = []; flat = omega arith; means = refl; spans = record { spelt = refl; count = omega arith } }
imports_of (one_more v r) = let t = imports_of r in record {
  text = v.text ∷ t.text;
  flat = v.flat;
  means = ap₂ (λ x xs. x ∷ xs) v.means t.means;
  spans = spans_then (import_framed v.text) v.spans t.spans;
}

imports_sound : (room : ℕ) (i : Input) → Sound (Imports_read room i) (many (next_import room) i)
imports_sound room i = implied (many_sound (Import_read room) (next_import room) (next_import_sound room) i) (λ xs j t. subst (λ xs. Imports_read room i xs j) t.parts (imports_of t.run))

imports_uncounted : (xs : List Import_line) (ts : List Token) → arrow_signs (imports_tokens xs ts) ≡ arrow_signs ts
imports_uncounted [] ts = refl
imports_uncounted (x ∷ xs) ts =
    let us = imports_tokens xs ts in
    names_uncounted x.names (Token.Punct (codes "}") ∷ Token.Name (codes "from") ∷ Token.Text x.quote x.source ∷ Token.Punct (codes ";") ∷ us) ∙ imports_uncounted xs ts

-- ---- items

module _ (form : Form) (room : ℕ) where
  pub record Item_read (i : Input) (x : Item) (j : Input) : Type 0 where
    pub exported : Bool
    pub name : Characters
    pub value : Expression
    pub keeping : keeps form value
    pub flat : depth value ≤ room
    pub means : (n : ℕ) → n ≡ i.arrows → record { exported = exported; name = bytes name; init = tree n value } ≡ x
    pub spans : Spans (item_tokens (record { exported = exported; name = name; value = value })) i j

  item_sound : (i : Input) → Sound (Item_read i) (item form room i)
  unfolding item
  item_sound i = by_sees (Word (codes "export")) i refl
      (λ h q p. rw (h, q) (sound_then (expect_sound (Word (codes "const")) (advance i) refl) (λ _ a w. sound_then (name_sound (λ _. true) a) (λ x b na. sound_then (expect_sound (Sign (codes "=")) b refl) (λ _ c e.
      sound_then (wholes form room (nesting form room) (nesting_sound form room) c) (λ v d r. sound_then (expect_sound (Sign (codes ";")) d refl) (λ _ j s.
      let c1 = p.count in
      let c2 = w.count in
      let c3 = na.0.count in
      let c4 = e.count in
      let f = r.flat in
      read (record {
        exported = true;
        name = x;
        value = r.text;
        keeping = r.keeping;
        flat = omega (arith, f);
        means = λ n t. ap (λ v. record { exported = true; name = bytes x; init = v }) (r.means n (omega (arith, t, c1, c2, c3, c4)));
        spans = spans_then (reserved_framed (codes "export")) p (spans_then (reserved_framed (codes "const")) w (spans_then (name_framed x) na.0 (spans_then (sign_framed (codes "=")) e (spans_then (framed r.text) r.spans s))));
      }))))))))
      (λ h q. rw (h, q) (sound_then (expect_sound (Word (codes "const")) i refl) (λ _ a w. sound_then (name_sound (λ _. true) a) (λ x b na. sound_then (expect_sound (Sign (codes "=")) b refl) (λ _ c e.
      sound_then (wholes form room (nesting form room) (nesting_sound form room) c) (λ v d r. sound_then (expect_sound (Sign (codes ";")) d refl) (λ _ j s.
      let c2 = w.count in
      let c3 = na.0.count in
      let c4 = e.count in
      let f = r.flat in
      read (record {
        exported = false;
        name = x;
        value = r.text;
        keeping = r.keeping;
        flat = omega (arith, f);
        means = λ n t. ap (λ v. record { exported = false; name = bytes x; init = v }) (r.means n (omega (arith, t, c2, c3, c4)));
        spans = spans_then (reserved_framed (codes "const")) w (spans_then (name_framed x) na.0 (spans_then (sign_framed (codes "=")) e (spans_then (framed r.text) r.spans s)));
      }))))))))

  pub record Items_run (so_far : List Item) (i : Input) (ys : List Item) (j : Input) : Type 0 where
    pub text : List Item_line
    pub keeping : items_keep form text
    pub flat : items_depth text ≤ room
    pub means : (n : ℕ) → n ≡ i.arrows → so_far ++ items_tree n text ≡ ys
    pub spans : Spans (items_tokens text) i j
    pub all : j.tokens ≡ []

  item_framed : (exported : Bool) (name : Characters) (x : Expression) → Framed (item_tokens (record { exported = exported; name = name; value = x }))
  item_framed true name x = reserved_framed (codes "export") ▹ (reserved_framed (codes "const") ▹ (name_framed name ▹ (sign_framed (codes "=") ▹ (framed x ▹ semicolon_framed))))
  item_framed false name x = nothing_framed ▹ (reserved_framed (codes "const") ▹ (name_framed name ▹ (sign_framed (codes "=") ▹ (framed x ▹ semicolon_framed))))

  item_counted : (exported : Bool) (name : Characters) (x : Expression) → arrows (item_tokens (record { exported = exported; name = name; value = x })) ≡ arrows (tokens x)
  item_counted true name x = let c = counted (framed x) (Token.Punct (codes ";") ∷ []) in omega (arith, c)
  item_counted false name x = let c = counted (framed x) (Token.Punct (codes ";") ∷ []) in omega (arith, c)

  no_items : (so_far : List Item) (i : Input) → i.tokens ≡ [] → Items_run so_far i so_far i
  no_items so_far i h = record { text = []; keeping = tt; flat = omega arith; means = λ n q. append-nil so_far; spans = record { spelt = refl; count = omega arith }; all = h }

  next_items : (so_far : List Item) (i a j : Input) (x : Item) (ys : List Item) → Item_read i x a → Items_run (so_far ++ x ∷ []) a ys j → Items_run so_far i ys j
  next_items so_far i a j x ys v t =
      let c = v.spans.count in
      let c2 = item_counted v.exported v.name v.value in
      record {
        text = record { exported = v.exported; name = v.name; value = v.value } ∷ t.text;
        keeping = (v.keeping, t.keeping);
        flat = max_le (depth v.value) (items_depth t.text) room v.flat t.flat;
        means = λ n q.
            let here : n + arrows (tokens v.value) ≡ a.arrows = omega (arith, q, c, c2) in
            ap (λ x. so_far ++ x ∷ items_tree (n + arrows (tokens v.value)) t.text) (v.means n q)
            ∙ sym (append_assoc so_far (x ∷ []) (items_tree (n + arrows (tokens v.value)) t.text)) ∙ t.means (n + arrows (tokens v.value)) here;
        spans = spans_then (item_framed v.exported v.name v.value) v.spans t.spans;
        all = t.all;
      }

  ended : (ts : List Token) → is_end ts ≡ true → ts ≡ []
  ended [] h = refl
  ended (t ∷ ts) h = clash {b = false} h refl

  empty : (ts : List Token) → length ts ≤ 0 → ts ≡ []
  empty [] h = refl
  empty (t ∷ ts) h = absurd (omega (arith, h))

  abbrev Next_item_read : Input → Option Item → Input → Type 0
  Next_item_read i None j = ⊥
  Next_item_read i (Some x) j = Item_read i x j

  shorter : (n : ℕ) (i a : Input) (x : Item) → Item_read i x a → length i.tokens ≤ suc n → length a.tokens ≤ n
  shorter n i a x v h = let l = item_longer ⊥ form v.exported v.name v.value a.tokens in let e = ap (λ ts. length ts) v.spans.spelt in omega (arith, h, l, e)

  -- each item takes a token, so all are read
  items_from_sound : (n : ℕ) (so_far : List Item) (i : Input) → length i.tokens ≤ n → Sound (Items_run so_far i) (many_from (next_item form room) n so_far i)
  unfolding many_from next_item
  items_from_sound zero so_far i h = read (no_items so_far i (empty i.tokens h))
  items_from_sound (suc n) so_far i h = by_bool (is_end i.tokens)
      (λ e. rw e (read (no_items so_far i (ended i.tokens e))))
      (λ e. rw e (sound_then {R = Next_item_read i} (sound_then (item_sound i) (λ x a v. read v)) (λ o a v.
      elim o as (λ o. Next_item_read i o a → Sound (Items_run so_far i) (maybe o (pure so_far) (λ x. many_from (next_item form room) n (so_far ++ x ∷ [])) a)) [
        | None ↦ λ q. absurd q
        | Some x ↦ λ v. implied (items_from_sound n (so_far ++ x ∷ []) a (shorter n i a x v h)) (λ ys j t. next_items so_far i a j x ys v t)
      ] v)))

  -- ---- the module

  module_sound : (ts : List Token) → Sound (λ m j. ParsesWithin form room ts m) (module_of form room (at ts 0))
  unfolding module_of many
  module_sound ts = sound_then (imports_sound room (at ts 0)) (λ xs a v. sound_then (items_from_sound (length a.tokens) [] a (omega arith)) (λ ys j t.
      let c = v.spans.count in
      let c2 = imports_uncounted v.text [] in
      read (record {
        parse = record {
          text = record { imports = v.text; items = t.text };
          spells = ap (λ us. (imports_tokens v.text ⨾ items_tokens t.text) us) (sym t.all) ∙ ap (imports_tokens v.text) t.spans.spelt ∙ v.spans.spelt;
          keeps = t.keeping;
          means = ap₂ (λ xs ys. record { imports = xs; items = ys }) v.means (t.means 0 (omega (arith, c, c2)));
        };
        flat = max_le (imports_depth v.text) (items_depth t.text) room v.flat t.flat;
      })))

  read_one : (ts : List Token) (m : Module) (o : Outcome Module) → Sound (λ m j. ParsesWithin form room ts m) o → outcome o ≡ Ok m → ParsesWithin form room ts m
  read_one ts m (Ok (n, j)) (read p) e = subst (λ m. ParsesWithin form room ts m) (ap (λ r. module_or n r) e) p
  read_one ts m (Err f) s e = absurd (true≢false (sym (ap is_ok e)))

  -- what the reader answers is written by the rules, within the nesting
  pub read_is_written : (ts : List Token) (m : Module) → read_module form room ts ≡ Ok m → ParsesWithin form room ts m
  read_is_written ts m e = read_one ts m (module_of form room (at ts 0)) (module_sound ts) e

-- the answer is a module that is written, or a fault
pub read_or_refused : (form : Form) (room : ℕ) (ts : List Token) → ((m : Module) → ParsesWithin form room ts m → ⊥) → (fault : Fault) × (read_module form room ts ≡ Err fault)
read_or_refused form room ts h = go (read_module form room ts) refl
  where
    go : (r : Result Module Fault) → read_module form room ts ≡ r → (fault : Fault) × (read_module form room ts ≡ Err fault)
    go (Ok m) e = absurd (h m (read_is_written form room ts m e))
    go (Err f) e = (f, e)
