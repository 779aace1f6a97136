-- Every module that is written is read; so tokens have one module at most, and a refusal means that they have none.
use Rattle.std.proofs.Common.{◌≡◌, refl, sym, ◌∙◌, ap, subst, arith, append_assoc, append-nil}
use Rattle.std.specs.Prelude.{ℕ, ◌+◌, ◌≤◌, ◌<◌, Bool, true, false, List, [], ◌∷◌, ◌++◌, map, length, Some, None, Result, Ok, Err, codes}
use Rattle.std.proofs.Math.Nat.{le-max_left, le-max_right}
use Rattle.qk_ast.specs.declared.Form.{Form}
use Rattle.qk_ast.specs.declared.Module.{Module}
use Rattle.qk_ast.specs.declared.Import.{Import}
use Rattle.qk_ast.specs.declared.Item.{Item}
use Rattle.qk_ast.specs.Characters.{Characters}
use Rattle.qk_ast.specs.Tokens.{Token}
use Rattle.qk_ast.specs.Grammar.{Names, Last_name, Last_comma, Next_name, Expression, Import_line, Item_line, Module_text}
use Rattle.qk_ast.specs.Spelling.{tokens, names_tokens, import_tokens, imports_tokens, item_tokens, items_tokens, module_tokens}
use Rattle.qk_ast.specs.Depth.{depth, imports_depth, items_depth, module_depth}
use Rattle.qk_ast.specs.Tree.{arrows, arrow_signs, bytes, tree, import_tree, items_tree, module_tree}
use Rattle.qk_ast.specs.Rules.{items_keep, module_keeps}
use Rattle.qk_ast.specs.Derives.{Parses}
use Rattle.qk_reading.specs.Input.{Input, at, Fault, Syntax, Outcome, Word, first_is, sees, after, expect, name_that, many_from, many}
use Rattle.qk_reading.specs.Reader.{import_line, next_import, item, next_item, module_of, outcome, read_module}
use Rattle.qk_reading.proofs.Framed.{framed}
use Rattle.qk_reading.proofs.Counted.{counted, longer}
use Rattle.qk_reading.proofs.Reached.{Reaches, reached, deep, reach_then, enter_reach, many_stop}
use Rattle.qk_reading.proofs.Atoms.{moved, le_binds, many_step, Reads}
use Rattle.qk_reading.proofs.Patterns.{names_reach}
use Rattle.qk_reading.proofs.Complete.{complete}

names_longer : (x : Names) (ts : List Token) → length ts < length (names_tokens x ts)
names_longer (Last_name a) ts = omega arith
names_longer (Last_comma a) ts = omega arith
names_longer (Next_name a more) ts = let b = names_longer more ts in omega (arith, b)

-- what follows the imports
abbrev NoImport : List Token → Type 0
NoImport ts = first_is (Word (codes "import")) ts ≡ false

module _ (D : Type 0) (form : Form) where
  import_reach : (x : Import_line) (room n : ℕ) (ts : List Token) → (room < 1 → D) → Reaches D (Some (import_tree x)) (at ts n) (next_import room (at (import_tokens x ts) n))
  unfolding next_import import_line expect sees
  import_reach x room n ts d =
      let us = Token.Name (codes "from") ∷ Token.Text x.quote x.source ∷ Token.Punct (codes ";") ∷ ts in
      reach_then _ (reach_then _ (enter_reach room (at (names_tokens x.names (Token.Punct (codes "}") ∷ us)) n) d) (reach_then _ (names_reach D x.names n us) reached)) reached

  import_longer : (x : Import_line) (ts : List Token) → length ts < length (import_tokens x ts)
  import_longer x ts = let a = names_longer x.names (Token.Punct (codes "}") ∷ Token.Name (codes "from") ∷ Token.Text x.quote x.source ∷ Token.Punct (codes ";") ∷ ts) in omega (arith, a)

  no_import : (room n : ℕ) (ts : List Token) → NoImport ts → next_import room (at ts n) ≡ Ok (None, at ts n)
  unfolding next_import sees
  no_import room n ts e = rw e refl

  imports_read : (xs : List Import_line) (room n fuel : ℕ) (so_far : List Import) (ts : List Token) → NoImport ts → (room < imports_depth xs → D) → length (imports_tokens xs ts) ≤ fuel
      → Reaches D (so_far ++ map import_tree xs) (at ts n) (many_from (next_import room) fuel so_far (at (imports_tokens xs ts) n))
  imports_read [] room n fuel so_far ts e d f = rw (many_stop (next_import room) fuel so_far (at ts n) (no_import room n ts e), append-nil) reached
  imports_read (x ∷ xs) room n fuel so_far ts e d f =
      let us = imports_tokens xs ts in
      many_step (next_import room) fuel so_far (import_tree x) (at (import_tokens x us) n) (at us n) f (import_longer x us) (import_reach x room n us d)
      (λ fuel' f'. subst (λ ys. Reaches D ys (at ts n) (many_from (next_import room) fuel' (so_far ++ import_tree x ∷ []) (at us n))) (append_assoc so_far (import_tree x ∷ []) (map import_tree xs))
      (imports_read xs room n fuel' (so_far ++ import_tree x ∷ []) ts e (λ l. d (imports_deep xs l)) f'))
    where
      imports_deep : (xs : List Import_line) → room < imports_depth xs → room < 1
      imports_deep [] l = omega (arith, l)
      imports_deep (y ∷ ys) l = l

  item_reach : (b : Bool) (a : Characters) (x : Expression) → Reads D form x → (room n m : ℕ) (ts : List Token) → (room < depth x → D) → m ≡ n + arrows (tokens x)
      → Reaches D (Some (record { exported = b; name = bytes a; init = tree n x })) (at ts m) (next_item form room (at (item_tokens (record { exported = b; name = a; value = x }) ts) n))
  unfolding next_item item expect sees after name_that
  item_reach true a x h room n m ts d q = reach_then _ (reach_then _ (h room 0 n m (Token.Punct (codes ";") ∷ ts) d (omega arith) (le_binds 0 x (omega arith)) q (omega arith)) reached) reached
  item_reach false a x h room n m ts d q = reach_then _ (reach_then _ (h room 0 n m (Token.Punct (codes ";") ∷ ts) d (omega arith) (le_binds 0 x (omega arith)) q (omega arith)) reached) reached

  pub item_longer : (b : Bool) (a : Characters) (x : Expression) (ts : List Token) → length ts < length (item_tokens (record { exported = b; name = a; value = x }) ts)
  item_longer true a x ts = let c = longer x (Token.Punct (codes ";") ∷ ts) in omega (arith, c)
  item_longer false a x ts = let c = longer x (Token.Punct (codes ";") ∷ ts) in omega (arith, c)

  item_counted : (b : Bool) (a : Characters) (x : Expression) (ts : List Token) → arrow_signs (item_tokens (record { exported = b; name = a; value = x }) ts) ≡ arrows (tokens x) + arrow_signs ts
  item_counted true a x ts = counted (framed x) (Token.Punct (codes ";") ∷ ts)
  item_counted false a x ts = counted (framed x) (Token.Punct (codes ";") ∷ ts)

  items_end : (room n : ℕ) → next_item form room (at [] n) ≡ Ok (None, at [] n)
  unfolding next_item
  items_end room n = refl

  items_read : (xs : List Item_line) → items_keep form xs → (room n m fuel : ℕ) (so_far : List Item) → (room < items_depth xs → D) → m ≡ n + arrow_signs (items_tokens xs []) → length (items_tokens xs []) ≤ fuel
      → Reaches D (so_far ++ items_tree n xs) (at [] m) (many_from (next_item form room) fuel so_far (at (items_tokens xs []) n))
  items_read [] ke room n m fuel so_far d q f = rw (many_stop (next_item form room) fuel so_far (at [] n) (items_end room n), append-nil) (moved n m (omega (arith, q)) reached)
  items_read (x ∷ xs) ke room n m fuel so_far d q f =
      let us = items_tokens xs [] in
      let m1 = n + arrows (tokens x.value) in
      let y : Item = record { exported = x.exported; name = bytes x.name; init = tree n x.value } in
      let c = item_counted x.exported x.name x.value us in
      many_step (next_item form room) fuel so_far y (at (item_tokens x us) n) (at us m1) f (item_longer x.exported x.name x.value us)
      (item_reach x.exported x.name x.value (complete D form x.value ke.0).0 room n m1 us (λ l. d (omega (arith, l, le-max_left (depth x.value) (items_depth xs)))) refl)
      (λ fuel' f'. subst (λ ys. Reaches D ys (at [] m) (many_from (next_item form room) fuel' (so_far ++ y ∷ []) (at us m1))) (append_assoc so_far (y ∷ []) (items_tree m1 xs))
      (items_read xs ke.1 room m1 m fuel' (so_far ++ y ∷ []) (λ l. d (omega (arith, l, le-max_right (depth x.value) (items_depth xs)))) (omega (arith, q, c)) f'))

  items_no_import : (xs : List Item_line) → NoImport (items_tokens xs [])
  items_no_import [] = refl
  items_no_import (x ∷ xs) = one x.exported
    where
      one : (b : Bool) → NoImport (item_tokens (record { exported = b; name = x.name; value = x.value }) (items_tokens xs []))
      one true = refl
      one false = refl

  -- a module that is written is read, or it nests deeper than there is room
  pub module_reads : (x : Module_text) → module_keeps form x → (room : ℕ) → (room < module_depth x → D)
      → Reaches D (module_tree x) (at [] (arrow_signs (items_tokens x.items []))) (module_of form room (at (module_tokens x) 0))
  unfolding module_of many
  module_reads x ke room d =
      let us = items_tokens x.items [] in
      let b1 = le-max_left (imports_depth x.imports) (items_depth x.items) in
      let b2 = le-max_right (imports_depth x.imports) (items_depth x.items) in
      reach_then _ (imports_read x.imports room 0 (length (imports_tokens x.imports us)) [] us (items_no_import x.items) (λ l. d (omega (arith, l, b1))) (omega arith))
      (reach_then _ (items_read x.items ke room 0 (arrow_signs us) (length us) [] (λ l. d (omega (arith, l, b2))) (omega arith) (omega arith)) reached)

-- ---- what follows from it

found_one : {A : Type 0} {x : A} {j : Input} {o : Outcome A} → Reaches ⊥ x j o → o ≡ Ok (x, j)
found_one reached = refl
found_one (deep d) = absurd d

abbrev module_or : Module → Result Module Fault → Module
module_or n (Ok m) = m
module_or n (Err f) = n

-- the reader with room enough answers the module
pub read_whole : (form : Form) (ts : List Token) (m : Module) (p : Parses form ts m) (room : ℕ) → module_depth p.text ≤ room → read_module form room ts ≡ Ok m
read_whole form ts m p room le =
    let r = found_one (module_reads ⊥ form p.text p.keeps room (λ l. omega (arith, l, le))) in
    ap (λ ts. read_module form room ts) (sym p.spells) ∙ ap outcome r ∙ ap (λ m. Ok m) p.means

-- tokens derive one module at most
pub one_parse : (form : Form) (ts : List Token) (m n : Module) → Parses form ts m → Parses form ts n → m ≡ n
one_parse form ts m n p q =
    let a = read_whole form ts m p (module_depth p.text + module_depth q.text) (omega arith) in
    let b = read_whole form ts n q (module_depth p.text + module_depth q.text) (omega arith) in
    ap (λ r. module_or m r) (sym a ∙ b)

abbrev Is_syntax : Result Module Fault → Type 0
Is_syntax (Err (Syntax k)) = Unit {0}
Is_syntax _ = ⊥

abbrev Is_fault : Result Module Fault → Type 0
Is_fault (Err f) = Unit {0}
Is_fault (Ok m) = ⊥

no_syntax : {D : Type 0} {x : Module} {j : Input} {o : Outcome Module} → Reaches D x j o → Is_syntax (outcome o) → ⊥
no_syntax reached e = e
no_syntax (deep d) e = e

-- where the reader answers Syntax, with however little room, no module of any depth has the tokens
pub syntax_refused : (form : Form) (room k : ℕ) (ts : List Token) → read_module form room ts ≡ Err (Syntax k) → (m : Module) → Parses form ts m → ⊥
syntax_refused form room k ts e m p =
    no_syntax (module_reads (room < module_depth p.text) form p.text p.keeps room (λ l. l))
    (subst (λ r. Is_syntax r) (sym (ap (λ ts. read_module form room ts) p.spells ∙ e)) tt)

-- where the reader refuses, no module that nests so deep at most has the tokens
pub refused : (form : Form) (room : ℕ) (f : Fault) (ts : List Token) → read_module form room ts ≡ Err f → (m : Module) (p : Parses form ts m) → module_depth p.text ≤ room → ⊥
refused form room f ts e m p le = subst (λ r. Is_fault r) (sym e ∙ read_whole form ts m p room le) tt
