-- What is written is read: what stands in brackets, and known calls.
use Rattle.std.proofs.Common.{◌≡◌, refl, sym, ◌∙◌, ap, subst, arith, append_assoc, append-nil}
use Rattle.std.specs.Prelude.{ℕ, zero, suc, ◌+◌, ◌≤◌, ◌<◌, Bool, true, false, List, [], ◌∷◌, ◌++◌, length, codes}
use borrow.Author.Tests.{le-leb}
use Rattle.std.proofs.Math.Nat.{le-max_left, le-max_right}
use Rattle.qk_ast.specs.declared.Form.{Form}
use Rattle.qk_ast.specs.declared.Expr.{Expr}
use Rattle.qk_ast.specs.declared.Field.{Field as Tree_field}
use Rattle.qk_ast.specs.Characters.{Characters, same, is_one_of}
use Rattle.qk_ast.specs.Tokens.{Token, Piece}
use Rattle.qk_ast.specs.Grammar.{Word, Free, Taken, Expression, Holed, Listed, Recorded, Log, Keys, Str, Trunc, Holes, Last_part, Part_hole, Arguments, No_argument, Only, Comma, Field, Key, Quoted_key, Short, Fields, No_field, Only_field, Field_comma}
use Rattle.qk_ast.specs.Spelling.{tokens, arguments_tokens, field_tokens, fields_tokens, holes_tokens}
use Rattle.qk_ast.specs.Depth.{inside, depth, arguments_depth, field_depth, fields_depth, holes_depth}
use Rattle.qk_ast.specs.Tree.{arrows, tree, arguments_tree, field_tree, fields_tree, holes_tree, parts_tree, value}
use Rattle.qk_ast.specs.Rules.{binds, key_of, fields_keep}
use Rattle.qk_reading.specs.Input.{at, reading, Sign, first_is, sees, after, expect, separated_from, separated, collected_from, collected, Whole as Inner_whole, Tight}
use Rattle.qk_reading.specs.Ahead.{known_ahead}
use Rattle.qk_reading.specs.Parts.{keys, fresh, part, divides}
use Rattle.qk_reading.specs.Forms.{head, atom, args, nested, field, field_value, fields, holes_from, holes, called, trunc}
use Rattle.qk_reading.specs.Reader.{nesting}
use Rattle.qk_reading.proofs.Framed.{framed, arguments_framed, field_framed, fields_framed}
use Rattle.qk_reading.proofs.Follow.{Ends, Opens, opens_not, opens}
use Rattle.qk_reading.proofs.Counted.{counted, longer, kind, tight_kind}
use Rattle.qk_reading.proofs.Reached.{Reaches, reached, deep, reach_then, enter_reach}
use Rattle.qk_reading.proofs.Atoms.{moved, binds_le, le_binds, separated_step, separated_last, separated_end, collected_step, collected_last, collected_end, Reads, Nests, Heads}

-- a sign that ends a list
pub record Closes (closing : Characters) : Type 0 where
  pub itself : same closing closing ≡ true
  pub no_comma : same closing (codes ",") ≡ false
  pub unopened : (ts : List Token) → Opens 1 ts → first_is (Sign closing) ts ≡ false
  pub ends : (ts : List Token) → Ends 0 (Token.Punct closing ∷ ts)

pub round_closes : Closes (codes ")")
round_closes = record { itself = refl; no_comma = refl; unopened = λ ts o. opens_not (codes ")") ts o; ends = λ ts. omega arith }

pub square_closes : Closes (codes "]")
square_closes = record { itself = refl; no_comma = refl; unopened = λ ts o. opens_not (codes "]") ts o; ends = λ ts. omega arith }

pub expect_reach : {D : Type 0} (closing : Characters) (ts : List Token) (n : ℕ) → same closing closing ≡ true → Reaches D tt (at ts n) (expect (Sign closing) (at (Token.Punct closing ∷ ts) n))
unfolding expect sees
expect_reach closing ts n e = rw e reached

-- a comma is last, or nothing
abbrev pub ends_comma : Arguments → Bool
ends_comma No_argument = true
ends_comma (Only x) = false
ends_comma (Comma x more) = ends_comma more

keys_append : (fs : List Tree_field) (f : Tree_field) → keys (fs ++ f ∷ []) ≡ keys fs ++ f.key ∷ []
keys_append [] f = refl
keys_append (g ∷ fs) f = ap (λ ks. g.key ∷ ks) (keys_append fs f)

module _ (D : Type 0) (form : Form) where
  abbrev pub Args_read : Arguments → Type 0
  Args_read arguments = (closing : Characters) → Closes closing → (room n m fuel : ℕ) (so_far : List Expr) (rest : List Token)
      → (room < inside (arguments_depth arguments) → D) → m ≡ n + arrows (arguments_tokens arguments) → length (arguments_tokens arguments (Token.Punct closing ∷ rest)) ≤ fuel
      → Reaches D (so_far ++ arguments_tree n arguments, ends_comma arguments) (at (Token.Punct closing ∷ rest) m)
      (separated_from (Sign closing) (nested form room (nesting form room)) fuel so_far (at (arguments_tokens arguments (Token.Punct closing ∷ rest)) n))

  pub no_argument_read : Args_read No_argument
  no_argument_read closing c room n m fuel so_far rest d e f = rw append-nil (moved n m (omega (arith, e))
      (separated_end closing _ fuel so_far (at (Token.Punct closing ∷ rest) n) c.itself f (omega arith)))

  pub only_read : (x : Expression) → Nests D form x → Args_read (Only x)
  only_read x h closing c room n m fuel so_far rest d e f =
      separated_last closing _ fuel so_far (tree n x) (at (tokens x (Token.Punct closing ∷ rest)) n) (at (Token.Punct closing ∷ rest) m)
      (c.unopened (tokens x (Token.Punct closing ∷ rest)) (opens x (Token.Punct closing ∷ rest))) c.no_comma f (longer x (Token.Punct closing ∷ rest))
      (h room n m (Token.Punct closing ∷ rest) d e (c.ends rest))

  pub comma_read : (x : Expression) (more : Arguments) → Nests D form x → Args_read more → Args_read (Comma x more)
  comma_read x more h k closing c room n m fuel so_far rest d e f =
      let ts = arguments_tokens more (Token.Punct closing ∷ rest) in
      let m1 = n + arrows (tokens x) in
      let count = counted (framed x) (Token.Punct (codes ",") ∷ arguments_tokens more []) in
      let long = longer x (Token.Punct (codes ",") ∷ ts) in
      separated_step closing (nested form room (nesting form room)) fuel so_far (tree n x) (at (tokens x (Token.Punct (codes ",") ∷ ts)) n) (at ts m1)
      (c.unopened (tokens x (Token.Punct (codes ",") ∷ ts)) (opens x (Token.Punct (codes ",") ∷ ts))) f (omega (arith, long))
      (h room n m1 (Token.Punct (codes ",") ∷ ts) (λ l. d (omega (arith, l, le-max_left (depth x) (arguments_depth more)))) refl (omega arith))
      (λ fuel' l. subst (λ ys. Reaches D (ys, ends_comma more) (at (Token.Punct closing ∷ rest) m) (separated_from (Sign closing) (nested form room (nesting form room)) fuel' (so_far ++ tree n x ∷ []) (at ts m1)))
      (append_assoc so_far (tree n x ∷ []) (arguments_tree m1 more))
      (k closing c room m1 m fuel' (so_far ++ tree n x ∷ []) rest (λ l. d (omega (arith, l, le-max_right (depth x) (arguments_depth more)))) (omega (arith, e, count)) l))

  pub args_reach : (arguments : Arguments) → Args_read arguments → (closing : Characters) → Closes closing → (room n m : ℕ) (rest : List Token)
      → (room < inside (arguments_depth arguments) → D) → m ≡ n + arrows (arguments_tokens arguments)
      → Reaches D (arguments_tree n arguments, ends_comma arguments) (at rest m) (args form room (nesting form room) (Sign closing) (at (arguments_tokens arguments (Token.Punct closing ∷ rest)) n))
  unfolding args separated
  args_reach arguments h closing c room n m rest d e =
      reach_then _ (enter_reach room (at (arguments_tokens arguments (Token.Punct closing ∷ rest)) n) (λ l. d (omega (arith, l))))
      (reach_then _ (h closing c room n m (length (arguments_tokens arguments (Token.Punct closing ∷ rest))) [] rest d e (omega arith))
      (reach_then _ (expect_reach closing rest m c.itself) reached))

  pub listed_heads : (arguments : Arguments) → Args_read arguments → Heads D form (Listed arguments)
  unfolding head known_ahead atom
  listed_heads arguments h room n m rest d e u =
      let count = counted (arguments_framed arguments) (Token.Punct (codes "]") ∷ []) in
      reach_then _ (reach_then _ (reach_then _ (args_reach arguments h (codes "]") square_closes room n m rest d (omega (arith, e, count))) reached) reached) reached

  pub log_heads : (x : Expression) → Nests D form x → Heads D form (Log x)
  unfolding head known_ahead called
  log_heads x h room n m rest d e u =
      let count = counted (framed x) (Token.Punct (codes ")") ∷ []) in
      reach_then _ (args_reach (Only x) (only_read x h) (codes ")") round_closes room n m rest d (omega (arith, e, count))) reached

  pub keys_heads : (x : Expression) → Nests D form x → Heads D form (Keys x)
  unfolding head known_ahead called
  keys_heads x h room n m rest d e u =
      let count = counted (framed x) (Token.Punct (codes ")") ∷ []) in
      reach_then _ (args_reach (Only x) (only_read x h) (codes ")") round_closes room n m rest d (omega (arith, e, count))) reached

  pub str_heads : (x : Expression) → Nests D form x → Heads D form (Str x)
  unfolding head known_ahead called
  str_heads x h room n m rest d e u =
      let count = counted (framed x) (Token.Punct (codes ")") ∷ []) in
      reach_then _ (args_reach (Only x) (only_read x h) (codes ")") round_closes room n m rest d (omega (arith, e, count))) reached

  -- with its kind, and a unary
  abbrev pub Values : Expression → Type 0
  Values x = (room n m : ℕ) (rest : List Token) → (room < inside (depth x) → D) → m ≡ n + arrows (tokens x) → Ends 0 rest
      → Reaches D (reading (tree n x) (kind x)) (at rest m) ((nesting form room).value Inner_whole (at (tokens x rest) n))

  abbrev pub Tights : Expression → Type 0
  Tights x = (room n m : ℕ) (rest : List Token) → (room < inside (depth x) → D) → m ≡ n + arrows (tokens x) → Ends 7 rest
      → Reaches D (reading (tree n x) (kind x)) (at rest m) ((nesting form room).value Tight (at (tokens x rest) n))

  pub values : (x : Expression) → Reads D form x → Values x
  unfolding nesting
  values x h zero n m rest d e f = deep (d (omega arith))
  values x h (suc room) n m rest d e f = h room 0 n m rest (λ l. d (omega (arith, l))) (omega arith) (le_binds 0 x (omega arith)) e f

  pub tights : (x : Expression) → binds 7 x ≡ true → Reads D form x → Tights x
  unfolding nesting
  tights x b h zero n m rest d e f = deep (d (omega arith))
  tights x b h (suc room) n m rest d e f = h room 7 n m rest (λ l. d (omega (arith, l))) (omega arith) b e f

  pub trunc_heads : (x y : Expression) → binds 6 x ≡ true → Values x → Tights y → Heads D form (Trunc x y)
  unfolding head known_ahead called trunc divides expect sees
  trunc_heads x y b h k room n m rest d e u =
      let ts = tokens y (Token.Punct (codes ")") ∷ rest) in
      let m1 = n + arrows (tokens x) in
      let count = counted (framed x) (Token.Punct (codes "/") ∷ tokens y (Token.Punct (codes ")") ∷ [])) in
      let count2 = counted (framed y) (Token.Punct (codes ")") ∷ []) in
      let t = binds_le 6 x b in
      let s : first_is (Sign (codes ")")) (tokens x (Token.Punct (codes "/") ∷ ts)) ≡ false = opens_not (codes ")") (tokens x (Token.Punct (codes "/") ∷ ts)) (opens x (Token.Punct (codes "/") ∷ ts)) in
      reach_then _ (reach_then _ (enter_reach room (at (tokens x (Token.Punct (codes "/") ∷ ts)) n) (λ l. d (omega (arith, l)))) reached)
      (rw s (reach_then _ (h room n m1 (Token.Punct (codes "/") ∷ ts) (λ l. d (omega (arith, l, le-max_left (depth x) (depth y)))) refl (omega arith))
      (rw (tight_kind x, le-leb 6 _ t) (reach_then _ (k room m1 m (Token.Punct (codes ")") ∷ rest) (λ l. d (omega (arith, l, le-max_right (depth x) (depth y)))) (omega (arith, e, count, count2)) (omega arith)) reached))))

  -- ---- records

  abbrev pub Field_reads : Field → Type 0
  Field_reads f = (room n m : ℕ) (so_far : List Tree_field) (rest : List Token) → (room < inside (field_depth f) → D) → m ≡ n + arrows (field_tokens f)
      → is_one_of (key_of f) (keys so_far) ≡ false → Ends 0 rest → first_is (Sign (codes ":")) rest ≡ false
      → Reaches D (field_tree n f) (at rest m) (field form room (nesting form room) so_far (at (field_tokens f rest) n))

  pub key_reads : (w : Word) (x : Expression) → Nests D form x → Field_reads (Key w x)
  unfolding field field_value fresh expect sees after
  key_reads (Free a) x h room n m so_far rest d e new f c = rw new (reach_then _ (h room n m rest d e f) reached)
  key_reads (Taken a) x h room n m so_far rest d e new f c = rw new (reach_then _ (h room n m rest d e f) reached)

  pub quoted_key_reads : (q : ℕ) (ps : List Piece) (x : Expression) → Nests D form x → Field_reads (Quoted_key q ps x)
  unfolding field field_value fresh expect sees after
  quoted_key_reads q ps x h room n m so_far rest d e new f c = rw new (reach_then _ (h room n m rest d e f) reached)

  pub short_reads : (a : Characters) → Field_reads (Short a)
  unfolding field fresh sees after
  short_reads a room n m so_far rest d e new f c = rw (new, c) (moved n m (omega (arith, e)) reached)

  field_longer : (f : Field) (ts : List Token) → length ts < length (field_tokens f ts)
  field_longer (Key (Free a) x) ts = let l = longer x ts in omega (arith, l)
  field_longer (Key (Taken a) x) ts = let l = longer x ts in omega (arith, l)
  field_longer (Quoted_key q ps x) ts = let l = longer x ts in omega (arith, l)
  field_longer (Short a) ts = omega arith

  field_opens : (f : Field) (ts : List Token) → first_is (Sign (codes "}")) (field_tokens f ts) ≡ false
  field_opens (Key (Free a) x) ts = refl
  field_opens (Key (Taken a) x) ts = refl
  field_opens (Quoted_key q ps x) ts = refl
  field_opens (Short a) ts = refl

  field_key : (n : ℕ) (f : Field) → (field_tree n f).key ≡ key_of f
  field_key n (Key (Free a) x) = refl
  field_key n (Key (Taken a) x) = refl
  field_key n (Quoted_key q ps x) = refl
  field_key n (Short a) = refl

  abbrev pub ends_field : Fields → Bool
  ends_field No_field = true
  ends_field (Only_field f) = false
  ends_field (Field_comma f more) = ends_field more

  abbrev pub Fields_read : Fields → Type 0
  Fields_read fs = (room n m fuel : ℕ) (so_far : List Tree_field) (rest : List Token) → fields_keep form (keys so_far) fs
      → (room < inside (fields_depth fs) → D) → m ≡ n + arrows (fields_tokens fs) → length (fields_tokens fs (Token.Punct (codes "}") ∷ rest)) ≤ fuel
      → Reaches D (so_far ++ fields_tree n fs, ends_field fs) (at (Token.Punct (codes "}") ∷ rest) m)
      (collected_from (Sign (codes "}")) (field form room (nesting form room)) fuel so_far (at (fields_tokens fs (Token.Punct (codes "}") ∷ rest)) n))

  pub no_field_read : Fields_read No_field
  no_field_read room n m fuel so_far rest ke d e f = rw append-nil (moved n m (omega (arith, e))
      (collected_end (codes "}") _ fuel so_far (at (Token.Punct (codes "}") ∷ rest) n) refl f (omega arith)))

  pub only_field_read : (f : Field) → Field_reads f → Fields_read (Only_field f)
  only_field_read f h room n m fuel so_far rest ke d e l =
      let ts = Token.Punct (codes "}") ∷ rest in
      collected_last (codes "}") (field form room (nesting form room)) fuel so_far (field_tree n f) (at (field_tokens f ts) n) (at ts m)
      (field_opens f ts) refl l (field_longer f ts) (h room n m so_far ts d e ke.0 (omega arith) refl)

  pub field_comma_read : (f : Field) (more : Fields) → Field_reads f → Fields_read more → Fields_read (Field_comma f more)
  field_comma_read f more h k room n m fuel so_far rest ke d e l =
      let ts = fields_tokens more (Token.Punct (codes "}") ∷ rest) in
      let m1 = n + arrows (field_tokens f) in
      let count = counted (field_framed f) (Token.Punct (codes ",") ∷ fields_tokens more []) in
      let long = field_longer f (Token.Punct (codes ",") ∷ ts) in
      let kept : fields_keep form (keys (so_far ++ field_tree n f ∷ [])) more = subst (λ ks. fields_keep form ks more) (ap (λ key. keys so_far ++ key ∷ []) (sym (field_key n f)) ∙ sym (keys_append so_far (field_tree n f))) ke.2 in
      collected_step (codes "}") (field form room (nesting form room)) fuel so_far (field_tree n f) (at (field_tokens f (Token.Punct (codes ",") ∷ ts)) n) (at ts m1)
      (field_opens f (Token.Punct (codes ",") ∷ ts)) l (omega (arith, long))
      (h room n m1 so_far (Token.Punct (codes ",") ∷ ts) (λ l. d (omega (arith, l, le-max_left (field_depth f) (fields_depth more)))) refl ke.0 (omega arith) refl)
      (λ fuel' l. subst (λ ys. Reaches D (ys, ends_field more) (at (Token.Punct (codes "}") ∷ rest) m) (collected_from (Sign (codes "}")) (field form room (nesting form room)) fuel' (so_far ++ field_tree n f ∷ []) (at ts m1)))
      (append_assoc so_far (field_tree n f ∷ []) (fields_tree m1 more))
      (k room m1 m fuel' (so_far ++ field_tree n f ∷ []) rest kept (λ l. d (omega (arith, l, le-max_right (field_depth f) (fields_depth more)))) (omega (arith, e, count)) l))

  pub recorded_heads : (fs : Fields) → fields_keep form [] fs → Fields_read fs → Heads D form (Recorded fs)
  unfolding head known_ahead atom fields collected
  recorded_heads fs ke h room n m rest d e u =
      let ts = fields_tokens fs (Token.Punct (codes "}") ∷ rest) in
      let count = counted (fields_framed fs) (Token.Punct (codes "}") ∷ []) in
      reach_then _ (reach_then _ (reach_then _
      (reach_then _ (enter_reach room (at ts n) (λ l. d (omega (arith, l))))
      (reach_then _ (h room n m (length ts) [] rest ke d (omega (arith, e, count)) (omega arith))
      (reach_then _ (expect_reach (codes "}") rest m refl) reached))) reached) reached) reached

  -- ---- templates

  abbrev pub Holes_read : Holes → Type 0
  Holes_read hs = (room n m fuel : ℕ) (parts : List (List ℕ)) (values : List Expr) (x : Expression) (n0 : ℕ) (rest : List Token) → Nests D form x → (room < inside (depth x) → D)
      → n ≡ n0 + arrows (tokens x) → (room < holes_depth hs → D) → m ≡ n + arrows (holes_tokens hs) → length (tokens x (holes_tokens hs rest)) ≤ fuel
      → Reaches D (parts ++ parts_tree hs, values ++ tree n0 x ∷ holes_tree n hs) (at rest m) (holes_from form room (nesting form room) fuel parts values (at (tokens x (holes_tokens hs rest)) n0))

  pub last_part_read : (ps : List Piece) → Holes_read (Last_part ps)
  unfolding holes_from part
  last_part_read ps room n m zero parts values x n0 rest h dx en d e f = let l = longer x (holes_tokens (Last_part ps) rest) in absurd (omega (arith, f, l))
  last_part_read ps room n m (suc fuel) parts values x n0 rest h dx en d e f =
      reach_then _ (h room n0 m (holes_tokens (Last_part ps) rest) dx (omega (arith, en, e)) (omega arith)) reached

  pub part_hole_read : (ps : List Piece) (y : Expression) (more : Holes) → Nests D form y → Holes_read more → Holes_read (Part_hole ps y more)
  unfolding holes_from part
  part_hole_read ps y more k r room n m zero parts values x n0 rest h dx en d e f = let l = longer x (holes_tokens (Part_hole ps y more) rest) in absurd (omega (arith, f, l))
  part_hole_read ps y more k r room n m (suc fuel) parts values x n0 rest h dx en d e f =
      let l = longer x (holes_tokens (Part_hole ps y more) rest) in
      let m1 = n + arrows (tokens y) in
      let count = counted (framed y) (holes_tokens more []) in
      let p = append_assoc parts (value ps ∷ []) (parts_tree more) in
      let v = append_assoc values (tree n0 x ∷ []) (tree n y ∷ holes_tree m1 more) in
      reach_then _ (h room n0 n (holes_tokens (Part_hole ps y more) rest) dx en (omega arith))
      (subst (λ w. Reaches D w (at rest m) (holes_from form room (nesting form room) fuel (parts ++ value ps ∷ []) (values ++ tree n0 x ∷ []) (at (tokens y (holes_tokens more rest)) n)))
      (ap (λ p. (p, (values ++ tree n0 x ∷ []) ++ tree n y ∷ holes_tree m1 more)) p ∙ ap (λ v. (parts ++ value ps ∷ parts_tree more, v)) v)
      (r room m1 m fuel (parts ++ value ps ∷ []) (values ++ tree n0 x ∷ []) y n rest k (λ l. d (omega (arith, l, le-max_left (inside (depth y)) (holes_depth more)))) refl
      (λ l. d (omega (arith, l, le-max_right (inside (depth y)) (holes_depth more)))) (omega (arith, e, count)) (omega (arith, f, l))))

  pub holed_heads : (ps : List Piece) (x : Expression) (more : Holes) → Nests D form x → Holes_read more → Heads D form (Holed ps x more)
  unfolding head known_ahead atom holes
  holed_heads ps x more h k room n m rest d e u =
      let m1 = n + arrows (tokens x) in
      let count = counted (framed x) (holes_tokens more []) in
      reach_then _ (reach_then _ (reach_then _ (k room m1 m (suc (length (tokens x (holes_tokens more rest)))) (value ps ∷ []) [] x n rest h
      (λ l. d (omega (arith, l, le-max_left (inside (depth x)) (holes_depth more)))) refl (λ l. d (omega (arith, l, le-max_right (inside (depth x)) (holes_depth more)))) (omega (arith, e, count)) (omega arith)) reached) reached) reached
