-- A fault of nesting comes only behind so many tokens that can raise it: expressions.
use Rattle.std.proofs.Common.{◌≡◌, refl, sym, ap, subst, arith}
use Rattle.std.specs.Prelude.{ℕ, zero, suc, ◌-◌, Bool, true, false, ◌&&◌, nat_le, List, [], ◌∷◌, ◌++◌, length, Option, Some, None, codes}
use Rattle.qk_ast.specs.declared.Form.{Form}
use Rattle.qk_ast.specs.declared.Expr.{Expr}
use Rattle.qk_ast.specs.declared.Link.{Link as Tree_link}
use Rattle.qk_ast.specs.declared.Field.{Field as Tree_field}
use Rattle.qk_ast.specs.declared.Bin.{Bin}
use Rattle.qk_ast.specs.declared.Known.{Known}
use Rattle.qk_ast.specs.declared.Known.TheVariants as known
use Rattle.qk_ast.specs.Characters.{Characters, same, is_one_of}
use Rattle.qk_ast.specs.Tokens.{Token, Edge}
use Rattle.qk_ast.specs.Tree.{bytes, value}
use Rattle.qk_ast.specs.Grammar.{Level, Or_level, Coalesce_level, And_level, Same_level, Order_level, Sum_level, Product_level}
use Rattle.qk_reading.specs.Input.{Input, at, Outcome, Reader, Nested, Inner, Whole, Tight, Tagged, Untagged, Braced, Single, Otherwise, Read, Kind, pure, peek, maybe, ◌>>=◌, ◌<$>◌, Mark, Sign, rest, advance, sees, name, many}
use Rattle.qk_reading.specs.Ahead.{arrow_ahead, known_ahead, kind_tightness, operator_at, operator}
use Rattle.qk_reading.specs.Parts.{names, pattern, params, arrow_head, fresh, keys, part, literal, word_by, divides, is_dividend, dot_by, operand, chain}
use Rattle.qk_reading.specs.Forms.{nested, args, field_value, field, fields, holes_from, holes, bracketed, start_by, bracket_by, atom, called, trunc, trunc_from, trunc_by, more_by, head, link, links_from, links, postfix, unary, product, sum, order, equality, conjunction, logic, logic_by, choice, arrow, whole}
use Rattle.qk_reading.specs.Laws.{can_raise}
use Rattle.qk_ast.proofs.FrontToken.{same_is}
use Rattle.qk_reading.proofs.Follow.{by_bool}
use Rattle.qk_reading.proofs.SoundCalls.{known_tokens, Begins_known, begins_known}
use Rattle.qk_reading.proofs.Raised.{Good, fine, wrong, Follows, here, pass, weaker, raise, skip, good_then, good_later, by_seen, good_expect, number_raises, good_then_then, good_number, good_name, good_enter, good_many, good_separated, good_separated_from, good_collected}

-- what nests so deep at most is good
pub record IsGood (room : ℕ) (inner : Nested) : Type 0 where
  pub value : (which : Inner) (i : Input) → Good room i (inner.value which i)
  pub body : (i : Input) → Good room i (inner.body i)
  pub braced : (looped : Bool) (i : Input) → Good room i (inner.group (Braced looped) i)
  pub alone : (looped : Bool) (i : Input) → Good room i (inner.group (Single looped) i)
  pub otherwise : (looped : Bool) (i : Input) → Good (room - 1) i (inner.group (Otherwise looped) i)

pub raise_sign : {A : Type 0} {n : ℕ} {o : Outcome A} (s a : Characters) (ts : List Token) (m : ℕ) → same a s ≡ true → can_raise (Token.Punct s) ≡ true → Good n (at ts m) o → Good (suc n) (at (Token.Punct a ∷ ts) m) o
raise_sign s a ts m h r g = raise {j = at ts m} (Token.Punct s) r (ap (λ c. Token.Punct c ∷ ts) (sym (same_is a s h))) g

pub raise_word : {A : Type 0} {n : ℕ} {o : Outcome A} (w a : Characters) (ts : List Token) (m : ℕ) → same a w ≡ true → can_raise (Token.Reserved w) ≡ true → Good n (at ts m) o → Good (suc n) (at (Token.Reserved a ∷ ts) m) o
raise_word w a ts m h r g = raise {j = at ts m} (Token.Reserved w) r (ap (λ c. Token.Reserved c ∷ ts) (sym (same_is a w h))) g

-- one token taken, or none where none is left
pub one_behind : (i : Input) → Follows i (advance i)
one_behind i = record { front = front i.tokens; spells = so i.tokens }
  where
    front : List Token → List Token
    front [] = []
    front (t ∷ ts) = t ∷ []

    so : (ts : List Token) → front ts ++ rest ts ≡ ts
    so [] = refl
    so (t ∷ ts) = refl

-- OBJECT . METHOD and a bracket
dotted_raises : {A : Type 0} {n : ℕ} {o : Outcome A} (object method : Characters) (us : List Token) (m : ℕ) → Good n (at us m) o
    → Good (suc n) (at (Token.Name object ∷ Token.Punct (codes ".") ∷ Token.Name method ∷ Token.Punct (codes "(") ∷ us) m) o
dotted_raises object method us m g =
    pass {j = at (Token.Punct (codes "(") ∷ us) m} (record { front = Token.Name object ∷ Token.Punct (codes ".") ∷ Token.Name method ∷ []; spells = refl }) (raise {j = at us m} (Token.Punct (codes "(")) refl refl g)

-- ---- names and patterns

pub good_names : {n : ℕ} (i : Input) → Good n i (names i)
unfolding names
good_names i = by_bool (sees (Sign (codes "}")) i) (λ s. rw s wrong) (λ s. rw s (good_then (good_separated (Sign (codes "}")) (bytes <$> name) (λ k. good_then (good_name (λ _. true) k) (λ x j. fine here)) i) (λ x j. fine here)))

pub good_pattern : (room : ℕ) (i : Input) → Good (suc room) i (pattern room i)
unfolding pattern
good_pattern room i = by_seen (Sign (codes "{")) i
    (λ s a e. rw (s, a) (raise {j = advance i} (Token.Punct (codes "{")) refl e (good_then (good_enter room (advance i)) (λ _ j. good_then (good_names j) (λ xs k. good_then (good_expect (Sign (codes "}")) k) (λ _ l. fine here))))))
    (λ s a. rw (s, a) (good_then (good_name (λ _. true) i) (λ x j. fine here)))

good_params : (room : ℕ) (i : Input) → Good (suc room) i (params room i)
unfolding params
good_params room i = by_seen (Sign (codes "(")) i
    (λ s a e. rw (s, a) (raise {j = advance i} (Token.Punct (codes "(")) refl e (good_then (good_enter room (advance i)) (λ _ j.
    good_then (good_separated (Sign (codes ")")) (pattern (room - 1)) (λ k. weaker (omega arith) (good_pattern (room - 1) k)) j) (λ xs k. good_then (good_expect (Sign (codes ")")) k) (λ _ l. fine here))))))
    (λ s a. rw (s, a) (good_then (good_name (λ _. true) i) (λ x j. fine here)))

good_head_of_arrow : (room : ℕ) (i : Input) → Good (suc room) i (arrow_head room i)
unfolding arrow_head
good_head_of_arrow room i = good_then (good_params room i) (λ xs j. good_then (good_number j) (λ n k. fine here))

module _ (form : Form) (room : ℕ) (inner : Nested) (g : IsGood room inner) where
  pub good_nested : (i : Input) → Good room i (nested form room inner i)
  good_nested i = good_then (g.value Whole i) (λ x j. fine here)

  -- ---- lists in brackets

  good_args : (closing : Mark) (i : Input) → Good room i (args form room inner closing i)
  unfolding args
  good_args closing i = good_then (good_enter room i) (λ _ j. good_then (good_separated closing (nested form room inner) good_nested j) (λ xs k. good_then (good_expect closing k) (λ _ l. fine here)))

  good_field_value : (key : List ℕ) (i : Input) → Good room i (field_value form room inner key i)
  unfolding field_value
  good_field_value key i = good_then (good_expect (Sign (codes ":")) i) (λ _ j. good_then (good_nested j) (λ x k. fine here))

  field_at : (so_far : List Tree_field) (ts : List Token) (m : ℕ) → Good room (at ts m) (field form room inner so_far (at ts m))
  unfolding field fresh
  field_at so_far [] m = wrong
  field_at so_far (Token.Name a ∷ ts) m = by_bool (is_one_of (bytes a) (keys so_far)) (λ s. rw s wrong) (λ s. rw s (skip {j = at ts m} (Token.Name a) refl (by_seen (Sign (codes ":")) (at ts m)
      (λ z b e. rw (z, b) (skip {j = advance (at ts m)} (Token.Punct (codes ":")) e (good_then (good_nested (advance (at ts m))) (λ x j. fine here))))
      (λ z b. rw (z, b) (fine here)))))
  field_at so_far (Token.Reserved a ∷ ts) m = by_bool (is_one_of (bytes a) (keys so_far)) (λ s. rw s wrong) (λ s. rw s (skip {j = at ts m} (Token.Reserved a) refl (good_field_value (bytes a) (at ts m))))
  field_at so_far (Token.Text q ps ∷ ts) m = by_bool (is_one_of (value ps) (keys so_far)) (λ s. rw s wrong) (λ s. rw s (skip {j = at ts m} (Token.Text q ps) refl (good_field_value (value ps) (at ts m))))
  field_at so_far (t ∷ ts) m = wrong

  good_fields : (i : Input) → Good room i (fields form room inner i)
  unfolding fields
  good_fields i = good_then (good_enter room i) (λ _ j. good_then (good_collected (Sign (codes "}")) (field form room inner) (λ so_far k. field_at so_far k.tokens k.arrows) j) (λ xs k. good_then (good_expect (Sign (codes "}")) k) (λ _ l. fine here)))

  -- ---- templates and atoms

  part_at : (ts : List Token) (m : ℕ) → Good room (at ts m) (part (at ts m))
  unfolding part
  part_at [] m = wrong
  part_at (Token.Template Edge.Hole ps Edge.Hole ∷ ts) m = skip {j = at ts m} (Token.Template Edge.Hole ps Edge.Hole) refl (fine here)
  part_at (Token.Template Edge.Hole ps Edge.Backquote ∷ ts) m = skip {j = at ts m} (Token.Template Edge.Hole ps Edge.Backquote) refl (fine here)
  part_at (t ∷ ts) m = wrong

  good_holes_from : (k : ℕ) (parts : List (List ℕ)) (values : List Expr) (i : Input) → Good room i (holes_from form room inner k parts values i)
  unfolding holes_from
  good_holes_from zero parts values i = wrong
  good_holes_from (suc k) parts values i = good_then (good_nested i) (λ x a. good_then (part_at a.tokens a.arrows) (λ r b. by_bool r.1 (λ s. rw s (good_holes_from k (parts ++ r.0 ∷ []) (values ++ x ∷ []) b)) (λ s. rw s (fine here))))

  good_holes : (text : List ℕ) (i : Input) → Good room i (holes form room inner text i)
  unfolding holes
  good_holes text i = good_then (good_holes_from (suc (length i.tokens)) (text ∷ []) [] i) (λ xs j. fine here)

  good_bracketed : (i : Input) → Good room i (bracketed form room inner i)
  unfolding bracketed
  good_bracketed i = good_then (good_nested i) (λ x j. good_then (good_expect (Sign (codes ")")) j) (λ _ k. fine here))

  pub good_start : (a : Characters) (ts : List Token) (m : ℕ) → Good (suc room) (at (Token.Begin a ∷ ts) m) (start_by form room inner a (at (Token.Begin a ∷ ts) m))
  good_start a ts m =
      by_bool (same a (codes "<")) (λ h. rw h (raise {j = at ts m} (Token.Begin a) refl refl (good_then (g.value Tagged (at ts m)) (λ x j. fine here)))) (λ h1.
      by_bool (same a (codes "<>")) (λ h. rw (h1, h) (raise {j = at ts m} (Token.Begin a) refl refl (good_then (g.value Untagged (at ts m)) (λ x j. fine here)))) (λ h2. rw (h1, h2) wrong))

  good_bracket : (a : Characters) (ts : List Token) (m : ℕ) → Good (suc room) (at (Token.Punct a ∷ ts) m) (bracket_by form room inner a (at (Token.Punct a ∷ ts) m))
  good_bracket a ts m =
      by_bool (same a (codes "(")) (λ h. rw h (raise_sign (codes "(") a ts m h refl (good_bracketed (at ts m)))) (λ h1.
      by_bool (same a (codes "[")) (λ h. rw (h1, h) (raise_sign (codes "[") a ts m h refl (good_then (good_args (Sign (codes "]")) (at ts m)) (λ xs j. fine here)))) (λ h2.
      by_bool (same a (codes "{")) (λ h. rw (h1, h2, h) (raise_sign (codes "{") a ts m h refl (good_then (good_fields (at ts m)) (λ xs j. fine here)))) (λ h3. rw (h1, h2, h3) wrong)))

  good_word : (o : Option Expr) (t : Token) (ts : List Token) (m : ℕ) → Good (suc room) (at (t ∷ ts) m) (word_by o (at (t ∷ ts) m))
  good_word None t ts m = wrong
  good_word (Some x) t ts m = skip {j = at ts m} t refl (fine here)

  atom_at : (ts : List Token) (m : ℕ) → Good (suc room) (at ts m) (atom form room inner (at ts m))
  unfolding atom
  atom_at [] m = wrong
  atom_at (Token.Name a ∷ ts) m = skip {j = at ts m} (Token.Name a) refl (fine here)
  atom_at (Token.Reserved a ∷ ts) m = good_then (good_word (literal a) (Token.Reserved a) ts m) (λ x j. fine here)
  atom_at (Token.Int a ∷ ts) m = skip {j = at ts m} (Token.Int a) refl (fine here)
  atom_at (Token.Text q ps ∷ ts) m = skip {j = at ts m} (Token.Text q ps) refl (fine here)
  atom_at (Token.Template Edge.Backquote ps Edge.Backquote ∷ ts) m = skip {j = at ts m} (Token.Template Edge.Backquote ps Edge.Backquote) refl (fine here)
  atom_at (Token.Template Edge.Backquote ps Edge.Hole ∷ ts) m = raise {j = at ts m} (Token.Template Edge.Backquote ps Edge.Hole) refl refl (good_then (good_holes (value ps) (at ts m)) (λ x j. fine here))
  atom_at (Token.Punct a ∷ ts) m = good_then (good_bracket a ts m) (λ x j. fine here)
  atom_at (Token.Begin a ∷ ts) m = good_then (good_start a ts m) (λ x j. fine here)
  atom_at (t ∷ ts) m = wrong

  -- ---- calls and links

  good_more : (x : Expr) (b : Bool) (i : Input) → Good room i (more_by form room inner x b i)
  good_more x true i = good_separated_from (Sign (codes ")")) (nested form room inner) good_nested (length i.tokens) (x ∷ []) i
  good_more x false i = fine here

  good_trunc_by : (x : Read) (a : Input) (b : Bool) → is_dividend x.kind a ≡ b → Good room a (trunc_by form room inner x.tree b a)
  good_trunc_by x a true h = pass (one_behind a) (good_then (g.value Tight (advance a)) (λ y c. good_then (good_expect (Sign (codes ")")) c) (λ _ d. fine here)))
  good_trunc_by x a false h = by_seen (Sign (codes ",")) a
      (λ s b e. rw (s, b) (skip {j = advance a} (Token.Punct (codes ",")) e (good_then (good_more x.tree true (advance a)) (λ xs c. good_then (good_expect (Sign (codes ")")) c) (λ _ d. fine here)))))
      (λ s b. rw (s, b) (good_then (good_expect (Sign (codes ")")) a) (λ _ d. fine here)))

  good_trunc_from : (i : Input) (b : Bool) → Good room i (trunc_from form room inner b i)
  unfolding divides
  good_trunc_from i true = pass (one_behind i) (fine here)
  good_trunc_from i false = good_then (g.value Whole i) (λ x a. good_trunc_by x a (is_dividend x.kind a) refl)

  good_trunc : (i : Input) → Good room i (trunc form room inner i)
  unfolding trunc
  good_trunc i = good_then (good_then (good_enter room i) (λ _ j. fine here)) (λ b j. good_trunc_from j b)

  good_call : (k : Known) (us : List Token) (m : ℕ) → Good (suc room) (at (known_tokens k us) m) (head form room inner (at (known_tokens k us) m))
  unfolding head known_ahead called
  good_call known.Str us m = skip {j = at (Token.Punct (codes "(") ∷ us) m} (Token.Name (codes "String")) refl (raise {j = at us m} (Token.Punct (codes "(")) refl refl (good_then (good_args (Sign (codes ")")) (at us m)) (λ xs j. fine here)))
  good_call known.Log us m = dotted_raises (codes "console") (codes "log") us m (good_then (good_args (Sign (codes ")")) (at us m)) (λ xs j. fine here))
  good_call known.Keys us m = dotted_raises (codes "Object") (codes "keys") us m (good_then (good_args (Sign (codes ")")) (at us m)) (λ xs j. fine here))
  good_call known.Trunc us m = dotted_raises (codes "Math") (codes "trunc") us m (good_trunc (at us m))

  head_at : (ts : List Token) (m : ℕ) (o : Option Known) → known_ahead ts ≡ o → Begins_known ts o → Good (suc room) (at ts m) (head form room inner (at ts m))
  unfolding head
  head_at ts m None u b = rw u (good_then (atom_at ts m) (λ x j. fine here))
  head_at ts m (Some k) u b = subst (λ ts. Good (suc room) (at ts m) (head form room inner (at ts m))) (sym b.1) (good_call k b.0 m)

  dot_at : (ts : List Token) (m : ℕ) → Good (suc room) (at ts m) ((peek >>= dot_by) (at ts m))
  dot_at [] m = wrong
  dot_at (Token.Name a ∷ ts) m = skip {j = at ts m} (Token.Name a) refl (fine here)
  dot_at (Token.Reserved a ∷ ts) m = skip {j = at ts m} (Token.Reserved a) refl (fine here)
  dot_at (t ∷ ts) m = wrong

  link_at : (ts : List Token) (m : ℕ) → Good (suc room) (at ts m) (link form room inner (at ts m))
  unfolding link
  link_at [] m = fine here
  link_at (Token.Punct a ∷ ts) m =
      by_bool (same a (codes ".")) (λ h. rw h (skip {j = at ts m} (Token.Punct a) refl (good_then (dot_at ts m) (λ w j. fine here)))) (λ h1.
      by_bool (same a (codes "[")) (λ h. rw (h1, h) (raise_sign (codes "[") a ts m h refl (good_then (good_nested (at ts m)) (λ x j. good_then (good_expect (Sign (codes "]")) j) (λ _ k. fine here))))) (λ h2.
      by_bool (same a (codes "(")) (λ h. rw (h1, h2, h) (raise_sign (codes "(") a ts m h refl (good_then (good_args (Sign (codes ")")) (at ts m)) (λ xs j. fine here)))) (λ h3. rw (h1, h2, h3) (fine here))))
  link_at (t ∷ ts) m = fine here

  good_links_from : (k : ℕ) (kind : Kind) (so_far : List Tree_link) (i : Input) → Good (suc room) i (links_from form room inner k kind so_far i)
  unfolding links_from
  good_links_from zero kind so_far i = fine here
  good_links_from (suc k) kind so_far i = good_then (link_at i.tokens i.arrows) (λ o j. elim o as (λ o. Good (suc room) j (maybe o (pure (so_far, kind)) (λ (x : Tree_link × Kind). links_from form room inner k (x.1) (so_far ++ x.0 ∷ [])) j)) [
    | None ↦ fine here
    | Some x ↦ good_links_from k (x.1) (so_far ++ x.0 ∷ []) j
  ])

  pub good_postfix : (i : Input) → Good (suc room) i (postfix form room inner i)
  unfolding postfix links
  good_postfix i = good_then (head_at i.tokens i.arrows (known_ahead i.tokens) refl (begins_known i.tokens)) (λ h j. good_then (good_links_from (length j.tokens) h.kind h.links j) (λ xs k. fine here))

  -- ---- operators

  pub good_unary : (i : Input) → Good (suc room) i (unary form room inner i)
  unfolding unary
  good_unary i = by_seen (Sign (codes "!")) i
      (λ s a e. rw (s, a) (raise {j = advance i} (Token.Punct (codes "!")) refl e (good_then (g.value Tight (advance i)) (λ x j. fine here))))
      (λ s a. rw (s, a) (by_seen (Sign (codes "-")) i
      (λ s a e. rw (s, a) (raise {j = advance i} (Token.Punct (codes "-")) refl e (good_then (g.value Tight (advance i)) (λ x j. fine here))))
      (λ s a. rw (s, a) (good_postfix i))))

  good_operand : (level : Level) (tighter : Reader Read) → ((i : Input) → Good (suc room) i (tighter i)) → (i : Input) → Good (suc room) i (operand level tighter i)
  unfolding operand operator
  good_operand level tighter h i = go (operator_at level i.tokens) refl
    where
      go : (o : Option Bin) → operator_at level i.tokens ≡ o → Good (suc room) i (operand level tighter i)
      go None q = rw q (fine here)
      go (Some op) q = rw q (pass (one_behind i) (good_then (h (advance i)) (λ x j. fine here)))

  good_operands : (level : Level) (tighter : Reader Read) → ((i : Input) → Good (suc room) i (tighter i)) → (i : Input) → Good (suc room) i (many (operand level tighter) i)
  good_operands level tighter h i = good_many (operand level tighter) (good_operand level tighter h) i

  good_chain : (level : Level) (tighter : Reader Read) → ((i : Input) → Good (suc room) i (tighter i)) → (i : Input) → Good (suc room) i (chain level tighter i)
  unfolding chain
  good_chain level tighter h i = good_then (h i) (λ x j. good_then (good_operands level tighter h j) (λ ys k. fine here))

  good_product : (i : Input) → Good (suc room) i (product form room inner i)
  unfolding product
  good_product i = good_chain Product_level (unary form room inner) good_unary i

  good_sum : (i : Input) → Good (suc room) i (sum form room inner i)
  unfolding sum
  good_sum i = good_chain Sum_level (product form room inner) good_product i

  good_order : (i : Input) → Good (suc room) i (order form room inner i)
  unfolding order
  good_order i = good_chain Order_level (sum form room inner) good_sum i

  good_equality : (i : Input) → Good (suc room) i (equality form room inner i)
  unfolding equality
  good_equality i = good_chain Same_level (order form room inner) good_order i

  good_conjunction : (i : Input) → Good (suc room) i (conjunction form room inner i)
  unfolding conjunction
  good_conjunction i = good_chain And_level (equality form room inner) good_equality i

  good_logic_by : (x : Read) (b : Bool) (i : Input) → Good (suc room) i (logic_by form room inner x b i)
  good_logic_by x true i = good_then (good_operands Coalesce_level (equality form room inner) good_equality i) (λ ys j. fine here)
  good_logic_by x false i = good_then (good_operands Or_level (conjunction form room inner) good_conjunction i) (λ ys j. fine here)

  good_logic : (i : Input) → Good (suc room) i (logic form room inner i)
  unfolding logic
  good_logic i = good_then (good_conjunction i) (λ x j. good_logic_by x (sees (Sign (codes "??")) j && nat_le 3 (kind_tightness x.kind)) j)

  good_choice : (i : Input) → Good (suc room) i (choice form room inner i)
  unfolding choice
  good_choice i = good_then (good_logic i) (λ x a. by_seen (Sign (codes "?")) a
      (λ s q e. rw (s, q) (raise {j = advance a} (Token.Punct (codes "?")) refl e (good_then (good_nested (advance a)) (λ y b. good_then (good_expect (Sign (codes ":")) b) (λ _ c. good_then (good_nested c) (λ z d. fine here))))))
      (λ s q. rw (s, q) (fine here)))

  good_arrow : (i : Input) → Good (suc room) i (arrow form room inner i)
  unfolding arrow arrow_head
  good_arrow i = good_then_then _ _ (good_params room i) (λ xs j. number_raises _ _ j (λ n k. good_then (g.body k) (λ x l. fine here)))

  -- an expression
  pub good_whole : (i : Input) → Good (suc room) i (whole form room inner i)
  unfolding whole
  good_whole i = by_bool (arrow_ahead i) (λ s. rw s (good_arrow i)) (λ s. rw s (good_later (good_head_of_arrow room i) (good_choice i)))
