-- What is written is read, or its nesting is too deep: the steps and loops.
use Rattle.std.proofs.Common.{◌≡◌, refl, sym, subst, arith, inl, inr, eq-or-lt_of_le}
use Rattle.std.specs.Prelude.{ℕ, zero, suc, ◌≤◌, ◌<◌, Bool, true, false, List, [], ◌∷◌, length, Option, Some, None, Ok, Err, codes}
use borrow.Author.Tests.{le-leb}
use Rattle.qk_ast.specs.declared.Form.{Form}
use Rattle.qk_ast.specs.declared.Link.{Link as Tree_link}
use Rattle.qk_ast.specs.declared.Expr.{Expr}
use Rattle.qk_ast.specs.declared.Expr.TheVariants as e
use Rattle.qk_ast.specs.declared.Bin.{Bin}
use Rattle.qk_ast.specs.declared.Operand.{Operand as Tree_operand}
use Rattle.qk_ast.specs.Characters.{Characters}
use Rattle.qk_ast.specs.Tokens.{Token}
use Rattle.qk_ast.specs.Grammar.{Level, Or_level, Coalesce_level, And_level, Same_level, Order_level, Sum_level, Product_level}
use Rattle.qk_ast.specs.Spelling.{bin_sign}
use Rattle.qk_ast.specs.Rules.{tightness_of, operand_tightness, is_of_level}
use Rattle.qk_reading.specs.Input.{Input, at, TooDeep, Outcome, Reader, and_then, Kind, Chained, Read, reading, headed, Mark, Sign, first_is, sees, after, enter, many_from, many}
use Rattle.qk_reading.specs.Ahead.{kind_tightness, operator_at, operator, arrow_ahead}
use Rattle.qk_reading.specs.Parts.{later, operand, chain}
use Rattle.qk_reading.specs.Forms.{head, link, links_from, links, postfix, unary, product, sum, order, equality, conjunction, logic, choice, whole}
use Rattle.qk_reading.specs.Reader.{nesting}
use Rattle.qk_reading.proofs.Follow.{Ends, Opens, Arrowless, ends_weaker, first_not, opens_not, no_operator, sign_seen, sign_taken}

-- the tree is found, or the text is too deep
pub data Reaches {A : Type 0} (D : Type 0) (x : A) (j : Input) : Outcome A → Type 0 where
  reached : Reaches D x j (Ok (x, j))
  deep : {left : ℕ} → D → Reaches D x j (Err (TooDeep left))

pub reach_then : {A B : Type 0} {D : Type 0} {x : A} {y : B} {j k : Input} {o : Outcome A} (f : A → Reader B)
    → Reaches D x j o → Reaches D y k (f x j) → Reaches D y k (and_then o f)
reach_then f reached r = r
reach_then f (deep d) r = deep d

pub reach_later : {A B : Type 0} {D : Type 0} {x : A} {j : Input} {o : Outcome A} (other : Outcome B) → Reaches D x j o → Reaches D x j (later other o)
reach_later other reached = reached
reach_later other (deep d) = deep d

pub enter_reach : {D : Type 0} (room : ℕ) (i : Input) → (room < 1 → D) → Reaches D tt i (enter room i)
unfolding enter
enter_reach zero i d = deep (d (omega arith))
enter_reach (suc room) i d = reached

pub many_stop : {A : Type 0} (step : Reader (Option A)) (n : ℕ) (so_far : List A) (j : Input) → step j ≡ Ok (None, j) → many_from step n so_far j ≡ Ok (so_far, j)
unfolding many_from
many_stop step zero so_far j e = refl
many_stop step (suc n) so_far j e = rw e refl

pub unseen : (a : Characters) (i : Input) → first_is (Sign a) i.tokens ≡ false → sees (Sign a) i ≡ false
unfolding sees
unseen a i e = e

pub after_unseen : (m : Mark) (i : Input) → sees m i ≡ false → after m i ≡ i
unfolding after
after_unseen m i e = rw e refl

-- the reader of what binds so tightly at least
abbrev pub reader_at : Form → ℕ → ℕ → Reader Read
reader_at form room zero = whole form room (nesting form room)
reader_at form room (suc zero) = logic form room (nesting form room)
reader_at form room (suc (suc zero)) = conjunction form room (nesting form room)
reader_at form room (suc (suc (suc zero))) = equality form room (nesting form room)
reader_at form room (suc (suc (suc (suc zero)))) = order form room (nesting form room)
reader_at form room (suc (suc (suc (suc (suc zero))))) = sum form room (nesting form room)
reader_at form room (suc (suc (suc (suc (suc (suc zero)))))) = product form room (nesting form room)
reader_at form room (suc (suc (suc (suc (suc (suc (suc zero))))))) = unary form room (nesting form room)
reader_at form room (suc (suc (suc (suc (suc (suc (suc (suc k)))))))) = postfix form room (nesting form room)

abbrev pub is_coalesce : Level → Bool
is_coalesce Coalesce_level = true
is_coalesce _ = false

module _ (D : Type 0) (form : Form) (room : ℕ) where
  pub operand_none : (level : Level) (tighter : Reader Read) (j : Input) → operator_at level j.tokens ≡ None → operand level tighter j ≡ Ok (None, j)
  unfolding operand operator
  operand_none level tighter j e = rw e refl

  pub operand_reach : (level : Level) (tighter : Reader Read) (op : Bin) (ts : List Token) (n : ℕ) (y : Read) (j : Input) → is_of_level level op ≡ true
      → Reaches D y j (tighter (at ts n)) → Reaches D (Some (record { op = op; value = y.tree })) j (operand level tighter (at (bin_sign op ts) n))
  unfolding operand operator operator_at
  operand_reach level tighter op ts n y j h r = rw (sign_seen op ts, h, sign_taken op ts) (reach_then _ r reached)

  -- a chain of one
  pub chain_alone : (level : Level) (tighter : Reader Read) (i j : Input) (x : Read) → Reaches D x j (tighter i) → operator_at level j.tokens ≡ None
      → Reaches D x j (chain level tighter i)
  unfolding chain many
  chain_alone level tighter i j x r e = reach_then _ r (rw (many_stop (operand level tighter) (length j.tokens) [] j (operand_none level tighter j e)) reached)

  step_down : (k : ℕ) → k ≤ 6 → (i j : Input) (x : Read) → Reaches D x j (reader_at form room (suc k) i) → Ends k j.tokens → Arrowless i.tokens → Reaches D x j (reader_at form room k i)
  unfolding whole arrow_ahead choice logic conjunction equality order sum product many
  step_down zero le i j x r e a =
      let s = unseen (codes "?") j (first_not (codes "?") 0 j.tokens (omega arith) e) in
      rw a (reach_later _ (reach_then _ r (rw (s, after_unseen (Sign (codes "?")) j s) reached)))
  step_down (suc zero) le i j x r e a =
      let s = unseen (codes "??") j (first_not (codes "??") 1 j.tokens (omega arith) e) in
      reach_then _ r (rw (s, many_stop (operand Or_level (conjunction form room (nesting form room))) (length j.tokens) [] j (operand_none Or_level (conjunction form room (nesting form room)) j (no_operator Or_level 1 j.tokens (omega arith) e))) reached)
  step_down (suc (suc zero)) le i j x r e a = chain_alone And_level _ i j x r (no_operator And_level 2 j.tokens (omega arith) e)
  step_down (suc (suc (suc zero))) le i j x r e a = chain_alone Same_level _ i j x r (no_operator Same_level 3 j.tokens (omega arith) e)
  step_down (suc (suc (suc (suc zero)))) le i j x r e a = chain_alone Order_level _ i j x r (no_operator Order_level 4 j.tokens (omega arith) e)
  step_down (suc (suc (suc (suc (suc zero))))) le i j x r e a = chain_alone Sum_level _ i j x r (no_operator Sum_level 5 j.tokens (omega arith) e)
  step_down (suc (suc (suc (suc (suc (suc zero)))))) le i j x r e a = chain_alone Product_level _ i j x r (no_operator Product_level 6 j.tokens (omega arith) e)
  step_down (suc (suc (suc (suc (suc (suc (suc k))))))) le i j x r e a = absurd (omega (arith, le))

  -- what is read at one level is read at every looser one
  pub climb : (t : ℕ) → t ≤ 7 → (i j : Input) (x : Read) → Reaches D x j (reader_at form room t i) → (least : ℕ) → least ≤ t → Ends least j.tokens → Arrowless i.tokens
      → Reaches D x j (reader_at form room least i)
  climb zero le i j x r zero l e a = r
  climb zero le i j x r (suc least) l e a = absurd (omega (arith, l))
  climb (suc t) le i j x r least l e a = elim (eq-or-lt_of_le l) [
    | inl h ↦ subst (λ k. Reaches D x j (reader_at form room k i)) (sym h) r
    | inr h ↦ climb t (omega (arith, le)) i j x (step_down t (omega (arith, le)) i j x r (ends_weaker least t j.tokens (omega (arith, h)) e) a) least (omega (arith, h)) e a
  ]

  -- a postfix form is a unary
  pub unary_plain : (i j : Input) (x : Read) → Reaches D x j (postfix form room (nesting form room) i) → Opens 2 i.tokens → Reaches D x j (unary form room (nesting form room) i)
  unfolding unary
  unary_plain i j x r o =
      let s = unseen (codes "!") i (opens_not (codes "!") i.tokens o) in
      let s' = unseen (codes "-") i (opens_not (codes "-") i.tokens o) in
      rw (s, after_unseen (Sign (codes "!")) i s, s', after_unseen (Sign (codes "-")) i s') r

  pub link_none : (ts : List Token) (n : ℕ) → Ends 8 ts → link form room (nesting form room) (at ts n) ≡ Ok (None, at ts n)
  unfolding link
  link_none [] n e = refl
  link_none (Token.Punct c ∷ ts) n e =
      let a = first_not (codes ".") 8 (Token.Punct c ∷ ts) (omega arith) e in
      let b = first_not (codes "[") 8 (Token.Punct c ∷ ts) (omega arith) e in
      let d = first_not (codes "(") 8 (Token.Punct c ∷ ts) (omega arith) e in
      rw (a, b, d) refl
  link_none (Token.Name c ∷ ts) n e = refl
  link_none (Token.Reserved c ∷ ts) n e = refl
  link_none (Token.Int c ∷ ts) n e = refl
  link_none (Token.Text q c ∷ ts) n e = refl
  link_none (Token.Attribute q c ∷ ts) n e = refl
  link_none (Token.Template f c t ∷ ts) n e = refl
  link_none (Token.Begin c ∷ ts) n e = refl
  link_none (Token.JsxText c ∷ ts) n e = refl

  pub links_stop : (n : ℕ) (kind : Kind) (so_far : List Tree_link) (j : Input) → Ends 8 j.tokens → links_from form room (nesting form room) n kind so_far j ≡ Ok ((so_far, kind), j)
  unfolding links_from
  links_stop zero kind so_far j e = refl
  links_stop (suc n) kind so_far j e = rw (link_none j.tokens j.arrows e) refl

  -- an atom alone is a postfix form
  pub postfix_alone : (i j : Input) (t : Expr) (kind : Kind) → Reaches D (headed t kind []) j (head form room (nesting form room) i) → Ends 8 j.tokens
      → Reaches D (reading t kind) j (postfix form room (nesting form room) i)
  unfolding postfix links
  postfix_alone i j t kind r e = reach_then _ r (rw (links_stop (length j.tokens) kind [] j e) reached)

  -- the operands are read behind the first of them, and it may be followed by them
  pub chain_own : (level : Level) (i j k : Input) (x : Read) (y : Tree_operand) (ys : List Tree_operand)
      → ((least : ℕ) → least ≤ operand_tightness level → suc (tightness_of level) ≤ least → Reaches D x j (reader_at form room least i))
      → operand_tightness level ≤ kind_tightness x.kind → sees (Sign (codes "??")) j ≡ is_coalesce level
      → Reaches D (y ∷ ys) k (many (operand level (reader_at form room (operand_tightness level))) j)
      → Reaches D (reading (e.Chain x.tree (y ∷ ys)) (Chained level)) k (reader_at form room (tightness_of level) i)
  unfolding chain logic conjunction equality order sum product
  chain_own Or_level i j k x y ys first b s ops = reach_then _ (first 2 (omega arith) (omega arith)) (rw s (reach_then _ ops reached))
  chain_own Coalesce_level i j k x y ys first b s ops = reach_then _ (first 2 (omega arith) (omega arith)) (rw (s, le-leb 3 (kind_tightness x.kind) b) (reach_then _ ops reached))
  chain_own And_level i j k x y ys first b s ops = reach_then _ (first 3 (omega arith) (omega arith)) (reach_then _ ops reached)
  chain_own Same_level i j k x y ys first b s ops = reach_then _ (first 4 (omega arith) (omega arith)) (reach_then _ ops reached)
  chain_own Order_level i j k x y ys first b s ops = reach_then _ (first 5 (omega arith) (omega arith)) (reach_then _ ops reached)
  chain_own Sum_level i j k x y ys first b s ops = reach_then _ (first 6 (omega arith) (omega arith)) (reach_then _ ops reached)
  chain_own Product_level i j k x y ys first b s ops = reach_then _ (first 7 (omega arith) (omega arith)) (reach_then _ ops reached)
