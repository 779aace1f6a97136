-- What is written is read: postfix forms, unary operators, chains and choices.
use Rattle.std.proofs.Common.{◌≡◌, refl, sym, ◌∙◌, ap, subst, arith, append_assoc, append-nil}
use Rattle.std.specs.Prelude.{ℕ, zero, suc, ◌+◌, ◌≤◌, ◌<◌, max, Bool, true, false, ◌&&◌, ◌||◌, nat_le, List, [], ◌∷◌, ◌++◌, length, Some, None, ⊤, codes}
use Rattle.std.proofs.Math.Nat.{le-max_left, le-max_right}
use Rattle.qk_ast.specs.declared.Form.{Form}
use Rattle.qk_ast.specs.declared.Expr.{Expr}
use Rattle.qk_ast.specs.declared.Expr.TheVariants as e
use Rattle.qk_ast.specs.declared.Link.{Link as Tree_link}
use Rattle.qk_ast.specs.declared.Link.TheVariants as l
use Rattle.qk_ast.specs.declared.Un.{Un}
use Rattle.qk_ast.specs.declared.Un.TheVariants as un
use Rattle.qk_ast.specs.declared.Bin.{Bin}
use Rattle.qk_ast.specs.declared.Bin.TheVariants as bin
use Rattle.qk_ast.specs.declared.Operand.{Operand as Tree_operand}
use Rattle.qk_ast.specs.declared.Known.{Known}
use Rattle.qk_ast.specs.declared.Known.TheVariants as known
use Rattle.qk_ast.specs.Characters.{Characters, same}
use Rattle.qk_ast.specs.Tokens.{Token}
use Rattle.qk_ast.specs.Grammar.{Level, Or_level, Coalesce_level, And_level, Same_level, Order_level, Sum_level, Product_level, Word, Free, Taken, Expression, Named, Postfix, Prefix, Chain, Choice, Operands, No_operand, Operand, Link, Dot, Index, Call, Links, No_link, Next_link, Arguments, No_argument, Only, Comma}
use Rattle.qk_ast.specs.Spelling.{◌⨾◌, tokens, bin_sign, operands_tokens, link_tokens, links_tokens, arguments_tokens}
use Rattle.qk_ast.specs.Depth.{inside, depth, operands_depth, link_depth, links_depth, arguments_depth}
use Rattle.qk_ast.specs.Tree.{arrows, bytes, tree, operands_tree, link_tree, links_tree, arguments_tree}
use Rattle.qk_ast.specs.Rules.{level_of, tightness_of, operand_tightness, binds, is_of_level, keeps, operands_keep, is_one_argument, reads_as_known}
use Rattle.qk_reading.specs.Input.{at, Kind, Called, reading, headed, Sign, first_is, sees, after, expect, many_from, many}
use Rattle.qk_reading.specs.Ahead.{operator_at, kind_tightness, known_ahead, known_dotted, known_method, arrow_ahead}
use Rattle.qk_reading.specs.Parts.{called_with, divides, operand}
use Rattle.qk_reading.specs.Forms.{head, called, trunc, link, links_from, links, postfix, unary, whole, choice}
use Rattle.qk_reading.specs.Reader.{nesting}
use Rattle.qk_ast.proofs.FrontToken.{same_is}
use Rattle.qk_reading.proofs.Framed.{framed, link_framed, arguments_framed}
use Rattle.qk_reading.proofs.Follow.{Ends, ends_weaker, first_not, opens_not, arrowless, opens, sign_ends, operand_above, by_bool, clash, same_level, no_operator}
use Rattle.qk_reading.proofs.Counted.{counted, measured, longer, sign_uncounted, sign_length, kind, link_kind, last_kind, tight_kind}
use Rattle.qk_reading.proofs.Reached.{Reaches, reached, reach_then, reach_later, enter_reach, many_stop, reader_at, climb, operand_reach, operand_none, chain_own, is_coalesce, links_stop}
use Rattle.qk_reading.proofs.Atoms.{moved, binds_le, le_binds, no_arrow_sign, many_step, Reads, Nests, Heads, Unknown}
use Rattle.qk_reading.proofs.Lists.{round_closes, ends_comma, Args_read, args_reach, Values, Tights}

own_level : (op : Bin) → is_of_level (level_of op) op ≡ true
own_level bin.Or = refl
own_level bin.And = refl
own_level bin.Coalesce = refl
own_level bin.Same = refl
own_level bin.NotSame = refl
own_level bin.Less = refl
own_level bin.LessEq = refl
own_level bin.More = refl
own_level bin.MoreEq = refl
own_level bin.Add = refl
own_level bin.Sub = refl
own_level bin.Mul = refl
own_level bin.Rem = refl

asks : (op : Bin) (ts : List Token) (n : ℕ) → sees (Sign (codes "??")) (at (bin_sign op ts) n) ≡ is_coalesce (level_of op)
unfolding sees
asks bin.Or ts n = refl
asks bin.And ts n = refl
asks bin.Coalesce ts n = refl
asks bin.Same ts n = refl
asks bin.NotSame ts n = refl
asks bin.Less ts n = refl
asks bin.LessEq ts n = refl
asks bin.More ts n = refl
asks bin.MoreEq ts n = refl
asks bin.Add ts n = refl
asks bin.Sub ts n = refl
asks bin.Mul ts n = refl
asks bin.Rem ts n = refl

levels_end : (level : Level) → operand_tightness level ≤ 7
levels_end Or_level = omega arith
levels_end Coalesce_level = omega arith
levels_end And_level = omega arith
levels_end Same_level = omega arith
levels_end Order_level = omega arith
levels_end Sum_level = omega arith
levels_end Product_level = omega arith

-- what is called with other than one argument is no known call
uncalled : (k : Known) (object : Expr) (ls : List Tree_link) (n : ℕ) (arguments : Arguments) → is_one_argument arguments ≡ false
    → called_with k object ls (arguments_tree n arguments, ends_comma arguments) ≡ headed object Called (ls ++ l.Call (arguments_tree n arguments) ∷ [])
uncalled k object ls n No_argument h = refl
uncalled k object ls n (Only x) h = clash {b = true} refl h
uncalled k object ls n (Comma x No_argument) h = refl
uncalled k object ls n (Comma x (Only y)) h = refl
uncalled k object ls n (Comma x (Comma y more)) h = refl

dotted_none : (a w : Characters) (ts : List Token) → Ends 8 ts → known_dotted a (Token.Name w ∷ ts) ≡ None
dotted_none a w [] e = refl
dotted_none a w (Token.Punct c ∷ ts) e = let p = first_not (codes "(") 8 (Token.Punct c ∷ ts) (omega arith) e in rw p refl
dotted_none a w (Token.Name c ∷ ts) e = refl
dotted_none a w (Token.Reserved c ∷ ts) e = refl
dotted_none a w (Token.Int c ∷ ts) e = refl
dotted_none a w (Token.Text q c ∷ ts) e = refl
dotted_none a w (Token.Attribute q c ∷ ts) e = refl
dotted_none a w (Token.Template f c t ∷ ts) e = refl
dotted_none a w (Token.Begin c ∷ ts) e = refl
dotted_none a w (Token.JsxText c ∷ ts) e = refl

link_longer : (link : Link) (ts : List Token) → length ts < length (link_tokens link ts)
link_longer (Dot (Free a)) ts = omega arith
link_longer (Dot (Taken a)) ts = omega arith
link_longer (Index x) ts = let a = longer x (Token.Punct (codes "]") ∷ ts) in omega (arith, a)
link_longer (Call arguments) ts = let a = measured (arguments_framed arguments) (Token.Punct (codes ")") ∷ ts) in omega (arith, a)

module _ (D : Type 0) (form : Form) where
  -- ---- links

  abbrev pub Link_reads : Link → Type 0
  Link_reads x = (room n m : ℕ) (rest : List Token) → (room < link_depth x → D) → m ≡ n + arrows (link_tokens x)
      → Reaches D (Some (link_tree n x, link_kind x)) (at rest m) (link form room (nesting form room) (at (link_tokens x rest) n))

  pub dot_reads : (w : Word) → Link_reads (Dot w)
  unfolding link
  dot_reads (Free a) room n m rest d q = moved n m (omega (arith, q)) reached
  dot_reads (Taken a) room n m rest d q = moved n m (omega (arith, q)) reached

  pub index_reads : (x : Expression) → Nests D form x → Link_reads (Index x)
  unfolding link expect sees
  index_reads x h room n m rest d q =
      let count = counted (framed x) (Token.Punct (codes "]") ∷ []) in
      reach_then _ (h room n m (Token.Punct (codes "]") ∷ rest) d (omega (arith, q, count)) (omega arith)) reached

  pub call_reads : (arguments : Arguments) → Args_read D form arguments → Link_reads (Call arguments)
  unfolding link
  call_reads arguments h room n m rest d q =
      let count = counted (arguments_framed arguments) (Token.Punct (codes ")") ∷ []) in
      reach_then _ (args_reach D form arguments h (codes ")") round_closes room n m rest d (omega (arith, q, count))) reached

  abbrev pub Links_read : Links → Type 0
  Links_read xs = (room n m fuel : ℕ) (k : Kind) (so_far : List Tree_link) (rest : List Token) → (room < links_depth xs → D) → m ≡ n + arrows (links_tokens xs) → Ends 8 rest
      → length (links_tokens xs rest) ≤ fuel
      → Reaches D (so_far ++ links_tree n xs, last_kind k xs) (at rest m) (links_from form room (nesting form room) fuel k so_far (at (links_tokens xs rest) n))

  pub no_link_read : Links_read No_link
  no_link_read room n m fuel k so_far rest d q f g = rw (links_stop D form room fuel k so_far (at rest n) f, append-nil) (moved n m (omega (arith, q)) reached)

  -- a link, and links after it
  links_step : (x : Link) (more : Links) → Link_reads x → Links_read more → (room n m1 m fuel : ℕ) (k : Kind) (so_far : List Tree_link) (rest : List Token)
      → (room < link_depth x → D) → (room < links_depth more → D) → m1 ≡ n + arrows (link_tokens x) → m ≡ m1 + arrows (links_tokens more) → Ends 8 rest
      → length (link_tokens x (links_tokens more rest)) ≤ fuel
      → Reaches D (so_far ++ link_tree n x ∷ links_tree m1 more, last_kind (link_kind x) more) (at rest m) (links_from form room (nesting form room) fuel k so_far (at (link_tokens x (links_tokens more rest)) n))
  unfolding links_from
  links_step x more h r room n m1 m zero k so_far rest d d2 q q2 f g = let a = link_longer x (links_tokens more rest) in absurd (omega (arith, a, g))
  links_step x more h r room n m1 m (suc fuel) k so_far rest d d2 q q2 f g =
      let a = link_longer x (links_tokens more rest) in
      reach_then _ (h room n m1 (links_tokens more rest) d q)
      (subst (λ ys. Reaches D (ys, last_kind (link_kind x) more) (at rest m) (links_from form room (nesting form room) fuel (link_kind x) (so_far ++ link_tree n x ∷ []) (at (links_tokens more rest) m1)))
      (append_assoc so_far (link_tree n x ∷ []) (links_tree m1 more))
      (r room m1 m fuel (link_kind x) (so_far ++ link_tree n x ∷ []) rest d2 q2 f (omega (arith, a, g))))

  pub next_link_read : (x : Link) (more : Links) → Link_reads x → Links_read more → Links_read (Next_link x more)
  next_link_read x more h r room n m fuel k so_far rest d q f g =
      let count = counted (link_framed x) (links_tokens more []) in
      links_step x more h r room n (n + arrows (link_tokens x)) m fuel k so_far rest
      (λ l. d (omega (arith, l, le-max_left (link_depth x) (links_depth more)))) (λ l. d (omega (arith, l, le-max_right (link_depth x) (links_depth more)))) refl (omega (arith, q, count)) f g

  -- ---- postfix forms

  abbrev pub Post_read : Expression → Type 0
  Post_read x = (room n m : ℕ) (rest : List Token) → (room < depth x → D) → m ≡ n + arrows (tokens x) → Ends 8 rest
      → Reaches D (reading (tree n x) (kind x)) (at rest m) (postfix form room (nesting form room) (at (tokens x rest) n))

  pub usual : (head : Expression) (x : Link) (more : Links) → Heads D form head → Link_reads x → Links_read more
      → ((rest : List Token) → Ends 8 rest → Unknown head (link_tokens x (links_tokens more rest))) → Post_read (Postfix head x more)
  unfolding postfix links
  usual head x more h k r u room n m rest d q f =
      let ts = link_tokens x (links_tokens more rest) in
      let m1 = n + arrows (tokens head) in
      let m2 = n + arrows (tokens head ⨾ link_tokens x) in
      let c1 = counted (framed head) (link_tokens x []) in
      let c2 = counted (framed head) (link_tokens x (links_tokens more [])) in
      let c3 = counted (link_framed x) (links_tokens more []) in
      let b1 = le-max_left (depth head) (max (link_depth x) (links_depth more)) in
      let b2 = le-max_right (depth head) (max (link_depth x) (links_depth more)) in
      let b3 = le-max_left (link_depth x) (links_depth more) in
      let b4 = le-max_right (link_depth x) (links_depth more) in
      reach_then _ (h room n m1 ts (λ l. d (omega (arith, l, b1))) refl (u rest f))
      (reach_then _ (links_step x more k r room m1 m2 m (length ts) (kind head) [] rest (λ l. d (omega (arith, l, b2, b3))) (λ l. d (omega (arith, l, b2, b4)))
      (omega (arith, c1)) (omega (arith, q, c1, c2, c3)) f (omega arith)) reached)

  -- String(..), with other than one argument
  str_post : (arguments : Arguments) (more : Links) → Args_read D form arguments → Links_read more → is_one_argument arguments ≡ false → Post_read (Postfix (Named (codes "String")) (Call arguments) more)
  unfolding postfix links head known_ahead called
  str_post arguments more h r o room n m rest d q f =
      let m2 = n + arrows (link_tokens (Call arguments)) in
      let c1 = counted (arguments_framed arguments) (Token.Punct (codes ")") ∷ []) in
      let c2 = counted (link_framed (Call arguments)) (links_tokens more []) in
      let b3 = le-max_left (inside (arguments_depth arguments)) (links_depth more) in
      let b4 = le-max_right (inside (arguments_depth arguments)) (links_depth more) in
      let b2 = le-max_right 0 (max (inside (arguments_depth arguments)) (links_depth more)) in
      subst (λ k. Reaches D (reading (e.Post (e.Name (bytes (codes "String"))) (l.Call (arguments_tree k arguments) ∷ links_tree m2 more)) (last_kind Called more)) (at rest m)
      (postfix form room (nesting form room) (at (tokens (Postfix (Named (codes "String")) (Call arguments) more) rest) n))) (let z : n ≡ n + 0 = omega arith in z)
      (reach_then _ (reach_then _ (args_reach D form arguments h (codes ")") round_closes room n m2 (links_tokens more rest) (λ l. d (omega (arith, l, b2, b3))) (omega (arith, c1)))
      (rw (uncalled known.Str (e.Name (bytes (codes "String"))) [] n arguments o) reached))
      (reach_then _ (r room m2 m (length (links_tokens more rest)) Called (l.Call (arguments_tree n arguments) ∷ []) rest (λ l. d (omega (arith, l, b2, b4))) (omega (arith, q, c2)) f (omega arith)) reached))

  -- console.log(..), with other than one argument
  log_post : (arguments : Arguments) (more : Links) → Args_read D form arguments → Links_read more → is_one_argument arguments ≡ false
      → Post_read (Postfix (Named (codes "console")) (Dot (Free (codes "log"))) (Next_link (Call arguments) more))
  unfolding postfix links head known_ahead called
  log_post arguments more h r o room n m rest d q f =
      let m2 = n + arrows (link_tokens (Call arguments)) in
      let c1 = counted (arguments_framed arguments) (Token.Punct (codes ")") ∷ []) in
      let c2 = counted (link_framed (Call arguments)) (links_tokens more []) in
      let b3 = le-max_left (inside (arguments_depth arguments)) (links_depth more) in
      let b4 = le-max_right (inside (arguments_depth arguments)) (links_depth more) in
      let b2 = le-max_right 0 (max 0 (max (inside (arguments_depth arguments)) (links_depth more))) in
      let b5 = le-max_right 0 (max (inside (arguments_depth arguments)) (links_depth more)) in
      subst (λ k. Reaches D (reading (e.Post (e.Name (bytes (codes "console"))) (l.Prop (bytes (codes "log")) ∷ l.Call (arguments_tree k arguments) ∷ links_tree (k + arrows (link_tokens (Call arguments))) more)) (last_kind Called more)) (at rest m)
      (postfix form room (nesting form room) (at (tokens (Postfix (Named (codes "console")) (Dot (Free (codes "log"))) (Next_link (Call arguments) more)) rest) n))) (let z : n ≡ n + 0 = omega arith in z)
      (reach_then _ (reach_then _ (args_reach D form arguments h (codes ")") round_closes room n m2 (links_tokens more rest) (λ l. d (omega (arith, l, b2, b3, b5))) (omega (arith, c1)))
      (rw (uncalled known.Log (e.Name (bytes (codes "console"))) (l.Prop (bytes (codes "log")) ∷ []) n arguments o) reached))
      (reach_then _ (r room m2 m (length (links_tokens more rest)) Called (l.Prop (bytes (codes "log")) ∷ l.Call (arguments_tree n arguments) ∷ []) rest (λ l. d (omega (arith, l, b2, b4, b5))) (omega (arith, q, c2)) f (omega arith)) reached))

  -- Object.keys(..), with other than one argument
  keys_post : (arguments : Arguments) (more : Links) → Args_read D form arguments → Links_read more → is_one_argument arguments ≡ false
      → Post_read (Postfix (Named (codes "Object")) (Dot (Free (codes "keys"))) (Next_link (Call arguments) more))
  unfolding postfix links head known_ahead called
  keys_post arguments more h r o room n m rest d q f =
      let m2 = n + arrows (link_tokens (Call arguments)) in
      let c1 = counted (arguments_framed arguments) (Token.Punct (codes ")") ∷ []) in
      let c2 = counted (link_framed (Call arguments)) (links_tokens more []) in
      let b3 = le-max_left (inside (arguments_depth arguments)) (links_depth more) in
      let b4 = le-max_right (inside (arguments_depth arguments)) (links_depth more) in
      let b2 = le-max_right 0 (max 0 (max (inside (arguments_depth arguments)) (links_depth more))) in
      let b5 = le-max_right 0 (max (inside (arguments_depth arguments)) (links_depth more)) in
      subst (λ k. Reaches D (reading (e.Post (e.Name (bytes (codes "Object"))) (l.Prop (bytes (codes "keys")) ∷ l.Call (arguments_tree k arguments) ∷ links_tree (k + arrows (link_tokens (Call arguments))) more)) (last_kind Called more)) (at rest m)
      (postfix form room (nesting form room) (at (tokens (Postfix (Named (codes "Object")) (Dot (Free (codes "keys"))) (Next_link (Call arguments) more)) rest) n))) (let z : n ≡ n + 0 = omega arith in z)
      (reach_then _ (reach_then _ (args_reach D form arguments h (codes ")") round_closes room n m2 (links_tokens more rest) (λ l. d (omega (arith, l, b2, b3, b5))) (omega (arith, c1)))
      (rw (uncalled known.Keys (e.Name (bytes (codes "Object"))) (l.Prop (bytes (codes "keys")) ∷ []) n arguments o) reached))
      (reach_then _ (r room m2 m (length (links_tokens more rest)) Called (l.Prop (bytes (codes "keys")) ∷ l.Call (arguments_tree n arguments) ∷ []) rest (λ l. d (omega (arith, l, b2, b4, b5))) (omega (arith, q, c2)) f (omega arith)) reached))

  -- the first argument with its kind, and the others
  abbrev pub Parts_read : Arguments → Type 0
  Parts_read No_argument = ⊤
  Parts_read (Only x) = Values D form x
  Parts_read (Comma x more) = Values D form x × Args_read D form more

  -- Math.trunc(..) without a division, from behind its bracket
  trunc_args : (arguments : Arguments) → Parts_read arguments → (room n m : ℕ) (rest : List Token) → (room < inside (arguments_depth arguments) → D) → m ≡ n + arrows (arguments_tokens arguments)
      → Reaches D (headed (e.Name (bytes (codes "Math"))) Called (l.Prop (bytes (codes "trunc")) ∷ l.Call (arguments_tree n arguments) ∷ [])) (at rest m)
      (trunc form room (nesting form room) (at (arguments_tokens arguments (Token.Punct (codes ")") ∷ rest)) n))
  unfolding trunc divides expect sees after
  trunc_args No_argument h room n m rest d q = reach_then _ (reach_then _ (enter_reach room (at (Token.Punct (codes ")") ∷ rest) n) (λ l. d (omega (arith, l)))) reached) (moved n m (omega (arith, q)) reached)
  trunc_args (Only x) h room n m rest d q =
      let ts = tokens x (Token.Punct (codes ")") ∷ rest) in
      let s : first_is (Sign (codes ")")) ts ≡ false = opens_not (codes ")") ts (opens x (Token.Punct (codes ")") ∷ rest)) in
      reach_then _ (reach_then _ (enter_reach room (at ts n) (λ l. d (omega (arith, l)))) reached)
      (rw s (reach_then _ (h room n m (Token.Punct (codes ")") ∷ rest) d q (omega arith)) (by_bool (nat_le 6 (kind_tightness (kind x))) (λ b. rw b reached) (λ b. rw b reached))))
  trunc_args (Comma x more) h room n m rest d q =
      let us = arguments_tokens more (Token.Punct (codes ")") ∷ rest) in
      let ts = tokens x (Token.Punct (codes ",") ∷ us) in
      let m1 = n + arrows (tokens x) in
      let count = counted (framed x) (Token.Punct (codes ",") ∷ arguments_tokens more []) in
      let s : first_is (Sign (codes ")")) ts ≡ false = opens_not (codes ")") ts (opens x (Token.Punct (codes ",") ∷ us)) in
      let ends = reach_then _ (h.1 (codes ")") round_closes room m1 m (length us) (tree n x ∷ []) rest (λ l. d (omega (arith, l, le-max_right (depth x) (arguments_depth more)))) (omega (arith, q, count)) (omega arith)) reached in
      reach_then _ (reach_then _ (enter_reach room (at ts n) (λ l. d (omega (arith, l)))) reached)
      (rw s (reach_then _ (h.0 room n m1 (Token.Punct (codes ",") ∷ us) (λ l. d (omega (arith, l, le-max_left (depth x) (arguments_depth more)))) refl (omega arith))
      (by_bool (nat_le 6 (kind_tightness (kind x))) (λ b. rw b ends) (λ b. rw b ends))))

  trunc_post : (arguments : Arguments) (more : Links) → Parts_read arguments → Links_read more
      → Post_read (Postfix (Named (codes "Math")) (Dot (Free (codes "trunc"))) (Next_link (Call arguments) more))
  unfolding postfix links head known_ahead called
  trunc_post arguments more h r room n m rest d q f =
      let m2 = n + arrows (link_tokens (Call arguments)) in
      let c1 = counted (arguments_framed arguments) (Token.Punct (codes ")") ∷ []) in
      let c2 = counted (link_framed (Call arguments)) (links_tokens more []) in
      let b3 = le-max_left (inside (arguments_depth arguments)) (links_depth more) in
      let b4 = le-max_right (inside (arguments_depth arguments)) (links_depth more) in
      let b2 = le-max_right 0 (max 0 (max (inside (arguments_depth arguments)) (links_depth more))) in
      let b5 = le-max_right 0 (max (inside (arguments_depth arguments)) (links_depth more)) in
      subst (λ k. Reaches D (reading (e.Post (e.Name (bytes (codes "Math"))) (l.Prop (bytes (codes "trunc")) ∷ l.Call (arguments_tree k arguments) ∷ links_tree (k + arrows (link_tokens (Call arguments))) more)) (last_kind Called more)) (at rest m)
      (postfix form room (nesting form room) (at (tokens (Postfix (Named (codes "Math")) (Dot (Free (codes "trunc"))) (Next_link (Call arguments) more)) rest) n))) (let z : n ≡ n + 0 = omega arith in z)
      (reach_then _ (trunc_args arguments h room n m2 (links_tokens more rest) (λ l. d (omega (arith, l, b2, b3, b5))) (omega (arith, c1)))
      (reach_then _ (r room m2 m (length (links_tokens more rest)) Called (l.Prop (bytes (codes "trunc")) ∷ l.Call (arguments_tree n arguments) ∷ []) rest (λ l. d (omega (arith, l, b2, b4, b5))) (omega (arith, q, c2)) f (omega arith)) reached))

  -- ---- unary operators, chains, choices

  pub prefix_reads : (op : Un) (x : Expression) → Tights D form x → (room n m : ℕ) (rest : List Token) → (room < inside (depth x) → D) → m ≡ n + arrows (tokens (Prefix op x)) → Ends 7 rest
      → Reaches D (reading (tree n (Prefix op x)) (kind (Prefix op x))) (at rest m) (unary form room (nesting form room) (at (tokens (Prefix op x) rest) n))
  unfolding unary sees after
  prefix_reads un.Not x h room n m rest d q f = reach_then _ (h room n m rest d q f) reached
  prefix_reads un.Neg x h room n m rest d q f = reach_then _ (h room n m rest d q f) reached

  abbrev pub Operands_read : Level → Operands → Type 0
  Operands_read level more = (room n m fuel : ℕ) (so_far : List Tree_operand) (rest : List Token) → (room < operands_depth more → D) → m ≡ n + arrows (operands_tokens more)
      → Ends (tightness_of level) rest → length (operands_tokens more rest) ≤ fuel
      → Reaches D (so_far ++ operands_tree n more) (at rest m) (many_from (operand level (reader_at form room (operand_tightness level))) fuel so_far (at (operands_tokens more rest) n))

  open_level : (level : Level) (k : ℕ) (ts : List Token) → k ≤ tightness_of level → Ends k ts → operator_at level ts ≡ None
  open_level level k ts le f = no_operator level k ts le f

  pub no_operand_read : (level : Level) → Operands_read level No_operand
  no_operand_read level room n m fuel so_far rest d q f g =
      rw (
        many_stop (operand level (reader_at form room (operand_tightness level))) fuel so_far (at rest n)
            (operand_none D form room level (reader_at form room (operand_tightness level)) (at rest n) (open_level level (tightness_of level) rest (omega arith) f)),
        append-nil,
      ) (moved n m (omega (arith, q)) reached)

  -- what follows an operand of the level
  operands_end : (level : Level) (more : Operands) → operands_keep form level more → (rest : List Token) → Ends (tightness_of level) rest → Ends (operand_tightness level) (operands_tokens more rest)
  operands_end level No_operand ke rest f = ends_weaker (tightness_of level) (operand_tightness level) rest (let a = operand_above level in omega (arith, a)) f
  operands_end level (Operand op x more) ke rest f = ends_weaker (suc (tightness_of (level_of op))) (operand_tightness level) (bin_sign op (tokens x (operands_tokens more rest)))
      (let a = operand_above level in let b = same_level level op ke.0 in omega (arith, a, b)) (sign_ends op (tokens x (operands_tokens more rest)))

  operands_step : (level : Level) (op : Bin) (x : Expression) (more : Operands) → is_of_level level op ≡ true → binds (operand_tightness level) x ≡ true → operands_keep form level more
      → Reads D form x → Operands_read level more → (room n m1 m fuel : ℕ) (so_far : List Tree_operand) (rest : List Token) → (room < depth x → D) → (room < operands_depth more → D)
      → m1 ≡ n + arrows (tokens x) → m ≡ m1 + arrows (operands_tokens more) → Ends (tightness_of level) rest → length (bin_sign op (tokens x (operands_tokens more rest))) ≤ fuel
      → Reaches D (so_far ++ record { op = op; value = tree n x } ∷ operands_tree m1 more) (at rest m)
      (many_from (operand level (reader_at form room (operand_tightness level))) fuel so_far (at (bin_sign op (tokens x (operands_tokens more rest))) n))
  operands_step level op x more own b ke h r room n m1 m fuel so_far rest d d2 q q2 f g =
      let step = operand level (reader_at form room (operand_tightness level)) in
      let ts = tokens x (operands_tokens more rest) in
      let y : Tree_operand = record { op = op; value = tree n x } in
      let a = sign_length op ts in
      let c = longer x (operands_tokens more rest) in
      let t = levels_end level in
      many_step step fuel so_far y (at (bin_sign op ts) n) (at (operands_tokens more rest) m1) g (omega (arith, a, c))
      (operand_reach D form room level (reader_at form room (operand_tightness level)) op ts n (reading (tree n x) (kind x)) (at (operands_tokens more rest) m1) own
      (h room (operand_tightness level) n m1 (operands_tokens more rest) d (omega (arith, t)) b q (operands_end level more ke rest f)))
      (λ fuel' g'. subst (λ ys. Reaches D ys (at rest m) (many_from step fuel' (so_far ++ y ∷ []) (at (operands_tokens more rest) m1))) (append_assoc so_far (y ∷ []) (operands_tree m1 more))
      (r room m1 m fuel' (so_far ++ y ∷ []) rest d2 q2 f g'))

  pub operand_read : (level : Level) (op : Bin) (x : Expression) (more : Operands) → operands_keep form level (Operand op x more)
      → Reads D form x → Operands_read level more → Operands_read level (Operand op x more)
  operand_read level op x more ke h r room n m fuel so_far rest d q f g =
      let c = sign_uncounted op (tokens x (operands_tokens more [])) in
      let c2 = counted (framed x) (operands_tokens more []) in
      operands_step level op x more ke.0 ke.1 ke.3 h r room n (n + arrows (tokens x)) m fuel so_far rest
      (λ l. d (omega (arith, l, le-max_left (depth x) (operands_depth more)))) (λ l. d (omega (arith, l, le-max_right (depth x) (operands_depth more)))) refl (omega (arith, q, c, c2)) f g

  pub chain_reads : (x : Expression) (op : Bin) (y : Expression) (more : Operands) → keeps form (Chain x op y more) → Reads D form x → Reads D form y → Operands_read (level_of op) more
      → Reads D form (Chain x op y more)
  unfolding many
  chain_reads x op y more ke h k r room least n m rest d le b q f =
      let level = level_of op in
      let ts = tokens y (operands_tokens more rest) in
      let m1 = n + arrows (tokens x) in
      let m2 = n + arrows (tokens x ⨾ tokens y) in
      let c1 = counted (framed x) (tokens y []) in
      let c2 = counted (framed x) (bin_sign op (tokens y (operands_tokens more []))) in
      let c3 = sign_uncounted op (tokens y (operands_tokens more [])) in
      let c4 = counted (framed y) (operands_tokens more []) in
      let b1 = le-max_left (depth x) (max (depth y) (operands_depth more)) in
      let b2 = le-max_right (depth x) (max (depth y) (operands_depth more)) in
      let b3 = le-max_left (depth y) (operands_depth more) in
      let b4 = le-max_right (depth y) (operands_depth more) in
      let t = levels_end level in
      let u = operand_above level in
      let tight : least ≤ tightness_of level = binds_le least (Chain x op y more) b in
      let tx = binds_le (operand_tightness level) x ke.0 in
      let kx = tight_kind x in
      let own : Reaches D (reading (tree n (Chain x op y more)) (kind (Chain x op y more))) (at rest m) (reader_at form room (tightness_of level) (at (tokens (Chain x op y more) rest) n)) =
      chain_own D form room level (at (tokens x (bin_sign op ts)) n) (at (bin_sign op ts) m1) (at rest m) (reading (tree n x) (kind x)) (record { op = op; value = tree m1 y }) (operands_tree m2 more)
      (λ k' l l'. h room k' n m1 (bin_sign op ts) (λ l. d (omega (arith, l, b1))) (omega (arith, l, t)) (le_binds k' x (omega (arith, l, tx))) refl
      (ends_weaker (suc (tightness_of level)) k' (bin_sign op ts) l' (sign_ends op ts)))
      (omega (arith, tx, kx)) (asks op ts m1)
      (operands_step level op y more (own_level op) ke.2 ke.4 k r room m1 m2 m (length (bin_sign op ts)) [] rest (λ l. d (omega (arith, l, b2, b3))) (λ l. d (omega (arith, l, b2, b4)))
      (omega (arith, c1)) (omega (arith, q, c1, c2, c3, c4)) (ends_weaker least (tightness_of level) rest tight f) (omega arith)) in
      climb D form room (tightness_of level) (omega (arith, t, u)) (at (tokens (Chain x op y more) rest) n) (at rest m) (reading (tree n (Chain x op y more)) (kind (Chain x op y more))) own least tight f
      (arrowless form (Chain x op y more) ke refl rest (no_arrow_sign rest (ends_weaker least 9 rest (omega (arith, le)) f)))

  pub choice_reads : (x y z : Expression) → keeps form (Choice x y z) → Reads D form x → Nests D form y → Nests D form z → Reads D form (Choice x y z)
  unfolding whole choice arrow_ahead expect sees after
  choice_reads x y z ke h k r room (suc least) n m rest d le b q f = let t = binds_le (suc least) (Choice x y z) b in absurd (omega (arith, t))
  choice_reads x y z ke h k r room zero n m rest d le b q f =
      let us = tokens z rest in
      let ts = tokens y (Token.Punct (codes ":") ∷ us) in
      let m1 = n + arrows (tokens x) in
      let m2 = n + arrows (tokens x ⨾ tokens y) in
      let c1 = counted (framed x) (tokens y []) in
      let c2 = counted (framed x) (Token.Punct (codes "?") ∷ tokens y (Token.Punct (codes ":") ∷ tokens z [])) in
      let c3 = counted (framed y) (Token.Punct (codes ":") ∷ tokens z []) in
      let b1 = le-max_left (depth x) (max (inside (depth y)) (inside (depth z))) in
      let b2 = le-max_right (depth x) (max (inside (depth y)) (inside (depth z))) in
      let b3 = le-max_left (inside (depth y)) (inside (depth z)) in
      let b4 = le-max_right (inside (depth y)) (inside (depth z)) in
      rw (arrowless form (Choice x y z) ke refl rest (no_arrow_sign rest (ends_weaker 0 9 rest (omega arith) f)))
      (reach_later _ (reach_then _ (h room 1 n m1 (Token.Punct (codes "?") ∷ ts) (λ l. d (omega (arith, l, b1))) (omega arith) ke.0 refl (omega arith))
      (reach_then _ (k room m1 m2 (Token.Punct (codes ":") ∷ us) (λ l. d (omega (arith, l, b2, b3))) (omega (arith, c1)) (omega arith))
      (reach_then _ (r room m2 m rest (λ l. d (omega (arith, l, b2, b4))) (omega (arith, q, c1, c2, c3)) f) reached))))

  -- ---- all postfix forms

  -- what is known of a call
  abbrev pub Call_read : Link → Type 0
  Call_read (Call arguments) = Args_read D form arguments
  Call_read _ = ⊤

  abbrev pub Second_read : Links → Type 0
  Second_read (Next_link (Call arguments) more) = Args_read D form arguments × Parts_read arguments × Links_read more
  Second_read _ = ⊤

  unknown_call : (a : Characters) (arguments : Arguments) (more : Links) → same a (codes "String") ≡ false → (rest : List Token)
      → known_ahead (Token.Name a ∷ link_tokens (Call arguments) (links_tokens more rest)) ≡ None
  unfolding known_ahead
  unknown_call a arguments more h rest = rw h refl

  unknown_dotted : (a w : Characters) (ts : List Token) → known_method a w ≡ None → known_ahead (Token.Name a ∷ link_tokens (Dot (Free w)) (Token.Punct (codes "(") ∷ ts)) ≡ None
  unfolding known_ahead
  unknown_dotted a w ts h = h

  unknown_one : (a w : Characters) (rest : List Token) → Ends 8 rest → known_ahead (Token.Name a ∷ link_tokens (Dot (Free w)) rest) ≡ None
  unfolding known_ahead
  unknown_one a w rest f = dotted_none a w rest f

  post_called : (a : Characters) (arguments : Arguments) (more : Links) → Heads D form (Named a) → Args_read D form arguments → Links_read more
      → reads_as_known (Named a) (Call arguments) more ≡ false → Post_read (Postfix (Named a) (Call arguments) more)
  post_called a arguments more h k r known' = by_bool (same a (codes "String"))
      (λ e. let is = same_is a (codes "String") e in
      let one : is_one_argument arguments ≡ false = ap (λ b. b && is_one_argument arguments) (sym e) ∙ known' in
      subst (λ a. Post_read (Postfix (Named a) (Call arguments) more)) (sym is) (str_post arguments more k r one))
      (λ e. usual (Named a) (Call arguments) more h (call_reads arguments k) r (λ rest f. unknown_call a arguments more e rest))

  post_dotted : (a w : Characters) (arguments : Arguments) (more : Links) → Heads D form (Named a) → Args_read D form arguments → Parts_read arguments → Links_read more → Links_read (Next_link (Call arguments) more)
      → reads_as_known (Named a) (Dot (Free w)) (Next_link (Call arguments) more) ≡ false → Post_read (Postfix (Named a) (Dot (Free w)) (Next_link (Call arguments) more))
  post_dotted a w arguments more h k p r r2 known' = by_bool (same a (codes "console") && same w (codes "log"))
      (λ e. let is = same_both a w (codes "console") (codes "log") e in
      let one : is_one_argument arguments ≡ false = ap (λ b. (b || (same a (codes "Object") && same w (codes "keys"))) && is_one_argument arguments) (sym e) ∙ known' in
      subst (λ a. Post_read (Postfix (Named a) (Dot (Free w)) (Next_link (Call arguments) more))) (sym is.0)
      (subst (λ w. Post_read (Postfix (Named (codes "console")) (Dot (Free w)) (Next_link (Call arguments) more))) (sym is.1) (log_post arguments more k r one)))
      (λ e. by_bool (same a (codes "Object") && same w (codes "keys"))
      (λ e2. let is = same_both a w (codes "Object") (codes "keys") e2 in
      let one : is_one_argument arguments ≡ false = ap (λ b. (false || b) && is_one_argument arguments) (sym e2) ∙ ap (λ b. (b || (same a (codes "Object") && same w (codes "keys"))) && is_one_argument arguments) (sym e) ∙ known' in
      subst (λ a. Post_read (Postfix (Named a) (Dot (Free w)) (Next_link (Call arguments) more))) (sym is.0)
      (subst (λ w. Post_read (Postfix (Named (codes "Object")) (Dot (Free w)) (Next_link (Call arguments) more))) (sym is.1) (keys_post arguments more k r one)))
      (λ e2. by_bool (same a (codes "Math") && same w (codes "trunc"))
      (λ e3. let is = same_both a w (codes "Math") (codes "trunc") e3 in
      subst (λ a. Post_read (Postfix (Named a) (Dot (Free w)) (Next_link (Call arguments) more))) (sym is.0)
      (subst (λ w. Post_read (Postfix (Named (codes "Math")) (Dot (Free w)) (Next_link (Call arguments) more))) (sym is.1) (trunc_post arguments more p r)))
      (λ e3. let none : known_method a w ≡ None = rw (e, e2, e3) refl in
      usual (Named a) (Dot (Free w)) (Next_link (Call arguments) more) h (dot_reads (Free w)) r2 (λ rest f. unknown_dotted a w (arguments_tokens arguments (Token.Punct (codes ")") ∷ links_tokens more rest)) none))))
    where
      same_both : (a w c d : Characters) → (same a c && same w d) ≡ true → (a ≡ c) × (w ≡ d)
      same_both a w c d h = (same_is a c (left (same a c) (same w d) h), same_is w d (right (same a c) (same w d) h))
        where
          left : (p q : Bool) → (p && q) ≡ true → p ≡ true
          left true q h = refl
          left false q h = h

          right : (p q : Bool) → (p && q) ≡ true → q ≡ true
          right true q h = h
          right false q h = clash {b = false} h refl

  post : (head : Expression) (x : Link) (more : Links) → reads_as_known head x more ≡ false → Heads D form head → Link_reads x → Call_read x → Links_read more → Second_read more
      → Post_read (Postfix head x more)
  unfolding known_ahead
  post (Named a) (Dot (Taken w)) more kn h k c r s = usual (Named a) (Dot (Taken w)) more h k r (λ rest f. refl)
  post (Named a) (Dot (Free w)) No_link kn h k c r s = usual (Named a) (Dot (Free w)) No_link h k r (λ rest f. unknown_one a w rest f)
  post (Named a) (Dot (Free w)) (Next_link (Dot v) more) kn h k c r s = usual (Named a) (Dot (Free w)) (Next_link (Dot v) more) h k r (λ rest f. refl)
  post (Named a) (Dot (Free w)) (Next_link (Index y) more) kn h k c r s = usual (Named a) (Dot (Free w)) (Next_link (Index y) more) h k r (λ rest f. refl)
  post (Named a) (Dot (Free w)) (Next_link (Call arguments) more) kn h k c r s = post_dotted a w arguments more h s.0 s.1 s.2 r kn
  post (Named a) (Index y) more kn h k c r s = usual (Named a) (Index y) more h k r (λ rest f. refl)
  post (Named a) (Call arguments) more kn h k c r s = post_called a arguments more h c r kn
  post head x more kn h k c r s = usual head x more h k r (λ rest f. tt)

  pub postfix_reads : (head : Expression) (x : Link) (more : Links) → keeps form (Postfix head x more) → Heads D form head → Link_reads x → Call_read x → Links_read more → Second_read more
      → Post_read (Postfix head x more)
  postfix_reads head x more ke h k c r s = post head x more ke.1 h k c r s
