-- Which tokens may follow a phrase, and which begin one.
use Rattle.std.proofs.Common.{true≢false, ◌≡◌, refl, sym, ◌∙◌, ap, subst, arith, ◌⊎◌, inl, inr}
use Rattle.std.specs.Prelude.{ℕ, suc, ◌≤◌, Bool, true, false, ◌&&◌, if◌then◌else◌, nat_le, List, [], ◌∷◌, Option, Some, None, ⊤, codes}
use Rattle.std.proofs.Math.Nat.{le_trans}
use lib.Dec.{leb→le, T}
use borrow.Author.Tests.{le-leb}
use Rattle.qk_ast.specs.declared.Form.{Form}
use Rattle.qk_ast.specs.declared.Un.TheVariants as un
use Rattle.qk_ast.specs.declared.Bin.{Bin}
use Rattle.qk_ast.specs.declared.Bin.TheVariants as bin
use Rattle.qk_ast.specs.Characters.{Characters, same, is_one_of}
use Rattle.qk_ast.specs.Tokens.{Token}
use Rattle.qk_ast.specs.Grammar.{Level, Or_level, Coalesce_level, And_level, Same_level, Order_level, Sum_level, Product_level, Bare, In_brackets, Free, Taken, Expression, Undefined, Null, Truth, Number, Quoted, Named, Whole, Holed, Bracketed, Listed, Recorded, Markup, Log, Keys, Str, Trunc, Postfix, Prefix, Chain, Choice, Function, Link, Dot, Index, Call, Key, Quoted_key, Short, Fields, No_field, Only_field, Field_comma, Closed, Open, Fragment}
use Rattle.qk_ast.specs.Spelling.{tokens, bin_sign, link_tokens, links_tokens, fields_tokens, operands_tokens}
use Rattle.qk_ast.specs.Rules.{level_of, tightness_of, operand_tightness, tightness, binds, is_of_level, keeps}
use Rattle.qk_reading.specs.Input.{Sign, first_is, first, rest, maybe}
use Rattle.qk_reading.specs.Ahead.{bin_of, binary_sign, of_level, operator_at, Scan, At_pattern, After_pattern, At_first, At_next, At_arrow, finds_arrow, arrow_from}
use Rattle.qk_ast.proofs.FrontToken.{same_is}

-- how tightly the form binds that goes on with the sign, and one more: 0 for a sign with which no form goes on
abbrev pub mark_rank : Characters → ℕ
mark_rank a = if is_one_of a (codes "?" ∷ codes "=" ∷ codes "+=" ∷ codes "-=" ∷ codes "*=" ∷ codes "++" ∷ codes "--" ∷ []) then 1 else (if same a (codes ".") then 9 else (if same a (codes "[") then 9 else (if same a (codes "(") then 9 else (if same a (codes "=>") then 10 else 0))))

abbrev pub sign_rank : Characters → ℕ
sign_rank a = maybe (bin_of a) (mark_rank a) (λ op. suc (tightness_of (level_of op)))

abbrev pub rank : Token → ℕ
rank (Token.Punct a) = sign_rank a
rank _ = 0

-- a phrase that binds so tightly doesn't go on with what follows
abbrev pub Ends : ℕ → List Token → Type 0
Ends k [] = ⊤
Ends k (t ∷ ts) = rank t ≤ k

pub ends_weaker : (j k : ℕ) (ts : List Token) → j ≤ k → Ends j ts → Ends k ts
ends_weaker j k [] le e = tt
ends_weaker j k (t ∷ ts) le e = le_trans e le

pub by_bool : {P : Type 0} (b : Bool) → (b ≡ true → P) → (b ≡ false → P) → P
by_bool true yes' no' = yes' refl
by_bool false yes' no' = no' refl

true_false : {P : Type 0} → true ≡ false → P
true_false e = absurd (true≢false e)

pub clash : {P : Type 0} {b : Bool} → b ≡ true → b ≡ false → P
clash e f = true_false (sym e ∙ f)

pub both : (p q : Bool) → (p && q) ≡ true → (p ≡ true) × (q ≡ true)
both true q h = (refl, h)
both false q h = clash {b = false} h refl

pub first_not : (a : Characters) (k : ℕ) (ts : List Token) → suc k ≤ sign_rank a → Ends k ts → first_is (Sign a) ts ≡ false
first_not a k [] le e = refl
first_not a k (Token.Punct c ∷ ts) le e = by_bool (same c a)
    (λ h. let h2 = subst (λ c. sign_rank c ≤ k) (same_is c a h) e in absurd (omega (arith, le, h2)))
    (λ h. h)
first_not a k (Token.Name c ∷ ts) le e = refl
first_not a k (Token.Reserved c ∷ ts) le e = refl
first_not a k (Token.Int c ∷ ts) le e = refl
first_not a k (Token.Text q c ∷ ts) le e = refl
first_not a k (Token.Attribute q c ∷ ts) le e = refl
first_not a k (Token.Template f c t ∷ ts) le e = refl
first_not a k (Token.Begin c ∷ ts) le e = refl
first_not a k (Token.JsxText c ∷ ts) le e = refl

pub same_level : (level : Level) (op : Bin) → is_of_level level op ≡ true → tightness_of (level_of op) ≡ tightness_of level
same_level Or_level bin.Or h = refl
same_level Coalesce_level bin.Coalesce h = refl
same_level And_level bin.And h = refl
same_level Same_level bin.Same h = refl
same_level Same_level bin.NotSame h = refl
same_level Order_level bin.Less h = refl
same_level Order_level bin.LessEq h = refl
same_level Order_level bin.More h = refl
same_level Order_level bin.MoreEq h = refl
same_level Sum_level bin.Add h = refl
same_level Sum_level bin.Sub h = refl
same_level Product_level bin.Mul h = refl
same_level Product_level bin.Rem h = refl
same_level level op h = absurd (true≢false (sym h))

-- no operator of that level follows
pub no_operator : (level : Level) (k : ℕ) (ts : List Token) → k ≤ tightness_of level → Ends k ts → operator_at level ts ≡ None
unfolding operator_at
no_operator level k [] le e = refl
no_operator level k (Token.Punct c ∷ ts) le e = none (bin_of c) refl
  where
    none : (o : Option Bin) → bin_of c ≡ o → of_level level (bin_of c) ≡ None
    none None h = ap (λ o. of_level level o) h
    none (Some op) h = ap (λ o. of_level level o) h ∙ by_bool (is_of_level level op)
        (λ s. let h2 : suc (tightness_of (level_of op)) ≤ k = subst (λ o. maybe o (mark_rank c) (λ op. suc (tightness_of (level_of op))) ≤ k) h e in
        let h3 = same_level level op s in absurd (omega (arith, h2, h3, le)))
        (λ s. ap (λ b. if b then Some op else None) s)
no_operator level k (Token.Name c ∷ ts) le e = refl
no_operator level k (Token.Reserved c ∷ ts) le e = refl
no_operator level k (Token.Int c ∷ ts) le e = refl
no_operator level k (Token.Text q c ∷ ts) le e = refl
no_operator level k (Token.Attribute q c ∷ ts) le e = refl
no_operator level k (Token.Template f c t ∷ ts) le e = refl
no_operator level k (Token.Begin c ∷ ts) le e = refl
no_operator level k (Token.JsxText c ∷ ts) le e = refl

-- what follows an operator's sign
pub sign_seen : (op : Bin) (ts : List Token) → binary_sign (bin_sign op ts) ≡ Some op
sign_seen bin.Or ts = refl
sign_seen bin.And ts = refl
sign_seen bin.Coalesce ts = refl
sign_seen bin.Same ts = refl
sign_seen bin.NotSame ts = refl
sign_seen bin.Less ts = refl
sign_seen bin.LessEq ts = refl
sign_seen bin.More ts = refl
sign_seen bin.MoreEq ts = refl
sign_seen bin.Add ts = refl
sign_seen bin.Sub ts = refl
sign_seen bin.Mul ts = refl
sign_seen bin.Rem ts = refl

pub sign_taken : (op : Bin) (ts : List Token) → rest (bin_sign op ts) ≡ ts
sign_taken bin.Or ts = refl
sign_taken bin.And ts = refl
sign_taken bin.Coalesce ts = refl
sign_taken bin.Same ts = refl
sign_taken bin.NotSame ts = refl
sign_taken bin.Less ts = refl
sign_taken bin.LessEq ts = refl
sign_taken bin.More ts = refl
sign_taken bin.MoreEq ts = refl
sign_taken bin.Add ts = refl
sign_taken bin.Sub ts = refl
sign_taken bin.Mul ts = refl
sign_taken bin.Rem ts = refl

pub sign_ends : (op : Bin) (ts : List Token) → Ends (suc (tightness_of (level_of op))) (bin_sign op ts)
sign_ends bin.Or ts = omega arith
sign_ends bin.And ts = omega arith
sign_ends bin.Coalesce ts = omega arith
sign_ends bin.Same ts = omega arith
sign_ends bin.NotSame ts = omega arith
sign_ends bin.Less ts = omega arith
sign_ends bin.LessEq ts = omega arith
sign_ends bin.More ts = omega arith
sign_ends bin.MoreEq ts = omega arith
sign_ends bin.Add ts = omega arith
sign_ends bin.Sub ts = omega arith
sign_ends bin.Mul ts = omega arith
sign_ends bin.Rem ts = omega arith

pub operand_above : (level : Level) → suc (tightness_of level) ≤ operand_tightness level
operand_above Or_level = omega arith
operand_above Coalesce_level = omega arith
operand_above And_level = omega arith
operand_above Same_level = omega arith
operand_above Order_level = omega arith
operand_above Sum_level = omega arith
operand_above Product_level = omega arith

-- ---- no arrow is ahead

-- it is no arrow
abbrev pub is_plain : Expression → Bool
is_plain (Function parameters body) = false
is_plain _ = true

pub binds_plain : (k : ℕ) (x : Expression) → binds (suc k) x ≡ true → is_plain x ≡ true
binds_plain k (Function parameters body) h = let h2 : suc k ≤ 0 = leb→le (suc k) 0 (subst T (sym h) tt) in absurd (omega (arith, h2))
binds_plain k x h = refl

abbrev pub Arrowless : List Token → Type 0
Arrowless ts = arrow_from (first ts) (rest ts) ≡ false

-- what follows isn't the sign of an arrow
abbrev pub NoArrowSign : List Token → Type 0
NoArrowSign ts = first_is (Sign (codes "=>")) ts ≡ false

links_unarrowed : (link : Link) (ts : List Token) → NoArrowSign (link_tokens link ts)
links_unarrowed (Dot w) ts = refl
links_unarrowed (Index x) ts = refl
links_unarrowed (Call arguments) ts = refl

signs_unarrowed : (op : Bin) (ts : List Token) → NoArrowSign (bin_sign op ts)
signs_unarrowed bin.Or ts = refl
signs_unarrowed bin.And ts = refl
signs_unarrowed bin.Coalesce ts = refl
signs_unarrowed bin.Same ts = refl
signs_unarrowed bin.NotSame ts = refl
signs_unarrowed bin.Less ts = refl
signs_unarrowed bin.LessEq ts = refl
signs_unarrowed bin.More ts = refl
signs_unarrowed bin.MoreEq ts = refl
signs_unarrowed bin.Add ts = refl
signs_unarrowed bin.Sub ts = refl
signs_unarrowed bin.Mul ts = refl
signs_unarrowed bin.Rem ts = refl

-- the scan for an arrow fails on a phrase, or it goes past it
abbrev pub Passed : Scan → List Token → List Token → Type 0
Passed scan ts after = (finds_arrow scan ts ≡ false) ⊎ (finds_arrow scan ts ≡ finds_arrow After_pattern after)

fields_passed_next : (fields : Fields) (after : List Token) → Passed At_next (fields_tokens fields (Token.Punct (codes "}") ∷ after)) after
unfolding finds_arrow
fields_passed_next No_field after = inr refl
fields_passed_next (Only_field (Key (Free a) x)) after = inl refl
fields_passed_next (Only_field (Key (Taken a) x)) after = inl refl
fields_passed_next (Only_field (Quoted_key q p x)) after = inl refl
fields_passed_next (Only_field (Short a)) after = inr refl
fields_passed_next (Field_comma (Key (Free a) x) more) after = inl refl
fields_passed_next (Field_comma (Key (Taken a) x) more) after = inl refl
fields_passed_next (Field_comma (Quoted_key q p x) more) after = inl refl
fields_passed_next (Field_comma (Short a) more) after = fields_passed_next more after

fields_passed : (fields : Fields) (after : List Token) → Passed At_first (fields_tokens fields (Token.Punct (codes "}") ∷ after)) after
unfolding finds_arrow
fields_passed No_field after = inl refl
fields_passed (Only_field (Key (Free a) x)) after = inl refl
fields_passed (Only_field (Key (Taken a) x)) after = inl refl
fields_passed (Only_field (Quoted_key q p x)) after = inl refl
fields_passed (Only_field (Short a)) after = inr refl
fields_passed (Field_comma (Key (Free a) x) more) after = inl refl
fields_passed (Field_comma (Key (Taken a) x) more) after = inl refl
fields_passed (Field_comma (Quoted_key q p x) more) after = inl refl
fields_passed (Field_comma (Short a) more) after = fields_passed_next more after

-- what can't stand after a pattern ends the scan
passed_then : (ts after : List Token) → Passed At_pattern ts after → finds_arrow After_pattern after ≡ false → (more : List Token) → Passed At_pattern ts more
passed_then ts after (inl e) h more = inl e
passed_then ts after (inr e) h more = inl (e ∙ h)

link_stops : (link : Link) (ts : List Token) → finds_arrow After_pattern (link_tokens link ts) ≡ false
unfolding finds_arrow
link_stops (Dot w) ts = refl
link_stops (Index x) ts = refl
link_stops (Call arguments) ts = refl

sign_stops : (op : Bin) (ts : List Token) → finds_arrow After_pattern (bin_sign op ts) ≡ false
unfolding finds_arrow
sign_stops bin.Or ts = refl
sign_stops bin.And ts = refl
sign_stops bin.Coalesce ts = refl
sign_stops bin.Same ts = refl
sign_stops bin.NotSame ts = refl
sign_stops bin.Less ts = refl
sign_stops bin.LessEq ts = refl
sign_stops bin.More ts = refl
sign_stops bin.MoreEq ts = refl
sign_stops bin.Add ts = refl
sign_stops bin.Sub ts = refl
sign_stops bin.Mul ts = refl
sign_stops bin.Rem ts = refl

pub passed : (x : Expression) (after : List Token) → Passed At_pattern (tokens x after) after
unfolding finds_arrow
passed Undefined after = inl refl
passed Null after = inl refl
passed (Truth true) after = inl refl
passed (Truth false) after = inl refl
passed (Number a) after = inl refl
passed (Quoted q p) after = inl refl
passed (Named a) after = inr refl
passed (Whole p) after = inl refl
passed (Holed p x more) after = inl refl
passed (Bracketed x) after = inl refl
passed (Listed arguments) after = inl refl
passed (Recorded fields) after = fields_passed fields after
passed (Markup (Closed tag attributes)) after = inl refl
passed (Markup (Open tag attributes children end)) after = inl refl
passed (Markup (Fragment children)) after = inl refl
passed (Log x) after = inl refl
passed (Keys x) after = inl refl
passed (Str x) after = inl refl
passed (Trunc x y) after = inl refl
passed (Postfix head link more) after =
    let ts = links_tokens more after in
    passed_then (tokens head (link_tokens link ts)) (link_tokens link ts) (passed head (link_tokens link ts)) (link_stops link ts) after
passed (Prefix un.Not x) after = inl refl
passed (Prefix un.Neg x) after = inl refl
passed (Chain x op y more) after =
    let ts = tokens y (operands_tokens more after) in
    passed_then (tokens x (bin_sign op ts)) (bin_sign op ts) (passed x (bin_sign op ts)) (sign_stops op ts) after
passed (Choice x y z) after =
    let ts = Token.Punct (codes "?") ∷ tokens y (Token.Punct (codes ":") ∷ tokens z after) in
    passed_then (tokens x ts) ts (passed x ts) refl after
passed (Function (Bare a) body) after = inl refl
passed (Function (In_brackets bindings) body) after = inl refl

arrow_stops : (ts : List Token) → NoArrowSign ts → finds_arrow At_arrow ts ≡ false
unfolding finds_arrow
arrow_stops [] e = refl
arrow_stops (Token.Punct c ∷ ts) e = ap (λ b. if b then true else false) e
arrow_stops (Token.Name c ∷ ts) e = refl
arrow_stops (Token.Reserved c ∷ ts) e = refl
arrow_stops (Token.Int c ∷ ts) e = refl
arrow_stops (Token.Text q c ∷ ts) e = refl
arrow_stops (Token.Attribute q c ∷ ts) e = refl
arrow_stops (Token.Template f c t ∷ ts) e = refl
arrow_stops (Token.Begin c ∷ ts) e = refl
arrow_stops (Token.JsxText c ∷ ts) e = refl

-- no arrow is ahead of what is none
pub arrowless : (form : Form) (x : Expression) → keeps form x → is_plain x ≡ true → (after : List Token) → NoArrowSign after → Arrowless (tokens x after)
unfolding finds_arrow
arrowless form Undefined ke p after e = refl
arrowless form Null ke p after e = refl
arrowless form (Truth true) ke p after e = refl
arrowless form (Truth false) ke p after e = refl
arrowless form (Number a) ke p after e = refl
arrowless form (Quoted q ps) ke p after e = refl
arrowless form (Named a) ke p after e = e
arrowless form (Whole ps) ke p after e = refl
arrowless form (Holed ps x more) ke p after e = refl
arrowless form (Bracketed x) ke p after e = elim (passed x (Token.Punct (codes ")") ∷ after)) [
  | inl h ↦ h
  | inr h ↦ h ∙ arrow_stops after e
]
arrowless form (Listed arguments) ke p after e = refl
arrowless form (Recorded fields) ke p after e = refl
arrowless form (Markup (Closed tag attributes)) ke p after e = refl
arrowless form (Markup (Open tag attributes children end)) ke p after e = refl
arrowless form (Markup (Fragment children)) ke p after e = refl
arrowless form (Log x) ke p after e = refl
arrowless form (Keys x) ke p after e = refl
arrowless form (Str x) ke p after e = refl
arrowless form (Trunc x y) ke p after e = refl
arrowless form (Postfix head link more) ke p after e = arrowless form head ke.2 (binds_plain 8 head ke.0) (link_tokens link (links_tokens more after)) (links_unarrowed link (links_tokens more after))
arrowless form (Prefix un.Not x) ke p after e = refl
arrowless form (Prefix un.Neg x) ke p after e = refl
arrowless form (Chain x op y more) ke p after e = arrowless form x ke.1 (binds_plain_above (level_of op) x ke.0) (bin_sign op (tokens y (operands_tokens more after))) (signs_unarrowed op (tokens y (operands_tokens more after)))
  where
    binds_plain_above : (level : Level) (x : Expression) → binds (operand_tightness level) x ≡ true → is_plain x ≡ true
    binds_plain_above Or_level x h = binds_plain 1 x h
    binds_plain_above Coalesce_level x h = binds_plain 2 x h
    binds_plain_above And_level x h = binds_plain 2 x h
    binds_plain_above Same_level x h = binds_plain 3 x h
    binds_plain_above Order_level x h = binds_plain 4 x h
    binds_plain_above Sum_level x h = binds_plain 5 x h
    binds_plain_above Product_level x h = binds_plain 6 x h
arrowless form (Choice x y z) ke p after e = arrowless form x ke.1 (binds_plain 0 x ke.0) (Token.Punct (codes "?") ∷ tokens y (Token.Punct (codes ":") ∷ tokens z after)) refl
arrowless form (Function parameters body) ke p after e = true_false (sym p)

-- ---- first tokens

-- 0 for a sign that ends something or stands between, 1 for `!`, `-` and `{`, 2 for what begins an atom
abbrev pub opening : Token → ℕ
opening (Token.Punct a) = if is_one_of a (codes ")" ∷ codes "]" ∷ codes "}" ∷ codes ";" ∷ codes "," ∷ codes "?" ∷ []) then 0 else (if is_one_of a (codes "!" ∷ codes "-" ∷ []) then 1 else 2)
opening _ = 2

abbrev pub Opens : ℕ → List Token → Type 0
Opens k [] = ⊥
Opens k (t ∷ ts) = k ≤ opening t

pub opens_not : (a : Characters) (ts : List Token) → Opens (suc (opening (Token.Punct a))) ts → first_is (Sign a) ts ≡ false
opens_not a [] e = absurd e
opens_not a (Token.Punct c ∷ ts) e = by_bool (same c a)
    (λ h. let h2 = subst (λ c. suc (opening (Token.Punct a)) ≤ opening (Token.Punct c)) (same_is c a h) e in absurd (omega (arith, h2)))
    (λ h. h)
opens_not a (Token.Name c ∷ ts) e = refl
opens_not a (Token.Reserved c ∷ ts) e = refl
opens_not a (Token.Int c ∷ ts) e = refl
opens_not a (Token.Text q c ∷ ts) e = refl
opens_not a (Token.Attribute q c ∷ ts) e = refl
opens_not a (Token.Template f c t ∷ ts) e = refl
opens_not a (Token.Begin c ∷ ts) e = refl
opens_not a (Token.JsxText c ∷ ts) e = refl

pub opens_weaker : (j k : ℕ) (ts : List Token) → j ≤ k → Opens k ts → Opens j ts
opens_weaker j k [] le e = e
opens_weaker j k (t ∷ ts) le e = le_trans le e

-- what binds as tightly as a postfix form begins with no unary operator
pub tight_opens : (form : Form) (x : Expression) → keeps form x → binds 8 x ≡ true → (after : List Token) → Opens 2 (tokens x after)
tight_opens form Undefined ke b after = omega arith
tight_opens form Null ke b after = omega arith
tight_opens form (Truth true) ke b after = omega arith
tight_opens form (Truth false) ke b after = omega arith
tight_opens form (Number a) ke b after = omega arith
tight_opens form (Quoted q ps) ke b after = omega arith
tight_opens form (Named a) ke b after = omega arith
tight_opens form (Whole ps) ke b after = omega arith
tight_opens form (Holed ps x more) ke b after = omega arith
tight_opens form (Bracketed x) ke b after = omega arith
tight_opens form (Listed arguments) ke b after = omega arith
tight_opens form (Recorded fields) ke b after = omega arith
tight_opens form (Markup (Closed tag attributes)) ke b after = omega arith
tight_opens form (Markup (Open tag attributes children end)) ke b after = omega arith
tight_opens form (Markup (Fragment children)) ke b after = omega arith
tight_opens form (Log x) ke b after = omega arith
tight_opens form (Keys x) ke b after = omega arith
tight_opens form (Str x) ke b after = omega arith
tight_opens form (Trunc x y) ke b after = omega arith
tight_opens form (Postfix head link more) ke b after = tight_opens form head ke.2 (binds_less 8 head ke.0) (link_tokens link (links_tokens more after))
  where
    binds_less : (k : ℕ) (x : Expression) → nat_le (suc k) (tightness x) ≡ true → nat_le k (tightness x) ≡ true
    binds_less k x h = le-leb k (tightness x) (let h2 = leb→le (suc k) (tightness x) (subst T (sym h) tt) in omega (arith, h2))
tight_opens form (Prefix op x) ke b after = true_false (sym b)
tight_opens form (Chain x bin.Or y more) ke b after = true_false (sym b)
tight_opens form (Chain x bin.And y more) ke b after = true_false (sym b)
tight_opens form (Chain x bin.Coalesce y more) ke b after = true_false (sym b)
tight_opens form (Chain x bin.Same y more) ke b after = true_false (sym b)
tight_opens form (Chain x bin.NotSame y more) ke b after = true_false (sym b)
tight_opens form (Chain x bin.Less y more) ke b after = true_false (sym b)
tight_opens form (Chain x bin.LessEq y more) ke b after = true_false (sym b)
tight_opens form (Chain x bin.More y more) ke b after = true_false (sym b)
tight_opens form (Chain x bin.MoreEq y more) ke b after = true_false (sym b)
tight_opens form (Chain x bin.Add y more) ke b after = true_false (sym b)
tight_opens form (Chain x bin.Sub y more) ke b after = true_false (sym b)
tight_opens form (Chain x bin.Mul y more) ke b after = true_false (sym b)
tight_opens form (Chain x bin.Rem y more) ke b after = true_false (sym b)
tight_opens form (Choice x y z) ke b after = true_false (sym b)
tight_opens form (Function parameters body) ke b after = true_false (sym b)

pub opens : (x : Expression) (after : List Token) → Opens 1 (tokens x after)
opens Undefined after = omega arith
opens Null after = omega arith
opens (Truth true) after = omega arith
opens (Truth false) after = omega arith
opens (Number a) after = omega arith
opens (Quoted q ps) after = omega arith
opens (Named a) after = omega arith
opens (Whole ps) after = omega arith
opens (Holed ps x more) after = omega arith
opens (Bracketed x) after = omega arith
opens (Listed arguments) after = omega arith
opens (Recorded fields) after = omega arith
opens (Markup (Closed tag attributes)) after = omega arith
opens (Markup (Open tag attributes children end)) after = omega arith
opens (Markup (Fragment children)) after = omega arith
opens (Log x) after = omega arith
opens (Keys x) after = omega arith
opens (Str x) after = omega arith
opens (Trunc x y) after = omega arith
opens (Postfix head link more) after = opens head (link_tokens link (links_tokens more after))
opens (Prefix un.Not x) after = omega arith
opens (Prefix un.Neg x) after = omega arith
opens (Chain x op y more) after = opens x (bin_sign op (tokens y (operands_tokens more after)))
opens (Choice x y z) after = opens x (Token.Punct (codes "?") ∷ tokens y (Token.Punct (codes ":") ∷ tokens z after))
opens (Function (Bare a) body) after = omega arith
opens (Function (In_brackets bindings) body) after = omega arith
