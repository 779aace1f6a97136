-- How many arrows and tokens are written, and the kind of what is written.
use Rattle.std.proofs.Common.{◌≡◌, refl, ◌∙◌, ap, arith, length-append, le_trans}
use Rattle.std.proofs.Math.Nat.{le-max_left, le-max_right}
use Rattle.std.specs.Prelude.{ℕ, suc, ◌+◌, ◌≤◌, ◌<◌, max, Bool, true, false, if◌then◌else◌, List, [], ◌∷◌, ◌++◌, length, codes}
use Rattle.qk_ast.specs.declared.Bin.{Bin}
use Rattle.qk_ast.specs.declared.Bin.TheVariants as bin
use Rattle.qk_ast.specs.Characters.{same}
use Rattle.qk_ast.specs.Tokens.{Token}
use Rattle.qk_ast.specs.Grammar.{Expression, Named, Postfix, Prefix, Chain, Choice, Function, Link, Dot, Index, Call, Links, No_link, Next_link}
use Rattle.qk_ast.specs.Spelling.{Writing, tokens, bin_sign}
use Rattle.qk_ast.specs.Tree.{arrow_signs, arrows}
use Rattle.qk_ast.specs.Rules.{level_of, tightness, is_member, is_target, is_place}
use Rattle.qk_reading.specs.Input.{Kind, Loose, Chained, Prefixed, Called, Member, Bare, Atomic}
use Rattle.qk_reading.specs.Ahead.{kind_tightness, is_member_kind, is_target_kind}
use Rattle.qk_reading.proofs.Framed.{Framed, framed}
use Rattle.qk_reading.proofs.Follow.{Opens, opens}

arrow_signs_append : (ts us : List Token) → arrow_signs (ts ++ us) ≡ arrow_signs ts + arrow_signs us
arrow_signs_append [] us = omega arith
arrow_signs_append (Token.Punct a ∷ ts) us = by_case (arrow_signs (ts ++ us)) (arrow_signs ts) (arrow_signs us) (same a (codes "=>")) (arrow_signs_append ts us)
  where
    by_case : (x y z : ℕ) (b : Bool) → x ≡ y + z → (if b then 1 + x else x) ≡ (if b then 1 + y else y) + z
    by_case x y z true e = omega (arith, e)
    by_case x y z false e = e
arrow_signs_append (Token.Name c ∷ ts) us = arrow_signs_append ts us
arrow_signs_append (Token.Reserved c ∷ ts) us = arrow_signs_append ts us
arrow_signs_append (Token.Int c ∷ ts) us = arrow_signs_append ts us
arrow_signs_append (Token.Text q c ∷ ts) us = arrow_signs_append ts us
arrow_signs_append (Token.Attribute q c ∷ ts) us = arrow_signs_append ts us
arrow_signs_append (Token.Template f c t ∷ ts) us = arrow_signs_append ts us
arrow_signs_append (Token.Begin c ∷ ts) us = arrow_signs_append ts us
arrow_signs_append (Token.JsxText c ∷ ts) us = arrow_signs_append ts us

pub counted : {w : Writing} → Framed w → (ts : List Token) → arrow_signs (w ts) ≡ arrows w + arrow_signs ts
counted {w} f ts = ap arrow_signs (f.frames ts) ∙ arrow_signs_append (w []) ts

pub measured : {w : Writing} → Framed w → (ts : List Token) → length (w ts) ≡ length (w []) + length ts
measured {w} f ts = ap length (f.frames ts) ∙ length-append (w []) ts

pub sign_uncounted : (op : Bin) (ts : List Token) → arrow_signs (bin_sign op ts) ≡ arrow_signs ts
sign_uncounted bin.Or ts = refl
sign_uncounted bin.And ts = refl
sign_uncounted bin.Coalesce ts = refl
sign_uncounted bin.Same ts = refl
sign_uncounted bin.NotSame ts = refl
sign_uncounted bin.Less ts = refl
sign_uncounted bin.LessEq ts = refl
sign_uncounted bin.More ts = refl
sign_uncounted bin.MoreEq ts = refl
sign_uncounted bin.Add ts = refl
sign_uncounted bin.Sub ts = refl
sign_uncounted bin.Mul ts = refl
sign_uncounted bin.Rem ts = refl

pub sign_length : (op : Bin) (ts : List Token) → length (bin_sign op ts) ≡ suc (length ts)
sign_length bin.Or ts = refl
sign_length bin.And ts = refl
sign_length bin.Coalesce ts = refl
sign_length bin.Same ts = refl
sign_length bin.NotSame ts = refl
sign_length bin.Less ts = refl
sign_length bin.LessEq ts = refl
sign_length bin.More ts = refl
sign_length bin.MoreEq ts = refl
sign_length bin.Add ts = refl
sign_length bin.Sub ts = refl
sign_length bin.Mul ts = refl
sign_length bin.Rem ts = refl

pub some_length : (ts : List Token) → Opens 1 ts → 1 ≤ length ts
some_length [] e = absurd e
some_length (t ∷ ts) e = omega arith

-- an expression takes a token
pub longer : (x : Expression) (ts : List Token) → length ts < length (tokens x ts)
longer x ts = let a = measured (framed x) ts in let b = some_length (tokens x []) (opens x []) in omega (arith, a, b)

pub in_left : (a b : ℕ) {n : ℕ} → n < a → n < max a b
in_left a b h = le_trans h (le-max_left a b)

pub in_right : (a b : ℕ) {n : ℕ} → n < b → n < max a b
in_right a b h = le_trans h (le-max_right a b)

-- ---- kinds

abbrev pub link_kind : Link → Kind
link_kind (Dot w) = Member
link_kind (Index x) = Member
link_kind (Call arguments) = Called

abbrev pub last_kind : Kind → Links → Kind
last_kind k No_link = k
last_kind k (Next_link link more) = last_kind (link_kind link) more

abbrev pub kind : Expression → Kind
kind (Named a) = Bare
kind (Postfix head link more) = last_kind (link_kind link) more
kind (Prefix op x) = Prefixed
kind (Chain first op second more) = Chained (level_of op)
kind (Choice x y z) = Loose
kind (Function parameters body) = Loose
kind _ = Atomic

last_tight : (link : Link) (more : Links) → kind_tightness (last_kind (link_kind link) more) ≡ 8
last_tight (Dot w) No_link = refl
last_tight (Index x) No_link = refl
last_tight (Call arguments) No_link = refl
last_tight link (Next_link next more) = last_tight next more

pub tight_kind : (x : Expression) → kind_tightness (kind x) ≡ tightness x
tight_kind (Postfix head link more) = last_tight link more
tight_kind x = refl

last_place : (link : Link) (more : Links) → is_member_kind (last_kind (link_kind link) more) ≡ is_place link more
last_place (Dot w) No_link = refl
last_place (Index x) No_link = refl
last_place (Call arguments) No_link = refl
last_place link (Next_link next more) = last_place next more

last_target : (link : Link) (more : Links) → is_target_kind (last_kind (link_kind link) more) ≡ is_place link more
last_target (Dot w) No_link = refl
last_target (Index x) No_link = refl
last_target (Call arguments) No_link = refl
last_target link (Next_link next more) = last_target next more

pub member_kind : (x : Expression) → is_member_kind (kind x) ≡ is_member x
member_kind (Postfix head link more) = last_place link more
member_kind x = refl

pub target_kind : (x : Expression) → is_target_kind (kind x) ≡ is_target x
target_kind (Postfix head link more) = last_target link more
target_kind x = refl
