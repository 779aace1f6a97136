-- What may stand before and behind the tokens of a line.
use Rattle.std.specs.Prelude.{◌≡◌, refl, ℕ, Bool, true, false, not, ◌&&◌, if◌then◌else◌, ◌==◌, Option, Some, [], ◌∷◌, ◌++◌, length, codes, IsTrue}
use Rattle.std.proofs.Common.{ap, sym, ◌∙◌, subst}
use Rattle.std.proofs.lemmas.Bool.{false≢true}
use Rattle.qk_ast.specs.declared.Bin.{Bin}
use Rattle.qk_ast.specs.declared.Bin.TheVariants as bin
use Rattle.qk_ast.specs.declared.AssignOp.{AssignOp}
use Rattle.qk_ast.specs.declared.AssignOp.TheVariants as assign
use Rattle.qk_ast.specs.Characters.{Characters, same, is_one_of, begins_with, is_front, is_letter}
use Rattle.qk_ast.specs.Tokens.{Token, Written, Around, Braces, In_hole, In_tag, In_end, Children, is_code, in_hole, after, reserved_words, is_word, begin_signs, child_signs, is_sign, allows_jsx, ends_word, is_code_sign, continues_attribute, is_attribute_rest, is_attribute_name, is_code_token, is_tag_token, is_end_token, is_child_token, stands, written}
use Rattle.qk_ast.proofs.FrontToken.{left, right}
use Rattle.qk_ast.proofs.Pieces.{nat_is}
use Rattle.qk_print.specs.Shapes.{is_less}
use Rattle.qk_print.proofs.Lines.{put, name, word, sign, begin, space, feed, apart, bin_line, assign_line}
use Rattle.qk_print.proofs.Fitting.{same_region, in_braces, both}

-- The line may stand in these regions, behind that token.
pub record At (around : Around) (before : Option Token) (R : Written) : Type 0 where
  pub stand : stands around before R []

-- no word goes on with it
abbrev pub Soft : Written → Type 0
Soft R = IsTrue (ends_word (written R []))

-- ---- spaces

pub spaced : {around : Around} {before : Option Token} {R : Written} → IsTrue (is_code around) → At around before R → At around before (space R)
spaced {around} {before} {R} c k = record { stand = choose around R c k.stand }
  where
    choose : (a : Around) (Q : Written) → IsTrue (is_code a) → stands a before Q [] → stands a before (space Q) []
    choose [] (Written.End gap) c h = h
    choose (Braces ∷ a) (Written.End gap) c h = h
    choose (In_hole ∷ a) (Written.End gap) c h = h
    choose (In_tag ∷ a) (Written.End gap) c h = absurd (false≢true c)
    choose (In_end ∷ a) (Written.End gap) c h = absurd (false≢true c)
    choose (Children ∷ a) (Written.End gap) c h = absurd (false≢true c)
    choose [] (Written.Then gap token more) c h = (h.0, h.1, h.2)
    choose (Braces ∷ a) (Written.Then gap token more) c h = (h.0, h.1, h.2)
    choose (In_hole ∷ a) (Written.Then gap token more) c h = (h.0, h.1, h.2)
    choose (In_tag ∷ a) (Written.Then gap token more) c h = absurd (false≢true c)
    choose (In_end ∷ a) (Written.Then gap token more) c h = absurd (false≢true c)
    choose (Children ∷ a) (Written.Then gap token more) c h = absurd (false≢true c)

pub fed : {before : Option Token} {R : Written} → At [] before R → At [] before (feed R)
fed {before} {R} k = record { stand = choose R k.stand }
  where
    choose : (Q : Written) → stands [] before Q [] → stands [] before (feed Q) []
    choose (Written.End gap) h = h
    choose (Written.Then gap token more) h = (h.0, h.1, h.2)

pub with_space : (P : Characters → Type 0) → ((cs : Characters) → P (32 ∷ cs)) → (R : Written) → P (written (space R) [])
with_space P h (Written.End gap) = h _
with_space P h (Written.Then gap token more) = h _

pub soft_space : (R : Written) → Soft (space R)
soft_space = with_space (λ cs. IsTrue (ends_word cs)) (λ cs. refl)

-- ---- tokens of code

pub code_token : {around : Around} {before : Option Token} {token : Token} {R : Written} → IsTrue (is_code around) → is_code_token around before token (written R []) → At (after around token) (Some token) R → At around before (put token R)
code_token {around} {before} {token} {R} c h k = record { stand = choose around c h k.stand }
  where
    choose : (a : Around) → IsTrue (is_code a) → is_code_token a before token (written R []) → stands (after a token) (Some token) R [] → stands a before (put token R) []
    choose [] c h k = (refl, h, k)
    choose (Braces ∷ a) c h k = (refl, h, k)
    choose (In_hole ∷ a) c h k = (refl, h, k)
    choose (In_tag ∷ a) c h k = absurd (false≢true c)
    choose (In_end ∷ a) c h k = absurd (false≢true c)
    choose (Children ∷ a) c h k = absurd (false≢true c)

-- a reserved word before a space
pub keyword : {around : Around} {before : Option Token} {R : Written} (w : Characters) → IsTrue (is_code around) → IsTrue (is_one_of w reserved_words) → At around (Some (Token.Reserved w)) R → At around before (word w (space R))
keyword {around} {before} {R} w c h k = code_token c (h, soft_space R) (spaced c k)

-- a name between spaces
pub name_apart : {around : Around} {before : Option Token} {R : Written} (a : Characters) → IsTrue (is_code around) → IsTrue (is_word a) → IsTrue (not (is_one_of a reserved_words)) → At around (Some (Token.Name a)) R → At around before (apart (name a) R)
name_apart {around} {before} {R} a c h f k = spaced c (code_token c (h, f, soft_space R) (spaced c k))

-- a sign that is no brace
pub code_sign : {around : Around} {before : Option Token} {R : Written} (s : Characters) → IsTrue (is_code around) → same s (codes "{") ≡ false → same s (codes "}") ≡ false
    → IsTrue (is_code_sign before s (written R [])) → At around (Some (Token.Punct s)) R → At around before (sign s R)
code_sign {around} {before} {R} s c e f h k = code_token c (ap (λ b. not (b && in_hole around)) f, h) (subst (λ a. At a (Some (Token.Punct s)) R) (sym (same_region around s c e f)) k)

pub opens_brace : {around : Around} {before : Option Token} {R : Written} → IsTrue (is_code around) → At (Braces ∷ around) (Some (Token.Punct (codes "{"))) R → At around before (sign (codes "{") R)
opens_brace {around} {before} {R} c k = code_token c (refl, refl) (subst (λ a. At a (Some (Token.Punct (codes "{"))) R) (sym (in_braces around c)) k)

pub closes_brace : {around : Around} {before : Option Token} {R : Written} → At around (Some (Token.Punct (codes "}"))) R → At (Braces ∷ around) before (sign (codes "}") R)
closes_brace k = code_token refl (refl, refl) k

-- a sign between spaces
pub code_apart : {around : Around} {before : Option Token} {R : Written} (s : Characters) → IsTrue (is_code around) → same s (codes "{") ≡ false → same s (codes "}") ≡ false
    → ((cs : Characters) → IsTrue (is_code_sign before s (32 ∷ cs))) → At around (Some (Token.Punct s)) R → At around before (apart (sign s) R)
code_apart {around} {before} {R} s c e f h k = spaced c (code_sign s c e f (with_space (λ cs. IsTrue (is_code_sign before s cs)) h R) (spaced c k))

-- ---- where JSX may begin

-- behind that token no JSX begins
abbrev pub Shut : Bool → Option Token → Type 0
Shut true last = IsTrue (not (allows_jsx last))
Shut false last = Unit {0}

-- JSX may begin there
abbrev pub Jsx_at : Around → Option Token → Type 0
Jsx_at (In_tag ∷ around) before = ⊥
Jsx_at (In_end ∷ around) before = ⊥
Jsx_at (Children ∷ around) before = Unit {0}
Jsx_at around before = IsTrue (allows_jsx before)

pub jsx_in_code : (around : Around) (before : Option Token) → IsTrue (is_code around) → IsTrue (allows_jsx before) → Jsx_at around before
jsx_in_code around before c h = choose around c
  where
    choose : (a : Around) → IsTrue (is_code a) → Jsx_at a before
    choose [] c = h
    choose (Braces ∷ a) c = h
    choose (In_hole ∷ a) c = h
    choose (In_tag ∷ a) c = absurd (false≢true c)
    choose (In_end ∷ a) c = absurd (false≢true c)
    choose (Children ∷ a) c = absurd (false≢true c)

pub begins_jsx : {around : Around} {before : Option Token} {R : Written} (s : Characters) → Jsx_at around before → IsTrue (is_sign begin_signs s (written R []))
    → IsTrue (not (same s (codes "<") && is_front (codes "/") (written R []))) → At (after around (Token.Begin s)) (Some (Token.Begin s)) R → At around before (begin s R)
begins_jsx {around} {before} {R} s j h f k = record { stand = choose around j k.stand }
  where
    choose : (a : Around) → Jsx_at a before → stands (after a (Token.Begin s)) (Some (Token.Begin s)) R [] → stands a before (begin s R) []
    choose [] j k = (refl, (j, h), k)
    choose (Braces ∷ a) j k = (refl, (j, h), k)
    choose (In_hole ∷ a) j k = (refl, (j, h), k)
    choose (In_tag ∷ a) j k = absurd j
    choose (In_end ∷ a) j k = absurd j
    choose (Children ∷ a) j k = (refl, (h, f), k)

-- ---- tokens of tags

pub tag_token : {around : Around} {before : Option Token} {token : Token} {R : Written} → is_tag_token token (written R []) → At (after (In_tag ∷ around) token) (Some token) R → At (In_tag ∷ around) before (put token R)
tag_token h k = record { stand = (refl, h, k.stand) }

pub spaced_tag_token : {around : Around} {before : Option Token} {token : Token} {R : Written} → is_tag_token token (written R []) → At (after (In_tag ∷ around) token) (Some token) R → At (In_tag ∷ around) before (space (put token R))
spaced_tag_token h k = record { stand = (refl, h, k.stand) }

pub end_token : {around : Around} {before : Option Token} {token : Token} {R : Written} → is_end_token token (written R []) → At (after (In_end ∷ around) token) (Some token) R → At (In_end ∷ around) before (put token R)
end_token h k = record { stand = (refl, h, k.stand) }

pub child_token : {around : Around} {before : Option Token} {token : Token} {R : Written} → is_child_token token (written R []) → At (after (Children ∷ around) token) (Some token) R → At (Children ∷ around) before (put token R)
child_token h k = record { stand = (refl, h, k.stand) }

-- no name of a tag goes on with it
abbrev pub Tag_soft : Characters → Type 0
Tag_soft next = IsTrue (not (begins_with continues_attribute next)) × IsTrue (not (begins_with (λ c. c == 36) next))

rest_before : (a next : Characters) → is_attribute_rest a [] ≡ true → Tag_soft next → is_attribute_rest a next ≡ true
rest_before [] next h s = both _ _ s.0 s.1
rest_before (c ∷ cs) next h s = choose (c == 36) (λ k. rest_before cs next k s) h
  where
    choose : (b : Bool) → (is_attribute_rest cs [] ≡ true → is_attribute_rest cs next ≡ true) → (if b then length cs == 0 else continues_attribute c && is_attribute_rest cs []) ≡ true → (if b then length cs == 0 else continues_attribute c && is_attribute_rest cs next) ≡ true
    choose true onward k = k
    choose false onward k = both _ _ (left (continues_attribute c) _ k) (onward (right (continues_attribute c) _ k))

pub name_before : (a next : Characters) → IsTrue (is_attribute_name a []) → Tag_soft next → IsTrue (is_attribute_name a next)
name_before [] next h s = h
name_before (c ∷ cs) next h s = both _ _ (left (is_letter c) _ h) (rest_before cs next (right (is_letter c) _ h) s)

-- a character that passes is none that fails
pub other_than : (p : ℕ → Bool) (d c : ℕ) → p d ≡ false → p c ≡ true → (d == c) ≡ false
other_than p d c f t = choose (d == c) refl
  where
    choose : (b : Bool) → (d == c) ≡ b → b ≡ false
    choose true e = absurd (false≢true (sym f ∙ ap p (nat_is d c e) ∙ t))
    choose false e = refl

-- `<` and `</` before the name of a tag
pub tag_front : (a next : Characters) → IsTrue (is_attribute_name a []) → IsTrue (is_sign begin_signs (codes "<") (a ++ next)) × IsTrue (not (is_front (codes "/") (a ++ next))) × IsTrue (is_sign child_signs (codes "</") (a ++ next))
tag_front [] next h = absurd (false≢true h)
tag_front (c ∷ cs) next h =
    let more = other_than is_letter 62 c refl (left (is_letter c) _ h) in
    let slash = other_than is_letter 47 c refl (left (is_letter c) _ h) in
    (rw more refl, rw slash refl, rw more refl)

-- ---- operators

pub bin_stands : {around : Around} {before : Option Token} {R : Written} (op : Bin) → IsTrue (is_code around) → Shut (is_less (Some op)) before → ((last : Option Token) → At around last R) → At around before (bin_line op R)
bin_stands bin.Or c s k = code_apart (codes "||") c refl refl (λ cs. refl) (k _)
bin_stands bin.And c s k = code_apart (codes "&&") c refl refl (λ cs. refl) (k _)
bin_stands bin.Coalesce c s k = code_apart (codes "??") c refl refl (λ cs. refl) (k _)
bin_stands bin.Same c s k = code_apart (codes "===") c refl refl (λ cs. refl) (k _)
bin_stands bin.NotSame c s k = code_apart (codes "!==") c refl refl (λ cs. refl) (k _)
bin_stands bin.Less c s k = code_apart (codes "<") c refl refl (λ cs. s) (k _)
bin_stands bin.LessEq c s k = code_apart (codes "<=") c refl refl (λ cs. s) (k _)
bin_stands bin.More c s k = code_apart (codes ">") c refl refl (λ cs. refl) (k _)
bin_stands bin.MoreEq c s k = code_apart (codes ">=") c refl refl (λ cs. refl) (k _)
bin_stands bin.Add c s k = code_apart (codes "+") c refl refl (λ cs. refl) (k _)
bin_stands bin.Sub c s k = code_apart (codes "-") c refl refl (λ cs. refl) (k _)
bin_stands bin.Mul c s k = code_apart (codes "*") c refl refl (λ cs. refl) (k _)
bin_stands bin.Rem c s k = code_apart (codes "%") c refl refl (λ cs. refl) (k _)

pub soft_bin : (op : Bin) (R : Written) → Soft (bin_line op R)
soft_bin bin.Or R = refl
soft_bin bin.And R = refl
soft_bin bin.Coalesce R = refl
soft_bin bin.Same R = refl
soft_bin bin.NotSame R = refl
soft_bin bin.Less R = refl
soft_bin bin.LessEq R = refl
soft_bin bin.More R = refl
soft_bin bin.MoreEq R = refl
soft_bin bin.Add R = refl
soft_bin bin.Sub R = refl
soft_bin bin.Mul R = refl
soft_bin bin.Rem R = refl

pub soft_assign : (op : AssignOp) (R : Written) → Soft (assign_line op R)
soft_assign assign.Set R = refl
soft_assign assign.Add R = refl
soft_assign assign.Sub R = refl
soft_assign assign.Mul R = refl
