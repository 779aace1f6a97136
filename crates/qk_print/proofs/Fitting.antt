-- What each token of a text says of itself, in the regions where it stands.
use Rattle.std.specs.Prelude.{◌≡◌, refl, Bool, true, false, not, ◌&&◌, if◌then◌else◌, ◌==◌, Option, List, [], ◌∷◌, length, codes, IsTrue}
use Rattle.std.proofs.Common.{ap, ◌∙◌, subst}
use Rattle.std.proofs.lemmas.Bool.{false≢true}
use Rattle.qk_ast.specs.Characters.{Characters, same, is_one_of, is_letter}
use Rattle.qk_ast.specs.Tokens.{Token, Written, Around, Braces, In_hole, In_tag, In_end, Children, is_code, after, after_sign, reserved_words, is_word, is_int, continues_attribute, is_attribute_rest, is_attribute_name, is_code_token, is_tag_token, is_token, stands, tokens_of}
use Rattle.qk_ast.proofs.FrontToken.{left, right}

abbrev pub fits_code : Token → Type 0
fits_code (Token.Name a) = IsTrue (is_word a) × IsTrue (not (is_one_of a reserved_words))
fits_code (Token.Reserved a) = IsTrue (is_one_of a reserved_words)
fits_code (Token.Int digits) = IsTrue (is_int digits)
fits_code token = Unit {0}

abbrev pub fits_tag : Token → Type 0
fits_tag (Token.Name a) = IsTrue (is_attribute_name a [])
fits_tag token = Unit {0}

abbrev pub fits : Around → Token → Type 0
fits (In_tag ∷ around) token = fits_tag token
fits (In_end ∷ around) token = Unit {0}
fits (Children ∷ around) token = Unit {0}
fits around token = fits_code token

abbrev pub All_fit : Around → List Token → Type 0
All_fit around [] = Unit {0}
All_fit around (token ∷ ts) = fits around token × All_fit (after around token) ts

pub record Fit (around : Around) (ts : List Token) : Type 0 where
  pub all : All_fit around ts

-- ---- each text that stands

pub both : (x y : Bool) → x ≡ true → y ≡ true → (x && y) ≡ true
both x y e f = ap (λ b. b && y) e ∙ f

rest_alone : (a next : Characters) → is_attribute_rest a next ≡ true → is_attribute_rest a [] ≡ true
rest_alone [] next h = refl
rest_alone (c ∷ cs) next h = choose (c == 36) (rest_alone cs next) h
  where
    choose : (b : Bool) → (is_attribute_rest cs next ≡ true → is_attribute_rest cs [] ≡ true) → (if b then length cs == 0 else continues_attribute c && is_attribute_rest cs next) ≡ true → (if b then length cs == 0 else continues_attribute c && is_attribute_rest cs []) ≡ true
    choose true onward k = k
    choose false onward k = both _ _ (left (continues_attribute c) _ k) (onward (right (continues_attribute c) _ k))

name_alone : (a next : Characters) → is_attribute_name a next ≡ true → is_attribute_name a [] ≡ true
name_alone [] next h = h
name_alone (c ∷ cs) next h = ap (λ b. b && is_attribute_rest cs []) (left (is_letter c) _ h) ∙ rest_alone cs next (right (is_letter c) _ h)

code_fits : (around : Around) (before : Option Token) (token : Token) (next : Characters) → is_code_token around before token next → fits_code token
code_fits around before (Token.Name a) next h = (h.0, h.1)
code_fits around before (Token.Reserved a) next h = h.0
code_fits around before (Token.Int digits) next h = h.0
code_fits around before token next h = tt

tag_fits : (token : Token) (next : Characters) → is_tag_token token next → fits_tag token
tag_fits (Token.Name a) next h = name_alone a next h
tag_fits token next h = tt

token_fits : (around : Around) (before : Option Token) (token : Token) (next : Characters) → is_token around before token next → fits around token
token_fits [] before token next h = code_fits [] before token next h
token_fits (Braces ∷ around) before token next h = code_fits (Braces ∷ around) before token next h
token_fits (In_hole ∷ around) before token next h = code_fits (In_hole ∷ around) before token next h
token_fits (In_tag ∷ around) before token next h = tag_fits token next h
token_fits (In_end ∷ around) before token next h = tt
token_fits (Children ∷ around) before token next h = tt

all_fit : (w : Written) (around : Around) (before : Option Token) (next : Characters) → stands around before w next → All_fit around (tokens_of w)
all_fit (Written.End gap) around before next h = tt
all_fit (Written.Then gap token more) around before next h = (token_fits around before token _ h.1, all_fit more (after around token) _ next h.2)

pub text_fits : (w : Written) (around : Around) (before : Option Token) (next : Characters) → stands around before w next → Fit around (tokens_of w)
text_fits w around before next h = record { all = all_fit w around before next h }

-- ---- past one token

-- in code
in_code : (around : Around) (token : Token) → IsTrue (is_code around) → fits around token → fits_code token
in_code [] token c h = h
in_code (Braces ∷ around) token c h = h
in_code (In_hole ∷ around) token c h = h
in_code (In_tag ∷ around) token c h = absurd (false≢true c)
in_code (In_end ∷ around) token c h = absurd (false≢true c)
in_code (Children ∷ around) token c h = absurd (false≢true c)

-- what the token says in code
pub said : {around : Around} {token : Token} {ts : List Token} → IsTrue (is_code around) → Fit around (token ∷ ts) → fits_code token
said {around} {token} c h = in_code around token c h.all.0

pub past : {around : Around} {token : Token} {ts : List Token} → Fit around (token ∷ ts) → Fit (after around token) ts
past h = record { all = h.all.1 }

-- a sign of code that is no brace
pub same_region : (around : Around) (s : Characters) → IsTrue (is_code around) → same s (codes "{") ≡ false → same s (codes "}") ≡ false → after_sign around s ≡ around
same_region [] s c e f = ap (λ b. if b then Braces ∷ [] else []) e
same_region (Braces ∷ around) s c e f = ap (λ b. if b then around else (if same s (codes "{") then Braces ∷ Braces ∷ around else Braces ∷ around)) f ∙ ap (λ b. if b then Braces ∷ Braces ∷ around else Braces ∷ around) e
same_region (In_hole ∷ around) s c e f = ap (λ b. if b then Braces ∷ In_hole ∷ around else In_hole ∷ around) e
same_region (In_tag ∷ around) s c e f = absurd (false≢true c)
same_region (In_end ∷ around) s c e f = absurd (false≢true c)
same_region (Children ∷ around) s c e f = absurd (false≢true c)

pub past_sign : {around : Around} {s : Characters} {ts : List Token} → IsTrue (is_code around) → same s (codes "{") ≡ false → same s (codes "}") ≡ false → Fit around (Token.Punct s ∷ ts) → Fit around ts
past_sign {around} {s} {ts} c e f h = subst (λ a. Fit a ts) (same_region around s c e f) (past h)

pub in_braces : (around : Around) → IsTrue (is_code around) → after_sign around (codes "{") ≡ Braces ∷ around
in_braces [] c = refl
in_braces (Braces ∷ around) c = refl
in_braces (In_hole ∷ around) c = refl
in_braces (In_tag ∷ around) c = refl
in_braces (In_end ∷ around) c = absurd (false≢true c)
in_braces (Children ∷ around) c = refl

pub past_brace : {around : Around} {ts : List Token} → IsTrue (is_code around) → Fit around (Token.Punct (codes "{") ∷ ts) → Fit (Braces ∷ around) ts
past_brace {around} {ts} c h = subst (λ a. Fit a ts) (in_braces around c) (past h)
