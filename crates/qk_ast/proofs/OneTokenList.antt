-- One text has at most one token list.
use Rattle.std.specs.Prelude.{◌≡◌, refl, ℕ, Bool, true, false, not, ◌&&◌, ◌||◌, if◌then◌else◌, ◌==◌, List, [], ◌∷◌, ◌++◌, length, Option, Some, None, codes, IsTrue}
use mathlib.Core.Path.{sym, ◌∙◌, ap, subst}
use mathlib.Core.Logic.{inl, inr}
use lib.Dec.{eqb→eq, T, eqb-suc-zero}
use Rattle.std.proofs.lemmas.Bool.{false≢true, eq-eqb}
use Rattle.qk_ast.specs.Characters.{Characters, same, is_one_of, has, every, begins_with, is_front, is_letter, is_blank, begins_name, run, after_run}
use Rattle.qk_ast.specs.Tokens.{Token, Name, Reserved, Int, Text, Attribute, Template, Punct, Begin, JsxText, Backquote, Hole, Blank, Around, Braces, In_hole, In_tag, In_end, Children, after, spelling, gap_spelling, Written, End, Then, written, tokens_of, stands, Tokens, reserved_words, code_signs, tag_signs, child_signs, begin_signs, is_sign, is_code_sign, is_code_token, is_tag_token, is_end_token, is_child_token, is_token, is_gap, is_attribute_name}
use Rattle.qk_ast.proofs.FrontToken.{left, right, either, is_not, if_true, same_is, run_found, after_found, one_sign, among}
use Rattle.qk_ast.proofs.Pieces.{heads, tails}
use Rattle.qk_ast.proofs.OneToken.{a_digit, a_quote, first_digit, sign_is_sign, code_token_one}
use Rattle.qk_ast.proofs.OneTagToken.{begins_gap, attribute_name_one, gap_one}

-- ---- no gap begins where a token begins

abbrev pub is_solid : ℕ → Bool
is_solid c = not (is_blank c) && not (47 == c)

pub solid_first : (a b x y : Bool) → (not a && not b) ≡ true → (a || ((b && x) || (b && y))) ≡ false
solid_first true b x y h = absurd (false≢true h)
solid_first false true x y h = absurd (false≢true h)
solid_first false false x y h = refl

pub no_gap : (c : ℕ) (cs : Characters) → is_solid c ≡ true → begins_gap (c ∷ cs) ≡ false
no_gap c cs h = solid_first (is_blank c) (47 == c) _ _ h

pub equal : (c d : ℕ) → (c == d) ≡ true → c ≡ d
equal c d h = eqb→eq c d (subst T (sym h) tt)

-- a class that has no blank and no `/` is solid
pub solid_by : (p : ℕ → Bool) (c : ℕ) → p c ≡ true → p 32 ≡ false → p 9 ≡ false → p 10 ≡ false → p 13 ≡ false → p 47 ≡ false → is_solid c ≡ true
solid_by p c h a b d e f = go (is_blank c) refl (47 == c) refl
  where
    no : (x : ℕ) → p x ≡ false → c ≡ x → ⊥
    no x k q = false≢true (sym k ∙ (ap p (sym q) ∙ h))

    go : (x : Bool) → is_blank c ≡ x → (y : Bool) → (47 == c) ≡ y → is_solid c ≡ true
    go true q y r = absurd (elim (either ((c == 32) || (c == 9) || (c == 10)) (c == 13) q) [
      | inl s ↦ elim (either ((c == 32) || (c == 9)) (c == 10) s) [
        | inl t ↦ elim (either (c == 32) (c == 9) t) [ inl u ↦ no 32 a (equal c 32 u) | inr u ↦ no 9 b (equal c 9 u) ]
        | inr t ↦ no 10 d (equal c 10 t)
      ]
      | inr s ↦ no 13 e (equal c 13 s)
    ])
    go false q true r = absurd (no 47 f (sym (equal 47 c r)))
    go false q false r = ap (λ z. not z && not (47 == c)) q ∙ ap (λ z. not z) r

abbrev pub Begins : Characters → Type 0
Begins text = (begins_gap text ≡ false) × (text ≡ [] → ⊥)

pub cons_not : {c : ℕ} {cs : Characters} → c ∷ cs ≡ [] → ⊥
cons_not {c} {cs} e = false≢true (ap (λ t. begins_with (λ x. true) t) (sym e))

pub begins_at : (c : ℕ) (cs : Characters) → is_solid c ≡ true → Begins (c ∷ cs)
begins_at c cs h = (no_gap c cs h, λ e. cons_not e)

pub code_begins : (around : Around) (before : Option Token) (t : Token) (next : Characters) → is_code_token around before t next → Begins (spelling t next)
code_begins around before (Name []) next h = absurd (false≢true h.0)
code_begins around before (Name (c ∷ cs)) next h =
    begins_at c _ (solid_by begins_name c (left (begins_name c) _ h.0) refl refl refl refl refl)
code_begins around before (Reserved word) next h = among (λ w. Begins (w ++ next)) word reserved_words h.0 (begins_at 97 _ refl, (begins_at 97 _ refl, (begins_at 98 _ refl, (begins_at 99 _ refl, (begins_at 99 _ refl, (begins_at 99 _ refl, (begins_at 99 _ refl, (begins_at 99 _ refl, (begins_at 100 _ refl, (begins_at 100 _ refl, (begins_at 100 _ refl, (begins_at 100 _ refl, (begins_at 101 _ refl, (begins_at 101 _ refl, (begins_at 101 _ refl, (begins_at 101 _ refl, (begins_at 101 _ refl, (begins_at 102 _ refl, (begins_at 102 _ refl, (begins_at 102 _ refl, (begins_at 102 _ refl, (begins_at 105 _ refl, (begins_at 105 _ refl, (begins_at 105 _ refl, (begins_at 105 _ refl, (begins_at 105 _ refl, (begins_at 105 _ refl, (begins_at 108 _ refl, (begins_at 110 _ refl, (begins_at 110 _ refl, (begins_at 112 _ refl, (begins_at 112 _ refl, (begins_at 112 _ refl, (begins_at 112 _ refl, (begins_at 114 _ refl, (begins_at 115 _ refl, (begins_at 115 _ refl, (begins_at 115 _ refl, (begins_at 116 _ refl, (begins_at 116 _ refl, (begins_at 116 _ refl, (begins_at 116 _ refl, (begins_at 116 _ refl, (begins_at 117 _ refl, (begins_at 118 _ refl, (begins_at 118 _ refl, (begins_at 119 _ refl, (begins_at 119 _ refl, (begins_at 121 _ refl, tt)))))))))))))))))))))))))))))))))))))))))))))))))
code_begins around before (Int []) next h = absurd (false≢true h.0)
code_begins around before (Int (d ∷ ds)) next h = begins_at d _ (a_digit (λ x. is_solid x ≡ true) d (first_digit d ds h.0) refl refl refl refl refl refl refl refl refl refl)
code_begins around before (Text quote pieces) next h = begins_at quote _ (a_quote (λ q. is_solid q ≡ true) quote h.0 refl refl)
code_begins around before (Attribute quote inside) next h = absurd h
code_begins around before (Template Backquote pieces to) next h = begins_at 96 _ refl
code_begins around before (Template Hole pieces to) next h = begins_at 125 _ refl
code_begins around before (Punct sign) next h =
    let code : is_code_sign before sign next ≡ true = h.1 in
    let slash = right (is_sign code_signs sign next) _ (left (is_sign code_signs sign next && not (same sign (codes "/") && (is_front (codes "/") next || is_front (codes "*") next))) _ code) in (
      among (λ s. not (same s (codes "/") && (is_front (codes "/") next || is_front (codes "*") next)) ≡ true → begins_gap (s ++ next) ≡ false) sign code_signs
          (left (is_one_of sign code_signs) _ (sign_is_sign before sign next code)) ((λ h. refl), ((λ h. refl), ((λ h. refl), ((λ h. refl), ((λ h. refl), ((λ h. refl), ((λ h. refl), ((λ h. refl), ((λ h. refl), ((λ h. refl), ((λ h. refl), ((λ h. refl), ((λ h. refl), ((λ h. refl), ((λ h. refl), ((λ h. refl), ((λ h. refl), ((λ h. refl), ((λ h. refl), ((λ h. refl), ((λ h. refl), ((λ h. refl), ((λ h. refl), ((λ h. refl), ((λ h. refl), ((λ h. is_not _ h), ((λ h. refl), ((λ h. refl), ((λ h. refl), ((λ h. refl), ((λ h. refl), ((λ h. refl), ((λ h. refl), tt))))))))))))))))))))))))))))))))) slash,
      among (λ s. s ++ next ≡ [] → ⊥) sign code_signs (left (is_one_of sign code_signs) _ (sign_is_sign before sign next code)) ((λ e. cons_not e), ((λ e. cons_not e), ((λ e. cons_not e), ((λ e. cons_not e), ((λ e. cons_not e), ((λ e. cons_not e), ((λ e. cons_not e), ((λ e. cons_not e), ((λ e. cons_not e), ((λ e. cons_not e), ((λ e. cons_not e), ((λ e. cons_not e), ((λ e. cons_not e), ((λ e. cons_not e), ((λ e. cons_not e), ((λ e. cons_not e), ((λ e. cons_not e), ((λ e. cons_not e), ((λ e. cons_not e), ((λ e. cons_not e), ((λ e. cons_not e), ((λ e. cons_not e), ((λ e. cons_not e), ((λ e. cons_not e), ((λ e. cons_not e), ((λ e. cons_not e), ((λ e. cons_not e), ((λ e. cons_not e), ((λ e. cons_not e), ((λ e. cons_not e), ((λ e. cons_not e), ((λ e. cons_not e), ((λ e. cons_not e), tt))))))))))))))))))))))))))))))))),
    )
code_begins around before (Begin sign) next h = among (λ s. Begins (s ++ next)) sign begin_signs (left (is_one_of sign begin_signs) _ h.1) (begins_at 60 _ refl, (begins_at 60 _ refl, tt))
code_begins around before (JsxText text) next h = absurd h

pub name_begins : (name next : Characters) → is_attribute_name name next ≡ true → Begins (name ++ next)
name_begins [] next h = absurd (false≢true h)
name_begins (c ∷ cs) next h = begins_at c _ (solid_by is_letter c (left (is_letter c) _ h) refl refl refl refl refl)

pub tag_begins : (t : Token) (next : Characters) → is_tag_token t next → Begins (spelling t next)
tag_begins (Name name) next h = name_begins name next h
tag_begins (Attribute quote inside) next h = begins_at quote _ (a_quote (λ q. is_solid q ≡ true) quote h.0 refl refl)
tag_begins (Punct sign) next h = among (λ s. Begins (s ++ next)) sign tag_signs (left (is_one_of sign tag_signs) _ h)
    (begins_at 61 _ refl, (begins_at 123 _ refl, (begins_at 62 _ refl, ((refl, λ e. cons_not e), tt))))
tag_begins (Reserved word) next h = absurd h
tag_begins (Int digits) next h = absurd h
tag_begins (Text quote pieces) next h = absurd h
tag_begins (Template from pieces to) next h = absurd h
tag_begins (Begin sign) next h = absurd h
tag_begins (JsxText text) next h = absurd h

pub end_begins : (t : Token) (next : Characters) → is_end_token t next → Begins (spelling t next)
end_begins (Name name) next h = name_begins name next h
end_begins (Punct sign) next h = subst (λ s. Begins (s ++ next)) (sym (same_is sign (codes ">") h)) (begins_at 62 _ refl)
end_begins (Attribute quote inside) next h = absurd h
end_begins (Reserved word) next h = absurd h
end_begins (Int digits) next h = absurd h
end_begins (Text quote pieces) next h = absurd h
end_begins (Template from pieces to) next h = absurd h
end_begins (Begin sign) next h = absurd h
end_begins (JsxText text) next h = absurd h

-- ---- one token in a tag

abbrev pub letter_or_quote : Characters → ℕ
letter_or_quote [] = 3
letter_or_quote (c ∷ cs) = if is_letter c then 0 else (if has c (codes "'\"") then 1 else 2)

pub name_first : (name next : Characters) → is_attribute_name name next ≡ true → letter_or_quote (name ++ next) ≡ 0
name_first [] next h = absurd (false≢true h)
name_first (c ∷ cs) next h = if_true _ _ (left (is_letter c) _ h)

pub quote_first : (q : ℕ) (a next : Characters) → has q (codes "'\"") ≡ true → letter_or_quote (spelling (Attribute q a) next) ≡ 1
quote_first q a next h = a_quote (λ c. letter_or_quote (spelling (Attribute c a) next) ≡ 1) q h refl refl

pub sign_first : (sign next : Characters) → is_sign tag_signs sign next ≡ true → letter_or_quote (sign ++ next) ≡ 2
sign_first sign next h = among (λ s. letter_or_quote (s ++ next) ≡ 2) sign tag_signs (left (is_one_of sign tag_signs) _ h) (refl, (refl, (refl, (refl, tt))))

pub no_way : (m n : ℕ) {a b : Characters} → letter_or_quote a ≡ m → letter_or_quote b ≡ n → (m == n) ≡ false → a ≡ b → ⊥
no_way m n h k d e = false≢true (sym d ∙ eq-eqb m n (sym h ∙ (ap letter_or_quote e ∙ k)))

pub inside_one : (q : ℕ) (a b next next' : Characters) → every (λ c. not (c == q)) a ≡ true → every (λ c. not (c == q)) b ≡ true → a ++ q ∷ next ≡ b ++ q ∷ next' → (a ≡ b) × (next ≡ next')
inside_one q a b next next' h k e =
    let p : ℕ → Bool = λ c. not (c == q) in
    let stop : p q ≡ false = ap not (eq-eqb q q refl) in (
      sym (run_found p a (q ∷ next) h stop) ∙ (ap (λ t. run p t) e ∙ run_found p b (q ∷ next') k stop),
      tails (sym (after_found p a (q ∷ next) h stop) ∙ (ap (λ t. after_run p t) e ∙ after_found p b (q ∷ next') k stop)),
    )

pub attribute_one : (q r : ℕ) (a b next next' : Characters) → every (λ c. not (c == q)) a ≡ true → every (λ c. not (c == r)) b ≡ true
    → spelling (Attribute q a) next ≡ spelling (Attribute r b) next' → (Attribute q a ≡ Attribute r b) × (next ≡ next')
attribute_one q r a b next next' h k e =
    let same_quote : r ≡ q = sym (heads e) in
    let both = inside_one q a b next next' h (subst (λ x. every (λ c. not (c == x)) b ≡ true) same_quote k)
    (tails (subst (λ x. spelling (Attribute q a) next ≡ spelling (Attribute x b) next') same_quote e)) in
    (ap (λ xs. Attribute q xs) both.0 ∙ ap (λ x. Attribute x b) (heads e), both.1)

pub tag_token_one : (t u : Token) (next next' : Characters) → is_tag_token t next → is_tag_token u next' → spelling t next ≡ spelling u next' → (t ≡ u) × (next ≡ next')
tag_token_one (Name a) (Name b) next next' h k e = let both = attribute_name_one a b next next' h k e in (ap Name both.0, both.1)
tag_token_one (Name a) (Attribute r b) next next' h k e = absurd (no_way 0 1 (name_first a next h) (quote_first r b next' k.0) refl e)
tag_token_one (Name a) (Punct b) next next' h k e = absurd (no_way 0 2 (name_first a next h) (sign_first b next' k) refl e)
tag_token_one (Attribute q a) (Name b) next next' h k e = absurd (no_way 1 0 (quote_first q a next h.0) (name_first b next' k) refl e)
tag_token_one (Attribute q a) (Attribute r b) next next' h k e = attribute_one q r a b next next' h.1 k.1 e
tag_token_one (Attribute q a) (Punct b) next next' h k e = absurd (no_way 1 2 (quote_first q a next h.0) (sign_first b next' k) refl e)
tag_token_one (Punct a) (Name b) next next' h k e = absurd (no_way 2 0 (sign_first a next h) (name_first b next' k) refl e)
tag_token_one (Punct a) (Attribute r b) next next' h k e = absurd (no_way 2 1 (sign_first a next h) (quote_first r b next' k.0) refl e)
tag_token_one (Punct a) (Punct b) next next' h k e = let both = one_sign tag_signs a b next next' h k e in (ap Punct both.0, both.1)
tag_token_one (Name a) u next next' h k e = absurd k
tag_token_one (Attribute q a) u next next' h k e = absurd k
tag_token_one (Punct a) u next next' h k e = absurd k
tag_token_one t u next next' h k e = absurd h

-- ---- one token in a closing tag

pub end_sign : (a next : Characters) → same a (codes ">") ≡ true → letter_or_quote (a ++ next) ≡ 2
end_sign a next h = subst (λ s. letter_or_quote (s ++ next) ≡ 2) (sym (same_is a (codes ">") h)) refl

pub end_token_one : (t u : Token) (next next' : Characters) → is_end_token t next → is_end_token u next' → spelling t next ≡ spelling u next' → (t ≡ u) × (next ≡ next')
end_token_one (Name a) (Name b) next next' h k e = let both = attribute_name_one a b next next' h k e in (ap Name both.0, both.1)
end_token_one (Name a) (Punct b) next next' h k e = absurd (no_way 0 2 (name_first a next h) (end_sign b next' k) refl e)
end_token_one (Punct a) (Name b) next next' h k e = absurd (no_way 2 0 (end_sign a next h) (name_first b next' k) refl e)
end_token_one (Punct a) (Punct b) next next' h k e =
    let x : a ≡ codes ">" = same_is a (codes ">") h in let y : b ≡ codes ">" = same_is b (codes ">") k in
    (ap Punct (x ∙ sym y), tails (subst (λ s. s ++ next ≡ codes ">" ++ next') x (subst (λ s. a ++ next ≡ s ++ next') y e)))
end_token_one (Name a) u next next' h k e = absurd k
end_token_one (Punct a) u next next' h k e = absurd k
end_token_one t u next next' h k e = absurd h

-- ---- one token between tags

abbrev pub is_text : ℕ → Bool
is_text c = not (has c (codes "{<>}"))

abbrev pub child_first : Characters → ℕ
child_first [] = 3
child_first (c ∷ cs) = if is_text c then 0 else (if (c == 60) && not (is_front (codes "/") cs) then 1 else 2)

pub text_first : (text next : Characters) → (not (length text == 0) && every is_text text) ≡ true → child_first (text ++ next) ≡ 0
text_first [] next h = absurd (false≢true h)
text_first (c ∷ cs) next h = if_true _ _ (left (is_text c) _ (right (not (length (c ∷ cs) == 0)) _ h))

pub begin_first : (sign next : Characters) → IsTrue (is_sign begin_signs sign next) × IsTrue (not (same sign (codes "<") && is_front (codes "/") next)) → child_first (sign ++ next) ≡ 1
begin_first sign next h = among (λ s. not (same s (codes "<") && is_front (codes "/") next) ≡ true → child_first (s ++ next) ≡ 1) sign begin_signs
    (left (is_one_of sign begin_signs) _ h.0) ((λ k. if_true _ _ k), ((λ k. refl), tt)) h.1

pub child_sign_first : (sign next : Characters) → is_sign child_signs sign next ≡ true → child_first (sign ++ next) ≡ 2
child_sign_first sign next h = among (λ s. child_first (s ++ next) ≡ 2) sign child_signs (left (is_one_of sign child_signs) _ h) (refl, (refl, (refl, tt)))

pub no_child_way : (m n : ℕ) {a b : Characters} → child_first a ≡ m → child_first b ≡ n → (m == n) ≡ false → a ≡ b → ⊥
no_child_way m n h k d e = false≢true (sym d ∙ eq-eqb m n (sym h ∙ (ap child_first e ∙ k)))

abbrev pub text_fits : Characters → Characters → Bool
text_fits text next = not (length text == 0) && every is_text text && not (begins_with is_text next)

pub text_one : (a b next next' : Characters) → text_fits a next ≡ true → text_fits b next' ≡ true → a ++ next ≡ b ++ next' → (a ≡ b) × (next ≡ next')
text_one a b next next' h k e =
    let x = is_not _ (right (not (length a == 0) && every is_text a) _ h) in let y = is_not _ (right (not (length b == 0) && every is_text b) _ k) in
    let ha = right (not (length a == 0)) _ (left (not (length a == 0) && every is_text a) _ h) in let hb = right (not (length b == 0)) _ (left (not (length b == 0) && every is_text b) _ k) in (
      sym (run_found is_text a next ha x) ∙ (ap (λ t. run is_text t) e ∙ run_found is_text b next' hb y),
      sym (after_found is_text a next ha x) ∙ (ap (λ t. after_run is_text t) e ∙ after_found is_text b next' hb y),
    )

pub child_token_one : (t u : Token) (next next' : Characters) → is_child_token t next → is_child_token u next' → spelling t next ≡ spelling u next' → (t ≡ u) × (next ≡ next')
child_token_one (JsxText a) (JsxText b) next next' h k e = let both = text_one a b next next' h k e in (ap JsxText both.0, both.1)
child_token_one (JsxText a) (Punct b) next next' h k e = absurd (no_child_way 0 2 (text_first a next (left (not (length a == 0) && every is_text a) _ h)) (child_sign_first b next' k) refl e)
child_token_one (JsxText a) (Begin b) next next' h k e = absurd (no_child_way 0 1 (text_first a next (left (not (length a == 0) && every is_text a) _ h)) (begin_first b next' k) refl e)
child_token_one (Punct a) (JsxText b) next next' h k e = absurd (no_child_way 2 0 (child_sign_first a next h) (text_first b next' (left (not (length b == 0) && every is_text b) _ k)) refl e)
child_token_one (Punct a) (Punct b) next next' h k e = let both = one_sign child_signs a b next next' h k e in (ap Punct both.0, both.1)
child_token_one (Punct a) (Begin b) next next' h k e = absurd (no_child_way 2 1 (child_sign_first a next h) (begin_first b next' k) refl e)
child_token_one (Begin a) (JsxText b) next next' h k e = absurd (no_child_way 1 0 (begin_first a next h) (text_first b next' (left (not (length b == 0) && every is_text b) _ k)) refl e)
child_token_one (Begin a) (Punct b) next next' h k e = absurd (no_child_way 1 2 (begin_first a next h) (child_sign_first b next' k) refl e)
child_token_one (Begin a) (Begin b) next next' h k e =
    let both = one_sign begin_signs a b next next' h.0 k.0 e in (ap Begin both.0, both.1)
child_token_one (JsxText a) u next next' h k e = absurd k
child_token_one (Punct a) u next next' h k e = absurd k
child_token_one (Begin a) u next next' h k e = absurd k
child_token_one t u next next' h k e = absurd h

-- ---- one token anywhere, and one token list

pub token_one : (around : Around) (before : Option Token) (t u : Token) (next next' : Characters) → is_token around before t next → is_token around before u next'
    → spelling t next ≡ spelling u next' → (t ≡ u) × (next ≡ next')
token_one [] before t u next next' h k e = code_token_one [] before t u next next' h k e
token_one (Braces ∷ around) before t u next next' h k e = code_token_one (Braces ∷ around) before t u next next' h k e
token_one (In_hole ∷ around) before t u next next' h k e = code_token_one (In_hole ∷ around) before t u next next' h k e
token_one (In_tag ∷ around) before t u next next' h k e = tag_token_one t u next next' h k e
token_one (In_end ∷ around) before t u next next' h k e = end_token_one t u next next' h k e
token_one (Children ∷ around) before t u next next' h k e = child_token_one t u next next' h k e

-- what begins there begins no gap, where gaps are
abbrev pub Starts : Around → Characters → Type 0
Starts (Children ∷ around) text = Unit {0}
Starts around text = begins_gap text ≡ false

pub no_length : (b : Blank) (gap : List Blank) → (length (b ∷ gap) == 0) ≡ true → ⊥
no_length b gap h = false≢true (sym (eqb-suc-zero (length gap)) ∙ h)

pub three : (n : ℕ) {text : Characters} → child_first text ≡ n → (n == 3) ≡ false → [] ≡ text → ⊥
three n h d e = false≢true (sym d ∙ eq-eqb n 3 (sym h ∙ ap child_first (sym e)))

pub child_something : (t : Token) (next : Characters) → is_child_token t next → [] ≡ spelling t next → ⊥
child_something (JsxText a) next h e = three 0 (text_first a next (left (not (length a == 0) && every is_text a) _ h)) refl e
child_something (Punct a) next h e = three 2 (child_sign_first a next h) refl e
child_something (Begin a) next h e = three 1 (begin_first a next h) refl e
child_something t next h e = h

-- a gap and what follows it are decided by the text
pub gap_before : (around : Around) (gap gap' : List Blank) (text text' : Characters) → IsTrue (is_gap around gap text) → IsTrue (is_gap around gap' text')
    → Starts around text → Starts around text' → gap_spelling gap text ≡ gap_spelling gap' text' → text ≡ text'
gap_before [] gap gap' text text' h k a b e = (gap_one gap gap' text text' h k a b e).1
gap_before (Braces ∷ around) gap gap' text text' h k a b e = (gap_one gap gap' text text' h k a b e).1
gap_before (In_hole ∷ around) gap gap' text text' h k a b e = (gap_one gap gap' text text' h k a b e).1
gap_before (In_tag ∷ around) gap gap' text text' h k a b e = (gap_one gap gap' text text' h k a b e).1
gap_before (In_end ∷ around) gap gap' text text' h k a b e = (gap_one gap gap' text text' h k a b e).1
gap_before (Children ∷ around) [] [] text text' h k a b e = e
gap_before (Children ∷ around) (x ∷ gap) gap' text text' h k a b e = absurd (no_length x gap h)
gap_before (Children ∷ around) [] (x ∷ gap') text text' h k a b e = absurd (no_length x gap' k)

pub starts : (around : Around) (before : Option Token) (t : Token) (next : Characters) → is_token around before t next → Starts around (spelling t next)
starts [] before t next h = (code_begins [] before t next h).0
starts (Braces ∷ around) before t next h = (code_begins (Braces ∷ around) before t next h).0
starts (In_hole ∷ around) before t next h = (code_begins (In_hole ∷ around) before t next h).0
starts (In_tag ∷ around) before t next h = (tag_begins t next h).0
starts (In_end ∷ around) before t next h = (end_begins t next h).0
starts (Children ∷ around) before t next h = tt

pub starts_end : (around : Around) → Starts around []
starts_end [] = refl
starts_end (Braces ∷ around) = refl
starts_end (In_hole ∷ around) = refl
starts_end (In_tag ∷ around) = refl
starts_end (In_end ∷ around) = refl
starts_end (Children ∷ around) = tt

pub something : (around : Around) (before : Option Token) (t : Token) (next : Characters) → is_token around before t next → [] ≡ spelling t next → ⊥
something [] before t next h e = (code_begins [] before t next h).1 (sym e)
something (Braces ∷ around) before t next h e = (code_begins (Braces ∷ around) before t next h).1 (sym e)
something (In_hole ∷ around) before t next h e = (code_begins (In_hole ∷ around) before t next h).1 (sym e)
something (In_tag ∷ around) before t next h e = (tag_begins t next h).1 (sym e)
something (In_end ∷ around) before t next h e = (end_begins t next h).1 (sym e)
something (Children ∷ around) before t next h e = child_something t next h e

pub lists_one : (w v : Written) (around : Around) (before : Option Token) → stands around before w [] → stands around before v [] → written w [] ≡ written v [] → tokens_of w ≡ tokens_of v
lists_one (End gap) (End gap') around before h k e = refl
lists_one (End gap) (Then gap' t more) around before h k e =
    absurd (something around before t (written more []) k.1 (gap_before around gap gap' [] (spelling t (written more [])) h k.0 (starts_end around) (starts around before t (written more []) k.1) e))
lists_one (Then gap t more) (End gap') around before h k e =
    absurd (something around before t (written more []) h.1 (gap_before around gap' gap [] (spelling t (written more [])) k h.0 (starts_end around) (starts around before t (written more []) h.1) (sym e)))
lists_one (Then gap t more) (Then gap' u more') around before h k e =
    let after_gap = gap_before around gap gap' (spelling t (written more [])) (spelling u (written more' [])) h.0 k.0
    (starts around before t (written more []) h.1) (starts around before u (written more' []) k.1) e in
    let both = token_one around before t u (written more []) (written more' []) h.1 k.1 after_gap in
    let rest = lists_one more more' (after around t) (Some t) h.2 (subst (λ x. stands (after around x) (Some x) more' []) (sym both.0) k.2) both.1 in
    ap (λ x. x ∷ tokens_of more) both.0 ∙ ap (λ xs. u ∷ xs) rest

-- A text has at most one token list.
pub one_token_list : (text : Characters) (ts us : List Token) → Tokens text ts → Tokens text us → ts ≡ us
one_token_list text ts us a b = sym a.read ∙ (lists_one a.written_as b.written_as [] None a.stand b.stand (a.spells ∙ sym b.spells) ∙ b.read)
