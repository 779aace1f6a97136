-- What the lexer reads in tags and between them is the token that stands there, and where it reads none no token stands.
use Rattle.std.specs.Prelude.{◌≡◌, refl, ℕ, Bool, true, false, not, ◌&&◌, if◌then◌else◌, ◌==◌, nat_lt, [], ◌∷◌, ◌++◌, length, codes, Option, Some, None}
use mathlib.Core.Path.{sym, ◌∙◌, ap, subst}
use mathlib.Core.Logic.{◌⊎◌, inl, inr}
use lib.Dec.{eqb-suc-zero}
use Rattle.std.proofs.lemmas.Bool.{false≢true}
use Rattle.qk_ast.specs.Characters.{Characters, same, is_one_of, has, every, begins_with, is_front, is_letter, run, after_run}
use Rattle.qk_ast.specs.Tokens.{Token, Name, Reserved, Int, Text, Attribute, Template, Punct, Begin, JsxText, Around, In_tag, In_end, Children, after_sign, spelling, tag_signs, child_signs, longest_after, is_sign, continues_attribute, is_attribute_rest, is_tag_token, is_end_token, is_child_token}
use Rattle.qk_ast.proofs.FrontToken.{left, if_true, if_false, same_is, after_found, among}
use Rattle.qk_ast.proofs.Pieces.{heads, tails}
use Rattle.qk_ast.proofs.OneToken.{a_quote}
use Rattle.qk_ast.proofs.OneTokenList.{no_way, no_child_way, letter_or_quote, name_first, quote_first, sign_first, is_text, child_first, text_first, begin_first, tag_begins, end_begins, child_something}
use Rattle.qk_lex.specs.declared.Kind.TheVariants as kind
use Rattle.qk_lex.specs.declared.regions.Change.TheVariants as change
use Rattle.qk_lex.specs.Scan.{after_char}
use Rattle.qk_lex.specs.Tables.{sign_at}
use Rattle.qk_lex.specs.Regions.{changed}
use Rattle.qk_lex.specs.Steps.{Next, plain, begin_next, sign_or_none, sign_of, this_or_rest, after_tag_name, attribute_or_none, attribute_next, tag_change, tag_by, tag_sign_next, child_change, child_by, child_sign_next, Begins, Steps}
use Rattle.qk_lex.proofs.Choices.{either_way, some_none, both, not_true, same_number, number_same, number_differs, run_whole, run_every, run_ends}
use Rattle.qk_lex.proofs.EscapeLemmas.{char_found, char_there}
use Rattle.qk_lex.proofs.TableLemmas.{longest_is_sign, longest_none}
use Rattle.qk_lex.proofs.CodeSteps.{begins_as}

abbrev in_tags : Option Token → Token → Characters → Type 0
in_tags = λ _ t rest. is_tag_token t rest

abbrev in_ends : Option Token → Token → Characters → Type 0
in_ends = λ _ t rest. is_end_token t rest

abbrev in_children : Option Token → Token → Characters → Type 0
in_children = λ _ t rest. is_child_token t rest

-- ---- names

abbrev RestFound : Characters → Type 0
RestFound more = (w : Characters) × (is_attribute_rest w (after_tag_name more) ≡ true) × (w ++ after_tag_name more ≡ more)

no_dollar : (c : ℕ) → continues_attribute c ≡ true → (c == 36) ≡ false
no_dollar c h = number_differs c 36 (λ e. false≢true (ap continues_attribute (sym e) ∙ h))

rest_found : (more : Characters) → RestFound more
rest_found [] = ([], refl, refl)
rest_found (c ∷ cs) = elim (either_way (continues_attribute c)) [
  | inl p ↦
      let onward : after_tag_name (c ∷ cs) ≡ after_tag_name cs = ap (λ t. this_or_rest t (after_char 36 t)) (if_true _ _ p) in
      let w = rest_found cs in
      (c ∷ w.0, if_false _ _ (no_dollar c p) ∙ both _ _ p (ap (λ t. is_attribute_rest w.0 t) onward ∙ w.1), ap (λ t. c ∷ t) (ap (λ t. w.0 ++ t) onward ∙ w.2))
  | inr p ↦
      let here : after_tag_name (c ∷ cs) ≡ this_or_rest (c ∷ cs) (after_char 36 (c ∷ cs)) = ap (λ t. this_or_rest t (after_char 36 t)) (if_false _ _ p) in
      elim (either_way (c == 36)) [
        | inl d ↦ (c ∷ [], if_true _ _ d, ap (λ t. c ∷ t) (here ∙ ap (λ o. this_or_rest (c ∷ cs) o) (if_true _ _ d)))
        | inr d ↦
            let stays : after_tag_name (c ∷ cs) ≡ c ∷ cs = here ∙ ap (λ o. this_or_rest (c ∷ cs) o) (if_false _ _ d) in
            ([], ap (λ t. not (begins_with continues_attribute t) && not (begins_with (λ x. x == 36) t)) stays ∙ both _ _ (not_true _ p) (not_true _ d), stays)
      ]
]

abbrev NameThere : (Option Token → Token → Characters → Type 0) → Around → Bool → ℕ → Characters → Type 0
NameThere may around opens c more = Begins may around opens (c ∷ more) (plain kind.Name (after_tag_name more))

tag_name_there : (around : Around) (opens : Bool) (c : ℕ) (more : Characters) → is_letter c ≡ true → NameThere in_tags (In_tag ∷ around) opens c more
tag_name_there around opens c more h = let w = rest_found more in record {
  token = Name (c ∷ w.0);
  spells = ap (λ t. c ∷ t) w.2;
  stands = λ before k. both _ _ h w.1;
  has_kind = refl;
  has_jsx = refl;
  leads = refl;
  opens_next = refl;
}

end_name_there : (around : Around) (opens : Bool) (c : ℕ) (more : Characters) → is_letter c ≡ true → NameThere in_ends (In_end ∷ around) opens c more
end_name_there around opens c more h = let w = rest_found more in record {
  token = Name (c ∷ w.0);
  spells = ap (λ t. c ∷ t) w.2;
  stands = λ before k. both _ _ h w.1;
  has_kind = refl;
  has_jsx = refl;
  leads = refl;
  opens_next = refl;
}

pub tag_name_steps : (around : Around) (opens : Bool) (text : Characters) (c : ℕ) (more rest : Characters) (next : Next) → text ≡ c ∷ more → is_letter c ≡ true → rest ≡ after_tag_name more → next ≡ plain kind.Name rest
    → Steps in_tags (In_tag ∷ around) opens text (Some next)
tag_name_steps around opens text c more rest next e h r k =
    subst (λ n. Begins in_tags (In_tag ∷ around) opens text n) (sym (k ∙ ap (λ t. plain kind.Name t) r))
    (subst (λ t. Begins in_tags (In_tag ∷ around) opens t (plain kind.Name (after_tag_name more))) (sym e) (tag_name_there around opens c more h))

pub end_name_steps : (around : Around) (opens : Bool) (text : Characters) (c : ℕ) (more rest : Characters) (next : Next) → text ≡ c ∷ more → is_letter c ≡ true → rest ≡ after_tag_name more → next ≡ plain kind.Name rest
    → Steps in_ends (In_end ∷ around) opens text (Some next)
end_name_steps around opens text c more rest next e h r k =
    subst (λ n. Begins in_ends (In_end ∷ around) opens text n) (sym (k ∙ ap (λ t. plain kind.Name t) r))
    (subst (λ t. Begins in_ends (In_end ∷ around) opens t (plain kind.Name (after_tag_name more))) (sym e) (end_name_there around opens c more h))

-- ---- attribute texts

abbrev not_quote : ℕ → ℕ → Bool
not_quote q c = not (c == q)

quote_way : (q : ℕ) (more : Characters) → has q (codes "'\"") ≡ true → letter_or_quote (q ∷ more) ≡ 1
quote_way q more h = a_quote (λ c. letter_or_quote (c ∷ more) ≡ 1) q h refl refl

attribute_by : (around : Around) (opens : Bool) (q : ℕ) (more : Characters) → has q (codes "'\"") ≡ true → (o : Option Characters) → after_char q (after_run (not_quote q) more) ≡ o
    → Steps in_tags (In_tag ∷ around) opens (q ∷ more) (attribute_or_none o)
attribute_by around opens q more h None k = λ before ob t rest may e. go t rest may e
  where
    unclosed : (inside next : Characters) → every (not_quote q) inside ≡ true → inside ++ q ∷ next ≡ more → ⊥
    unclosed inside next all e =
        some_none (sym (char_there q next) ∙ (ap (λ t. after_char q t) (sym (after_found (not_quote q) inside (q ∷ next) all (ap not (number_same q))) ∙ ap (λ t. after_run (not_quote q) t) e) ∙ k))

    go : (t : Token) (rest : Characters) → is_tag_token t rest → spelling t rest ≡ q ∷ more → ⊥
    go (Name name) rest may e = no_way 0 1 (name_first name rest may) (quote_way q more h) refl e
    go (Attribute r inside) rest may e =
        let is : r ≡ q = heads e in
        unclosed inside rest (subst (λ x. every (not_quote x) inside ≡ true) is may.1) (subst (λ x. inside ++ x ∷ rest ≡ more) is (tails e))
    go (Punct sign) rest may e = no_way 2 1 (sign_first sign rest may) (quote_way q more h) refl e
    go (Reserved word) rest may e = may
    go (Int digits) rest may e = may
    go (Text r pieces) rest may e = may
    go (Template from pieces to) rest may e = may
    go (Begin sign) rest may e = may
    go (JsxText text) rest may e = may
attribute_by around opens q more h (Some rest) k = record {
  token = Attribute q (run (not_quote q) more);
  spells = ap (λ t. q ∷ t) (ap (λ t. run (not_quote q) more ++ t) (sym (char_found q (after_run (not_quote q) more) rest k)) ∙ run_whole (not_quote q) more);
  stands = λ before ob. (h, run_every (not_quote q) more);
  has_kind = refl;
  has_jsx = refl;
  leads = refl;
  opens_next = refl;
}

pub attribute_steps : (around : Around) (opens : Bool) (text : Characters) (q : ℕ) (more : Characters) (next : Option Next) → text ≡ q ∷ more → has q (codes "'\"") ≡ true → next ≡ attribute_next q more
    → Steps in_tags (In_tag ∷ around) opens text next
attribute_steps around opens text q more next e h k =
    subst (λ n. Steps in_tags (In_tag ∷ around) opens text n) (sym k)
    (subst (λ t. Steps in_tags (In_tag ∷ around) opens t (attribute_next q more)) (sym e) (attribute_by around opens q more h (after_char q (after_run (not_quote q) more)) refl))

-- ---- punctuators of an opening tag

tag_leads : (around : Around) (sign : Characters) → after_sign (In_tag ∷ around) sign ≡ changed (tag_change sign) (In_tag ∷ around)
tag_leads around sign = elim (either_way (same sign (codes "{"))) [
  | inl a ↦ if_true _ _ a ∙ sym (ap (λ x. changed x (In_tag ∷ around)) (if_true _ _ a))
  | inr a ↦ elim (either_way (same sign (codes ">"))) [
    | inl b ↦ if_false _ _ a ∙ (if_true _ _ b ∙ sym (ap (λ x. changed x (In_tag ∷ around)) (if_false _ _ a ∙ if_true _ _ b)))
    | inr b ↦ elim (either_way (same sign (codes "/>"))) [
      | inl d ↦ if_false _ _ a ∙ (if_false _ _ b ∙ (if_true _ _ d ∙ sym (ap (λ x. changed x (In_tag ∷ around)) (if_false _ _ a ∙ (if_false _ _ b ∙ if_true _ _ d)))))
      | inr d ↦ if_false _ _ a ∙ (if_false _ _ b ∙ (if_false _ _ d ∙ sym (ap (λ x. changed x (In_tag ∷ around)) (if_false _ _ a ∙ (if_false _ _ b ∙ if_false _ _ d)))))
    ]
  ]
]

abbrev longest_tag : Characters → Characters
longest_tag text = longest_after [] tag_signs text

tag_sign_by : (around : Around) (opens : Bool) (text : Characters) → letter_or_quote text ≡ 2 → Steps in_tags (In_tag ∷ around) opens text (tag_by (sign_or_none (longest_tag text) text))
tag_sign_by around opens text way = elim (either_way (length (longest_tag text) == 0)) [
  | inl z ↦ subst (λ o. Steps in_tags (In_tag ∷ around) opens text (tag_by o)) (sym (if_true _ _ z)) (λ before ob t rest may e. go z t rest may e)
  | inr z ↦
      let is = longest_is_sign tag_signs text z in
      subst (λ o. Steps in_tags (In_tag ∷ around) opens text (tag_by o)) (sym (if_false _ _ z)) record {
        token = Punct (longest_tag text);
        spells = is.1;
        stands = λ before ob. is.0;
        has_kind = refl;
        has_jsx = refl;
        leads = tag_leads around (longest_tag text);
        opens_next = refl;
      }
]
  where
    no_sign : (sign rest : Characters) → is_sign tag_signs sign rest ≡ true → sign ≡ [] → ⊥
    no_sign sign rest k e = false≢true (ap (λ s. is_one_of s tag_signs) (sym e) ∙ left (is_one_of sign tag_signs) _ k)

    go : (length (longest_tag text) == 0) ≡ true → (t : Token) (rest : Characters) → is_tag_token t rest → spelling t rest ≡ text → ⊥
    go z (Name name) rest may e = no_way 0 2 (name_first name rest may) way refl e
    go z (Attribute r inside) rest may e = no_way 1 2 (quote_first r inside rest may.0) way refl e
    go z (Punct sign) rest may e = no_sign sign rest may (longest_none tag_signs text z sign rest may e)
    go z (Reserved word) rest may e = may
    go z (Int digits) rest may e = may
    go z (Text r pieces) rest may e = may
    go z (Template from pieces to) rest may e = may
    go z (Begin sign) rest may e = may
    go z (JsxText text') rest may e = may

pub tag_sign_steps : (around : Around) (opens : Bool) (text : Characters) (c : ℕ) (more : Characters) (next : Option Next) → text ≡ c ∷ more → is_letter c ≡ false → has c (codes "'\"") ≡ false
    → next ≡ tag_sign_next text → Steps in_tags (In_tag ∷ around) opens text next
unfolding sign_of sign_at
tag_sign_steps around opens text c more next e a b k =
    subst (λ n. Steps in_tags (In_tag ∷ around) opens text n) (sym k) (tag_sign_by around opens text (ap letter_or_quote e ∙ (if_false _ _ a ∙ if_false _ _ b)))

pub tag_empty : (around : Around) (opens : Bool) (text : Characters) → text ≡ [] → Steps in_tags (In_tag ∷ around) opens text None
tag_empty around opens text e = λ before ob t rest may k. (tag_begins t rest may).1 (k ∙ e)

-- ---- the end of a closing tag

pub end_sign_steps : (around : Around) (opens : Bool) (text : Characters) (c : ℕ) (more : Characters) → text ≡ c ∷ more → c ≡ 62
    → Steps in_ends (In_end ∷ around) opens text (Some (record { kind = kind.Punct; jsx = false; rest = more; change = change.Leave; opens = false }))
end_sign_steps around opens text c more e h = record {
  token = Punct (codes ">");
  spells = ap (λ d. d ∷ more) (sym h) ∙ sym e;
  stands = λ before ob. refl;
  has_kind = refl;
  has_jsx = refl;
  leads = refl;
  opens_next = refl;
}

pub end_stops : (around : Around) (opens : Bool) (text : Characters) (c : ℕ) (more : Characters) → text ≡ c ∷ more → is_letter c ≡ false → (c ≡ 62 → ⊥) → Steps in_ends (In_end ∷ around) opens text None
end_stops around opens text c more e a b = λ before ob t rest may k. go t rest may (k ∙ e)
  where
    go : (t : Token) (rest : Characters) → is_end_token t rest → spelling t rest ≡ c ∷ more → ⊥
    go (Name []) rest may e = false≢true may
    go (Name (x ∷ xs)) rest may e = false≢true (sym a ∙ (ap is_letter (sym (heads e)) ∙ left (is_letter x) _ may))
    go (Punct sign) rest may e = b (sym (heads (ap (λ s. s ++ rest) (sym (same_is sign (codes ">") may)) ∙ e)))
    go (Attribute r inside) rest may e = may
    go (Reserved word) rest may e = may
    go (Int digits) rest may e = may
    go (Text r pieces) rest may e = may
    go (Template from pieces to) rest may e = may
    go (Begin sign) rest may e = may
    go (JsxText text') rest may e = may

pub end_empty : (around : Around) (opens : Bool) (text : Characters) → text ≡ [] → Steps in_ends (In_end ∷ around) opens text None
end_empty around opens text e = λ before ob t rest may k. (end_begins t rest may).1 (k ∙ e)

-- ---- between tags

pub text_steps : (around : Around) (opens : Bool) (text : Characters) (c : ℕ) (more rest : Characters) (next : Next) → text ≡ c ∷ more → is_text c ≡ true → rest ≡ after_run is_text more → next ≡ plain kind.JsxText rest
    → Steps in_children (Children ∷ around) opens text (Some next)
text_steps around opens text c more rest next e h r k =
    subst (λ n. Begins in_children (Children ∷ around) opens text n) (sym (k ∙ ap (λ t. plain kind.JsxText t) r)) record {
      token = JsxText (c ∷ run is_text more);
      spells = ap (λ t. c ∷ t) (run_whole is_text more) ∙ sym e;
      stands = λ before ob. both _ _ (both _ _ (not_empty (run is_text more)) (both _ _ h (run_every is_text more))) (not_true _ (run_ends is_text more));
      has_kind = refl;
      has_jsx = refl;
      leads = refl;
      opens_next = refl;
    }
  where
    not_empty : (cs : Characters) → not (length (c ∷ cs) == 0) ≡ true
    not_empty cs = ap not (eqb-suc-zero (length cs))

child_leads : (around : Around) (sign : Characters) → is_one_of sign child_signs ≡ true → after_sign (Children ∷ around) sign ≡ changed (child_change sign) (Children ∷ around)
child_leads around sign h = among (λ s. after_sign (Children ∷ around) s ≡ changed (child_change s) (Children ∷ around)) sign child_signs h (refl, (refl, (refl, tt)))

abbrev longest_child : Characters → Characters
longest_child text = longest_after [] child_signs text

-- a `</` is a sign
closing_is_sign : (rest : Characters) → (length (longest_child (60 ∷ 47 ∷ rest)) == 0) ≡ false
closing_is_sign rest = elim (either_way (is_front (62 ∷ []) rest)) [
  | inl a ↦ ap (λ b. length (if b && nat_lt 2 3 then codes "</>" else codes "</") == 0) a
  | inr a ↦ ap (λ b. length (if b && nat_lt 2 3 then codes "</>" else codes "</") == 0) a
]

abbrev other_next : ℕ → Characters → Option Next
other_next c more = if c == 60 then Some (begin_next more) else None

no_child_sign : (text : Characters) → (length (longest_child text) == 0) ≡ true → (sign rest : Characters) → is_sign child_signs sign rest ≡ true → sign ++ rest ≡ text → ⊥
no_child_sign text z sign rest k e = false≢true (ap (λ s. is_one_of s child_signs) (sym (longest_none child_signs text z sign rest k e)) ∙ left (is_one_of sign child_signs) _ k)

begin_there : (around : Around) (opens : Bool) (more : Characters) → (length (longest_child (60 ∷ more)) == 0) ≡ true → Begins in_children (Children ∷ around) opens (60 ∷ more) (begin_next more)
begin_there around opens more z = let b = begins_as more in record {
  token = Begin b.0;
  spells = b.1;
  stands = λ before ob. (b.2, not_true _ (no_slash b.0 (begin_next more).rest b.6));
  has_kind = b.3;
  has_jsx = b.7;
  leads = b.4 (Children ∷ around);
  opens_next = b.5;
}
  where
    slash_not : (rest : Characters) → rest ≡ more → is_front (codes "/") rest ≡ false
    slash_not [] e = refl
    slash_not (c ∷ cs) e = elim (either_way (47 == c)) [
      | inl k ↦ absurd (false≢true (sym (closing_is_sign cs) ∙ (ap (λ t. length (longest_child (60 ∷ t)) == 0) (ap (λ d. d ∷ cs) (same_number 47 c k) ∙ e) ∙ z)))
      | inr k ↦ ap (λ b. b && true) k
    ]

    no_slash : (sign rest : Characters) → (sign ≡ codes "<") × (rest ≡ more) ⊎ (sign ≡ codes "<>") → (same sign (codes "<") && is_front (codes "/") rest) ≡ false
    no_slash sign rest (inl p) = ap (λ s. same s (codes "<") && is_front (codes "/") rest) p.0 ∙ slash_not rest p.1
    no_slash sign rest (inr p) = ap (λ s. same s (codes "<") && is_front (codes "/") rest) p

child_other : (around : Around) (opens : Bool) (c : ℕ) (more : Characters) → is_text c ≡ false → (length (longest_child (c ∷ more)) == 0) ≡ true → Steps in_children (Children ∷ around) opens (c ∷ more) (other_next c more)
child_other around opens c more h z = elim (either_way (c == 60)) [
  | inl e ↦ subst (λ n. Steps in_children (Children ∷ around) opens (c ∷ more) n) (sym (if_true _ _ e))
      (subst (λ d. Begins in_children (Children ∷ around) opens (d ∷ more) (begin_next more)) (sym (same_number c 60 e))
      (begin_there around opens more (subst (λ d. (length (longest_child (d ∷ more)) == 0) ≡ true) (same_number c 60 e) z)))
  | inr e ↦ subst (λ n. Steps in_children (Children ∷ around) opens (c ∷ more) n) (sym (if_false _ _ e)) (λ before ob t rest may k. go e t rest may k)
]
  where
    way : (c == 60) ≡ false → child_first (c ∷ more) ≡ 2
    way e = if_false _ _ h ∙ if_false _ _ (ap (λ b. b && not (is_front (codes "/") more)) e)

    go : (c == 60) ≡ false → (t : Token) (rest : Characters) → is_child_token t rest → spelling t rest ≡ c ∷ more → ⊥
    go e (JsxText text) rest may k = no_child_way 0 2 (text_first text rest (left (not (length text == 0) && every is_text text) _ may)) (way e) refl k
    go e (Punct sign) rest may k = no_child_sign (c ∷ more) z sign rest may k
    go e (Begin sign) rest may k = no_child_way 1 2 (begin_first sign rest may) (way e) refl k
    go e (Name name) rest may k = may
    go e (Attribute r inside) rest may k = may
    go e (Reserved word) rest may k = may
    go e (Int digits) rest may k = may
    go e (Text r pieces) rest may k = may
    go e (Template from pieces to) rest may k = may

child_sign_by : (around : Around) (opens : Bool) (c : ℕ) (more : Characters) → is_text c ≡ false → Steps in_children (Children ∷ around) opens (c ∷ more) (child_by (other_next c more) (sign_or_none (longest_child (c ∷ more)) (c ∷ more)))
child_sign_by around opens c more h = elim (either_way (length (longest_child (c ∷ more)) == 0)) [
  | inl z ↦ subst (λ o. Steps in_children (Children ∷ around) opens (c ∷ more) (child_by (other_next c more) o)) (sym (if_true _ _ z)) (child_other around opens c more h z)
  | inr z ↦
      let is = longest_is_sign child_signs (c ∷ more) z in
      subst (λ o. Steps in_children (Children ∷ around) opens (c ∷ more) (child_by (other_next c more) o)) (sym (if_false _ _ z)) record {
        token = Punct (longest_child (c ∷ more));
        spells = is.1;
        stands = λ before ob. is.0;
        has_kind = refl;
        has_jsx = refl;
        leads = child_leads around (longest_child (c ∷ more)) (left (is_one_of (longest_child (c ∷ more)) child_signs) _ is.0);
        opens_next = refl;
      }
]

pub child_sign_steps : (around : Around) (opens : Bool) (text : Characters) (c : ℕ) (more : Characters) (next : Option Next) → text ≡ c ∷ more → is_text c ≡ false → next ≡ child_sign_next c more text
    → Steps in_children (Children ∷ around) opens text next
unfolding sign_of sign_at
child_sign_steps around opens text c more next e h k =
    subst (λ n. Steps in_children (Children ∷ around) opens text n) (sym (k ∙ ap (λ t. child_sign_next c more t) e))
    (subst (λ t. Steps in_children (Children ∷ around) opens t (child_sign_next c more (c ∷ more))) (sym e) (child_sign_by around opens c more h))

pub child_empty : (around : Around) (opens : Bool) (text : Characters) → text ≡ [] → Steps in_children (Children ∷ around) opens text None
child_empty around opens text e = λ before ob t rest may k. child_something t rest may (sym (k ∙ e))
