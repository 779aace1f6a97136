-- The longest sign of a table, reserved words, and Ints.
use Rattle.std.specs.Prelude.{◌≡◌, refl, ℕ, ◌-◌, Bool, true, false, ◌&&◌, if◌then◌else◌, ◌==◌, nat_lt, List, [], ◌∷◌, ◌++◌, length, take, drop, chars, codes, Some, None}
use Rattle.std.specs.Str.{encode_utf8_all, IsUtf8}
use mathlib.Core.Path.{sym, ◌∙◌, ap}
use mathlib.Core.Logic.{◌⊎◌, inl, inr}
use native.Mathlib.Omega.{arith}
use Rattle.std.proofs.lemmas.Bool.{false≢true}
use Rattle.std.proofs.lemmas.Str.{encodes-chars}
use Rattle.qk_ast.specs.Characters.{Characters, same, is_one_of, is_front, continues_name, run, after_run}
use Rattle.qk_ast.specs.Tokens.{longest_after, is_sign, reserved_words}
use Rattle.qk_ast.proofs.FrontToken.{left, right, if_true, if_false, same_is}
use Rattle.qk_lex.specs.declared.Kind.TheVariants as kind
use Rattle.qk_lex.specs.declared.regions.Change.TheVariants as change
use Rattle.qk_lex.specs.declared.tables.Signs.{Signs}
use Rattle.qk_lex.specs.Tables.{sign_at}
use Rattle.qk_lex.specs.Steps.{plain, word_next, sign_of}
use Rattle.qk_lex.proofs.Choices.{or_true, or_left, either_way, both, same_number, number_same, run_whole}
use Rattle.qk_lex.proofs.BytesLemmas.{front_is, same_bytes, one_of_bytes, reserved_ascii, AllAscii, ascii_word}

pub same_refl : (a : Characters) → same a a ≡ true
same_refl [] = refl
same_refl (c ∷ cs) = both _ _ (number_same c) (same_refl cs)

-- ---- the longest sign is a sign of the table, and stands at the front of the text

abbrev pub IsFrontSign : List Characters → Characters → Characters → Type 0
IsFrontSign signs text sign = (is_one_of sign signs ≡ true) × (is_front sign text ≡ true)

longest_best : (signs : List Characters) (best text : Characters) → (longest_after best signs text ≡ best) ⊎ IsFrontSign signs text (longest_after best signs text)
longest_best [] best text = inl refl
longest_best (s ∷ ss) best text = elim (either_way (is_front s text && nat_lt (length best) (length s))) [
  | inl h ↦ elim (longest_best ss (if is_front s text && nat_lt (length best) (length s) then s else best) text) [
    | inl e ↦
        let is : longest_after best (s ∷ ss) text ≡ s = e ∙ if_true s best h in
        inr (or_left _ _ (ap (λ x. same x s) is ∙ same_refl s), ap (λ x. is_front x text) is ∙ left (is_front s text) _ h)
    | inr f ↦ inr (or_true _ _ f.0, f.1)
  ]
  | inr h ↦ elim (longest_best ss (if is_front s text && nat_lt (length best) (length s) then s else best) text) [
    | inl e ↦ inl (e ∙ if_false s best h)
    | inr f ↦ inr (or_true _ _ f.0, f.1)
  ]
]

pub front_splits : (sign text : Characters) → is_front sign text ≡ true → sign ++ drop (length sign) text ≡ text
front_splits [] text h = refl
front_splits (c ∷ cs) [] h = absurd (false≢true h)
front_splits (c ∷ cs) (d ∷ ds) h = ap (λ x. x ∷ (cs ++ drop (length cs) ds)) (same_number c d (left (c == d) _ h)) ∙ ap (λ xs. d ∷ xs) (front_splits cs ds (right (c == d) _ h))

no_length : (c : ℕ) (cs : Characters) → (length (c ∷ cs) == 0) ≡ false
no_length c cs = number_not_zero (length cs)
  where
    number_not_zero : (n : ℕ) → (length (c ∷ cs) == 0) ≡ false
    number_not_zero n = elim (either_way (length (c ∷ cs) == 0)) [
      | inl e ↦ let k : length (c ∷ cs) ≡ 0 = same_number (length (c ∷ cs)) 0 e in absurd (omega (arith, k))
      | inr e ↦ e
    ]

pub empty_word : (w : Characters) → (length w == 0) ≡ true → w ≡ []
empty_word [] h = refl
empty_word (c ∷ cs) h = absurd (false≢true (sym (no_length c cs) ∙ h))

-- the longest sign, where there is one, stands there
pub longest_is_sign : (signs : List Characters) (text : Characters) → (length (longest_after [] signs text) == 0) ≡ false
    → (is_sign signs (longest_after [] signs text) (drop (length (longest_after [] signs text)) text) ≡ true)
    × (longest_after [] signs text ++ drop (length (longest_after [] signs text)) text ≡ text)
longest_is_sign signs text h = elim (longest_best signs [] text) [
  | inl e ↦ absurd (false≢true (sym h ∙ ap (λ x. length x == 0) e))
  | inr f ↦
      let split = front_splits (longest_after [] signs text) text f.1 in
      (both _ _ f.0 (ap (λ t. same (longest_after [] signs t) (longest_after [] signs text)) split ∙ same_refl (longest_after [] signs text)), split)
]

-- where there is none, none stands there
pub longest_none : (signs : List Characters) (text : Characters) → (length (longest_after [] signs text) == 0) ≡ true → (sign next : Characters) → is_sign signs sign next ≡ true → sign ++ next ≡ text → sign ≡ []
longest_none signs text h sign next k e =
    sym (same_is (longest_after [] signs (sign ++ next)) sign (right (is_one_of sign signs) _ k)) ∙ (ap (λ t. longest_after [] signs t) e ∙ empty_word (longest_after [] signs text) h)

-- ---- what the code reads

pub sign_none : (table : Signs) (sign text : Characters) → sign ≡ sign_at table text → (length sign == 0) ≡ true → None ≡ sign_of table text
unfolding sign_of
sign_none table sign text e h = sym (if_true _ _ (ap (λ s. length s == 0) (sym e) ∙ h))

drop_one : (sign : Characters) (c : ℕ) (more : Characters) → (length sign == 0) ≡ false → drop (length sign) (c ∷ more) ≡ drop (length sign - 1) more
drop_one [] c more h = absurd (false≢true (sym h))
drop_one (s ∷ ss) c more h = ap (λ n. drop n more) one_less
  where
    one_less : length ss ≡ length (s ∷ ss) - 1
    one_less = omega arith

pub sign_some : (table : Signs) (sign text more rest : Characters) (c : ℕ) → sign ≡ sign_at table text → (length sign == 0) ≡ false → text ≡ c ∷ more → rest ≡ drop (length sign - 1) more
    → Some (sign, rest) ≡ sign_of table text
unfolding sign_of
sign_some table sign text more rest c e h k r =
    ap (λ t. Some (sign, t)) (r ∙ (sym (drop_one sign c more h) ∙ ap (λ t. drop (length sign) t) (sym k)))
    ∙ (ap (λ s. Some (s, drop (length s) text)) e ∙ sym (if_false _ _ (ap (λ s. length s == 0) (sym e) ∙ h)))

-- ---- words

pub word_bytes : (text rest : List ℕ) (c : ℕ) (more : Characters) → IsUtf8 text → IsUtf8 rest → chars text ≡ c ∷ more → chars rest ≡ after_run continues_name more
    → take (length text - length rest) text ≡ encode_utf8_all (c ∷ run continues_name more)
word_bytes text rest c more ut ur e r =
    front_is text rest (c ∷ run continues_name more) (after_run continues_name more)
    (ap encode_utf8_all (ap (λ t. c ∷ t) (run_whole continues_name more) ∙ sym e) ∙ encodes-chars text ut)
    (ap encode_utf8_all (sym r) ∙ encodes-chars rest ur)

return_ascii : AllAscii (codes "return")
return_ascii = ascii_word (codes "return") refl

pub word_reserved : (w : Characters) (bytes : List ℕ) (rest rest' : Characters) (reserved return : Bool) → bytes ≡ encode_utf8_all w → reserved ≡ is_one_of bytes reserved_words → reserved ≡ true
    → return ≡ same bytes (codes "return") → rest ≡ rest' → record { kind = kind.Reserved; jsx = false; rest = rest; change = change.Stay; opens = return } ≡ word_next w rest'
unfolding word_next
word_reserved w bytes rest rest' reserved return e is h r k =
    ap (λ (x : Characters). record { kind = kind.Reserved; jsx = false; rest = x; change = change.Stay; opens = return }) k
    ∙ (ap (λ (b : Bool). record { kind = kind.Reserved; jsx = false; rest = rest'; change = change.Stay; opens = b }) (r ∙ (ap (λ t. same t (codes "return")) e ∙ same_bytes (codes "return") return_ascii w))
    ∙ sym (if_true _ _ (sym (one_of_bytes reserved_words reserved_ascii w) ∙ (ap (λ t. is_one_of t reserved_words) (sym e) ∙ (sym is ∙ h)))))

pub word_plain : (w : Characters) (bytes : List ℕ) (rest rest' : Characters) (reserved : Bool) → bytes ≡ encode_utf8_all w → reserved ≡ is_one_of bytes reserved_words → reserved ≡ false
    → rest ≡ rest' → plain kind.Name rest ≡ word_next w rest'
unfolding word_next
word_plain w bytes rest rest' reserved e is h k =
    ap (λ x. plain kind.Name x) k
    ∙ sym (if_false _ _ (sym (one_of_bytes reserved_words reserved_ascii w) ∙ (ap (λ t. is_one_of t reserved_words) (sym e) ∙ (sym is ∙ h))))
