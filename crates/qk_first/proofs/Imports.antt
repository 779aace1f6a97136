-- The imported names: `App` is none of them, and `useSignal` is one where a state stands.
use Rattle.std.specs.Prelude.{◌≡◌, refl, Bool, true, false, List, [], ◌∷◌, length, IsTrue, codes, bytes_eq}
use Rattle.std.specs.Str.{encode_utf8_all}
use Rattle.std.specs.Char.{encode_utf8}
use Rattle.std.proofs.Common.{ap, ◌∙◌, arith}
use mathlib.Core.Path.{sym, subst}
use mathlib.Core.Logic.{◌⊎◌, inl, inr}
use lib.Dec.{eqb→eq, eqb, T}
use Rattle.std.proofs.lemmas.Bool.{false≢true}
use Rattle.qk_ast.specs.Characters.{Characters, same, is_one_of}
use Rattle.qk_ast.specs.Grammar.{Names, Last_name, Last_comma, Next_name}
use Rattle.qk_ast.specs.Tree.{names_tree}
use Rattle.qk_ast.specs.First.{names_of, are_qwik_names, qwik_names}
use Rattle.qk_meaning.specs.Value.{Text}
use Rattle.qk_ast.specs.Texts.{same_text}
use Rattle.qk_ast.specs.Names.{is_listed}
use Rattle.qk_first.proofs.Texts.{left, right, either, among, same_is, text_own, IsWord}

pub text_is : (a b : Text) → bytes_eq a b ≡ true → a ≡ b
text_is [] [] h = refl
text_is [] (d ∷ ds) h = absurd (false≢true h)
text_is (c ∷ cs) [] h = absurd (false≢true h)
text_is (c ∷ cs) (d ∷ ds) h = ap (λ x. x ∷ cs) (eqb→eq c d (subst T (sym (left (eqb c d) (bytes_eq cs ds) h)) tt)) ∙ ap (λ xs. d ∷ xs) (text_is cs ds (right (eqb c d) (bytes_eq cs ds) h))

-- a word of up to eight letters isn't `useSignal`
pub not_hook : (n : Text) → IsWord n → same_text n (codes "useSignal") ≡ false
not_hook n w = go (same_text n (codes "useSignal")) refl
  where
    go : (b : Bool) → same_text n (codes "useSignal") ≡ b → same_text n (codes "useSignal") ≡ false
    go true e = absurd (omega (arith, w.short, ap length (text_is n (codes "useSignal") e)))
    go false e = e

-- the names of Qwik are their own bytes, and none of them is `App`
record IsQwik (a : Characters) : Type 0 where
  bytes : encode_utf8_all a ≡ a
  other : same_text (encode_utf8_all a) (codes "App") ≡ false

qwik_is : (a : Characters) → IsTrue (is_one_of a qwik_names) → IsQwik a
unfolding encode_utf8
qwik_is a h = among IsQwik a qwik_names h (record { bytes = refl; other = refl }, (record { bytes = refl; other = refl }, (record { bytes = refl; other = refl }, (record { bytes = refl; other = refl }, (record { bytes = refl; other = refl }, (record { bytes = refl; other = refl }, (record { bytes = refl; other = refl }, (record { bytes = refl; other = refl }, (record { bytes = refl; other = refl }, (record { bytes = refl; other = refl }, (record { bytes = refl; other = refl }, tt)))))))))))

listed_last : (x : Text) (a : Text) → same_text a x ≡ false → is_listed x (a ∷ []) ≡ false
listed_last x a h = rw (h, is_listed)

listed_next : (x : Text) (a : Text) (more : List Text) → same_text a x ≡ false → is_listed x more ≡ false → is_listed x (a ∷ more) ≡ false
listed_next x a more h k = rw (h, is_listed) k

pub no_app : (names : Names) → IsTrue (are_qwik_names (names_of names)) → is_listed (codes "App") (names_tree names) ≡ false
no_app (Last_name a) h = listed_last (codes "App") (encode_utf8_all a) (qwik_is a (left _ _ h)).other
no_app (Last_comma a) h = listed_last (codes "App") (encode_utf8_all a) (qwik_is a (left _ _ h)).other
no_app (Next_name a more) h = listed_next (codes "App") (encode_utf8_all a) (names_tree more) (qwik_is a (left _ _ h)).other (no_app more (right _ _ h))

-- a name that is the first, or is listed behind it
listed_here : (x a : Text) (more : List Text) → a ≡ x → is_listed x (a ∷ more) ≡ true
listed_here x a more h = ap entry (ap (λ (t : Text). same_text t x) h ∙ text_own x)
  where
    entry : Bool → Bool
    entry true = true
    entry false = is_listed x more

listed_behind : (x a : Text) (more : List Text) → is_listed x more ≡ true → is_listed x (a ∷ more) ≡ true
listed_behind x a more h = go (same_text a x) refl
  where
    go : (b : Bool) → same_text a x ≡ b → is_listed x (a ∷ more) ≡ true
    go true e = rw (e, is_listed)
    go false e = rw (e, is_listed) h

hook_bytes : (a : Characters) → same (codes "useSignal") a ≡ true → encode_utf8_all a ≡ codes "useSignal"
unfolding encode_utf8
hook_bytes a h = subst (λ (t : Characters). encode_utf8_all t ≡ codes "useSignal") (same_is (codes "useSignal") a h) refl

hook_last : (a : Characters) → IsTrue (is_one_of (codes "useSignal") (a ∷ [])) → is_listed (codes "useSignal") (encode_utf8_all a ∷ []) ≡ true
hook_last a h = elim (either (same (codes "useSignal") a) false h) [ inl e ↦ listed_here (codes "useSignal") (encode_utf8_all a) [] (hook_bytes a e) | inr e ↦ absurd (false≢true e) ]

pub hook_listed : (names : Names) → IsTrue (is_one_of (codes "useSignal") (names_of names)) → is_listed (codes "useSignal") (names_tree names) ≡ true
hook_listed (Last_name a) h = hook_last a h
hook_listed (Last_comma a) h = hook_last a h
hook_listed (Next_name a more) h = go (either (same (codes "useSignal") a) (is_one_of (codes "useSignal") (names_of more)) h) (hook_listed more)
  where
    go : ((same (codes "useSignal") a ≡ true) ⊎ (is_one_of (codes "useSignal") (names_of more) ≡ true))
        → (IsTrue (is_one_of (codes "useSignal") (names_of more)) → is_listed (codes "useSignal") (names_tree more) ≡ true)
        → is_listed (codes "useSignal") (encode_utf8_all a ∷ names_tree more) ≡ true
    go (inl e) ih = listed_here (codes "useSignal") (encode_utf8_all a) (names_tree more) (hook_bytes a e)
    go (inr e) ih = listed_behind (codes "useSignal") (encode_utf8_all a) (names_tree more) (ih e)
