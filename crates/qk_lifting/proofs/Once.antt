-- Names in order of first use, up to the names that lifting replaces: what decides which names of a scope are used, and in which order.
use Rattle.std.specs.Prelude.{◌≡◌, refl, Bool, true, false, List, [], ◌∷◌, ◌++◌}
use Rattle.std.proofs.Common.{sym, ◌∙◌, ap, true≢false}
use Rattle.std.specs.Cmp.Lexicographic.{same_text as told_same}
use Rattle.qk_ast.specs.Texts.{Text, same_text}
use Rattle.qk_ast.specs.Framework.{lifted_names, built_names}
use Rattle.qk_ast.specs.Names.{is_listed, around, others_than, those_of, each_once}

-- the names in whose place others stand, and those others
abbrev pub renamed : List Text
renamed = lifted_names ++ built_names

abbrev pub Covers : List Text → List Text → Type 0
Covers names seen = (t : Text) → is_listed t names ≡ true → is_listed t seen ≡ true

-- Of the names in this scope both lists use the same, in the same order of first use, but for the renamed ones.
pub record Alike (scope xs ys : List Text) : Type 0 where
  pub alike : (seen : List Text) → Covers renamed seen → each_once seen (those_of scope xs) ≡ each_once seen (those_of scope ys)

-- ---- words on listed names

abbrev or : Bool → Bool → Bool
or b c = elim b [ true ↦ true | false ↦ c ]

or_true : (b : Bool) → or b true ≡ true
or_true true = refl
or_true false = refl

or_later : (b c : Bool) → c ≡ true → or b c ≡ true
or_later true c h = refl
or_later false c h = h

pub later : (x t : Text) (seen : List Text) → is_listed t seen ≡ true → is_listed t (x ∷ seen) ≡ true
later x t seen h = or_later (same_text x t) (is_listed t seen) h

swapped : (b c d : Bool) → or b (or c d) ≡ or (or c b) d
swapped true true d = refl
swapped true false d = refl
swapped false true d = refl
swapped false false d = refl

around_listed : (t : Text) (names scope : List Text) → is_listed t (around names scope) ≡ or (is_listed t names) (is_listed t scope)
around_listed t [] scope = refl
around_listed t (n ∷ names) scope = around_listed t names (n ∷ scope) ∙ swapped (is_listed t names) (same_text n t) (is_listed t scope)

-- ---- one list behind another

abbrev pushed : List Text → List Text → List Text
pushed [] seen = seen
pushed (x ∷ xs) seen = pushed xs (x ∷ seen)

once_step : (b : Bool) (x : Text) (seen e1 e2 f1 f2 c : List Text) → e1 ≡ f1 ++ each_once (pushed f1 seen) c → e2 ≡ f2 ++ each_once (pushed f2 (x ∷ seen)) c
    → ◌≡◌ {A = List Text} (elim b [ true ↦ e1 | false ↦ x ∷ e2 ]) ((elim b [ true ↦ f1 | false ↦ x ∷ f2 ]) ++ each_once (pushed (elim b [ true ↦ f1 | false ↦ x ∷ f2 ]) seen) c)
once_step true x seen e1 e2 f1 f2 c h g = h
once_step false x seen e1 e2 f1 f2 c h g = ap (λ rest. x ∷ rest) g

once_both : (seen a c : List Text) → each_once seen (a ++ c) ≡ each_once seen a ++ each_once (pushed (each_once seen a) seen) c
once_both seen [] c = refl
once_both seen (x ∷ a) c = once_step (is_listed x seen) x seen _ _ _ _ c (once_both seen a c) (once_both (x ∷ seen) a c)

those_step : (b : Bool) (x : Text) (both a c : List Text) → both ≡ a ++ c → ◌≡◌ {A = List Text} (elim b [ true ↦ x ∷ both | false ↦ both ]) ((elim b [ true ↦ x ∷ a | false ↦ a ]) ++ c)
those_step true x both a c h = ap (λ rest. x ∷ rest) h
those_step false x both a c h = h

those_both : (scope a c : List Text) → those_of scope (a ++ c) ≡ those_of scope a ++ those_of scope c
those_both scope [] c = refl
those_both scope (x ∷ a) c = those_step (is_listed x scope) x _ _ _ (those_both scope a c)

covers_pushed : (names xs seen : List Text) → Covers names seen → Covers names (pushed xs seen)
covers_pushed names [] seen h = h
covers_pushed names (x ∷ xs) seen h = covers_pushed names xs (x ∷ seen) (λ t g. later x t seen (h t g))

apart : (scope seen a c : List Text) → each_once seen (those_of scope (a ++ c)) ≡ each_once seen (those_of scope a) ++ each_once (pushed (each_once seen (those_of scope a)) seen) (those_of scope c)
apart scope seen a c = ap (each_once seen) (those_both scope a c) ∙ once_both seen (those_of scope a) (those_of scope c)

infixr 60 ◌▸◌
pub ◌▸◌ : {scope a b c d : List Text} → Alike scope a b → Alike scope c d → Alike scope (a ++ c) (b ++ d)
◌▸◌ {scope} {a} {b} {c} {d} h g = record {
  alike = λ seen cover. apart scope seen a c
      ∙ ap (λ f. f ++ each_once (pushed f seen) (those_of scope c)) (h.alike seen cover)
      ∙ ap (λ rest. each_once seen (those_of scope b) ++ rest) (g.alike (pushed (each_once seen (those_of scope b)) seen) (covers_pushed renamed (each_once seen (those_of scope b)) seen cover))
      ∙ sym (apart scope seen b d);
}

pub same : {scope xs : List Text} → Alike scope xs xs
same = record { alike = λ seen cover. refl }

pub as_same : {scope xs ys : List Text} → xs ≡ ys → Alike scope xs ys
as_same {scope} e = record { alike = λ seen cover. ap (λ zs. each_once seen (those_of scope zs)) e }

-- ---- inside a scope

Split : List Text → List Text → List Text → Type 0
Split names small big = (t : Text) → is_listed t big ≡ or (is_listed t names) (is_listed t small)

split_more : (names small big : List Text) (x : Text) → Split names small big → Split names (x ∷ small) (x ∷ big)
unfolding Split
split_more names small big x h = λ t. ap (λ b. or (same_text x t) b) (h t) ∙ by (same_text x t) (is_listed t names) (is_listed t small)
  where
    by : (b c d : Bool) → or b (or c d) ≡ or c (or b d)
    by true true d = refl
    by true false d = refl
    by false c d = refl

split_own : (names seen : List Text) → Split names seen (names ++ seen)
unfolding Split
split_own [] seen = λ t. refl
split_own (n ∷ names) seen = λ t. ap (λ b. or (same_text n t) b) (split_own names seen t) ∙ by (same_text n t) (is_listed t names) (is_listed t seen)
  where
    by : (b c d : Bool) → or b (or c d) ≡ or (or b c) d
    by true c d = refl
    by false c d = refl

-- a name where it is in scope and wasn't seen
abbrev kept : (in_scope seen_then : Bool) → Text → (skipped taken : List Text) → List Text
kept in_scope seen_then x skipped taken = elim in_scope [ true ↦ elim seen_then [ true ↦ skipped | false ↦ x ∷ taken ] | false ↦ skipped ]

inner_step : (d l m : Bool) (x : Text) (l1 l2 r1 r2 : List Text) → l1 ≡ r1 → l2 ≡ r2
    → ◌≡◌ {A = List Text} (elim (or d l) [ true ↦ elim (or d m) [ true ↦ l1 | false ↦ x ∷ l2 ] | false ↦ l1 ])
    (elim d [ true ↦ r1 | false ↦ elim l [ true ↦ elim m [ true ↦ r1 | false ↦ x ∷ r2 ] | false ↦ r1 ] ])
inner_step true l m x l1 l2 r1 r2 h g = h
inner_step false true true x l1 l2 r1 r2 h g = h
inner_step false true false x l1 l2 r1 r2 h g = ap (λ rest. x ∷ rest) g
inner_step false false m x l1 l2 r1 r2 h g = h

inner : (names scope small big xs : List Text) → Split names small big → each_once big (those_of (around names scope) xs) ≡ each_once small (those_of scope (others_than names xs))
unfolding Split
inner names scope small big [] h = refl
inner names scope small big (x ∷ xs) h = front (is_listed x (around names scope))
    ∙ ap (λ b. kept b (is_listed x big) x (each_once big (those_of (around names scope) xs)) (each_once (x ∷ big) (those_of (around names scope) xs))) (around_listed x names scope)
    ∙ ap (λ b. kept (or (is_listed x names) (is_listed x scope)) b x (each_once big (those_of (around names scope) xs)) (each_once (x ∷ big) (those_of (around names scope) xs))) (h x)
    ∙ inner_step (is_listed x names) (is_listed x scope) (is_listed x small) x _ _ _ _ (inner names scope small big xs h) (inner names scope (x ∷ small) (x ∷ big) xs (split_more names small big x h))
    ∙ sym (behind (is_listed x names))
  where
    front : (b : Bool) → each_once big (elim b [ true ↦ x ∷ those_of (around names scope) xs | false ↦ those_of (around names scope) xs ])
        ≡ kept b (is_listed x big) x (each_once big (those_of (around names scope) xs)) (each_once (x ∷ big) (those_of (around names scope) xs))
    front true = refl
    front false = refl

    behind : (b : Bool) → each_once small (those_of scope (elim b [ true ↦ others_than names xs | false ↦ x ∷ others_than names xs ]))
        ≡ elim b [
          | true ↦ each_once small (those_of scope (others_than names xs))
          | false ↦ elim (is_listed x scope) [
            | true ↦ elim (is_listed x small) [ true ↦ each_once small (those_of scope (others_than names xs)) | false ↦ x ∷ each_once (x ∷ small) (those_of scope (others_than names xs)) ]
            | false ↦ each_once small (those_of scope (others_than names xs))
          ]
        ]
    behind true = refl
    behind false = by (is_listed x scope)
      where
        by : (b : Bool) → each_once small (elim b [ true ↦ x ∷ those_of scope (others_than names xs) | false ↦ those_of scope (others_than names xs) ])
            ≡ elim b [
              | true ↦ elim (is_listed x small) [ true ↦ each_once small (those_of scope (others_than names xs)) | false ↦ x ∷ each_once (x ∷ small) (those_of scope (others_than names xs)) ]
              | false ↦ each_once small (those_of scope (others_than names xs))
            ]
        by true = refl
        by false = refl

covers_front : (names seen : List Text) → Covers renamed seen → Covers renamed (names ++ seen)
covers_front [] seen h = h
covers_front (n ∷ names) seen h = λ t g. later n t (names ++ seen) (covers_front names seen h t g)

-- what is used inside and not declared there
pub undeclared : {scope xs ys : List Text} (names : List Text) → Alike (around names scope) xs ys → Alike scope (others_than names xs) (others_than names ys)
undeclared {scope} {xs} {ys} names h = record {
  alike = λ seen cover. sym (inner names scope seen (names ++ seen) xs (split_own names seen))
      ∙ h.alike (names ++ seen) (covers_front names seen cover)
      ∙ inner names scope seen (names ++ seen) ys (split_own names seen);
}

-- ---- names that lifting replaces

dropped : (l n : Bool) (x : Text) (e1 e2 : List Text) → n ≡ true → ◌≡◌ {A = List Text} (elim l [ true ↦ elim n [ true ↦ e1 | false ↦ x ∷ e2 ] | false ↦ e1 ]) e1
dropped true true x e1 e2 h = refl
dropped true false x e1 e2 h = absurd (true≢false (sym h))
dropped false n x e1 e2 h = refl

-- a renamed name counts for nothing
pub unseen : (scope : List Text) (t : Text) (xs : List Text) → is_listed t renamed ≡ true → Alike scope (t ∷ xs) xs
unseen scope t xs h = record { alike = λ seen cover. front seen (is_listed t scope) ∙ dropped (is_listed t scope) (is_listed t seen) t (each_once seen (those_of scope xs)) (each_once (t ∷ seen) (those_of scope xs)) (cover t h) }
  where
    front : (seen : List Text) (b : Bool) → each_once seen (elim b [ true ↦ t ∷ those_of scope xs | false ↦ those_of scope xs ])
        ≡ elim b [ true ↦ elim (is_listed t seen) [ true ↦ each_once seen (those_of scope xs) | false ↦ t ∷ each_once (t ∷ seen) (those_of scope xs) ] | false ↦ each_once seen (those_of scope xs) ]
    front seen true = refl
    front seen false = refl

infixr 50 ◌⟷◌
pub ◌⟷◌ : {scope xs ys zs : List Text} → Alike scope xs ys → Alike scope ys zs → Alike scope xs zs
◌⟷◌ h g = record { alike = λ seen cover. h.alike seen cover ∙ g.alike seen cover }

pub turned : {scope xs ys : List Text} → Alike scope xs ys → Alike scope ys xs
turned h = record { alike = λ seen cover. sym (h.alike seen cover) }

-- ---- captures

again_step : (l a n : Bool) (x : Text) (p1 p2 p3 q1 q2 : List Text) → (a ≡ true → n ≡ true) → p1 ≡ q1 → (n ≡ true → p2 ≡ q1) → p3 ≡ q2
    → ◌≡◌ {A = List Text} (elim l [ true ↦ elim a [ true ↦ p1 | false ↦ elim n [ true ↦ p2 | false ↦ x ∷ p3 ] ] | false ↦ p1 ]) (elim l [ true ↦ elim n [ true ↦ q1 | false ↦ x ∷ q2 ] | false ↦ q1 ])
again_step true true true x p1 p2 p3 q1 q2 sub h g k = h
again_step true true false x p1 p2 p3 q1 q2 sub h g k = absurd (true≢false (sym (sub refl)))
again_step true false true x p1 p2 p3 q1 q2 sub h g k = g refl
again_step true false false x p1 p2 p3 q1 q2 sub h g k = ap (λ rest. x ∷ rest) k
again_step false a n x p1 p2 p3 q1 q2 sub h g k = h

covers_seen : (also seen : List Text) (x : Text) → Covers also seen → is_listed x seen ≡ true → Covers (x ∷ also) seen
covers_seen also seen x h n = λ t. by t (same_text x t) refl
  where
    by : (t : Text) (b : Bool) → same_text x t ≡ b → or b (is_listed t also) ≡ true → is_listed t seen ≡ true
    by t true e g = ap (λ u. is_listed u seen) (sym (told_same x t (sym e))) ∙ n
    by t false e g = h t g

covers_both : (also seen : List Text) (x : Text) → Covers also seen → Covers (x ∷ also) (x ∷ seen)
covers_both also seen x h = λ t. by t (same_text x t)
  where
    by : (t : Text) (b : Bool) → or b (is_listed t also) ≡ true → or b (is_listed t seen) ≡ true
    by t true g = refl
    by t false g = h t g

again : (scope also seen xs : List Text) → Covers also seen → each_once seen (those_of scope (each_once also (those_of scope xs))) ≡ each_once seen (those_of scope xs)
again scope also seen [] h = refl
again scope also seen (x ∷ xs) h = front (is_listed x scope) refl
    ∙ again_step (is_listed x scope) (is_listed x also) (is_listed x seen) x _ _ _ _ _ (h x) (again scope also seen xs h)
    (λ n. again scope (x ∷ also) seen xs (covers_seen also seen x h n)) (again scope (x ∷ also) (x ∷ seen) xs (covers_both also seen x h))
    ∙ sym (behind (is_listed x scope))
  where
    behind : (b : Bool) → each_once seen (elim b [ true ↦ x ∷ those_of scope xs | false ↦ those_of scope xs ])
        ≡ elim b [ true ↦ elim (is_listed x seen) [ true ↦ each_once seen (those_of scope xs) | false ↦ x ∷ each_once (x ∷ seen) (those_of scope xs) ] | false ↦ each_once seen (those_of scope xs) ]
    behind true = refl
    behind false = refl

    kept : (zs : List Text) → is_listed x scope ≡ true → each_once seen (those_of scope (x ∷ zs)) ≡ elim (is_listed x seen) [ true ↦ each_once seen (those_of scope zs) | false ↦ x ∷ each_once (x ∷ seen) (those_of scope zs) ]
    kept zs e = ap (λ b. each_once seen (elim b [ true ↦ x ∷ those_of scope zs | false ↦ those_of scope zs ])) e

    front : (b : Bool) → is_listed x scope ≡ b → each_once seen (those_of scope (each_once also (elim b [ true ↦ x ∷ those_of scope xs | false ↦ those_of scope xs ])))
        ≡ elim b [
          | true ↦ elim (is_listed x also) [
            | true ↦ each_once seen (those_of scope (each_once also (those_of scope xs)))
            | false ↦ elim (is_listed x seen) [
              | true ↦ each_once seen (those_of scope (each_once (x ∷ also) (those_of scope xs)))
              | false ↦ x ∷ each_once (x ∷ seen) (those_of scope (each_once (x ∷ also) (those_of scope xs)))
            ]
          ]
          | false ↦ each_once seen (those_of scope (each_once also (those_of scope xs)))
        ]
    front true e = by (is_listed x also)
      where
        by : (a : Bool) → each_once seen (those_of scope (elim a [ true ↦ each_once also (those_of scope xs) | false ↦ x ∷ each_once (x ∷ also) (those_of scope xs) ]))
            ≡ elim a [
              | true ↦ each_once seen (those_of scope (each_once also (those_of scope xs)))
              | false ↦ elim (is_listed x seen) [
                | true ↦ each_once seen (those_of scope (each_once (x ∷ also) (those_of scope xs)))
                | false ↦ x ∷ each_once (x ∷ seen) (those_of scope (each_once (x ∷ also) (those_of scope xs)))
              ]
            ]
        by true = refl
        by false = kept (each_once (x ∷ also) (those_of scope xs)) e
    front false e = refl

-- the captured names of what is used stand for it
pub captured : (scope xs : List Text) → Alike scope (each_once [] (those_of scope xs)) xs
captured scope xs = record { alike = λ seen cover. again scope [] seen xs (λ t h. absurd (true≢false (sym h))) }

-- ---- a scope without renamed names

-- what was seen counts for names in scope alone
agreed : (scope big small xs : List Text) → ((t : Text) → is_listed t scope ≡ true → is_listed t big ≡ is_listed t small) → each_once big (those_of scope xs) ≡ each_once small (those_of scope xs)
agreed scope big small [] h = refl
agreed scope big small (x ∷ xs) h = by (is_listed x scope) refl (agreed scope big small xs h) (agreed scope (x ∷ big) (x ∷ small) xs (λ t g. ap (λ b. or (same_text x t) b) (h t g)))
  where
    step : (c d : Bool) (p1 p2 q1 q2 : List Text) → c ≡ d → p1 ≡ q1 → p2 ≡ q2 → ◌≡◌ {A = List Text} (elim c [ true ↦ p1 | false ↦ x ∷ p2 ]) (elim d [ true ↦ q1 | false ↦ x ∷ q2 ])
    step true true p1 p2 q1 q2 e k l = k
    step false false p1 p2 q1 q2 e k l = ap (λ rest. x ∷ rest) l
    step true false p1 p2 q1 q2 e k l = absurd (true≢false e)
    step false true p1 p2 q1 q2 e k l = absurd (true≢false (sym e))

    by : (b : Bool) → is_listed x scope ≡ b → each_once big (those_of scope xs) ≡ each_once small (those_of scope xs) → each_once (x ∷ big) (those_of scope xs) ≡ each_once (x ∷ small) (those_of scope xs)
        → each_once big (elim b [ true ↦ x ∷ those_of scope xs | false ↦ those_of scope xs ]) ≡ each_once small (elim b [ true ↦ x ∷ those_of scope xs | false ↦ those_of scope xs ])
    by true e k l = step (is_listed x big) (is_listed x small) _ _ _ _ (h x e) k l
    by false e k l = k

-- where no renamed name is in scope, the same names are captured in the same order
pub captures_alike : (scope xs ys : List Text) → ((t : Text) → is_listed t scope ≡ true → is_listed t renamed ≡ false) → Alike scope xs ys → each_once [] (those_of scope xs) ≡ each_once [] (those_of scope ys)
captures_alike scope xs ys clear h = sym (agreed scope renamed [] xs clear) ∙ h.alike renamed (λ t g. g) ∙ agreed scope renamed [] ys clear

-- ---- a scope from which names were taken

but : Bool → Bool → Bool
but b c = elim b [ true ↦ false | false ↦ c ]

others_listed : (t : Text) (names scope : List Text) → is_listed t (others_than names scope) ≡ but (is_listed t names) (is_listed t scope)
unfolding but
others_listed t names [] = by (is_listed t names)
  where
    by : (b : Bool) → false ≡ but b false
    by true = refl
    by false = refl
others_listed t names (n ∷ scope) = by (is_listed n names) refl (same_text n t) refl (others_listed t names scope)
  where
    there : (b : Bool) → is_listed n names ≡ b → same_text n t ≡ true → is_listed t names ≡ b
    there b e f = ap (λ u. is_listed u names) (sym (told_same n t (sym f))) ∙ e

    by : (b : Bool) → is_listed n names ≡ b → (c : Bool) → same_text n t ≡ c → is_listed t (others_than names scope) ≡ but (is_listed t names) (is_listed t scope)
        → is_listed t (elim b [ true ↦ others_than names scope | false ↦ n ∷ others_than names scope ]) ≡ but (is_listed t names) (or c (is_listed t scope))
    by true e true f k = k ∙ ap (λ d. but d (is_listed t scope)) (there true e f) ∙ sym (ap (λ d. but d true) (there true e f))
    by true e false f k = k
    by false e true f k = ap (λ d. or d (is_listed t (others_than names scope))) f ∙ sym (ap (λ d. but d true) (there false e f))
    by false e false f k = ap (λ d. or d (is_listed t (others_than names scope))) f ∙ k

-- what is still listed was listed
pub still_listed : (t : Text) (names scope : List Text) → is_listed t (others_than names scope) ≡ true → is_listed t scope ≡ true
unfolding but
still_listed t names scope h = by (is_listed t names) (is_listed t scope) (sym (others_listed t names scope) ∙ h)
  where
    by : (b c : Bool) → but b c ≡ true → c ≡ true
    by true c e = absurd (true≢false (sym e))
    by false c e = e

taken_out : (names scope xs : List Text) → those_of (others_than names scope) xs ≡ those_of scope (others_than names xs)
unfolding but
taken_out names scope [] = refl
taken_out names scope (x ∷ xs) = ap (λ b. elim b as (λ _. List Text) [ true ↦ x ∷ those_of (others_than names scope) xs | false ↦ those_of (others_than names scope) xs ]) (others_listed x names scope)
    ∙ by (is_listed x names) (taken_out names scope xs)
  where
    by : (b : Bool) → those_of (others_than names scope) xs ≡ those_of scope (others_than names xs) → elim (but b (is_listed x scope)) as (λ _. List Text) [ true ↦ x ∷ those_of (others_than names scope) xs | false ↦ those_of (others_than names scope) xs ]
        ≡ those_of scope (elim b [ true ↦ others_than names xs | false ↦ x ∷ others_than names xs ])
    by true k = k
    by false k = ap (λ rest. elim (is_listed x scope) as (λ _. List Text) [ true ↦ x ∷ rest | false ↦ rest ]) k

pub without : {scope xs ys : List Text} (names : List Text) → Alike (others_than names scope) xs ys → Alike scope (others_than names xs) (others_than names ys)
without {scope} {xs} {ys} names h = record { alike = λ seen cover. ap (each_once seen) (sym (taken_out names scope xs)) ∙ h.alike seen cover ∙ ap (each_once seen) (taken_out names scope ys) }
