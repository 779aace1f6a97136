-- Names that are kept once, and of these the ones in scope: in either order the same.
use Rattle.std.specs.Prelude.{◌≡◌, refl, Bool, true, false, List, [], ◌∷◌}
use Rattle.std.proofs.Common.{sym, ◌∙◌, ap, true≢false}
use Rattle.std.specs.Cmp.Lexicographic.{same_text as told_same}
use Rattle.qk_ast.specs.Texts.{Text, same_text}
use Rattle.qk_ast.specs.Names.{is_listed, those_of, each_once}

-- the same of the names that are in scope were seen
Agree : List Text → List Text → List Text → Type 0
Agree s seen also = (q : Text) → is_listed q s ≡ true → is_listed q seen ≡ is_listed q also

agree_front : (s seen also : List Text) (x : Text) → Agree s seen also → Agree s (x ∷ seen) (x ∷ also)
unfolding Agree
agree_front s seen also x h q in_s = ap (λ b. elim (same_text x q) [ true ↦ true | false ↦ b ]) (h q in_s)

-- a name that isn't in scope may be seen more
agree_more : (s seen also : List Text) (x : Text) → is_listed x s ≡ false → Agree s seen also → Agree s seen (x ∷ also)
unfolding Agree
agree_more s seen also x out h q in_s = by (same_text x q) refl
  where
    by : (m : Bool) → same_text x q ≡ m → is_listed q seen ≡ elim m [ true ↦ true | false ↦ is_listed q also ]
    by true e = absurd (true≢false (sym in_s ∙ ap (λ t. is_listed t s) (sym (told_same x q (sym e))) ∙ out))
    by false e = h q in_s

-- of a name: whether it was seen, whether it is in scope
step : (x : Text) (seen_then also_then in_s : Bool) (s l1 l2 r1 r2 : List Text) → (in_s ≡ true → seen_then ≡ also_then) → l1 ≡ those_of s r1 → (in_s ≡ true → l2 ≡ those_of s r2) → (in_s ≡ false → l1 ≡ those_of s r2)
    → ◌≡◌ {A = List Text} (elim in_s [ true ↦ elim seen_then [ true ↦ l1 | false ↦ x ∷ l2 ] | false ↦ l1 ])
    (elim also_then [ true ↦ those_of s r1 | false ↦ elim in_s [ true ↦ x ∷ those_of s r2 | false ↦ those_of s r2 ] ])
step x true true true s l1 l2 r1 r2 agree same new out = same
step x true false true s l1 l2 r1 r2 agree same new out = absurd (true≢false (agree refl))
step x false true true s l1 l2 r1 r2 agree same new out = absurd (true≢false (sym (agree refl)))
step x false false true s l1 l2 r1 r2 agree same new out = ap (λ rest. x ∷ rest) (new refl)
step x b true false s l1 l2 r1 r2 agree same new out = same
step x b false false s l1 l2 r1 r2 agree same new out = out refl

once_those : (s seen also xs : List Text) → Agree s seen also → each_once seen (those_of s xs) ≡ those_of s (each_once also xs)
unfolding Agree
once_those s seen also [] h = refl
once_those s seen also (x ∷ xs) h = front (is_listed x s)
    ∙ step x (is_listed x seen) (is_listed x also) (is_listed x s) s (each_once seen (those_of s xs)) (each_once (x ∷ seen) (those_of s xs)) (each_once also xs) (each_once (x ∷ also) xs)
    (h x) (once_those s seen also xs h) (λ e. once_those s (x ∷ seen) (x ∷ also) xs (agree_front s seen also x h)) (λ e. once_those s seen (x ∷ also) xs (agree_more s seen also x e h))
    ∙ sym (behind (is_listed x also))
  where
    front : (b : Bool) → each_once seen (elim b [ true ↦ x ∷ those_of s xs | false ↦ those_of s xs ])
        ≡ elim b [ true ↦ elim (is_listed x seen) [ true ↦ each_once seen (those_of s xs) | false ↦ x ∷ each_once (x ∷ seen) (those_of s xs) ] | false ↦ each_once seen (those_of s xs) ]
    front true = refl
    front false = refl

    behind : (b : Bool) → those_of s (elim b [ true ↦ each_once also xs | false ↦ x ∷ each_once (x ∷ also) xs ])
        ≡ elim b [ true ↦ those_of s (each_once also xs) | false ↦ elim (is_listed x s) [ true ↦ x ∷ those_of s (each_once (x ∷ also) xs) | false ↦ those_of s (each_once (x ∷ also) xs) ] ]
    behind true = refl
    behind false = refl

pub once_in_scope : (s xs : List Text) → each_once [] (those_of s xs) ≡ those_of s (each_once [] xs)
unfolding Agree
once_in_scope s xs = once_those s [] [] xs (λ q in_s. refl)
