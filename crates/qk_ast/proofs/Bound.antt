-- Lists of names: which are among them, and which of the names in use are found next.
use Rattle.std.specs.Prelude.{◌≡◌, refl, Bool, true, false, ◌||◌, List, [], ◌∷◌, ◌++◌, length, take}
use Rattle.std.proofs.Common.{sym, ◌∙◌, ap, true≢false}
use Rattle.std.proofs.lemmas.List.{append_assoc, append-nil}
use Rattle.std.proofs.Math.Seq.{take-append_seam}
use Rattle.std.specs.Cmp.Lexicographic.{same_text as told_same}
use Rattle.qk_ast.specs.Texts.{Text, same_text}
use Rattle.qk_ast.specs.Names.{is_listed, others_than, each_once}
use Rattle.qk_ast.specs.Walking.{with_name, with_names, found_next}

-- ---- which names are listed

listed_once : (m l : Bool) → elim m [ true ↦ true | false ↦ l ] ≡ (l || m)
listed_once true true = refl
listed_once true false = refl
listed_once false true = refl
listed_once false false = refl

-- a name in front of a list
pub listed_front : (q x : Text) (xs : List Text) → is_listed q (x ∷ xs) ≡ (is_listed q xs || same_text x q)
listed_front q x xs = listed_once (same_text x q) (is_listed q xs)

moved : (m a b : Bool) → elim m [ true ↦ true | false ↦ a || b ] ≡ (elim m [ true ↦ true | false ↦ a ] || b)
moved true a b = refl
moved false a b = refl

pub listed_both : (q : Text) (xs ys : List Text) → is_listed q (xs ++ ys) ≡ (is_listed q xs || is_listed q ys)
listed_both q [] ys = refl
listed_both q (x ∷ xs) ys = ap (λ l. elim (same_text x q) [ true ↦ true | false ↦ l ]) (listed_both q xs ys) ∙ moved (same_text x q) (is_listed q xs) (is_listed q ys)

-- a name behind a list
pub listed_behind : (q x : Text) (xs : List Text) → is_listed q (xs ++ x ∷ []) ≡ (is_listed q xs || same_text x q)
listed_behind q x xs = listed_both q xs (x ∷ []) ∙ ap (λ b. is_listed q xs || b) (alone (same_text x q))
  where
    alone : (m : Bool) → elim m [ true ↦ true | false ↦ false ] ≡ m
    alone true = refl
    alone false = refl

-- a name that is listed already adds nothing
listed_already : (q x : Text) (xs : List Text) → is_listed x xs ≡ true → is_listed q xs ≡ (is_listed q xs || same_text x q)
listed_already q x xs h = by (same_text x q) refl (is_listed q xs) refl
  where
    by : (m : Bool) → same_text x q ≡ m → (l : Bool) → is_listed q xs ≡ l → l ≡ (l || m)
    by m e true f = refl
    by false e false f = refl
    by true e false f = absurd (true≢false (sym h ∙ ap (λ t. is_listed t xs) (told_same x q (sym e)) ∙ f))

listed_with : (q x : Text) (xs : List Text) → is_listed q (with_name xs x) ≡ (is_listed q xs || same_text x q)
listed_with q x xs = by (is_listed x xs) refl
  where
    by : (b : Bool) → is_listed x xs ≡ b → is_listed q (elim b [ true ↦ xs | false ↦ xs ++ x ∷ [] ]) ≡ (is_listed q xs || same_text x q)
    by true e = listed_already q x xs e
    by false e = listed_behind q x xs

turned : (l b m : Bool) → (l || (b || m)) ≡ (elim m [ true ↦ true | false ↦ l ] || b)
turned true b true = refl
turned true b false = refl
turned false true true = refl
turned false true false = refl
turned false false true = refl
turned false false false = refl

-- the names of an inner scope, and those around it
pub listed_inside : (q : Text) (names more : List Text) → is_listed q (with_names names more) ≡ (is_listed q more || is_listed q names)
listed_inside q names [] = refl
listed_inside q names (x ∷ more) = listed_inside q (with_name names x) more
    ∙ ap (λ b. is_listed q more || b) (listed_with q x names)
    ∙ turned (is_listed q more) (is_listed q names) (same_text x q)

-- ---- the names around stay in front

grown_once : (names : List Text) (x : Text) → (rest : List Text) × (with_name names x ≡ names ++ rest)
grown_once names x = by (is_listed x names)
  where
    by : (b : Bool) → (rest : List Text) × (elim b [ true ↦ names | false ↦ names ++ x ∷ [] ] ≡ names ++ rest)
    by true = ([], sym (append-nil names))
    by false = (x ∷ [], refl)

grown : (names more : List Text) → (rest : List Text) × (with_names names more ≡ names ++ rest)
grown names [] = ([], sym (append-nil names))
grown names (x ∷ more) = let one = grown_once names x in let all = grown (with_name names x) more in
    (one.0 ++ all.0, all.1 ∙ ap (λ front. front ++ all.0) one.1 ∙ append_assoc names one.0 all.0)

pub outer_kept : (names more : List Text) → take (length names) (with_names names more) ≡ names
outer_kept names more = let all = grown names more in ap (take (length names)) all.1 ∙ take-append_seam names all.0

-- ---- what is found next

pub found_none : (bound seen : List Text) → seen ++ found_next bound seen [] ≡ seen
found_none bound seen = append-nil seen

pub found_both : (bound seen xs ys : List Text) → found_next bound seen (xs ++ ys) ≡ found_next bound seen xs ++ found_next bound (seen ++ found_next bound seen xs) ys
found_both bound seen [] ys = ap (λ s. found_next bound s ys) (sym (append-nil seen))
found_both bound seen (x ∷ xs) ys = by (is_listed x bound || is_listed x seen) (found_both bound seen xs ys) (found_both bound (seen ++ x ∷ []) xs ys)
  where
    by : (b : Bool) → found_next bound seen (xs ++ ys) ≡ found_next bound seen xs ++ found_next bound (seen ++ found_next bound seen xs) ys
        → found_next bound (seen ++ x ∷ []) (xs ++ ys) ≡ found_next bound (seen ++ x ∷ []) xs ++ found_next bound ((seen ++ x ∷ []) ++ found_next bound (seen ++ x ∷ []) xs) ys
        → elim b [ true ↦ found_next bound seen (xs ++ ys) | false ↦ x ∷ found_next bound (seen ++ x ∷ []) (xs ++ ys) ]
        ≡ elim b [ true ↦ found_next bound seen xs | false ↦ x ∷ found_next bound (seen ++ x ∷ []) xs ]
        ++ found_next bound (seen ++ elim b [ true ↦ found_next bound seen xs | false ↦ x ∷ found_next bound (seen ++ x ∷ []) xs ]) ys
    by true same new = same
    by false same new = ap (λ found. x ∷ found) (new
        ∙ ap (λ s. found_next bound (seen ++ x ∷ []) xs ++ found_next bound s ys) (append_assoc seen (x ∷ []) (found_next bound (seen ++ x ∷ []) xs)))

-- inside a scope its names are passed over
pub found_inside : (bound names seen xs : List Text) → found_next (with_names bound names) seen xs ≡ found_next bound seen (others_than names xs)
found_inside bound names seen [] = refl
found_inside bound names seen (x ∷ xs) = ap (λ b. elim (b || is_listed x seen) [ true ↦ found_next (with_names bound names) seen xs | false ↦ x ∷ found_next (with_names bound names) (seen ++ x ∷ []) xs ]) (listed_inside x bound names)
    ∙ by (is_listed x names) (found_inside bound names seen xs) (found_inside bound names (seen ++ x ∷ []) xs)
  where
    pick : (c : Bool) (p q r s : List Text) → p ≡ q → r ≡ s → ◌≡◌ {A = List Text} (elim c [ true ↦ p | false ↦ x ∷ r ]) (elim c [ true ↦ q | false ↦ x ∷ s ])
    pick true p q r s e f = e
    pick false p q r s e f = ap (λ rest. x ∷ rest) f

    by : (b : Bool) → found_next (with_names bound names) seen xs ≡ found_next bound seen (others_than names xs)
        → found_next (with_names bound names) (seen ++ x ∷ []) xs ≡ found_next bound (seen ++ x ∷ []) (others_than names xs)
        → elim ((b || is_listed x bound) || is_listed x seen) [ true ↦ found_next (with_names bound names) seen xs | false ↦ x ∷ found_next (with_names bound names) (seen ++ x ∷ []) xs ]
        ≡ found_next bound seen (elim b [ true ↦ others_than names xs | false ↦ x ∷ others_than names xs ])
    by true same new = same
    by false same new = pick (is_listed x bound || is_listed x seen) _ _ _ _ same new

-- outside of all scopes each name is found once
pub found_once : (seen also xs : List Text) → ((q : Text) → is_listed q seen ≡ is_listed q also) → found_next [] seen xs ≡ each_once also xs
found_once seen also [] same = refl
found_once seen also (x ∷ xs) same = ap (λ b. elim b [ true ↦ found_next [] seen xs | false ↦ x ∷ found_next [] (seen ++ x ∷ []) xs ]) (same x) ∙ by (is_listed x also) (found_once seen also xs same) (found_once (seen ++ x ∷ []) (x ∷ also) xs (λ q. listed_behind q x seen ∙ ap (λ b. b || same_text x q) (same q) ∙ sym (listed_front q x also)))
  where
    by : (b : Bool) → found_next [] seen xs ≡ each_once also xs → found_next [] (seen ++ x ∷ []) xs ≡ each_once (x ∷ also) xs
        → ◌≡◌ {A = List Text} (elim b [ true ↦ found_next [] seen xs | false ↦ x ∷ found_next [] (seen ++ x ∷ []) xs ]) (elim b [ true ↦ each_once also xs | false ↦ x ∷ each_once (x ∷ also) xs ])
    by true same new = same
    by false same new = ap (λ rest. x ∷ rest) new
