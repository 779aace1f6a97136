-- Items of lists.
use Rattle.std.proofs.Common.{◌≡◌, refl, sym, ◌∙◌, ap, subst, arith}
use Rattle.std.proofs.lemmas.List.{length-append, get_or_append_left}
use Rattle.std.specs.Prelude.{zero, suc, Bool, true, false, List, [], ◌∷◌, ◌++◌, Contains}
use Rattle.qk_ast.specs.declared.Item.{Item}
use Rattle.qk_ast.specs.Arrows.{Found_arrow, Unmarked, arrows, item_arrows, of_kind, is_dollar}

pub contains_first : {X : Type 0} (x : X) (xs : List X) → Contains (x ∷ xs) x
contains_first x xs = (0, omega arith, refl)

pub contains_later : {X : Type 0} (y x : X) (xs : List X) → Contains xs x → Contains (y ∷ xs) x
contains_later y x xs (k, l, e) = (suc k, omega (arith, l), e)

pub contains_front : {X : Type 0} (xs ys : List X) (x : X) → Contains xs x → Contains (xs ++ ys) x
contains_front xs ys x (k, l, e) = let n = length-append xs ys in (k, omega (arith, l, n), get_or_append_left xs ys x k l ∙ e)

pub contains_behind : {X : Type 0} (xs ys : List X) (x : X) → Contains ys x → Contains (xs ++ ys) x
contains_behind [] ys x h = h
contains_behind (y ∷ xs) ys x h = contains_later y x (xs ++ ys) (contains_behind xs ys x h)

-- the arrows of an item are among those of the items
pub of_item : (items : List Item) (i : Item) (a : Found_arrow) → Contains items i → Contains (arrows i.init Unmarked []) a → Contains (item_arrows items) a
of_item [] i a (k, l, e) h = absurd (omega (arith, l))
of_item (j ∷ rest) i a (zero, l, e) h = contains_front (arrows j.init Unmarked []) (item_arrows rest) a (subst (λ i. Contains (arrows i.init Unmarked []) a) (sym e) h)
of_item (j ∷ rest) i a (suc k, l, e) h = contains_behind (arrows j.init Unmarked []) (item_arrows rest) a (of_item rest i a (k, omega (arith, l), e) h)

either : (b : Bool) (x a : Found_arrow) (xs : List Found_arrow) → Contains xs a → Contains (elim b [ true ↦ x ∷ xs | false ↦ xs ]) a
either true x a xs h = contains_later x a xs h
either false x a xs h = h

-- a dollar arrow is among the dollar arrows
pub among_dollars : (xs : List Found_arrow) (a : Found_arrow) → is_dollar a ≡ true → Contains xs a → Contains (of_kind true xs) a
among_dollars [] a d (k, l, e) = absurd (omega (arith, l))
among_dollars (x ∷ xs) a d (zero, l, e) =
    subst (λ b. Contains (elim b [ true ↦ x ∷ of_kind true xs | false ↦ of_kind true xs ]) a) (sym (ap is_dollar e ∙ d)) (subst (λ b. Contains (x ∷ of_kind true xs) b) e (contains_first x (of_kind true xs)))
among_dollars (x ∷ xs) a d (suc k, l, e) = either (is_dollar x) x a (of_kind true xs) (among_dollars xs a d (k, omega (arith, l), e))
