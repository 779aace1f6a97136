-- The arrows of a file stand for themselves between whole scopes and captured values.
use Rattle.std.specs.Prelude.{◌≡◌, refl, Bool, true, false, List, [], ◌∷◌, ◌++◌, codes}
use Rattle.std.proofs.Common.{sym, ◌∙◌, ap, subst}
use Rattle.std.proofs.lemmas.Slice.Eq.{bytes_eq-Decides}
use Rattle.qk_ast.specs.declared.Pattern.{Pattern}
use Rattle.qk_ast.specs.declared.Expr.{more_of-Expr}
use Rattle.qk_ast.specs.declared.Body.{Body, Block' as Body_block'}
use Rattle.qk_ast.specs.Arrows as A
use Rattle.qk_ast.specs.Uses as U
use Rattle.qk_alike.specs.Code_stands as C
use Rattle.qk_alike.proofs.Sames.{not_both}
use Rattle.qk_source_alike.proofs.Same_code.{all_left, lefts, Reaches, Scoped, listed_others, deepens_by, deepens_scope, same_stmts, same_expr}
use Rattle.qk_alike.specs.Meanings_stand.{Roots_stand}
use Rattle.qk_ast.specs.Arrows.{Found_arrow, Mark, Marked, Tasked, Unmarked, inner_scope}
use Rattle.qk_ast.specs.Names.{around, body_names, declared_in, each_once, is_listed, others_than, patterns_names, those_of}
use Rattle.qk_ast.specs.Texts.{same_text}
use Rattle.qk_ast.specs.Uses.{captures_of, free_of}
use Rattle.qk_meaning.specs.Alike.{Locals_stand, Reach, deeper, is_local}
use Rattle.qk_meaning.specs.Program.{Program}
use Rattle.qk_meaning.specs.Setting.{has_tracker}
use Rattle.qk_meaning.specs.Sites.{code_from}
use Rattle.qk_meaning.specs.Ties.{Pairing, Site_ties, Stands, ties_over}
use Rattle.qk_meaning.specs.Value.{Fields, Text}
use Rattle.qk_source_alike.specs.Every.{Every}

-- ---- membership

listed_is : (n x : Text) (xs : List Text) → same_text n x ≡ true → is_listed n xs ≡ is_listed x xs
listed_is n x xs e = ap (λ z. is_listed z xs) ((bytes_eq-Decides n x).0 e)

those_listed : (scope : List Text) (x : Text) (xs : List Text) → is_listed x (those_of scope xs) ≡ (elim (is_listed x xs) as (λ y. Bool) [ true ↦ is_listed x scope | false ↦ false ])
those_listed scope x [] = refl
those_listed scope x (n ∷ xs) = go (same_text n x) refl (is_listed n scope) refl (is_listed x xs) (those_listed scope x xs)
  where
    go : (b : Bool) → same_text n x ≡ b → (c : Bool) → is_listed n scope ≡ c → (d : Bool) → is_listed x (those_of scope xs) ≡ (elim d as (λ y. Bool) [ true ↦ is_listed x scope | false ↦ false ]) →
        is_listed x (elim c as (λ y. List Text) [ true ↦ n ∷ those_of scope xs | false ↦ those_of scope xs ]) ≡ (elim (elim b as (λ y. Bool) [ true ↦ true | false ↦ d ]) as (λ y. Bool) [ true ↦ is_listed x scope | false ↦ false ])
    go true p true q d k = ap (λ b. elim b as (λ y. Bool) [ true ↦ true | false ↦ is_listed x (those_of scope xs) ]) p ∙ (sym q ∙ listed_is n x scope p)
    go true p false q true k = k
    go true p false q false k = k ∙ (sym q ∙ listed_is n x scope p)
    go false p true q d k = ap (λ b. elim b as (λ y. Bool) [ true ↦ true | false ↦ is_listed x (those_of scope xs) ]) p ∙ k
    go false p false q d k = k

once_listed : (seen : List Text) (x : Text) (xs : List Text) → is_listed x (each_once seen xs) ≡ (elim (is_listed x seen) as (λ y. Bool) [ true ↦ false | false ↦ is_listed x xs ])
once_listed seen x [] = go (is_listed x seen)
  where
    go : (b : Bool) → false ≡ (elim b as (λ y. Bool) [ true ↦ false | false ↦ false ])
    go true = refl
    go false = refl
once_listed seen x (n ∷ xs) = go (same_text n x) refl (is_listed n seen) refl (is_listed x seen) refl (once_listed seen x xs) (once_listed (n ∷ seen) x xs)
  where
    go : (b : Bool) → same_text n x ≡ b → (c : Bool) → is_listed n seen ≡ c → (d : Bool) → is_listed x seen ≡ d → is_listed x (each_once seen xs) ≡ (elim (is_listed x seen) as (λ y. Bool) [ true ↦ false | false ↦ is_listed x xs ]) →
        is_listed x (each_once (n ∷ seen) xs) ≡ (elim (elim (same_text n x) as (λ y. Bool) [ true ↦ true | false ↦ is_listed x seen ]) as (λ y. Bool) [ true ↦ false | false ↦ is_listed x xs ]) →
        is_listed x (elim c as (λ y. List Text) [ true ↦ each_once seen xs | false ↦ n ∷ each_once (n ∷ seen) xs ]) ≡ (elim d as (λ y. Bool) [ true ↦ false | false ↦ elim b as (λ y. Bool) [ true ↦ true | false ↦ is_listed x xs ] ])
    go true p true q true r k l = k ∙ ap (λ z. elim z as (λ y. Bool) [ true ↦ false | false ↦ is_listed x xs ]) r
    go true p true q false r k l = absurd (not_both (sym q ∙ (listed_is n x seen p ∙ r)))
    go true p false q true r k l = absurd (not_both (sym r ∙ (sym (listed_is n x seen p) ∙ q)))
    go true p false q false r k l = ap (λ z. elim z as (λ y. Bool) [ true ↦ true | false ↦ is_listed x (each_once (n ∷ seen) xs) ]) p
    go false p true q d r k l = k ∙ ap (λ z. elim z as (λ y. Bool) [ true ↦ false | false ↦ is_listed x xs ]) r
    go false p false q d r k l =
        ap (λ z. elim z as (λ y. Bool) [ true ↦ true | false ↦ is_listed x (each_once (n ∷ seen) xs) ]) p
        ∙ (l ∙ (ap (λ z. elim (elim z as (λ y. Bool) [ true ↦ true | false ↦ is_listed x seen ]) as (λ y. Bool) [ true ↦ false | false ↦ is_listed x xs ]) p ∙ ap (λ z. elim z as (λ y. Bool) [ true ↦ false | false ↦ is_listed x xs ]) r))

-- the captures of an arrow are those of its free names that are declared around it
pub captured_listed : (a : Found_arrow) (x : Text) → is_listed x (captures_of a) ≡ (elim (is_listed x (free_of a)) as (λ y. Bool) [ true ↦ is_listed x a.scope | false ↦ false ])
captured_listed a x = once_listed [] x (those_of a.scope (free_of a)) ∙ those_listed a.scope x (free_of a)

pub free_captured : (a : Found_arrow) (x : Text) → is_listed x (free_of a) ≡ true → is_listed x a.scope ≡ is_listed x (captures_of a)
free_captured a x e = sym (captured_listed a x ∙ ap (λ b. elim b as (λ y. Bool) [ true ↦ is_listed x a.scope | false ↦ false ]) e)

pub others_unlisted : (names : List Text) (x : Text) (xs : List Text) → is_listed x names ≡ true → is_listed x (others_than names xs) ≡ false
others_unlisted names x [] e = refl
others_unlisted names x (n ∷ xs) e = go (same_text n x) refl (is_listed n names) refl (others_unlisted names x xs e)
  where
    go : (b : Bool) → same_text n x ≡ b → (c : Bool) → is_listed n names ≡ c → is_listed x (others_than names xs) ≡ false → is_listed x (elim c as (λ y. List Text) [ true ↦ others_than names xs | false ↦ n ∷ others_than names xs ]) ≡ false
    go b p true q k = k
    go true p false q k = absurd (not_both (sym e ∙ (sym (listed_is n x names p) ∙ q)))
    go false p false q k = ap (λ z. elim z as (λ y. Bool) [ true ↦ true | false ↦ is_listed x (others_than names xs) ]) p ∙ k

pub others_kept : (names : List Text) (x : Text) (xs : List Text) → is_listed x names ≡ false → is_listed x (others_than names xs) ≡ is_listed x xs
others_kept names x [] e = refl
others_kept names x (n ∷ xs) e = go (same_text n x) refl (is_listed n names) refl (others_kept names x xs e)
  where
    go : (b : Bool) → same_text n x ≡ b → (c : Bool) → is_listed n names ≡ c → is_listed x (others_than names xs) ≡ is_listed x xs → is_listed x (elim c as (λ y. List Text) [ true ↦ others_than names xs | false ↦ n ∷ others_than names xs ]) ≡ (elim b as (λ y. Bool) [ true ↦ true | false ↦ is_listed x xs ])
    go true p true q k = absurd (not_both (sym q ∙ (listed_is n x names p ∙ e)))
    go true p false q k = ap (λ z. elim z as (λ y. Bool) [ true ↦ true | false ↦ is_listed x (others_than names xs) ]) p
    go false p true q k = k
    go false p false q k = ap (λ z. elim z as (λ y. Bool) [ true ↦ true | false ↦ is_listed x (others_than names xs) ]) p ∙ k

pub appended_first : (x : Text) (xs ys : List Text) → is_listed x (xs ++ ys) ≡ (elim (is_listed x xs) as (λ y. Bool) [ true ↦ true | false ↦ is_listed x ys ])
appended_first x [] ys = refl
appended_first x (n ∷ xs) ys = go (same_text n x) (appended_first x xs ys)
  where
    go : (b : Bool) → is_listed x (xs ++ ys) ≡ (elim (is_listed x xs) as (λ y. Bool) [ true ↦ true | false ↦ is_listed x ys ]) →
        (elim b as (λ y. Bool) [ true ↦ true | false ↦ is_listed x (xs ++ ys) ]) ≡ (elim (elim b as (λ y. Bool) [ true ↦ true | false ↦ is_listed x xs ]) as (λ y. Bool) [ true ↦ true | false ↦ is_listed x ys ])
    go true k = refl
    go false k = k

pub around_twice : (xs ys own : List Text) → around (xs ++ ys) own ≡ around ys (around xs own)
around_twice [] ys own = refl
around_twice (x ∷ xs) ys own = around_twice xs ys (x ∷ own)

-- ---- the reach of an arrow's body

abbrev pub outside : Found_arrow → List Text → Reach
outside a free = record { own = []; free = free; captured = captures_of a }

-- an arrow that is no tracking task: names of its body are declared in it, or free
pub plain_reaches : (a : Found_arrow) (names uses : List Text) → U.body_uses a.body ≡ others_than names uses → Reaches (deeper (patterns_names a.params ++ names) (outside a (free_of a))) uses
plain_reaches a names uses e = deepens_by (outside a (free_of a)) (patterns_names a.params ++ names) uses
    (λ x h k. listed_others (patterns_names a.params) x (U.body_uses a.body) (subst (λ l. is_listed x l ≡ true) (sym e) (listed_others names x uses h (neither_second x (sym (appended_first x (patterns_names a.params) names) ∙ k)))) (neither_first x (sym (appended_first x (patterns_names a.params) names) ∙ k)))
  where
    both_false : (b c : Bool) → (elim b as (λ y. Bool) [ true ↦ true | false ↦ c ]) ≡ false → (b ≡ false) × (c ≡ false)
    both_false true c h = absurd (not_both h)
    both_false false c h = (refl, h)

    neither_first : (x : Text) → (elim (is_listed x (patterns_names a.params)) as (λ y. Bool) [ true ↦ true | false ↦ is_listed x names ]) ≡ false → is_listed x (patterns_names a.params) ≡ false
    neither_first x h = (both_false (is_listed x (patterns_names a.params)) (is_listed x names) h).0

    neither_second : (x : Text) → (elim (is_listed x (patterns_names a.params)) as (λ y. Bool) [ true ↦ true | false ↦ is_listed x names ]) ≡ false → is_listed x names ≡ false
    neither_second x h = (both_false (is_listed x (patterns_names a.params)) (is_listed x names) h).1

plain_scoped : (a : Found_arrow) (names : List Text) → Scoped (deeper (patterns_names a.params ++ names) (outside a (free_of a))) (around names (around (patterns_names a.params) a.scope))
plain_scoped a names = subst (λ s. Scoped (deeper (patterns_names a.params ++ names) (outside a (free_of a))) s) (around_twice (patterns_names a.params) names a.scope)
    (deepens_scope (outside a (free_of a)) (patterns_names a.params ++ names) a.scope (λ x e. free_captured a x e))

-- a task with the parameter `track`
pub tracking_reaches : (a : Found_arrow) (names uses : List Text) → patterns_names a.params ≡ codes "track" ∷ [] → U.body_uses a.body ≡ others_than names uses → Reaches (deeper names (outside a (codes "track" ∷ free_of a))) uses
tracking_reaches a names uses p e = deepens_by (outside a (codes "track" ∷ free_of a)) names uses (λ x h k. go x (is_listed x (codes "track" ∷ [])) refl (subst (λ l. is_listed x l ≡ true) (sym e) (listed_others names x uses h k)))
  where
    go : (x : Text) (b : Bool) → is_listed x (codes "track" ∷ []) ≡ b → is_listed x (U.body_uses a.body) ≡ true → is_listed x (codes "track" ∷ free_of a) ≡ true
    go x true q h = by (same_text (codes "track") x) q
      where
        by : (c : Bool) → (elim c as (λ y. Bool) [ true ↦ true | false ↦ false ]) ≡ true → (elim c as (λ y. Bool) [ true ↦ true | false ↦ is_listed x (free_of a) ]) ≡ true
        by true q = refl
        by false q = absurd (not_both (sym q))
    go x false q h = by (same_text (codes "track") x) (listed_others (patterns_names a.params) x (U.body_uses a.body) h (ap (λ l. is_listed x l) p ∙ q))
      where
        by : (c : Bool) → is_listed x (free_of a) ≡ true → (elim c as (λ y. Bool) [ true ↦ true | false ↦ is_listed x (free_of a) ]) ≡ true
        by true h = refl
        by false h = h

pub track_uncaptured : (a : Found_arrow) → patterns_names a.params ≡ codes "track" ∷ [] → is_listed (codes "track") (captures_of a) ≡ false
track_uncaptured a p =
    captured_listed a (codes "track") ∙ ap (λ b. elim b as (λ y. Bool) [ true ↦ is_listed (codes "track") a.scope | false ↦ false ])
    (others_unlisted (patterns_names a.params) (codes "track") (U.body_uses a.body) (ap (λ l. is_listed (codes "track") l) p ∙ refl))

tracking_scoped : (a : Found_arrow) (names : List Text) → patterns_names a.params ≡ codes "track" ∷ [] → Scoped (deeper names (outside a (codes "track" ∷ free_of a))) (around names (others_than (codes "track" ∷ []) a.scope))
tracking_scoped a names p = deepens_scope (outside a (codes "track" ∷ free_of a)) names (others_than (codes "track" ∷ []) a.scope) (λ x e. go x (same_text (codes "track") x) refl e)
  where
    go : (x : Text) (b : Bool) → same_text (codes "track") x ≡ b → (elim b as (λ y. Bool) [ true ↦ true | false ↦ is_listed x (free_of a) ]) ≡ true → is_listed x (others_than (codes "track" ∷ []) a.scope) ≡ is_listed x (captures_of a)
    go x true q e = others_unlisted (codes "track" ∷ []) x a.scope (ap (λ b. elim b as (λ y. Bool) [ true ↦ true | false ↦ false ]) q) ∙ sym (subst (λ z. is_listed z (captures_of a) ≡ false) ((bytes_eq-Decides (codes "track") x).0 q) (track_uncaptured a p))
    go x false q e = others_kept (codes "track" ∷ []) x a.scope (ap (λ b. elim b as (λ y. Bool) [ true ↦ true | false ↦ false ]) q) ∙ free_captured a x e

others_none : (xs : List Text) → xs ≡ others_than [] xs
others_none [] = refl
others_none (x ∷ xs) = ap (λ l. x ∷ l) (others_none xs)

-- the names that a body uses, before those that its block declares are taken away
abbrev pub inner_uses : Body → List Text
inner_uses (Body.Value' _ all) = U.all_uses all
inner_uses (Body_block' _ all) = U.block_uses all

pub used_inside : (e : Body) → U.body_uses e ≡ others_than (body_names e) (inner_uses e)
used_inside (Body.Value' _ all) = others_none (U.all_uses all)
used_inside (Body_block' _ all) = refl

module _ (P Q : Program) (t : Site_ties) (file : Text) (Good : Found_arrow → Type 0) (roots : (name : Text) → Roots_stand t (P.root file name) (Q.root file name))
    (makes : (a : Found_arrow) (r : Reach) → Good a → Reaches r (free_of a) → ((x : Text) → is_listed x (free_of a) ≡ true → is_listed x a.scope ≡ is_local r x) →
    (p : Pairing) (f g : Fields) → Locals_stand (ties_over t p) r.free r.captured r.own f g → Stands (ties_over t p) (P.makes (P.site file a.place) f) (Q.makes (Q.site file a.place) g)) where
  same_body : (e : Body) (scope : List Text) (r : Reach) → Reaches r (inner_uses e) → Scoped r (around (body_names e) scope) → Every Good (A.body_arrows e scope) → C.Bodies_stand P Q t file file r e e
  same_body (Body.Value' _ (more_of-Expr e rest)) scope r h s g = C.value_bodies (same_expr P Q t file file Good roots makes e Unmarked scope r (lefts r (U.uses e) (U.all_uses rest) h) s (all_left (A.arrows e Unmarked scope) (A.all_arrows rest Unmarked scope) g))
  same_body (Body_block' _ all) scope r h s g = C.block_bodies (C.both_rows (same_stmts P Q t file file Good roots makes all (around (declared_in all) scope) r h s g))

  pub same_codes : (a : Found_arrow) → (has_tracker (code_from file a) ≡ true → patterns_names a.params ≡ codes "track" ∷ []) → Every Good (A.body_arrows a.body (inner_scope a.mark a.params a.scope)) →
      C.Codes_stand P Q t (C.seen (code_from file a) (free_of a)) (captures_of a) (code_from file a) (code_from file a)
  same_codes a tracks g = record { tracker = refl; params = refl; names = refl; tracked = λ e. track_uncaptured a (tracks e); bodies = go a.mark a.params refl refl tracks g }
    where
      go : (mark : Mark) (params : List Pattern) → a.mark ≡ mark → a.params ≡ params → (has_tracker (code_from file a) ≡ true → patterns_names a.params ≡ codes "track" ∷ []) → Every Good (A.body_arrows a.body (inner_scope a.mark a.params a.scope)) →
          C.Bodies_stand P Q t file file (C.reach_of (code_from file a) (C.seen (code_from file a) (free_of a)) (captures_of a)) a.body a.body
      go mark params p q tracks g = by (has_tracker (code_from file a)) refl (inner p q)
        where
          inner : a.mark ≡ mark → a.params ≡ params → inner_scope a.mark a.params a.scope ≡ (elim (has_tracker (code_from file a)) as (λ y. List Text) [ true ↦ others_than (codes "track" ∷ []) a.scope | false ↦ around (patterns_names a.params) a.scope ])
          inner p q = cases a.mark a.params
            where
              cases : (m : Mark) (ps : List Pattern) → inner_scope m ps a.scope ≡ (elim (has_tracker (code_from file (record { place = a.place; scope = a.scope; mark = m; params = ps; body = a.body }))) as (λ y. List Text) [ true ↦ others_than (codes "track" ∷ []) a.scope | false ↦ around (patterns_names ps) a.scope ])
              cases Tasked (p ∷ ps) = refl
              cases Tasked [] = refl
              cases Marked ps = refl
              cases Unmarked ps = refl

          by : (b : Bool) → has_tracker (code_from file a) ≡ b → inner_scope a.mark a.params a.scope ≡ (elim (has_tracker (code_from file a)) as (λ y. List Text) [ true ↦ others_than (codes "track" ∷ []) a.scope | false ↦ around (patterns_names a.params) a.scope ]) →
              C.Bodies_stand P Q t file file (C.reach_of (code_from file a) (C.seen (code_from file a) (free_of a)) (captures_of a)) a.body a.body
          by b e i = subst (λ c. C.Bodies_stand P Q t file file (record { own = around (elim c as (λ y. List Text) [ true ↦ body_names a.body | false ↦ patterns_names a.params ++ body_names a.body ]) []; free = elim c as (λ y. List Text) [ true ↦ codes "track" ∷ free_of a | false ↦ free_of a ]; captured = captures_of a }) a.body a.body) (sym e)
              (at b (ap (λ z. elim z as (λ y. List Text) [ true ↦ others_than (codes "track" ∷ []) a.scope | false ↦ around (patterns_names a.params) a.scope ]) e) e)
            where
              at : (b : Bool) → (elim (has_tracker (code_from file a)) as (λ y. List Text) [ true ↦ others_than (codes "track" ∷ []) a.scope | false ↦ around (patterns_names a.params) a.scope ]) ≡ (elim b as (λ y. List Text) [ true ↦ others_than (codes "track" ∷ []) a.scope | false ↦ around (patterns_names a.params) a.scope ]) → has_tracker (code_from file a) ≡ b →
                  C.Bodies_stand P Q t file file (record { own = around (elim b as (λ y. List Text) [ true ↦ body_names a.body | false ↦ patterns_names a.params ++ body_names a.body ]) []; free = elim b as (λ y. List Text) [ true ↦ codes "track" ∷ free_of a | false ↦ free_of a ]; captured = captures_of a }) a.body a.body
              at true j e = same_body a.body (others_than (codes "track" ∷ []) a.scope) (deeper (body_names a.body) (outside a (codes "track" ∷ free_of a)))
                  (tracking_reaches a (body_names a.body) (inner_uses a.body) (tracks e) (used_inside a.body)) (tracking_scoped a (body_names a.body) (tracks e)) (subst (λ l. Every Good (A.body_arrows a.body l)) (i ∙ j) g)
              at false j e = same_body a.body (around (patterns_names a.params) a.scope) (deeper (patterns_names a.params ++ body_names a.body) (outside a (free_of a)))
                  (plain_reaches a (body_names a.body) (inner_uses a.body) (used_inside a.body)) (plain_scoped a (body_names a.body)) (subst (λ l. Every Good (A.body_arrows a.body l)) (i ∙ j) g)
