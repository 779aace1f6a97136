-- Which names are in scope: the lists of the walk and of the definitions list the same names.
use Rattle.std.specs.Prelude.{◌≡◌, refl, ℕ, ◌+◌, ◌<◌, Bool, true, false, not, ◌||◌, ◌&&◌, List, [], ◌∷◌, ◌++◌, length, take, drop}
use Rattle.std.proofs.Common.{sym, ◌∙◌, ap, true≢false}
use Rattle.std.proofs.lemmas.List.{at_drop_more}
use Rattle.std.proofs.lemmas.Cmp.{nat_list_eq_equiv}
use Rattle.std.proofs.Math.ListN.{get_or}
use Rattle.std.specs.Cmp.Lexicographic.{same_text as told_same}
use denote.Hole.Carrier.{hidden as hidden_in}
use Rattle.qk_ast.specs.declared.Body.TheBlock.{shape-the_row-Arrow-6, hidden-the_row-Arrow-6}
use Rattle.qk_ast.specs.declared.Arrow.{Arrow}
use Rattle.qk_ast.specs.declared.Expr.TheVariants as e
use Rattle.qk_ast.specs.declared.Expr.{Expr, more_of-Arrow}
use Rattle.qk_ast.specs.declared.Pattern.{Pattern}
use Rattle.qk_node.specs.Nodes.{Node, Value, Block, For_block}
use Rattle.qk_node.specs.Found.{scope_inside}
use Rattle.qk_ast.specs.Texts.{Text, same_text}
use Rattle.qk_ast.specs.Names.{is_listed, around, others_than, those_of, patterns_names, body_names}
use Rattle.qk_ast.specs.Arrows as arrows
use Rattle.qk_ast.specs.Walking.{with_name, with_names, names_declared}
use Rattle.qk_ast.proofs.Bound.{listed_inside, outer_kept}
use Rattle.qk_captures.specs.declared.scope.Scope.{Scope}
use Rattle.qk_captures.specs.Scoping.{track, shown, in_scope, with_one, with_all, inside_arrow, entered, outside_of, back_to}

-- two lists list the same names
pub Same : List Text → List Text → Type 0
Same s t = (q : Text) → is_listed q s ≡ is_listed q t

-- ---- what is listed

sooner : (m a b : Bool) → (a || elim m [ true ↦ true | false ↦ b ]) ≡ (elim m [ true ↦ true | false ↦ a ] || b)
sooner true true b = refl
sooner true false b = refl
sooner false a b = refl

listed_around : (q : Text) (names outer : List Text) → is_listed q (around names outer) ≡ (is_listed q names || is_listed q outer)
listed_around q [] outer = refl
listed_around q (n ∷ rest) outer = listed_around q rest (n ∷ outer) ∙ sooner (same_text n q) (is_listed q rest) (is_listed q outer)

passed : (l m p n o : Bool) → (m ≡ true → l ≡ n) → o ≡ (p && not n)
    → elim l [ true ↦ o | false ↦ elim m [ true ↦ true | false ↦ o ] ] ≡ (elim m [ true ↦ true | false ↦ p ] && not n)
passed true true true true o k h = h
passed true true false true o k h = h
passed true true p false o k h = absurd (true≢false (k refl))
passed true false p n o k h = h
passed false true p true o k h = absurd (true≢false (sym (k refl)))
passed false true p false o k h = refl
passed false false p n o k h = h

listed_others : (q : Text) (names xs : List Text) → is_listed q (others_than names xs) ≡ (is_listed q xs && not (is_listed q names))
listed_others q names [] = refl
listed_others q names (x ∷ xs) = within (is_listed x names)
    ∙ passed (is_listed x names) (same_text x q) (is_listed q xs) (is_listed q names) (is_listed q (others_than names xs)) (λ e. ap (λ t. is_listed t names) (told_same x q (sym e))) (listed_others q names xs)
  where
    within : (l : Bool) → is_listed q (elim l [ true ↦ others_than names xs | false ↦ x ∷ others_than names xs ])
        ≡ elim l [ true ↦ is_listed q (others_than names xs) | false ↦ elim (same_text x q) [ true ↦ true | false ↦ is_listed q (others_than names xs) ] ]
    within true = refl
    within false = refl

-- ---- lists that list the same names

pub same_around : (names s t : List Text) → Same s t → Same (around names s) (around names t)
unfolding Same
same_around names s t h q = listed_around q names s ∙ ap (λ b. is_listed q names || b) (h q) ∙ sym (listed_around q names t)

pub same_others : (names s t : List Text) → Same s t → Same (others_than names s) (others_than names t)
unfolding Same
same_others names s t h q = listed_others q names s ∙ ap (λ b. b && not (is_listed q names)) (h q) ∙ sym (listed_others q names t)

pub same_front : (name : Text) (s t : List Text) → Same s t → Same (name ∷ s) (name ∷ t)
unfolding Same
same_front name s t h q = ap (λ b. elim (same_text name q) [ true ↦ true | false ↦ b ]) (h q)

pub same_inside : (mark : arrows.Mark) (params : List Pattern) (s t : List Text) → Same s t → Same (arrows.inner_scope mark params s) (arrows.inner_scope mark params t)
same_inside arrows.Unmarked params s t h = same_around (patterns_names params) s t h
same_inside arrows.Marked params s t h = same_around (patterns_names params) s t h
same_inside arrows.Tasked [] s t h = same_around [] s t h
same_inside arrows.Tasked (p ∷ rest) s t h = same_others (track ∷ []) s t h

pub same_those : (xs s t : List Text) → Same s t → those_of s xs ≡ those_of t xs
unfolding Same
same_those [] s t h = refl
same_those (x ∷ xs) s t h = ap (λ b. elim b [ true ↦ x ∷ those_of s xs | false ↦ those_of s xs ]) (h x)
    ∙ ap (λ rest. elim (is_listed x t) [ true ↦ x ∷ rest | false ↦ rest ]) (same_those xs s t h)

-- ---- the scope of the walk

hidden : (m l : Bool) → (l && not (elim m [ true ↦ true | false ↦ false ])) ≡ elim m [ true ↦ false | false ↦ l ]
hidden true true = refl
hidden true false = refl
hidden false true = refl
hidden false false = refl

pub listed_shown : (q : Text) (b : Bool) (names : List Text) → is_listed q (shown b names) ≡ elim (same_text track q) [ true ↦ b | false ↦ is_listed q names ]
listed_shown q true names = refl
listed_shown q false names = listed_others q (track ∷ []) names ∙ hidden (same_text track q) (is_listed q names)

-- of a name with one more in scope: whether it is `track`, whether it is the new one, whether the new one is `track`
shown_next : (is_track is_new new_track b l : Bool) → (is_track ≡ true → is_new ≡ new_track)
    → ◌≡◌ {A = Bool} (elim is_track [ true ↦ b || new_track | false ↦ elim is_new [ true ↦ true | false ↦ false ] || l ])
    (elim is_new [ true ↦ true | false ↦ elim is_track [ true ↦ b | false ↦ l ] ])
shown_next true true true true l k = refl
shown_next true true true false l k = refl
shown_next true true false b l k = absurd (true≢false (k refl))
shown_next true false true b l k = absurd (true≢false (sym (k refl)))
shown_next true false false true l k = refl
shown_next true false false false l k = refl
shown_next false true n b l k = refl
shown_next false false n b l k = refl

in_scope_next : (name : Text) (s : Scope) → Same (in_scope (with_one name s)) (name ∷ in_scope s)
unfolding Same
in_scope_next name s q = listed_shown q (s.track || same_text name track) (with_name s.names name)
    ∙ ap (λ b. elim (same_text track q) [ true ↦ s.track || same_text name track | false ↦ b ]) (listed_inside q s.names (name ∷ []))
    ∙ shown_next (same_text track q) (same_text name q) (same_text name track) s.track (is_listed q s.names) (λ e. ap (same_text name) (sym (told_same track q (sym e))))
    ∙ ap (λ b. elim (same_text name q) [ true ↦ true | false ↦ b ]) (sym (listed_shown q s.track s.names))

same_both : (s t u : List Text) → Same s t → Same t u → Same s u
unfolding Same
same_both s t u h k q = h q ∙ k q

pub in_scope_all : (names : List Text) (s : Scope) → Same (in_scope (with_all names s)) (around names (in_scope s))
unfolding Same with_all
in_scope_all [] s q = refl
in_scope_all (name ∷ rest) s q = same_both (in_scope (with_all rest (with_one name s))) (around rest (in_scope (with_one name s))) (around rest (name ∷ in_scope s))
    (in_scope_all rest (with_one name s)) (same_around rest (in_scope (with_one name s)) (name ∷ in_scope s) (in_scope_next name s)) q

without_track : (m b l : Bool) → elim m [ true ↦ false | false ↦ l ] ≡ (elim m [ true ↦ b | false ↦ l ] && not (elim m [ true ↦ true | false ↦ false ]))
without_track true true l = refl
without_track true false l = refl
without_track false b true = refl
without_track false b false = refl

in_task : (s : Scope) → Same (others_than (track ∷ []) s.names) (others_than (track ∷ []) (in_scope s))
unfolding Same
in_task s q = listed_shown q false s.names ∙ without_track (same_text track q) s.track (is_listed q s.names)
    ∙ ap (λ b. b && not (is_listed q (track ∷ []))) (sym (listed_shown q s.track s.names)) ∙ sym (listed_others q (track ∷ []) (in_scope s))

pub in_scope_inside : (mark : arrows.Mark) (params : List Pattern) (s : Scope) → Same (in_scope (inside_arrow mark params s)) (arrows.inner_scope mark params (in_scope s))
in_scope_inside arrows.Unmarked params s = in_scope_all (patterns_names params) s
in_scope_inside arrows.Marked params s = in_scope_all (patterns_names params) s
in_scope_inside arrows.Tasked [] s = in_scope_all [] s
in_scope_inside arrows.Tasked (p ∷ rest) s = in_task s

-- whether a name is in scope, by whether it is `track`
pub has_track : (q : Text) (s : Scope) → same_text q track ≡ true → s.track ≡ is_listed q (in_scope s)
has_track q s h = sym (listed_shown q s.track s.names ∙ ap (λ b. elim b [ true ↦ s.track | false ↦ is_listed q s.names ]) (nat_list_eq_equiv.symm track q ∙ h))

pub has_other : (q : Text) (s : Scope) → same_text q track ≡ false → is_listed q s.names ≡ is_listed q (in_scope s)
has_other q s h = sym (listed_shown q s.track s.names ∙ ap (λ b. elim b [ true ↦ s.track | false ↦ is_listed q s.names ]) (nat_list_eq_equiv.symm track q ∙ h))

or_none : (b : Bool) → (b || false) ≡ b
or_none true = refl
or_none false = refl

-- names that have nothing around them, in either order
pub same_alone : (names : List Text) → Same (around names []) names
unfolding Same
same_alone names q = listed_around q names [] ∙ or_none (is_listed q names)

-- ---- back in the outer scope

names_all : (names : List Text) (s : Scope) → (with_all names s).names ≡ with_names s.names names
unfolding with_all
names_all [] s = refl
names_all (name ∷ rest) s = names_all rest (with_one name s)

pub back_from_all : (names : List Text) (s : Scope) → back_to (outside_of s) (with_all names s) ≡ s
back_from_all names s = λ j. record { names = (ap (take (length s.names)) (names_all names s) ∙ outer_kept s.names names) j; track = s.track }

pub back_from_arrow : (mark : arrows.Mark) (params : List Pattern) (s : Scope) → back_to (outside_of s) (inside_arrow mark params s) ≡ s
back_from_arrow arrows.Unmarked params s = back_from_all (patterns_names params) s
back_from_arrow arrows.Marked params s = back_from_all (patterns_names params) s
back_from_arrow arrows.Tasked [] s = back_from_all [] s
back_from_arrow arrows.Tasked (p ∷ rest) s = λ j. record { names = outer_kept s.names [] j; track = s.track }

-- ---- a node of the tree

pub with_both : (xs ys : List Text) (s : Scope) → with_all (xs ++ ys) s ≡ with_all ys (with_all xs s)
unfolding with_all
with_both [] ys s = refl
with_both (x ∷ xs) ys s = with_both xs ys (with_one x s)

same_all : (s : List Text) → Same s s
unfolding Same
same_all s q = refl

pub same_scope : (n : Node) (s t : List Text) → Same s t → Same (scope_inside n s) (scope_inside n t)
same_scope (Value (Expr.Arrow' _ (more_of-Arrow place params body _)) mark) s t h =
    same_around (body_names body) (arrows.inner_scope mark params s) (arrows.inner_scope mark params t) (same_inside mark params s t h)
same_scope (Block ss) s t h = same_around (names_declared ss) s t h
same_scope (For_block name ss) s t h = same_around (names_declared ss) (name ∷ s) (name ∷ t) (same_front name s t h)
same_scope _ s t h = h

pub in_scope_entered : (n : Node) (s : Scope) → Same (in_scope (entered n s)) (scope_inside n (in_scope s))
in_scope_entered (Value (Expr.Arrow' _ (more_of-Arrow place params body _)) mark) s =
    let inner = inside_arrow mark params s in
    same_both (in_scope (with_all (body_names body) inner)) (around (body_names body) (in_scope inner)) (around (body_names body) (arrows.inner_scope mark params (in_scope s)))
    (in_scope_all (body_names body) inner) (same_around (body_names body) (in_scope inner) (arrows.inner_scope mark params (in_scope s)) (in_scope_inside mark params s))
in_scope_entered (Block ss) s = in_scope_all (names_declared ss) s
in_scope_entered (For_block name ss) s = same_both (in_scope (with_all (names_declared ss) (with_one name s))) (around (names_declared ss) (in_scope (with_one name s))) (around (names_declared ss) (name ∷ in_scope s))
    (in_scope_all (names_declared ss) (with_one name s)) (same_around (names_declared ss) (in_scope (with_one name s)) (name ∷ in_scope s) (in_scope_next name s))
in_scope_entered _ s = same_all (in_scope s)

-- back from an arrow's parameters and the names of its body
back_from_function : (mark : arrows.Mark) (params : List Pattern) (names : List Text) (s : Scope) → back_to (outside_of s) (with_all names (inside_arrow mark params s)) ≡ s
unfolding with_all
back_from_function arrows.Unmarked params names s = ap (back_to (outside_of s)) (sym (with_both (patterns_names params) names s)) ∙ back_from_all (patterns_names params ++ names) s
back_from_function arrows.Marked params names s = ap (back_to (outside_of s)) (sym (with_both (patterns_names params) names s)) ∙ back_from_all (patterns_names params ++ names) s
back_from_function arrows.Tasked [] names s = back_from_all names s
back_from_function arrows.Tasked (p ∷ rest) names s = λ j. record { names = (ap (take (length s.names)) (names_all names (record { names = s.names; track = false })) ∙ outer_kept s.names names) j; track = s.track }

pub back_from_entered : (n : Node) (s : Scope) → back_to (outside_of s) (entered n s) ≡ s
unfolding with_all
back_from_entered (Value (Expr.Arrow' _ (more_of-Arrow place params body _)) mark) s = back_from_function mark params (body_names body) s
back_from_entered (Block ss) s = back_from_all (names_declared ss) s
back_from_entered (For_block name ss) s = back_from_all (name ∷ names_declared ss) s
back_from_entered _ s = back_from_all [] s

-- with the names of one item more
pub scope_next : {X : Type 0} (F : List X → List Text) (f : X → List Text) → ((x : X) (xs : List X) → F (x ∷ xs) ≡ f x ++ F xs)
    → (s : Scope) (xs : List X) (i : ℕ) (x : X) → i < length xs → x ≡ get_or xs i x → with_all (F (drop (i + 1) xs)) (with_all (f x) s) ≡ with_all (F (drop i xs)) s
scope_next F f parts s xs i x below here = sym (with_both (f x) (F (drop (i + 1) xs)) s)
    ∙ ap (λ names. with_all names s) (sym (parts x (drop (i + 1) xs)) ∙ ap (λ y. F (y ∷ drop (i + 1) xs)) here ∙ sym (at_drop_more F xs i x below))

-- of the names so far that are in scope, with those of one name more
pub those_next : (s : List Text) (xs : List Text) (i : ℕ) (x : Text) → i < length xs → x ≡ get_or xs i x → those_of s (x ∷ []) ++ those_of s (drop (i + 1) xs) ≡ those_of s (drop i xs)
those_next s xs i x below here = within (is_listed x s) ∙ ap (λ y. those_of s (y ∷ drop (i + 1) xs)) here ∙ sym (at_drop_more (those_of s) xs i x below)
  where
    within : (b : Bool) → elim b [ true ↦ x ∷ [] | false ↦ [] ] ++ those_of s (drop (i + 1) xs) ≡ elim b [ true ↦ x ∷ those_of s (drop (i + 1) xs) | false ↦ those_of s (drop (i + 1) xs) ]
    within true = refl
    within false = refl

pub entered_arrow : (a : Arrow) (mark : arrows.Mark) (s : Scope) → entered (Value (e.Arrow a) mark) s ≡ with_all (body_names a.body) (inside_arrow mark a.params s)
unfolding shape-the_row-Arrow-6 hidden-the_row-Arrow-6 hidden_in
entered_arrow a mark s = refl
