-- The walk over lists: the first item, and those behind it.
use Rattle.std.specs.Prelude.{◌≡◌, refl, ℕ, ◌+◌, ◌<◌, ◌≤◌, List, [], ◌∷◌, ◌++◌, length, drop, flat_map, Result, Ok, Err, OnOk}
use Rattle.std.proofs.Common.{sym, ◌∙◌, ap, subst, arith}
use Rattle.std.proofs.Math.ListN.{get_or}
use Rattle.std.proofs.lemmas.List.{at_drop_more, at_drop_all}
use Rattle.qk_ast.specs.declared.Link.{Link}
use Rattle.qk_ast.specs.declared.Stmt.{Stmt}
use Rattle.qk_ast.specs.Arrows.{Mark, Unmarked}
use Rattle.qk_ast.specs.Scopes.{Scope}
use Rattle.qk_ast.specs.Mentions.{Mention}
use Rattle.qk_ast.specs.Naming.{Naming_breach}
use Rattle.qk_locals.specs.Layers.{passed}
use Rattle.qk_scope.specs.declared.rules.Rules.{Rules}
use Rattle.qk_scope.specs.declared.keeper.Keeper.{Keeper}
use Rattle.qk_scope.specs.declared.fault.ScopeFault.{ScopeFault}
use Rattle.qk_scope.specs.Answering.{Answers, breaches, broken}
use Rattle.qk_scope.specs.Parts.{link_part, links_part, statement_part, statements_part}
use Rattle.qk_scope.proofs.Answered.{breaches_both, stopped, last_answers, none, none_broken, finished}

-- ---- one item, and those behind it

pub next : {X : Type 0} (r : Rules) (f : X → List Mention) (xs : List X) (i : ℕ) (x : X) → i < length xs → x ≡ get_or xs i x
    → breaches r (f x) ++ breaches r (flat_map f (drop (i + 1) xs)) ≡ breaches r (flat_map f (drop i xs))
next r f xs i x below here = sym (breaches_both r (f x) (flat_map f (drop (i + 1) xs)))
    ∙ ap (breaches r) (ap (λ y. flat_map f (y ∷ drop (i + 1) xs)) here ∙ sym (at_drop_more (flat_map f) xs i x below))

pub next_link : (r : Rules) (mark : Mark) (scopes : List Scope) (ls : List Link) (i : ℕ) (l : Link) → i < length ls → l ≡ get_or ls i l
    → breaches r (link_part mark scopes l) ++ breaches r (links_part Unmarked scopes (drop (i + 1) ls)) ≡ breaches r (links_part mark scopes (drop i ls))
next_link r mark scopes ls i l below here = sym (breaches_both r (link_part mark scopes l) (links_part Unmarked scopes (drop (i + 1) ls)))
    ∙ ap (breaches r) (ap (λ y. links_part mark scopes (y ∷ drop (i + 1) ls)) here ∙ sym (at_drop_more (links_part mark scopes) ls i l below))

opened : (scopes : List Scope) (s : Stmt) (ss : List Stmt) → 0 < length scopes → statement_part scopes s ++ statements_part (passed s scopes) ss ≡ statements_part scopes (s ∷ ss)
opened [] s ss inside = absurd (omega arith)
opened (scope ∷ outer) s ss inside = refl

pub next_statement : (r : Rules) (scopes : List Scope) (ss : List Stmt) (i : ℕ) (s : Stmt) → 0 < length scopes → i < length ss → s ≡ get_or ss i s
    → breaches r (statement_part scopes s) ++ breaches r (statements_part (passed s scopes) (drop (i + 1) ss)) ≡ breaches r (statements_part scopes (drop i ss))
next_statement r scopes ss i s inside below here = sym (breaches_both r (statement_part scopes s) (statements_part (passed s scopes) (drop (i + 1) ss)))
    ∙ ap (breaches r) (opened scopes s (drop (i + 1) ss) inside ∙ ap (λ y. statements_part scopes (y ∷ drop (i + 1) ss)) here ∙ sym (at_drop_more (statements_part scopes) ss i s below))

-- ---- behind an item that breaks nothing

pub behind_one : (xs ys all : List Naming_breach) → xs ++ ys ≡ all → xs ≡ [] → ys ≡ all
behind_one xs ys all parts none = ap (λ front. front ++ ys) (sym none) ∙ parts

-- ---- scopes

pub still_inside : (s : Stmt) (scopes : List Scope) → 0 < length scopes → 0 < length (passed s scopes)
still_inside s [] inside = inside
still_inside s (scope ∷ outer) inside = inside

pub same_outer : (s : Stmt) (scopes : List Scope) → drop 1 (passed s scopes) ≡ drop 1 scopes
same_outer s [] = refl
same_outer s (scope ∷ outer) = refl

-- out of a scope that was entered
pub left : (old : Keeper) (rules : Rules) (scopes : List Scope) → rules ≡ old.rules → scopes ≡ old.scopes → record { rules = rules; scopes = scopes } ≡ old
left old rules scopes same gone = λ i. record { rules = same i; scopes = gone i }

pub on_ok : {P Q : Type 0} (answer : Result (Unit {0}) ScopeFault) → (P → Q) → OnOk answer P → OnOk answer Q
on_ok (Ok done) f h = f h
on_ok (Err fault) f h = tt

-- ---- an answer for parts one after another

pub alike : {T : Type 0} (r : Rules) (all xs : List Mention) (answer : Result T ScopeFault) → all ≡ xs → Answers (breaches r xs) answer → Answers (breaches r all) answer
alike r all xs answer e h = subst (λ ms. Answers (breaches r ms) answer) (sym e) h

pub fails_first : {T : Type 0} (r : Rules) (all xs ys : List Mention) (answer : Result T ScopeFault) (fault : ScopeFault) → all ≡ xs ++ ys → answer ≡ Err fault
    → Answers {T = Unit {0}} (breaches r xs) (Err fault) → Answers (breaches r all) answer
fails_first r all xs ys answer fault e is h = alike r all (xs ++ ys) answer e (stopped (breaches r xs) (breaches r ys) (breaches r (xs ++ ys)) answer fault (sym (breaches_both r xs ys)) is h)

pub second : {T : Type 0} (r : Rules) (all xs ys : List Mention) (answer : Result T ScopeFault) → all ≡ xs ++ ys → Answers {T = Unit {0}} (breaches r xs) (Ok tt)
    → Answers (breaches r ys) answer → Answers (breaches r all) answer
second r all xs ys answer e first h = alike r all (xs ++ ys) answer e (last_answers r xs ys answer (none (breaches r xs) first) h)

pub fails_second : {T : Type 0} (r : Rules) (all xs ys zs : List Mention) (answer : Result T ScopeFault) (fault : ScopeFault) → all ≡ xs ++ (ys ++ zs) → answer ≡ Err fault
    → Answers {T = Unit {0}} (breaches r xs) (Ok tt) → Answers {T = Unit {0}} (breaches r ys) (Err fault) → Answers (breaches r all) answer
fails_second r all xs ys zs answer fault e is first h = second r all xs (ys ++ zs) answer e first (fails_first r (ys ++ zs) ys zs answer fault refl is h)

pub third : {T : Type 0} (r : Rules) (all xs ys zs : List Mention) (answer : Result T ScopeFault) → all ≡ xs ++ (ys ++ zs) → Answers {T = Unit {0}} (breaches r xs) (Ok tt)
    → Answers {T = Unit {0}} (breaches r ys) (Ok tt) → Answers (breaches r zs) answer → Answers (breaches r all) answer
third r all xs ys zs answer e first next h = second r all xs (ys ++ zs) answer e first (second r (ys ++ zs) ys zs answer refl next h)

-- where the walk stands as before
pub moved : {T : Type 0} (now old : Keeper) (part : List Scope → List Mention) (answer : Result T ScopeFault) → now ≡ old → Answers (broken now part) answer → Answers (broken old part) answer
moved now old part answer kept h = subst (λ k. Answers (broken k part) answer) kept h

-- ---- a loop that is over

pub over : {X : Type 0} (r : Rules) (F : List X → List Mention) (xs : List X) (i : ℕ) (all : List Naming_breach) → F [] ≡ [] → length xs ≤ i → breaches r (F (drop i xs)) ≡ all
    → Answers {T = Unit {0}} all (Ok tt)
over r F xs i all nothing past so_far = finished all (sym so_far ∙ ap (breaches r) (at_drop_all F xs i past ∙ nothing) ∙ none (breaches r []) (none_broken r))
