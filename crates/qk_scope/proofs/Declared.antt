-- Names that are declared one after another.
use Rattle.std.specs.Prelude.{◌≡◌, refl, ℕ, ◌+◌, ◌<◌, Bool, true, false, ◌||◌, not, List, [], ◌∷◌, ◌++◌, length, drop, Result, Ok, Err, OnOk}
use Rattle.std.proofs.Common.{sym, ◌∙◌, ap}
use Rattle.std.proofs.Math.ListN.{get_or}
use Rattle.std.proofs.lemmas.List.{append_assoc, append-nil, at_drop_more}
use Rattle.qk_ast.specs.declared.ScopeKind.{ScopeKind}
use Rattle.qk_ast.specs.declared.ScopeKind.TheVariants.{DuplicateName}
use Rattle.qk_ast.specs.Texts.{Text}
use Rattle.qk_ast.specs.Names.{is_listed}
use Rattle.qk_ast.specs.Framework.{is_taken}
use Rattle.qk_ast.specs.Naming.{breach_if}
use Rattle.qk_ast.specs.Walking.{with_name}
use Rattle.qk_ast.proofs.Bound.{listed_both}
use Rattle.qk_scope.specs.declared.fault.ScopeFault.{ScopeFault}
use Rattle.qk_scope.specs.Answering.{Answers, declared_breaches}

-- ---- one name

refused_alike : (l h t : Bool) (new : Bool) → new ≡ not h → ((l || not new) || t) ≡ ((l || h) || t)
refused_alike l true t new is = ap (λ n. (l || not n) || t) is
refused_alike l false t new is = ap (λ n. (l || not n) || t) is

pub refused_as : (name : Text) (ended here : List Text) (t new : Bool) → new ≡ not (is_listed name here) → ((is_listed name ended || not new) || t) ≡ (is_listed name (ended ++ here) || t)
refused_as name ended here t new is = refused_alike (is_listed name ended) (is_listed name here) t new is ∙ ap (λ l. l || t) (sym (listed_both name ended here))

free : (l h t : Bool) (kind : ScopeKind) (name : Text) → breach_if ((l || h) || t) kind name ≡ [] → h ≡ false
free l false t kind name e = refl
free true true t kind name e = cc
free false true t kind name e = cc

added : (name : Text) (ended here : List Text) (t : Bool) → breach_if (is_listed name (ended ++ here) || t) DuplicateName name ≡ [] → with_name here name ≡ here ++ name ∷ []
added name ended here t e = let f = free (is_listed name ended) (is_listed name here) t DuplicateName name (ap (λ l. breach_if (l || t) DuplicateName name) (sym (listed_both name ended here)) ∙ e) in
    ap (λ b. elim b [ true ↦ here | false ↦ here ++ name ∷ [] ]) f

pub added_if : (name : Text) (ended here : List Text) (t : Bool) (answer : Result (Unit {0}) ScopeFault) → Answers (breach_if (is_listed name (ended ++ here) || t) DuplicateName name) answer
    → OnOk answer (with_name here name ≡ here ++ name ∷ [])
unfolding Answers
added_if name ended here t (Ok done) h = added name ended here t h
added_if name ended here t (Err fault) h = tt

-- ---- names

pub declared_both : (earlier xs ys : List Text) → declared_breaches earlier (xs ++ ys) ≡ declared_breaches earlier xs ++ declared_breaches (earlier ++ xs) ys
declared_both earlier [] ys = ap (λ e. declared_breaches e ys) (sym (append-nil earlier))
declared_both earlier (x ∷ xs) ys = let b = breach_if (is_listed x earlier || is_taken x) DuplicateName x in
    ap (λ all. b ++ all) (declared_both (earlier ++ x ∷ []) xs ys ∙ ap (λ e. declared_breaches (earlier ++ x ∷ []) xs ++ declared_breaches e ys) (append_assoc earlier (x ∷ []) xs))
    ∙ sym (append_assoc b (declared_breaches (earlier ++ x ∷ []) xs) (declared_breaches (earlier ++ (x ∷ xs)) ys))

-- the names of one item and of those behind it
pub declared_next : {X : Type 0} (F : List X → List Text) (f : X → List Text) → ((x : X) (xs : List X) → F (x ∷ xs) ≡ f x ++ F xs)
    → (ended earlier : List Text) (xs : List X) (i : ℕ) (x : X) → i < length xs → x ≡ get_or xs i x
    → declared_breaches (ended ++ earlier) (f x) ++ declared_breaches (ended ++ (earlier ++ f x)) (F (drop (i + 1) xs)) ≡ declared_breaches (ended ++ earlier) (F (drop i xs))
declared_next F f parts ended earlier xs i x below here = ap (λ e. declared_breaches (ended ++ earlier) (f x) ++ declared_breaches e (F (drop (i + 1) xs))) (sym (append_assoc ended earlier (f x)))
    ∙ sym (declared_both (ended ++ earlier) (f x) (F (drop (i + 1) xs)))
    ∙ ap (declared_breaches (ended ++ earlier)) (sym (parts x (drop (i + 1) xs)) ∙ ap (λ y. F (y ∷ drop (i + 1) xs)) here ∙ sym (at_drop_more F xs i x below))

-- behind an item whose names break nothing
pub declared_on : {X : Type 0} (F : List X → List Text) (f : X → List Text) → ((x : X) (xs : List X) → F (x ∷ xs) ≡ f x ++ F xs)
    → (ended earlier new : List Text) (xs : List X) (i : ℕ) (x : X) → i < length xs → x ≡ get_or xs i x → new ≡ earlier ++ f x → declared_breaches (ended ++ earlier) (f x) ≡ []
    → declared_breaches (ended ++ new) (F (drop (i + 1) xs)) ≡ declared_breaches (ended ++ earlier) (F (drop i xs))
declared_on F f parts ended earlier new xs i x below here grown none = ap (λ e. declared_breaches (ended ++ e) (F (drop (i + 1) xs))) grown
    ∙ ap (λ front. front ++ declared_breaches (ended ++ (earlier ++ f x)) (F (drop (i + 1) xs))) (sym none)
    ∙ declared_next F f parts ended earlier xs i x below here

pub names_on : {X : Type 0} (F : List X → List Text) (f : X → List Text) → ((x : X) (xs : List X) → F (x ∷ xs) ≡ f x ++ F xs)
    → (earlier new : List Text) (xs : List X) (i : ℕ) (x : X) → i < length xs → x ≡ get_or xs i x → new ≡ earlier ++ f x → new ++ F (drop (i + 1) xs) ≡ earlier ++ F (drop i xs)
names_on F f parts earlier new xs i x below here grown = ap (λ e. e ++ F (drop (i + 1) xs)) grown ∙ append_assoc earlier (f x) (F (drop (i + 1) xs))
    ∙ ap (λ all. earlier ++ all) (sym (parts x (drop (i + 1) xs)) ∙ ap (λ y. F (y ∷ drop (i + 1) xs)) here ∙ sym (at_drop_more F xs i x below))
