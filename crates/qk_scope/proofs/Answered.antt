-- What is answered of parts one after another.
use Rattle.std.specs.Prelude.{◌≡◌, refl, Bool, true, false, ◌||◌, not, List, [], ◌∷◌, ◌++◌, Some, None, Result, Ok, Err}
use Rattle.std.proofs.Common.{sym, ◌∙◌, ap, subst}
use Rattle.std.proofs.lemmas.List.{append_assoc, append-nil}
use Rattle.qk_ast.specs.declared.ScopeKind.{ScopeKind}
use Rattle.qk_ast.specs.declared.ScopeKind.TheVariants.{DuplicateName}
use Rattle.qk_ast.specs.Texts.{Text}
use Rattle.qk_ast.specs.Names.{is_listed}
use Rattle.qk_ast.specs.Framework.{is_taken}
use Rattle.qk_ast.specs.Mentions.{Mention, Declares, declared_after}
use Rattle.qk_ast.specs.Naming.{Naming_breach, breach_if, naming_breaches}
use Rattle.qk_scope.specs.declared.fault.ScopeFault.{ScopeFault}
use Rattle.qk_scope.specs.declared.rules.Rules.{Rules}
use Rattle.qk_scope.specs.Answering.{Blames, Faults, Answers, breaches, declared_breaches, first_of, breach_by}

pub faults_first : (xs ys : List Naming_breach) (fault : ScopeFault) → Faults xs fault → Faults (xs ++ ys) fault
unfolding Faults
faults_first xs ys (ScopeFault.Refused kind name) (rest, e) = (rest ++ ys, ap (λ all. all ++ ys) e)
faults_first xs ys ScopeFault.Memory h = tt

pub answers_last : {T : Type 0} (xs ys : List Naming_breach) (answer : Result T ScopeFault) → xs ≡ [] → Answers ys answer → Answers (xs ++ ys) answer
answers_last xs ys answer none h = subst (λ front. Answers (front ++ ys) answer) (sym none) h

pub blamed : (kind : ScopeKind) (name : Text) (rest : List Naming_breach) (fault : ScopeFault) → Blames kind name fault → Faults (record { kind = kind; name = name } ∷ rest) fault
unfolding Blames Faults
blamed kind name rest (ScopeFault.Refused k n) (a, b) = (rest, λ i. record { kind = sym a i; name = sym b i } ∷ rest)
blamed kind name rest ScopeFault.Memory h = tt

-- ---- a use

pub passes : (xs : List Naming_breach) → first_of xs ≡ None → xs ≡ []
passes [] h = refl
passes (x ∷ xs) h = cc

pub fails : (xs : List Naming_breach) (name : Text) (kind : ScopeKind) (fault : ScopeFault) → first_of xs ≡ breach_by name (Some kind) → Blames kind name fault → Faults xs fault
fails [] name kind fault h blame = cc
fails (x ∷ xs) name kind fault h blame = subst (λ y. Faults (y ∷ xs) fault) (cc) (blamed kind name xs fault blame)

-- ---- mentions

pub breaches_both : (r : Rules) (xs ys : List Mention) → breaches r (xs ++ ys) ≡ breaches r xs ++ breaches r ys
unfolding breaches
breaches_both r [] ys = refl
breaches_both r (x ∷ xs) ys = let f = naming_breaches r.form r.file.now r.roots in
    ap (λ all. f x ++ all) (breaches_both r xs ys) ∙ sym (append_assoc (f x) (breaches r xs) (breaches r ys))

pub breaches_declared : (r : Rules) (earlier names : List Text) → breaches r (declared_after earlier names) ≡ declared_breaches earlier names
unfolding breaches
breaches_declared r earlier [] = refl
breaches_declared r earlier (name ∷ rest) = ap (λ all. breach_if (is_listed name earlier || is_taken name) DuplicateName name ++ all) (breaches_declared r (earlier ++ name ∷ []) rest)

pub first_faults : (r : Rules) (xs ys : List Mention) (fault : ScopeFault) → Faults (breaches r xs) fault → Faults (breaches r (xs ++ ys)) fault
first_faults r xs ys fault h = subst (λ all. Faults all fault) (sym (breaches_both r xs ys)) (faults_first (breaches r xs) (breaches r ys) fault h)

pub last_answers : {T : Type 0} (r : Rules) (xs ys : List Mention) (answer : Result T ScopeFault) → breaches r xs ≡ [] → Answers (breaches r ys) answer → Answers (breaches r (xs ++ ys)) answer
last_answers r xs ys answer none h = subst (λ all. Answers all answer) (sym (breaches_both r xs ys)) (answers_last (breaches r xs) (breaches r ys) answer none h)

-- ---- the answer so far

-- a part that is refused
pub stopped : {T : Type 0} (xs ys all : List Naming_breach) (answer : Result T ScopeFault) (fault : ScopeFault) → xs ++ ys ≡ all → answer ≡ Err fault → Answers {T = Unit {0}} xs (Err fault) → Answers all answer
unfolding Answers
stopped xs ys all answer fault parts is h = subst (λ a. Answers all a) (sym is) (subst (λ front. Faults front fault) parts (faults_first xs ys fault h))

pub stopped_here : {T : Type 0} (xs : List Naming_breach) (answer : Result T ScopeFault) (fault : ScopeFault) → answer ≡ Err fault → Answers {T = Unit {0}} xs (Err fault) → Answers xs answer
unfolding Answers
stopped_here xs answer fault is h = subst (λ a. Answers xs a) (sym is) h

pub wanted : {T : Type 0} (xs : List Naming_breach) (answer : Result T ScopeFault) → answer ≡ Err ScopeFault.Memory → Answers xs answer
unfolding Answers Faults
wanted xs answer is = subst (λ a. Answers xs a) (sym is) tt

pub none : (xs : List Naming_breach) → Answers {T = Unit {0}} xs (Ok tt) → xs ≡ []
unfolding Answers
none xs h = h

pub finished : (xs : List Naming_breach) → xs ≡ [] → Answers {T = Unit {0}} xs (Ok tt)
unfolding Answers
finished xs h = h

-- ---- one mention

pub none_broken : (r : Rules) → Answers {T = Unit {0}} (breaches r []) (Ok tt)
unfolding Answers breaches
none_broken r = refl

pub use_fails : (r : Rules) (m : Mention) (name : Text) (kind : ScopeKind) (fault : ScopeFault) → first_of (naming_breaches r.form r.file.now r.roots m) ≡ breach_by name (Some kind)
    → Blames kind name fault → Answers {T = Unit {0}} (breaches r (m ∷ [])) (Err fault)
unfolding Answers breaches
use_fails r m name kind fault first blame = let all = naming_breaches r.form r.file.now r.roots m in subst (λ xs. Faults xs fault) (sym (append-nil all)) (fails all name kind fault first blame)

pub use_passes : (r : Rules) (m : Mention) (name : Text) → first_of (naming_breaches r.form r.file.now r.roots m) ≡ breach_by name None → Answers {T = Unit {0}} (breaches r (m ∷ [])) (Ok tt)
unfolding Answers breaches
use_passes r m name first = let all = naming_breaches r.form r.file.now r.roots m in append-nil all ∙ passes all first

-- ---- one declaration

pub one_declared : (r : Rules) (name : Text) (earlier : List Text) (refused : Bool) (answer : Result (Unit {0}) ScopeFault) → refused ≡ (is_listed name earlier || is_taken name)
    → Answers (breach_if refused DuplicateName name) answer → Answers (breaches r (Declares name earlier ∷ [])) answer
one_declared r name earlier refused answer is h = let b = breach_if (is_listed name earlier || is_taken name) DuplicateName name in
    subst (λ xs. Answers xs answer) (ap (λ b. breach_if b DuplicateName name) is ∙ sym (append-nil b) ∙ sym (breaches_declared r earlier (name ∷ []))) h

pub new_alike : (l t : Bool) → ((l || not true) || t) ≡ (l || t)
new_alike true t = refl
new_alike false t = refl
