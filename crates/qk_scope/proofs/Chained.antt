-- Mentions of items one after another, each with the names of those before it.
use Rattle.std.specs.Prelude.{◌≡◌, refl, ℕ, ◌+◌, ◌<◌, ◌≤◌, Bool, true, false, ◌||◌, not, List, [], ◌∷◌, ◌++◌, length, drop, Result, OnOk}
use Rattle.std.proofs.Common.{sym, ◌∙◌, ap, subst}
use Rattle.std.proofs.Math.ListN.{get_or}
use Rattle.std.proofs.lemmas.List.{append-nil, at_drop_more, at_drop_all}
use Rattle.qk_ast.specs.declared.ScopeKind.TheVariants.{DuplicateName}
use Rattle.qk_ast.specs.Texts.{Text}
use Rattle.qk_ast.specs.Names.{is_listed}
use Rattle.qk_ast.specs.Mentions.{Mention}
use Rattle.qk_ast.specs.Naming.{breach_if, naming_breaches}
use Rattle.qk_ast.specs.Walking.{with_name}
use Rattle.qk_scope.specs.declared.fault.ScopeFault.{ScopeFault}
use Rattle.qk_scope.specs.declared.rules.Rules.{Rules}
use Rattle.qk_scope.specs.Answering.{Answers, breaches}
use Rattle.qk_scope.proofs.Answered.{breaches_both}
use Rattle.qk_scope.proofs.Declared.{added_if}

-- ---- one mention

pub one_mention : (r : Rules) (m : Mention) → breaches r (m ∷ []) ≡ naming_breaches r.form r.file.now r.roots m
unfolding breaches
one_mention r m = append-nil (naming_breaches r.form r.file.now r.roots m)

pub no_mention : (r : Rules) → breaches r [] ≡ []
unfolding breaches
no_mention r = refl

either_side : (l x y : Bool) → ((l || x) || y) ≡ (l || (x || y))
either_side true x y = refl
either_side false x y = refl

twice : (l : Bool) → not (not l) ≡ l
twice true = refl
twice false = refl

pub refused_alike : (l x y new : Bool) → new ≡ not l → ((not new || x) || y) ≡ ((l || x) || y)
refused_alike l x y new is = ap (λ n. (not n || x) || y) is ∙ ap (λ b. (b || x) || y) (twice l)

-- a name that isn't refused is new
pub added_unless : (name : Text) (here : List Text) (x y : Bool) (answer : Result (Unit {0}) ScopeFault) → Answers (breach_if ((is_listed name here || x) || y) DuplicateName name) answer
    → OnOk answer (with_name here name ≡ here ++ name ∷ [])
added_unless name here x y answer h = added_if name [] here (x || y) answer (subst (λ b. Answers (breach_if b DuplicateName name) answer) (either_side (is_listed name here) x y) h)

-- ---- items

module _ {X : Type 0} (r : Rules) (all : List Text → List X → List Mention) (one : List Text → X → List Mention) (names : X → List Text)
    (parts : (earlier : List Text) (x : X) (xs : List X) → all earlier (x ∷ xs) ≡ one earlier x ++ all (earlier ++ names x) xs) where
  -- the mentions of one item, and of those behind it
  pub chained_next : (earlier : List Text) (xs : List X) (i : ℕ) (x : X) → i < length xs → x ≡ get_or xs i x
      → breaches r (one earlier x) ++ breaches r (all (earlier ++ names x) (drop (i + 1) xs)) ≡ breaches r (all earlier (drop i xs))
  chained_next earlier xs i x below here = sym (breaches_both r (one earlier x) (all (earlier ++ names x) (drop (i + 1) xs)))
      ∙ ap (breaches r) (sym (parts earlier x (drop (i + 1) xs)) ∙ ap (λ y. all earlier (y ∷ drop (i + 1) xs)) here ∙ sym (at_drop_more (all earlier) xs i x below))

  -- behind an item that breaks nothing
  pub chained_on : (earlier new : List Text) (xs : List X) (i : ℕ) (x : X) → i < length xs → x ≡ get_or xs i x → new ≡ earlier ++ names x → breaches r (one earlier x) ≡ []
      → breaches r (all new (drop (i + 1) xs)) ≡ breaches r (all earlier (drop i xs))
  chained_on earlier new xs i x below here grown none = ap (λ e. breaches r (all e (drop (i + 1) xs))) grown
      ∙ ap (λ front. front ++ breaches r (all (earlier ++ names x) (drop (i + 1) xs))) (sym none)
      ∙ chained_next earlier xs i x below here

  -- behind the last one
  pub chained_last : ((earlier : List Text) → all earlier [] ≡ []) → (earlier : List Text) (xs : List X) (i : ℕ) → length xs ≤ i → breaches r (all earlier (drop i xs)) ≡ []
  chained_last empty earlier xs i past = ap (breaches r) (at_drop_all (all earlier) xs i past ∙ empty earlier) ∙ no_mention r
