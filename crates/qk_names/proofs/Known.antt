-- What an unbroken use says of its name, by the scopes around it.
use Rattle.std.proofs.Common.{◌≡◌, refl, sym, ◌∙◌, ap, subst}
use Rattle.std.proofs.lemmas.Bool.{false≢true}
use Rattle.std.specs.Prelude.{Bool, true, false, not, ◌||◌, List, [], ◌∷◌, Option, Some, None, codes}
use Rattle.qk_ast.specs.declared.Form.{Form}
use Rattle.qk_ast.specs.declared.Tag.{Tag}
use Rattle.qk_ast.specs.declared.ScopeKind.TheVariants.{UnknownName, EarlyUse}
use Rattle.qk_ast.specs.declared.RuleKind.TheVariants.{NotComponent, TagRefused}
use Rattle.qk_ast.specs.Texts.{Text, same_text}
use Rattle.qk_ast.specs.Names.{is_listed}
use Rattle.qk_ast.specs.Framework.{is_fixed}
use Rattle.qk_ast.specs.Scopes.{Kind, Constant, Variable, Tracker, Scope, Local, kind_in, meaning_from, meaning, is_local}
use Rattle.qk_ast.specs.Mentions.{Uses}
use Rattle.qk_ast.specs.Naming.{Naming_breach, breach_if, local_breaches, root_breaches, naming_breaches}
use Rattle.qk_ast.specs.Spots.{Named, Tagged, Called, Standing}
use Rattle.qk_ast.specs.Placing.{Root_kind, Placing_breach, refuse_if, local_use_breaches, root_use_breaches, capital_breaches, placing_breaches}
use Rattle.qk_names.proofs.Bits.{text_is}
use Rattle.qk_names.proofs.Each.{no_item, empty_behind}
use Rattle.qk_names.proofs.Untaken.{Clean, no_local}

-- what the innermost scope that declares it says, or else this
abbrev pub if_kind : {X : Type 0} → Option Kind → (Kind → X) → X → X
if_kind kind some none = elim kind [ Some k ↦ some k | None ↦ none ]

-- its declaration has ended, or it is a name of the root
abbrev pub seen : List Text → Text → List Scope → Bool
seen roots t [] = is_listed t roots
seen roots t (scope ∷ outer) = if_kind (kind_in t scope.declared) (λ k. is_listed t scope.ended) (seen roots t outer)

abbrev pub is_tracker : Kind → Bool
is_tracker Tracker = true
is_tracker _ = false

-- it isn't the `track` of a task
abbrev pub untracked : Text → List Scope → Bool
untracked t [] = true
untracked t (scope ∷ outer) = if_kind (kind_in t scope.declared) (λ k. not (is_tracker k)) (untracked t outer)

-- it isn't the `track` of a task around an arrow around it
abbrev pub tame : Text → List Scope → Bool
tame t [] = true
tame t (scope ∷ outer) = if_kind (kind_in t scope.declared) (λ k. true) (elim scope.of_arrow [ true ↦ untracked t outer | false ↦ tame t outer ])

pub untracked_tame : (t : Text) (scopes : List Scope) → untracked t scopes ≡ true → tame t scopes ≡ true
untracked_tame t [] h = refl
untracked_tame t (scope ∷ outer) h = by (kind_in t scope.declared) scope.of_arrow h (untracked_tame t outer)
  where
    by : (kind : Option Kind) (b : Bool) → if_kind kind (λ k. not (is_tracker k)) (untracked t outer) ≡ true → (untracked t outer ≡ true → tame t outer ≡ true)
        → if_kind kind (λ k. true) (elim b [ true ↦ untracked t outer | false ↦ tame t outer ]) ≡ true
    by (Some k) b h f = refl
    by None true h f = h
    by None false h f = f h

abbrev either_of : {X : Type 0} → Bool → X → X → X
either_of b x y = elim b [ true ↦ x | false ↦ y ]

-- ---- mentions

abbrev judgement : Text → Bool → List Text → Option Local → List Naming_breach
judgement name assigned roots local = elim local [ Some l ↦ local_breaches name assigned l | None ↦ root_breaches name assigned (is_listed name roots) ]

root_known : (name : Text) (assigned b : Bool) → root_breaches name assigned b ≡ [] → b ≡ true
root_known name assigned true e = refl
root_known name assigned false e = no_item e

not_early : (b : Bool) (name : Text) → breach_if (not b) EarlyUse name ≡ [] → b ≡ true
not_early true name e = refl
not_early false name e = no_item e

local_ended : (name : Text) (assigned : Bool) (local : Local) → local_breaches name assigned local ≡ [] → local.ended ≡ true
local_ended name assigned local e = not_early local.ended name (empty_behind _ _ (empty_behind _ _ e))

judged : (name : Text) (assigned : Bool) (roots : List Text) (scopes : List Scope) (inside : Bool) → judgement name assigned roots (meaning_from inside name scopes) ≡ [] → seen roots name scopes ≡ true
judged name assigned roots [] inside e = root_known name assigned (is_listed name roots) e
judged name assigned roots (scope ∷ outer) inside e = by (kind_in name scope.declared) e (judged name assigned roots outer (inside || scope.of_arrow))
  where
    by : (kind : Option Kind)
        → judgement name assigned roots (elim kind [ Some k ↦ Some (record { kind = k; in_arrow = inside; ended = is_listed name scope.ended }) | None ↦ meaning_from (inside || scope.of_arrow) name outer ]) ≡ []
        → (judgement name assigned roots (meaning_from (inside || scope.of_arrow) name outer) ≡ [] → seen roots name outer ≡ true)
        → if_kind kind (λ k. is_listed name scope.ended) (seen roots name outer) ≡ true
    by (Some k) e f = local_ended name assigned (record { kind = k; in_arrow = inside; ended = is_listed name scope.ended }) e
    by None e f = f e

pub use_seen : (form : Form) (file : Text) (roots : List Text) (name : Text) (assigned : Bool) (scopes : List Scope) → naming_breaches form file roots (Uses name assigned scopes) ≡ [] → seen roots name scopes ≡ true
use_seen form file roots name assigned scopes e = by (is_fixed name) e
  where
    by : (b : Bool) → either_of b (breach_if true UnknownName name) (judgement name assigned roots (meaning name scopes)) ≡ [] → seen roots name scopes ≡ true
    by true e = no_item e
    by false e = judged name assigned roots scopes false e

-- ---- spots

abbrev placed : Text → Called → List Placing_breach → Option Local → List Placing_breach
placed name call others local = elim local [ Some l ↦ local_use_breaches name call l | None ↦ others ]

no_tracker : (name : Text) (call : Called) (k : Kind) (ended : Bool) → local_use_breaches name call (record { kind = k; in_arrow = true; ended = ended }) ≡ [] → not (is_tracker k) ≡ true
no_tracker name call Constant ended e = refl
no_tracker name call Variable ended e = refl
no_tracker name call Tracker ended e = no_item e

placed_untracked : (name : Text) (call : Called) (others : List Placing_breach) (scopes : List Scope) → placed name call others (meaning_from true name scopes) ≡ [] → untracked name scopes ≡ true
placed_untracked name call others [] e = refl
placed_untracked name call others (scope ∷ outer) e = by (kind_in name scope.declared) e (placed_untracked name call others outer)
  where
    by : (kind : Option Kind)
        → placed name call others (elim kind [ Some k ↦ Some (record { kind = k; in_arrow = true; ended = is_listed name scope.ended }) | None ↦ meaning_from true name outer ]) ≡ []
        → (placed name call others (meaning_from true name outer) ≡ [] → untracked name outer ≡ true)
        → if_kind kind (λ k. not (is_tracker k)) (untracked name outer) ≡ true
    by (Some k) e f = no_tracker name call k (is_listed name scope.ended) e
    by None e f = f e

placed_tame : (name : Text) (call : Called) (others : List Placing_breach) (scopes : List Scope) → placed name call others (meaning_from false name scopes) ≡ [] → tame name scopes ≡ true
placed_tame name call others [] e = refl
placed_tame name call others (scope ∷ outer) e = by (kind_in name scope.declared) scope.of_arrow e (placed_tame name call others outer)
  where
    by : (kind : Option Kind) (b : Bool)
        → placed name call others (elim kind [ Some k ↦ Some (record { kind = k; in_arrow = false; ended = is_listed name scope.ended }) | None ↦ meaning_from b name outer ]) ≡ []
        → (placed name call others (meaning_from false name outer) ≡ [] → tame name outer ≡ true)
        → if_kind kind (λ k. true) (elim b [ true ↦ untracked name outer | false ↦ tame name outer ]) ≡ true
    by (Some k) b e f = refl
    by None true e f = placed_untracked name call others outer e
    by None false e f = f e

pub name_tame : (file : Text) (kinds : Text → Root_kind) (name : Text) (call : Called) (standing : Standing) (scopes : List Scope) → placing_breaches file kinds (Named name call standing scopes) ≡ [] → tame name scopes ≡ true
name_tame file kinds name call standing scopes e = placed_tame name call (root_use_breaches kinds name call standing scopes) scopes e

abbrev is_found : Option Local → Bool
is_found local = elim local [ Some l ↦ true | None ↦ false ]

nowhere_untracked : (name : Text) (scopes : List Scope) (inside : Bool) → is_found (meaning_from inside name scopes) ≡ false → untracked name scopes ≡ true
nowhere_untracked name [] inside e = refl
nowhere_untracked name (scope ∷ outer) inside e = by (kind_in name scope.declared) e (nowhere_untracked name outer (inside || scope.of_arrow))
  where
    by : (kind : Option Kind)
        → is_found (elim kind [ Some k ↦ Some (record { kind = k; in_arrow = inside; ended = is_listed name scope.ended }) | None ↦ meaning_from (inside || scope.of_arrow) name outer ]) ≡ false
        → (is_found (meaning_from (inside || scope.of_arrow) name outer) ≡ false → untracked name outer ≡ true)
        → if_kind kind (λ k. not (is_tracker k)) (untracked name outer) ≡ true
    by (Some k) e f = absurd (false≢true (sym e))
    by None e f = f e

-- a tag that isn't refused means no local
pub tag_tame : (file : Text) (kinds : Text → Root_kind) (name : Text) (children : Bool) (scopes : List Scope) → Clean scopes → placing_breaches file kinds (Tagged (Tag.Component name) children scopes) ≡ [] → tame name scopes ≡ true
tag_tame file kinds name children scopes c e = untracked_tame name scopes (nowhere_untracked name scopes false (by (same_text name (codes "Slot")) refl e))
  where
    not_local : (b : Bool) (others : List Placing_breach) → either_of b (refuse_if true NotComponent name) others ≡ [] → b ≡ false
    not_local true others e = no_item e
    not_local false others e = refl

    by : (b : Bool) → same_text name (codes "Slot") ≡ b → either_of b (refuse_if children TagRefused name) (capital_breaches kinds name scopes) ≡ [] → is_found (meaning name scopes) ≡ false
    by true s e = ap is_found (subst (λ n. meaning n scopes ≡ None) (sym (text_is name (codes "Slot") s)) (no_local (codes "Slot") refl scopes false c))
    by false s e = not_local (is_local name scopes) _ e

-- ---- out of scopes

-- behind a scope that doesn't declare it
pub seen_out : (roots : List Text) (t : Text) (scope : Scope) (outer : List Scope) → kind_in t scope.declared ≡ None → seen roots t (scope ∷ outer) ≡ true → seen roots t outer ≡ true
seen_out roots t scope outer k h = sym (ap (λ kind. if_kind kind (λ k. is_listed t scope.ended) (seen roots t outer)) k) ∙ h

pub untracked_out : (t : Text) (scope : Scope) (outer : List Scope) → kind_in t scope.declared ≡ None → untracked t (scope ∷ outer) ≡ true → untracked t outer ≡ true
untracked_out t scope outer k h = sym (ap (λ kind. if_kind kind (λ k. not (is_tracker k)) (untracked t outer)) k) ∙ h

pub tame_out : (t : Text) (scope : Scope) (outer : List Scope) → kind_in t scope.declared ≡ None → tame t (scope ∷ outer) ≡ true → (elim scope.of_arrow [ true ↦ untracked t outer | false ↦ tame t outer ]) ≡ true
tame_out t scope outer k h = sym (ap (λ kind. if_kind kind (λ k. true) (elim scope.of_arrow [ true ↦ untracked t outer | false ↦ tame t outer ])) k) ∙ h
