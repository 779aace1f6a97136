-- What is told of parts, one after another.
use Rattle.std.specs.Prelude.{◌≡◌, refl, ℕ, ◌+◌, ◌<◌, ◌≤◌, List, [], ◌∷◌, ◌++◌, length, drop, Some, None, Result, Ok, Err}
use Rattle.std.specs.Option.{option_map}
use Rattle.std.proofs.Common.{sym, ◌∙◌, ap, subst}
use Rattle.std.proofs.Math.ListN.{get_or}
use Rattle.std.proofs.lemmas.List.{at_drop_more, at_drop_all}
use Rattle.qk_ast.specs.declared.RuleKind.{RuleKind}
use Rattle.qk_ast.specs.Texts.{Text}
use Rattle.qk_ast.specs.Placing.{Placing_breach}
use Rattle.qk_rules.specs.declared.fault.RuleFault.{RuleFault}
use Rattle.qk_rules.specs.declared.fault.RuleFault.TheVariants.{Refused, Memory}
use Rattle.qk_rules.specs.Checking.{Refuses, first, want, Answers}
use Rattle.qk_rules.specs.Breaches.{breach, first_breach}

-- ---- one part

pub by_form : {all part : List Placing_breach} {result : Result Unit RuleFault} → all ≡ part → Answers part result → Answers all result
by_form {result = result} same told = subst (λ breaches. Answers breaches result) (sym same) told

pub by_result : {all : List Placing_breach} {result told : Result Unit RuleFault} → result ≡ told → Answers all told → Answers all result
by_result {all = all} same told = subst (Answers all) (sym same) told

-- for want of memory
pub wants : {all : List Placing_breach} {result : Result Unit RuleFault} → result ≡ Err Memory → Answers all result
wants {all = all} same = by_result same (record { comes = want })

pub clear : {all : List Placing_breach} → all ≡ [] → Answers all (Ok tt)
clear nothing = record { comes = nothing }

-- what a rule's function tells
pub told_kept : (all : List Placing_breach) (name : Text) → option_map (breach name) None ≡ first_breach all → Answers all (Ok tt)
told_kept [] name told = clear refl
told_kept (b ∷ rest) name told = absurd (not_some told)
  where
    not_some : None ≡ Some b → ⊥
    not_some h = cc

-- ---- parts one after another

in_front : {front : List Placing_breach} (back : List Placing_breach) {fault : RuleFault} → Refuses front fault → Refuses (front ++ back) fault
in_front back (first e) = first (ap (λ l. l ++ back) e)
in_front back want = want

pub told_some : (all : List Placing_breach) (name : Text) (kind : RuleKind) (result : Result Unit RuleFault) → option_map (breach name) (Some kind) ≡ first_breach all → Answers (breach name kind ∷ []) result → Answers all result
told_some [] name kind result told h = absurd (not_none told)
  where
    not_none : Some (breach name kind) ≡ None → ⊥
    not_none e = cc
told_some (b ∷ rest) name kind (Ok done) told h = absurd (not_nil h.comes)
  where
    not_nil : ◌≡◌ {A = List Placing_breach} (breach name kind ∷ []) [] → ⊥
    not_nil e = cc
told_some (b ∷ rest) name kind (Err fault) told h = record { comes = subst (λ c. Refuses (c ∷ rest) fault) (same told) (in_front rest h.comes) }
  where
    same : Some (breach name kind) ≡ Some b → breach name kind ≡ b
    same e = cc

-- the name that breaks a rule, in a text of its own
pub refused_told : (name shared : Text) (kind : RuleKind) → shared ≡ name → Answers (breach name kind ∷ []) (Err (Refused kind shared))
refused_told name shared kind same = subst (λ t. Answers (breach name kind ∷ []) (Err (Refused kind t))) (sym same) (record { comes = first refl })

-- the part in front is refused
pub stops : {all front : List Placing_breach} (back : List Placing_breach) {result : Result Unit RuleFault} {fault : RuleFault} → all ≡ front ++ back → Answers front (Err fault) → result ≡ Err fault → Answers all result
stops back parts told same = by_form parts (by_result same (record { comes = in_front back told.comes }))

-- the part in front breaks nothing
pub goes_on : {all front back : List Placing_breach} {result : Result Unit RuleFault} → all ≡ front ++ back → Answers front (Ok tt) → Answers back result → Answers all result
goes_on {back = back} parts kept told = by_form (parts ∙ ap (λ l. l ++ back) kept.comes) told

-- ---- parts in lists

pub at_item : {X : Type 0} (F G : List X → List Placing_breach) (part : List Placing_breach) (xs : List X) (i : ℕ) (x : X) → ((rest : List X) → F (x ∷ rest) ≡ part ++ G rest)
    → i < length xs → x ≡ get_or xs i x → F (drop i xs) ≡ part ++ G (drop (i + 1) xs)
at_item F G part xs i x parts below here = at_drop_more F xs i x below ∙ ap (λ y. F (y ∷ drop (i + 1) xs)) (sym here) ∙ parts (drop (i + 1) xs)

pub past_item : {X : Type 0} (F G : List X → List Placing_breach) (part all : List Placing_breach) (xs : List X) (i : ℕ) (x : X) → ((rest : List X) → F (x ∷ rest) ≡ part ++ G rest)
    → i < length xs → x ≡ get_or xs i x → Answers part (Ok tt) → F (drop i xs) ≡ all → G (drop (i + 1) xs) ≡ all
past_item F G part all xs i x parts below here kept past = sym (ap (λ l. l ++ G (drop (i + 1) xs)) kept.comes) ∙ sym (at_item F G part xs i x parts below here) ∙ past

pub stops_at : {X : Type 0} (F G : List X → List Placing_breach) (part all : List Placing_breach) (xs : List X) (i : ℕ) (x : X) → ((rest : List X) → F (x ∷ rest) ≡ part ++ G rest)
    → i < length xs → x ≡ get_or xs i x → F (drop i xs) ≡ all → (result : Result Unit RuleFault) (fault : RuleFault) → Answers part (Err fault) → result ≡ Err fault → Answers all result
stops_at F G part all xs i x parts below here past result fault told same = stops (G (drop (i + 1) xs)) (sym past ∙ at_item F G part xs i x parts below here) told same

pub at_end : {X : Type 0} (F : List X → List Placing_breach) (all : List Placing_breach) (xs : List X) (i : ℕ) → F [] ≡ [] → length xs ≤ i → F (drop i xs) ≡ all → Answers all (Ok tt)
at_end F all xs i nothing past h = clear (sym h ∙ at_drop_all F xs i past ∙ nothing)

-- ---- the walk's places

-- the walk is as it was
pub as_before : {W : Type 0} (f : W → List Placing_breach) {walked before : W} {result : Result Unit RuleFault} → walked ≡ before → Answers (f walked) result → Answers (f before) result
as_before f {result = result} same told = subst (λ w. Answers (f w) result) same told
