-- What is answered of a module, and of modules one after another.
use Rattle.std.proofs.Common.{◌≡◌, ◌≤◌, ◌<◌, ◌+◌, ℕ, suc, refl, sym, ap, ◌∙◌, subst, List, [], ◌∷◌, ◌++◌, map, length, drop, get_or, drop-cons, add-one, append_assoc, append-nil, inl, inr}
use Rattle.std.specs.Prelude.{Result, Ok, Err, flat_map}
use Rattle.std.proofs.lemmas.List.{drop_all}
use Rattle.qk_ast.specs.declared.Form.TheVariants.{Source}
use Rattle.qk_ast.specs.declared.ScopeKind.{ScopeKind}
use Rattle.qk_ast.specs.declared.RuleKind.{RuleKind}
use Rattle.qk_ast.specs.Texts.{Text}
use Rattle.qk_ast.specs.Sources.{Named_module}
use Rattle.qk_ast.specs.Placing.{root_kind}
use Rattle.qk_ast.specs.Application.{Breach, Of_names, Of_places, naming_of, placing_of}
use Rattle.qk_modules.specs.declared.modules.NamedModule.{NamedModule}
use Rattle.qk_modules.specs.declared.modules.Modules.{Modules}
use Rattle.qk_modules.specs.declared.fault.GatherFault.{GatherFault}
use Rattle.qk_modules.specs.declared.fault.GatherFault.TheVariants as gather
use Rattle.qk_modules.specs.Causes as gathering
use Rattle.qk_scope.specs.declared.resolver.Names.{Names}
use Rattle.qk_scope.specs.declared.fault.ScopeFault.{ScopeFault}
use Rattle.qk_scope.specs.declared.fault.ScopeFault.TheVariants as scope
use Rattle.qk_scope.specs.Resolving as resolving
use Rattle.qk_scope.specs.Resolving.{Resolves}
use Rattle.qk_rules.specs.declared.fault.RuleFault.{RuleFault}
use Rattle.qk_rules.specs.declared.fault.RuleFault.TheVariants as rule
use Rattle.qk_rules.specs.Checking as checking
use Rattle.qk_rules.specs.Checking.{Checks}
use Rattle.qk_application.specs.declared.fault.ApplicationFault.{ApplicationFault}
use Rattle.qk_application.specs.declared.fault.ApplicationFault.TheVariants.{Gathering, Naming, Placing, Memory}
use Rattle.qk_application.specs.declared.application.Application.{Application}
use Rattle.qk_application.specs.Accepting.{Judges, kept, misnamed, misplaced, want, fault_of, Blames, names_of, named_module, breaches_of, application_of}
use Rattle.qk_application.specs.Causes.{FailsByStore, TellsMemory}

-- ---- one module

pub names_kept : (m : NamedModule) (names : Names) → Resolves Source m.name m.module (Ok names) → Judges (naming_of (named_module m)) (names_of m) (Ok names)
names_kept m names (resolving.all none) = kept (ap (map (Of_names m.name)) none)

pub names_broken : (m : NamedModule) (kind : ScopeKind) (name : Text) (why : ScopeFault) (fault : ApplicationFault) → Resolves Source m.name m.module (Err why) → why ≡ scope.Refused kind name → Blames (Naming m.name kind name) fault → Judges (naming_of (named_module m)) (names_of m) (Err fault)
names_broken m kind name why fault h e blames = blamed (subst (λ w. Resolves Source m.name m.module (Err w)) e h) blames
  where
    blamed : Resolves Source m.name m.module (Err (scope.Refused kind name)) → Blames (Naming m.name kind name) fault → Judges (naming_of (named_module m)) (names_of m) (Err fault)
    blamed (resolving.refused first) (inl is) = subst (λ f. Judges (naming_of (named_module m)) (names_of m) (Err f)) (sym is) (misnamed (ap (map (Of_names m.name)) first))
    blamed (resolving.refused first) (inr is) = subst (λ f. Judges (naming_of (named_module m)) (names_of m) (Err f)) (sym is) want

pub places_kept : (all : List Named_module) (m : NamedModule) → Checks m.name (root_kind all m.module) m.module (Ok tt) → Judges {T = Unit {0}} (placing_of all (named_module m)) tt (Ok tt)
places_kept all m (checking.all none) = kept (ap (map (Of_places m.name)) none)

pub places_broken : (all : List Named_module) (m : NamedModule) (kind : RuleKind) (name : Text) (why : RuleFault) (fault : ApplicationFault) → Checks m.name (root_kind all m.module) m.module (Err why) → why ≡ rule.Refused kind name → Blames (Placing m.name kind name) fault
    → Judges {T = Unit {0}} (placing_of all (named_module m)) tt (Err fault)
places_broken all m kind name why fault h e blames = blamed (subst (λ w. Checks m.name (root_kind all m.module) m.module (Err w)) e h) blames
  where
    blamed : Checks m.name (root_kind all m.module) m.module (Err (rule.Refused kind name)) → Blames (Placing m.name kind name) fault → Judges {T = Unit {0}} (placing_of all (named_module m)) tt (Err fault)
    blamed (checking.refused first) (inl is) = subst (λ f. Judges {T = Unit {0}} (placing_of all (named_module m)) tt (Err f)) (sym is) (misplaced (ap (map (Of_places m.name)) first))
    blamed (checking.refused first) (inr is) = subst (λ f. Judges {T = Unit {0}} (placing_of all (named_module m)) tt (Err f)) (sym is) want

-- ---- one part after another

pub none_broken : {T : Type 0} {breaches : List Breach} {value : T} (answered : T) → Judges breaches value (Ok answered) → (breaches ≡ []) × (answered ≡ value)
none_broken answered (kept none) = (none, refl)

-- the first of two parts is refused
pub first_fails : {T U : Type 0} {first : List Breach} {value : T} (rest : List Breach) (other : U) (fault : ApplicationFault) → Judges first value (Err fault) → Judges (first ++ rest) other (Err fault)
first_fails rest other fault (misnamed e) = misnamed (ap (λ l. l ++ rest) e)
first_fails rest other fault (misplaced e) = misplaced (ap (λ l. l ++ rest) e)
first_fails rest other fault want = want

-- the refusal is the same, whatever was wanted
pub other_value : {T U : Type 0} {breaches : List Breach} {value : T} (other : U) (fault : ApplicationFault) → Judges breaches value (Err fault) → Judges breaches other (Err fault)
other_value other fault (misnamed e) = misnamed e
other_value other fault (misplaced e) = misplaced e
other_value other fault want = want

-- a refusal that is handed on
pub handed_on : {T : Type 0} (breaches : List Breach) (value : T) (fault : ApplicationFault) (result : Result T ApplicationFault) → result ≡ Err fault → Judges breaches value (Err fault) → Judges breaches value result
handed_on breaches value fault result e h = subst (Judges breaches value) (sym e) h

-- the same breaches, as another says them
pub of_same : {T : Type 0} {breaches others : List Breach} {value : T} {result : Result T ApplicationFault} → breaches ≡ others → Judges breaches value result → Judges others value result
of_same {value = value} {result = result} e h = subst (λ l. Judges l value result) e h

-- the rules don't tell that the store failed
pub no_failure : {T : Type 0} {breaches : List Breach} {value : T} (result : Result T ApplicationFault) → Judges breaches value result → result ≡ Err (Gathering gather.Store) → ⊥
no_failure result (kept none) h = cc
no_failure result (misnamed e) h = cc
no_failure result (misplaced e) h = cc
no_failure result want h = cc

-- ---- modules one after another

drop_step : {A : Type 0} (l : List A) (i : ℕ) (x : A) → i < length l → x ≡ get_or l i x → drop i l ≡ x ∷ drop (i + 1) l
drop_step l i x h e = rw (add-one, drop-cons l i x h) (ap (λ y. y ∷ drop (suc i) l) (sym e))

-- what the modules break, by what one does
module _ (broken : Named_module → List Breach) where
  pub kept_on : (modules : List NamedModule) (i : ℕ) (m : NamedModule) → i < length modules → m ≡ get_or modules i m → broken (named_module m) ≡ [] → flat_map broken (map named_module modules) ≡ flat_map broken (map named_module (drop i modules))
      → flat_map broken (map named_module modules) ≡ flat_map broken (map named_module (drop (i + 1) modules))
  kept_on modules i m within there none before =
      before ∙ ap (λ l. flat_map broken (map named_module l)) (drop_step modules i m within there) ∙ ap (λ l. l ++ flat_map broken (map named_module (drop (i + 1) modules))) none

  pub fails_there : {T U : Type 0} (modules : List NamedModule) (i : ℕ) (m : NamedModule) (value : T) (other : U) (fault : ApplicationFault) → i < length modules → m ≡ get_or modules i m
      → flat_map broken (map named_module modules) ≡ flat_map broken (map named_module (drop i modules)) → Judges (broken (named_module m)) value (Err fault) → Judges (flat_map broken (map named_module modules)) other (Err fault)
  fails_there modules i m value other fault within there before h =
      of_same (sym (before ∙ ap (λ l. flat_map broken (map named_module l)) (drop_step modules i m within there))) (first_fails (flat_map broken (map named_module (drop (i + 1) modules))) other fault h)

-- the names of one more module
pub more_names : (modules : List NamedModule) (i : ℕ) (m : NamedModule) (all more : List Names) (names : Names) → i < length modules → m ≡ get_or modules i m → more ≡ all ++ names ∷ [] → names ≡ names_of m
    → all ++ map names_of (drop i modules) ≡ map names_of modules → more ++ map names_of (drop (i + 1) modules) ≡ map names_of modules
more_names modules i m all more names within there pushed is before =
    ap (λ l. l ++ map names_of (drop (i + 1) modules)) (pushed ∙ ap (λ n. all ++ n ∷ []) is)
    ∙ append_assoc all (names_of m ∷ []) (map names_of (drop (i + 1) modules))
    ∙ ap (λ l. all ++ map names_of l) (sym (drop_step modules i m within there))
    ∙ before

-- past the last module
pub names_done : (modules : List NamedModule) (i : ℕ) (all names : List Names) → length modules ≤ i → names ≡ all → flat_map naming_of (map named_module modules) ≡ flat_map naming_of (map named_module (drop i modules))
    → all ++ map names_of (drop i modules) ≡ map names_of modules → Judges (flat_map naming_of (map named_module modules)) (map names_of modules) (Ok names)
names_done modules i all names past is before named =
    let over = drop_all i modules past in
    let same = is ∙ sym (append-nil all) ∙ ap (λ l. all ++ map names_of l) (sym over) ∙ named in
    subst (λ n. Judges (flat_map naming_of (map named_module modules)) (map names_of modules) (Ok n)) (sym same) (kept (before ∙ ap (λ l. flat_map naming_of (map named_module l)) over))

pub places_done : (all : List Named_module) (modules : List NamedModule) (i : ℕ) → length modules ≤ i → flat_map (placing_of all) (map named_module modules) ≡ flat_map (placing_of all) (map named_module (drop i modules))
    → Judges {T = Unit {0}} (flat_map (placing_of all) (map named_module modules)) tt (Ok tt)
places_done all modules i past before = kept (before ∙ ap (λ l. flat_map (placing_of all) (map named_module l)) (drop_all i modules past))

-- one more module, as the rules speak of it
pub more_modules : (modules : List NamedModule) (i : ℕ) (m : NamedModule) (all more : List Named_module) → i < length modules → m ≡ get_or modules i m → more ≡ all ++ (named_module m) ∷ []
    → all ++ map named_module (drop i modules) ≡ map named_module modules → more ++ map named_module (drop (i + 1) modules) ≡ map named_module modules
more_modules modules i m all more within there pushed before =
    ap (λ l. l ++ map named_module (drop (i + 1) modules)) pushed
    ∙ append_assoc all (named_module m ∷ []) (map named_module (drop (i + 1) modules))
    ∙ ap (λ l. all ++ map named_module l) (sym (drop_step modules i m within there))
    ∙ before

-- ---- an application

pub names_fail : (modules : Modules) (lent : List NamedModule) (fault : ApplicationFault) → lent ≡ modules.list → Judges (flat_map naming_of (map named_module lent)) (map names_of lent) (Err fault) → Judges (breaches_of modules) (application_of modules) (Err fault)
names_fail modules lent fault same h =
    first_fails (flat_map (placing_of (map named_module modules.list)) (map named_module modules.list)) (application_of modules) fault
    (subst (λ l. Judges (flat_map naming_of (map named_module l)) (map names_of l) (Err fault)) same h)

pub places_fail : (modules : Modules) (lent again : List NamedModule) (names : List Names) (fault : ApplicationFault) → lent ≡ modules.list → again ≡ modules.list → Judges (flat_map naming_of (map named_module lent)) (map names_of lent) (Ok names)
    → Judges {T = Unit {0}} (flat_map (placing_of (map named_module again)) (map named_module again)) tt (Err fault) → Judges (breaches_of modules) (application_of modules) (Err fault)
places_fail modules lent again names fault same lent_again h fails =
    let kept_all = none_broken names (subst (λ l. Judges (flat_map naming_of (map named_module l)) (map names_of l) (Ok names)) same h) in
    other_value (application_of modules) fault
    (of_same (ap (λ l. l ++ flat_map (placing_of (map named_module modules.list)) (map named_module modules.list)) (sym kept_all.0))
    (subst (λ l. Judges {T = Unit {0}} (flat_map (placing_of (map named_module l)) (map named_module l)) tt (Err fault)) lent_again fails))

pub all_kept : (modules : Modules) (lent again : List NamedModule) (names : List Names) (done : Unit {0}) → lent ≡ modules.list → again ≡ modules.list → Judges (flat_map naming_of (map named_module lent)) (map names_of lent) (Ok names)
    → Judges {T = Unit {0}} (flat_map (placing_of (map named_module again)) (map named_module again)) tt (Ok done) → Judges (breaches_of modules) (application_of modules) (Ok (record { modules = modules; names = names }))
all_kept modules lent again names done same lent_again h k =
    let kept_all = none_broken names (subst (λ l. Judges (flat_map naming_of (map named_module l)) (map names_of l) (Ok names)) same h) in
    let placed = none_broken done (subst (λ l. Judges {T = Unit {0}} (flat_map (placing_of (map named_module l)) (map named_module l)) tt (Ok done)) lent_again k) in
    subst (λ n. Judges (breaches_of modules) (application_of modules) (Ok (record { modules = modules; names = n }))) (sym kept_all.1)
    (kept (ap (λ l. l ++ flat_map (placing_of (map named_module modules.list)) (map named_module modules.list)) kept_all.0 ∙ placed.0))

-- ---- faults of gathering

pub fault_kept : (fault : GatherFault) → ¬ (fault ≡ gather.Memory) → Gathering fault ≡ fault_of fault
fault_kept gather.RootMissing other = refl
fault_kept (gather.ImportMissing m name) other = refl
fault_kept (gather.ExportMissing m name) other = refl
fault_kept (gather.NotUtf8 m) other = refl
fault_kept (gather.Parse m fault place) other = refl
fault_kept gather.TooMany other = refl
fault_kept gather.Store other = refl
fault_kept gather.Memory other = absurd (other refl)

-- what is told of a fault tells which it was
told_store : (fault : GatherFault) → fault_of fault ≡ Gathering gather.Store → fault ≡ gather.Store
told_store gather.RootMissing e = cc
told_store (gather.ImportMissing m name) e = cc
told_store (gather.ExportMissing m name) e = cc
told_store (gather.NotUtf8 m) e = cc
told_store (gather.Parse m fault place) e = cc
told_store gather.TooMany e = cc
told_store gather.Store e = refl
told_store gather.Memory e = cc

told_memory : (fault : GatherFault) → fault_of fault ≡ Gathering gather.Memory → ⊥
told_memory gather.RootMissing e = cc
told_memory (gather.ImportMissing m name) e = cc
told_memory (gather.ExportMissing m name) e = cc
told_memory (gather.NotUtf8 m) e = cc
told_memory (gather.Parse m fault place) e = cc
told_memory gather.TooMany e = cc
told_memory gather.Store e = cc
told_memory gather.Memory e = cc

same_application : (f g : ApplicationFault) → ◌≡◌ {A = Result Application ApplicationFault} (Err f) (Err g) → f ≡ g
same_application f g h = cc

-- ---- want of memory

pub memory_judged : (breaches : List Breach) (value : Application) (result : Result Application ApplicationFault) → Judges breaches value result → TellsMemory result
memory_judged breaches value result (kept none) h = cc
memory_judged breaches value result (misnamed e) h = cc
memory_judged breaches value result (misplaced e) h = cc
memory_judged breaches value result want h = cc

pub memory_gathering : (fault : GatherFault) (result : Result Application ApplicationFault) → result ≡ Err (fault_of fault) → TellsMemory result
memory_gathering fault result is h = told_memory fault (same_application (fault_of fault) (Gathering gather.Memory) (sym is ∙ h))

-- ---- the store's faults

not_store : (modules : Modules) → ◌≡◌ {A = Result Modules GatherFault} (Ok modules) (Err gather.Store) → ⊥
not_store modules h = cc

same_gathered : (f g : GatherFault) → ◌≡◌ {A = Result Modules GatherFault} (Err f) (Err g) → f ≡ g
same_gathered f g h = cc

pub cause_judged : (before now : ℕ) (modules : Modules) (result : Result Application ApplicationFault) → gathering.FailsByStore {T = Modules} before now (Ok modules) → Judges (breaches_of modules) (application_of modules) result → FailsByStore before now result
cause_judged before now modules result h judged = record { later = h.later; failed = λ e. absurd (no_failure result judged e); kept = λ none. h.kept (not_store modules) }

pub cause_gathering : (before now : ℕ) (fault : GatherFault) (result : Result Application ApplicationFault) → result ≡ Err (fault_of fault) → gathering.FailsByStore {T = Modules} before now (Err fault) → FailsByStore before now result
cause_gathering before now fault result is h = record {
  later = h.later;
  failed = λ e. h.failed (ap Err (told_store fault (same_application (fault_of fault) (Gathering gather.Store) (sym is ∙ e))));
  kept = λ none. h.kept (λ e. none (is ∙ ap (λ f. Err (fault_of f)) (same_gathered fault gather.Store e)));
}
