-- The answer for a whole module.
use Rattle.std.specs.Prelude.{◌≡◌, refl, Bool, true, false, ◌||◌, List, [], ◌++◌, Result, Ok, Err}
use Rattle.std.proofs.Common.{sym, ◌∙◌, ap, subst}
use Rattle.qk_ast.specs.declared.Form.{Form}
use Rattle.qk_ast.specs.declared.Module.{Module}
use Rattle.qk_ast.specs.declared.Import.{Import}
use Rattle.qk_ast.specs.declared.Item.{Item}
use Rattle.qk_ast.specs.Texts.{Text}
use Rattle.qk_ast.specs.Names.{is_listed}
use Rattle.qk_ast.specs.Mentions.{import_mentions, import_names, item_mentions, module_mentions}
use Rattle.qk_ast.specs.Naming.{all_naming_breaches, root_names}
use Rattle.qk_ast.specs.Walking.{with_names}
use Rattle.qk_ast.proofs.Bound.{listed_inside}
use Rattle.qk_captures.specs.Capturing.{captured_in}
use Rattle.qk_scope.specs.declared.fault.ScopeFault.{ScopeFault}
use Rattle.qk_scope.specs.declared.rules.Rules.{Rules}
use Rattle.qk_scope.specs.declared.resolver.Names.{Names}
use Rattle.qk_scope.specs.Answering.{Faults, Answers, breaches}
use Rattle.qk_scope.specs.Resolving.{Resolves, all, refused, want}
use Rattle.qk_scope.proofs.Rooted.{rooted}
use Rattle.qk_scope.proofs.Walked.{fails_first, second}

or_false : (b : Bool) → (b || false) ≡ b
or_false true = refl
or_false false = refl

-- ---- the imports, and then the items

parts : (m : Module) (earlier later : List Text) (imports : List Import) (items : List Item) → earlier ≡ [] → imports ≡ m.imports → items ≡ m.items → later ≡ earlier ++ import_names imports
    → module_mentions m ≡ import_mentions earlier imports ++ item_mentions later items
parts m earlier later imports items e is xs l = let grown = l ∙ (λ j. e j ++ import_names (is j)) in λ i. import_mentions (sym e i) (sym is i) ++ item_mentions (sym grown i) (sym xs i)

pub imports_fail : (r : Rules) (m : Module) (earlier : List Text) (imports : List Import) (answer : Result (Unit {0}) ScopeFault) (fault : ScopeFault) → earlier ≡ [] → imports ≡ m.imports → answer ≡ Err fault
    → Answers {T = Unit {0}} (breaches r (import_mentions earlier imports)) (Err fault) → Answers (breaches r (module_mentions m)) answer
imports_fail r m earlier imports answer fault e is of h =
    fails_first r (module_mentions m) (import_mentions earlier imports) (item_mentions (earlier ++ import_names imports) m.items) answer fault (parts m earlier (earlier ++ import_names imports) imports m.items e is refl refl) of h

pub items_answer : (r : Rules) (m : Module) (earlier later : List Text) (imports : List Import) (items : List Item) (answer : Result (Unit {0}) ScopeFault) → earlier ≡ [] → imports ≡ m.imports → items ≡ m.items
    → later ≡ earlier ++ import_names imports → Answers {T = Unit {0}} (breaches r (import_mentions earlier imports)) (Ok tt) → Answers (breaches r (item_mentions later items)) answer → Answers (breaches r (module_mentions m)) answer
items_answer r m earlier later imports items answer e is xs l none h =
    second r (module_mentions m) (import_mentions earlier imports) (item_mentions later items) answer (parts m earlier later imports items e is xs l) none h

-- ---- the root's names

-- the set of the root's names stands for the list of them
pub by_set : (r : Rules) (m : Module) → r.roots ≡ with_names [] (root_names r.form r.file.now m) → breaches r (module_mentions m) ≡ all_naming_breaches r.form r.file.now m
unfolding breaches
by_set r m set = let names = root_names r.form r.file.now m in
    rooted r.form r.file.now r.roots names (λ q. ap (is_listed q) set ∙ listed_inside q [] names ∙ or_false (is_listed q names)) (module_mentions m)

-- ---- the answer

pub refuses : (form : Form) (file : Text) (m : Module) (answer : Result Names ScopeFault) (fault : ScopeFault) → answer ≡ Err fault
    → Answers {T = Unit {0}} (all_naming_breaches form file m) (Err fault) → Resolves form file m answer
unfolding Answers Faults
refuses form file m answer (ScopeFault.Refused kind name) is (rest, e) = subst (Resolves form file m) (sym is) (refused e)
refuses form file m answer ScopeFault.Memory is h = subst (Resolves form file m) (sym is) want

pub wants : (form : Form) (file : Text) (m : Module) (answer : Result Names ScopeFault) → answer ≡ Err ScopeFault.Memory → Resolves form file m answer
wants form file m answer is = subst (Resolves form file m) (sym is) want

pub resolved : (form : Form) (file : Text) (m : Module) (names : Names) → names.captures ≡ captured_in form file m
    → Answers {T = Unit {0}} (all_naming_breaches form file m) (Ok tt) → Resolves form file m (Ok names)
unfolding Answers
resolved form file m names captured none = subst (λ c. Resolves form file m (Ok (record { captures = c }))) (sym captured) (all none)
