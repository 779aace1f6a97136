-- Modules that keep the rules of names, and modules that break one.
use Rattle.std.specs.Prelude.{◌≡◌, refl, true, false, List, [], ◌∷◌, codes}
use Rattle.qk_ast.specs.declared.Form.TheVariants.{Source}
use Rattle.qk_ast.specs.declared.Module.{Module}
use Rattle.qk_ast.specs.declared.AssignOp.TheVariants as asg
use Rattle.qk_ast.specs.declared.ScopeKind.TheVariants.{ConstAssigned, DuplicateName, EarlyUse, LetCaptured, UnknownName}
use Rattle.qk_ast.specs.Naming.{Naming_breach, all_naming_breaches}
use Rattle.qk_meaning_rows.specs.Trees.{usual_import, int, name, text, list_of, post, dot, call, assign, step, gives, block, plain, arrow, element, const, let_be, do_it, give_back, for_of, inner_block, item}

-- the first breach
abbrev first : List Naming_breach → List Naming_breach
first [] = []
first (b ∷ rest) = b ∷ []

abbrev refused : Module → List Naming_breach
refused m = first (all_naming_breaches Source (codes "root") m)

-- A counter.
counter : refused (record { imports = usual_import ∷ []; items = item true "App" (post (name "component$") ((call ((arrow 0 ([]) (block ((const (plain "n") (post (name "useSignal") ((call ((int 0) ∷ [])) ∷ []))) ∷ (give_back (element "button" (("id", (text "b")) ∷ ("onClick$", (arrow 1 ([]) (gives (step true (post (name "n") ((dot "value") ∷ [])))))) ∷ []) ((post (name "n") ((dot "value") ∷ [])) ∷ []))) ∷ []))) ∷ [])) ∷ [])) ∷ [] }) ≡ []
counter = refl

-- A `let` that a listener assigns.
let_captured : refused (record { imports = usual_import ∷ []; items = item true "App" (post (name "component$") ((call ((arrow 0 ([]) (block ((let_be "n" (int 0)) ∷ (give_back (element "p" (("id", (text "p")) ∷ ("onClick$", (arrow 1 ([]) (block ((do_it (assign asg.Set (name "n") (int 1))) ∷ [])))) ∷ []) ([]))) ∷ []))) ∷ [])) ∷ [])) ∷ [] }) ≡ record { kind = LetCaptured; name = codes "n" } ∷ []
let_captured = refl

-- A local that an arrow before it uses.
early_use : refused (record { imports = usual_import ∷ []; items = item true "App" (post (name "component$") ((call ((arrow 0 ([]) (block ((const (plain "f") (arrow 1 ([]) (gives (name "k")))) ∷ (const (plain "k") (int 1)) ∷ (give_back (element "p" ([]) ((post (name "f") ((call ([])) ∷ [])) ∷ []))) ∷ []))) ∷ [])) ∷ [])) ∷ [] }) ≡ record { kind = EarlyUse; name = codes "k" } ∷ []
early_use = refl

-- A local in its own value.
own_value : refused (record { imports = usual_import ∷ []; items = item true "App" (post (name "component$") ((call ((arrow 0 ([]) (block ((const (plain "x") (list_of ((name "x") ∷ []))) ∷ (give_back (element "p" ([]) ([]))) ∷ []))) ∷ [])) ∷ [])) ∷ [] }) ≡ record { kind = EarlyUse; name = codes "x" } ∷ []
own_value = refl

-- The name of a `for` in its list.
list_of_for : refused (record { imports = usual_import ∷ []; items = item true "App" (post (name "component$") ((call ((arrow 0 ([]) (block ((for_of "x" (name "x") ([])) ∷ (give_back (element "p" ([]) ([]))) ∷ []))) ∷ [])) ∷ [])) ∷ [] }) ≡ record { kind = EarlyUse; name = codes "x" } ∷ []
list_of_for = refl

-- A name without a declaration.
unknown : refused (record { imports = usual_import ∷ []; items = item true "App" (post (name "component$") ((call ((arrow 0 ([]) (gives (element "p" ([]) ((name "x") ∷ [])))) ∷ [])) ∷ [])) ∷ [] }) ≡ record { kind = UnknownName; name = codes "x" } ∷ []
unknown = refl

-- `console` outside its call.
console_alone : refused (record { imports = usual_import ∷ []; items = item true "App" (post (name "component$") ((call ((arrow 0 ([]) (block ((const (plain "c") (list_of ((name "console") ∷ []))) ∷ (give_back (element "p" ([]) ([]))) ∷ []))) ∷ [])) ∷ [])) ∷ [] }) ≡ record { kind = UnknownName; name = codes "console" } ∷ []
console_alone = refl

-- Two declarations in one scope.
twice : refused (record { imports = usual_import ∷ []; items = item true "App" (post (name "component$") ((call ((arrow 0 ([]) (block ((const (plain "a") (int 1)) ∷ (const (plain "a") (int 2)) ∷ (give_back (element "p" ([]) ([]))) ∷ []))) ∷ [])) ∷ [])) ∷ [] }) ≡ record { kind = DuplicateName; name = codes "a" } ∷ []
twice = refl

-- A parameter that the arrow's block declares again.
parameter_again : refused (record { imports = usual_import ∷ []; items = item true "App" (post (name "component$") ((call ((arrow 0 ([]) (block ((const (plain "f") (arrow 1 ((plain "a") ∷ []) (block ((const (plain "a") (int 1)) ∷ [])))) ∷ (give_back (element "p" ([]) ([]))) ∷ []))) ∷ [])) ∷ [])) ∷ [] }) ≡ record { kind = DuplicateName; name = codes "a" } ∷ []
parameter_again = refl

-- A parameter that an inner block shadows.
shadowed : refused (record { imports = usual_import ∷ []; items = item true "App" (post (name "component$") ((call ((arrow 0 ([]) (block ((const (plain "f") (arrow 1 ((plain "a") ∷ []) (block ((inner_block ((const (plain "a") (int 1)) ∷ [])) ∷ [])))) ∷ (give_back (element "p" ([]) ([]))) ∷ []))) ∷ [])) ∷ [])) ∷ [] }) ≡ []
shadowed = refl

-- A local with a name of the framework.
framework_name : refused (record { imports = usual_import ∷ []; items = item true "App" (post (name "component$") ((call ((arrow 0 ([]) (block ((const (plain "useSignal") (int 1)) ∷ (give_back (element "p" ([]) ([]))) ∷ []))) ∷ [])) ∷ [])) ∷ [] }) ≡ record { kind = DuplicateName; name = codes "useSignal" } ∷ []
framework_name = refl

-- An item that is named like a symbol.
symbol : refused (record { imports = usual_import ∷ []; items = item false "root_s1" (int 1) ∷ item true "App" (post (name "component$") ((call ((arrow 0 ([]) (block ((const (plain "n") (post (name "useSignal") ((call ((int 0) ∷ [])) ∷ []))) ∷ (give_back (element "button" (("id", (text "b")) ∷ ("onClick$", (arrow 1 ([]) (gives (step true (post (name "n") ((dot "value") ∷ [])))))) ∷ []) ((post (name "n") ((dot "value") ∷ [])) ∷ []))) ∷ []))) ∷ [])) ∷ [])) ∷ [] }) ≡ record { kind = DuplicateName; name = codes "root_s1" } ∷ []
symbol = refl

-- A `const` that is stepped.
const_assigned : refused (record { imports = usual_import ∷ []; items = item true "App" (post (name "component$") ((call ((arrow 0 ([]) (block ((const (plain "n") (int 0)) ∷ (do_it (step true (name "n"))) ∷ (give_back (element "p" ([]) ([]))) ∷ []))) ∷ [])) ∷ [])) ∷ [] }) ≡ record { kind = ConstAssigned; name = codes "n" } ∷ []
const_assigned = refl

-- A parameter that is assigned.
parameter_assigned : refused (record { imports = usual_import ∷ []; items = item true "App" (post (name "component$") ((call ((arrow 0 ([]) (block ((const (plain "f") (arrow 1 ((plain "a") ∷ []) (block ((do_it (assign asg.Set (name "a") (int 1))) ∷ [])))) ∷ (give_back (element "p" ([]) ([]))) ∷ []))) ∷ [])) ∷ [])) ∷ [] }) ≡ record { kind = ConstAssigned; name = codes "a" } ∷ []
parameter_assigned = refl

-- A `let` that its own arrow assigns.
let_assigned : refused (record { imports = usual_import ∷ []; items = item true "App" (post (name "component$") ((call ((arrow 0 ([]) (block ((const (plain "f") (arrow 1 ([]) (block ((let_be "a" (int 0)) ∷ (do_it (assign asg.Set (name "a") (int 1))) ∷ (give_back (name "a")) ∷ [])))) ∷ (give_back (element "p" ([]) ([]))) ∷ []))) ∷ [])) ∷ [])) ∷ [] }) ≡ []
let_assigned = refl
