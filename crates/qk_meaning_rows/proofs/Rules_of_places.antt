-- Modules that keep the rules of places, and modules that break one.
use Rattle.std.specs.Prelude.{◌≡◌, refl, true, false, List, [], ◌∷◌, codes}
use Rattle.qk_ast.specs.declared.Module.{Module}
use Rattle.qk_ast.specs.declared.Expr.{Expr}
use Rattle.qk_ast.specs.declared.Bin.TheVariants as bin
use Rattle.qk_ast.specs.declared.Known.TheVariants as kn
use Rattle.qk_ast.specs.declared.RuleKind.TheVariants.{DollarArgument, HookPlace, NotComponent, RootValue, TagRefused}
use Rattle.qk_ast.specs.Placing.{Placing_breach, all_placing_breaches, root_kind}
use Rattle.qk_meaning_rows.specs.Trees.{usual_import, int, name, text, list_of, chain, post, dot, call, step, known, gives, block, plain, fields, arrow, element, component, const, do_it, give_back, if_else, item}

-- the first breach
abbrev first : List Placing_breach → List Placing_breach
first [] = []
first (b ∷ rest) = b ∷ []

abbrev refused : Module → List Placing_breach
refused m = first (all_placing_breaches (codes "root") (root_kind ((codes "root", m) ∷ []) m) m)

-- A hook in an inner block.
hook_inside : refused (record { imports = usual_import ∷ []; items = item true "App" (post (name "component$") ((call ((arrow 0 ([]) (block ((if_else (Expr.Bool true) ((do_it (post (name "useSignal") ((call ((int 0) ∷ [])) ∷ []))) ∷ []) ([])) ∷ (give_back (element "p" ([]) ([]))) ∷ []))) ∷ [])) ∷ [])) ∷ [] }) ≡ record { kind = HookPlace; name = codes "useSignal" } ∷ []
hook_inside = refl

-- A hook behind another statement.
hook_behind : refused (record { imports = usual_import ∷ []; items = item true "App" (post (name "component$") ((call ((arrow 0 ([]) (block ((do_it (known kn.Log ((text "x") ∷ []))) ∷ (const (plain "s") (post (name "useSignal") ((call ((int 0) ∷ [])) ∷ []))) ∷ (give_back (element "p" ([]) ([]))) ∷ []))) ∷ [])) ∷ [])) ∷ [] }) ≡ record { kind = HookPlace; name = codes "useSignal" } ∷ []
hook_behind = refl

-- A hook behind a task.
hook_after_task : refused (record { imports = usual_import ∷ []; items = item true "App" (post (name "component$") ((call ((arrow 0 ([]) (block ((do_it (post (name "useTask$") ((call ((arrow 1 ([]) (gives (int 1))) ∷ [])) ∷ []))) ∷ (const (plain "s") (post (name "useSignal") ((call ((int 0) ∷ [])) ∷ []))) ∷ (give_back (element "p" ([]) ([]))) ∷ []))) ∷ [])) ∷ [])) ∷ [] }) ≡ []
hook_after_task = refl

-- A context hook over no context id.
no_context : refused (record { imports = usual_import ∷ []; items = item true "App" (post (name "component$") ((call ((arrow 0 ([]) (block ((const (plain "t") (post (name "useContext") ((call ((int 1) ∷ [])) ∷ []))) ∷ (give_back (element "p" ([]) ([]))) ∷ []))) ∷ [])) ∷ [])) ∷ [] }) ≡ record { kind = HookPlace; name = codes "useContext" } ∷ []
no_context = refl

-- A context id as a value.
context_as_value : refused (record { imports = usual_import ∷ []; items = item false "Theme" (post (name "createContextId") ((call ((text "t") ∷ [])) ∷ [])) ∷ item true "App" (post (name "component$") ((call ((arrow 0 ([]) (block ((const (plain "t") (list_of ((name "Theme") ∷ []))) ∷ (give_back (element "p" ([]) ([]))) ∷ []))) ∷ [])) ∷ [])) ∷ [] }) ≡ record { kind = HookPlace; name = codes "Theme" } ∷ []
context_as_value = refl

-- `track` in an inner arrow.
track_inside : refused (record { imports = usual_import ∷ []; items = item true "App" (post (name "component$") ((call ((arrow 0 ([]) (block ((do_it (post (name "useTask$") ((call ((arrow 1 ((fields ("track" ∷ [])) ∷ []) (block ((const (plain "f") (arrow 2 ([]) (gives (post (name "track") ((call ((arrow 3 ([]) (gives (int 1))) ∷ [])) ∷ []))))) ∷ []))) ∷ [])) ∷ []))) ∷ (give_back (element "p" ([]) ([]))) ∷ []))) ∷ [])) ∷ [])) ∷ [] }) ≡ record { kind = HookPlace; name = codes "track" } ∷ []
track_inside = refl

-- `track` in its place.
tracked : refused (record { imports = usual_import ∷ []; items = item true "App" (post (name "component$") ((call ((arrow 0 ([]) (block ((const (plain "s") (post (name "useSignal") ((call ((int 0) ∷ [])) ∷ []))) ∷ (do_it (post (name "useTask$") ((call ((arrow 1 ((fields ("track" ∷ [])) ∷ []) (block ((const (plain "v") (post (name "track") ((call ((arrow 2 ([]) (gives (post (name "s") ((dot "value") ∷ [])))) ∷ [])) ∷ []))) ∷ []))) ∷ [])) ∷ []))) ∷ (give_back (element "p" ([]) ([]))) ∷ []))) ∷ [])) ∷ [])) ∷ [] }) ≡ []
tracked = refl

-- A component of no arrow.
no_arrow : refused (record { imports = usual_import ∷ []; items = item true "App" (post (name "component$") ((call ((int 1) ∷ [])) ∷ [])) ∷ [] }) ≡ record { kind = DollarArgument; name = codes "component$" } ∷ []
no_arrow = refl

-- A task with another parameter.
task_parameter : refused (record { imports = usual_import ∷ []; items = item true "App" (post (name "component$") ((call ((arrow 0 ([]) (block ((do_it (post (name "useTask$") ((call ((arrow 1 ((plain "t") ∷ []) (gives (int 1))) ∷ [])) ∷ []))) ∷ (give_back (element "p" ([]) ([]))) ∷ []))) ∷ [])) ∷ [])) ∷ [] }) ≡ record { kind = DollarArgument; name = codes "useTask$" } ∷ []
task_parameter = refl

-- An item that is neither component, arrow, context id nor data.
made_root : refused (record { imports = usual_import ∷ []; items = item false "f" (list_of ((arrow 0 ((plain "x") ∷ []) (gives (name "x"))) ∷ [])) ∷ item true "App" (post (name "component$") ((call ((arrow 1 ([]) (block ((const (plain "n") (post (name "useSignal") ((call ((int 0) ∷ [])) ∷ []))) ∷ (give_back (element "button" (("id", (text "b")) ∷ ("onClick$", (arrow 2 ([]) (gives (step true (post (name "n") ((dot "value") ∷ [])))))) ∷ []) ((post (name "n") ((dot "value") ∷ [])) ∷ []))) ∷ []))) ∷ [])) ∷ [])) ∷ [] }) ≡ record { kind = RootValue; name = codes "f" } ∷ []
made_root = refl

-- A component that no item is.
inner_component : refused (record { imports = usual_import ∷ []; items = item true "App" (post (name "component$") ((call ((arrow 0 ([]) (block ((const (plain "c") (post (name "component$") ((call ((arrow 1 ([]) (gives (element "p" ([]) ([])))) ∷ [])) ∷ []))) ∷ (give_back (element "p" ([]) ([]))) ∷ []))) ∷ [])) ∷ [])) ∷ [] }) ≡ record { kind = RootValue; name = codes "component$" } ∷ []
inner_component = refl

-- `App` that is no component.
app_value : refused (record { imports = usual_import ∷ []; items = item true "App" (int 1) ∷ [] }) ≡ record { kind = NotComponent; name = codes "App" } ∷ []
app_value = refl

-- A component as a value.
component_value : refused (record { imports = usual_import ∷ []; items = item false "C" (post (name "component$") ((call ((arrow 0 ([]) (gives (element "p" ([]) ([])))) ∷ [])) ∷ [])) ∷ item true "App" (post (name "component$") ((call ((arrow 1 ([]) (block ((const (plain "c") (list_of ((name "C") ∷ []))) ∷ (give_back (element "p" ([]) ([]))) ∷ []))) ∷ [])) ∷ [])) ∷ [] }) ≡ record { kind = NotComponent; name = codes "C" } ∷ []
component_value = refl

-- A capital tag that means a local.
local_tag : refused (record { imports = usual_import ∷ []; items = item true "App" (post (name "component$") ((call ((arrow 0 ([]) (block ((const (plain "C") (int 1)) ∷ (give_back (component "C" ([]) ([]))) ∷ []))) ∷ [])) ∷ [])) ∷ [] }) ≡ record { kind = NotComponent; name = codes "C" } ∷ []
local_tag = refl

-- A tag that no module shows.
refused_tag : refused (record { imports = usual_import ∷ []; items = item true "App" (post (name "component$") ((call ((arrow 0 ([]) (gives (element "title" ([]) ([])))) ∷ [])) ∷ [])) ∷ [] }) ≡ record { kind = TagRefused; name = codes "title" } ∷ []
refused_tag = refl

-- A void element with a child.
void_child : refused (record { imports = usual_import ∷ []; items = item true "App" (post (name "component$") ((call ((arrow 0 ([]) (gives (element "br" ([]) ((text "x") ∷ [])))) ∷ [])) ∷ [])) ∷ [] }) ≡ record { kind = TagRefused; name = codes "br" } ∷ []
void_child = refl

-- Two listeners of one event.
one_event : refused (record { imports = usual_import ∷ []; items = item true "App" (post (name "component$") ((call ((arrow 0 ([]) (gives (element "p" (("onClick$", (arrow 1 ([]) (gives (int 1)))) ∷ ("onCLICK$", (arrow 2 ([]) (gives (int 2)))) ∷ []) ([])))) ∷ [])) ∷ [])) ∷ [] }) ≡ record { kind = TagRefused; name = codes "onCLICK$" } ∷ []
one_event = refl

-- A Slot whose name is computed.
slot_name : refused (record { imports = usual_import ∷ []; items = item true "App" (post (name "component$") ((call ((arrow 0 ([]) (gives (component "Slot" (("name", (chain (text "a") ((bin.Add, (text "b")) ∷ []))) ∷ []) ([])))) ∷ [])) ∷ [])) ∷ [] }) ≡ record { kind = TagRefused; name = codes "name" } ∷ []
slot_name = refl
