-- The names of the framework, the names that stand for fixed calls, and the names of modules and symbols.
use Rattle.std.specs.Prelude.{Bool, true, false, not, ◌&&◌, ◌||◌, ◌==◌, nat_le, nat_lt, List, [], ◌∷◌, length, codes}
use Rattle.qk_ast.specs.declared.Form.{Form}
use Rattle.qk_ast.specs.declared.Form.TheVariants.{Source, Built}
use Rattle.qk_ast.specs.Characters.{is_small_letter, is_digit, every, number_after}
use Rattle.qk_ast.specs.Texts.{Text, is_among}

abbrev pub framework : Text
framework = codes "@builder.io/qwik"

-- the names that a module may import from the framework
abbrev pub framework_names : List Text
framework_names =
    codes "$" ∷ codes "Slot" ∷ codes "component$" ∷ codes "createContextId" ∷ codes "noSerialize" ∷ codes "useComputed$" ∷ codes "useContext" ∷ codes "useContextProvider"
    ∷ codes "useSignal" ∷ codes "useStore" ∷ codes "useTask$" ∷ []

-- the names that only a built file imports
abbrev pub built_names : List Text
built_names = codes "componentQrl" ∷ codes "qrl" ∷ codes "useComputedQrl" ∷ codes "useTaskQrl" ∷ codes "useLexicalScope" ∷ []

-- the names whose calls a built file has in another form
abbrev pub lifted_names : List Text
lifted_names = codes "$" ∷ codes "component$" ∷ codes "useComputed$" ∷ codes "useTask$" ∷ []

abbrev pub may_import : Form → Text → Bool
may_import Source name = is_among name framework_names
may_import Built name = is_among name built_names || (is_among name framework_names && not (is_among name lifted_names))

-- the names of the fixed calls; they stand in those alone
abbrev pub is_fixed : Text → Bool
is_fixed name = is_among name (codes "console" ∷ codes "Math" ∷ codes "Object" ∷ codes "String" ∷ [])

-- the names that a declaration may have only as an import of them
abbrev pub is_taken : Text → Bool
is_taken name = is_among name framework_names || is_among name built_names || is_fixed name

-- ---- modules and symbols

-- a small letter, then small letters and digits, 32 at most
abbrev pub is_module_name : Text → Bool
is_module_name [] = false
is_module_name (c ∷ cs) = is_small_letter c && every (λ d. is_small_letter d || is_digit d) cs && nat_lt (length cs) 32

-- a number from 1 to 4294967295, without a leading zero
abbrev pub is_site_number : Text → Bool
is_site_number [] = false
is_site_number (d ∷ ds) = is_digit d && not (d == 48) && every is_digit ds && nat_le (number_after 10 0 (d ∷ ds)) 4294967295

-- what stands before the first `_`, and what stands behind it
abbrev pub before_bar : Text → Text
before_bar [] = []
before_bar (c ∷ cs) = elim (c == 95) [ true ↦ [] | false ↦ c ∷ before_bar cs ]

abbrev pub behind_bar : Text → Text
behind_bar [] = []
behind_bar (c ∷ cs) = elim (c == 95) [ true ↦ cs | false ↦ behind_bar cs ]

abbrev pub behind_s : Text → Text
behind_s [] = []
behind_s (c ∷ cs) = elim (c == 115) [ true ↦ cs | false ↦ [] ]

-- the spelling of a symbol: a module's name, `_s`, and the number of a site
abbrev pub is_symbol : Text → Bool
is_symbol name = is_module_name (before_bar name) && is_site_number (behind_s (behind_bar name))

-- ---- tags

-- the elements without children
abbrev pub void_tags : List Text
void_tags = codes "area" ∷ codes "base" ∷ codes "br" ∷ codes "col" ∷ codes "embed" ∷ codes "hr" ∷ codes "img" ∷ codes "input" ∷ codes "link" ∷ codes "meta" ∷ codes "source" ∷ codes "track" ∷ codes "wbr" ∷ []

-- the elements that no module shows
abbrev pub refused_tags : List Text
refused_tags = codes "script" ∷ codes "style" ∷ codes "textarea" ∷ codes "title" ∷ codes "template" ∷ codes "html" ∷ codes "head" ∷ codes "body" ∷ []
