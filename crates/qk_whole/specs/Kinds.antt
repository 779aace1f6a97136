-- The index of an application that isn't split: what the function of each symbol is for, by where its arrow stands.
use Rattle.std.specs.Prelude.{ℕ, zero, suc, ◌-◌, List, [], ◌∷◌}
use Rattle.qk_ast.specs.Sources.{Named_module, module_of}
use Rattle.qk_ast.specs.Texts.{Text}
use Rattle.qk_lifting.specs.declared.SegmentKind.{SegmentKind}
use Rattle.qk_lifting.specs.declared.SegmentKind.TheVariants.{Component, Task, Computed, Fn}
use Rattle.qk_lifting.specs.Kinds.{item_kinds}
use Rattle.qk_meaning.specs.Value.{Site, Shown, Lifted_component}
use Rattle.qk_meaning.specs.Index.{Kind, For_component, For_task, For_computed, For_function, Index}
use Rattle.qk_meaning.specs.Readings.{site_spelled, captured_program_of}

abbrev pub kind_for : SegmentKind → Kind
kind_for Component = For_component
kind_for Task = For_task
kind_for Computed = For_computed
kind_for Fn = For_function

abbrev pub nth_kind : List SegmentKind → ℕ → Kind
nth_kind [] n = For_function
nth_kind (kind ∷ rest) zero = kind_for kind
nth_kind (kind ∷ rest) (suc n) = nth_kind rest n

-- of the dollar arrow of a site
abbrev pub kind_at : List Named_module → Site → Kind
kind_at modules site = nth_kind (item_kinds (module_of modules site.file).items) (site.number - 1)

abbrev pub shown_symbol : Shown → Text
shown_symbol (Lifted_component symbol) = symbol
shown_symbol _ = []

abbrev pub index_of : List Named_module → Index
index_of modules = record { app = shown_symbol (captured_program_of modules).app; kind_of = λ symbol. kind_at modules (site_spelled symbol) }
