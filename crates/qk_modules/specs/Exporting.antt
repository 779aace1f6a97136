-- The set of what modules export.
use Rattle.std.specs.Prelude.{◌≡◌, ℕ, Bool, true, false, List, Some, None}
use Rattle.std.specs.List.{list_any}
use Rattle.std.specs.Borrow.{Bor}
use Rattle.std.specs.Ordering.{is_eq, nat_cmp, ordering_then}
use Rattle.std.specs.Cmp.Lexicographic.{slice_cmp}
use Rattle.std.specs.BTreeSet.{BTreeSet}
use Rattle.qk_ast.specs.Texts.{Text, same_text, is_among}
use Rattle.qk_ast.specs.Framework.{framework, framework_names}
use Rattle.qk_modules.specs.declared.modules.NamedModule.{NamedModule}
use Rattle.qk_modules.specs.declared.fault.GatherFault.{GatherFault}
use Rattle.qk_modules.specs.declared.fault.GatherFault.TheVariants.{ExportMissing}
use Rattle.qk_modules.specs.Gathering.{named_by, one_exports}

-- pairs of texts on loan
abbrev pub Pairs : Type 0
Pairs = BTreeSet (Bor (List ℕ) × Bor (List ℕ))

abbrev pub has_pair : Pairs → Text → Text → Bool
has_pair set m name = list_any (λ k. is_eq (ordering_then (slice_cmp nat_cmp m k.0.now) (slice_cmp nat_cmp name k.1.now))) set.keys

-- it has each module's name with each name that the module exports, and no other pair
abbrev pub HoldsExports : Pairs → List NamedModule → Type 0
HoldsExports set modules = (m name : Text) → has_pair set m name ≡ one_exports modules m name

-- the source exports the name, by the set
abbrev pub is_in_set : Pairs → (source name : Text) → Bool
is_in_set set source name =
    elim (same_text source framework) [
      | true ↦ is_among name framework_names
      | false ↦ elim (named_by source) [ Some m ↦ has_pair set m name | None ↦ false ]
    ]

-- the refusal of a name that a module wants
abbrev pub unexported : Text × Text → GatherFault
unexported p = ExportMissing p.0 p.1
