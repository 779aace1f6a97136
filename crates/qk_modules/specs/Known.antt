-- A set of texts beside their list.
use Rattle.std.specs.Prelude.{◌≡◌, ℕ, List, String}
use Rattle.std.specs.BTreeSet.{BTreeSet, contains_text}
use Rattle.qk_ast.specs.Names.{is_listed}

-- it has each text of the list, and no other
abbrev pub HasTexts : {Y : Type 0} → BTreeSet (String Y) → List (List ℕ) → Type 0
HasTexts set texts = (text : List ℕ) → contains_text set text ≡ is_listed text texts
