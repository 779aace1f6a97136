-- The arrows of a module or built file as sites, each with the names that it captures.
use Rattle.std.specs.Prelude.{suc, List, [], ◌∷◌, ◌++◌, length}
use Rattle.qk_ast.specs.declared.Form.{Form}
use Rattle.qk_ast.specs.declared.Form.TheVariants.{Source, Built}
use Rattle.qk_ast.specs.declared.Module.{Module}
use Rattle.qk_ast.specs.Texts.{Text}
use Rattle.qk_ast.specs.Arrows.{Found_arrow, item_arrows, built_arrows, is_dollar, of_kind}
use Rattle.qk_ast.specs.Uses.{captures_of}
use Rattle.qk_captures.specs.declared.Captured.{Captured}

-- ---- the arrows of a file, in text order, each with the names declared around it

abbrev pub arrows_of : Form → Module → List Found_arrow
arrows_of Source m = item_arrows m.items
arrows_of Built m = built_arrows m.items

-- ---- their sites and captures

-- the arrows behind those before them: each is numbered from 1 among those of its kind
abbrev pub captured_after : Text → (before : List Found_arrow) → List Found_arrow → List Captured
captured_after file before [] = []
captured_after file before (a ∷ rest) =
    record { site = record { «module» = file; number = suc (length (of_kind (is_dollar a) before)); dollar = is_dollar a }; names = captures_of a }
    ∷ captured_after file (before ++ a ∷ []) rest

-- all arrows of a module or built file of that name, in text order
abbrev pub captured_in : Form → Text → Module → List Captured
captured_in form file m = captured_after file [] (arrows_of form m)
