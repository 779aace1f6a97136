-- What stands for an arrow at a place that a module doesn't have: the last plain arrow, with its number, or number 0 where there is none.
use Rattle.std.specs.Prelude.{◌-◌, true, false, List, [], ◌∷◌, length, Option, Some}
use Rattle.qk_ast.specs.Texts.{Text}
use Rattle.qk_ast.specs.Arrows.{Found_arrow, of_kind, nth_arrow}
use Rattle.qk_ast.specs.Uses.{captures_of}
use Rattle.qk_captures.specs.declared.Captured.{Captured}

abbrev pub elsewhere_of : Text → List Found_arrow → Captured
elsewhere_of file all = record {
  site = record { «module» = file; number = length (of_kind false all); dollar = false };
  names = captures_of (nth_arrow (of_kind false all) (length (of_kind false all) - 1));
}

-- the last plain one of these, or the one before them
abbrev pub last_plain : Option Captured → List Captured → Option Captured
last_plain last [] = last
last_plain last (c ∷ rest) = last_plain (elim c.site.dollar [ true ↦ last | false ↦ Some c ]) rest
