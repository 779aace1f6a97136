-- What the words of a call mean.
use Rattle.std.specs.Prelude.{true, false, Option, Some, None, codes}
use Rattle.qk_ast.specs.Texts.{Text, same_text}
use Rattle.qk_code.specs.declared.mode.Mode.{Mode}

abbrev pub mode_of : Text → Option Mode
mode_of word = elim (same_text word (codes "pure")) [ true ↦ Some Mode.Pure | false ↦ elim (same_text word (codes "effect")) [ true ↦ Some Mode.Effect | false ↦ None ] ]
