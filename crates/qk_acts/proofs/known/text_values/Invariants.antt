use Rattle.std.proofs.Common.{◌≡◌, List, map}
use Rattle.qk_ast.specs.Texts as texts
use Rattle.qk_meaning.specs.Value.{Site}
use Rattle.qk_meaning.specs.Methods.{as_values}
use Rattle.qk_value.specs.View.{seen}
use Rattle.qk_acts.proofs.known.text_values.Given as goal

abbrev pub invariant-loop-name : goal.invariant-loop-name
invariant-loop-name l = (captured : Site → List texts.Text) → map (seen captured) l.all ≡ as_values l.yielded
