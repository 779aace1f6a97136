use Rattle.std.proofs.Common.{arith, w64, ◌∙◌, ap}
use Rattle.std.specs.Prelude.{pos}
use Rattle.std.proofs.lemmas.Int.{to_z_pos}
use Rattle.qk_acts.proofs.Code_units.{units_within}
use Rattle.qk_acts.proofs.reading.code_units.Goals as goal

pub overflow_cast-result : goal.overflow_cast-result
overflow_cast-result c = omega (arith, units_within c.args.text.now c.utf8.text)

pub returns : goal.returns
returns c = to_z_pos w64 c.utf16_length.result (omega (arith, units_within c.args.text.now c.utf8.text)) ∙ ap pos c.utf16_length.ensures
