use Rattle.std.specs.Prelude.{◌≡◌, pos, []}
use Rattle.std.proofs.Common.{ap, sym, ◌∙◌, rules, w64, to_z, of_z}
use Rattle.qk_meaning.specs.Value as M
use Rattle.qk_meaning.specs.Texts.{utf16_length}
use Rattle.qk_meaning.specs.Heap.{Found}
use Rattle.qk_acts.proofs.Looked.{reads_refused}
use Rattle.qk_acts.proofs.reading.look_in_text.Goals as goal

pub returns-in_err-only : goal.returns-in_err-only
returns-in_err-only c = reads_refused _ c.from_residual.result c.in_err-only.field-0.0 (search rules) (λ captured. c.in_err-only.ensures.read captured (Found (M.Int (pos (utf16_length c.args.text.now))) []))

pub returns : goal.returns
returns c = λ captured.
    let same : to_z w64 (of_z w64 c.code_units.result) ≡ c.code_units.result = search rules in
    c.in_ok-only.ensures.read captured (Found (M.Int (pos (utf16_length c.args.text.now))) [])
    ∙ ap (λ n. Found (M.Int n) []) (sym c.code_units.ensures ∙ sym same)
