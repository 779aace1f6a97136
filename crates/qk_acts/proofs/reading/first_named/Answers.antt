use Rattle.std.proofs.Common.{sym, ◌∙◌}
use Rattle.std.proofs.lemmas.List.{at_drop_all}
use Rattle.qk_meaning.specs.Parts.{found}
use Rattle.qk_value.specs.View.{seen_fields}
use Rattle.qk_acts.proofs.Looked.{field_here, field_later}
use Rattle.qk_acts.proofs.reading.first_named.Goals as goal

pub returns-then-is_same : goal.returns-then-is_same
returns-then-is_same c = λ captured.
    sym (field_here captured c.args.name.now c.args.fields.now c.loop-other.other-index c.loop-other-item.result c.loop-other-test.true c.loop-other-item.is (sym c.is_same.ensures ∙ c.if-is_same.true)) ∙ c.loop-other.invariant captured

pub loop-other-preserved : goal.loop-other-preserved
loop-other-preserved c = λ captured.
    field_later captured c.args.name.now c.args.fields.now c.loop-other.other-index c.loop-other-item.result c.loop-other-test.true c.loop-other-item.is (sym c.is_same.ensures ∙ c.if-is_same.false) ∙ c.loop-other.invariant captured

pub returns : goal.returns
returns c = λ captured. sym (at_drop_all (λ fields. found c.args.name.now (seen_fields captured fields)) c.args.fields.now c.loop-other.other-index c.loop-other-test.false) ∙ c.loop-other.invariant captured
