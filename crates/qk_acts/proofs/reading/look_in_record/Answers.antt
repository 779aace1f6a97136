use Rattle.std.specs.Prelude.{[]}
use Rattle.std.proofs.Common.{ap, ◌∙◌}
use Rattle.qk_meaning.specs.Parts.{or_undefined}
use Rattle.qk_value.specs.View.{seen, seen_fields}
use Rattle.qk_acts.proofs.Looked.{field_read}
use Rattle.qk_acts.proofs.reading.look_in_record.Goals as goal

pub returns : goal.returns
returns c = λ captured.
    field_read (λ t. []) (seen_fields captured c.args.fields.now) (seen captured c.args.key.now) c.in_ok-name.name (seen captured c.in_ok-v.v) (c.in_ok-name.ensures.name captured)
    (c.in_ok-v.ensures captured ∙ ap or_undefined (c.first_named.ensures captured))
