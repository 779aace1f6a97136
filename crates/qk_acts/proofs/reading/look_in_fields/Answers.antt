use Rattle.std.specs.Option.{option_map}
use Rattle.std.specs.Prelude.{[], ◌∷◌}
use Rattle.std.proofs.Common.{ap, ◌∙◌}
use Rattle.qk_meaning.specs.Value as M
use Rattle.qk_meaning.specs.World as W
use Rattle.qk_meaning.specs.Parts.{in_listing_order, or_undefined}
use Rattle.qk_value.specs.View.{seen, seen_fields}
use Rattle.qk_heap.proofs.Standing_values.{field_stands, listed_stands}
use Rattle.qk_acts.proofs.Looked.{field_read}
use Rattle.qk_acts.proofs.reading.look_in_fields.Goals as goal

pub returns-clause-plain : goal.returns-clause-plain
returns-clause-plain c = λ captured.
    field_read (λ t. record { address = c.args.a.0; key = W.Prop t } ∷ []) (in_listing_order M.end (seen_fields captured c.args.fields.now)) (seen captured c.args.key.now) c.in_ok-name.name (seen captured c.in_ok-v.v) (c.in_ok-name.ensures.name captured)
    (c.in_ok-v.ensures captured ∙ ap or_undefined (ap (option_map (seen captured)) c.get.ensures.value ∙ listed_stands captured c.in_ok-name.name c.args.fields.now c.get.ensures.distinct))

pub returns-clause-props : goal.returns-clause-props
returns-clause-props c = λ captured.
    field_read (λ t. record { address = c.args.a.0; key = W.Prop t } ∷ []) (seen_fields captured c.args.fields.now) (seen captured c.args.key.now) c.in_ok-name.name (seen captured c.in_ok-v.v) (c.in_ok-name.ensures.name captured)
    (c.in_ok-v.ensures captured ∙ ap or_undefined (ap (option_map (seen captured)) c.get.ensures.value ∙ field_stands captured c.in_ok-name.name c.args.fields.now))
