use Rattle.std.proofs.Common.{◌≡◌, drop}
use Rattle.qk_rules.specs.Breaches.{all_data, field_data}
use Rattle.qk_rules.proofs.items.+data.Given as goal

abbrev pub invariant-are_data-loop-x : goal.invariant-are_data-loop-x
invariant-are_data-loop-x l = all_data l.xs ≡ all_data (drop l.x-index l.xs)

abbrev pub invariant-are_data_fields-loop-field : goal.invariant-are_data_fields-loop-field
invariant-are_data_fields-loop-field l = field_data l.fields ≡ field_data (drop l.field-index l.fields)
