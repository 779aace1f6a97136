use Rattle.std.specs.Prelude.{◌≡◌, drop}
use Rattle.qk_meaning.specs.Value.{end}
use Rattle.qk_meaning.specs.Parts.{in_listing_order}
use Rattle.qk_value.specs.View.{seen_fields}
use Rattle.qk_environment.specs.Scoping.{Captures}
use Rattle.qk_heap.specs.Distinct.{Distinct}
use Rattle.qk_making.proofs.records.kept_fields.Given as goal

abbrev pub invariant-loop-field : goal.invariant-loop-field
invariant-loop-field l = record {
  distinct : (names : Captures) → Distinct (seen_fields names l.held);
  listed : (names : Captures) → in_listing_order (in_listing_order end (seen_fields names l.held)) (seen_fields names (drop l.field-index l.fields)) ≡ in_listing_order end (seen_fields names l.fields);
}
