use Rattle.std.proofs.Common.{◌∙◌, ap, sym}
use Rattle.qk_meaning.specs.Value as M
use Rattle.qk_meaning.specs.Value.{end}
use Rattle.qk_meaning.specs.Parts.{in_listing_order}
use Rattle.qk_meaning.specs.Setting.{captures}
use Rattle.qk_meaning.specs.Making as making
use Rattle.qk_value.specs.View.{seen_fields}
use Rattle.qk_value.proofs.Viewing.{seen-Record}
use Rattle.qk_making.specs.Acting.{seen_in}
use Rattle.qk_making.proofs.Making.{so_meant}
use Rattle.qk_making.proofs.records.fixed_record.Goals as goal

pub returns : goal.returns
returns c = λ here. so_meant
    (seen_in here) _ (making.made here (M.Record (in_listing_order end (seen_fields (captures here) c.args.fields.now)))) c.fixed.result
    (ap (making.made here) (ap M.Record (sym (c.in_ok-listed_fields.ensures (captures here))) ∙ sym (seen-Record (captures here) c.in_ok-listed_fields.field-0)))
    (c.fixed.ensures here)
