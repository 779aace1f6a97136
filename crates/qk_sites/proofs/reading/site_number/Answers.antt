use Rattle.std.proofs.Common.{◌∙◌, ap, rules, get_or, ◌≡◌}
use Rattle.qk_sites.proofs.Decimals.{read_digits}
use Rattle.qk_sites.proofs.reading.site_number.Goals as goal

pub returns-in-Some-49-to-57 : goal.returns-in-Some-49-to-57
returns-in-Some-49-to-57 c =
    let first : c.in-Some-49-to-57.field-0.now ≡ get_or c.args.digits.now 0 0 = c.in-Some-49-to-57.ensures.item.3.1 0 ∙ ap (λ ds. get_or ds 0 0) c.as_bytes.ensures.value in
    c.ok.ensures.value ∙ read_digits c.args.digits.now c.in-Some-49-to-57.field-0.now c.parse.result first (search rules) c.parse.ensures.value.0 (search rules)
