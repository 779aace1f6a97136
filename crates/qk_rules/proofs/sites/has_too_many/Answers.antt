use Rattle.qk_rules.proofs.Dollar_sites.{too_many}
use Rattle.qk_rules.proofs.sites.has_too_many.Goals as goal

pub returns : goal.returns
returns c = too_many c.args.items.now c.in_items.result c.in_items.ensures
