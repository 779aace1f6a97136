use Rattle.std.proofs.Common.{rules, sym, ◌∙◌}
use Rattle.qk_rules.proofs.Answering.{wants}
use Rattle.qk_rules.proofs.Whole_check.{sites_refused}
use Rattle.qk_rules.proofs.checking.sites_told.Goals as goal

pub returns-in_err-name : goal.returns-in_err-name
returns-in_err-name c = wants (search rules)

pub returns-then-has_too_many : goal.returns-then-has_too_many
returns-then-has_too_many c = sites_refused _ c.in_ok-name.name (sym c.has_too_many.ensures ∙ c.if-has_too_many.true) c.in_ok-name.ensures
