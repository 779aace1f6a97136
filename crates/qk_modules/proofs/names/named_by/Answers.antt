use Rattle.std.proofs.Common.{sym, ◌∙◌}
use Rattle.qk_modules.proofs.Sourcing.{named_is, named_none}
use Rattle.qk_modules.proofs.names.named_by.Goals as goal

pub returns-then-is_module_name : goal.returns-then-is_module_name
returns-then-is_module_name c = named_is c.args.source.now c.in_ok-base.base.now c.in_ok-base.ensures (sym c.is_module_name.ensures ∙ c.if-is_module_name.true)

pub returns-else-is_module_name : goal.returns-else-is_module_name
returns-else-is_module_name c = named_none c.args.source.now c.in_ok-base.base.now c.in_ok-base.ensures (sym c.is_module_name.ensures ∙ c.if-is_module_name.false)
