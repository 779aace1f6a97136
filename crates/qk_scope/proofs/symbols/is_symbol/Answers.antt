use Rattle.std.proofs.Common.{◌∙◌}
use Rattle.qk_scope.proofs.Read.{read_or_none}
use Rattle.qk_scope.proofs.symbols.is_symbol.Goals as goal

pub returns : goal.returns
returns c = c.is_some.ensures ∙ read_or_none c.args.name.now c.read_symbol.result c.read_symbol.ensures.some c.read_symbol.ensures.none
