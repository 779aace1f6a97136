use Rattle.std.proofs.Common.{ap, ◌∙◌}
use Rattle.qk_ast.specs.declared.Site.{Site}
use Rattle.qk_sites.specs.Symbols.{symbol_text}
use Rattle.qk_whole.proofs.Results.{if_ok}
use Rattle.qk_whole.proofs.known.Known.symbol_at.Goals as goal

pub returns : goal.returns
returns c = if_ok c.symbol_of.result (λ text e. e ∙ ap (λ (s : Site). symbol_text s.«module» s.number) c.site_at-site.ensures) c.symbol_of.ensures
