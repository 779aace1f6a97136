use Rattle.std.proofs.Common.{ap, ◌∙◌, ℕ, rules}
use Rattle.qk_sites.specs.Symbols.{symbol_text}
use Rattle.qk_whole.specs.Telling.{site_at}
use Rattle.qk_whole.proofs.known.Known.called.Goals as goal

pub returns-then-eq : goal.returns-then-eq
returns-then-eq c = (search rules, c.in_ok-symbol.ensures ∙ ap (λ (n : ℕ). symbol_text (site_at c.args.self.now n).«module» (site_at c.args.self.now n).number) c.place_of.ensures)
