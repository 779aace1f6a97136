use Rattle.std.proofs.Common.{◌∙◌}
use Rattle.qk_grammar.proofs.Words.{same_text}
use Rattle.qk_grammar.proofs.tags.is_same.Goals as goal

pub returns : goal.returns
returns c = c.eq.ensures ∙ same_text c.args.name.now c.args.other.now c.utf8.name c.utf8.other
