use Rattle.std.proofs.Common.{◌∙◌}
use Rattle.qk_token.proofs.Words.{same_word}
use Rattle.qk_token.proofs.token.is_word.Goals as goal

pub returns : goal.returns
returns c = c.is_same.ensures ∙ same_word c.args.text.now c.args.word.now c.as_bytes.result.now c.utf8.text c.requires c.as_bytes.ensures.value
