use Rattle.std.proofs.Common.{◌∙◌, ap, []}
use Rattle.qk_ast.specs.Tokens.{longest_after}
use Rattle.qk_lex.specs.Tables.{signs_of}
use Rattle.qk_lex.proofs.BytesLemmas.{longest_by_first}
use Rattle.qk_lex.proofs.tables.longest_sign.Goals as goal

pub returns-in-len1-up : goal.returns-in-len1-up
returns-in-len1-up c =
    c.longest.ensures
    ∙ (ap (λ t. longest_after [] t c.args.text.now) c.signs_with.ensures
    ∙ longest_by_first c.args.text.now (signs_of c.args.signs) c.in-len1-up.len_at_least)
