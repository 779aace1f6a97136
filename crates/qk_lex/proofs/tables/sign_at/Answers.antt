use Rattle.std.proofs.Common.{◌∙◌, sym}
use Rattle.std.specs.Str.{chars}
use Rattle.std.proofs.lemmas.Str.{encodes-chars}
use Rattle.qk_lex.specs.Tables.{sign_at, signs_of}
use Rattle.qk_lex.proofs.BytesLemmas.{longest_in, signs_ascii}
use Rattle.qk_lex.proofs.tables.sign_at.Goals as goal

pub returns : goal.returns
unfolding sign_at
returns c =
    longest_in (signs_of c.args.signs) (signs_ascii c.args.signs) c.as_bytes.result.now (chars c.args.text.now) c.longest_sign.result.now
    c.longest_sign.ensures
    (c.as_bytes.ensures.value ∙ sym (encodes-chars c.args.text.now c.utf8.text))
