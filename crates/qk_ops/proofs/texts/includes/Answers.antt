use Rattle.std.proofs.Common.{◌∙◌, subst}
use Rattle.memchr.specs.Find.{FindsNeedle}
use Rattle.qk_ops.proofs.Pieces.{search_finds}
use Rattle.qk_ops.proofs.texts.includes.Goals as goal

pub returns : goal.returns
returns c =
    c.is_some.ensures
    ∙ search_finds c.args.t.now c.args.piece.now c.find.result
    (subst (λ t. FindsNeedle t c.args.piece.now 0 c.find.result) c.as_bytes.ensures.value (subst (λ p. FindsNeedle c.as_bytes.result.now p 0 c.find.result) c.as_bytes-2.ensures.value c.find.ensures))
