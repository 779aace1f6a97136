use Rattle.std.proofs.Common.{sym, ap, ◌∙◌}
use Rattle.qk_ast.specs.declared.Body.TheVariants as b
use Rattle.qk_whole.proofs.Levels.{shallow_block}
use Rattle.qk_whole.proofs.heights.is_shallow.Goals as goal

pub returns-in-Block : goal.returns-in-Block
returns-in-Block c = λ h. shallow_block c.args.arrow.now c.as_slice.result.now (c.in-Block.is ∙ ap b.Block (sym c.as_slice.ensures)) (c.is_within-in-Block.ensures h)
