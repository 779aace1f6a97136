use Rattle.std.proofs.Common.{◌≡◌, drop, map}
use Rattle.qk_ast.specs.Texts.{is_among}
use Rattle.qk_ast.proofs.framework.is_one_of.Given as goal

abbrev pub invariant-loop-other : goal.invariant-loop-other
invariant-loop-other l = is_among l.text (map (λ t. t.now) l.texts) ≡ is_among l.text (map (λ t. t.now) (drop l.other-index l.texts))
