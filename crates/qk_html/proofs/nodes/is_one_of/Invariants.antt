use Rattle.std.specs.List.{list_any}
use Rattle.std.proofs.Common.{◌≡◌, drop, map}
use Rattle.qk_ast.specs.Texts.{same_text}
use Rattle.qk_html.proofs.nodes.is_one_of.Given as goal

abbrev pub invariant-loop-other : goal.invariant-loop-other
invariant-loop-other l = list_any (same_text l.text) (map (λ t. t.now) l.texts) ≡ list_any (same_text l.text) (map (λ t. t.now) (drop l.other-index l.texts))
