use Rattle.std.specs.Prelude.{◌≡◌, [], drop}
use Rattle.qk_meaning.specs.Markup as meaning
use Rattle.qk_value.specs.View.{seen_all}
use Rattle.qk_environment.specs.Scoping.{Captures}
use Rattle.qk_making.proofs.children.+children.Given as goal

abbrev pub invariant-try_children-loop-child : goal.invariant-try_children-loop-child
invariant-try_children-loop-child l = (names : Captures) → meaning.sequence_fault (seen_all names (drop l.child-index l.children)) l.keys ≡ meaning.sequence_fault (seen_all names l.children) []
