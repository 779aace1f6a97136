use Rattle.std.proofs.Common.{◌≡◌, drop}
use Rattle.std.specs.Option.{option_copied}
use Rattle.qk_meaning.specs.Parts.{or_else}
use Rattle.qk_nodes.specs.Tree.{path_of}
use Rattle.qk_hooks.specs.Providing.{context_of}
use Rattle.qk_hooks.proofs.contexts.nearest.Given as goal

abbrev pub invariant-loop-instance : goal.invariant-loop-instance
invariant-loop-instance l = context_of l.id (path_of l.path) l.all ≡ or_else (context_of l.id (path_of l.path) (drop l.instance-index l.all)) (option_copied l.found)
