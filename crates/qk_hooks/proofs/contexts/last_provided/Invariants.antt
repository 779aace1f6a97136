use Rattle.std.proofs.Common.{◌≡◌, drop}
use Rattle.std.specs.Option.{option_copied}
use Rattle.qk_meaning.specs.Parts.{or_else}
use Rattle.qk_hooks.specs.Providing.{provided}
use Rattle.qk_hooks.proofs.contexts.last_provided.Given as goal

abbrev pub invariant-loop-hook : goal.invariant-loop-hook
invariant-loop-hook l = provided l.id l.hooks ≡ or_else (provided l.id (drop l.hook-index l.hooks)) (option_copied l.found)
