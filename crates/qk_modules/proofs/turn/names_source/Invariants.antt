use Rattle.std.proofs.Common.{◌≡◌, drop}
use Rattle.std.specs.List.{list_any}
use Rattle.qk_ast.specs.Texts.{same_text}
use Rattle.qk_modules.proofs.turn.names_source.Given as goal

abbrev pub invariant-loop-import : goal.invariant-loop-import
invariant-loop-import l = list_any (λ i. same_text i.from l.source) l.imports ≡ list_any (λ i. same_text i.from l.source) (drop l.import-index l.imports)
