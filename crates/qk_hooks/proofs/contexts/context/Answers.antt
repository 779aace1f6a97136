use Rattle.std.specs.Option.{option_map}
use Rattle.std.proofs.Common.{◌∙◌, sym, ap}
use Rattle.qk_value.specs.View.{seen}
use Rattle.qk_nodes.specs.Tree.{path_of}
use Rattle.qk_hooks.proofs.Found.{context_found}
use Rattle.qk_hooks.proofs.contexts.context.Goals as goal

pub returns-clause-meant : goal.returns-clause-meant
returns-clause-meant c = λ names log meant are. context_found names log c.args.id.now (path_of c.args.path.now) c.args.all.now meant are ∙ ap (option_map (seen names)) (sym c.nearest.ensures)
