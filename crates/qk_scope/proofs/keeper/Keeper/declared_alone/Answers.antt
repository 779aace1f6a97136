use Rattle.std.proofs.Common.{[], ◌∙◌, ap}
use Rattle.qk_ast.specs.Framework.{is_taken}
use Rattle.qk_scope.proofs.Answered.{one_declared}
use Rattle.qk_scope.proofs.keeper.Keeper.declared_alone.Goals as goal

pub returns : goal.returns
returns c = one_declared c.args.self.now.rules c.args.name.now [] c.is_taken.result c.refuse_if.result (c.is_taken.ensures ∙ ap is_taken c.as_str.ensures) c.refuse_if.ensures
