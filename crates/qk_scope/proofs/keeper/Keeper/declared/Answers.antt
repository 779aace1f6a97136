use Rattle.std.proofs.Common.{◌∙◌}
use Rattle.qk_ast.specs.Names.{is_listed}
use Rattle.qk_ast.specs.Framework.{is_taken}
use Rattle.qk_locals.specs.Layers.{own}
use Rattle.qk_scope.proofs.Answered.{one_declared, new_alike}
use Rattle.qk_scope.proofs.keeper.Keeper.declared.Goals as goal

pub returns : goal.returns
returns c = let k = c.args.self.now in let name = c.args.name.now in
    one_declared k.rules name (own k.scopes).ended c.is_refused.result c.refuse_if.result (c.is_refused.ensures ∙ new_alike (is_listed name (own k.scopes).ended) (is_taken name)) c.refuse_if.ensures
