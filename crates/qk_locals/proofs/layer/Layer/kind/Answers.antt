use Rattle.std.proofs.Common.{◌∙◌, ap}
use Rattle.qk_ast.specs.Scopes.{kind_in}
use Rattle.qk_locals.proofs.layer.Layer.kind.Goals as goal

pub returns : goal.returns
returns c = c.kind.ensures ∙ c.self.invariant.0 c.args.name.now ∙ ap (λ scope. kind_in c.args.name.now scope.declared) c.self.view_is
