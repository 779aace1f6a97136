use Rattle.std.proofs.Common.{◌∙◌, ap, map}
use Rattle.qk_ast.specs.Names.{is_listed}
use Rattle.qk_locals.specs.Layers.{begun, behind_all}
use Rattle.qk_locals.proofs.Names.{listed_once}
use Rattle.qk_locals.proofs.layer.Layer.has_ended.Goals as goal

pub returns : goal.returns
returns c = c.has.ensures ∙ ap (is_listed c.args.name.now) c.self.invariant.1
    ∙ listed_once c.args.name.now (behind_all (map (λ statement. statement.now) c.self.inside.passed.items) (begun c.self.inside.origin)).ended
    ∙ ap (λ scope. is_listed c.args.name.now scope.ended) c.self.view_is
