use Rattle.std.proofs.Common.{ap, rules}
use Rattle.qk_nodes.specs.Tree.{nodes_of}
use Rattle.qk_tree.proofs.Steps.{the_app, app_stops, app_gives}
use Rattle.qk_tree.proofs.walk.expand_app.Goals as goal

pub returns-in_err-component : goal.returns-in_err-component
returns-in_err-component g c = λ w f.
    let n = g.V.Visit.names w in
    let told = c.in_err-component.ensures.told w f in (
      told.0,
      λ s k. app_stops (g.V.Visit.stands w c.component.new.visit) (g.V.Visit.refused w c.component.new.visit) n (nodes_of n c.new-out.result.items) (ap (nodes_of n) c.new-out.ensures.items) _ _
          (the_app (g.V.Visit.visits w) n c.new-path.result.items c.in_ok-element.element c.args.app.now s c.new-path.ensures.items c.in_ok-element.ensures.0 c.in_ok-element.ensures.1 c.in_ok-element.ensures.2)
          c.in_err-component.field-0.0 c.from_residual-in_err-component.result (search rules) (nodes_of n c.component.new.out.items) c.args.room.now c.component.new.room (told.1 s k),
    )

pub returns : goal.returns
returns g c = λ w f.
    let n = g.V.Visit.names w in
    let told = c.in_ok-component.ensures.told w f in (
      told.0,
      λ s k. app_gives (g.V.Visit.stands w c.component.new.visit) (g.V.Visit.refused w c.component.new.visit) (nodes_of n c.new-out.result.items) (ap (nodes_of n) c.new-out.ensures.items) _ _
          (the_app (g.V.Visit.visits w) n c.new-path.result.items c.in_ok-element.element c.args.app.now s c.new-path.ensures.items c.in_ok-element.ensures.0 c.in_ok-element.ensures.1 c.in_ok-element.ensures.2)
          (nodes_of n c.component.new.out.items) c.args.room.now c.component.new.room (told.1 s k),
    )
