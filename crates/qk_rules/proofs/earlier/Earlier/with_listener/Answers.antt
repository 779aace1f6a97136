use Rattle.std.proofs.Common.{true, false, ap, sym, ◌∙◌}
use Rattle.qk_ast.specs.Names.{is_listed}
use Rattle.qk_rules.proofs.Event_sets.{lowered, new_name, listener_more, event_known}
use Rattle.qk_rules.proofs.earlier.Earlier.with_listener.Goals as goal

pub returns-then-contains : goal.returns-then-contains
returns-then-contains c =
    event_known c.self.inside.events c.self.inside.names c.args.self c.as_str.result.now c.args.name.now true c.self.invariant c.self.view_is
    (c.as_str.ensures.value ∙ c.in_ok-event.ensures.ok ∙ lowered c.args.name.now) (sym c.contains.ensures ∙ c.if-contains.true)

pub invariant_of-result : goal.invariant_of-result
invariant_of-result c =
    listener_more c.self.inside.events c.insert.new.self c.in_ok-event.event c.self.inside.names c.add.new.self c.args.name.now c.self.invariant (c.in_ok-event.ensures.ok ∙ lowered c.args.name.now) c.requires.listens
    (new_name c.self.inside.names c.add.new.self c.args.name.now (ap (is_listed c.args.name.now) c.self.view_is ∙ c.requires.new) c.in_ok-add.ensures.names) c.in_ok-insert.ensures.updates

pub returns : goal.returns
returns c = (
  event_known c.self.inside.events c.self.inside.names c.args.self c.as_str.result.now c.args.name.now false c.self.invariant c.self.view_is
      (c.as_str.ensures.value ∙ c.in_ok-event.ensures.ok ∙ lowered c.args.name.now) (sym c.contains.ensures ∙ c.if-contains.false),
  rw (← c.self.view_is) (new_name c.self.inside.names c.add.new.self c.args.name.now (ap (is_listed c.args.name.now) c.self.view_is ∙ c.requires.new) c.in_ok-add.ensures.names),
)
