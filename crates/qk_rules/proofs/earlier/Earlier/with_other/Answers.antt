use Rattle.std.proofs.Common.{ap, ◌∙◌}
use Rattle.qk_ast.specs.Names.{is_listed}
use Rattle.qk_rules.proofs.Event_sets.{new_name, other_more}
use Rattle.qk_rules.proofs.earlier.Earlier.with_other.Goals as goal

pub invariant_of-result : goal.invariant_of-result
invariant_of-result c =
    other_more c.self.inside.events c.self.inside.names c.add.new.self c.args.name.now c.self.invariant c.requires.quiet
    (new_name c.self.inside.names c.add.new.self c.args.name.now (ap (is_listed c.args.name.now) c.self.view_is ∙ c.requires.new) c.in_ok-add.ensures.names)
