use Rattle.qk_ast.specs.Scopes.{declarations_in}
use Rattle.qk_locals.specs.Meanings.{mark_of, kind_of}
use Rattle.qk_locals.specs.Declaring.{declared_at}
use Rattle.qk_locals.proofs.Declarations.{arrow_declares}
use Rattle.qk_locals.proofs.Behind.{ended_at_begin}
use Rattle.qk_locals.proofs.layer.Layer.of_arrow.Goals as goal

pub invariant_of-result : goal.invariant_of-result
invariant_of-result c = (
  arrow_declares (mark_of c.args.mark) c.args.params.now (declarations_in c.args.body.now) (kind_of c.parameter_kind.result)
      (declared_at c.new-declared.result) (declared_at c.add_parameters.new.self) (declared_at c.add_body.new.self)
      c.new-declared.ensures c.parameter_kind.ensures c.in_ok-add_parameters.ensures c.in_ok-add_body.ensures,
  ended_at_begin c.args.params.now c.new-ended.result c.add_parameters-2.new.self c.new.result.items c.new-ended.ensures c.in_ok-add_parameters-2.ensures c.new.ensures.items,
)
