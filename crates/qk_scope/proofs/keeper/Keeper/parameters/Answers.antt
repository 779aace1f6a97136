use Rattle.std.proofs.Common.{[], ◌++◌, ◌∙◌, ap, subst, sym}
use Rattle.qk_ast.specs.Names.{patterns_names}
use Rattle.qk_locals.specs.Layers.{own}
use Rattle.qk_scope.specs.Answering.{Answers, declared_breaches}
use Rattle.qk_scope.proofs.Answered.{breaches_declared}
use Rattle.qk_scope.proofs.keeper.Keeper.parameters.Goals as goal

pub returns : goal.returns
returns c = let names = patterns_names c.args.params.now in
    subst (λ xs. Answers xs c.declare_patterns-2.result)
    (ap (λ earlier. declared_breaches earlier names) (ap (λ s. (own s).ended ++ c.new-earlier.result) c.new.ensures ∙ c.new-earlier.ensures) ∙ sym (breaches_declared c.args.self.now.rules [] names))
    c.declare_patterns-2.ensures.rules
