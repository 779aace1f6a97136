use Rattle.std.proofs.Common.{◌++◌, ◌∙◌, ap, subst, sym}
use Rattle.std.proofs.lemmas.List.{append-nil}
use Rattle.qk_ast.specs.Names.{pattern_names}
use Rattle.qk_locals.specs.Layers.{own}
use Rattle.qk_scope.specs.Answering.{Answers, declared_breaches}
use Rattle.qk_scope.proofs.Answered.{breaches_declared}
use Rattle.qk_scope.proofs.keeper.Keeper.pattern.Goals as goal

pub returns : goal.returns
returns c = let names = pattern_names c.args.pattern.now in let ended = (own c.args.self.now.scopes).ended in
    subst (λ xs. Answers xs c.declare_pattern.result)
    (ap (λ earlier. declared_breaches earlier names) (ap (λ here. ended ++ here) c.new-earlier.ensures ∙ append-nil ended) ∙ sym (breaches_declared c.args.self.now.rules ended names))
    c.declare_pattern.ensures.rules
