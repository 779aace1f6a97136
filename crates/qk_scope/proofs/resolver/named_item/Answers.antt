use Rattle.std.proofs.Common.{rules, [], ◌∷◌, refl}
use Rattle.qk_ast.specs.Arrows.{Unmarked}
use Rattle.qk_ast.specs.Mentions.{Roots, mentions}
use Rattle.qk_scope.proofs.Walked.{fails_first, second}
use Rattle.qk_scope.proofs.resolver.named_item.Goals as goal

pub returns-in_err-item_name-clause-rules : goal.returns-in_err-item_name-clause-rules
returns-in_err-item_name-clause-rules c = let k = c.args.keeper.now in
    fails_first k.rules _ (Roots c.args.item.now.name c.args.earlier.now ∷ []) (mentions c.args.item.now.init Unmarked k.scopes) _ c.in_err-item_name.field-0.0 refl (search rules) c.in_err-item_name.ensures.rules

pub returns-clause-rules : goal.returns-clause-rules
returns-clause-rules c = let k = c.args.keeper.now in
    second k.rules _ (Roots c.args.item.now.name c.args.earlier.now ∷ []) (mentions c.args.item.now.init Unmarked k.scopes) _ refl c.in_ok-item_name.ensures.rules c.expression.ensures.rules
