use Rattle.std.proofs.Common.{◌≡◌, subst, Some, None}
use Rattle.qk_ast.specs.Mentions.{Uses}
use Rattle.qk_ast.specs.Naming.{naming_breaches}
use Rattle.qk_scope.specs.Answering.{first_of, breach_by}
use Rattle.qk_scope.proofs.Answered.{use_fails, use_passes}
use Rattle.qk_scope.proofs.keeper.Keeper.name.Goals as goal

pub returns-in-Some : goal.returns-in-Some
returns-in-Some c = let k = c.args.self.now in
    use_fails k.rules (Uses c.args.name.now c.args.assigned k.scopes) c.args.name.now c.in-Some.kind c.refusal.result
    (subst (λ n. first_of (naming_breaches k.rules.form k.rules.file.now k.rules.roots (Uses n c.args.assigned k.scopes)) ≡ breach_by n (Some c.in-Some.kind)) c.as_str.ensures c.in-Some.ensures) c.refusal.ensures

pub returns-in-None : goal.returns-in-None
returns-in-None c = let k = c.args.self.now in
    use_passes k.rules (Uses c.args.name.now c.args.assigned k.scopes) c.args.name.now
    (subst (λ n. first_of (naming_breaches k.rules.form k.rules.file.now k.rules.roots (Uses n c.args.assigned k.scopes)) ≡ breach_by n None) c.as_str.ensures c.in-None.ensures)
