use Rattle.std.proofs.Common.{rules, ◌≡◌, [], ◌∷◌, ◌++◌, ◌∙◌, sym, ap, subst, not, OnOk, Err}
use Rattle.std.proofs.lemmas.List.{append-nil}
use Rattle.qk_ast.specs.declared.ScopeKind.TheVariants.{DuplicateName}
use Rattle.qk_ast.specs.Names.{is_listed}
use Rattle.qk_ast.specs.Walking.{with_name}
use Rattle.qk_ast.specs.Framework as framework
use Rattle.qk_ast.specs.Naming.{breach_if}
use Rattle.qk_locals.specs.Layers.{own}
use Rattle.qk_scope.specs.declared.fault.ScopeFault.TheVariants.{Memory}
use Rattle.qk_scope.specs.Answering.{Answers}
use Rattle.qk_scope.proofs.Answered.{wanted}
use Rattle.qk_scope.proofs.Declared.{refused_as, added_if}
use Rattle.qk_scope.proofs.declaring.declare.Goals as goal

pub returns-in_err-is_new-clause-rules : goal.returns-in_err-is_new-clause-rules
returns-in_err-is_new-clause-rules c = let e : c.from_residual.result ≡ Err Memory = search rules in wanted _ c.from_residual.result e

pub returns-clause-rules : goal.returns-clause-rules
returns-clause-rules c =
    let ended = (own c.args.scopes.now).ended in let name = c.args.name.now in let here = c.args.earlier.now in
    let e = c.is_refused.ensures ∙ refused_as name ended here (framework.is_taken name) c.in_ok-is_new.is_new (c.in_ok-is_new.ensures.new ∙ ap (λ n. not (is_listed n here)) c.as_str.ensures) in
    subst (λ b. Answers b c.refuse_if.result) (ap (λ b. breach_if b DuplicateName name) e ∙ sym (append-nil _)) c.refuse_if.ensures

pub returns-clause-earlier : goal.returns-clause-earlier
returns-clause-earlier c =
    let ended = (own c.args.scopes.now).ended in let name = c.args.name.now in let here = c.args.earlier.now in
    let e = c.is_refused.ensures ∙ refused_as name ended here (framework.is_taken name) c.in_ok-is_new.is_new (c.in_ok-is_new.ensures.new ∙ ap (λ n. not (is_listed n here)) c.as_str.ensures) in
    subst (λ s. OnOk c.refuse_if.result (s ≡ here ++ name ∷ [])) (sym (c.in_ok-is_new.ensures.names ∙ ap (with_name here) c.as_str.ensures))
    (added_if name ended here (framework.is_taken name) c.refuse_if.result (subst (λ b. Answers (breach_if b DuplicateName name) c.refuse_if.result) e c.refuse_if.ensures))
