use Rattle.std.proofs.Common.{rules, ◌≡◌, [], ◌∷◌, ◌++◌, ◌∙◌, sym, ap, subst, not, OnOk, Err, ◌&&◌}
use Rattle.qk_ast.specs.declared.ScopeKind.TheVariants.{DuplicateName}
use Rattle.qk_ast.specs.Names.{is_listed}
use Rattle.qk_ast.specs.Walking.{with_name}
use Rattle.qk_ast.specs.Texts.{same_text}
use Rattle.qk_ast.specs.Framework as framework
use Rattle.qk_ast.specs.Mentions.{Imports}
use Rattle.qk_ast.specs.Naming.{breach_if}
use Rattle.qk_scope.specs.declared.fault.ScopeFault.TheVariants.{Memory}
use Rattle.qk_scope.specs.Answering.{Answers}
use Rattle.qk_scope.proofs.Answered.{wanted}
use Rattle.qk_scope.proofs.Chained.{one_mention, refused_alike, added_unless}
use Rattle.qk_scope.proofs.importing.import_name.Goals as goal

pub returns-in_err-is_new-clause-rules : goal.returns-in_err-is_new-clause-rules
returns-in_err-is_new-clause-rules c = let e : c.from_residual.result ≡ Err Memory = search rules in wanted _ c.from_residual.result e

pub returns-clause-rules : goal.returns-clause-rules
returns-clause-rules c =
    let name = c.args.name.now in let here = c.args.earlier.now in let form = c.args.rules.now.form in
    let taken = framework.is_taken name && not (same_text c.args.source.now framework.framework && framework.may_import form name) in
    let e = c.is_refused.ensures ∙ refused_alike (is_listed name here) taken (framework.is_symbol name) c.in_ok-is_new.is_new (c.in_ok-is_new.ensures.new ∙ ap (λ n. not (is_listed n here)) c.as_str.ensures) in
    subst (λ b. Answers b c.refuse_if.result) (ap (λ b. breach_if b DuplicateName name) e ∙ sym (one_mention c.args.rules.now (Imports name c.args.source.now here))) c.refuse_if.ensures

pub returns-clause-earlier : goal.returns-clause-earlier
returns-clause-earlier c =
    let name = c.args.name.now in let here = c.args.earlier.now in let form = c.args.rules.now.form in
    let taken = framework.is_taken name && not (same_text c.args.source.now framework.framework && framework.may_import form name) in
    let e = c.is_refused.ensures ∙ refused_alike (is_listed name here) taken (framework.is_symbol name) c.in_ok-is_new.is_new (c.in_ok-is_new.ensures.new ∙ ap (λ n. not (is_listed n here)) c.as_str.ensures) in
    subst (λ s. OnOk c.refuse_if.result (s ≡ here ++ name ∷ [])) (sym (c.in_ok-is_new.ensures.names ∙ ap (with_name here) c.as_str.ensures))
    (added_unless name here taken (framework.is_symbol name) c.refuse_if.result (subst (λ b. Answers (breach_if b DuplicateName name) c.refuse_if.result) e c.refuse_if.ensures))
