use Rattle.std.proofs.Common.{rules, ◌≡◌, ◌∙◌, ap, subst, Err}
use Rattle.qk_ast.specs.Mentions.{module_mentions}
use Rattle.qk_scope.specs.Answering.{Answers, breaches}
use Rattle.qk_scope.proofs.Answered.{wanted}
use Rattle.qk_scope.proofs.Resolved.{by_set, imports_fail, items_answer}
use Rattle.qk_scope.proofs.resolver.keeps_names.Goals as goal

pub returns-in_err-roots : goal.returns-in_err-roots
returns-in_err-roots c = wanted _ _ (search rules)

pub returns-in_err-imports : goal.returns-in_err-imports
returns-in_err-imports c =
    let e : c.from_residual-in_err-imports.result ≡ Err c.in_err-imports.field-0.0 = search rules in
    subst (λ xs. Answers xs c.from_residual-in_err-imports.result)
    (ap (λ r. breaches r (module_mentions c.args.m.now)) c.new-keeper.ensures.rules
    ∙ by_set (record { alloc = c.args.alloc; form = c.args.form; file = c.args.file; roots = c.in_ok-roots.roots }) c.args.m.now c.in_ok-roots.ensures)
    (imports_fail c.new-keeper.result.rules c.args.m.now c.new-earlier.result c.as_slice.result.now _ c.in_err-imports.field-0.0 c.new-earlier.ensures c.as_slice.ensures e c.in_err-imports.ensures.rules)

pub returns : goal.returns
returns c =
    subst (λ xs. Answers xs c.items.result)
    (ap (λ r. breaches r (module_mentions c.args.m.now)) c.new-keeper.ensures.rules
    ∙ by_set (record { alloc = c.args.alloc; form = c.args.form; file = c.args.file; roots = c.in_ok-roots.roots }) c.args.m.now c.in_ok-roots.ensures)
    (items_answer c.new-keeper.result.rules c.args.m.now c.new-earlier.result c.imports.new.earlier c.as_slice.result.now c.as_slice-2.result.now c.items.result
    c.new-earlier.ensures c.as_slice.ensures c.as_slice-2.ensures c.in_ok-imports.ensures.earlier c.in_ok-imports.ensures.rules c.items.ensures)
