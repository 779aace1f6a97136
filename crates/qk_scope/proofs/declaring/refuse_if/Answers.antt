use Rattle.std.proofs.Common.{[], refl}
use Rattle.qk_ast.specs.declared.ScopeKind.TheVariants.{DuplicateName}
use Rattle.qk_scope.specs.Answering.{Answers}
use Rattle.qk_scope.proofs.Answered.{blamed}
use Rattle.qk_scope.proofs.declaring.refuse_if.Goals as goal

pub returns-then-is_refused : goal.returns-then-is_refused
unfolding Answers
returns-then-is_refused c = rw c.if-is_refused.true (blamed DuplicateName c.args.name.now [] c.refusal.result c.refusal.ensures)

pub returns : goal.returns
unfolding Answers
returns c = rw c.if-is_refused.false refl
