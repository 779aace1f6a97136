use Rattle.std.proofs.Common.{rules}
use Rattle.qk_scope.proofs.Resolved.{refuses, wants, resolved}
use Rattle.qk_scope.proofs.resolver.resolve.Goals as goal

pub returns-in_err-keeps_names : goal.returns-in_err-keeps_names
returns-in_err-keeps_names c = refuses c.args.form c.args.file.now c.args.m.now _ c.in_err-keeps_names.field-0.0 (search rules) c.in_err-keeps_names.ensures

pub returns-in_err-captures : goal.returns-in_err-captures
returns-in_err-captures c = wants c.args.form c.args.file.now c.args.m.now _ (search rules)

pub returns : goal.returns
returns c = resolved c.args.form c.args.file.now c.args.m.now _ c.in_ok-captures.ensures c.in_ok-keeps_names.ensures
