use Rattle.std.proofs.Common.{rules, ap, ◌∙◌}
use Rattle.qk_ast.specs.Placing.{kind_of_value}
use Rattle.qk_rules.proofs.Data.{kind_of_post}
use Rattle.qk_rules.proofs.items.kind_of_value.Goals as goal

pub returns-in-Post : goal.returns-in-Post
returns-in-Post c = rw (ap kind_of_value c.in-Post.is ∙ kind_of_post c.in-Post.head c.in-Post.links) (search rules)
