use Rattle.std.proofs.Common.{◌∙◌, ap}
use Rattle.std.specs.Option.{option_copied}
use Rattle.qk_ast.specs.Mentions.{name_in}
use Rattle.qk_rules.specs.Standings.{called_of, called_by}
use Rattle.qk_rules.proofs.Rows.{hook_told}
use Rattle.qk_rules.proofs.hooks.is_hook_call.Goals as goal

pub returns-in-Post : goal.returns-in-Post
returns-in-Post c = hook_told c.args.x.now c.in-Post.head c.in-Post.links (option_copied c.name_in.result) (called_of c.call_by.result) c.is_hook.result c.in-Post.is
    c.is_hook.ensures (c.name_in.ensures ∙ ap name_in c.get.ensures) (c.call_by.ensures ∙ ap called_by c.as_slice.ensures)
