use Rattle.std.proofs.Common.{rules, sym, ◌∙◌}
use Rattle.qk_top.proofs.Commands.{two_items, replays}
use Rattle.qk_top.proofs.words.script_word.Goals as goal

pub returns-then-may_name_script-clause-some : goal.returns-then-may_name_script-clause-some
returns-then-may_name_script-clause-some c =
    replays _ _ _ _ _ (two_items _ _ _ c.in-len2.len_at_least c.in-len2.len_below c.command-item.is c.script-item.is)
    c.as_str-command.ensures.value c.as_str-script.ensures.value (search rules) (sym c.may_name_script.ensures ∙ c.if-may_name_script.true)
