use Rattle.std.proofs.Common.{◌∙◌}
use Rattle.qk_rules.proofs.Event_sets.{dollar_told}
use Rattle.qk_rules.proofs.tags.letters_and_dollar.Goals as goal

pub returns-in-Some : goal.returns-in-Some
returns-in-Some c = c.are_letters_before.ensures ∙ dollar_told c.args.bytes.now c.in-Some.letters.now c.in-Some.last.now c.in-Some.ensures.cases.0
