use Rattle.std.specs.Prelude.{string_bytes}
use Rattle.std.proofs.Common.{sym, ◌∙◌, subst}
use Rattle.qk_value.specs.View.{seen}
use Rattle.qk_ops.specs.Appending.{Appended}
use Rattle.qk_acts.proofs.Joining.{plain_text}
use Rattle.qk_acts.proofs.lists.append_item.Goals as goal

pub returns : goal.returns
returns c = λ names.
    subst (λ answer. Appended answer (string_bytes c.args.to.now) (string_bytes c.append_text.new.to) c.append_text.result) (sym (plain_text (seen names c.args.item.now) (sym (c.is_nullish.ensures names) ∙ c.if-is_nullish.false)))
    (c.append_text.ensures names)
