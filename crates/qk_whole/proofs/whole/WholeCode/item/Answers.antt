use Rattle.std.specs.BTreeMap.{get_by_text}
use Rattle.std.specs.Option.{option_copied}
use Rattle.std.specs.Prelude.{Option}
use Rattle.std.specs.Borrow.{Bor}
use Rattle.std.proofs.Common.{ap, sym, ◌∙◌}
use Rattle.std.proofs.Common.{subst}
use Rattle.qk_code.specs.declared.func.Root.{Root}
use Rattle.qk_whole.specs.Holding.{Holds_item}
use Rattle.qk_whole.proofs.Looking.{item_there, item_absent}
use Rattle.qk_whole.proofs.whole.WholeCode.item.Goals as goal

pub returns-in_err-there : goal.returns-in_err-there
returns-in_err-there c =
    let self = c.args.self.now in
    let absent = ap (get_by_text self.files) (sym c.as_str.ensures) ∙ sym c.get.ensures.value ∙ ap option_copied c.in_err-there.was in
    subst (λ (o : Option (Bor Root)). Holds_item self.modules.list c.args.file.now c.args.name.now (option_copied o)) (sym c.from_residual.ensures) (item_absent self.modules.list self.files self.right c.args.file.now c.args.name.now absent)

pub returns : goal.returns
returns c =
    let self = c.args.self.now in
    let there = c.in_ok-there.there.now in
    let found = ap (get_by_text self.files) (sym c.as_str.ensures) ∙ sym c.get.ensures.value ∙ ap option_copied c.in_ok-there.was in
    item_there self.modules.list self.files self.right c.args.file.now c.args.name.now there found (option_copied c.get-2.result) (ap (get_by_text there.roots) (sym c.as_str-2.ensures) ∙ sym c.get-2.ensures.value)
