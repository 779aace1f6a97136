use Rattle.std.specs.BTreeMap.{get_by_text}
use Rattle.std.specs.Option.{option_copied}
use Rattle.std.proofs.Common.{ap, sym, ◌∙◌}
use Rattle.qk_whole.specs.Numbers.{numbered}
use Rattle.qk_whole.proofs.Looking.{some_by, none_by, always_none, plain_some, plain_has, plain_none, plain_absent}
use Rattle.qk_whole.proofs.whole.WholeCode.by_number.Goals as goal

pub returns-in_err-there-clause-none : goal.returns-in_err-there-clause-none
returns-in_err-there-clause-none c =
    let self = c.args.self.now in
    let absent = ap (get_by_text self.files) (sym c.as_str.ensures) ∙ sym c.get.ensures.value ∙ ap option_copied c.in_err-there.was in
    always_none c.from_residual.result (plain_absent self.modules.list self.files self.right c.args.file.now c.args.number absent)

pub returns-clause-some : goal.returns-clause-some
returns-clause-some c =
    let self = c.args.self.now in
    let found = ap (get_by_text self.files) (sym c.as_str.ensures) ∙ sym c.get.ensures.value ∙ ap option_copied c.in_ok-there.was in
    some_by c.numbered.result (numbered c.in_ok-there.there.now.functions.plains c.args.number) c.numbered.ensures (plain_some self.modules.list self.files self.right c.args.file.now c.args.number c.in_ok-there.there.now found)

pub returns-clause-has : goal.returns-clause-has
returns-clause-has c =
    let self = c.args.self.now in
    let found = ap (get_by_text self.files) (sym c.as_str.ensures) ∙ sym c.get.ensures.value ∙ ap option_copied c.in_ok-there.was in
    some_by c.numbered.result (numbered c.in_ok-there.there.now.functions.plains c.args.number) c.numbered.ensures (plain_has self.modules.list self.files self.right c.args.file.now c.args.number c.in_ok-there.there.now found)

pub returns-clause-none : goal.returns-clause-none
returns-clause-none c =
    let self = c.args.self.now in
    let found = ap (get_by_text self.files) (sym c.as_str.ensures) ∙ sym c.get.ensures.value ∙ ap option_copied c.in_ok-there.was in
    none_by c.numbered.result (numbered c.in_ok-there.there.now.functions.plains c.args.number) c.numbered.ensures (plain_none self.modules.list self.files self.right c.args.file.now c.args.number c.in_ok-there.there.now found)
