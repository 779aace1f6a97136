use Rattle.std.specs.Option.{option_copied}
use Rattle.std.proofs.Common.{ap, sym, ◌∙◌}
use Rattle.qk_sites.specs.Symbols.{IsSymbolOf}
use Rattle.std.proofs.Common.{subst}
use Rattle.qk_whole.specs.Numbers.{numbered}
use Rattle.qk_whole.proofs.Looking.{some_by, none_by, always_none, symbol_some, symbol_none, symbol_absent}
use Rattle.qk_whole.proofs.whole.WholeCode.by_symbol.Goals as goal

pub returns-in_err-there-clause-none : goal.returns-in_err-there-clause-none
returns-in_err-there-clause-none c =
    let self = c.args.self.now in
    let spelled = subst (IsSymbolOf c.in_ok-file.file.now c.in_ok-file.number) c.as_str.ensures c.in_ok-file.ensures.some in
    let absent = sym c.get.ensures.value ∙ ap option_copied c.in_err-there.was in
    always_none c.from_residual-in_err-there.result (symbol_absent self.modules.list self.files self.right c.args.symbol.now c.in_ok-file.file.now c.in_ok-file.number spelled absent)

pub returns-clause-some : goal.returns-clause-some
returns-clause-some c =
    let self = c.args.self.now in
    let spelled = subst (IsSymbolOf c.in_ok-file.file.now c.in_ok-file.number) c.as_str.ensures c.in_ok-file.ensures.some in
    let found = sym c.get.ensures.value ∙ ap option_copied c.in_ok-there.was in
    some_by c.numbered.result (numbered c.in_ok-there.there.now.functions.dollars c.in_ok-file.number) c.numbered.ensures
    (symbol_some self.modules.list self.files self.right c.args.symbol.now c.in_ok-file.file.now c.in_ok-file.number spelled c.in_ok-there.there.now found)

pub returns-clause-none : goal.returns-clause-none
returns-clause-none c =
    let self = c.args.self.now in
    let spelled = subst (IsSymbolOf c.in_ok-file.file.now c.in_ok-file.number) c.as_str.ensures c.in_ok-file.ensures.some in
    let found = sym c.get.ensures.value ∙ ap option_copied c.in_ok-there.was in
    none_by c.numbered.result (numbered c.in_ok-there.there.now.functions.dollars c.in_ok-file.number) c.numbered.ensures
    (symbol_none self.modules.list self.files self.right c.args.symbol.now c.in_ok-file.file.now c.in_ok-file.number spelled c.in_ok-there.there.now found)
