use Rattle.std.specs.BTreeMap.{get_by_text}
use Rattle.std.specs.Option.{option_copied}
use Rattle.std.specs.Prelude.{Some, None}
use Rattle.std.proofs.Common.{ap, sym, ◌∙◌, refl}
use Rattle.qk_ast.specs.declared.Origin.{Origin}
use Rattle.qk_ast.specs.declared.Origin.TheVariants.{Module}
use Rattle.qk_whole.proofs.Looking.{always_none, name_absent, name_some, name_none, name_framework}
use Rattle.qk_whole.proofs.whole.WholeCode.by_name.Goals as goal

pub returns-in_err-there-clause-none : goal.returns-in_err-there-clause-none
returns-in_err-there-clause-none c =
    let self = c.args.self.now in
    let absent = ap (get_by_text self.files) (sym c.as_str.ensures) ∙ sym c.get.ensures.value ∙ ap option_copied c.in_err-there.was in
    always_none c.from_residual.result (name_absent self.modules.list self.files self.right c.args.file.now c.args.name.now absent)

pub returns-in-None-clause-some : goal.returns-in-None-clause-some
returns-in-None-clause-some c =
    let self = c.args.self.now in
    let there = c.in_ok-there.there.now in
    let found = ap (get_by_text self.files) (sym c.as_str.ensures) ∙ sym c.get.ensures.value ∙ ap option_copied c.in_ok-there.was in
    let origin = ap (get_by_text there.origins) (sym c.as_str-2.ensures) ∙ sym c.get-2.ensures.value ∙ ap option_copied c.in-None.is in
    name_some self.modules.list self.files self.right c.args.file.now c.args.name.now there found None origin c.args.file.now c.args.name.now (λ modules. refl) c.item.result c.item.ensures

pub returns-in-None-clause-none : goal.returns-in-None-clause-none
returns-in-None-clause-none c =
    let self = c.args.self.now in
    let there = c.in_ok-there.there.now in
    let found = ap (get_by_text self.files) (sym c.as_str.ensures) ∙ sym c.get.ensures.value ∙ ap option_copied c.in_ok-there.was in
    let origin = ap (get_by_text there.origins) (sym c.as_str-2.ensures) ∙ sym c.get-2.ensures.value ∙ ap option_copied c.in-None.is in
    name_none self.modules.list self.files self.right c.args.file.now c.args.name.now there found None origin c.args.file.now c.args.name.now (λ modules. refl) c.item.result c.item.ensures

pub returns-in-Some-Module-clause-some : goal.returns-in-Some-Module-clause-some
returns-in-Some-Module-clause-some c =
    let self = c.args.self.now in
    let there = c.in_ok-there.there.now in
    let x = c.in-Some-Module in
    let found = ap (get_by_text self.files) (sym c.as_str.ensures) ∙ sym c.get.ensures.value ∙ ap option_copied c.in_ok-there.was in
    let is = x.field-0-is in
    let origin = ap (get_by_text there.origins) (sym c.as_str-2.ensures) ∙ sym c.get-2.ensures.value ∙ ap option_copied x.is ∙ ap (λ (o : Origin). Some o) is in
    name_some self.modules.list self.files self.right c.args.file.now c.args.name.now there found (Some (Module x.module x.own)) origin x.module x.own (λ modules. refl) c.item-in-Some-Module.result c.item-in-Some-Module.ensures

pub returns-in-Some-Module-clause-none : goal.returns-in-Some-Module-clause-none
returns-in-Some-Module-clause-none c =
    let self = c.args.self.now in
    let there = c.in_ok-there.there.now in
    let x = c.in-Some-Module in
    let found = ap (get_by_text self.files) (sym c.as_str.ensures) ∙ sym c.get.ensures.value ∙ ap option_copied c.in_ok-there.was in
    let is = x.field-0-is in
    let origin = ap (get_by_text there.origins) (sym c.as_str-2.ensures) ∙ sym c.get-2.ensures.value ∙ ap option_copied x.is ∙ ap (λ (o : Origin). Some o) is in
    name_none self.modules.list self.files self.right c.args.file.now c.args.name.now there found (Some (Module x.module x.own)) origin x.module x.own (λ modules. refl) c.item-in-Some-Module.result c.item-in-Some-Module.ensures

pub returns-in-Some-Qwik-clause-none : goal.returns-in-Some-Qwik-clause-none
returns-in-Some-Qwik-clause-none c =
    let self = c.args.self.now in
    let there = c.in_ok-there.there.now in
    let x = c.in-Some-Qwik in
    let found = ap (get_by_text self.files) (sym c.as_str.ensures) ∙ sym c.get.ensures.value ∙ ap option_copied c.in_ok-there.was in
    let is = x.field-0-is in
    let origin = ap (get_by_text there.origins) (sym c.as_str-2.ensures) ∙ sym c.get-2.ensures.value ∙ ap option_copied x.is ∙ ap (λ (o : Origin). Some o) is in
    name_framework self.modules.list self.files self.right c.args.file.now c.args.name.now there found x.field-0-0 origin
