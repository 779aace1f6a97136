use Rattle.std.proofs.Common.{arith, subst, IsTrue}
use Rattle.std.specs.List.{list_all}
use Rattle.std.proofs.lemmas.Grind.{common_steps}
use Rattle.std.proofs.lemmas.Result.{IfOk-weaker}
use Rattle.qk_ast.specs.Framework.{is_module_name}
use Rattle.qk_ast.specs.Texts.{Text}
use Rattle.qk_modules.specs.declared.modules.NamedModule.{NamedModule}
use Rattle.qk_application.specs.declared.application.Application.{Application}
use Rattle.qk_call.specs.Alone.{IsOfText, IsAlone, is_of_framework}
use Rattle.qk_call.proofs.alone.application.Goals as goal

pub returns : goal.returns
returns c =
    let here : Text → NamedModule = λ name. record { name = name; «module» = c.in_ok-module.module } in
    let named : IsTrue (is_module_name c.args.name.now) = grind (arith, common_steps) in
    let imports : IsTrue (list_all is_of_framework c.in_ok-module.module.imports) = grind (arith, common_steps) in
    IfOk-weaker c.alone.result (IsAlone (here c.in_ok-name.name)) (IsOfText c.args.source.now c.args.name.now)
    (λ (a : Application) alone. record {
      tree = c.in_ok-module.module;
      derives = c.in_ok-module.ensures;
      named = named;
      imports = imports;
      alone = subst (λ (name : Text). IsAlone (here name) a) c.in_ok-name.ensures alone;
    })
    c.alone.ensures
