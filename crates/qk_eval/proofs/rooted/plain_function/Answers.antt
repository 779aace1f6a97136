use Rattle.std.proofs.Common.{false, ◌∙◌, ap, refl}
use Rattle.qk_ast.specs.declared.Arrow.{Arrow}
use Rattle.qk_captures.specs.declared.Captured.{Captured}
use Rattle.qk_value.specs.declared.value.FunCode.{FunCode}
use Rattle.qk_code.specs.Standing.{known_at}
use Rattle.qk_eval.proofs.Plain_steps.{plain_is}
use Rattle.qk_eval.proofs.rooted.plain_function.Goals as goal

pub returns : goal.returns
returns c = λ p file name h.
    let number = ap (λ (k : Captured). k.site.number) c.known_at.ensures ∙ ap (λ (a : Arrow). (known_at c.args.func.now a.place).site.number) c.get.ensures in
    plain_is p file name c.args.func.now h (record { code = FunCode.Plain c.in_ok-share.field-0 c.known_at.result.now.site.number; captures = c.in_ok-captures.captures; hidden = false })
    (λ i. FunCode.Plain (c.in_ok-share.ensures i) (number i)) (c.in_ok-captures.ensures ∙ c.new.ensures) refl
