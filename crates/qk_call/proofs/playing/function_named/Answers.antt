use Rattle.std.proofs.Common.{◌≡◌}
use Rattle.std.proofs.lemmas.Result.{IfOk-weaker}
use Rattle.qk_ast.specs.Texts.{Text}
use Rattle.qk_meaning.specs.Program.{Program}
use Rattle.qk_meaning.specs.References.{root_reference, Of}
use Rattle.qk_value.specs.declared.value.Value.{Fun as Function}
use Rattle.qk_value.specs.declared.value.Fun.{Fun}
use Rattle.qk_code.specs.Sources.{reading}
use Rattle.qk_code.specs.Standing.{Means}
use Rattle.qk_eval.specs.Seeing.{value_seen}
use Rattle.qk_call.specs.Playing.{IsNamed}
use Rattle.qk_call.proofs.playing.function_named.Goals as goal

pub returns-clause-named : goal.returns-clause-named
returns-clause-named g c =
    IfOk-weaker c.function_of.result
    (λ (f : Fun). (p : Program) (file name : Text) → Means p file name c.in_ok-root.root → root_reference (p.root file name) ≡ Of (value_seen p (Function f)))
    (IsNamed g.C.Code.form (g.C.Code.sources c.root_named.new.code) c.args.file.now c.args.name.now)
    (λ f gives later more. gives (reading g.C.Code.form later) c.args.file.now c.args.name.now (c.in_ok-root.ensures.means later more))
    c.function_of.ensures
