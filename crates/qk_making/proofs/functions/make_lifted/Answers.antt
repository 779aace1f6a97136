use Rattle.std.specs.Prelude.{map, false}
use Rattle.std.proofs.Common.{ap, refl}
use Rattle.qk_meaning.specs.Value as M
use Rattle.qk_meaning.specs.Setting.{captures}
use Rattle.qk_meaning.specs.Parts.{packed}
use Rattle.qk_meaning.specs.Making as making
use Rattle.qk_value.specs.declared.value.FunCode.{FunCode}
use Rattle.qk_making.specs.Acting.{seen_in}
use Rattle.qk_making.proofs.Capturing.{lifted_seen}
use Rattle.qk_making.proofs.Making.{so_meant}
use Rattle.qk_making.proofs.functions.make_lifted.Goals as goal

pub returns : goal.returns
returns c = λ here. so_meant
    (seen_in here) _ (making.made here (M.Lifted c.args.symbol.now (packed (map (seen_in here) c.args.captured)) false)) c.fixed.result
    (ap (making.made here) (lifted_seen (captures here) c.args.symbol.now c.args.captured (record { code = FunCode.Symbol c.in_ok-share.field-0; captures = c.in_ok-captures.captures; hidden = false }) (ap FunCode.Symbol c.in_ok-share.ensures) c.in_ok-captures.ensures refl))
    (c.fixed.ensures here)
